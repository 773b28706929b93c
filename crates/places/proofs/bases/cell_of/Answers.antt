-- `places::bases::cell_of` meets its contract: by the form of the bits.
-- Assumes nothing.
use borrow.Author.Rules.{rules}
use Rattle.places.specs.Laws.Bases.{cell_all, cell_unnamed, cell_some}
use Rattle.places.proofs.bases.cell_of.Goals as goal

pub returns-in-Missing : goal.returns-in-Missing
returns-in-Missing c = cell_all (search rules) c.own_count.ensures c.pack.ensures

pub returns-in-Unnamed : goal.returns-in-Unnamed
returns-in-Unnamed c = search (rules, cell_unnamed)

pub returns-in-Span : goal.returns-in-Span
returns-in-Span c = cell_some (search rules) c.low_bit.ensures c.how_many.ensures.1 c.pack-in-Span.ensures
