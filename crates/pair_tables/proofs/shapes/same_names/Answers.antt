-- `pair_tables::shapes::same_names` meets its contract, by the variant of the second.
-- Assumes nothing.
use borrow.Author.Rules.{rules}
use Rattle.pair_tables.specs.Laws.Shapes.{span_same}
use Rattle.pair_tables.proofs.shapes.same_names.Goals as goal

pub returns-in-Span : goal.returns-in-Span
returns-in-Span c = search (rules, span_same)
