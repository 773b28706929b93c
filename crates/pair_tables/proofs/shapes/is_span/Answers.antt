-- `pair_tables::shapes::is_span` meets its contract, by the variant.
-- Assumes nothing.
use borrow.Author.Rules.{rules}
use Rattle.pair_tables.specs.Laws.Shapes.{other_left, same_left}
use Rattle.pair_tables.proofs.shapes.is_span.Goals as goal

pub returns-then-l-left : goal.returns-then-l-left
returns-then-l-left c = search (rules, other_left)

pub returns-else-l-left : goal.returns-else-l-left
returns-else-l-left c = search (rules, same_left)
