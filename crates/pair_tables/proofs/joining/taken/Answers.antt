-- `pair_tables::joining::taken` meets its contract, by the variant.
-- Assumes nothing.
use borrow.Author.Rules.{rules}
use Rattle.pair_tables.specs.Laws.Joins.{taken_own, taken_clashing}
use Rattle.pair_tables.proofs.joining.taken.Goals as goal

pub returns-in-Own : goal.returns-in-Own
returns-in-Own c = search (rules, taken_own)

pub returns-in-Clashing : goal.returns-in-Clashing
returns-in-Clashing c = search (rules, taken_clashing)
