-- `pair_tables::joining::key_with` meets its contract, by the variant.
-- Assumes nothing.
use borrow.Author.Rules.{rules}
use Rattle.pair_tables.specs.Laws.Joins.{key_clashing}
use Rattle.pair_tables.proofs.joining.key_with.Goals as goal

pub returns-in-Clashing : goal.returns-in-Clashing
returns-in-Clashing c = search (rules, key_clashing)
