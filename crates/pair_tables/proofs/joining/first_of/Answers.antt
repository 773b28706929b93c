-- `pair_tables::joining::first_of` meets its contract, by the variant.
-- Assumes nothing.
use borrow.Author.Rules.{rules}
use Rattle.pair_tables.specs.Laws.Joins.{reached, first_shared}
use Rattle.pair_tables.proofs.joining.first_of.Goals as goal

pub get16-requires : goal.get16-requires
get16-requires c = search (rules, reached)

pub returns-in-Shared : goal.returns-in-Shared
returns-in-Shared c = search (rules, first_shared)
