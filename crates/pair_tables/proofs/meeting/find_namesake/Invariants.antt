-- `pair_tables::meeting::find_namesake` meets its contract: none of the first k declarations is storage under the name.
-- Assumes nothing.
use Rattle.pair_tables.specs.Seeking.{Seeking}
use Rattle.pair_tables.proofs.meeting.find_namesake.Given as goal

abbrev pub invariant-loop-k : goal.invariant-loop-k
invariant-loop-k l = Seeking l.text0 l.records0 l.values0 l.decls0 l.m0 l.text1 l.records1 l.values1 l.q l.k
