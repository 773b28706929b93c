-- `pair_tables::joining::join_behind` meets its contract: the first k declarations of the second text are joined.
-- Assumes nothing.
use Rattle.pair_tables.specs.Joining.{Joining}
use Rattle.pair_tables.proofs.joining.join_behind.Given as goal

abbrev pub invariant-loop-k : goal.invariant-loop-k
invariant-loop-k l = Joining l.text0 l.records0 l.values0 l.decls0 l.m0 l.text1 l.records1 l.values1 l.decls1 l.m1 l.initial.firsts l.firsts l.key l.free l.k
