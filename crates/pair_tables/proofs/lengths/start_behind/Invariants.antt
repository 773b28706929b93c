-- `pair_tables::lengths::start_behind` meets its contract: no own word of the first k declarations is long.
-- Assumes nothing.
use Rattle.pair_tables.specs.Lengths.{Judging}
use Rattle.pair_tables.proofs.lengths.start_behind.Given as goal

abbrev pub invariant-loop-k : goal.invariant-loop-k
invariant-loop-k l = Judging l.records1 l.values1 l.decls1 l.m1 l.firsts l.words0 l.carriers l.free l.k
