-- `sharing::first_conflict` meets its contract.
use Rattle.sharing.specs.Laws.Shared.{Sharing}
use Rattle.sharing.proofs.first_conflict.Given as goal

abbrev pub invariant-loop-k : goal.invariant-loop-k
invariant-loop-k l = Sharing l.u.reads.w l.u.writes.w l.t.reads.w l.t.writes.w l.m l.k
