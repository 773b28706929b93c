-- `profiling::rounds::rounds` meets its contract.
use borrow.Author.Rules.{rules}
use native.Mathlib.Omega.{arith}
use Rattle.profiling.specs.Laws.Levels.{turned_none, to_round, to_round_back, turned_more, all_turned}
use Rattle.profiling.proofs.rounds.rounds.Goals as goal

pub loop-k-init : goal.loop-k-init
loop-k-init c = search (rules, turned_none)

pub round-requires : goal.round-requires
round-requires c = to_round c.loop-k.invariant

pub round-requires-in-loop-k : goal.round-requires-in-loop-k
round-requires-in-loop-k c = to_round_back c.loop-k.invariant c.round.ensures (omega (arith, c.round.auto.next)) (omega (arith, c.round.auto.room))

pub loop-k-preserved : goal.loop-k-preserved
loop-k-preserved c = turned_more c.loop-k.invariant c.round.ensures (omega (arith, c.round.auto.next)) (omega arith) (omega arith) c.round-in-loop-k.ensures (omega (arith, c.round-in-loop-k.auto.next)) (omega (arith, c.round-in-loop-k.auto.room, c.round.auto.room))

pub returns : goal.returns
returns c = all_turned c.loop-k.invariant (omega arith)
