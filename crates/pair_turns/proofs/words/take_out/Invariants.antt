-- `pair_turns::words::take_out` meets its contract: the first i words are taken out.
-- Assumes nothing.
use Prim.Native.Nat.{◌≤◌}
use mathlib.Core.Path.{◌≡◌}
use lib.ListN.{length}
use Rattle.pair_turns.specs.Laws.Words.{Out}
use Rattle.pair_turns.proofs.words.take_out.Given as goal

abbrev pub invariant-loop-i : goal.invariant-loop-i
invariant-loop-i l = (l.i ≤ l.n) × ((length l.own ≡ length l.initial.own) × Out l.view l.carriers l.own l.i)
