-- `classes::classes::run_end` meets its contract: what is passed and the run of the rest come to the whole run.
-- Assumes nothing.
use borrow.Author.Rules.{rules}
use native.Mathlib.Omega.{arith}
use mathlib.Core.Path.{◌≡◌, ap}
use mathlib.Core.Bool.{Bool, true, false}
use mathlib.Core.List.{List}
use Prim.Native.Nat.{ℕ, ◌+◌, ◌<◌, ◌≤◌}
use lib.ListN.{length, get_or}
use Rattle.classes.specs.Classes.{among, RunEnds}
use Rattle.classes.specs.Laws.Runs.{run_step, run_stop, run_over}
use Rattle.classes.proofs.classes.run_end.Invariants.{Inv}
use Rattle.classes.proofs.classes.run_end.Goals as goal

module _ {text : List ℕ} {from set i : ℕ} (inv : Inv text from set i) where
  stopped : {r : Bool} → i < length text → r ≡ among set (get_or text i 0) → r ≡ false → RunEnds set text from i
  stopped h e f = record {
    ends = omega (arith, inv.left, ap length (run_stop (among set) text i h (cc)));
    within = inv.within;
  }

  passed : {r : Bool} → i < length text → r ≡ among set (get_or text i 0) → r ≡ true → Inv text from set (i + 1)
  passed h e f = record {
    within = omega arith;
    left = omega (arith, inv.left, ap length (run_step (among set) text i h (cc)));
  }

  ended : length text ≤ i → RunEnds set text from i
  ended h = record { ends = omega (arith, inv.left, ap length (run_over (among set) text i h)); within = inv.within }

pub loop-i-preserved : goal.loop-i-preserved
loop-i-preserved c = search (rules, passed)

pub returns-then-not-goes_on : goal.returns-then-not-goes_on
returns-then-not-goes_on c = search (rules, stopped)

pub returns : goal.returns
returns c = search (rules, ended)
