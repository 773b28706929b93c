-- `stepping::choice::choose` meets its contract: the alternatives are asked in turn.
-- Assumes nothing.
use Prim.Native.Nat.{◌-◌, ◌≤◌}
use lib.ListN.{length}
use Rattle.laws_orders.specs.Cited.Flat.{find}
use Rattle.stepping.specs.Choice.{ChoiceView, place_of}
use Rattle.stepping.specs.Laws.Choice.{Left}
use Rattle.stepping.proofs.choice.choose.Given as goal

abbrev pub invariant-loop-p : goal.invariant-loop-p
invariant-loop-p l = (l.number ≤ l.at) × ((v : ChoiceView l.records l.values l.p 0) → Left l.records l.values l.x (place_of (find v.entries l.x)) l.at l.number)

abbrev pub decreases-loop-p : goal.decreases-loop-p
decreases-loop-p l = length l.records - l.at
