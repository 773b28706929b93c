-- What is told on the way between two instructions, by numbers alone: of the members that will be entered only their count matters.
use Rattle.std.specs.Prelude.{ℕ, zero, suc, Bool, true, false, List, ◌∷◌, eqb}
use Rattle.traces.specs.Cited.Events.{Event, opens, turns, closes}
use Rattle.telling.specs.Cited.Passing.{times}
use Rattle.telling.specs.Cited.Cells.{Cells, cell_grouping}

-- one step of the way up, as `meeting` has it, where k members will be entered
abbrev pub meeting_told : Bool → ℕ → ℕ → List Event → List Event
meeting_told true j k more = times k opens
meeting_told false zero k more = closes ∷ more
meeting_told false (suc j) k more = turns ∷ times k opens

module _ (K : Cells) where
  -- the member that is so many members above x
  unfoldable pub up_by : ℕ → ℕ → ℕ
  up_by zero x = x
  up_by (suc k) x = up_by k (K.up x)

  -- the way up from a member x and a member y, with d members each from there
  unfoldable pub meet_told : ℕ → ℕ → ℕ → ℕ → List Event
  meet_told zero x y k = times k opens
  meet_told (suc d) x y k = meeting_told (eqb x y) ((cell_grouping K).before y) k (meet_told d (K.up x) (K.up y) (suc k))
