-- The way that control takes behind an instruction, over the table and the cells of tokens. The stack has the instructions of the activations that go on, the
-- newest of them last.
use Rattle.std.specs.Prelude.{ℕ, zero, suc, ◌+◌, ◌*◌, ◌<◌, ◌≤◌, ◌≡◌, List, [], ◌∷◌, map, length, get_or, Result, Ok, Err}
use Rattle.rules.specs.Stores.{Entry}
use Rattle.laws_orders.specs.Cited.Flat.{Link, at, exit, Code, pc, halt, broken}
use Rattle.laws_orders.specs.Cited.Flat as flat
use Rattle.records.specs.Holds.{link_cell}
use Rattle.promise.specs.Instructions.{link_no}
use Rattle.stepping.specs.declared.steps.Moved.{Moved}
use Rattle.stepping.specs.declared.steps.Moved.TheVariants.{Go, Call, Stop}
use Rattle.stepping.specs.declared.steps.Fault.{Fault}
use Rattle.runner.specs.Runs.{stack_of}
use Rattle.runner.specs.Turns.{turned_to}
use Rattle.telling.specs.Cited.Passing.{Grouping, group_event, passage}
use Rattle.telling.specs.Cited.Tracing.{Told, told, link_of, follow}
use Rattle.matching.specs.Matching.{told_all}
use Rattle.matching.specs.Room.{matching_in, Sound, Stands}
use Rattle.room.specs.Trace.{most_groups}
use Rattle.passing.specs.Ways.{grouping_in}
use Rattle.passing.specs.Depth.{depth_after}
use Rattle.runner.specs.declared.turns.Turned.{Turned}

-- 0 leads out of the body
abbrev pub link_to : ℕ → Link
link_to zero = exit
link_to (suc k) = at (suc k)

-- the way of a step at the instruction n, with the activations κ
abbrev pub way_of : ℕ → Result Moved Fault → Code → Grouping → List ℕ → Told
way_of n (Ok (Go k)) C M κ = follow C M (M.around n) (link_to k) κ
way_of n (Ok (Call f k)) C M κ = told (pc f (n ∷ κ)) (passage M [] (M.around f))
way_of n (Ok Stop) C M κ = told halt []
way_of n (Err f) C M κ = told (broken f.number f.place) []

-- the link behind an activation stands in the table
pub record Linked (records : List ℕ) (C : Code) (m : ℕ) : Type 0 where
  pub within : 8 * m + 8 ≤ length records
  pub link : link_cell records m ≡ link_no (link_of (C.instr m))
  pub leads : (g : ℕ) → link_of (C.instr m) ≡ at g → 0 < g

-- a way that can be told: where it leads to an instruction, there is room for the groups that are open there
pub record WayAt (records cells room stack : List ℕ) (n depth : ℕ) (way : Code → Grouping → List ℕ → Told) : Type 0 where
  pub code : Code
  pub list : List Entry
  pub long : 4 * n ≤ length cells
  pub high : depth ≤ length stack
  pub linked : (d : ℕ) → d < depth → Linked records code (get_or stack d 0)
  pub sound : Sound list room
  pub few : (n' : ℕ) (κ' : List ℕ) → (way code (grouping_in cells n) (stack_of stack depth)).control ≡ pc n' κ'
      → depth_after (way code (grouping_in cells n) (stack_of stack depth)).passed (length (matching_in list room).groups) ≤ most_groups

-- control has gone that way, and all that it passed is told
pub record WayTold {records cells room stack : List ℕ} {n depth : ℕ} {way : Code → Grouping → List ℕ → Told}
    (v : WayAt records cells room stack n depth way) (stack' room' : List ℕ) (r : Result Turned Fault) : Type 0 where
  pub control : turned_to r stack' ≡ (way v.code (grouping_in cells n) (stack_of stack depth)).control
  pub tells : Stands v.list room'
      (told_all (map group_event (way v.code (grouping_in cells n) (stack_of stack depth)).passed) (matching_in v.list room))
