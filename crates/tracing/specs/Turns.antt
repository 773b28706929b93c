-- One turn of the run: a step, whose stores and whose way are told. The carriers are the first bytes of the memory, and the cells of tokens stand in it from `cells_at` on.
use Rattle.std.specs.Prelude.{ℕ, ◌+◌, ◌*◌, ◌<◌, ◌≤◌, ◌≡◌, List, length, get_or, take, drop, Result, Ok, Err}
use Rattle.rules.specs.Declarations.{total_words}
use Rattle.rules.specs.Entries.{entries_in}
use Rattle.laws_orders.specs.Cited.Flat.{pc, put}
use Rattle.operands.specs.Scene.{carrier_words, words_of}
use Rattle.stepping.specs.Steps.{StepAt}
use Rattle.runner.specs.Runs.{stack_of}
use Rattle.telling.specs.Cited.Passing.{Grouping}
use Rattle.telling.specs.Cited.Tracing.{next_t, groups_of, Stepped, step_t}
use Rattle.matching.specs.Matching.{told_all}
use Rattle.matching.specs.Room.{matching_in, Sound, Stands}
use Rattle.room.specs.Trace.{most_groups}
use Rattle.passing.specs.Ways.{grouping_in}
use Rattle.passing.specs.Depth.{depth_after}
use Rattle.runner.specs.declared.turns.Turned.{Turned}
use Rattle.stepping.specs.declared.steps.Fault.{Fault}
use Rattle.turning.specs.Ways.{Linked}
use Rattle.runner.specs.Turns.{turned_to}

abbrev pub cells_at : ℕ
cells_at = 32768

-- the members of groups, by those cells
abbrev pub grouping_at : List ℕ → ℕ → Grouping
grouping_at memory n = grouping_in (drop cells_at memory) n

-- an instruction of an accepted text, with the activations that go on: wherever its step leads, there is room for the groups that are open there
pub record TurnAt (records values decls memory room entries stack : List ℕ) (depth n size now : ℕ) : Type 0 where
  pub step : StepAt records values decls (take size memory) now
  pub small : size ≤ cells_at
  pub long : cells_at + 4 * n ≤ length memory
  pub high : depth < length stack
  pub linked : (d : ℕ) → d < depth → Linked records step.code (get_or stack d 0)
  pub sound : Sound (entries_in entries) room
  pub few : (x n' : ℕ) (κ' : List ℕ) → (next_t step.code (grouping_at memory n) now (step.code.instr now) (stack_of stack depth) x).control ≡ pc n' κ'
      → depth_after (next_t step.code (grouping_at memory n) now (step.code.instr now) (stack_of stack depth) x).passed (length (matching_in (entries_in entries) room).groups)
      ≤ most_groups

-- "A faulting step .. changes nothing."
abbrev pub Keeps : Result Turned Fault → List ℕ → List ℕ → Type 0
Keeps (Ok t) before after = Unit {0}
Keeps (Err f) before after = after ≡ before

module _ {records values decls memory room entries stack : List ℕ} {depth n size now : ℕ} (v : TurnAt records values decls memory room entries stack depth n size now) where
  -- the step of the tracing machine
  abbrev pub stepped : Stepped
  stepped = step_t v.step.scene.table v.step.code (grouping_at memory n) now (stack_of stack depth) (words_of v.step.scene)

  pub record TurnTold (memory' room' stack' : List ℕ) (r : Result Turned Fault) : Type 0 where
    pub machine : stepped.machine
        ≡ put (words_of v.step.scene) (carrier_words (total_words v.step.scene.table) (take size memory')) (turned_to r stack')
    pub tells : Stands (entries_in entries) room' (told_all (groups_of stepped.reports) (matching_in (entries_in entries) room))
    pub cells : drop cells_at memory' ≡ drop cells_at memory
    pub kept : Keeps r (take size memory) (take size memory')
