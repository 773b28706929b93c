-- The tables of a stage as expressions, selectors and stacks of names see them.
use Rattle.std.specs.Prelude.{ℕ, ◌*◌, ◌≤◌, List, length}
use Rattle.records.specs.Words.{NameAt}
use Rattle.stacks.specs.Stacks.{Stacked, NameView}
use Rattle.room.specs.Bodies.{index_end}
use Rattle.patterns.specs.Stands.{Held}
use Rattle.accesses.specs.Scene.{Scene}
use Rattle.plain.specs.Stage.{Stage}

module _ {text records values decls : List ℕ} (s : Stage text records values decls) where
  -- as the expressions see it, and as the selectors do
  abbrev pub scene_of : Scene records values decls
  scene_of = record { text = text; tokens = s.tokens; description = s.description; count = s.declared; ready = s.ready }

  abbrev pub held_of : Held records values s.tokens
  held_of = record { text = text; holds = s.ready.holds; fixed = s.fixed }

  -- a name under those that are stacked
  abbrev pub name_view : {room : List ℕ} {count i : ℕ} → Stacked records s.tokens room count → NameAt s.tokens i → 2 * index_end ≤ length room
      → NameView records room count i
  name_view stacked name large = record {
    tokens = s.tokens;
    few = s.ready.holds.few;
    record_room = s.ready.holds.record_room;
    spelled = s.spelled;
    stacked = stacked;
    name = name;
    large = large;
  }
