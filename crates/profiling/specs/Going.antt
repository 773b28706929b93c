-- Where a walk begins, and what it tells.
use Rattle.std.specs.Prelude.{ℕ, ◌+◌, ◌*◌, ◌<◌, ◌≤◌, ◌≡◌, List, length}
use Rattle.cells.specs.Cells.{cell}
use Rattle.rules.specs.Grammar.Trees.{Tokens}
use Rattle.rules.specs.Limits.{most_tokens}
use Rattle.paths.specs.Cited.Least.{least}
use Rattle.records.specs.Words.{NameAt, word_at}
use Rattle.nesting.specs.Machine.{State, outset}
use Rattle.nesting.specs.Holding.{unseen, Book, book, Shows}
use Rattle.room.specs.Profile.{room_size}
use Rattle.profiling.specs.Walking.{Scene, Finds}
use Rattle.nesting.specs.declared.nests.Nest.{Nest}
use Rattle.profiling.specs.declared.tasks.Task.{Task}
use Rattle.profiling.specs.declared.walks.Found.{Found}

-- the first k cells are 0
pub record Cleared (old new : List ℕ) (k : ℕ) : Type 0 where
  pub size : length new ≡ length old
  pub clear : (j : ℕ) → j < k → cell 2 new j ≡ 0

pub record Beginning (records decls table room : List ℕ) (t : Task) (name from : ℕ) : Type 0 where
  pub scene : Scene records decls table t
  pub behind : name < from
  pub few : name < most_tokens
  pub record_room : 8 * name + 8 ≤ length records
  pub from_few : from ≤ most_tokens
  pub is_name : (g : Scene records decls table t) → NameAt g.written.tokens name
  pub space : room_size ≤ length room

abbrev pub Begins : List ℕ → List ℕ → ℕ → Nest → Type 0
Begins records room name r = (ts : Tokens) (i : ℕ) → NameAt ts name → name < i → i ≤ most_tokens → Shows (book records ts) room i r (outset (word_at ts name))

abbrev pub Tells : List ℕ → Nest → Found → Type 0
Tells room s r = (ts : Book) (i : ℕ) (z : State) → Shows ts room i s z → (r.ends ≡ z.marks.flags 1) × (r.low ≡ least unseen z.marks.places)

-- what the walk of a body comes to
pub record Walked (records decls table : List ℕ) (t : Task) (name from : ℕ) (r : Found) : Type 0 where
  pub fits : r.low < 65536
  pub finds : (g : Scene records decls table t) → Finds g name from r
