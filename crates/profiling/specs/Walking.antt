-- What a walk over the tokens of a body starts from, and what it comes to.
use Rattle.std.specs.Prelude.{ℕ, ◌+◌, ◌*◌, ◌<◌, ◌≤◌, ◌≡◌, List, eqb, length, drop}
use Rattle.cells.specs.Cells.{cell}
use Rattle.rules.specs.Text.Tokens.{Name, kind_no}
use Rattle.rules.specs.Text.Scan.{same_bytes}
use Rattle.rules.specs.Declarations.{Word}
use Rattle.rules.specs.Limits.{most_tokens}
use Rattle.paths.specs.Cited.Early.{Report}
use Rattle.paths.specs.Cited.Marks.{Marks}
use Rattle.paths.specs.Cited.Least.{least}
use Rattle.records.specs.Holds.{kind_byte, token_at}
use Rattle.records.specs.Words.{word_at}
use Rattle.reading.specs.Kinds.{next_no}
use Rattle.reading.specs.Indexes.{index_of}
use Rattle.scopes.specs.Walks.{next_word}
use Rattle.profiling.specs.Spelt.{SpeltDescription, whole}
use Rattle.nesting.specs.Machine.{State, acted, named, activated, aimed, run, outset}
use Rattle.nesting.specs.Holding.{unseen, bit, book, Shows}
use Rattle.nesting.specs.declared.nests.Nest.{Nest}
use Rattle.profiling.specs.declared.tasks.Task.{Task}
use Rattle.profiling.specs.declared.walks.Found.{Found}

-- two cells: whether an end is reached, and the lowest place
pub record Known (table : List ℕ) (k : ℕ) (x : Report) : Type 0 where
  pub ends : cell 2 table (2 * k) ≡ bit x.ends
  pub low : cell 2 table (2 * k + 1) ≡ least unseen x.places

-- a description with the names of a test and an output, and what is known of its bodies
pub record Scene (records decls table : List ℕ) (t : Task) : Type 0 where
  pub written : SpeltDescription records decls t.m t.n
  pub test : Word
  pub known : Word → Report
  pub aims : (w : Word) → same_bytes w test ≡ eqb (index_of (whole written) w) t.aim
  pub knows : (w : Word) → Known table (index_of (whole written) w) (known w)
  pub room : 1028 ≤ length table
  pub output : t.out < 256

-- the token i is next
pub record Acting (records decls table room : List ℕ) (t : Task) (i : ℕ) (s : Nest) : Type 0 where
  pub scene : Scene records decls table t
  pub state : State
  pub shows : Shows (book records scene.written.tokens) room i s state
  pub past : 0 < i
  pub within : i < t.n
  pub few : i < most_tokens
  pub record_room : 8 * i + 8 ≤ length records

-- what it did
abbrev pub Acted : List ℕ → List ℕ → List ℕ → List ℕ → List ℕ → Task → ℕ → ℕ → Nest → Nest → Type 0
Acted records decls table old new t i mode s r =
    (g : Scene records decls table t) (z : State) → Shows (book records g.written.tokens) old i s z
    → Shows (book records g.written.tokens) new (i + 1) r
    (acted (whole g.written) g.test t.out g.known mode (kind_byte records i) (token_at g.written.tokens i) (drop (i + 1) g.written.tokens) z)

-- the name that is the token i, with what stands behind it
abbrev pub Named : List ℕ → List ℕ → List ℕ → List ℕ → List ℕ → Task → ℕ → ℕ → Nest → Nest → Type 0
Named records decls table old new t i mode s r =
    (g : Scene records decls table t) (z : State) → Shows (book records g.written.tokens) old i s z
    → Shows (book records g.written.tokens) new (i + 1) r
    (named (whole g.written) g.test t.out g.known mode (token_at g.written.tokens i) (next_no (drop (i + 1) g.written.tokens)) z)

abbrev pub Activates : List ℕ → List ℕ → List ℕ → List ℕ → List ℕ → Task → ℕ → Nest → Nest → Type 0
Activates records decls table old new t i s r =
    (g : Scene records decls table t) (z : State) (j : ℕ) → Shows (book records g.written.tokens) old j s z
    → Shows (book records g.written.tokens) new j r (activated (whole g.written) g.test t.out g.known (word_at g.written.tokens i) z)

abbrev pub Aims : List ℕ → List ℕ → List ℕ → List ℕ → List ℕ → Task → ℕ → Nest → Nest → Type 0
Aims records decls table old new t i s r =
    (g : Scene records decls table t) (z : State) (j : ℕ) → Shows (book records g.written.tokens) old j s z
    → Shows (book records g.written.tokens) new j r (aimed (eqb (next_no (drop (i + 1) g.written.tokens)) (kind_no Name)) (next_word (drop (i + 1) g.written.tokens)) z)

-- the body at `from` of the name that is the token `name`
abbrev pub marks_of : {records decls table : List ℕ} {t : Task} → Scene records decls table t → ℕ → ℕ → Marks
marks_of {t = t} g name from =
    run (whole g.written) g.test t.out g.known 0 (outset (word_at g.written.tokens name)) (drop from g.written.tokens)

pub record Finds {records decls table : List ℕ} {t : Task} (g : Scene records decls table t) (name from : ℕ) (r : Found) : Type 0 where
  pub ends : r.ends ≡ (marks_of g name from).flags 1
  pub low : r.low ≡ least unseen (marks_of g name from).places
