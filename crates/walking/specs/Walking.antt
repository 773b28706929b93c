-- What a walk over the tokens of a body starts from, and what each token does.
use Rattle.std.specs.Prelude.{ℕ, ◌+◌, ◌*◌, ◌<◌, ◌≤◌, ◌≡◌, List, length, drop}
use Rattle.cells.specs.Cells.{cell}
use Rattle.rules.specs.Declarations.{Word}
use Rattle.rules.specs.Limits.{most_declarations}
use Rattle.bounds.specs.Cited.Counts.{endless}
use Rattle.records.specs.Holds.{kind_byte}
use Rattle.records.specs.Words.{word_at}
use Rattle.reading.specs.Kinds.{next_no}
use Rattle.reading.specs.Indexes.{index_of}
use Rattle.reading.specs.Reading.{Reading, table_of}
use Rattle.counting.specs.Machine.{State, counted, named, acted}
use Rattle.counting.specs.Holding.{Shows, Does}
use Rattle.counting.specs.declared.counts.Nest.{Nest}

-- the bytes of a table of counts
abbrev pub table_size : ℕ
table_size = 8 * (most_declarations + 1)

-- a description, and the count of each of its bodies
pub record Scene (records table : List ℕ) (m n : ℕ) : Type 0 where
  pub decls : List ℕ
  pub reading : Reading records decls m n
  pub counts : Word → ℕ
  pub knows : (w : Word) → cell 8 table (index_of (table_of reading) w) ≡ counts w
  pub low : (w : Word) → counts w ≤ endless
  pub room : table_size ≤ length table

-- the token i is next
pub record Acting (records table room : List ℕ) (m n i : ℕ) (s : Nest) : Type 0 where
  pub scene : Scene records table m n
  pub state : State
  pub shows : Shows room s state
  pub within : i < n
  pub record_room : 8 * i + 8 ≤ length records

module _ {records table : List ℕ} {m n : ℕ} (g : Scene records table m n) (i : ℕ) where
  -- its word, and the kind behind it
  abbrev pub word : Word
  word = word_at g.reading.tokens i

  abbrev pub behind : ℕ
  behind = next_no (drop (i + 1) g.reading.tokens)

-- what it did
abbrev pub Acted : List ℕ → List ℕ → List ℕ → List ℕ → ℕ → ℕ → ℕ → ℕ → Nest → Nest → Type 0
Acted records table old new m n i mode s r =
    (g : Scene records table m n) → Does (acted g.counts mode (kind_byte records i) (word g i) (behind g i)) old s new r

-- the name that is the token i, with what stands behind it
abbrev pub Named : List ℕ → List ℕ → ℕ → ℕ → ℕ → ℕ → Nest → Nest → Type 0
Named records table m n i mode s r =
    (g : Scene records table m n) (room : List ℕ) → Does (named g.counts mode (word g i) (behind g i)) room s room r

abbrev pub Activates : List ℕ → List ℕ → ℕ → ℕ → ℕ → Nest → Nest → Type 0
Activates records table m n i s r = (g : Scene records table m n) (room : List ℕ) → Does (counted (1 + g.counts (word g i))) room s room r
