-- The counts of the bodies, filled in down their activations: what is known so far, and what one body more gives.
use Rattle.std.specs.Prelude.{ℕ, ◌<◌, ◌≤◌, ◌≡◌, Bool, false, List, [], eqb, length, drop}
use Rattle.cells.specs.Cells.{cell}
use Rattle.rules.specs.Declarations.{Word}
use Rattle.rules.specs.Limits.{longest_chain}
use Rattle.rules.specs.Faults.Whole.{faults50}
use Rattle.rules.specs.Whole.Sets.{any_name, chain_over}
use Rattle.bounds.specs.Cited.Counts.{count_down}
use Rattle.records.specs.Words.{word_at}
use Rattle.reading.specs.Reading.{Reading, table_of}
use Rattle.reading.specs.Events.{heard}
use Rattle.reading.specs.Calls.{calls_of}
use Rattle.counting.specs.Holding.{enough}
use Rattle.reading.specs.Indexes.{undeclared, index_of}
use Rattle.walking.specs.Walking.{table_size}

-- a description without faults of the 50s
pub record Ready (records decls : List ℕ) (m n : ℕ) : Type 0 where
  pub reading : Reading records decls m n
  pub whole : faults50 (table_of reading) ≡ []

module _ {records decls : List ℕ} {m n : ℕ} (v : Ready records decls m n) where
  abbrev pub count_in : List ℕ → Word → ℕ
  count_in table w = cell 8 table (index_of (table_of v.reading) w)

  -- a count of 0 is not known yet
  abbrev pub unknown : List ℕ → Word → Bool
  unknown table w = eqb (count_in table w) 0

  pub record Known (table : List ℕ) (w : Word) : Type 0 where
    pub there : count_in table w ≡ 0 → ⊥

  -- the others are right
  pub record Right (table : List ℕ) : Type 0 where
    pub counts : (w : Word) → (count_in table w ≡ 0 → ⊥) → count_in table w ≡ count_down (table_of v.reading) longest_chain w

  -- no chain that begins with the name i is over `left` bodies long
  abbrev pub ShortFrom : ℕ → ℕ → Type 0
  ShortFrom i left = chain_over (table_of v.reading) left (word_at v.reading.tokens i) ≡ false

  -- what the action at `from` activates
  abbrev pub calls_from : ℕ → List Word
  calls_from from = calls_of (heard 0 0 (drop from v.reading.tokens))

-- nothing is known but the count of names that are not declared
pub record Blank (old new : List ℕ) : Type 0 where
  pub size : length new ≡ length old
  pub clear : (j : ℕ) → j < undeclared → cell 8 new j ≡ 0
  pub last : cell 8 new undeclared ≡ 1

-- what filling starts from
pub record Fillable (records decls table room : List ℕ) (m n : ℕ) : Type 0 where
  pub ready : Ready records decls m n
  pub right : (v : Ready records decls m n) → Right v table
  pub last : cell 8 table undeclared ≡ 0 → ⊥
  pub table_room : table_size ≤ length table
  pub space : enough ≤ length room

-- what is known stays known
pub record Grows (records decls old new : List ℕ) (m n : ℕ) : Type 0 where
  pub right : (v : Ready records decls m n) → Right v new
  pub kept : (k : ℕ) → (cell 8 old k ≡ 0 → ⊥) → cell 8 new k ≡ 0 → ⊥

-- what filling gives of the name i
pub record Fills (records decls old new : List ℕ) (m n i : ℕ) : Type 0 where
  pub grows : Grows records decls old new m n
  pub done : (v : Ready records decls m n) → Known v new (word_at v.reading.tokens i)

-- and of all that the action at `from` activates
pub record Descends (records decls old new : List ℕ) (m n from : ℕ) : Type 0 where
  pub grows : Grows records decls old new m n
  pub done : (v : Ready records decls m n) → any_name (unknown v new) (calls_from v from) ≡ false
