-- What is remembered of each declaration, in 72 bytes: a word with the storage carrier under its name and with a mark, 0 where its body is not gathered yet,
-- 1 where it is, 2 where it may stop; what its body reads and what it writes, each in four words.
use Rattle.std.specs.Prelude.{ℕ, ◌+◌, ◌*◌, ◌/◌, ◌%◌, ◌<◌, ◌≤◌, ◌≡◌, Bool, true, false, List, [], ◌∷◌, eqb}
use Rattle.std.proofs.Math.Option.{some}
use Rattle.cells.specs.Cells.{cell}
use Rattle.rules.specs.Declarations.{Word, number_of}
use Rattle.rules.specs.Whole.Sets.{Sets, owner, body_sets, body_stops, member}
use Rattle.rules.specs.Limits.{longest_chain}
use Rattle.reading.specs.Reading.{Reading, table_of}
use Rattle.reading.specs.Bits.{holds}
use Rattle.reading.specs.Names.{Owned}

-- the cell i takes v, and no other changes
pub record Put (old new : List ℕ) (i v : ℕ) : Type 0 where
  pub here : cell 8 new i ≡ v
  pub elsewhere : (j : ℕ) → (j ≡ i → ⊥) → cell 8 new j ≡ cell 8 old j

-- the four words from the cell c on
abbrev pub words_at : List ℕ → ℕ → List ℕ
words_at b c = cell 8 b c ∷ cell 8 b (c + 1) ∷ cell 8 b (c + 2) ∷ cell 8 b (c + 3) ∷ []

-- the words w are put there
pub record PutWords (old new : List ℕ) (c : ℕ) (w : List ℕ) : Type 0 where
  pub words : (k : ℕ) → holds (words_at new c) k ≡ holds w k
  pub elsewhere : (j : ℕ) → (c ≤ j → j < c + 4 → ⊥) → cell 8 new j ≡ cell 8 old j

-- the entry of the declaration k: its mark, the carrier under its name, what it reads, what it writes
abbrev pub mark_of : List ℕ → ℕ → ℕ
mark_of b k = cell 8 b (9 * k) % 65536

abbrev pub carrier_of : List ℕ → ℕ → ℕ
carrier_of b k = cell 8 b (9 * k) / 65536 % 65536

abbrev pub reads_at : List ℕ → ℕ → List ℕ
reads_at b k = words_at b (9 * k + 1)

abbrev pub writes_at : List ℕ → ℕ → List ℕ
writes_at b k = words_at b (9 * k + 5)

abbrev pub mark_for : Bool → ℕ
mark_for true = 2
mark_for false = 1

pub record Stored (old new : List ℕ) (k : ℕ) (r w : List ℕ) (mark : ℕ) : Type 0 where
  pub marked : mark_of new k ≡ mark
  pub carrier : carrier_of new k ≡ carrier_of old k
  pub reads : (c : ℕ) → holds (reads_at new k) c ≡ holds r c
  pub writes : (c : ℕ) → holds (writes_at new k) c ≡ holds w c
  pub elsewhere : (j : ℕ) → (9 * k ≤ j → j < 9 * k + 9 → ⊥) → cell 8 new j ≡ cell 8 old j

-- an entry that is right for sets and for whether the body may stop
pub record Entry (b : List ℕ) (k : ℕ) (s : Sets) (stops : Bool) : Type 0 where
  pub reads : (c : ℕ) → holds (reads_at b k) c ≡ member c s.reads
  pub writes : (c : ℕ) → holds (writes_at b k) c ≡ member c s.writes
  pub stopping : eqb (mark_of b k) 2 ≡ stops

module _ {records decls : List ℕ} {m n : ℕ} (v : Reading records decls m n) where
  -- of a name, if it is declared
  pub record Recalls (b : List ℕ) (w : Word) : Type 0 where
    pub entry : (k : ℕ) → number_of (table_of v) w ≡ some k → Entry b k (body_sets (table_of v) longest_chain w) (body_stops (table_of v) longest_chain w)

  -- c is the storage carrier under the name of the declaration k
  pub record CarrierOf (k c : ℕ) : Type 0 where
    pub owned : (w : Word) → number_of (table_of v) w ≡ some k → Owned (owner (table_of v) w) c

  -- every entry that is marked is right
  pub record Remembers (b : List ℕ) : Type 0 where
    pub right : (k : ℕ) → (mark_of b k ≡ 0 → ⊥) → (w : Word) → number_of (table_of v) w ≡ some k
        → Entry b k (body_sets (table_of v) longest_chain w) (body_stops (table_of v) longest_chain w)

-- every entry has the carrier under its name
pub record Carrying (records decls memo : List ℕ) (m n : ℕ) : Type 0 where
  pub carries : (v : Reading records decls m n) (k : ℕ) → k < m → CarrierOf v k (carrier_of memo k)
