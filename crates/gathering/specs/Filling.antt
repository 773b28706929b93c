-- Gathering what the bodies read and write, down their activations: what is done, and what it comes to.
use Rattle.std.specs.Prelude.{ℕ, ◌*◌, ◌≤◌, ◌≡◌, false, List, [], ◌∷◌, length}
use Rattle.std.proofs.Math.Option.{some}
use Rattle.rules.specs.Declarations.{Word, number_of}
use Rattle.rules.specs.Limits.{longest_chain}
use Rattle.rules.specs.Whole.Sets.{chain_over}
use Rattle.records.specs.Words.{word_at}
use Rattle.reading.specs.Reading.{Reading, table_of}
use Rattle.gathering.specs.Memory.{mark_of, carrier_of, Carrying, Recalls, Remembers}

-- what gathering starts from
pub record Fillable (records decls memo : List ℕ) (m n : ℕ) : Type 0 where
  pub reading : Reading records decls m n
  pub room : 72 * m ≤ length memo
  pub carrying : Carrying records decls memo m n
  pub remembers : (v : Reading records decls m n) → Remembers v memo
  pub short : (v : Reading records decls m n) (w : Word) → chain_over (table_of v) longest_chain w ≡ false

-- the body of a name is gathered
pub record Done {records decls : List ℕ} {m n : ℕ} (v : Reading records decls m n) (memo : List ℕ) (w : Word) : Type 0 where
  pub marked : (k : ℕ) → number_of (table_of v) w ≡ some k → mark_of memo k ≡ 0 → ⊥

abbrev pub AllDone : {records decls : List ℕ} {m n : ℕ} → Reading records decls m n → List ℕ → List Word → Type 0
AllDone v memo [] = Unit {0}
AllDone v memo (w ∷ ws) = Done v memo w × AllDone v memo ws

-- what is gathered stays
pub record Grows (records decls old new : List ℕ) (m n : ℕ) : Type 0 where
  pub remembers : (v : Reading records decls m n) → Remembers v new
  pub kept : (k : ℕ) → (mark_of old k ≡ 0 → ⊥) → mark_of new k ≡ 0 → ⊥
  pub carriers : (k : ℕ) → carrier_of new k ≡ carrier_of old k

-- what gathering gives of the name i
pub record Fills (records decls old new : List ℕ) (m n i : ℕ) : Type 0 where
  pub grows : Grows records decls old new m n
  pub done : (v : Reading records decls m n) → Done v new (word_at v.tokens i)

-- every declared name is remembered
pub record Complete (records decls memo : List ℕ) (m n : ℕ) : Type 0 where
  pub carrying : Carrying records decls memo m n
  pub recalls : (v : Reading records decls m n) (w : Word) → Recalls v memo w
