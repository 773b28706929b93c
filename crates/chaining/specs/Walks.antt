-- A walk down a chain of activations: what is listed so far, as the numbers of a reason, and the body that is listed next.
use Rattle.std.specs.Prelude.{ℕ, ◌+◌, ◌<◌, ◌≡◌, List, ◌++◌, length, Some, None}
use Rattle.rules.specs.Limits.{longest_chain}
use Rattle.rules.specs.Declarations.{Table}
use Rattle.rules.specs.Whole.Sets.{member}
use Rattle.rules.specs.Reasons.{chained, chain_behind, places_in, reason51}
use Rattle.rules.specs.Calls.Why.{reason_numbers}
use Rattle.reading.specs.Reading.{Reading, table_of}
use Rattle.reading.specs.Bits.{holds}
use Rattle.chaining.specs.declared.walks.Walk.{Walk}

-- a walk that goes on with the body b, where k more are listed behind that
pub record Going (ds : Table) (m place k : ℕ) (w : Walk) (b : ℕ) : Type 0 where
  pub places : List ℕ
  pub bodies : List ℕ
  pub held : (j : ℕ) → holds w.listed.w j ≡ member j bodies
  pub numbers : w.numbers.n ≡ reason_numbers (chained places)
  pub count : length places + k ≡ longest_chain
  pub body_there : b < m
  pub is : reason51 ds place ≡ chained (places ++ places_in ds (chain_behind ds k bodies b))

-- a walk that goes on, or that has all numbers of the reason
pub record Walked (records decls : List ℕ) (m n place k : ℕ) (w : Walk) : Type 0 where
  pub goes : {b : ℕ} → w.body ≡ Some b → (v : Reading records decls m n) → Going (table_of v) m place k w b
  pub ended : w.body ≡ None → (v : Reading records decls m n) → w.numbers.n ≡ reason_numbers (reason51 (table_of v) place)
