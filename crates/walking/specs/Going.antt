-- Where a walk begins, and what it comes to.
use Rattle.std.specs.Prelude.{ℕ, ◌≤◌, ◌≡◌, List, length, drop}
use Rattle.bounds.specs.Cited.Counts.{endless}
use Rattle.counting.specs.Machine.{outset, run}
use Rattle.counting.specs.Holding.{enough}
use Rattle.walking.specs.Walking.{Scene}

pub record Beginning (records table room : List ℕ) (m n : ℕ) : Type 0 where
  pub scene : Scene records table m n
  pub space : enough ≤ length room

-- the body at `from`
abbrev pub count_from : {records table : List ℕ} {m n : ℕ} → Scene records table m n → ℕ → ℕ
count_from g from = run g.counts 0 outset (drop from g.reading.tokens)

pub record Walked (records table : List ℕ) (m n from r : ℕ) : Type 0 where
  pub low : r ≤ endless
  pub is : (g : Scene records table m n) → r ≡ count_from g from
