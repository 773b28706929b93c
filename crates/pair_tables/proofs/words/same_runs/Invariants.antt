-- `pair_tables::words::same_runs` meets its contract: what is left of the two runs is the same iff the two runs are.
-- Assumes nothing.
use mathlib.Core.Path.{◌≡◌}
use mathlib.Core.List.{List}
use Prim.Native.Nat.{ℕ, ◌+◌, ◌-◌, ◌≤◌}
use Rattle.rules.specs.Text.Scan.{same_bytes}
use Rattle.records.specs.Holds.{folded_at}
use Rattle.pair_tables.proofs.words.same_runs.Given as goal

pub record Inv (text₀ text₁ : List ℕ) (a b n k : ℕ) : Type 0 where
  pub within : k ≤ n
  pub left : same_bytes (folded_at text₀ (a + k) (n - k)) (folded_at text₁ (b + k) (n - k)) ≡ same_bytes (folded_at text₀ a n) (folded_at text₁ b n)

abbrev pub invariant-loop-k : goal.invariant-loop-k
invariant-loop-k l = Inv l.text0 l.text1 l.a l.b l.n l.k
