-- `records::words::same_run` meets its contract: what is left of the two runs is the same iff the two runs are.
-- Assumes nothing.
use mathlib.Core.Path.{◌≡◌}
use mathlib.Core.List.{List}
use Prim.Native.Nat.{ℕ, ◌+◌, ◌-◌, ◌≤◌}
use Rattle.rules.specs.Text.Scan.{same_bytes}
use Rattle.records.specs.Holds.{folded_at}
use Rattle.records.proofs.words.same_run.Given as goal

pub record Inv (text : List ℕ) (a b n k : ℕ) : Type 0 where
  pub within : k ≤ n
  pub left : same_bytes (folded_at text (a + k) (n - k)) (folded_at text (b + k) (n - k)) ≡ same_bytes (folded_at text a n) (folded_at text b n)

abbrev pub invariant-loop-k : goal.invariant-loop-k
invariant-loop-k l = Inv l.text l.a l.b l.n l.k
