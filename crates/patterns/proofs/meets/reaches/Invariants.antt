-- `patterns::meets::reaches` meets its contract. The loop's invariant: the answer is that of the n lowest bits of the pattern and of what is left of
-- the bounds.
-- Assumes nothing.
use mathlib.Core.Path.{◌≡◌}
use Prim.Native.Nat.{ℕ, ◌≤◌}
use Rattle.rules.specs.Faults.Bodies as rules
use Rattle.patterns.proofs.meets.reaches.Given as goal

-- the answer is that of what is left
pub record Left (v f l h value free low high n : ℕ) : Type 0 where
  pub short : n ≤ 64
  pub same : rules.reaches n value free low high ≡ rules.reaches 64 v f l h

abbrev pub invariant-loop-n : goal.invariant-loop-n
invariant-loop-n l = Left l.v l.f l.l l.h l.value l.free l.low l.high l.n
