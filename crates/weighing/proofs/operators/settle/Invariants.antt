-- `weighing::operators::settle` meets its contract. The invariant: settling what still waits comes to settling all.
-- Assumes nothing.
use mathlib.Core.List.{List}
use Prim.Native.Nat.{ℕ}
use Rattle.rules.specs.Grammar.Precedence.{Factor}
use Rattle.rules.specs.Faults.Bodies.{Judged}
use Rattle.weighing.specs.Settling.{SettleAt}
use Rattle.weighing.specs.Laws.Settling.{Settling}
use Rattle.weighing.proofs.operators.settle.Given as goal

pub record Inv (records ats keys lengths : List ℕ) (tight count₀ k₀ n₀ count k n : ℕ) : Type 0 where
  pub now : SettleAt records ats keys lengths count k n
  pub all : (v : SettleAt records ats keys lengths count₀ k₀ n₀) (operand : Factor → Judged) → Settling v operand tight count k n

abbrev pub invariant-loop-top : goal.invariant-loop-top
invariant-loop-top l = Inv l.records l.ats l.keys l.lengths l.tight l.fn.from.count l.fn.from.key l.fn.from.bits l.top l.key l.bits
