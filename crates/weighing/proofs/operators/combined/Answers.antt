-- `weighing::operators::combined` meets its contract: an operand has a fault, the result is too long, or neither.
-- Assumes nothing.
use borrow.Author.Rules.{rules}
use mathlib.Core.Path.{◌≡◌, ap, ◌∙◌}
use Prim.Native.Nat.{ℕ, ◌<◌, ◌≤◌, min}
use Rattle.rules.specs.Text.Tokens.{Info, Op, op_kind, kind_no}
use Rattle.rules.specs.Values.{op_bits}
use Rattle.rules.specs.Limits.{most_bits, longest_text}
use Rattle.rules.specs.Faults.Fault.{fault}
use Rattle.rules.specs.Faults.Bodies.{Judged}
use Rattle.values.specs.Operators.{op_at}
use Rattle.values.specs.Laws.Operators.{op_at_kind}
use Rattle.keys.specs.Keys.{key, no_key}
use Rattle.weighing.specs.Weights.{Weighs, operated}
use Rattle.weighing.specs.Laws.Weights.{operated_unsound, operated_long, operated_short}
use Rattle.weighing.proofs.operators.combined.Goals as goal

module _ (op place k m l n : ℕ) where
  -- whatever is judged so, the weight is that of the operator's result
  abbrev All : ℕ → ℕ → Type 0
  All x y =
      (o : Op) (i : Info) (a b : Judged) → op ≡ kind_no (op_kind o) → place ≡ i.place → Weighs k m a → Weighs l n b → Weighs x y (operated o i a b)

  module _ (x : ℕ) (ex : x ≡ min k l) where
    unsound : x < no_key → All x 0
    unsound h o i a b eo ep wa wb = rw ex (operated_unsound wa wb o i (rw ex at h))

    module _ (h : no_key ≤ x) (y : ℕ) (ey : y ≡ op_bits (op_at op) m n) where
      is : (o : Op) → op ≡ kind_no (op_kind o) → y ≡ op_bits o m n
      is o eo = ey ∙ ap (λ (p : Op). op_bits p m n) (ap op_at eo ∙ op_at_kind o)

      long : most_bits < y → place ≤ longest_text → (z : ℕ) → z ≡ key (fault 43 place) → All z 0
      long g p z ez o i a b eo ep wa wb = rw (ez, ep) (operated_long wa wb o i (rw ep at p) (rw ex at h) (rw (is o eo) at g))

      short : y ≤ most_bits → All x y
      short g o i a b eo ep wa wb = rw (ex, is o eo) (operated_short wa wb o i (rw ex at h) (rw (is o eo) at g))

pub returns-then-key-lt-NO_KEY : goal.returns-then-key-lt-NO_KEY
returns-then-key-lt-NO_KEY c = search (rules, unsound)

pub returns-then-bits-gt-MOST_BITS : goal.returns-then-bits-gt-MOST_BITS
returns-then-bits-gt-MOST_BITS c = search (rules, long)

pub returns : goal.returns
returns c = search (rules, short)
