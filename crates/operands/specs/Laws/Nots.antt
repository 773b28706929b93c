-- Laws of NOTs: two cancel, so only whether their number is even counts.
-- Assumes nothing.
use Rattle.std.specs.Prelude.{ℕ, suc, ◌%◌, ◌^◌, ◌<◌, ◌≡◌, refl, eqb}
use Rattle.std.proofs.Math.Path.{ap}
use Rattle.std.proofs.Common.{◌∙◌, arith, eq-eqb, ne_eqb}
use Rattle.std.proofs.Math.Decide.{dec_lt}
use Rattle.rules.specs.Grammar.Trees.{Operand, constant, access, parens, negated}
use Rattle.rules.specs.Grammar.Precedence.{factor_of}
use Rattle.rules.specs.Values.{Value, value, not_number, inverse}
use Rattle.rules.specs.Declarations.{Word, Table}
use Rattle.rules.specs.Steps.Evaluation.{Carriers, Outcome, gives, faulty, then, evaluate_factor}
use Rattle.laws_accepted.specs.Cited.Lengths.{SizedFactor}
use Rattle.operands.specs.Answers.{not_unless}
use Rattle.nots.specs.Nots.{bare, nots}

pub bare_sized : (outer : Word) (ds : Table) (o : Operand) → SizedFactor outer ds (factor_of o) → SizedFactor outer ds (factor_of (bare o))
unfolding factor_of
bare_sized outer ds (constant i) q = q
bare_sized outer ds (access i s b) q = q
bare_sized outer ds (parens l o t r) q = q
bare_sized outer ds (negated i o) q = bare_sized outer ds o q

-- NOT NOT x is x, for a number of n bits
not_not : (n x : ℕ) → x < 2 ^ n → not_number n (not_number n x) ≡ x
unfolding not_number
not_not n x h = omega arith

one_more : (k n x : ℕ) → x < 2 ^ n → not_number n (not_unless (eqb (k % 2) 0) n x) ≡ not_unless (eqb (suc k % 2) 0) n x
one_more k n x h = by (dec_lt (k % 2) 1)
  where
    by : Dec (k % 2 < 1) → not_number n (not_unless (eqb (k % 2) 0) n x) ≡ not_unless (eqb (suc k % 2) 0) n x
    by (yes l) = rw (eq-eqb (k % 2) 0 (omega arith), ne_eqb (suc k % 2) 0 (λ e. omega arith)) refl
    by (no l) = rw (ne_eqb (k % 2) 0 (λ e. omega arith), eq-eqb (suc k % 2) 0 (omega arith)) (not_not n x h)

module _ (ds : Table) (s : Carriers) where
  abbrev invert : Outcome Value → Outcome Value
  invert o = then o (λ x. gives (inverse x))

  pub nots_given : (o : Operand) (n x : ℕ) → x < 2 ^ n → evaluate_factor ds s (factor_of (bare o)) ≡ gives (value n x)
      → evaluate_factor ds s (factor_of o) ≡ gives (value n (not_unless (eqb (nots o % 2) 0) n x))
  unfolding factor_of evaluate_factor then inverse
  nots_given (constant i) n x h e = e
  nots_given (access i t b) n x h e = e
  nots_given (parens l o t r) n x h e = e
  nots_given (negated i o) n x h e =
      ap invert (nots_given o n x h e) ∙ ap (λ y. gives (value n y)) (one_more (nots o) n x h)

  pub nots_faulty : (o : Operand) (m p : ℕ) → evaluate_factor ds s (factor_of (bare o)) ≡ faulty m p → evaluate_factor ds s (factor_of o) ≡ faulty m p
  unfolding factor_of evaluate_factor then
  nots_faulty (constant i) m p e = e
  nots_faulty (access i t b) m p e = e
  nots_faulty (parens l o t r) m p e = e
  nots_faulty (negated i o) m p e = ap invert (nots_faulty o m p e)
