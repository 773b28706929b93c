-- Laws of brackets: those of an expression are closed inside it.
-- Assumes nothing.
use Prim.Native.Nat.{ℕ, zero, suc, ◌+◌, ◌-◌}
use Rattle.std.specs.Prelude.{◌≡◌, refl, [], ◌∷◌}
use Rattle.std.proofs.Math.Path.{sym}
use Rattle.std.proofs.Common.{ap, ◌∙◌}
use native.Mathlib.Omega.{arith}
use Rattle.std.proofs.Math.Numerals.{add-one}
use borrow.Author.Tests.{eq-eqb, ne_eqb}
use Rattle.rules.specs.Text.Tokens.{kind_no, Info, Token, tk, RBra, LBra}
use Rattle.rules.specs.Grammar.Trees.{Tokens, Operand, operand_tokens, Tail, tail_tokens}
use Rattle.trees.specs.Written.{level}
use Rattle.trees.specs.Expressions.{Expressed, passes, expression_written}
use Rattle.places.specs.Brackets.{past, opened, down}

pub past_all : (d : ℕ) → past d [] ≡ []
unfolding past
past_all d = refl

pub past_none : (d : ℕ) (ts : Tokens) → d ≡ 0 → past d ts ≡ ts
unfolding past
past_none d [] e = refl
past_none d (t ∷ ts) e = ap (λ x. past x (t ∷ ts)) e

pub past_one : (d : ℕ) (t : Token) (ts : Tokens) → (d ≡ 0 → ⊥) → past d (t ∷ ts) ≡ past (opened d (kind_no t.kind)) ts
unfolding past
past_one zero t ts n = absurd (n refl)
past_one (suc d) t ts n = refl

-- the arms of the function that counts
module _ (d k : ℕ) where
  pub opened_more : k ≡ kind_no LBra → d + 1 ≡ opened d k
  unfolding opened
  opened_more e = add-one d ∙ sym (rw (eq-eqb k 5 e, opened))

  pub opened_fewer : (k ≡ kind_no LBra → ⊥) → k ≡ kind_no RBra → d - 1 ≡ opened d k
  unfolding opened
  opened_fewer n e = below d ∙ sym (rw (ne_eqb k 5 n, eq-eqb k 6 e, opened))
    where
      below : (d : ℕ) → d - 1 ≡ down d
      below zero = refl
      below (suc d) = omega arith

  pub opened_same : (k ≡ kind_no LBra → ⊥) → (k ≡ kind_no RBra → ⊥) → d ≡ opened d k
  unfolding opened
  opened_same n e = sym (rw (ne_eqb k 5 n, ne_eqb k 6 e, opened))

past_inside : {m n : ℕ} {f : Tokens → Tokens} → Expressed level level suc m f n → (ts : Tokens) → past (suc m) (f ts) ≡ past (suc n) ts
unfolding past opened
past_inside = passes (λ m. past (suc m)) level level suc refl

-- behind the `[` of a subscript one comes to what follows its `]`
pub past_index : (o : Operand) (t : Tail) (r : Info) (ts : Tokens) → past 1 (operand_tokens o (tail_tokens t (tk RBra r ∷ ts))) ≡ ts
unfolding past opened
past_index o t r ts = past_inside (expression_written o t 0) (tk RBra r ∷ ts) ∙ past_none 0 ts refl
