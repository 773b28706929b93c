-- What the number of a token's kind says of brackets.
-- Assumes nothing.
use Prim.Native.Nat.{ℕ, zero, suc, ◌+◌, ◌-◌, ◌<◌, ◌≤◌}
use mathlib.Core.Path.{◌≡◌, refl, sym, ap, ◌∙◌}
use mathlib.Core.Bool.{Bool, true, false, ◌||◌}
use mathlib.Core.Logic.{◌⊎◌, inl, inr}
use native.Mathlib.Omega.{arith}
use native.Mathlib.Numerals.{add-one}
use borrow.Author.Tests.{ne_eqb}
use lib.Dec.{eqb}
use Rattle.rules.specs.Text.Tokens.{Kind, kind_no, same, Comma, LPar, LBra, BEGIN, RPar, RBra, END}
use Rattle.rules.specs.Grammar.Verdict.{opens, closes, down, counted_by, count}
use Rattle.declare.specs.Skipping.{none_open_of, ends}

abbrev Opener : ℕ → Type 0
Opener x = (x ≡ kind_no LPar) ⊎ ((x ≡ kind_no LBra) ⊎ (x ≡ kind_no BEGIN))

abbrev Closer : ℕ → Type 0
Closer x = (x ≡ kind_no RPar) ⊎ ((x ≡ kind_no RBra) ⊎ (x ≡ kind_no END))

abbrev Ender : ℕ → Type 0
Ender x = (x ≡ kind_no RPar) ⊎ ((x ≡ kind_no RBra) ⊎ ((x ≡ kind_no Comma) ⊎ (x ≡ kind_no END)))

differs : {x : ℕ} (k : Kind) (m : ℕ) → x ≡ kind_no k → (x ≡ m → ⊥) → eqb m (kind_no k) ≡ false
differs k m h f = ne_eqb m (kind_no k) (λ e. f (h ∙ sym e))

one_down : (d : ℕ) → (d ≡ 0 → ⊥) → d - 1 ≡ down d
one_down zero f = absurd (f refl)
one_down (suc d) f = omega arith

module _ (x d : ℕ) where
  pub one_more : Opener x → (k : Kind) → x ≡ kind_no k → d + 1 ≡ count d k
  unfolding count counted_by opens closes
  one_more (inl e) k h = rw (sym h ∙ e) (add-one d)
  one_more (inr (inl e)) k h = rw (sym h ∙ e) (add-one d)
  one_more (inr (inr e)) k h = rw (sym h ∙ e) (add-one d)

  shut : Closer x → (k : Kind) → x ≡ kind_no k → down d ≡ count d k
  unfolding count counted_by opens closes
  shut (inl e) k h = rw (sym h ∙ e) refl
  shut (inr (inl e)) k h = rw (sym h ∙ e) refl
  shut (inr (inr e)) k h = rw (sym h ∙ e) refl

  pub none_fewer : d ≡ 0 → Closer x → (k : Kind) → x ≡ kind_no k → 0 ≡ count d k
  none_fewer e c k h = sym (ap down e) ∙ shut c k h

  pub one_fewer : (d ≡ 0 → ⊥) → Closer x → (k : Kind) → x ≡ kind_no k → d - 1 ≡ count d k
  one_fewer f c k h = one_down d f ∙ shut c k h

  pub as_many : (Opener x → ⊥) → (Closer x → ⊥) → (k : Kind) → x ≡ kind_no k → d ≡ count d k
  unfolding count counted_by opens closes
  as_many o c k h =
      rw (
        differs k 19 h (λ e. o (inr (inr e))),
        differs k 3 h (λ e. o (inl e)),
        differs k 5 h (λ e. o (inr (inl e))),
        differs k 20 h (λ e. c (inr (inr e))),
        differs k 4 h (λ e. c (inl e)),
        differs k 6 h (λ e. c (inr (inl e))),
      )

none_open : (b : Bool) (d : ℕ) → 0 < d → none_open_of b d ≡ false
none_open false d h = refl
none_open true zero h = absurd (omega arith)
none_open true (suc d) h = refl

all_shut : (b : Bool) (d : ℕ) → d ≤ 0 → none_open_of b d ≡ b
all_shut false d h = refl
all_shut true zero h = refl
all_shut true (suc d) h = absurd (omega arith)

module _ (x d : ℕ) where
  pub held : 0 < d → (k : Kind) → x ≡ kind_no k → false ≡ ends d k
  unfolding ends
  held h k e = sym (none_open (closes k || same Comma k) d h)

  pub ended : d ≤ 0 → Ender x → (k : Kind) → x ≡ kind_no k → true ≡ ends d k
  unfolding ends closes
  ended z (inl e) k h = rw (sym h ∙ e) (sym (all_shut true d z))
  ended z (inr (inl e)) k h = rw (sym h ∙ e) (sym (all_shut true d z))
  ended z (inr (inr (inl e))) k h = rw (sym h ∙ e) (sym (all_shut true d z))
  ended z (inr (inr (inr e))) k h = rw (sym h ∙ e) (sym (all_shut true d z))

  pub goes_on : (Ender x → ⊥) → (k : Kind) → x ≡ kind_no k → false ≡ ends d k
  unfolding ends closes
  goes_on f k h =
      rw (
        differs k 20 h (λ e. f (inr (inr (inr e)))),
        differs k 4 h (λ e. f (inl e)),
        differs k 6 h (λ e. f (inr (inl e))),
        differs k 9 h (λ e. f (inr (inr (inl e)))),
      )
