-- Laws of kinds: what each means at the depth at which it stands.
use Rattle.std.specs.Prelude.{ℕ, zero, suc, ◌+◌, ◌-◌, ◌<◌, ◌≤◌, ◌≡◌, refl, Bool, true, false}
use Rattle.std.proofs.Math.Path.{sym}
use Rattle.std.proofs.Common.{ap, ◌∙◌, arith}
use Rattle.std.proofs.Math.Numerals.{add-one}
use borrow.Author.Tests.{eq-eqb, ne_eqb}
use Rattle.rules.specs.Text.Tokens.{LBra, RBra, END, kind_no}
use Rattle.table.specs.Scans.{down, outermost}
use Rattle.table.specs.Laws.Scans.{below}
use Rattle.reading.specs.Kinds.{closes, mode, tests, begins}

-- the arms of the functions that count depths and modes
inner_block : (d : ℕ) → 2 ≤ d → outermost (down d) ≡ false
inner_block zero h = absurd (omega arith)
inner_block (suc zero) h = absurd (omega arith)
inner_block (suc (suc d)) h = refl

own_block : (d : ℕ) → d < 2 → outermost (down d) ≡ true
own_block zero h = refl
own_block (suc zero) h = refl
own_block (suc (suc d)) h = absurd (omega arith)

module _ (d k : ℕ) where
  pub closes_other : (k ≡ kind_no END → ⊥) → false ≡ closes d k
  unfolding closes
  closes_other n = sym (rw (ne_eqb k 20 n))

  pub closes_own : k ≡ kind_no END → d < 2 → true ≡ closes d k
  unfolding closes
  closes_own e h = sym (rw (eq-eqb k 20 e, own_block d h))

  pub closes_inner : k ≡ kind_no END → 2 ≤ d → false ≡ closes d k
  unfolding closes
  closes_inner e h = sym (rw (eq-eqb k 20 e, inner_block d h))

module _ (m k : ℕ) (t : Bool) (e : t ≡ tests k) where
  pub mode_tests : t ≡ true → 1 ≡ mode m k
  unfolding mode
  mode_tests h = sym (rw (sym e ∙ h, mode))

  module _ (n : t ≡ false) (b : Bool) (f : b ≡ begins k) where
    pub mode_begins : b ≡ true → 0 ≡ mode m k
    unfolding mode
    mode_begins h = sym (rw (sym e ∙ n, sym f ∙ h, mode))

    module _ (h : b ≡ false) where
      pub mode_open : k ≡ kind_no LBra → m + 1 ≡ mode m k
      unfolding mode
      mode_open q = add-one m ∙ sym (rw (sym e ∙ n, sym f ∙ h, eq-eqb k 5 q, mode))

      module _ (o : k ≡ kind_no LBra → ⊥) where
        pub mode_shut : k ≡ kind_no RBra → m ≡ 0 → 0 ≡ mode m k
        unfolding mode
        mode_shut q z = sym (rw (sym e ∙ n, sym f ∙ h, ne_eqb k 5 o, eq-eqb k 6 q, mode) (ap down z))

        pub mode_less : k ≡ kind_no RBra → (m ≡ 0 → ⊥) → m - 1 ≡ mode m k
        unfolding mode
        mode_less q z = below m z ∙ sym (rw (sym e ∙ n, sym f ∙ h, ne_eqb k 5 o, eq-eqb k 6 q, mode))

        pub mode_same : (k ≡ kind_no RBra → ⊥) → m ≡ mode m k
        unfolding mode
        mode_same q = sym (rw (sym e ∙ n, sym f ∙ h, ne_eqb k 5 o, ne_eqb k 6 q, mode))
