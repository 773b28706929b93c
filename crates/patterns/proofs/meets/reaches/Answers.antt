-- `patterns::meets::reaches` meets its contract. The loop's invariant: the answer is that of the n lowest bits of the pattern and of what is left of
-- the bounds.
-- Assumes nothing.
use borrow.Author.Rules.{rules}
use borrow.Author.Tests.{not-true, not-false}
use native.Mathlib.Omega.{arith}
use mathlib.Core.Path.{◌≡◌, refl, sym, ap, ◌∙◌}
use mathlib.Core.Bool.{Bool, true, false, ◌&&◌, not}
use Prim.Native.Nat.{ℕ, zero, suc, ◌-◌, ◌%◌, ◌^◌, ◌<◌, ◌≤◌}
use lib.Dec.{leb, eqb, eqb-suc-zero, leb-suc-zero}
use Rattle.rules.specs.Faults.Bodies as rules
use Rattle.patterns.specs.Reaches.{may, either_way}
use Rattle.patterns.specs.Laws.Reaches.{both_have, neither_has, one_has}
use Rattle.patterns.proofs.meets.reaches.Invariants.{Left}
use Rattle.patterns.proofs.meets.reaches.Goals as goal

-- one turn: t is the value of the highest bit, and a value of the pattern may lack it or have it
module _ (v f l h value free low high n t : ℕ) (left : Left v f l h value free low high n) (some : 0 < n) (is_top : t ≡ 2 ^ (n - 1)) where
  abbrev at_top : rules.reaches 64 v f l h ≡ rules.reaches (suc (n - 1)) value free low high
  at_top = sym left.same ∙ ap (λ k. rules.reaches k value free low high) (omega arith)

  decided : low < t → t ≤ high → (without with r : Bool) → without ≡ may 0 (n - 1) value free → with ≡ may 1 (n - 1) value free
      → r ≡ either_way without with (value % t) (free % t) low (high - t) → r ≡ rules.reaches 64 v f l h
  decided lt le without with r is_without is_with e =
      rw (at_top, one_has (n - 1) value free low high (rw is_top at lt) (rw is_top at le)) (rw (is_without, is_with, is_top) at e)

  -- neither bound has the bit
  module _ (without : Bool) (is_without : without ≡ may 0 (n - 1) value free) (lt : low < t) (lt' : high < t) where
    abbrev lacking : rules.reaches 64 v f l h ≡ without && rules.reaches (n - 1) (value % t) (free % t) low high
    lacking = rw (is_without, is_top) (at_top ∙ neither_has (n - 1) value free low high (rw is_top at lt) (rw is_top at lt'))

    none_lacks : not without ≡ true → false ≡ rules.reaches 64 v f l h
    none_lacks none = rw (lacking, not-true without none) refl

    all_lack : not without ≡ false → Left v f l h (value % t) (free % t) low high (n - 1)
    all_lack all = let short = left.short in record { short = omega arith; same = sym (lacking ∙ rw (not-false without all) refl) }

  -- both have it
  module _ (with : Bool) (is_with : with ≡ may 1 (n - 1) value free) (le : t ≤ low) where
    abbrev having : rules.reaches 64 v f l h ≡ with && rules.reaches (n - 1) (value % t) (free % t) (low - t) (high - t)
    having = rw (is_with, is_top) (at_top ∙ both_have (n - 1) value free low high (rw is_top at le))

    none_has : not with ≡ true → false ≡ rules.reaches 64 v f l h
    none_has none = rw (having, not-true with none) refl

    all_have : not with ≡ false → (above : ℕ) → above ≡ high - t → Left v f l h (value % t) (free % t) (low - t) above (n - 1)
    all_have all above e =
        let short = left.short in record { short = omega arith; same = sym (having ∙ rw (not-false with all, e) refl) }

only_zero : (x : ℕ) → eqb x 0 ≡ leb x 0
only_zero zero = refl
only_zero (suc x) = eqb-suc-zero x ∙ sym (leb-suc-zero x)

settled : (v f l h value free low high n : ℕ) → Left v f l h value free low high n → n ≤ 0 → eqb low 0 ≡ rules.reaches 64 v f l h
unfolding rules.reaches
settled v f l h value free low high n left none =
    let z : n ≡ 0 = omega arith in
    only_zero low ∙ rw z at left.same

pub returns-then-top-high : goal.returns-then-top-high
returns-then-top-high c = search (rules, decided)

pub returns-then-not-without : goal.returns-then-not-without
returns-then-not-without c = search (rules, none_lacks)

pub loop-n-preserved-then-low-top : goal.loop-n-preserved-then-low-top
loop-n-preserved-then-low-top c = search (rules, all_lack)

pub returns-then-not-with : goal.returns-then-not-with
returns-then-not-with c = search (rules, none_has)

pub loop-n-preserved : goal.loop-n-preserved
loop-n-preserved c = search (rules, all_have)

pub returns : goal.returns
returns c = search (rules, settled)
