-- `lexemes::constants::based_value` meets its contract: with one digit at least and 64 bits at most, the constant is what its digits come to.
-- Assumes nothing.
use borrow.Author.Rules.{rules}
use borrow.Author.Tests.{lt-ltb, le-ltb, le-leb, lt-leb}
use native.Mathlib.Omega.{arith}
use mathlib.Core.Path.{◌≡◌, sym, ap, ◌∙◌}
use mathlib.Core.Bool.{Bool, ◌&&◌, and-false, and-true}
use mathlib.Core.List.{List}
use Prim.Native.Nat.{ℕ, ◌-◌, ◌*◌, ◌^◌, ◌<◌, ◌≤◌}
use lib.Dec.{ltb, leb}
use lib.ListN.{length}
use lib.Pow.{pow_mono}
use lib.Seq.{slice, length-slice}
use Rattle.rules.specs.Text.Constants.{malformed, based, all, is_based_digit, value_from, free_from}
use Rattle.lexemes.specs.Laws.Bounds.{pow_times}
use Rattle.lexemes.specs.Numbers.{number_of, known, based_digits}
use Rattle.lexemes.specs.Laws.Numbers.{known_by}
use Rattle.lexemes.specs.declared.constants.Number.{Number}
use Rattle.std.specs.Prelude.{Option, None}
use Rattle.lexemes.proofs.constants.based_value.Goals as goal

module _ (n : ℕ) (ds : List ℕ) where
  sound : Bool
  sound = all (is_based_digit (2 ^ n)) ds

  law : based n ds ≡ known (sound && (ltb 0 (length ds) && leb (n * length ds) 64)) (value_from (2 ^ n) 0 ds) (free_from (2 ^ n) 0 ds) (n * length ds)
  unfolding sound based
  law = sym (known_by (sound && (ltb 0 (length ds) && leb (n * length ds) 64)) (value_from (2 ^ n) 0 ds) (free_from (2 ^ n) 0 ds) (n * length ds))

  none : length ds ≡ 0 → based n ds ≡ malformed
  none e = law ∙ rw (le-ltb 0 (length ds) (omega arith), and-false sound)

  over : 64 < n * length ds → based n ds ≡ malformed
  over h = law ∙ rw (lt-leb (n * length ds) 64 h, and-false (ltb 0 (length ds)), and-false sound)

  within : 0 < length ds → n * length ds ≤ 64 → based n ds ≡ based_digits (2 ^ n) (n * length ds) ds
  unfolding sound
  within some h = law ∙ rw (lt-ltb 0 (length ds) some, le-leb (n * length ds) 64 h, and-true sound)

module _ (text : List ℕ) (from end n : ℕ) (inside : end ≤ length text) where
  ds : List ℕ
  ds = slice from end text

  size : length ds ≡ end - from
  unfolding ds
  size = length-slice from end text inside

  empty : end - from ≡ 0 → None ≡ number_of (based n (slice from end text))
  unfolding ds
  empty e = ap number_of (sym (none n ds (size ∙ e)))

  module _ {bits : ℕ} (e : bits ≡ n * (end - from)) where
    long : 64 < bits → None ≡ number_of (based n (slice from end text))
    unfolding ds
    long h = ap number_of (sym (over n ds (rw size (omega arith))))

    fits : {base : ℕ} → base ≡ 2 ^ n → bits ≤ 64 → base ^ (end - from) ≤ 2 ^ 64
    fits b h = rw (b, pow_times) (pow_mono {i = n * (end - from)} {j = 64} (omega arith))

    whole : {base : ℕ} {r : Option Number} → (end - from ≡ 0 → ⊥) → base ≡ 2 ^ n → bits ≤ 64 → r ≡ number_of (based_digits base bits (slice from end text))
        → r ≡ number_of (based n (slice from end text))
    unfolding ds
    whole {base} {r} some b h x =
        let same : based n ds ≡ based_digits base bits ds = within n ds (rw size (omega arith)) (rw size (omega arith)) ∙ rw (b, e, size) in
        x ∙ ap number_of (sym same)

pub returns-then-count-eq0 : goal.returns-then-count-eq0
returns-then-count-eq0 c = search (rules, empty)

pub returns-then-bits : goal.returns-then-bits
returns-then-bits c = search (rules, long)

pub based_digits-requires : goal.based_digits-requires
based_digits-requires c = search (rules, fits)

pub returns : goal.returns
returns c = search (rules, whole)
