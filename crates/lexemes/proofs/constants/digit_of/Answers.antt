-- `lexemes::constants::digit_of` meets its contract: each return has the tests of `upper_digit`.
-- Assumes nothing.
use borrow.Author.Rules.{rules}
use borrow.Author.Tests.{ne_eqb, lt-ltb, le-ltb}
use mathlib.Core.Path.{◌≡◌, ap, ◌∙◌}
use Prim.Native.Nat.{ℕ, ◌-◌, ◌<◌, ◌≤◌}
use Rattle.rules.specs.Text.Bytes.{fold}
use Rattle.lexemes.specs.Digits.{upper_digit, digit_no}
use Rattle.lexemes.proofs.constants.digit_of.Goals as goal

module _ (n b : ℕ) (e : n ≡ fold b) where
  of : {r : ℕ} → r ≡ upper_digit n → r ≡ digit_no b
  unfolding digit_no
  of x = x ∙ ap upper_digit e

  query : n ≡ 63 → 16 ≡ digit_no b
  query q = of (rw q)

  module _ (q : n ≡ 63 → ⊥) where
    low : n < 48 → 17 ≡ digit_no b
    low h = of (rw (ne_eqb n 63 q, lt-ltb n 48 h))

    decimal : 48 ≤ n → n < 58 → n - 48 ≡ digit_no b
    decimal l h = of (rw (ne_eqb n 63 q, le-ltb n 48 l, lt-ltb n 58 h))

    between : 48 ≤ n → 58 ≤ n → n < 65 → 17 ≡ digit_no b
    between l m h = of (rw (ne_eqb n 63 q, le-ltb n 48 l, le-ltb n 58 m, lt-ltb n 65 h))

    letter : 48 ≤ n → 58 ≤ n → 65 ≤ n → n < 71 → n - 55 ≡ digit_no b
    letter l m k h = of (rw (ne_eqb n 63 q, le-ltb n 48 l, le-ltb n 58 m, le-ltb n 65 k, lt-ltb n 71 h))

    high : 48 ≤ n → 58 ≤ n → 65 ≤ n → 71 ≤ n → 17 ≡ digit_no b
    high l m k h = of (rw (ne_eqb n 63 q, le-ltb n 48 l, le-ltb n 58 m, le-ltb n 65 k, le-ltb n 71 h))

pub returns-then-n-eq63 : goal.returns-then-n-eq63
returns-then-n-eq63 c = (search (rules, query), search rules)

pub returns-then-n-lt48 : goal.returns-then-n-lt48
returns-then-n-lt48 c = (search (rules, low), search rules)

pub returns-then-n-lt58 : goal.returns-then-n-lt58
returns-then-n-lt58 c = (search (rules, decimal), search rules)

pub returns-then-n-lt65 : goal.returns-then-n-lt65
returns-then-n-lt65 c = (search (rules, between), search rules)

pub returns-then-n-lt71 : goal.returns-then-n-lt71
returns-then-n-lt71 c = (search (rules, letter), search rules)

pub returns : goal.returns
returns c = (search (rules, high), search rules)
