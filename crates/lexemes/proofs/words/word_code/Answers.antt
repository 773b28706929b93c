-- `lexemes::words::word_code` meets its contract: the number so far is that of the bytes passed, which are the last ones.
-- Assumes nothing.
use borrow.Author.Rules.{rules}
use native.Mathlib.Omega.{arith}
use native.Mathlib.Nat.{pow-le-pow_right, pow-succ'}
use mathlib.Core.Path.{◌≡◌, ap, ◌∙◌}
use mathlib.Core.List.{List, ◌∷◌, map}
use Prim.Native.Nat.{ℕ, suc, ◌+◌, ◌-◌, ◌*◌, ◌^◌, ◌<◌, ◌≤◌}
use lib.ListN.{length, get_or}
use lib.Seq.{slice, slice_empty, slice-cons}
use Rattle.rules.specs.Text.Bytes.{fold}
use Rattle.lexemes.specs.Codes.{code_of, word_digit, word_code}
use Rattle.lexemes.proofs.words.word_code.Invariants.{Inv}
use Rattle.lexemes.proofs.words.word_code.Goals as goal

starts : (text : List ℕ) (at end : ℕ) → at ≤ end → Inv text at end 0 end
unfolding code_of
starts text at end h = record {
  low = h;
  high = omega arith;
  small = let e : end - end ≡ 0 = omega arith in rw e (omega arith);
  so_far = rw (slice_empty end text);
}

module _ {text : List ℕ} {at end code i : ℕ} (inv : Inv text at end code i) where
  bounded : at < i → end ≤ at + 9 → code < 64 ^ 9
  bounded h short = omega (arith, inv.small, pow-le-pow_right {n = 64} (omega arith) {i = end - i} {j = 9} (omega (arith, inv.low)))

  passed : {d : ℕ} → at < i → end ≤ length text → d ≡ word_digit (fold (get_or text (i - 1) 0)) → d < 64 → Inv text at end (d + 64 * code) (i - 1)
  unfolding code_of
  passed {d} h within e u =
      let next : suc (i - 1) ≡ i = omega arith in
      let more : end - (i - 1) ≡ suc (end - i) = omega (arith, inv.high) in
      let whole : slice (i - 1) end text ≡ get_or text (i - 1) 0 ∷ slice i end text
      = slice-cons (i - 1) end text 0 (omega (arith, inv.high)) within ∙ ap (λ (n : ℕ). get_or text (i - 1) 0 ∷ slice n end text) next in
      record {
        low = omega arith;
        high = omega (arith, inv.high);
        small = rw more (omega (arith, inv.small, pow-succ' 64 (end - i)));
        so_far = rw (whole, e) (ap (λ (n : ℕ). word_digit (fold (get_or text (i - 1) 0)) + 64 * n) inv.so_far);
      }

  ended : i ≤ at → code ≡ word_code (map fold (slice at end text))
  ended h = let e : i ≡ at = omega (arith, inv.low) in rw e at inv.so_far

pub loop-i-init : goal.loop-i-init
loop-i-init c = search (rules, starts)

pub overflow_mul-code : goal.overflow_mul-code
overflow_mul-code c = omega (arith, bounded c.loop-i.invariant (omega arith) (omega arith))

pub overflow_add-code : goal.overflow_add-code
overflow_add-code c = omega (arith, bounded c.loop-i.invariant (omega arith) (omega arith))

pub loop-i-preserved : goal.loop-i-preserved
loop-i-preserved c = search (rules, passed)

pub returns : goal.returns
returns c = search (rules, ended)
