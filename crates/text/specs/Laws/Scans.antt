-- Laws of a scan from a place on: what the lexeme there makes of it.
use Rattle.std.specs.Prelude.{◌≡◌, refl, List, [], ◌∷◌, ℕ, zero, suc, ◌+◌, ◌-◌, ◌<◌, ◌≤◌, length, get_or, drop}
use Rattle.std.proofs.Common.{ap, ◌∙◌, add-zero, arith, drop_of_length-le, drop-drop}
use borrow.Author.Tests.{lt-ltb}
use Rattle.rules.specs.Text.Tokens.{Token}
use Rattle.rules.specs.Text.Scan.{Scan, scan_from, lexeme, no_lexeme, token, bad_lexeme, scan_end, followed, fine, refuse}
use Rattle.classes.specs.Laws.Runs.{drop_from}

skip : (p k n : ℕ) (bs : List ℕ) → scan_from p k n bs ≡ scan_from (p + n) k 0 (drop n bs)
unfolding scan_from
skip p k zero bs = rw add-zero
skip p k (suc n) [] = refl
skip p k (suc n) (b ∷ bs) = skip (p + 1) k n bs ∙ ap (λ (q : ℕ). scan_from q k 0 (drop n bs)) (omega arith)

-- the scan of a text from a place on, with k more tokens allowed
abbrev pub from : List ℕ → ℕ → ℕ → Scan
from text at k = scan_from at k 0 (drop at text)

pub from_end : (text : List ℕ) (at k : ℕ) → length text ≤ at → from text at k ≡ scan_end fine
unfolding scan_from
from_end text at k h = rw (drop_of_length-le text h)

module _ (text : List ℕ) (at : ℕ) (h : at < length text) where
  abbrev here : ℕ → ℕ → Scan
  here k n = scan_from (at + 1) k n (drop (at + 1) text)

  passed : (k n : ℕ) → here k n ≡ from text (at + (n + 1)) k
  passed k n =
      skip (at + 1) k n (drop (at + 1) text)
      ∙ ap (scan_from (at + 1 + n) k 0) (drop-drop n (at + 1) text)
      ∙ ap (λ (q : ℕ). from text q k) (omega arith)

  pub from_nothing : (k n : ℕ) → lexeme at (get_or text at 0) (drop (at + 1) text) ≡ no_lexeme n → from text at k ≡ from text (at + (n + 1)) k
  unfolding scan_from
  from_nothing k n e = rw (drop_from text at h, scan_from, e) (passed k n)

  module _ (k n : ℕ) (t : Token) (e : lexeme at (get_or text at 0) (drop (at + 1) text) ≡ token n t) where
    pub from_token : 0 < k → from text at k ≡ followed t (from text (at + (n + 1)) (k - 1))
    unfolding scan_from
    from_token l = rw (drop_from text at h, scan_from, e, lt-ltb 0 k l) (ap (followed t) (passed (k - 1) n))

    pub from_full : k ≡ 0 → from text at k ≡ scan_end (refuse 13 at)
    unfolding scan_from
    from_full l = rw (drop_from text at h, scan_from, e, l)

  pub from_refused : (k m : ℕ) → lexeme at (get_or text at 0) (drop (at + 1) text) ≡ bad_lexeme m → from text at k ≡ scan_end (refuse m at)
  unfolding scan_from
  from_refused k m e = rw (drop_from text at h, scan_from, e)
