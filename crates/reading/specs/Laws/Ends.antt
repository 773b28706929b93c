-- Laws of the search for the end of an action, one token after the other.
use Rattle.std.specs.Prelude.{ℕ, zero, suc, ◌+◌, ◌<◌, ◌≤◌, ◌≡◌, refl, Bool, true, false, List, eqb, drop}
use Rattle.std.proofs.Common.{sym, ap, ◌∙◌, arith, eqb-true, eq-eqb, ne_eqb}
use Rattle.std.proofs.lemmas.Bool.{false≢true}
use Rattle.rules.specs.Text.Tokens.{END, kind_no}
use Rattle.records.specs.Holds.{kind_byte}
use Rattle.table.specs.Scans.{deeper, down, halts, outermost, stops}
use Rattle.table.specs.Laws.Scans.{scan_found, scan_on, scan_end}
use Rattle.laws_accepted.proofs.Accepted.Named.{and_both}
use Rattle.reading.specs.Kinds.{ends, closes}
use Rattle.reading.specs.Reading.{Kinded}
use Rattle.reading.specs.Behind.{behind, ComesTo}
use Rattle.reading.specs.Laws.Reading.{next_token, no_more}

-- what is left to read comes to the same place
pub record Seeking (records : List ℕ) (n from d i : ℕ) : Type 0 where
  pub low : d + from ≤ i
  pub few : Kinded records n
  pub left : (v : Kinded records n) → behind d (drop i v.tokens) ≡ behind 0 (drop from v.tokens)

pub seek_from : {records : List ℕ} {n : ℕ} (from : ℕ) → Kinded records n → Seeking records n from 0 from
seek_from from k = record { low = omega arith; few = k; left = λ v. refl }

outside : (d : ℕ) → outermost d ≡ true → d ≡ 0
outside zero e = refl
outside (suc d) e = absurd (false≢true e)

ends_outside : (d k : ℕ) → ends d k ≡ true → d ≡ 0
unfolding halts
ends_outside d k e = outside d (and_both (stops 0 k) (outermost d) e).1

-- the END of the action's own block leaves nothing open
closes_all : (d k : ℕ) → closes d k ≡ true → deeper d k ≡ 0
unfolding closes deeper
closes_all d k e =
    let h = and_both (eqb k (kind_no END)) (outermost (down d)) e in
    let z : k ≡ kind_no END = eqb-true k (kind_no END) h.0 in
    rw (ne_eqb k 19 (λ y. omega arith), eq-eqb k 20 z, deeper) (outside (down d) h.1)

module _ {records : List ℕ} {n from d i : ℕ} (inv : Seeking records n from d i) where
  pub found_end : {k : ℕ} {r : Bool} → i < n → k ≡ kind_byte records i → r ≡ ends d k → r ≡ true
      → (v : Kinded records n) → drop i v.tokens ≡ behind 0 (drop from v.tokens)
  found_end h e q t v =
      let x = next_token v i h in
      let y : ends d _ ≡ true = sym (ap (ends d) (e ∙ v.kind i h)) ∙ (sym q ∙ t) in
      x ∙ (sym (scan_found 0 d _ _ y) ∙ (sym (ap (behind d) x) ∙ inv.left v))

  pub seek_on : {k e : ℕ} {r : Bool} → i < n → k ≡ kind_byte records i → r ≡ ends d k → r ≡ false → e ≡ deeper d k → e ≤ d + 1 → Seeking records n from e (i + 1)
  seek_on h q s f e l = record {
    low = omega (arith, inv.low);
    few = inv.few;
    left = λ v.
        let x = next_token v i h in
        let y : ends d _ ≡ false = sym (ap (ends d) (q ∙ v.kind i h)) ∙ (sym s ∙ f) in
        ap (λ (z : ℕ). behind z (drop (i + 1) v.tokens)) (e ∙ ap (deeper d) (q ∙ v.kind i h))
        ∙ (sym (scan_on 0 d _ _ y) ∙ (sym (ap (behind d) x) ∙ inv.left v));
  }

  pub seek_ended : n ≤ i → (v : Kinded records n) → drop i v.tokens ≡ behind 0 (drop from v.tokens)
  seek_ended h v = let x = no_more v i h in x ∙ (sym (scan_end 0 d) ∙ (sym (ap (behind d) x) ∙ inv.left v))

  -- a token from which a search outside of blocks comes to the same end
  pub comes_here : {k : ℕ} {r : Bool} → k ≡ kind_byte records i → r ≡ ends d k → r ≡ true → ComesTo records n from i
  comes_here {k} e q t =
      let z = ends_outside d k (sym q ∙ t) in
      record { past = omega (arith, inv.low); same = λ v. ap (λ (x : ℕ). behind x (drop i v.tokens)) (sym z) ∙ inv.left v }

  pub comes_behind : {k : ℕ} {r c : Bool} → i < n → k ≡ kind_byte records i → r ≡ ends d k → r ≡ false → c ≡ closes d k → c ≡ true → ComesTo records n from (i + 1)
  comes_behind {k} h q s f o t =
      let x = seek_on h q s f (sym (closes_all d k (sym o ∙ t))) (omega arith) in
      record { past = omega (arith, inv.low); same = x.left }

  pub comes_to_nothing : n ≤ i → ComesTo records n from i
  comes_to_nothing h = record {
    past = omega (arith, inv.low);
    same = λ v. ap (behind 0) (no_more v i h) ∙ (scan_end 0 0 ∙ (sym (no_more v i h) ∙ seek_ended h v));
  }
