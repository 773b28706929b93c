-- A text that is refused with a number of the 50s has a description without faults of the 30s and 40s, and that fault is its least of the 50s.
use Rattle.std.specs.Prelude.{ℕ, ◌<◌, ◌≤◌, ◌≡◌, refl, List, [], ◌∷◌, ◌⊎◌, length}
use Rattle.std.proofs.Common.{sym, ap, subst, inl, inr, arith}
use Rattle.std.proofs.Math.Option.{Option, none, some}
use Rattle.rules.specs.Text.Scan.{scan, fine}
use Rattle.rules.specs.Grammar.Trees.{Description, flatten}
use Rattle.rules.specs.Grammar.Verdict.{Crowded}
use Rattle.rules.specs.Declarations.{declarations, outer_name, total_words}
use Rattle.rules.specs.Faults.Fault.{Fault, fault, by_place_of, by_number_of, least}
use Rattle.rules.specs.Faults.Declared.{faults30}
use Rattle.rules.specs.Faults.Bodies.{faults40}
use Rattle.rules.specs.Faults.Whole.{faults50}
use Rattle.rules.specs.Answers.{Verdict, accepted, refused, or_else, judgement, Checks, too_long, unreadable, no_description, too_deep, judged}
use Rattle.rules.specs.Calls.Check.{verdict_number}
use Rattle.laws_orders.proofs.Orders.Tests.{impossible}
use Rattle.reasons.specs.Laws.Refused.{Among, least_among}
use Rattle.reasons.specs.Laws.Below.{under, under_30, under_40}
use Rattle.reasons.specs.Laws.Scanned.{Below20, scanned_below}

pub record WholeRefused (text : List ℕ) (m p : ℕ) : Type 0 where
  pub description : Description
  pub readable : (scan text).end ≡ fine
  pub stands : flatten description ≡ (scan text).tokens
  pub shallow : (j : ℕ) → ¬ Crowded (flatten description) j
  pub of30 : faults30 (outer_name description).word (declarations description) ≡ []
  pub of40 : faults40 (outer_name description).word (declarations description) (declarations description) ≡ []
  pub least_50 : least by_number_of (faults50 (declarations description)) ≡ some (fault m p)
  pub among : Among (fault m p) (faults50 (declarations description))

least_none : (before : Fault → Fault → mathlib.Core.Bool.Bool) (fs : List Fault) → least before fs ≡ none → fs ≡ []
unfolding least
least_none before [] e = refl
least_none before (f ∷ fs) e = impossible (cc)

-- a refusal is the fault in front, or what comes behind it
peeled : (o : Option Fault) (v : Verdict) (m p : ℕ) → or_else o v ≡ refused m p → (o ≡ some (fault m p)) ⊎ ((o ≡ none) × (v ≡ refused m p))
peeled none v m p e = inr (refl, e)
peeled (some f) v m p e = let a : f.number ≡ m = cc in let b : f.place ≡ p = cc in inl (rw (sym a, sym b) refl)

module _ (d : Description) (m p : ℕ) (high : 50 ≤ m) where
  record Left : Type 0 where
    of30 : faults30 (outer_name d).word (declarations d) ≡ []
    of40 : faults40 (outer_name d).word (declarations d) (declarations d) ≡ []
    least_50 : least by_number_of (faults50 (declarations d)) ≡ some (fault m p)

  left_50 : judgement d ≡ refused m p → Left
  unfolding judgement
  left_50 e = by (peeled x (or_else y (or_else z whole)) m p e)
    where
      whole : Verdict
      whole = accepted (length (declarations d)) (total_words (declarations d))

      x : Option Fault
      x = least by_place_of (faults30 (outer_name d).word (declarations d))

      y : Option Fault
      y = least by_place_of (faults40 (outer_name d).word (declarations d) (declarations d))

      z : Option Fault
      z = least by_number_of (faults50 (declarations d))

      low : (fs : List Fault) → least by_place_of fs ≡ some (fault m p) → ((f : Fault) → Among f fs → f.number < 50) → ⊥
      low fs q h = omega (arith, h (fault m p) (least_among by_place_of fs (fault m p) q))

      third : x ≡ none → y ≡ none → (z ≡ some (fault m p)) ⊎ ((z ≡ none) × (whole ≡ refused m p)) → Left
      third a b (inl q) =
          record { of30 = least_none by_place_of (faults30 (outer_name d).word (declarations d)) a; of40 = least_none by_place_of (faults40 (outer_name d).word (declarations d) (declarations d)) b; least_50 = q }
      third a b (inr q) = impossible (let w : accepted (length (declarations d)) (total_words (declarations d)) ≡ refused m p = q.1 in cc)

      second : x ≡ none → (y ≡ some (fault m p)) ⊎ ((y ≡ none) × (or_else z whole ≡ refused m p)) → Left
      second a (inl q) = absurd (low (faults40 (outer_name d).word (declarations d) (declarations d)) q (λ f h. under (faults40 (outer_name d).word (declarations d) (declarations d)) f (under_40 (outer_name d).word (declarations d) (declarations d)) h))
      second a (inr q) = third a q.0 (peeled z whole m p q.1)

      by : (x ≡ some (fault m p)) ⊎ ((x ≡ none) × (or_else y (or_else z whole) ≡ refused m p)) → Left
      by (inl q) = absurd (low (faults30 (outer_name d).word (declarations d)) q (λ f h. under (faults30 (outer_name d).word (declarations d)) f (under_30 (outer_name d).word (declarations d)) h))
      by (inr q) = second q.0 (peeled y (or_else z whole) m p q.1)

-- the number of a refusal, and of a verdict that is one
number_of_lem : {v : Verdict} {m p : ℕ} → v ≡ refused m p → verdict_number v ≡ m
number_of_lem e = ap verdict_number e

pub whole_refused : {text : List ℕ} {v : Verdict} {m p : ℕ} → 50 ≤ m → v ≡ refused m p → Checks text v → WholeRefused text m p
whole_refused h e (too_long l) = absurd (omega (arith, number_of_lem e))
whole_refused {text} h e (unreadable short q) = let b = subst Below20 q (scanned_below text) in absurd (omega (arith, b, number_of_lem e))
whole_refused h e (no_description short q r) = absurd (omega (arith, number_of_lem e))
whole_refused h e (too_deep short q r) = absurd (omega (arith, number_of_lem e))
whole_refused {text} {v} {m} {p} h e (judged d short q s shallow) =
    let l = left_50 d m p h e in
    record {
      description = d;
      readable = q;
      stands = s;
      shallow = shallow;
      of30 = l.of30;
      of40 = l.of40;
      least_50 = l.least_50;
      among = least_among by_number_of (faults50 (declarations d)) (fault m p) l.least_50;
    }
