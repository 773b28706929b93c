-- Laws of the reason of a verdict.
use Rattle.std.specs.Prelude.{ℕ, ◌≡◌, List, set, Option as Found}
use Rattle.std.proofs.Common.{sym, ap, ◌∙◌, arith}
use Rattle.rules.specs.Text.Scan.{scan}
use Rattle.rules.specs.Grammar.Trees.{Description, flatten}
use Rattle.rules.specs.Declarations.{declarations}
use Rattle.rules.specs.Answers.{Verdict, accepted, refused, Checks}
use Rattle.rules.specs.Calls.Check.{verdict_number}
use Rattle.rules.specs.Reasons.{no_reason, racing, reason53, reason51, unexplained, by_race, by_chain}
use Rattle.rules.specs.Reasons.{Reason as Said}
use Rattle.rules.specs.Calls.Why.{padded, reason_numbers}
use Rattle.racing.specs.Told.{reason_in}
use Rattle.racing.specs.declared.telling.Race.{Race}
use Rattle.reasons.specs.Laws.Whole.{whole_refused}
use Rattle.explaining.specs.Reasons.{verdict_place, Judged, Gives, Explained}

-- the numbers of a race, by its case
pub numbers_by : {r q : Found Race} {ns : List ℕ} → ns ≡ reason_numbers (reason_in q) → r ≡ q → ns ≡ reason_numbers (reason_in r)
numbers_by h e = h ∙ ap (λ (x : Found Race). reason_numbers (reason_in x)) (sym e)

-- a race stands in front of nothing
pub race_front : (ns : List ℕ) (e l c n w : ℕ) → ns ≡ reason_numbers no_reason
    → set (set (set (set (set (set ns 0 1) 1 e) 2 l) 3 c) 4 n) 5 w ≡ reason_numbers (racing e l c n w)
unfolding padded reason_numbers
race_front ns e l c n w h = ap (λ (x : List ℕ). set (set (set (set (set (set x 0 1) 1 e) 2 l) 3 c) 4 n) 5 w) h

-- a verdict with a number is a refusal at its place
refusal_is : (v : Verdict) (m p : ℕ) → m ≡ verdict_number v → p ≡ verdict_place v → (m ≡ 0 → ⊥) → v ≡ refused m p
refusal_is (accepted n w) m p e f h = absurd (h e)
refusal_is (refused n q) m p e f h = cc

module _ {text : List ℕ} {number place : ℕ} where
  pub refused_with : (k : ℕ) → (k ≡ 0 → ⊥) → number ≡ k → Judged text number place → Checks text (refused k place)
  refused_with k h e j = rw (refusal_is j.verdict k place (sym e ∙ j.number_is) j.place_is h) at j.checks

  pub with_race : {said : Said} {ns : List ℕ} → number ≡ 53
      → ((d : Description) → flatten d ≡ (scan text).tokens → said ≡ reason53 (declarations d) place) → ns ≡ reason_numbers said → Explained text number place ns
  with_race {said} {ns} e h n = record { gives = λ j. by j.verdict j.checks (refusal_is j.verdict 53 place (sym e ∙ j.number_is) j.place_is (λ z. omega arith)) }
    where
      by : (v : Verdict) → Checks text v → v ≡ refused 53 place → Gives text v ns
      by v c q =
          let w = whole_refused (omega arith) q c in
          rw q (record { reason = reason53 (declarations w.description) place; explains = by_race w.description w.stands; numbers = n ∙ ap reason_numbers (h w.description w.stands) })

  pub with_chain : {ns : List ℕ} → number ≡ 51
      → ((d : Description) → flatten d ≡ (scan text).tokens → ns ≡ reason_numbers (reason51 (declarations d) place)) → Explained text number place ns
  with_chain {ns} e h = record { gives = λ j. by j.verdict j.checks (refusal_is j.verdict 51 place (sym e ∙ j.number_is) j.place_is (λ z. omega arith)) }
    where
      by : (v : Verdict) → Checks text v → v ≡ refused 51 place → Gives text v ns
      by v c q =
          let w = whole_refused (omega arith) q c in
          rw q (record { reason = reason51 (declarations w.description) place; explains = by_chain w.description w.stands; numbers = h w.description w.stands })

  pub without : {ns : List ℕ} → (number ≡ 53 → ⊥) → (number ≡ 51 → ⊥) → ns ≡ reason_numbers no_reason → Explained text number place ns
  without a b n = record {
    gives = λ j. record { reason = no_reason; explains = unexplained (λ e. a (j.number_is ∙ e)) (λ e. b (j.number_is ∙ e)); numbers = n };
  }
