-- A text and two lent names: the answer that is computed is one that the call may give, and there is no other.
use Rattle.std.specs.Prelude.{ℕ, ◌≡◌, List}
use Rattle.std.proofs.Common.{sym, ◌∙◌, ap, subst, arith}
use Rattle.std.proofs.Math.Option.{Option, none, some}
use Rattle.rules.specs.Text.Scan.{scan}
use Rattle.rules.specs.Grammar.Trees.{Description, flatten}
use Rattle.rules.specs.Declarations.{Word, declarations}
use Rattle.laws_orders.proofs.Orders.Orderly.{Orderly}
use Rattle.rules.specs.Answers.{Verdict, Checks, accepted, refused}
use Rattle.laws_grammar.specs.Grammar.Exact.{unique}
use Rattle.laws_grammar.specs.Answers.{description_of, description_of_lem, check, checked, one_verdict, accepted_iff_lawful}
use Rattle.laws_accepted.proofs.Accepted.Orderly.{accepted_orderly}
use Rattle.rules.specs.Paths.{Profile, fails, Profiles, folded, ProfileAnswers, not_accepted, profiled}
use Rattle.paths.specs.Cited.Early.{profile}
use Rattle.paths.proofs.Verdict.{right, one_answer}

-- the answer of a text
abbrev pub by_description : Option Description → Word → Word → Profile
by_description none test output = fails 0 0
by_description (some d) test output = profile (declarations d) test output

abbrev pub by_verdict : Verdict → Option Description → Word → Word → Profile
by_verdict (refused m p) d test output = fails m p
by_verdict (accepted n w) d test output = by_description d test output

unfoldable pub answer : List ℕ → List ℕ → List ℕ → Profile
answer text test output = by_verdict (check text) (description_of (scan text).tokens) (folded test) (folded output)

-- a description that is accepted is orderly
pub accepted_is_orderly : (text : List ℕ) (n w : ℕ) → Checks text (accepted n w) → (d : Description) → flatten d ≡ (scan text).tokens → Orderly (declarations d)
accepted_is_orderly text n w c d stands =
    let l = (accepted_iff_lawful text n w).0 c in
    subst (λ x. Orderly (declarations x)) (unique l.description d (l.stands ∙ sym stands)) (accepted_orderly l.description n w l.faultless)

answered_by : (text test output : List ℕ) (v : Verdict) → Checks text v → ProfileAnswers text test output (by_verdict v (description_of (scan text).tokens) (folded test) (folded output))
answered_by text test output (refused m p) c = not_accepted c
answered_by text test output (accepted n w) c =
    let l = (accepted_iff_lawful text n w).0 c in
    let d = l.description in
    let found : description_of (scan text).tokens ≡ some d = ap description_of (sym l.stands) ∙ description_of_lem d in
    let fits : Profiles (declarations d) (folded test) (folded output) (profile (declarations d) (folded test) (folded output)) =
    right (declarations d) (folded test) (folded output) (accepted_is_orderly text n w c d l.stands) in
    subst (λ x. ProfileAnswers text test output (by_description x (folded test) (folded output))) (sym found) (profiled d l.stands c fits)

pub answered : (text test output : List ℕ) → ProfileAnswers text test output (answer text test output)
unfolding answer
answered text test output = answered_by text test output (check text) (checked text)

pub only_answer : (text test output : List ℕ) {x y : Profile} → ProfileAnswers text test output x → ProfileAnswers text test output y → x ≡ y
only_answer text test output (not_accepted {m} {p} a) (not_accepted {m = k} {p = q} b) = let e = one_verdict text a b in cc
only_answer text test output (not_accepted a) (profiled d s b z) = let e = one_verdict text a b in let z : ◌≡◌ {A = ℕ} 0 1 = cc in absurd (omega arith)
only_answer text test output (profiled d s a z) (not_accepted b) = let e = one_verdict text a b in let z : ◌≡◌ {A = ℕ} 0 1 = cc in absurd (omega arith)
only_answer text test output (profiled {a = x} d s a z) (profiled f t b y) =
    let same : d ≡ f = unique d f (s ∙ sym t) in
    one_answer (declarations f) (folded test) (folded output) (subst (λ k. Profiles (declarations k) (folded test) (folded output) x) same z) y
