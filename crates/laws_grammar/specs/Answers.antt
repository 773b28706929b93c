-- The answers of Check and Run: each text has one, it is computed, and a text is accepted exactly when the rules allow it.
use Rattle.std.specs.Prelude.{ℕ, ◌≤◌, ◌≡◌, refl, Bool, true, false, List, [], ◌∷◌, ◌↔◌, leb, length}
use Rattle.std.proofs.Common.{sym, ◌∙◌, subst, arith, le-leb}
use Rattle.std.proofs.Math.Path.{ap}
use Rattle.std.proofs.Math.Option.{Option, none, some, map}
use Rattle.std.proofs.Math.Decide.{dec_lt}
use Rattle.std.proofs.lemmas.Bool.{lt-leb}
use Rattle.rules.specs.Text.Scan.{scan, End, fine, refuse}
use Rattle.rules.specs.Limits.{longest_text}
use Rattle.rules.specs.Grammar.Trees.{Tokens, Description, flatten}
use Rattle.rules.specs.Grammar.Verdict.{Crowded}
use Rattle.laws_grammar.specs.Cited.Answer.{Answer, accepted, refused20, refused21}
use Rattle.laws_grammar.specs.Grammar.Answer.{Right, Accepted}
use Rattle.rules.specs.Declarations.{declarations}
use Rattle.rules.specs.Answers.{Verdict, accepted as passes, refused, judgement, place_of, Checks, too_long, unreadable, no_description, too_deep, judged}
use Rattle.rules.specs.Answers.{Lawful, Result, refusal, run_on, Runs, not_accepted, ran}
use Rattle.laws_grammar.specs.Cited.Rows.{title, recognise}
use Rattle.laws_grammar.specs.Grammar.Meanings.{stack_l}
use Rattle.laws_grammar.specs.Grammar.Reading.{read}
use Rattle.laws_grammar.specs.Grammar.Complete.{complete}
use Rattle.laws_grammar.specs.Grammar.Exact.{right, only}

-- the description that tokens stand for
unfoldable pub description_of : Tokens → Option Description
description_of ts = map (λ x. x.0) (read ts (title ∷ []))

pub description_of_lem : (d : Description) → description_of (flatten d) ≡ some d
unfolding description_of
description_of_lem d = let x : (stack_l (title ∷ [])).tree = (d, tt) in ap (map (λ y. y.0)) (complete (title ∷ []) x)

-- Check, computed from left to right
abbrev by_tree : Option Description → Verdict
by_tree none = refused 0 0
by_tree (some d) = judgement d

abbrev by_grammar : Answer → List ℕ → Tokens → Verdict
by_grammar (refused20 k) text ts = refused 20 (place_of text ts k)
by_grammar (refused21 k) text ts = refused 21 (place_of text ts k)
by_grammar accepted text ts = by_tree (description_of ts)

abbrev by_end_of : End → List ℕ → Tokens → Verdict
by_end_of (refuse m p) text ts = refused m p
by_end_of fine text ts = by_grammar (recognise ts) text ts

abbrev by_size : Bool → List ℕ → Verdict
by_size true text = by_end_of (scan text).end text (scan text).tokens
by_size false text = refused 2 0

unfoldable pub check : List ℕ → Verdict
check text = by_size (leb (length text) longest_text) text

-- what the rules allow is what is computed
module _ (text : List ℕ) where
  ended : (e : End) → length text ≤ longest_text → (scan text).end ≡ e → check text ≡ by_end_of e text (scan text).tokens
  unfolding check
  ended e short q = ap (λ b. by_size b text) (le-leb _ _ short) ∙ ap (λ x. by_end_of x text (scan text).tokens) q

  recognised : (a : Answer) → length text ≤ longest_text → (scan text).end ≡ fine → Right (scan text).tokens a → check text ≡ by_grammar a text (scan text).tokens
  recognised a short q r =
      ended fine short q
      ∙ ap (λ x. by_grammar x text (scan text).tokens) (only (scan text).tokens (recognise (scan text).tokens) a (right (scan text).tokens) r)

  of_description : (d : Description) → flatten d ≡ (scan text).tokens → ((j : ℕ) → ¬ Crowded (flatten d) j) → Accepted (scan text).tokens
  of_description d e shallow = subst Accepted e (record { whole = (d, refl); shallow = shallow })

  computed : {v : Verdict} → Checks text v → check text ≡ v
  computed (too_long h) = unfold check in ap (λ b. by_size b text) (lt-leb _ _ h)
  computed (unreadable {m} {p} short q) = ended (refuse m p) short q
  computed (no_description {k} short q r) = recognised (refused20 k) short q r
  computed (too_deep {k} short q r) = recognised (refused21 k) short q r
  computed (judged d short q e shallow) =
      recognised accepted short q (of_description d e shallow) ∙ ap (λ ts. by_tree (description_of ts)) (sym e) ∙ ap by_tree (description_of_lem d)

  -- ONE: two answers that Check may give to a text are the same
  pub one_verdict : {v w : Verdict} → Checks text v → Checks text w → v ≡ w
  one_verdict x y = sym (computed x) ∙ computed y

  -- SOME: it may give the one that is computed
  by_answer : (a : Answer) → length text ≤ longest_text → (scan text).end ≡ fine → Right (scan text).tokens a → Checks text (by_grammar a text (scan text).tokens)
  by_answer (refused20 k) short q r = no_description short q r
  by_answer (refused21 k) short q r = too_deep short q r
  by_answer accepted short q r =
      let d = r.whole.0 in
      let e = r.whole.1 in
      let same : by_tree (description_of (scan text).tokens) ≡ judgement d = ap (λ ts. by_tree (description_of ts)) (sym e) ∙ ap by_tree (description_of_lem d) in
      subst (Checks text) (sym same) (judged d short q e (subst (λ ts. (j : ℕ) → ¬ Crowded ts j) (sym e) r.shallow))

  by_end : (e : End) → length text ≤ longest_text → (scan text).end ≡ e → Checks text (by_end_of e text (scan text).tokens)
  by_end (refuse m p) short q = unreadable short q
  by_end fine short q = by_answer (recognise (scan text).tokens) short q (right (scan text).tokens)

  pub checked : Checks text (check text)
  checked =
      elim (dec_lt longest_text (length text)) [
        | yes h ↦ subst (Checks text) (sym (computed (too_long h))) (too_long h)
        | no n ↦ let short : length text ≤ longest_text = omega arith in
            subst (Checks text) (sym (ended (scan text).end short refl)) (by_end (scan text).end short refl)
      ]

-- ACCEPTED: exactly the texts that the rules allow
no_refusal : {A : Type 0} {m p n w : ℕ} → refused m p ≡ passes n w → A
no_refusal e = let z : ◌≡◌ {A = ℕ} 0 1 = cc in absurd (omega arith)

module _ {text : List ℕ} {n w : ℕ} where
  lawful : {v : Verdict} → v ≡ passes n w → Checks text v → Lawful text n w
  lawful e (too_long h) = no_refusal e
  lawful e (unreadable short q) = no_refusal e
  lawful e (no_description short q r) = no_refusal e
  lawful e (too_deep short q r) = no_refusal e
  lawful e (judged d short q s shallow) = record { description = d; short = short; readable = q; stands = s; shallow = shallow; faultless = e }

pub accepted_iff_lawful : (text : List ℕ) (n w : ℕ) → Checks text (passes n w) ↔ Lawful text n w
accepted_iff_lawful text n w =
    (lawful refl, λ l. subst (Checks text) l.faultless (judged l.description l.short l.readable l.stands l.shallow))

-- Run, computed
abbrev by_description : Option Description → List ℕ → ℕ → Result
by_description none buffer budget = refusal 0 0
by_description (some d) buffer budget = run_on (declarations d) buffer budget

abbrev by_verdict : Verdict → Tokens → List ℕ → ℕ → Result
by_verdict (refused m p) ts buffer budget = refusal m p
by_verdict (passes n w) ts buffer budget = by_description (description_of ts) buffer budget

unfoldable pub runs : List ℕ → List ℕ → ℕ → Result
runs text buffer budget = by_verdict (check text) (scan text).tokens buffer budget

module _ (text buffer : List ℕ) (budget : ℕ) where
  run_computed : {r : Result} → Runs text buffer budget r → runs text buffer budget ≡ r
  unfolding runs
  run_computed (not_accepted c) = ap (λ v. by_verdict v (scan text).tokens buffer budget) (computed text c)
  run_computed (ran d e c) =
      ap (λ v. by_verdict v (scan text).tokens buffer budget) (computed text c)
      ∙ ap (λ ts. by_description (description_of ts) buffer budget) (sym e) ∙ ap (λ o. by_description o buffer budget) (description_of_lem d)

  pub one_result : {r q : Result} → Runs text buffer budget r → Runs text buffer budget q → r ≡ q
  one_result x y = sym (run_computed x) ∙ run_computed y

  run_by : (v : Verdict) → Checks text v → Runs text buffer budget (by_verdict v (scan text).tokens buffer budget)
  run_by (refused m p) c = not_accepted c
  run_by (passes n w) c =
      let l = lawful refl c in
      let d = l.description in
      let same : by_description (description_of (scan text).tokens) buffer budget ≡ run_on (declarations d) buffer budget
      = ap (λ ts. by_description (description_of ts) buffer budget) (sym l.stands) ∙ ap (λ o. by_description o buffer budget) (description_of_lem d) in
      subst (Runs text buffer budget) (sym same) (ran d l.stands c)

  pub ran_so : Runs text buffer budget (runs text buffer budget)
  unfolding runs
  ran_so = run_by (check text) (checked text)
