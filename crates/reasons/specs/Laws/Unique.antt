-- A refusal has one reason, and the call that gives it settles all that it was lent.
use Rattle.std.specs.Prelude.{ℕ, ◌≡◌, refl, List}
use Rattle.std.proofs.Common.{sym, ap, ◌∙◌, subst, arith}
use Rattle.rules.specs.Text.Scan.{scan}
use Rattle.rules.specs.Grammar.Trees.{Description, flatten}
use Rattle.rules.specs.Declarations.{declarations}
use Rattle.rules.specs.Answers.{Verdict, refused, verdict_numbers}
use Rattle.rules.specs.Calls.Memory.{Memory, settled}
use Rattle.rules.specs.Calls.Check.{verdict_number}
use Rattle.laws_grammar.specs.Grammar.Exact.{unique}
use Rattle.laws_grammar.specs.Answers.{one_verdict}
use Rattle.rules.specs.Reasons.{Reason, no_reason, reason53, reason51, Explains, unexplained, by_race, by_chain}
use Rattle.rules.specs.Calls.Why.{WhyCall, short_memory, long_text, answer, reasoned}

-- a text has one description
pub one_description : (text : List ℕ) (d e : Description) → flatten d ≡ (scan text).tokens → flatten e ≡ (scan text).tokens → d ≡ e
one_description text d e p q = unique d e (p ∙ sym q)

-- of 53 and of 51
pub race_only : {text : List ℕ} {p : ℕ} {v : Verdict} {r : Reason} (d : Description) → flatten d ≡ (scan text).tokens → v ≡ refused 53 p → Explains text v r
    → r ≡ reason53 (declarations d) p
race_only d s e (unexplained n o) = absurd (n (ap verdict_number e))
race_only {text} {p} d s e (by_race {p = q} f t) =
    let z : q ≡ p = cc in ap (λ (x : Description). reason53 (declarations x) q) (one_description text f d t s) ∙ ap (reason53 (declarations d)) z
race_only d s e (by_chain f t) = let z : ◌≡◌ {A = ℕ} 51 53 = ap verdict_number e in absurd (omega (arith, z))

pub chain_only : {text : List ℕ} {p : ℕ} {v : Verdict} {r : Reason} (d : Description) → flatten d ≡ (scan text).tokens → v ≡ refused 51 p → Explains text v r
    → r ≡ reason51 (declarations d) p
chain_only d s e (unexplained n o) = absurd (o (ap verdict_number e))
chain_only {text} {p} d s e (by_chain {p = q} f t) =
    let z : q ≡ p = cc in ap (λ (x : Description). reason51 (declarations x) q) (one_description text f d t s) ∙ ap (reason51 (declarations d)) z
chain_only d s e (by_race f t) = let z : ◌≡◌ {A = ℕ} 53 51 = ap verdict_number e in absurd (omega (arith, z))

pub one_reason : {text : List ℕ} {v : Verdict} {r q : Reason} → Explains text v r → Explains text v q → r ≡ q
one_reason (by_race d s) y = sym (race_only d s refl y)
one_reason (by_chain d s) y = sym (chain_only d s refl y)
one_reason (unexplained n o) y = by n o y
  where
    by : {text : List ℕ} {v : Verdict} {q : Reason} → (verdict_number v ≡ 53 → ⊥) → (verdict_number v ≡ 51 → ⊥) → Explains text v q → no_reason ≡ q
    by n o (unexplained m p) = refl
    by n o (by_race d s) = absurd (n refl)
    by n o (by_chain d s) = absurd (o refl)

-- the whole call
pub one_why : {text reason left left' : List ℕ} {before after after' : Memory} {n n' : ℕ} → WhyCall text before after reason left n
    → WhyCall text before after' reason left' n' → (n ≡ n') × (after ≡ after') × (left ≡ left')
one_why (short_memory s e a l) (short_memory s' e' a' l') = (e ∙ sym e', a ∙ sym a', l ∙ sym l')
one_why (short_memory s e a l) (long_text m t e' a' l') = absurd (s m)
one_why (short_memory s e a l) (answer v r m t c x e' a' l') = absurd (s m)
one_why (long_text m t e a l) (short_memory s e' a' l') = absurd (s m)
one_why (long_text m t e a l) (long_text m' t' e' a' l') = (e ∙ sym e', a ∙ sym a', l ∙ sym l')
one_why (long_text m t e a l) (answer v r m' t' c x e' a' l') = absurd (omega arith)
one_why (answer v r m t c x e a l) (short_memory s e' a' l') = absurd (s m)
one_why (answer v r m t c x e a l) (long_text m' t' e' a' l') = absurd (omega arith)
one_why {text} {reason} {before = before} (answer v r m t c x e a l) (answer v' r' m' t' c' x' e' a' l') =
    let same : v ≡ v' = one_verdict text c c' in
    let also : r ≡ r' = one_reason (subst (λ (w : Verdict). Explains text w r) same x) x' in
    (e ∙ ap verdict_number same ∙ sym e', a ∙ ap (λ w. settled (verdict_numbers text w) before) same ∙ sym a', l ∙ ap (λ w. reasoned w reason) also ∙ sym l')
