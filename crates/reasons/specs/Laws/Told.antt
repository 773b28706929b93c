-- Laws of what the numbers of a reason tell, for every call that `WhyCall` allows.
use Rattle.std.specs.Prelude.{ℕ, ◌≤◌, ◌≡◌, List, length}
use Rattle.std.proofs.Common.{sym, ap, ◌∙◌, subst, arith}
use Rattle.rules.specs.Limits.{longest_text}
use Rattle.rules.specs.Declarations.{declarations, outer_name}
use Rattle.rules.specs.Answers.{Verdict, accepted, refused, Checks}
use Rattle.rules.specs.Calls.Memory.{Memory, Enough}
use Rattle.rules.specs.Calls.Check.{CheckCall, verdict_number}
use Rattle.rules.specs.Calls.Check as check
use Rattle.rules.specs.Reasons.{Reason, no_reason, Explains, unexplained, by_race, by_chain}
use Rattle.rules.specs.Calls.Why.{WhyMemory, WhyCall, short_memory, long_text, answer, reason_size, reasoned}
use Rattle.rules.specs.Truth.{RaceTold, ChainTold}
use Rattle.reasons.specs.Laws.Unique.{race_only, chain_only}
use Rattle.reasons.specs.Laws.Whole.{whole_refused}
use Rattle.reasons.specs.Laws.Races.{race_true}
use Rattle.reasons.specs.Laws.Refused.{race_named}
use Rattle.reasons.specs.Laws.Chains.{chain_named}

told_race : {text reason left : List ℕ} {r : Reason} (v : Verdict) → Checks text v → Explains text v r → left ≡ reasoned r reason → 53 ≡ verdict_number v
    → RaceTold text reason left
told_race (accepted n w) c x l e = absurd (omega (arith, e))
told_race {text} {reason} {left} {r} (refused m p) c x l e =
    let v : refused m p ≡ refused 53 p = ap (λ (i : ℕ). refused i p) (sym e) in
    let w = whole_refused (omega arith) v c in
    let d = w.description in
    let n = race_named (declarations d) p w.among in
    let is = race_only d w.stands v x ∙ n.is in
    record {
      description = d;
      stands = w.stands;
      place = p;
      refusal = subst (Checks text) v c;
      earlier = n.earlier;
      later = n.later;
      carrier = n.carrier;
      name = n.name;
      who = n.who;
      numbers = l ∙ ap (λ (y : Reason). reasoned y reason) is;
      is_true = race_true (declarations d) p n.earlier n.later n.carrier n.name n.who n.is;
    }

told_chain : {text reason left : List ℕ} {r : Reason} (v : Verdict) → Checks text v → Explains text v r → left ≡ reasoned r reason → 51 ≡ verdict_number v
    → ChainTold text reason left
told_chain (accepted n w) c x l e = absurd (omega (arith, e))
told_chain {text} {reason} {left} {r} (refused m p) c x l e =
    let v : refused m p ≡ refused 51 p = ap (λ (i : ℕ). refused i p) (sym e) in
    let w = whole_refused (omega arith) v c in
    let d = w.description in
    let n = chain_named (outer_name d).word (declarations d) p w.of40 w.among in
    let is = chain_only d w.stands v x ∙ n.is in
    record {
      description = d;
      stands = w.stands;
      place = p;
      refusal = subst (Checks text) v c;
      places = n.places;
      numbers = l ∙ ap (λ (y : Reason). reasoned y reason) is;
      is_true = n.true_of_text;
    }

-- a call that returns 53, one that returns 51, and one that returns another number
module _ {text reason left : List ℕ} {before after : Memory} (enough : WhyMemory before reason) (short : length text ≤ longest_text) where
  pub race_told : WhyCall text before after reason left 53 → RaceTold text reason left
  race_told (short_memory s e a l) = absurd (s enough)
  race_told (long_text m t e a l) = absurd (omega arith)
  race_told (answer v r m t c x e a l) = told_race v c x l e

  pub chain_told : WhyCall text before after reason left 51 → ChainTold text reason left
  chain_told (short_memory s e a l) = absurd (s enough)
  chain_told (long_text m t e a l) = absurd (omega arith)
  chain_told (answer v r m t c x e a l) = told_chain v c x l e

  pub nothing_more : {n : ℕ} → (n ≡ 53 → ⊥) → (n ≡ 51 → ⊥) → WhyCall text before after reason left n → left ≡ reasoned no_reason reason
  nothing_more p q (short_memory s e a l) = absurd (s enough)
  nothing_more p q (long_text m t e a l) = absurd (omega arith)
  nothing_more p q (answer v r m t c x e a l) = by p q e x l
    where
      by : {n : ℕ} {v : Verdict} {r : Reason} → (n ≡ 53 → ⊥) → (n ≡ 51 → ⊥) → n ≡ verdict_number v → Explains text v r → left ≡ reasoned r reason → left ≡ reasoned no_reason reason
      by p q e (unexplained i j) l = l
      by p q e (by_race d s) l = absurd (p e)
      by p q e (by_chain d s) l = absurd (q e)

-- without the reason it is a call of Check
pub as_check : {text reason left : List ℕ} {before after : Memory} {n : ℕ} → reason_size ≤ length reason → WhyCall text before after reason left n → CheckCall text before after n
as_check room (short_memory s e a l) = check.short_memory (λ (m : Enough _). s (record { enough = m; room = room })) e a
as_check room (long_text m t e a l) = check.long_text m.enough t e a
as_check room (answer v r m t c x e a l) = check.answer v m.enough t c e a
