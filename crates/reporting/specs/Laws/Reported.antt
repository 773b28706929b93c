-- Laws of what a report comes to, up to the whole call.
use Rattle.std.specs.Prelude.{ℕ, ◌<◌, ◌≤◌, ◌≡◌, refl, List, ◌++◌, length, drop, Option, Some}
use Rattle.std.proofs.Common.{ap, ◌∙◌, arith}
use Rattle.rules.specs.Limits.{longest_text}
use Rattle.rules.specs.Answers.{Verdict, accepted, refused, verdict_numbers}
use Rattle.rules.specs.Calls.Memory.{Memory, Enough, number_bytes, settled}
use Rattle.rules.specs.Calls.Why.{reason_size, reasoned, WhyCall, answer}
use Rattle.rules.specs.Calls.Why as call
use Rattle.lent.specs.Numbers.{numbers_of}
use Rattle.lent.specs.Measured.{Unread, short_memory, long_text, none}
use Rattle.lent.specs.Settled.{Settled}
use Rattle.lent.specs.Laws.Settled.{settled_same}
use Rattle.lent.specs.declared.answers.Answer.{Answer}
use Rattle.checking.specs.Checked.{Told}
use Rattle.checking.specs.Laws.Checked.{number_is}
use Rattle.explaining.specs.Reasons.{verdict_place, Judged, Explained}
use Rattle.reporting.specs.Reported.{Reported}

-- the place of an answer is the third of its numbers
pub place_is : (text : List ℕ) (v : Verdict) (a : Answer) → numbers_of a ≡ verdict_numbers text v → a.place ≡ verdict_place v
place_is text (accepted m w) a e = cc
place_is text (refused m p) a e = cc

abbrev pub judged : {text : List ℕ} {a : Answer} → Told text a → Judged text a.number a.place
judged {text} {a} t = record {
  verdict = t.verdict;
  checks = t.checks;
  number_is = number_is text t.verdict a t.is;
  place_is = place_is text t.verdict a t.is;
}

pub reported : {text reason left ns : List ℕ} {a : Answer} → Told text a → Explained text a.number a.place ns → left ≡ number_bytes ns ++ drop reason_size reason
    → Reported text reason left a
unfolding reasoned
reported {reason = reason} t x e =
    let g = x.gives (judged t) in
    record {
      told = t;
      said = g.reason;
      explains = g.explains;
      left_is = e ∙ ap (λ (l : List ℕ). number_bytes l ++ drop reason_size reason) g.numbers;
    }

-- the whole call
pub answers_call : {text reason left : List ℕ} {before after : Memory} {found : Answer} → Enough before → reason_size ≤ length reason → length text ≤ longest_text
    → Reported text reason left found → Settled before after found → WhyCall text before after reason left found.number
answers_call {text} {before = before} {found = found} enough room short r s =
    answer r.told.verdict r.said (record { enough = enough; room = room }) short r.told.checks r.explains
    (number_is text r.told.verdict found r.told.is) (settled_same s ∙ ap (λ ns. settled ns before) r.told.is) r.left_is

-- a call that reads no text
pub short_reason : {text reason : List ℕ} {m : Memory} → length reason < reason_size → WhyCall text m m reason reason 1
short_reason h = call.short_memory (λ w. omega (arith, w.room)) refl refl refl

pub unread_call : {text reason : List ℕ} {number : ℕ} {o : Option ℕ} {m : Memory} → reason_size ≤ length reason → Unread text m o → o ≡ Some number
    → WhyCall text m m reason reason number
unread_call r (short_memory h) e = call.short_memory (λ w. h w.enough) (cc) refl refl
unread_call r (long_text m h) e = call.long_text (record { enough = m; room = r }) h (cc) refl refl
unread_call r (none m h) e = cc
