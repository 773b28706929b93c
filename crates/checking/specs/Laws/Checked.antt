-- Laws of what a check comes to, up to the whole call.
-- Assumes nothing.
use Rattle.std.specs.Prelude.{ℕ, ◌≤◌, ◌≡◌, refl, List, length, Option, Some, Result, Ok, Err}
use Rattle.std.proofs.Common.{sym, ap, ◌∙◌, arith}
use Rattle.rules.specs.Limits.{longest_text}
use Rattle.rules.specs.Answers.{Verdict as Answered, accepted, refused, verdict_numbers}
use Rattle.rules.specs.Calls.Memory.{Memory, Enough, settled}
use Rattle.rules.specs.Calls.Check.{CheckCall, answer, verdict_number}
use Rattle.rules.specs.Calls.Check as call
use Rattle.lent.specs.Numbers.{numbers_of}
use Rattle.lent.specs.Measured.{Unread, short_memory, long_text, none}
use Rattle.lent.specs.Settled.{Settled}
use Rattle.lent.specs.Laws.Settled.{settled_same}
use Rattle.lent.specs.declared.answers.Answer.{Answer}
use Rattle.reader.specs.Judged.{Judges, accepts, refuses}
use Rattle.reader.specs.declared.judging.Accepted.{Accepted}
use Rattle.rules.specs.declared.refusals.Refusal.{Refusal}
use Rattle.checking.specs.Checked.{verdict_of, Near, Told}

-- the numbers of a verdict, by its case
pub numbers_by : (text : List ℕ) {v w : Result Accepted Refusal} {ns : List ℕ} → ns ≡ verdict_numbers text (verdict_of w) → v ≡ w → ns ≡ verdict_numbers text (verdict_of v)
numbers_by text e q = e ∙ sym (ap (λ x. verdict_numbers text (verdict_of x)) q)

pub refused_near : {v : Result Accepted Refusal} {r : Refusal} → Near v → v ≡ Err r → r.place ≤ longest_text
refused_near h e = rw e at h

pub accepted_near : {v : Result Accepted Refusal} {a : Accepted} → Near v → v ≡ Ok a → (a.declarations ≤ 65536) × (a.words ≤ 65536)
accepted_near h e = rw e at h

-- from the reader's verdict
pub told : {text records values decls : List ℕ} {v : Result Accepted Refusal} {a : Answer} → Judges text records values decls v → numbers_of a ≡ verdict_numbers text (verdict_of v) → Told text a
told (accepts h) e = record { verdict = _; checks = h.verdict; is = e }
told (refuses h) e = record { verdict = _; checks = h.checks; is = e }

pub near : {text records values decls : List ℕ} {v : Result Accepted Refusal} → Judges text records values decls v → Near v
near (accepts h) = (omega (arith, h.lawful.declares.ready.few), omega (arith, h.few_words))
near (refuses h) = h.near

-- the number of an answer is the second of its numbers
pub number_is : (text : List ℕ) (v : Answered) (a : Answer) → numbers_of a ≡ verdict_numbers text v → a.number ≡ verdict_number v
number_is text (accepted m w) a e = cc
number_is text (refused m p) a e = cc

-- the whole call
pub answers_call : {text : List ℕ} {before after : Memory} {found : Answer} → Enough before → length text ≤ longest_text → Told text found → Settled before after found
    → CheckCall text before after found.number
answers_call {text} {before} {after} {found} enough short t s =
    answer t.verdict enough short t.checks (number_is text t.verdict found t.is) (settled_same s ∙ ap (λ ns. settled ns before) t.is)

-- a call that reads no text
pub unread_call : {text : List ℕ} {number : ℕ} {o : Option ℕ} {m : Memory} → Unread text m o → o ≡ Some number → CheckCall text m m number
unread_call (short_memory h) e = call.short_memory h (cc) refl
unread_call (long_text m h) e = call.long_text m h (cc) refl
unread_call (none m h) e = cc
