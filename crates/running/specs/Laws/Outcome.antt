-- Laws of what Run comes to: a text that is refused, and the whole call.
-- Assumes nothing.
use Rattle.std.specs.Prelude.{ℕ, ◌≤◌, ◌≡◌, refl, List, length, Option, Some}
use Rattle.std.proofs.Common.{ap, ◌∙◌}
use Rattle.rules.specs.Limits.{longest_text}
use Rattle.rules.specs.Answers.{Result, refusal, ended, not_accepted, refused_numbers, result_numbers}
use Rattle.rules.specs.Calls.Memory.{Memory, Enough, settled}
use Rattle.rules.specs.Calls.Run.{RunCall, answer, result_number}
use Rattle.rules.specs.Calls.Run as call
use Rattle.lent.specs.Numbers.{numbers_of}
use Rattle.lent.specs.Measured.{Unread, short_memory, long_text, none}
use Rattle.lent.specs.Settled.{Settled}
use Rattle.lent.specs.Laws.Settled.{settled_same}
use Rattle.lent.specs.declared.answers.Answer.{Answer}
use Rattle.reader.specs.Parsed.{Refuses}
use Rattle.preparing.specs.Outcome.{Outcome}
use Rattle.preparing.specs.Laws.Outcome.{ran_number}

-- a text that is refused
pub refused_text : {text carriers : List ℕ} {budget m p : ℕ} {a : Answer} → Refuses text m p → numbers_of a ≡ refused_numbers text m p → Outcome text carriers budget carriers a
refused_text {m = m} {p} r e = record { result = refusal m p; runs = not_accepted r.checks; is = e; left_is = refl }

-- the number of an answer is the second of its numbers
result_number_lem : (text : List ℕ) (x : Result) (a : Answer) → numbers_of a ≡ result_numbers text x → a.number ≡ result_number x
result_number_lem text (refusal m p) a q = cc
result_number_lem text (ended e n b) a q = ran_number text e n a q

-- the whole call
pub run_call : {text carriers left : List ℕ} {budget : ℕ} {before after : Memory} {found : Answer} → Enough before → length text ≤ longest_text
    → Outcome text carriers budget left found → Settled before after found → RunCall text carriers budget before after left found.number
run_call {text} {before = before} {after} {found} enough short o s =
    answer o.result enough short o.runs (result_number_lem text o.result found o.is) (settled_same s ∙ ap (λ ns. settled ns before) o.is) o.left_is

-- a call that reads no text
pub unread_call : {text carriers : List ℕ} {budget number : ℕ} {o : Option ℕ} {m : Memory} → Unread text m o → o ≡ Some number → RunCall text carriers budget m m carriers number
unread_call (short_memory h) e = call.short_memory h (cc) refl refl
unread_call (long_text m h) e = call.long_text m h (cc) refl refl
unread_call (none m h) e = cc
