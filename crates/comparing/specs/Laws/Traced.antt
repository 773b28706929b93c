-- Laws of what Trace answers: a text that is refused, and the whole call.
-- Assumes nothing.
use Rattle.std.specs.Prelude.{ℕ, ◌≤◌, ◌≡◌, refl, List, length, replicate, Option, Some}
use Rattle.std.proofs.Common.{ap, ◌∙◌}
use Rattle.rules.specs.Limits.{longest_text}
use Rattle.rules.specs.Answers.{not_accepted, refused_numbers}
use Rattle.rules.specs.Calls.Memory.{Memory, settled, work_size, zeros}
use Rattle.rules.specs.Calls.Trace.{Trace, denied, unended, compared, not_run, trace_number, trace_numbers, TraceMemory, TraceCall, answer}
use Rattle.rules.specs.Calls.Trace as call
use Rattle.lent.specs.Numbers.{numbers_of}
use Rattle.lent.specs.Measured.{Unread, short_memory, long_text, none}
use Rattle.lent.specs.Settled.{Settled}
use Rattle.lent.specs.Laws.Settled.{settled_same}
use Rattle.lent.specs.declared.answers.Answer.{Answer}
use Rattle.reader.specs.Parsed.{Refuses}
use Rattle.preparing.specs.Laws.Outcome.{ran_number}
use Rattle.compared.specs.Traced.{Traced}

-- a text that is refused
pub refused_text : {text carriers entries : List ℕ} {budget m p : ℕ} {a : Answer} → Refuses text m p → numbers_of a ≡ refused_numbers text m p
    → Traced text carriers budget entries a
refused_text {m = m} {p} r e = record { trace = denied m p; traces = not_run (not_accepted r.checks); is = e }

-- the number of an answer is the second of its numbers
trace_number_lem : (text : List ℕ) (x : Trace) (a : Answer) → numbers_of a ≡ trace_numbers text x → a.number ≡ trace_number x
trace_number_lem text (denied m p) a q = cc
trace_number_lem text (unended e n) a q = ran_number text e n a q
trace_number_lem text (compared e n v) a q = cc

-- the whole call
pub trace_call : {text carriers entries fourth left : List ℕ} {budget : ℕ} {before after : Memory} {found : Answer} → TraceMemory before fourth → length text ≤ longest_text
    → Traced text carriers budget entries found → Settled before after found → left ≡ zeros fourth
    → TraceCall text carriers budget entries before after fourth left found.number
trace_call {text} {before = before} {found = found} enough short t s z =
    answer t.trace enough short t.traces (trace_number_lem text t.trace found t.is) (settled_same s ∙ ap (λ ns. settled ns before) t.is) z

-- a call that reads no text
pub short_fourth : {text carriers entries fourth : List ℕ} {budget : ℕ} {m : Memory} → (work_size ≤ length fourth → ⊥) → TraceCall text carriers budget entries m m fourth fourth 1
short_fourth h = call.short_memory (λ e. h e.work_d) refl refl refl

pub unread_call : {text carriers entries fourth : List ℕ} {budget number : ℕ} {o : Option ℕ} {m : Memory} → work_size ≤ length fourth → Unread text m o → o ≡ Some number
    → TraceCall text carriers budget entries m m fourth fourth number
unread_call w (short_memory h) e = call.short_memory (λ z. h z.enough) (cc) refl refl
unread_call w (long_text m h) e = call.long_text (record { enough = m; work_d = w }) h (cc) refl refl
unread_call w (none m h) e = cc

-- a buffer that is cleared, and was as long before
pub zeros_same : (fourth : List ℕ) {left : List ℕ} {n : ℕ} → left ≡ replicate n 0 → n ≡ length fourth → left ≡ zeros fourth
zeros_same fourth e l = e ∙ ap (λ n. replicate n 0) l
