-- Laws of the whole call, from how Store or Load ended.
-- Assumes nothing.
use Rattle.std.specs.Prelude.{ℕ, ◌<◌, ◌≤◌, ◌≡◌, refl, List, length, Option, Some, ⊤, Err}
use Rattle.std.proofs.Common.{sym, ap, ◌∙◌}
use Rattle.rules.specs.Limits.{longest_text}
use Rattle.rules.specs.Declarations.{Table}
use Rattle.rules.specs.Keeping.{Kept, declined, kept}
use Rattle.rules.specs.Calls.Memory.{Memory, Enough, settled}
use Rattle.rules.specs.Calls.Keep.{KeepCall, answer, kept_number, kept_numbers}
use Rattle.rules.specs.Calls.Keep as call
use Rattle.lent.specs.Numbers.{numbers_of}
use Rattle.lent.specs.Measured.{Unread, short_memory, long_text, none}
use Rattle.lent.specs.Settled.{Settled}
use Rattle.lent.specs.Laws.Settled.{settled_same}
use Rattle.lent.specs.declared.answers.Answer.{Answer}
use Rattle.kept.specs.Kept.{kept_of, Near, Answered}
use Rattle.rules.specs.Refusals.{OrRefused}
use Rattle.rules.specs.declared.refusals.Refusal.{Refusal}

-- the numbers of an ending, by its case
pub numbers_by : (text left : List ℕ) {e f : OrRefused ⊤} {ns : List ℕ} → ns ≡ kept_numbers text (kept_of f left) → e ≡ f → ns ≡ kept_numbers text (kept_of e left)
numbers_by text left q r = q ∙ sym (ap (λ x. kept_numbers text (kept_of x left)) r)

pub near_by : {e : OrRefused ⊤} {r : Refusal} → Near e → e ≡ Err r → r.place < 65536
near_by h e = rw e at h

-- the number of an answer is the second of its numbers
number_is : (text : List ℕ) (k : Kept) (a : Answer) → numbers_of a ≡ kept_numbers text k → a.number ≡ kept_number k
number_is text (declined m p) a e = cc
number_is text (kept bytes) a e = cc

-- the whole call
pub keep_call : {text target left : List ℕ} {call : Table → Kept} {before after : Memory} {e : OrRefused ⊤} {found : Answer} → Enough before → length text ≤ longest_text
    → Answered text call target left e → ((bytes : List ℕ) → numbers_of found ≡ kept_numbers text (kept_of e bytes)) → Settled before after found
    → KeepCall text call target before after left found.number
keep_call {text} {left = left} {before = before} {found = found} enough short a is s =
    let same : numbers_of found ≡ kept_numbers text a.result = is left ∙ ap (kept_numbers text) a.keeping.is in
    answer a.result enough short a.keeps (number_is text a.result found same) (settled_same s ∙ ap (λ ns. settled ns before) same) a.keeping.left_is

-- a call that reads no text
pub unread_call : {text target : List ℕ} {keep : Table → Kept} {number : ℕ} {o : Option ℕ} {m : Memory} → Unread text m o → o ≡ Some number → KeepCall text keep target m m target number
unread_call (short_memory h) e = call.short_memory h (cc) refl refl
unread_call (long_text m h) e = call.long_text m h (cc) refl refl
unread_call (none m h) e = cc
