-- Laws of what the longest run comes to, up to the whole call.
use Rattle.std.specs.Prelude.{ℕ, ◌≤◌, ◌≡◌, refl, List, [], ◌∷◌, length, Option, Some}
use Rattle.std.proofs.Common.{sym, ap, ◌∙◌, eq-eqb, ne_eqb}
use Rattle.rules.specs.Limits.{longest_text}
use Rattle.rules.specs.Text.Scan.{scan}
use Rattle.rules.specs.Answers.{refused_numbers}
use Rattle.rules.specs.Bound.{Bound, bound, no_bound, not_bounded, bound_of, not_accepted, bounded_by}
use Rattle.rules.specs.Calls.Memory.{Memory, Enough, settled}
use Rattle.rules.specs.Calls.Bound.{BoundCall, answer, bound_number, bound_numbers}
use Rattle.rules.specs.Calls.Bound as call
use Rattle.bounds.specs.Cited.Counts.{endless, bound_when, bound_by_of}
use Rattle.bounds.proofs.Answers.{bound_counted}
use Rattle.bounding.specs.Filling.{Ready}
use Rattle.bounding.specs.Mains.{Longest}
use Rattle.lent.specs.Numbers.{numbers_of}
use Rattle.lent.specs.Measured.{Unread, short_memory, long_text, none}
use Rattle.lent.specs.Settled.{Settled}
use Rattle.lent.specs.Laws.Settled.{settled_same}
use Rattle.lent.specs.declared.answers.Answer.{Answer}
use Rattle.reader.specs.Parsed.{Refuses}
use Rattle.accepted.specs.Accepted.{Accepts, described_by, table_by}
use Rattle.lasting.specs.Bounded.{Told}

-- the numbers of a count
pub count_endless : {ns : List ℕ} (count : ℕ) → count ≡ endless → ns ≡ 5 ∷ 0 ∷ 0 ∷ 0 ∷ 0 ∷ 0 ∷ 0 ∷ 0 ∷ [] → (text : List ℕ) → ns ≡ bound_numbers text (bound_by_of count)
count_endless count e n text = n ∙ sym (ap (λ b. bound_numbers text (bound_when b count)) (eq-eqb count endless e))

pub count_bound : {ns : List ℕ} {count : ℕ} → (count ≡ endless → ⊥) → ns ≡ 0 ∷ 0 ∷ 0 ∷ count ∷ 0 ∷ 0 ∷ 0 ∷ 0 ∷ [] → (text : List ℕ) → ns ≡ bound_numbers text (bound_by_of count)
count_bound {count = count} e n text = n ∙ sym (ap (λ b. bound_numbers text (bound_when b count)) (ne_eqb count endless e))

-- an accepted description
abbrev pub ready : {text records values decls : List ℕ} {m words n : ℕ} → Accepts text records values decls m words n → Ready records decls m n
ready {text} {values = values} v = record {
  reading = record {
    text = text;
    values = values;
    tokens = (scan text).tokens;
    description = described_by v;
    ready = v.lawful.declares.ready;
    count = v.lawful.declares.count;
  };
  whole = v.whole;
}

pub told_bound : {text records values decls : List ℕ} {m words n count : ℕ} {a : Answer} (v : Accepts text records values decls m words n)
    → Longest records decls m n count → ((text : List ℕ) → numbers_of a ≡ bound_numbers text (bound_by_of count)) → Told text a
told_bound {text} v l e = record {
  bound = bound_of (table_by v);
  bounds = bounded_by (described_by v) v.lawful.declares.reads v.verdict;
  is = e text ∙ ap (bound_numbers text) (ap bound_by_of (l.is (ready v)) ∙ bound_counted (table_by v));
}

pub told_refusal : {text : List ℕ} {m p : ℕ} {a : Answer} → Refuses text m p → numbers_of a ≡ refused_numbers text m p → Told text a
told_refusal {m = m} {p} r e = record { bound = not_bounded m p; bounds = not_accepted r.checks; is = e }

-- the number of an answer is the second of its numbers
number_is : (text : List ℕ) (x : Bound) (a : Answer) → numbers_of a ≡ bound_numbers text x → a.number ≡ bound_number x
number_is text (bound n) a e = cc
number_is text no_bound a e = cc
number_is text (not_bounded m p) a e = cc

-- the whole call
pub answers_call : {text : List ℕ} {before after : Memory} {found : Answer} → Enough before → length text ≤ longest_text → Told text found → Settled before after found
    → BoundCall text before after found.number
answers_call {text} {before} {after} {found} enough short t s =
    answer t.bound enough short t.bounds (number_is text t.bound found t.is) (settled_same s ∙ ap (λ ns. settled ns before) t.is)

-- a call that reads no text
pub unread_call : {text : List ℕ} {number : ℕ} {o : Option ℕ} {m : Memory} → Unread text m o → o ≡ Some number → BoundCall text m m number
unread_call (short_memory h) e = call.short_memory h (cc) refl
unread_call (long_text m h) e = call.long_text m h (cc) refl
unread_call (none m h) e = cc
