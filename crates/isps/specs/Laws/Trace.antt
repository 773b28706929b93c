-- The contract of `isps_trace` settles what it speaks of, and its answers are exact.
-- Assumes nothing.
use Rattle.std.specs.Prelude.{ℕ, ◌<◌, ◌≤◌, ◌≡◌, refl, Bool, true, false, List, [], ◌∷◌, ◌↔◌, length, take, drop}
use Rattle.std.proofs.Common.{sym, ap, ◌∙◌, subst, arith}
use Rattle.std.proofs.lemmas.Bool.{false≢true}
use Rattle.rules.specs.Limits.{longest_text}
use Rattle.rules.specs.Text.Scan.{scan}
use Rattle.rules.specs.Grammar.Trees.{Description, flatten}
use Rattle.rules.specs.Declarations.{Table, declarations, total_words}
use Rattle.rules.specs.Steps.Evaluation.{Carriers}
use Rattle.rules.specs.Steps.Runs.{Ending, done, halted, paused, faulted}
use Rattle.rules.specs.Steps.Orders.{Well}
use Rattle.rules.specs.Faults.Whole.{main_name}
use Rattle.rules.specs.Answers.{Result, refusal, ended, Runs, words_from, little_endian, bytes_of, ran_numbers, result_numbers}
use Rattle.rules.specs.Agreement.{ending_code, ending_in}
use Rattle.rules.specs.Stores.{Entry, Order, Fails, Decides, TraceVerdict, just_so, up_to, TraceAnswer}
use Rattle.rules.specs.Entries.{entries_in, is_list}
use Rattle.rules.specs.Calls.Memory.{Memory, Enough, number_bytes, answered, settled}
use Rattle.rules.specs.Calls.Run.{RunCall, result_number, ending_number}
use Rattle.rules.specs.Calls.Run as run
use Rattle.rules.specs.Calls.Trace.{Trace, denied, unended, compared, Traces, not_run, no_list, not_ended, matched, trace_number, trace_numbers, says_yes, first_bad, TraceMemory, TraceCall, short_memory, long_text, answer}
use Rattle.laws_grammar.specs.Grammar.Exact.{unique}
use Rattle.laws_grammar.specs.Answers.{one_result}
use Rattle.traces.specs.Answers.{one_answer}
use Rattle.listed.specs.Laws.Entries.{list_few}
use Rattle.isps.specs.Laws.Calls.{four_bytes, ran_code, result_code_lem, result_code}
use Rattle.isps.specs.Laws.Orders as orders

apart : {m p n : ℕ} {e : Ending} {b : List ℕ} → refusal m p ≡ ended e n b → ⊥
apart q = let y : ◌≡◌ {A = ℕ} 0 1 = cc in absurd (omega arith)

same_ending : {e e' : Ending} {n n' : ℕ} {b b' : List ℕ} → ended e n b ≡ ended e' n' b' → (e ≡ e') × (n ≡ n')
same_ending q = (cc, cc)

same_refusal : {m m' p p' : ℕ} → refusal m p ≡ refusal m' p' → (m ≡ m') × (p ≡ p')
same_refusal q = (cc, cc)

clash : {b : Bool} → b ≡ false → b ≡ true → ⊥
clash f t = false≢true (sym f ∙ t)

-- there is at most one answer
module _ {text carriers entries : List ℕ} {budget : ℕ} where
  one_traced : {x y : Trace} → Traces text carriers budget entries x → Traces text carriers budget entries y → x ≡ y
  one_traced (not_run r) (not_run r') = let q = same_refusal (one_result text carriers budget r r') in let z = q.0 in let w = q.1 in cc
  one_traced (not_run r) (no_list r' f) = absurd (apart (one_result text carriers budget r r'))
  one_traced (not_run r) (not_ended r' t w) = absurd (apart (one_result text carriers budget r r'))
  one_traced (not_run r) (matched d s r' t w a) = absurd (apart (one_result text carriers budget r r'))
  one_traced (no_list r f) (not_run r') = absurd (apart (one_result text carriers budget r' r))
  one_traced (no_list r f) (no_list r' f') = refl
  one_traced (no_list r f) (not_ended r' t w) = absurd (clash f t)
  one_traced (no_list r f) (matched d s r' t w a) = absurd (clash f t)
  one_traced (not_ended r t w) (not_run r') = absurd (apart (one_result text carriers budget r' r))
  one_traced (not_ended r t w) (no_list r' f) = absurd (clash f t)
  one_traced (not_ended r t w) (not_ended r' t' w') = let q = same_ending (one_result text carriers budget r r') in let z = q.0 in let y = q.1 in cc
  one_traced (not_ended r t w) (matched d s r' t' w' a) = absurd (w (subst Well (same_ending (one_result text carriers budget r' r)).0 w'))
  one_traced (matched d s r t w a) (not_run r') = absurd (apart (one_result text carriers budget r' r))
  one_traced (matched d s r t w a) (no_list r' f) = absurd (clash f t)
  one_traced (matched d s r t w a) (not_ended r' t' w') = absurd (w' (subst Well (same_ending (one_result text carriers budget r r')).0 w))
  one_traced (matched {e} {n} {v = v} d s r t w a) (matched {e = e'} {n = n'} {v = v'} d' s' r' t' w' a') =
      let q = same_ending (one_result text carriers budget r r') in
      let same : d' ≡ d = unique d' d (s' ∙ sym s) in
      let b = subst (λ x. TraceAnswer (declarations x) (main_name (declarations x)) budget (words_from (total_words (declarations x)) carriers) (entries_in entries) v') same a' in
      let u : v ≡ v' = one_answer (Order (declarations d) (main_name (declarations d)) budget (words_from (total_words (declarations d)) carriers)) (entries_in entries) v v' a b in
      let z : e ≡ e' = q.0 in
      let y : n ≡ n' = q.1 in
      cc

pub one_trace : {text carriers entries fourth left left' : List ℕ} {budget n n' : ℕ} {before after after' : Memory}
    → TraceCall text carriers budget entries before after fourth left n → TraceCall text carriers budget entries before after' fourth left' n'
    → (n ≡ n') × (after ≡ after') × (left ≡ left')
one_trace (short_memory s e a f) (short_memory s' e' a' f') = (e ∙ sym e', a ∙ sym a', f ∙ sym f')
one_trace (short_memory s e a f) (long_text m l e' a' f') = absurd (s m)
one_trace (short_memory s e a f) (answer x m l t e' a' f') = absurd (s m)
one_trace (long_text m l e a f) (short_memory s e' a' f') = absurd (s m)
one_trace (long_text m l e a f) (long_text m' l' e' a' f') = (e ∙ sym e', a ∙ sym a', f ∙ sym f')
one_trace (long_text m l e a f) (answer x m' l' t e' a' f') = absurd (omega arith)
one_trace (answer x m l t e a f) (short_memory s e' a' f') = absurd (s m)
one_trace (answer x m l t e a f) (long_text m' l' e' a' f') = absurd (omega arith)
one_trace {text} {before = before} (answer x m l t e a f) (answer x' m' l' t' e' a' f') =
    let same : x ≡ x' = one_traced t t' in
    (e ∙ ap trace_number same ∙ sym e', a ∙ ap (λ y. settled (trace_numbers text y) before) same ∙ sym a', f ∙ sym f')

-- the numbers that stand in an answer
abbrev trace_code : Trace → ℕ
trace_code (denied m p) = 4
trace_code (unended e n) = ending_code e
trace_code (compared e n v) = ending_code e

compared_code : (e : Ending) (n i j : ℕ) (b : List ℕ) → little_endian 4 (answered (ending_code e ∷ 0 ∷ 0 ∷ n ∷ i ∷ j ∷ 0 ∷ 0 ∷ []) b) ≡ ending_code e
unfolding little_endian answered number_bytes bytes_of
compared_code done n i j b = refl
compared_code halted n i j b = refl
compared_code paused n i j b = refl
compared_code (faulted m p) n i j b = refl

trace_code_lem : (text : List ℕ) (x : Trace) (b : List ℕ) → ending_in (answered (trace_numbers text x) b) ≡ trace_code x
unfolding little_endian answered number_bytes bytes_of
trace_code_lem text (denied m p) b = refl
trace_code_lem text (unended e n) b = ran_code text e n b
trace_code_lem text (compared e n v) b = compared_code e n (says_yes v) (first_bad v) b

said_is : (e : Ending) (n i j : ℕ) (b : List ℕ) → i < 4294967296 → little_endian 4 (drop 16 (answered (ending_code e ∷ 0 ∷ 0 ∷ n ∷ i ∷ j ∷ 0 ∷ 0 ∷ []) b)) ≡ i
unfolding little_endian answered number_bytes bytes_of
said_is e n i j b h = four_bytes i h

entry_is : (e : Ending) (n i j : ℕ) (b : List ℕ) → j < 4294967296 → little_endian 4 (drop 20 (answered (ending_code e ∷ 0 ∷ 0 ∷ n ∷ i ∷ j ∷ 0 ∷ 0 ∷ []) b)) ≡ j
unfolding little_endian answered number_bytes bytes_of
entry_is e n i j b h = four_bytes j h

-- the first four numbers of an answer that is no refusal of a list are those of Run
front : (e : Ending) (n i j : ℕ) (b : List ℕ) (text : List ℕ) → Well e
    → take 16 (answered (ending_code e ∷ 0 ∷ 0 ∷ n ∷ i ∷ j ∷ 0 ∷ 0 ∷ []) b) ≡ take 16 (answered (ran_numbers text e n) b)
unfolding answered number_bytes bytes_of
front done n i j b text w = refl
front halted n i j b text w = refl
front paused n i j b text w = absurd w
front (faulted m p) n i j b text w = absurd w

-- what a call has answered that was lent enough
record Answered (text carriers : List ℕ) (budget : ℕ) (entries : List ℕ) (before after : Memory) (n : ℕ) : Type 0 where
  trace : Trace
  traces : Traces text carriers budget entries trace
  number : n ≡ trace_number trace
  all : after ≡ settled (trace_numbers text trace) before

answers : {text carriers entries fourth left : List ℕ} {budget n : ℕ} {before after : Memory} → TraceCall text carriers budget entries before after fourth left n
    → TraceMemory before fourth → length text ≤ longest_text → Answered text carriers budget entries before after n
answers (short_memory s e a f) enough short = absurd (s enough)
answers (long_text m l e a f) enough short = absurd (omega arith)
answers (answer x m l t e a f) enough short = record { trace = x; traces = t; number = e; all = a }

-- what Run has answered, in the same memory
record Beside (text carriers : List ℕ) (budget : ℕ) (before after : Memory) (n : ℕ) : Type 0 where
  result : Result
  runs : Runs text carriers budget result
  number : n ≡ result_number result
  is : after ≡ settled (result_numbers text result) before

beside : {text carriers left : List ℕ} {budget n : ℕ} {before after : Memory} → RunCall text carriers budget before after left n → Enough before → length text ≤ longest_text
    → Beside text carriers budget before after n
beside (run.short_memory s e a c) enough short = absurd (s enough)
beside (run.long_text m l e a c) enough short = absurd (omega arith)
beside (run.answer x m l r e a c) enough short = record { result = x; runs = r; number = e; is = a }

-- by the case of the list's answer and of Run's
module _ (text carriers entries : List ℕ) (budget : ℕ) where
  refused_by : {x : Trace} {r : Result} → Traces text carriers budget entries x → Runs text carriers budget r → result_code r ≡ 4
      → (trace_number x ≡ result_number r) × (trace_numbers text x ≡ result_numbers text r)
  refused_by {r = ended e n b} t s q = absurd (coded e (omega (arith, q)))
    where
      coded : (e : Ending) → 3 < ending_code e → ⊥
      coded done h = absurd (omega arith)
      coded halted h = absurd (omega arith)
      coded paused h = absurd (omega arith)
      coded (faulted m p) h = absurd (omega arith)
  refused_by {r = refusal m p} (not_run r) s q = let z = same_refusal (one_result text carriers budget r s) in (z.0, ap (λ y. result_numbers text y) (one_result text carriers budget r s))
  refused_by {r = refusal m p} (no_list r f) s q = absurd (apart (one_result text carriers budget s r))
  refused_by {r = refusal m p} (not_ended r l w) s q = absurd (apart (one_result text carriers budget s r))
  refused_by {r = refusal m p} (matched d i r l w a) s q = absurd (apart (one_result text carriers budget s r))

  unlisted_by : {x : Trace} {r : Result} → Traces text carriers budget entries x → Runs text carriers budget r → result_code r < 4 → is_list entries ≡ false
      → x ≡ denied 110 0
  unlisted_by {r = refusal m p} t s q f = absurd (omega arith)
  unlisted_by {r = ended e n b} (not_run r) s q f = absurd (apart (one_result text carriers budget r s))
  unlisted_by {r = ended e n b} (no_list r g) s q f = refl
  unlisted_by {r = ended e n b} (not_ended r l w) s q f = absurd (clash f l)
  unlisted_by {r = ended e n b} (matched d i r l w a) s q f = absurd (clash f l)

  well_number : (e : Ending) → Well e → ending_number e ≡ 0
  well_number done w = refl
  well_number halted w = refl
  well_number paused w = absurd w
  well_number (faulted m p) w = absurd w

  run_by : {x : Trace} {r : Result} → Traces text carriers budget entries x → Runs text carriers budget r → result_code r < 4 → is_list entries ≡ true
      → (trace_number x ≡ result_number r) × ((b : List ℕ) → take 16 (answered (trace_numbers text x) b) ≡ take 16 (answered (result_numbers text r) b))
  run_by {r = refusal m p} t s q f = absurd (omega arith)
  run_by {r = ended e n b} (not_run r) s q f = absurd (apart (one_result text carriers budget r s))
  run_by {r = ended e n b} (no_list r g) s q f = absurd (clash g f)
  run_by {r = ended e n b} (not_ended r l w) s q f =
      let z = one_result text carriers budget r s in (ap result_number z, λ c. ap (λ y. take 16 (answered (result_numbers text y) c)) z)
  run_by {r = ended e n b} (matched {e = e'} {n = n'} {v = v} d i r l w a) s q f =
      let z = one_result text carriers budget r s in (
        sym (well_number e' w) ∙ ap result_number z,
        λ c. front e' n' (says_yes v) (first_bad v) c text w ∙ ap (λ y. take 16 (answered (result_numbers text y) c)) z,
      )

  description_by : {x : Trace} → Traces text carriers budget entries x → trace_code x < 4 → (d : Description) × flatten d ≡ (scan text).tokens
  description_by (not_run r) h = absurd (omega arith)
  description_by (no_list r f) h = absurd (omega arith)
  description_by (not_ended r l w) h = orders.description_by r h
  description_by (matched d s r l w a) h = (d, s)

module _ {text carriers entries fourth left : List ℕ} {budget n : ℕ} {before after : Memory}
    (call : TraceCall text carriers budget entries before after fourth left n) (enough : TraceMemory before fourth) (short : length text ≤ longest_text) where
  given : Answered text carriers budget entries before after n
  given = answers call enough short

  written : after.answer ≡ answered (trace_numbers text given.trace) before.answer
  written = ap (λ y. y.answer) given.all

  coded : ending_in after.answer ≡ trace_code given.trace
  coded = ap ending_in written ∙ trace_code_lem text given.trace before.answer

  module _ {left' : List ℕ} {n' : ℕ} {after' : Memory} (other : RunCall text carriers budget before after' left' n') where
    ran : Beside text carriers budget before after' n'
    ran = beside other enough.enough short

    ran_coded : ending_in after'.answer ≡ result_code ran.result
    ran_coded = ap (λ y. ending_in y.answer) ran.is ∙ result_code_lem text ran.result before.answer

    pub as_refused : ending_in after'.answer ≡ 4 → (n ≡ n') × (after ≡ after')
    as_refused h =
        let z = refused_by text carriers entries budget given.traces ran.runs (sym ran_coded ∙ h) in
        (given.number ∙ z.0 ∙ sym ran.number, given.all ∙ ap (λ ns. settled ns before) z.1 ∙ sym ran.is)

    pub list_refused : ending_in after'.answer < 4 → is_list entries ≡ false → (n ≡ 110) × (ending_in after.answer ≡ 4)
    list_refused h f =
        let z = unlisted_by text carriers entries budget given.traces ran.runs (omega (arith, ran_coded)) f in
        (given.number ∙ ap trace_number z, coded ∙ ap trace_code z)

    pub as_run : ending_in after'.answer < 4 → is_list entries ≡ true → (n ≡ n') × (take 16 after.answer ≡ take 16 after'.answer)
    as_run h f =
        let z = run_by text carriers entries budget given.traces ran.runs (omega (arith, ran_coded)) f in (
          given.number ∙ z.0 ∙ sym ran.number,
          ap (take 16) written ∙ z.1 before.answer ∙ sym (ap (λ y. take 16 y.answer) ran.is),
        )

  pub traced_description : ending_in after.answer < 4 → (d : Description) × flatten d ≡ (scan text).tokens
  traced_description h = description_by text carriers entries budget given.traces (omega (arith, coded))

  module _ (d : Description) (stands : flatten d ≡ (scan text).tokens) where
    abbrev ds : Table
    ds = declarations d

    abbrev start : Carriers
    start = words_from (total_words ds) carriers

    abbrev IsOrder : List Entry → Type 0
    IsOrder = Order ds (main_name ds) budget start

    -- the verdict that an answer has, where the run ended well
    record Decided (x : Trace) : Type 0 where
      ending : Ending
      steps : ℕ
      verdict : TraceVerdict
      is : x ≡ compared ending steps verdict
      listed : is_list entries ≡ true
      decides : Decides IsOrder (entries_in entries) verdict

    decided_by : {x : Trace} → Traces text carriers budget entries x → trace_code x < 2 → Decided x
    decided_by (not_run r) h = absurd (omega arith)
    decided_by (no_list r f) h = absurd (omega arith)
    decided_by (not_ended {e} r l w) h = absurd (w (orders.well e h))
    decided_by (matched {e} {n} {v = v} d' s r l w a) h =
        let same : d' ≡ d = unique d' d (s ∙ sym stands) in
        record {
          ending = e;
          steps = n;
          verdict = v;
          is = refl;
          listed = l;
          decides = subst (λ x. TraceAnswer (declarations x) (main_name (declarations x)) budget (words_from (total_words (declarations x)) carriers) (entries_in entries) v) same a;
        }

    decided : ending_in after.answer < 2 → Decided given.trace
    decided h = decided_by given.traces (omega (arith, coded))

    -- numbers 4 and 5 of a verdict
    said_by : {x : Trace} (z : Decided x) → says_yes z.verdict < 4294967296 → little_endian 4 (drop 16 (answered (trace_numbers text x) before.answer)) ≡ says_yes z.verdict
    said_by z h =
        ap (λ y. little_endian 4 (drop 16 (answered (trace_numbers text y) before.answer))) z.is
        ∙ said_is z.ending z.steps (says_yes z.verdict) (first_bad z.verdict) before.answer h

    entry_by : {x : Trace} (z : Decided x) → first_bad z.verdict < 4294967296 → little_endian 4 (drop 20 (answered (trace_numbers text x) before.answer)) ≡ first_bad z.verdict
    entry_by z h =
        ap (λ y. little_endian 4 (drop 20 (answered (trace_numbers text y) before.answer))) z.is
        ∙ entry_is z.ending z.steps (says_yes z.verdict) (first_bad z.verdict) before.answer h

    says_little : (v : TraceVerdict) → says_yes v < 4294967296
    says_little just_so = omega arith
    says_little (up_to i) = omega arith

    said : (h : ending_in after.answer < 2) → little_endian 4 (drop 16 after.answer) ≡ says_yes (decided h).verdict
    said h = ap (λ y. little_endian 4 (drop 16 y)) written ∙ said_by (decided h) (says_little (decided h).verdict)

    pub yes_exactly : ending_in after.answer < 2 → (little_endian 4 (drop 16 after.answer) ≡ 1) ↔ IsOrder (entries_in entries)
    yes_exactly h = by (decided h).verdict (said h) (decided h).decides
      where
        by : (v : TraceVerdict) → little_endian 4 (drop 16 after.answer) ≡ says_yes v → Decides IsOrder (entries_in entries) v
            → (little_endian 4 (drop 16 after.answer) ≡ 1) ↔ IsOrder (entries_in entries)
        by just_so e z = (λ q. z, λ q. e)
        by (up_to i) e z = (λ q. absurd (omega (arith, e, q)), λ q. absurd (z.not_so q))

    pub no_exactly : ending_in after.answer < 2 → (IsOrder (entries_in entries) → ⊥)
        → (little_endian 4 (drop 16 after.answer) ≡ 0) × Fails IsOrder (entries_in entries) (little_endian 4 (drop 20 after.answer))
    no_exactly h none = by (decided h).verdict refl (said h) (decided h).decides
      where
        by : (v : TraceVerdict) → (decided h).verdict ≡ v → little_endian 4 (drop 16 after.answer) ≡ says_yes v → Decides IsOrder (entries_in entries) v
            → (little_endian 4 (drop 16 after.answer) ≡ 0) × Fails IsOrder (entries_in entries) (little_endian 4 (drop 20 after.answer))
        by just_so q e z = absurd (none z)
        by (up_to i) q e z =
            let few : first_bad (decided h).verdict < 4294967296 = omega (arith, ap first_bad q, z.within, list_few entries (decided h).listed) in
            let is = ap (λ y. little_endian 4 (drop 20 y)) written ∙ entry_by (decided h) few ∙ ap first_bad q in
            (e, subst (Fails IsOrder (entries_in entries)) (sym is) z)

    -- where left to right does not end well, no order does
    none_ends : {x : Trace} → Traces text carriers budget entries x → 2 ≤ trace_code x → trace_code x < 4 → (l : List Entry) → IsOrder l → ⊥
    none_ends (not_run r) h k l z = absurd (omega arith)
    none_ends (no_list r f) h k l z = absurd (omega arith)
    none_ends (matched {e} d' s r t w a) h k l z = absurd (orders.not_well e h w)
    none_ends (not_ended {e} {n} {b} r t w) h k l z =
        orders.none_ends_by d stands r w z.steps z.last z.within z.makes.order z.ends_well

    pub no_order : 2 ≤ ending_in after.answer → ending_in after.answer < 4 → (l : List Entry) → IsOrder l → ⊥
    no_order h k l z = none_ends given.traces (omega (arith, coded)) (omega (arith, coded)) l z
