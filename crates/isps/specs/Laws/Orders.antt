-- Demand 3, from the contract of the call to the orders of the rules.
-- Assumes nothing.
use Rattle.std.specs.Prelude.{ℕ, zero, suc, ◌*◌, ◌<◌, ◌≤◌, ◌≡◌, refl, Bool, true, false, List, eqb, length}
use Rattle.std.proofs.Common.{sym, ap, ◌∙◌, subst, arith}
use Rattle.std.proofs.Math.Option.{Option, none, some}
use Rattle.rules.specs.Text.Scan.{scan}
use Rattle.rules.specs.Limits.{longest_text}
use Rattle.rules.specs.Grammar.Trees.{Description, flatten}
use Rattle.rules.specs.Declarations.{Table, declarations, total_words}
use Rattle.rules.specs.Steps.Runs as steps
use Rattle.rules.specs.Steps.Runs.{Conf, running, finished, stopped, failed, Run, Ending, done, halted, paused, faulted, step, Steps, begin}
use Rattle.rules.specs.Steps.Evaluation.{Carriers}
use Rattle.rules.specs.Steps.Orders.{Ended, Well, end_as, end_of, NoStep}
use Rattle.rules.specs.Faults.Whole.{main_name}
use Rattle.rules.specs.Answers.{accepted, Checks, Result, refusal, ended, result_of, Runs, not_accepted, ran, run_on, long_word, word_lengths, words_from, buffer_of, result_numbers}
use Rattle.rules.specs.Agreement.{ending_code, ending_in, steps_in, Agrees, code_at, carriers_at, SameEnd}
use Rattle.laws_grammar.specs.Grammar.Exact.{unique}
use Rattle.laws_orders.proofs.Orders.Budget.{run_bounded}
use Rattle.laws_accepted.proofs.Demand3.{accepted_order_free, accepted_none_ends}
use Rattle.rules.specs.Calls.Memory.{Memory, Enough, answered}
use Rattle.rules.specs.Calls.Run.{RunCall, carriers_left, short_memory, long_text, answer}
use Rattle.isps.specs.Laws.Calls.{result_code_lem, ran_steps, result_code}

abbrev pub run_of : Table → List ℕ → ℕ → Run
run_of ds buffer budget = steps.run ds (main_name ds) budget (words_from (total_words ds) buffer)

-- a result that is no refusal is that of the run
run_ended : (ds : Table) (buffer : List ℕ) (budget : ℕ) {e : Ending} {n : ℕ} {b : List ℕ} → run_on ds buffer budget ≡ ended e n b → result_of (run_of ds buffer budget) ≡ ended e n b
unfolding run_on
run_ended ds buffer budget {e} {n} {b} is = by (eqb (length buffer) (8 * total_words ds)) refl
  where
    from : (o : Option ℕ) → long_word 0 (word_lengths ds) (words_from (total_words ds) buffer) ≡ o → eqb (length buffer) (8 * total_words ds) ≡ true
        → result_of (run_of ds buffer budget) ≡ ended e n b
    from none q t = rw (run_on, t, q) at is
    from (some o) q t = let z : refusal 61 o ≡ ended e n b = rw (run_on, t, q) at is in let y : ◌≡◌ {A = ℕ} 0 1 = cc in absurd (omega arith)

    by : (t : Bool) → eqb (length buffer) (8 * total_words ds) ≡ t → result_of (run_of ds buffer budget) ≡ ended e n b
    by true t = from (long_word 0 (word_lengths ds) (words_from (total_words ds) buffer)) refl t
    by false t = let z : refusal 60 0 ≡ ended e n b = rw (run_on, t) at is in let y : ◌≡◌ {A = ℕ} 0 1 = cc in absurd (omega arith)

-- the run behind a result of Run that is no refusal
pub record Ran (text carriers : List ℕ) (budget : ℕ) (d : Description) (e : Ending) (n : ℕ) (left : List ℕ) : Type 0 where
  pub declarations_count : ℕ
  pub words_count : ℕ
  pub checks : Checks text (accepted declarations_count words_count)
  pub is : result_of (run_of (declarations d) carriers budget) ≡ ended e n left

pub ran_by : {text carriers : List ℕ} {budget : ℕ} {x : Result} {e : Ending} {n : ℕ} {left : List ℕ} (d : Description) → flatten d ≡ (scan text).tokens
    → Runs text carriers budget x → x ≡ ended e n left → Ran text carriers budget d e n left
ran_by d stands (not_accepted c) q = let y : ◌≡◌ {A = ℕ} 0 1 = cc in absurd (omega arith)
ran_by {carriers = carriers} {budget} {e = e} {n} {left} d stands (ran d' reads c) q =
    let same : d' ≡ d = unique d' d (reads ∙ sym stands) in
    record {
      declarations_count = _;
      words_count = _;
      checks = c;
      is = run_ended (declarations d) carriers budget (subst (λ x. run_on (declarations x) carriers budget ≡ ended e n left) same q);
    }

pub well : (e : Ending) → ending_code e < 2 → Well e
well done l = tt
well halted l = tt
well paused l = absurd (omega arith)
well (faulted m p) l = absurd (omega arith)

pub not_well : (e : Ending) → 2 ≤ ending_code e → Well e → ⊥
not_well done l w = absurd (omega arith)
not_well halted l w = absurd (omega arith)
not_well paused l w = w
not_well (faulted m p) l w = w

-- what a call has answered that was lent enough
pub record Answers (text carriers : List ℕ) (budget : ℕ) (before after : Memory) (left : List ℕ) : Type 0 where
  pub result : Result
  pub runs : Runs text carriers budget result
  pub ending : ending_in after.answer ≡ result_code result
  pub answer : after.answer ≡ answered (result_numbers text result) before.answer
  pub left_is : left ≡ carriers_left carriers result

pub answers : {text carriers left : List ℕ} {budget n : ℕ} {before after : Memory} → RunCall text carriers budget before after left n → Enough before
    → length text ≤ longest_text → Answers text carriers budget before after left
answers (short_memory s e a c) enough short = absurd (s enough)
answers (long_text m l e a c) enough short = absurd (omega arith)
answers {text} {before = before} (answer x m l r e a c) enough short =
    record { result = x; runs = r; ending = ap (λ y. ending_in y.answer) a ∙ result_code_lem text x before.answer; answer = ap (λ y. y.answer) a; left_is = c }

-- the description that a call has read, if it is no refusal
pub description_by : {text carriers : List ℕ} {budget : ℕ} {x : Result} → Runs text carriers budget x → result_code x < 4 → (d : Description) × flatten d ≡ (scan text).tokens
description_by (not_accepted c) l = absurd (omega arith)
description_by (ran d stands c) l = (d, stands)

pub ran_description : {text carriers left : List ℕ} {budget n : ℕ} {before after : Memory} → RunCall text carriers budget before after left n → Enough before
    → length text ≤ longest_text → ending_in after.answer < 4 → (d : Description) × flatten d ≡ (scan text).tokens
ran_description call enough short l = let g = answers call enough short in description_by g.runs (omega (arith, g.ending))

-- where no step can follow, none has
no_more : (ds : Table) (j : ℕ) (c d : Conf) → NoStep ds c → Steps ds j c d → (j ≡ 0) × (c ≡ d)
no_more ds zero c d h e = (refl, e)
no_more ds (suc j) (running r s) d h e = absurd (h (step ds r e.0 s) (e.0, refl))
no_more ds (suc j) (finished s) d h e = absurd e
no_more ds (suc j) (stopped s) d h e = absurd e
no_more ds (suc j) (failed m p s) d h e = absurd e

-- the end of a run that ended well, as a place where an order has come to
end_code : (e : Ending) (s : Carriers) → Well e → code_at (end_as e s) ≡ ending_code e
end_code done s w = refl
end_code halted s w = refl
end_code paused s w = absurd w
end_code (faulted m p) s w = absurd w

end_carriers : (e : Ending) (s : Carriers) → carriers_at (end_as e s) ≡ s
end_carriers done s = refl
end_carriers halted s = refl
end_carriers paused s = refl
end_carriers (faulted m p) s = refl

pub agrees_same : {ds : Table} {answer left : List ℕ} {k : ℕ} {c : Conf} → Agrees ds answer left k c → ending_in answer < 2 → NoStep ds c → SameEnd answer left k c
agrees_same {ds} {c = c} a l h =
    let r : Run = a.end in
    let w : Well r.ending = well r.ending (omega (arith, a.ending)) in
    let g = a.order.goes_on in
    let z = no_more ds g.0 c (end_of r) h g.2 in
    record {
      ending = ap code_at z.1 ∙ end_code r.ending r.carriers w ∙ a.ending;
      steps = omega (arith, g.1, z.0, a.steps);
      carriers_left_lem = ap (λ x. buffer_of (carriers_at x)) z.1 ∙ ap buffer_of (end_carriers r.ending r.carriers) ∙ a.carriers_left_lem;
    }

few_steps : (r : Run) {e : Ending} {k : ℕ} {b : List ℕ} → result_of r ≡ ended e k b → (r.ending ≡ e) × (r.steps ≡ k) × (buffer_of r.carriers ≡ b)
few_steps r q = (cc, cc, cc)

-- where left to right does not end well, no order does within the budget
pub none_ends_by : {text carriers : List ℕ} {budget : ℕ} {e : Ending} {n : ℕ} {left : List ℕ} (d : Description) → flatten d ≡ (scan text).tokens
    → Runs text carriers budget (ended e n left) → (Well e → ⊥) → (k : ℕ) (c : Conf) → k ≤ budget
    → Steps (declarations d) k (begin (declarations d) (main_name (declarations d)) (words_from (total_words (declarations d)) carriers)) c → Ended c → ⊥
none_ends_by {text} {carriers} {budget} d stands runs w k c m s z =
    let g = ran_by d stands runs refl in
    let f = few_steps (run_of (declarations d) carriers budget) g.is in
    accepted_none_ends text _ _ g.checks d stands (words_from (total_words (declarations d)) carriers) budget (λ x. w (subst Well f.0 x)) k c m s z

module _ {text carriers left : List ℕ} {budget n : ℕ} {before after : Memory} (call : RunCall text carriers budget before after left n)
    (enough : Enough before) (short : length text ≤ longest_text) (small : budget < 4294967296) (d : Description) (stands : flatten d ≡ (scan text).tokens) where
  abbrev ds : Table
  ds = declarations d

  abbrev start : Conf
  start = begin ds (main_name ds) (words_from (total_words ds) carriers)

  given : Answers text carriers budget before after left
  given = answers call enough short

  pub every_order : ending_in after.answer < 2 → (k : ℕ) (c : Conf) → Steps ds k start c → Agrees ds after.answer left k c
  every_order l k c s = by given.result refl
    where
      by : (x : Result) → given.result ≡ x → Agrees ds after.answer left k c
      by (refusal m p) q = absurd (omega (arith, given.ending, ap result_code q))
      by (ended e count b) q =
          let r = run_of ds carriers budget in
          let g = ran_by d stands given.runs q in
          let f = few_steps r g.is in
          let is = given.ending ∙ ap result_code q in
          let w : Well r.ending = subst Well (sym f.0) (well e (omega (arith, is))) in
          let bound : count < 4294967296 = omega (arith, f.1, run_bounded ds (main_name ds) budget (words_from (total_words ds) carriers)) in
          record {
            end = r;
            order = accepted_order_free text _ _ g.checks d stands (words_from (total_words ds) carriers) budget w k c s;
            ending = ap ending_code f.0 ∙ sym is;
            steps = f.1 ∙ sym (ap (λ y. steps_in y) (given.answer ∙ ap (λ x. answered (result_numbers text x) before.answer) q) ∙ ran_steps text e count before.answer bound);
            carriers_left_lem = f.2 ∙ sym (given.left_is ∙ ap (carriers_left carriers) q);
          }

  pub no_order_ends : 2 ≤ ending_in after.answer → ending_in after.answer < 4 → (k : ℕ) (c : Conf) → k ≤ budget → Steps ds k start c → Ended c → ⊥
  no_order_ends l h k c m s z = by given.result refl
    where
      by : (x : Result) → given.result ≡ x → ⊥
      by (refusal o p) q = absurd (omega (arith, given.ending, ap result_code q))
      by (ended e count b) q =
          let is = given.ending ∙ ap result_code q in
          none_ends_by d stands (subst (Runs text carriers budget) q given.runs) (not_well e (omega (arith, is))) k c m s z
