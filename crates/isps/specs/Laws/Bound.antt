-- The longest run, from the contract of the call to the runs of the rules.
use Rattle.std.specs.Prelude.{ℕ, ◌<◌, ◌≤◌, ◌≡◌, refl, true, false, List, ◌⊎◌, ◌↔◌, length}
use Rattle.std.proofs.Common.{sym, ap, ◌∙◌, arith}
use Rattle.rules.specs.Limits.{longest_text, most_steps}
use Rattle.rules.specs.Text.Scan.{scan}
use Rattle.rules.specs.Grammar.Trees.{Description, flatten}
use Rattle.rules.specs.Declarations.{Table, declarations, total_words}
use Rattle.rules.specs.Steps.Evaluation.{Carriers}
use Rattle.rules.specs.Steps.Runs.{Conf, Steps, begin, Ending, done, halted, paused, faulted}
use Rattle.rules.specs.Faults.Whole.{main_name}
use Rattle.rules.specs.Answers.{accepted, Checks, Result, refusal, ended, result_of, little_endian, bytes_of, words_from}
use Rattle.rules.specs.Agreement.{ending_code, ending_in, steps_in}
use Rattle.rules.specs.Bound.{cost_of, turns_from, Bound, bound, no_bound, not_bounded, bound_of, Bounds, not_accepted, bounded_by, Reached}
use Rattle.rules.specs.Calls.Memory.{Memory, Enough, number_bytes, answered, settled}
use Rattle.rules.specs.Calls.Run.{RunCall}
use Rattle.rules.specs.Calls.Bound.{BoundCall, bound_number, bound_numbers, short_memory, long_text, answer}
use Rattle.laws_grammar.specs.Grammar.Exact.{unique}
use Rattle.bounds.proofs.Longest as longest
use Rattle.bounds.proofs.Longest.{bounding, one_bound}
use Rattle.isps.specs.Laws.Calls.{ran_steps, result_code}
use Rattle.isps.specs.Laws.Orders.{Answers, answers, run_of, ran_by}

pub one_bound_call : {text : List ℕ} {before after after' : Memory} {n n' : ℕ} → BoundCall text before after n → BoundCall text before after' n'
    → (n ≡ n') × (after ≡ after')
one_bound_call (short_memory s e a) (short_memory s' e' a') = (e ∙ sym e', a ∙ sym a')
one_bound_call (short_memory s e a) (long_text m l e' a') = absurd (s m)
one_bound_call (short_memory s e a) (answer x m l b e' a') = absurd (s m)
one_bound_call (long_text m l e a) (short_memory s e' a') = absurd (s m)
one_bound_call (long_text m l e a) (long_text m' l' e' a') = (e ∙ sym e', a ∙ sym a')
one_bound_call (long_text m l e a) (answer x m' l' b e' a') = absurd (omega arith)
one_bound_call (answer x m l b e a) (short_memory s e' a') = absurd (s m)
one_bound_call (answer x m l b e a) (long_text m' l' e' a') = absurd (omega arith)
one_bound_call {text} {before} (answer x m l b e a) (answer y m' l' b' e' a') =
    let same : x ≡ y = one_bound text b b' in
    (e ∙ ap bound_number same ∙ sym e', a ∙ ap (λ z. settled (bound_numbers text z) before) same ∙ sym a')

-- the first number of an answer
abbrev bound_code : Bound → ℕ
bound_code (bound n) = 0
bound_code no_bound = 5
bound_code (not_bounded m p) = 4

bound_code_lem : (text : List ℕ) (x : Bound) (b : List ℕ) → little_endian 4 (answered (bound_numbers text x) b) ≡ bound_code x
unfolding little_endian answered number_bytes bytes_of
bound_code_lem text (bound n) b = refl
bound_code_lem text no_bound b = refl
bound_code_lem text (not_bounded m p) b = refl

-- what a call has answered that was lent enough
record Told (text : List ℕ) (before after : Memory) : Type 0 where
  pub result : Bound
  pub bounds : Bounds text result
  pub ending : ending_in after.answer ≡ bound_code result
  pub answer : after.answer ≡ answered (bound_numbers text result) before.answer

told : {text : List ℕ} {before after : Memory} {n : ℕ} → BoundCall text before after n → Enough before → length text ≤ longest_text → Told text before after
told (short_memory s e a) enough short = absurd (s enough)
told (long_text m l e a) enough short = absurd (omega arith)
told {text} {before} (answer x m l b e a) enough short =
    record { result = x; bounds = b; ending = ap (λ y. ending_in y.answer) a ∙ bound_code_lem text x before.answer; answer = ap (λ y. y.answer) a }

described : {text : List ℕ} {x : Bound} → Bounds text x → (bound_code x ≡ 4 → ⊥) → (d : Description) × flatten d ≡ (scan text).tokens
described (not_accepted c) n = absurd (n refl)
described (bounded_by d stands c) n = (d, stands)

pub bound_description : {text : List ℕ} {before after : Memory} {n : ℕ} → BoundCall text before after n → Enough before → length text ≤ longest_text
    → (ending_in after.answer ≡ 4 → ⊥) → (d : Description) × flatten d ≡ (scan text).tokens
bound_description call enough short n = let t = told call enough short in described t.bounds (λ e. n (t.ending ∙ e))

-- the bound of the description that stands in the text
record Stood (text : List ℕ) (d : Description) (x : Bound) : Type 0 where
  pub declarations_count : ℕ
  pub words_count : ℕ
  pub checks : Checks text (accepted declarations_count words_count)
  pub is : x ≡ bound_of (declarations d)

stood : {text : List ℕ} {x : Bound} (d : Description) → flatten d ≡ (scan text).tokens → Bounds text x → (bound_code x ≡ 4 → ⊥) → Stood text d x
stood d stands (not_accepted c) n = absurd (n refl)
stood d stands (bounded_by d' reads c) n =
    record { declarations_count = _; words_count = _; checks = c; is = ap (λ y. bound_of (declarations y)) (unique d' d (reads ∙ sym stands)) }

module _ {text : List ℕ} {before after : Memory} {n : ℕ} (call : BoundCall text before after n) (enough : Enough before) (short : length text ≤ longest_text)
    (d : Description) (stands : flatten d ≡ (scan text).tokens) where
  abbrev ds : Table
  ds = declarations d

  given : Told text before after
  given = told call enough short

  none_coded : (x : Bound) → (bound_code x ≡ 5) ↔ (x ≡ no_bound)
  none_coded (bound k) = (λ e. absurd (omega arith), λ e. let z : ◌≡◌ {A = ℕ} 0 1 = cc in absurd (omega arith))
  none_coded no_bound = (λ e. refl, λ e. refl)
  none_coded (not_bounded m p) = (λ e. absurd (omega arith), λ e. let z : ◌≡◌ {A = ℕ} 0 1 = cc in absurd (omega arith))

  pub no_bound_exactly : (ending_in after.answer ≡ 4 → ⊥)
      → (ending_in after.answer ≡ 5) ↔ ((turns_from ds (main_name ds) ≡ true) ⊎ (most_steps < cost_of ds (main_name ds)))
  no_bound_exactly n =
      let s = stood d stands given.bounds (λ e. n (given.ending ∙ e)) in
      let f = none_coded given.result in
      let g = longest.no_bound_exactly ds in
      (λ e. g.0 (sym s.is ∙ f.0 (sym given.ending ∙ e)), λ b. given.ending ∙ f.1 (s.is ∙ g.1 b))

  pub reached_exactly : (ending_in after.answer ≡ 4 → ⊥) → (turns_from ds (main_name ds) ≡ true) ↔ Reached ds (main_name ds)
  reached_exactly n =
      let s = stood d stands given.bounds (λ e. n (given.ending ∙ e)) in longest.reached_exactly text s.declarations_count s.words_count s.checks d stands

  -- a bound, and the text that has it
  record Bounded : Type 0 where
    pub declarations_count : ℕ
    pub words_count : ℕ
    pub checks : Checks text (accepted declarations_count words_count)
    pub steps : bound_of ds ≡ bound (steps_in after.answer)

  bounded : ending_in after.answer ≡ 0 → Bounded
  bounded z = by given.result refl
    where
      by : (x : Bound) → given.result ≡ x → Bounded
      by no_bound q = absurd (omega (arith, given.ending, ap bound_code q))
      by (not_bounded m p) q = absurd (omega (arith, given.ending, ap bound_code q))
      by (bound k) q =
          let s = stood d stands given.bounds (λ e. omega (arith, ap bound_code q)) in
          let is : bound_of ds ≡ bound k = sym s.is ∙ q in
          let fits : k ≤ most_steps = (bounding ds k is).fits in
          let steps : steps_in after.answer ≡ k =
          ap (λ y. steps_in y) (given.answer ∙ ap (λ x. answered (bound_numbers text x) before.answer) q) ∙ ran_steps text done k before.answer (omega arith) in
          record { declarations_count = s.declarations_count; words_count = s.words_count; checks = s.checks; steps = is ∙ ap bound (sym steps) }

  pub bound_is : ending_in after.answer ≡ 0 → (turns_from ds (main_name ds) ≡ false) × (steps_in after.answer ≡ cost_of ds (main_name ds))
  bound_is z = let b = bounding ds (steps_in after.answer) (bounded z).steps in (b.straight, sym b.is)

  pub every_order_bounded : ending_in after.answer ≡ 0 → (s : Carriers) (k : ℕ) (c : Conf) → Steps ds k (begin ds (main_name ds) s) c → k ≤ steps_in after.answer
  every_order_bounded z = let b = bounded z in longest.every_order_bounded text b.declarations_count b.words_count b.checks d stands (steps_in after.answer) b.steps

paused_code : (e : Ending) → ending_code e ≡ 2 → e ≡ paused
paused_code done z = absurd (omega arith)
paused_code halted z = absurd (omega arith)
paused_code paused z = refl
paused_code (faulted m p) z = absurd (omega arith)

pub never_paused : {text : List ℕ} {before after : Memory} {n : ℕ} → BoundCall text before after n → Enough before → ending_in after.answer ≡ 0
    → {carriers left : List ℕ} {budget m : ℕ} {lent returned : Memory} → RunCall text carriers budget lent returned left m → Enough lent
    → length text ≤ longest_text → steps_in after.answer ≤ budget → ending_in returned.answer ≡ 2 → ⊥
never_paused {text} {after = after} call enough zero {carriers} {left} {budget} {lent = lent} {returned} run enough_too short l two =
    let g = answers run enough_too short in
    let D = bound_description call enough short (λ e. omega arith) in
    let d = D.0 in
    let b = bounded call enough short d D.1 zero in
    by g d D.1 b g.result refl
  where
    by : (g : Answers text carriers budget lent returned left) (d : Description) (stands : flatten d ≡ (scan text).tokens) → Bounded call enough short d stands
        → (x : Result) → g.result ≡ x → ⊥
    by g d stands b (refusal m p) q = omega (arith, g.ending, ap result_code q)
    by g d stands b (ended e count bytes) q =
        let r = run_of (declarations d) carriers budget in
        let same : result_of r ≡ ended e count bytes = (ran_by d stands g.runs q).is in
        let e_is : r.ending ≡ e = cc in
        let is : r.ending ≡ paused = e_is ∙ paused_code e (sym (g.ending ∙ ap result_code q) ∙ two) in
        longest.budget_enough text b.declarations_count b.words_count b.checks d stands (steps_in after.answer) b.steps budget
        (words_from (total_words (declarations d)) carriers) l is
