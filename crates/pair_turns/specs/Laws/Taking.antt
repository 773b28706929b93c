-- Laws of the turns of a list, one after another.
-- Assumes nothing.
use Rattle.std.specs.Prelude.{ℕ, suc, ◌+◌, ◌-◌, ◌<◌, ◌≤◌, ◌≡◌, refl, Bool, true, false, List, ◌∷◌, length, get_or}
use Rattle.std.proofs.Common.{sym, ◌∙◌, arith, add-one, drop_of_length-le, drop-cons}
use Rattle.std.proofs.Math.Path.{ap}
use Rattle.std.proofs.Math.ListN.{drop}
use Rattle.rules.specs.Declarations.{Table}
use Rattle.rules.specs.Steps.Runs.{paused, Run, run_with}
use Rattle.rules.specs.Pair.{Side, Total, side_of, turn, goes_on, with_turn, no_turns}
use Rattle.pairs.specs.Cited.Loop.{turns_from}
use Rattle.pairs.specs.Laws.Taken.{loop-total}
use Rattle.pairs.specs.Laws.Turns.{turn_short}
use Rattle.runner.specs.Runs.{ending_of, steps_of}
use Rattle.runner.specs.declared.runs.Ended.{Ended}
use Rattle.runner.specs.declared.runs.Ended.TheVariants.{Done, Stopped, Paused, Fault as Broken}
use Rattle.pair_turns.specs.Words.{table_words}
use Rattle.pair_turns.specs.Turns.{Turned}
use Rattle.pair_turns.specs.Taking.{well_ended, total_by, Took}
use Rattle.pair_turns.specs.declared.taking.Last.{Last}

-- The first i turns are taken, and `left` of the budget is left: the rest comes to what all come to.
pub record Taking (first second : Table) (turns : List ℕ) (budget : ℕ) (before after : List ℕ) (left : ℕ) (stopped : Bool) (side i : ℕ) : Type 0 where
  pub same : turns_from (side_of first second) turns budget (no_turns (table_words before))
      ≡ turns_from (side_of first second) (drop i turns) left (total_by (well_ended stopped (budget - left)) side after)

pub none_taken : (first second : Table) (turns : List ℕ) (budget : ℕ) (before : List ℕ) → Taking first second turns budget before before budget false 0 0
none_taken first second turns budget before =
    let e : 0 ≡ budget - budget = omega arith in
    record { same = ap (λ (n : ℕ). turns_from (side_of first second) turns budget (total_by (well_ended false n) 0 before)) e }

-- the total behind a turn, and what is to do then
abbrev behind : (ℕ → Side) → List ℕ → ℕ → Total → ℕ → Run → Total
behind sides ts b x t r =
    elim (goes_on r.ending)
    [ true ↦ turns_from sides ts (b - r.steps) (with_turn x (turn t b x.carriers r)) | false ↦ with_turn x (turn t b x.carriers r) ]

module _ {first second : Table} {turns before mid after : List ℕ} {budget left side next i : ℕ} {stopped : Bool} {e : Ended}
    (s : Taking first second turns budget before mid left stopped side i) (l : i < length turns) (is : next ≡ get_or turns i 0)
    (t : Turned (side_of first second next) left mid after e) where
  pub turn_fits : {x : Ended} → e ≡ x → steps_of x ≤ left
  turn_fits q = let h = turn_short (side_of first second next) left (table_words mid) in omega (arith, h, ap (λ (r : Run). r.steps) t.same, ap steps_of q)

  abbrev so_far : Total
  so_far = total_by (well_ended stopped (budget - left)) side mid

  turned : turns_from (side_of first second) turns budget (no_turns (table_words before))
      ≡ behind (side_of first second) (drop (suc i) turns) left so_far next (run_with (ending_of e) (steps_of e) (table_words after))
  unfolding turns_from
  turned =
      s.same ∙ ap (λ ts. turns_from (side_of first second) ts left so_far) (drop-cons turns i 0 l ∙ ap (λ k. k ∷ drop (suc i) turns) (sym is))
      ∙ ap (behind (side_of first second) (drop (suc i) turns) left so_far next) t.same

  -- by the case of its ending
  turned_by : {x : Ended} → e ≡ x → turns_from (side_of first second) turns budget (no_turns (table_words before))
      ≡ behind (side_of first second) (drop (suc i) turns) left so_far next (run_with (ending_of x) (steps_of x) (table_words after))
  turned_by q = turned ∙ ap (λ (x : Ended). behind (side_of first second) (drop (suc i) turns) left so_far next
      (run_with (ending_of x) (steps_of x) (table_words after))) q

  steps_so_far : steps_of (well_ended stopped (budget - left)) ≡ budget - left
  steps_so_far = elim stopped as (λ z. steps_of (well_ended z (budget - left)) ≡ budget - left) [ true ↦ refl | false ↦ refl ]

  steps_now : {x : Ended} → e ≡ x → left ≤ budget → steps_of (well_ended stopped (budget - left)) + steps_of x ≡ budget - (left - steps_of x)
  steps_now {x} q fits = let h : steps_of x ≤ left = turn_fits q in omega (arith, steps_so_far)

  -- one that ended well
  pub done_more : {n : ℕ} → e ≡ Done n → left ≤ budget → Taking first second turns budget before after (left - n) false next (i + 1)
  done_more {n} q fits =
      rw add-one (record {
        same = turned_by q ∙ ap (λ (k : ℕ). turns_from (side_of first second) (drop (suc i) turns) (left - n) (total_by (Done k) next after)) (steps_now q fits);
      })

  pub stopped_more : {n : ℕ} → e ≡ Stopped n → left ≤ budget → Taking first second turns budget before after (left - n) true next (i + 1)
  stopped_more {n} q fits =
      rw add-one (record {
        same = turned_by q ∙ ap (λ (k : ℕ). turns_from (side_of first second) (drop (suc i) turns) (left - n) (total_by (Stopped k) next after))
            (steps_now q fits);
      })

  -- one that paused, or that came to a fault
  comes : {r : Last} → turns_from (side_of first second) turns budget (no_turns (table_words before)) ≡ total_by r.ended r.side after
      → Took first second turns budget before after r
  comes q = record { same = sym (loop-total (side_of first second) turns budget (no_turns (table_words before))) ∙ q }

  pub last_paused : {n : ℕ} → e ≡ Paused n → Took first second turns budget before after (record { ended = Paused (budget - left + n); side = next })
  last_paused {n} q = comes (turned_by q ∙ ap (λ (k : ℕ). total_by (Paused (k + n)) next after) steps_so_far)

  pub last_faulted : {m p n : ℕ} → e ≡ Broken m p n → Took first second turns budget before after
      (record { ended = Broken m p (budget - left + n); side = next })
  last_faulted {m} {p} {n} q = comes (turned_by q ∙ ap (λ (k : ℕ). total_by (Broken m p (k + n)) next after) steps_so_far)

-- no turn is left
pub all_taken : {first second : Table} {turns before after : List ℕ} {budget left side i : ℕ} {stopped : Bool} {e : Ended}
    → Taking first second turns budget before after left stopped side i → length turns ≤ i → e ≡ well_ended stopped (budget - left)
    → Took first second turns budget before after (record { ended = e; side = side })
unfolding turns_from
all_taken {first} {second} {turns} {before} {after} {budget} {left} {side} {i} {stopped} {e} s l q =
    let x = total_by (well_ended stopped (budget - left)) side after in
    record {
      same =
          sym (loop-total (side_of first second) turns budget (no_turns (table_words before))) ∙ s.same
          ∙ ap (λ ts. turns_from (side_of first second) ts left x) (drop_of_length-le turns {i = i} l)
          ∙ ap (λ (z : Ended). total_by z side after) (sym q);
    }
