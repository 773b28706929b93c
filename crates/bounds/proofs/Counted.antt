-- A run, in any order, counts no more than its body costs, where no REPEAT or RESTART can be reached.
use Prim.Native.Nat.{ℕ, zero, suc, ◌+◌, ◌≤◌}
use Rattle.std.proofs.Math.Path.{◌≡◌}
use Rattle.std.proofs.Common.{sym, ◌∙◌}
use Rattle.std.specs.Prelude.{false}
use native.Mathlib.Omega.{arith}
use Rattle.rules.specs.Declarations.{Word, Table}
use Rattle.rules.specs.Steps.Evaluation.{Carriers, Outcome, gives, faulty}
use Rattle.rules.specs.Steps.Control.{Live, call_l, start, Mv, leftmost, Sig, ends, goes, leaves, restarts, stops, faults, work, next}
use Rattle.rules.specs.Steps.Runs.{Conf, running, finished, stopped, failed, Worked, perform, told, after, body_act, step, Steps, begin, paused, run, run_from}
use Rattle.rules.specs.Bound.{cost_of, turns_from}
use Rattle.laws_orders.proofs.Orders.Orderly.{Orderly}
use Rattle.laws_orders.proofs.Orders.Budget.{onward}
use Rattle.bounds.proofs.Closing.{cost_of_body, turns_of_body}
use Rattle.bounds.proofs.Owed.{owed, Straight, Falls}
use Rattle.bounds.proofs.Falling.{start_owes, start_straight, step_falls, owes_one}

module _ (ds : Table) (o : Orderly ds) where
  abbrev owes : Live → ℕ
  owes = owed (cost_of ds) (turns_from ds)

  abbrev StraightOn : Live → Type 0
  StraightOn = Straight (cost_of ds) (turns_from ds)

  -- it owes at most n steps
  abbrev Within : ℕ → Conf → Type 0
  Within n (running r s) = StraightOn r × (owes r ≤ n)
  Within n (finished s) = Unit {0}
  Within n (stopped s) = Unit {0}
  Within n (failed m p s) = Unit {0}

  told_within : (k n : ℕ) (s u : Carriers) (x : Sig) → k ≤ suc n → Falls (cost_of ds) (turns_from ds) k x → Within n (told s u x)
  told_within k n s u ends l f = tt
  told_within k n s u (goes r) l f = (f.0, let g : 1 + owes r ≤ k = f.1 in omega arith)
  told_within k n s u (leaves i) l f = tt
  told_within k n s u (restarts i) l f = tt
  told_within k n s u stops l f = tt
  told_within k n s u (faults m p) l f = tt

  step_within : (n : ℕ) (r : Live) (m : Mv r) (s : Carriers) → StraightOn r → owes r ≤ suc n → Within n (step ds r m s)
  step_within n r m s h l = by (perform ds (work r m) s)
    where
      by : (x : Outcome Worked) → Within n (after s (next (body_act ds) r m) x)
      by (gives w) =
          told_within (owes r) n s w.carriers (next (body_act ds) r m w.number) l
          (step_falls (cost_of ds) (turns_from ds) (body_act ds) (cost_of_body ds o) (turns_of_body ds o) r m w.number h)
      by (faulty k p) = tt

  steps_within : (k n : ℕ) (c d : Conf) → Within n c → Steps ds k c d → k ≤ n
  steps_within zero n c d w q = omega arith
  steps_within (suc k) zero (running r s) d w q = let l = owes_one (cost_of ds) (turns_from ds) r in let u : owes r ≤ 0 = w.1 in absurd (omega arith)
  steps_within (suc k) (suc n) (running r s) d w q =
      let l : k ≤ n = steps_within k n (step ds r q.0 s) d (step_within n r q.0 s w.0 w.1) q.1 in omega arith
  steps_within (suc k) n (finished s) d w q = absurd q
  steps_within (suc k) n (stopped s) d w q = absurd q
  steps_within (suc k) n (failed m p s) d w q = absurd q

  -- left to right, a budget of what is owed is enough
  enough : (b n : ℕ) (r : Live) (s : Carriers) → StraightOn r → owes r ≤ b → (run_from ds b n (running r s)).ending ≡ paused → ⊥
  unfolding run_from
  enough zero n r s h l e = let g = owes_one (cost_of ds) (turns_from ds) r in omega arith
  enough (suc b) n r s h l e = by (step ds r (leftmost r) s) (step_within b r (leftmost r) s h l) (enough b (suc n)) e
    where
      by :
          (c : Conf) → Within b c
          → ((t : Live) (u : Carriers) → StraightOn t → owes t ≤ b → (run_from ds b (suc n) (running t u)).ending ≡ paused → ⊥)
          → (onward ds b n c).ending ≡ paused → ⊥
      by (running t u) w ih z = ih t u w.0 w.1 z
      by (finished u) w ih z = let x : ◌≡◌ {A = ℕ} 0 1 = cc in omega arith
      by (stopped u) w ih z = let x : ◌≡◌ {A = ℕ} 0 1 = cc in omega arith
      by (failed m p u) w ih z = let x : ◌≡◌ {A = ℕ} 0 1 = cc in omega arith

  -- of a body from which no REPEAT or RESTART can be reached
  module _ (p : Word) (straight : turns_from ds p ≡ false) where
    abbrev begun : Live
    begun = call_l p (start (body_act ds p))

    begun_straight : StraightOn begun
    begun_straight = start_straight (cost_of ds) (turns_from ds) (body_act ds p) (sym (turns_of_body ds o p) ∙ straight)

    begun_owes : owes begun ≡ cost_of ds p
    begun_owes = start_owes (cost_of ds) (turns_from ds) (body_act ds p) ∙ sym (cost_of_body ds o p)

    -- from any carriers, any single steps of any members are no more than it costs
    pub steps_bounded : (s : Carriers) (k : ℕ) (c : Conf) → Steps ds k (begin ds p s) c → k ≤ cost_of ds p
    unfolding begin
    steps_bounded s k c q = steps_within k (cost_of ds p) (begin ds p s) c (begun_straight, let e = begun_owes in omega arith) q

    -- with a budget of that size no run is Paused
    pub never_paused : (b : ℕ) (s : Carriers) → cost_of ds p ≤ b → (run ds p b s).ending ≡ paused → ⊥
    unfolding run begin
    never_paused b s l e = enough b 0 begun s begun_straight (let g = begun_owes in omega arith) e
