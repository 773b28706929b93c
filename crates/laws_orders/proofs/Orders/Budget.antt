-- The run with a budget, as the steps from left to right that it stands for.
use Prim.Native.Nat.{ℕ, zero, suc, ◌+◌, ◌≤◌}
use Rattle.std.specs.Prelude.{◌≡◌}
use Rattle.std.proofs.Math.Path.{refl, subst}
use Rattle.std.proofs.Common.{sym, ◌∙◌}
use native.Mathlib.Omega.{arith}
use Rattle.std.proofs.Math.ListN.{length}
use Rattle.rules.specs.Declarations.{Word, Table}
use Rattle.rules.specs.Steps.Evaluation.{Carriers, Outcome, gives, faulty}
use Rattle.rules.specs.Steps.Control.{Live, call_l, start, Sig, ends, goes, leaves, restarts, stops, faults, Mv, leftmost, work, next}
use Rattle.rules.specs.Steps.Runs.{Conf, running, finished, stopped, failed, Worked, perform, told, after, body_act, step, begin}
use Rattle.rules.specs.Steps.Runs.{done, halted, paused, faulted, Run, run_with, run_from, run}
use Rattle.laws_orders.proofs.Orders.Effect.{work_length}
use Rattle.rules.specs.Steps.Orders.{Ended, end_of}
use Rattle.laws_orders.proofs.Orders.Ends.{EndsWell}
use Rattle.laws_orders.proofs.Orders.Descent.{LeftSteps, allowed, fault_stuck}
use Rattle.laws_orders.proofs.Orders.Carriers.{frames}

abbrev carriers_of : Conf → Carriers
carriers_of (running r s) = s
carriers_of (finished s) = s
carriers_of (stopped s) = s
carriers_of (failed m p s) = s

-- A run from some carriers: it keeps to its budget, pauses only when that is used up, and keeps the number of words.
pub record Bounded (budget : ℕ) (s : Carriers) (r : Run) : Type 0 where
  pub short : r.steps ≤ budget
  pub pausing : r.ending ≡ paused → r.steps ≡ budget
  pub same_length : length r.carriers ≡ length s

module _ (ds : Table) where
  told_length : (s u : Carriers) (x : Sig) → length u ≡ length s → length (carriers_of (told s u x)) ≡ length s
  told_length s u ends e = e
  told_length s u (goes r) e = e
  told_length s u (leaves l) e = refl
  told_length s u (restarts l) e = refl
  told_length s u stops e = e
  told_length s u (faults m p) e = refl

  step_length : (r : Live) (m : Mv r) (s : Carriers) → length (carriers_of (step ds r m s)) ≡ length s
  step_length r m s = by (perform ds (work r m) s) refl
    where
      by : (x : Outcome Worked) → perform ds (work r m) s ≡ x → length (carriers_of (after s (next (body_act ds) r m) x)) ≡ length s
      by (gives w) e = told_length s w.carriers (next (body_act ds) r m w.number) (work_length (frames ds) (work r m) s w e)
      by (faulty n p) e = refl

  -- what a run goes on to, after a step
  abbrev pub onward : ℕ → ℕ → Conf → Run
  onward b n c =
      elim c [
        | running t u ↦ run_from ds b (suc n) (running t u)
        | finished u ↦ run_with done (suc n) u
        | stopped u ↦ run_with halted (suc n) u
        | failed m p u ↦ run_with (faulted m p) n u
      ]

  bounded : (b n : ℕ) (r : Live) (s : Carriers) → Bounded (n + b) s (run_from ds b n (running r s))
  unfolding run_from
  bounded zero n r s = record { short = omega arith; pausing = λ p. omega arith; same_length = refl }
  bounded (suc b) n r s = by (bounded b (suc n)) (step ds r (leftmost r) s) (step_length r (leftmost r) s)
    where
      by :
          ((t : Live) (u : Carriers) → Bounded (suc n + b) u (run_from ds b (suc n) (running t u)))
          → (c : Conf) → length (carriers_of c) ≡ length s → Bounded (n + suc b) s (onward b n c)
      by ih (running t u) e =
          let h : Bounded (suc n + b) u (run_from ds b (suc n) (running t u)) = ih t u in
          record { short = omega (arith, h.short); pausing = λ p. omega (arith, h.pausing p); same_length = h.same_length ∙ e }
      by ih (finished u) e = record { short = omega arith; pausing = λ p. cc; same_length = e }
      by ih (stopped u) e = record { short = omega arith; pausing = λ p. cc; same_length = e }
      by ih (failed m q u) e = record { short = omega arith; pausing = λ p. cc; same_length = e }

  pub run_bounded : (n : Word) (b : ℕ) (s : Carriers) → Bounded b s (run ds n b s)
  unfolding run begin
  run_bounded n b s = let e : 0 + b ≡ b = omega arith in subst (λ z. Bounded z s (run ds n b s)) e (bounded b 0 (call_l n (start (body_act ds n))) s)

  -- the steps from left to right that a run took after n steps, up to its end
  pub record Took (n : ℕ) (c : Conf) (r : Run) : Type 0 where
    pub count : ℕ
    pub counted : n + count ≡ r.steps
    pub left : LeftSteps ds count c (end_of r)

  -- a run that ends well took the steps that it counts
  pub took : (b n : ℕ) (r : Live) (s : Carriers) → EndsWell (run_from ds b n (running r s)) → Took n (running r s) (run_from ds b n (running r s))
  unfolding run_from
  took zero n r s h = absurd h
  took (suc b) n r s h = by (took b (suc n)) (step ds r (leftmost r) s) refl h
    where
      by :
          ((t : Live) (u : Carriers) → EndsWell (run_from ds b (suc n) (running t u)) → Took (suc n) (running t u) (run_from ds b (suc n) (running t u)))
          → (c : Conf) → step ds r (leftmost r) s ≡ c → EndsWell (onward b n c) → Took n (running r s) (onward b n c)
      by ih (running t u) e w =
          let x : Took (suc n) (running t u) (run_from ds b (suc n) (running t u)) = ih t u w in
          record {
            count = suc x.count;
            counted = omega (arith, x.counted);
            left = subst (λ c. LeftSteps ds x.count c (end_of (run_from ds b (suc n) (running t u)))) (sym e) x.left;
          }
      by ih (finished u) e w = record { count = 1; counted = omega arith; left = e }
      by ih (stopped u) e w = record { count = 1; counted = omega arith; left = e }
      by ih (failed m p u) e w = absurd w

  -- where left to right ends within the budget, the run ends well
  pub ends_well :
      (k b n : ℕ) (r : Live) (s : Carriers) (d : Conf) → Ended d → k ≤ b → LeftSteps ds k (running r s) d → EndsWell (run_from ds b n (running r s))
  unfolding run_from
  ends_well zero b n r s d h l e = absurd (subst Ended (sym e) h)
  ends_well (suc k) zero n r s d h l e = absurd (omega arith)
  ends_well (suc k) (suc b) n r s d h l e = by (step ds r (leftmost r) s) (λ t u. ends_well k b (suc n) t u d h (omega arith)) e
    where
      by :
          (c : Conf) → ((t : Live) (u : Carriers) → LeftSteps ds k (running t u) d → EndsWell (run_from ds b (suc n) (running t u)))
          → LeftSteps ds k c d → EndsWell (onward b n c)
      by (running t u) ih z = ih t u z
      by (finished u) ih z = tt
      by (stopped u) ih z = tt
      by (failed m p u) ih z = absurd (fault_stuck ds k (failed m p u) d h (allowed ds k (failed m p u) d z) tt)
