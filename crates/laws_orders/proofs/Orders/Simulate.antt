-- The flat machine does what left to right does, a step for a step.
use Prim.Native.Nat.{ℕ, zero, suc}
use Rattle.std.specs.Prelude.{◌≡◌}
use Rattle.std.proofs.Math.Path.{refl, ap}
use mathlib.Core.List.{List, []}
use Rattle.rules.specs.Declarations.{Word, Table}
use Rattle.rules.specs.Steps.Evaluation.{Carriers, Outcome, gives, faulty}
use Rattle.rules.specs.Steps.Control.{Live, call_l, start, leftmost}
use Rattle.rules.specs.Steps.Control.{Sig, ends, goes, leaves, restarts, stops, faults, next}
use Rattle.rules.specs.Steps.Runs.{Conf, running, finished, stopped, failed, Worked, perform, told, after, body_act, step, begin}
use Rattle.rules.specs.Steps.Runs.{Run, run_with, done, halted, faulted, run_from, run}
use Rattle.laws_orders.proofs.Orders.Budget.{onward}
use Rattle.laws_orders.specs.Cited.Flat.{exit, Code, At, work_m, next_m}
use Rattle.laws_orders.specs.Cited.Flat.{Machine, runs, ended, stood, broke, put, put_after, step_m, outer, leave_to, restart_to}
use Rattle.laws_orders.proofs.Orders.Flat.{run_m}
use Rattle.laws_orders.specs.Cited.Flat.{HoldsBodies}
use Rattle.laws_orders.proofs.Orders.Stands.{Stands, Says, work_says, next_says, call_stands}

module _ (C : Code) where
  -- the two have come to the same: the same place, or the same end
  abbrev Same : Conf → Machine → Type 0
  Same (running r s) m = (n : ℕ) × (σ : List ℕ) × (m ≡ runs n σ s) × Stands C outer exit [] r n σ
  Same (finished s) m = m ≡ ended s
  Same (stopped s) m = m ≡ stood s
  Same (failed x p s) m = m ≡ broke x p s

  told_same : (s u : Carriers) (x : Sig) (m : At) → Says C outer exit [] x m → Same (told s u x) (put s u m)
  unfolding leave_to restart_to
  told_same s u ends m q = ap (put s u) q
  told_same s u (goes r) m q = (q.0, q.1, ap (put s u) q.2, q.3)
  told_same s u (leaves l) m q = absurd q
  told_same s u (restarts l) m q = absurd q
  told_same s u stops m q = ap (put s u) q
  told_same s u (faults x p) m q = ap (put s u) q

  after_same :
      (s : Carriers) (f : ℕ → Sig) (g : ℕ → At) → ((v : ℕ) → Says C outer exit [] (f v) (g v))
      → (x : Outcome Worked) → Same (after s f x) (put_after s g x)
  after_same s f g h (gives w) = told_same s w.carriers (f w.number) (g w.number) (h w.number)
  after_same s f g h (faulty m p) = refl

  module _ (ds : Table) (bodies : HoldsBodies C (body_act ds)) where
    step_same : (r : Live) (s : Carriers) (n : ℕ) (σ : List ℕ) → Stands C outer exit [] r n σ → Same (step ds r (leftmost r) s) (step_m ds C n σ s)
    step_same r s n σ h =
        rw (work_says C r outer exit [] n σ h)
        (after_same s (next (body_act ds) r (leftmost r)) (next_m C (C.instr n) σ) (next_says C (body_act ds) bodies r outer exit [] n σ h)
        (perform ds (work_m (C.instr n)) s))

    -- what the machine's run goes on to, after a step
    abbrev onward_m : ℕ → ℕ → Machine → Run
    onward_m b k m =
        elim m [
          | runs n σ u ↦ run_m ds C b (suc k) n σ u
          | ended u ↦ run_with done (suc k) u
          | stood u ↦ run_with halted (suc k) u
          | broke x p u ↦ run_with (faulted x p) k u
        ]

    from_agrees :
        (b k : ℕ) (r : Live) (s : Carriers) (n : ℕ) (σ : List ℕ) → Stands C outer exit [] r n σ
        → run_m ds C b k n σ s ≡ run_from ds b k (running r s)
    unfolding run_m run_from
    from_agrees zero k r s n σ h = refl
    from_agrees (suc b) k r s n σ h = by (step ds r (leftmost r) s) (step_m ds C n σ s) (from_agrees b (suc k)) (step_same r s n σ h)
      where
        by :
            (c : Conf) (m : Machine)
            → ((r : Live) (u : Carriers) (n : ℕ) (σ : List ℕ) → Stands C outer exit [] r n σ → run_m ds C b (suc k) n σ u ≡ run_from ds b (suc k) (running r u))
            → Same c m → onward_m b k m ≡ onward ds b k c
        by (running t u) m ih q = rw q.2 (ih t u q.0 q.1 q.3)
        by (finished u) m ih q = rw q
        by (stopped u) m ih q = rw q
        by (failed x p u) m ih q = rw q

    -- A code that holds the bodies does, from the first instruction of a body and with an empty stack, just what the run of that body does.
    pub machine_agrees : (n : Word) (b : ℕ) (s : Carriers) → run_m ds C b 0 (C.first n) [] s ≡ run ds n b s
    unfolding run begin
    machine_agrees n b s = from_agrees b 0 (call_l n (start (body_act ds n))) s (C.first n) [] (call_stands C (body_act ds) bodies outer exit [] n)
