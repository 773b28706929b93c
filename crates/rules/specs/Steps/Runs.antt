-- Steps, orders of steps, and the run from left to right with a budget.
use Rattle.std.specs.Prelude.{ℕ, zero, suc, ◌≡◌}
use Rattle.std.proofs.Math.Option.{Option, none, some}
use Rattle.rules.specs.Grammar.Trees.{Action}
use Rattle.rules.specs.Values.{Value}
use Rattle.rules.specs.Declarations.{Word, Table, body_of}
use Rattle.rules.specs.Steps.Actions.{Act, ins, noop, act_of}
use Rattle.rules.specs.Steps.Evaluation.{Carriers, Outcome, gives, faulty, evaluate, transferred}
use Rattle.rules.specs.Steps.Control.{Live, call_l, start, Work, moves, tests, nothing, Sig, ends, goes, leaves, restarts, stops, faults, Mv, leftmost, work, next}

-- what a run has come to
pub data Conf : Type 0 where
  running : Live → Carriers → Conf
  finished : Carriers → Conf
  stopped : Carriers → Conf
  failed : ℕ → ℕ → Carriers → Conf

-- the carriers behind the work of a step, with the number that a test gives
pub record Worked : Type 0 where
  pub carriers : Carriers
  pub number : ℕ

abbrev pub worked : Carriers → ℕ → Worked
worked s v = record { carriers = s; number = v }

abbrev pub moved : Outcome Carriers → Outcome Worked
moved (gives s) = gives (worked s 0)
moved (faulty m p) = faulty m p

abbrev pub tested : Carriers → Outcome Value → Outcome Worked
tested s (gives v) = gives (worked s v.number)
tested s (faulty m p) = faulty m p

abbrev pub perform : Table → Work → Carriers → Outcome Worked
perform ds (moves d e) s = moved (transferred ds s d e)
perform ds (tests e) s = tested s (evaluate ds s e)
perform ds nothing s = gives (worked s 0)

abbrev pub told : Carriers → Carriers → Sig → Conf
told s u ends = finished u
told s u (goes r) = running r u
told s u (leaves l) = failed 0 0 s
told s u (restarts l) = failed 0 0 s
told s u stops = stopped u
told s u (faults m p) = failed m p s

-- "A faulting step isn't counted and changes nothing": a fault keeps the carriers from before
abbrev pub after : Carriers → (ℕ → Sig) → Outcome Worked → Conf
after s f (gives w) = told s w.carriers (f w.number)
after s f (faulty m p) = failed m p s

-- a body that is not there does nothing; an accepted text activates only bodies
abbrev pub act_or : Option Action → Act
act_or none = ins noop
act_or (some a) = act_of a

module _ (ds : Table) where
  unfoldable pub body_act : Word → Act
  body_act n = act_or (body_of ds n)

  -- one step: the work of the move on the carriers, and the control's step by the number that it gives
  abbrev pub step : (r : Live) → Mv r → Carriers → Conf
  step r m s = after s (next body_act r m) (perform ds (work r m) s)

  -- a sequence of n allowed steps, by any choice of moves
  abbrev pub Steps : ℕ → Conf → Conf → Type 0
  Steps zero c d = c ≡ d
  Steps (suc n) (running r s) d = (m : Mv r) × Steps n (step r m s) d
  Steps (suc n) (finished s) d = ⊥
  Steps (suc n) (stopped s) d = ⊥
  Steps (suc n) (failed m p s) d = ⊥

  -- MAIN begins as an activation whose step is not counted
  unfoldable pub begin : Word → Carriers → Conf
  begin n s = running (call_l n (start (body_act n))) s

-- how a run ends, after how many steps, and with which carriers
pub data Ending : Type 0 where
  done halted paused : Ending
  faulted : ℕ → ℕ → Ending

pub record Run : Type 0 where
  pub ending : Ending
  pub steps : ℕ
  pub carriers : Carriers

abbrev pub run_with : Ending → ℕ → Carriers → Run
run_with e n s = record { ending = e; steps = n; carriers = s }

-- Left to right, with a budget, after n steps. "Paused means more steps than the budget were needed; a step that would fault needs one too."
module _ (ds : Table) where
  unfoldable pub run_from : ℕ → ℕ → Conf → Run
  run_from b n (finished s) = run_with done n s
  run_from b n (stopped s) = run_with halted n s
  run_from b n (failed m p s) = run_with (faulted m p) n s
  run_from zero n (running r s) = run_with paused n s
  run_from (suc b) n (running r s) =
      elim (step ds r (leftmost r) s) [
        | running t u ↦ run_from b (suc n) (running t u)
        | finished u ↦ run_with done (suc n) u
        | stopped u ↦ run_with halted (suc n) u
        | failed m p u ↦ run_with (faulted m p) n u
      ]

  unfoldable pub run : Word → ℕ → Carriers → Run
  run n b s = run_from b 0 (begin ds n s)
