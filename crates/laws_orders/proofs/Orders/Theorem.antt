-- Order-independence for any footprints that have the frame facts and in which the bodies are well formed.
use Rattle.std.specs.Prelude.{ℕ, zero, suc, ◌+◌, ◌≤◌, ◌≡◌, refl, true, []}
use Rattle.std.proofs.Common.{arith}
use Rattle.rules.specs.Declarations.{Word, Table}
use Rattle.rules.specs.Steps.Evaluation.{Carriers}
use Rattle.rules.specs.Steps.Control.{Live, call_l, start}
use Rattle.rules.specs.Steps.Runs.{Conf, running, finished, stopped, failed, Steps, body_act, begin, Run, run}
use Rattle.laws_orders.proofs.Orders.Foot.{Prints, Sub-refl}
use Rattle.laws_orders.proofs.Orders.Ok.{Env, OkL, BodiesOk, call_ok}
use Rattle.laws_orders.proofs.Orders.Effect.{Frames}
use Rattle.laws_orders.proofs.Orders.Ends.{end_ended, EndsWell}
use Rattle.rules.specs.Steps.Orders.{Ended, end_of, EveryOrder}
use Rattle.laws_orders.proofs.Orders.Descent.{allowed, every, leftward, fault_stuck}
use Rattle.laws_orders.proofs.Orders.Budget.{Took, took, ends_well}

-- from an end there are no steps
ended_still : (ds : Table) (j : ℕ) (c d : Conf) → Ended c → Steps ds j c d → (j ≡ 0) × (c ≡ d)
ended_still ds zero c d h e = (refl, e)
ended_still ds (suc j) (running r s) d h e = absurd h
ended_still ds (suc j) (finished s) d h e = absurd e
ended_still ds (suc j) (stopped s) d h e = absurd e
ended_still ds (suc j) (failed m p s) d h e = absurd h

module _ {ds : Table} {P : Prints} (M : Frames ds P) (bodies : BodiesOk P (body_act ds)) (n : Word) (b : ℕ) (s : Carriers) where
  abbrev first : Live
  first = call_l n (start (body_act ds n))

  -- the place of the body that begins
  abbrev outermost : Env
  outermost = record { foot = P.body n; may_stop = true; scope = [] }

  first_ok : OkL P outermost first
  first_ok = call_ok P (body_act ds) bodies outermost n (record { foot = Sub-refl (P.body n); stopping = λ p. refl })

  pub order_free : EndsWell (run ds n b s) → (k : ℕ) (c : Conf) → Steps ds k (begin ds n s) c → EveryOrder ds (run ds n b s) k c
  unfolding run begin
  order_free w k c e =
      let r : Run = run ds n b s in
      let h : Ended (end_of r) = end_ended r.ending r.carriers w in
      let t : Took ds 0 (running first s) r = took ds b 0 first s w in
      let l = allowed ds t.count (running first s) (end_of r) t.left in
      let i = every ds M bodies outermost (end_of r) h k t.count (running first s) c first_ok l e in
      let a : k + i.0 ≡ r.steps = omega (arith, i.1, t.counted) in
      record {
        short = omega arith;
        sound = fault_stuck ds i.0 c (end_of r) h i.2;
        goes_on = (i.0, a, i.2);
        same = λ q. let z = ended_still ds i.0 c (end_of r) q i.2 in (omega (arith, z.0), z.1);
      }

  pub none_ends : (EndsWell (run ds n b s) → ⊥) → (k : ℕ) (c : Conf) → k ≤ b → Steps ds k (begin ds n s) c → Ended c → ⊥
  unfolding run begin
  none_ends w k c l e h = w (ends_well ds k b 0 first s c h l (leftward ds M bodies outermost c h k (running first s) first_ok e))
