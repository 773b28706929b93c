-- Random descent: every order of the steps ends as the leftmost one does, after as many steps.
use Rattle.std.specs.Prelude.{ℕ, zero, suc, ◌+◌, ◌≡◌, refl, ◌⊎◌}
use Rattle.std.proofs.Common.{sym, ◌∙◌, subst, inl, inr, arith}
use Rattle.rules.specs.Declarations.{Table}
use Rattle.rules.specs.Steps.Evaluation.{Carriers, Outcome, gives, faulty}
use Rattle.rules.specs.Steps.Control.{Live, Sig, ends, goes, leaves, restarts, stops, faults, Mv, leftmost, work, next}
use Rattle.rules.specs.Steps.Runs.{Conf, running, finished, stopped, failed, Worked, perform, told, after, body_act, step, Steps}
use Rattle.laws_orders.proofs.Orders.Foot.{Prints}
use Rattle.laws_orders.proofs.Orders.Ok.{Env, OkL, OkS, BodiesOk}
use Rattle.laws_orders.proofs.Orders.Next.{next_ok}
use Rattle.laws_orders.proofs.Orders.Diamond.{Free, diamond}
use Rattle.laws_orders.proofs.Orders.Effect.{Frames}
use Rattle.rules.specs.Steps.Orders.{Ended, Faulted}
use Rattle.laws_orders.proofs.Orders.Joins.{Joined, k_faults, m_faults, joins, join}

module _ (ds : Table) where
  -- the n steps that always take the leftmost member that has not ended
  abbrev pub LeftSteps : ℕ → Conf → Conf → Type 0
  LeftSteps zero c d = c ≡ d
  LeftSteps (suc n) (running r s) d = LeftSteps n (step ds r (leftmost r) s) d
  LeftSteps (suc n) (finished s) d = ⊥
  LeftSteps (suc n) (stopped s) d = ⊥
  LeftSteps (suc n) (failed m p s) d = ⊥

  -- they are allowed
  pub allowed : (n : ℕ) (c d : Conf) → LeftSteps n c d → Steps ds n c d
  allowed zero c d e = e
  allowed (suc n) (running r s) d e = (leftmost r, allowed n (step ds r (leftmost r) s) d e)
  allowed (suc n) (finished s) d e = e
  allowed (suc n) (stopped s) d e = e
  allowed (suc n) (failed m p s) d e = e

  -- a fault never comes to an end
  pub fault_stuck : (n : ℕ) (c d : Conf) → Ended d → Steps ds n c d → Faulted c → ⊥
  fault_stuck zero (running r s) d h e q = q
  fault_stuck zero (finished s) d h e q = q
  fault_stuck zero (stopped s) d h e q = q
  fault_stuck zero (failed m p s) d h e q = subst Ended (sym e) h
  fault_stuck (suc n) (running r s) d h e q = q
  fault_stuck (suc n) (finished s) d h e q = q
  fault_stuck (suc n) (stopped s) d h e q = q
  fault_stuck (suc n) (failed m p s) d h e q = e

  abbrev pub OkC : Prints → Env → Conf → Type 0
  OkC P E (running r s) = OkL P E r
  OkC P E (finished s) = Unit {0}
  OkC P E (stopped s) = Unit {0}
  OkC P E (failed m p s) = Unit {0}

  told_ok : (P : Prints) (E : Env) (s u : Carriers) (x : Sig) → OkS P E x → OkC P E (told s u x)
  told_ok P E s u ends h = tt
  told_ok P E s u (goes r) h = h
  told_ok P E s u (leaves l) h = tt
  told_ok P E s u (restarts l) h = tt
  told_ok P E s u stops h = tt
  told_ok P E s u (faults m p) h = tt

  after_ok : (P : Prints) (E : Env) (s : Carriers) (f : ℕ → Sig) → ((v : ℕ) → OkS P E (f v)) → (x : Outcome Worked) → OkC P E (after s f x)
  after_ok P E s f h (gives w) = told_ok P E s w.carriers (f w.number) (h w.number)
  after_ok P E s f h (faulty m p) = tt

  module _ {P : Prints} (M : Frames ds P) (bodies : BodiesOk P (body_act ds)) (E : Env) where
    pub step_ok : (r : Live) (m : Mv r) (s : Carriers) → OkL P E r → OkC P E (step ds r m s)
    step_ok r m s h = after_ok P E s (next (body_act ds) r m) (λ v. next_ok P (body_act ds) bodies E r m v h) (perform ds (work r m) s)

    module _ (d : Conf) (h : Ended d) where
      -- with n steps to the end after some first move, there are n after every first move
      abbrev Any : ℕ → Type 0
      Any n = (r : Live) (s : Carriers) → OkL P E r → Steps ds (suc n) (running r s) d → (m : Mv r) → Steps ds n (step ds r m s) d

      -- an end after one step is no meeting point
      not_yet : (r : Live) (m k : Mv r) (s : Carriers) → Joined ds r m k s → step ds r k s ≡ d → ⊥
      not_yet r m k s (k_faults q) e = fault_stuck 0 (step ds r k s) d h e q
      not_yet r m k s (m_faults r₁ m₁ s₁ q z) e = subst Ended (sym e ∙ q) h
      not_yet r m k s (joins r₁ m₁ s₁ r₂ k₂ s₂ q p z) e = subst Ended (sym e ∙ q) h

      -- what the steps from k come to, after k and then m₁
      onward :
          (n : ℕ) → Any n → (r : Live) (k : Mv r) (s : Carriers) → OkL P E r → (r₁ : Live) (m₁ : Mv r₁) (s₁ : Carriers)
          → step ds r k s ≡ running r₁ s₁ → Steps ds (suc n) (step ds r k s) d → Steps ds n (step ds r₁ m₁ s₁) d
      onward n ih r k s o r₁ m₁ s₁ q e = ih r₁ s₁ (subst (OkC P E) q (step_ok r k s o)) (subst (λ c. Steps ds (suc n) c d) q e) m₁

      swap_suc :
          (n : ℕ) → Any n → (r : Live) (m k : Mv r) (s : Carriers) → OkL P E r → Joined ds r m k s
          → Steps ds (suc n) (step ds r k s) d → Steps ds (suc n) (step ds r m s) d
      swap_suc n ih r m k s o (k_faults q) e = absurd (fault_stuck (suc n) (step ds r k s) d h e q)
      swap_suc n ih r m k s o (m_faults r₁ m₁ s₁ q z) e = absurd (fault_stuck n (step ds r₁ m₁ s₁) d h (onward n ih r k s o r₁ m₁ s₁ q e) z)
      swap_suc n ih r m k s o (joins r₁ m₁ s₁ r₂ k₂ s₂ q p z) e =
          let e₂ : Steps ds (suc n) (running r₂ s₂) d = (k₂, subst (λ c. Steps ds n c d) z (onward n ih r k s o r₁ m₁ s₁ q e)) in
          subst (λ c. Steps ds (suc n) c d) (sym p) e₂

      swap :
          (n : ℕ) (r : Live) (m k : Mv r) (s : Carriers) → (m ≡ k) ⊎ Free (body_act ds) P r m k → (Joined ds r m k s → Steps ds n (step ds r m s) d)
          → Steps ds n (step ds r k s) d → Steps ds n (step ds r m s) d
      swap n r m k s (inl p) f e = subst (λ z. Steps ds n (step ds r z s) d) (sym p) e
      swap n r m k s (inr x) f e = f (join ds M r m k s x (perform ds (work r k) s) (perform ds (work r m) s) refl refl)

      descend : (n : ℕ) → Any n
      descend zero r s o e m =
          swap zero r m e.0 s (diamond (body_act ds) P bodies E r o m e.0) (λ j. absurd (not_yet r m e.0 s j e.1)) e.1
      descend (suc n) r s o e m =
          swap (suc n) r m e.0 s (diamond (body_act ds) P bodies E r o m e.0) (λ j. swap_suc n (descend n) r m e.0 s o j e.1) e.1

      -- Every sequence of allowed steps can be gone on with to that same end, and the lengths add up.
      pub every : (k n : ℕ) (c c' : Conf) → OkC P E c → Steps ds n c d → Steps ds k c c' → (j : ℕ) × (k + j ≡ n) × Steps ds j c' d
      every zero n c c' o e q = (n, omega arith, subst (λ z. Steps ds n z d) q e)
      every (suc k) zero (running r s) c' o e q = absurd (subst Ended (sym e) h)
      every (suc k) (suc n) (running r s) c' o e q =
          let i : (j : ℕ) × (k + j ≡ n) × Steps ds j c' d = every k n (step ds r q.0 s) c' (step_ok r q.0 s o) (descend n r s o e q.0) q.1 in
          let a : k + i.0 ≡ n = i.1 in
          (i.0, omega arith, i.2)
      every (suc k) n (finished s) c' o e q = absurd q
      every (suc k) n (stopped s) c' o e q = absurd q
      every (suc k) n (failed m p s) c' o e q = absurd q

      -- The leftmost order comes to that end too.
      pub leftward : (n : ℕ) (c : Conf) → OkC P E c → Steps ds n c d → LeftSteps n c d
      leftward zero c o e = e
      leftward (suc n) (running r s) o e = leftward n (step ds r (leftmost r) s) (step_ok r (leftmost r) s o) (descend n r s o e (leftmost r))
      leftward (suc n) (finished s) o e = e
      leftward (suc n) (stopped s) o e = e
      leftward (suc n) (failed m p s) o e = e
