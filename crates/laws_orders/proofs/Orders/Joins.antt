-- Two moves from one configuration: one faults, or the two orders meet.
use Rattle.std.specs.Prelude.{ℕ, ◌≡◌, refl}
use Rattle.std.proofs.Common.{sym, ◌∙◌, ap, subst}
use Rattle.rules.specs.Declarations.{Table}
use Rattle.rules.specs.Steps.Evaluation.{Carriers, Outcome, gives, faulty}
use Rattle.rules.specs.Steps.Control.{Live, Sig, ends, goes, leaves, restarts, stops, faults, Mv, work, next}
use Rattle.rules.specs.Steps.Runs.{running, Worked, worked, perform, told, after, body_act, step}
use Rattle.laws_orders.proofs.Orders.Foot.{Prints, Indep-sym}
use Rattle.laws_orders.proofs.Orders.Diamond.{Faulty, After, Meet, neither, first, second, meet, Free}
use Rattle.laws_orders.proofs.Orders.Effect.{Frames, Both, later_faults, commute}
use Rattle.rules.specs.Steps.Orders.{Faulted}

module _ (ds : Table) where
  step_by :
      (r : Live) (m : Mv r) (s : Carriers) (w : Worked) (x : Sig) → perform ds (work r m) s ≡ gives w
      → next (body_act ds) r m w.number ≡ x → step ds r m s ≡ told s w.carriers x
  step_by r m s w x e q = ap (after s (next (body_act ds) r m)) e ∙ ap (told s w.carriers) q

  step_faults : (r : Live) (m : Mv r) (s : Carriers) (n p : ℕ) → perform ds (work r m) s ≡ faulty n p → Faulted (step ds r m s)
  step_faults r m s n p e = subst Faulted (sym (ap (after s (next (body_act ds) r m)) e)) tt

  next_faults :
      (r : Live) (m : Mv r) (s : Carriers) (w : Worked) → perform ds (work r m) s ≡ gives w
      → Faulty (next (body_act ds) r m w.number) → Faulted (step ds r m s)
  next_faults r m s w e h = subst Faulted (sym (step_by r m s w (faults h.number h.place) e h.is)) tt

  -- two moves from one configuration, seen from the move k: it faults; or m faults after it; or the two orders meet
  pub data Joined (r : Live) (m k : Mv r) (s : Carriers) : Type 0 where
    k_faults : Faulted (step ds r k s) → Joined r m k s
    m_faults : (r₁ : Live) (m₁ : Mv r₁) (s₁ : Carriers) → step ds r k s ≡ running r₁ s₁ → Faulted (step ds r₁ m₁ s₁) → Joined r m k s
    joins :
        (r₁ : Live) (m₁ : Mv r₁) (s₁ : Carriers) (r₂ : Live) (k₂ : Mv r₂) (s₂ : Carriers)
        → step ds r k s ≡ running r₁ s₁ → step ds r m s ≡ running r₂ s₂ → step ds r₁ m₁ s₁ ≡ step ds r₂ k₂ s₂ → Joined r m k s

  -- a fault keeps the carriers from before, which differ; else the two orders come to the same
  met :
      (r : Live) (m k : Mv r) (s : Carriers) (r₁ : Live) (m₁ : Mv r₁) (r₂ : Live) (k₂ : Mv r₂) (s₁ s₂ u : Carriers) (x : Sig)
      → step ds r k s ≡ running r₁ s₁ → step ds r m s ≡ running r₂ s₂
      → step ds r₁ m₁ s₁ ≡ told s₁ u x → step ds r₂ k₂ s₂ ≡ told s₂ u x → Joined r m k s
  met r m k s r₁ m₁ r₂ k₂ s₁ s₂ u ends e b p q = joins r₁ m₁ s₁ r₂ k₂ s₂ e b (p ∙ sym q)
  met r m k s r₁ m₁ r₂ k₂ s₁ s₂ u (goes t) e b p q = joins r₁ m₁ s₁ r₂ k₂ s₂ e b (p ∙ sym q)
  met r m k s r₁ m₁ r₂ k₂ s₁ s₂ u (leaves l) e b p q = m_faults r₁ m₁ s₁ e (subst Faulted (sym p) tt)
  met r m k s r₁ m₁ r₂ k₂ s₁ s₂ u (restarts l) e b p q = m_faults r₁ m₁ s₁ e (subst Faulted (sym p) tt)
  met r m k s r₁ m₁ r₂ k₂ s₁ s₂ u stops e b p q = joins r₁ m₁ s₁ r₂ k₂ s₂ e b (p ∙ sym q)
  met r m k s r₁ m₁ r₂ k₂ s₁ s₂ u (faults n p') e b p q = m_faults r₁ m₁ s₁ e (subst Faulted (sym p) tt)

  module _ {P : Prints} (M : Frames ds P) where
    module _ (r : Live) (m k : Mv r) (s : Carriers) (d : Free (body_act ds) P r m k) where
      -- m is still there after k, and its work faults
      still_faults :
          (w : Worked) (n p : ℕ) → perform ds (work r k) s ≡ gives w → perform ds (work r m) s ≡ faulty n p
          → After (body_act ds) r k m w.number → Joined r m k s
      still_faults w n p e b y =
          m_faults y.rest y.move w.carriers (step_by r k s w (goes y.rest) e y.goes_there)
          (step_faults y.rest y.move w.carriers n p (rw y.same_work (later_faults M (work r k) (work r m) (Indep-sym d.apart) s w n p e b)))

      -- the work of k goes through, and that of m does not
      join_faulty :
          (w : Worked) (n p v : ℕ) → perform ds (work r k) s ≡ gives w → perform ds (work r m) s ≡ faulty n p
          → Meet (body_act ds) r m k v w.number → Joined r m k s
      join_faulty w n p v e b (neither x q) = k_faults (next_faults r k s w e q)
      join_faulty w n p v e b (first x q q') = k_faults (next_faults r k s w e q)
      join_faulty w n p v e b (second y q q') = still_faults w n p e b y
      join_faulty w n p v e b (meet x y q) = still_faults w n p e b y

      -- both works go through
      join_gives :
          (w w' : Worked) → perform ds (work r k) s ≡ gives w → perform ds (work r m) s ≡ gives w'
          → Both M (work r k) (work r m) w w' → Meet (body_act ds) r m k w'.number w.number → Joined r m k s
      join_gives w w' e b c (neither x q) = k_faults (next_faults r k s w e q)
      join_gives w w' e b c (first x q q') = k_faults (next_faults r k s w e q)
      join_gives w w' e b c (second y q q') =
          m_faults y.rest y.move w.carriers (step_by r k s w (goes y.rest) e y.goes_there)
          (next_faults y.rest y.move w.carriers (worked c.carriers w'.number) (rw y.same_work c.second_last) q')
      join_gives w w' e b c (meet x y q) =
          met r m k s y.rest y.move x.rest x.move w.carriers w'.carriers c.carriers
          (next (body_act ds) x.rest x.move w.number)
          (step_by r k s w (goes y.rest) e y.goes_there) (step_by r m s w' (goes x.rest) b x.goes_there)
          (step_by y.rest y.move w.carriers (worked c.carriers w'.number) _ (rw y.same_work c.second_last) (sym q))
          (step_by x.rest x.move w'.carriers (worked c.carriers w.number) _ (rw x.same_work c.first_last) refl)

      pub join : (x y : Outcome Worked) → perform ds (work r k) s ≡ x → perform ds (work r m) s ≡ y → Joined r m k s
      join (faulty n p) y e b = k_faults (step_faults r k s n p e)
      join (gives w) (faulty n p) e b = join_faulty w n p 0 e b (d.meets 0 w.number)
      join (gives w) (gives w') e b =
          join_gives w w' e b (commute M (work r k) (work r m) (Indep-sym d.apart) s w w' e b) (d.meets w'.number w.number)
