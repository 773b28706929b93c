-- The places that the tracing machine can come to: there few activations go on and few groups are open.
use Prim.Native.Nat.{ℕ, zero, suc, ◌+◌, ◌*◌, ◌≤◌}
use Rattle.std.specs.Prelude.{◌≡◌, Bool, true, false, cond, length}
use Rattle.std.proofs.Common.{sym, ap, subst, subst₂}
use mathlib.Core.List.{List, [], ◌∷◌, ◌++◌}
use Rattle.std.proofs.Math.Option.{none, some}
use native.Mathlib.Omega.{arith}
use Rattle.std.proofs.Math.ListN.{length-append}
use Rattle.rules.specs.Text.Scan.{same_bytes}
use Rattle.rules.specs.Declarations.{Word, Table}
use Rattle.rules.specs.Limits.{deepest}
use Rattle.rules.specs.Steps.Control.{Live, one, seq_l, both, left, right, lab_l, loop_l, call_l, start, leftmost, Sig, ends, goes, leaves, restarts, stops, faults, next}
use Rattle.rules.specs.Steps.Runs.{body_act}
use Rattle.rules.specs.Whole.Sets.{chain_over}
use Rattle.laws_orders.proofs.Orders.Tests.{impossible}
use Rattle.laws_orders.proofs.Orders.Foot.{Prints}
use Rattle.laws_orders.proofs.Orders.Ok.{OkL, OkS, in_body, BodiesOk, start_ok}
use Rattle.laws_orders.proofs.Orders.Next.{next_ok}
use Rattle.laws_orders.proofs.Orders.Depth.{Chained, ChainedS, call_chained, next_chained}
use Rattle.laws_orders.specs.Cited.Flat.{Link, at, exit, Code, pc, Labels, bind, leave_to, restart_to, own_label}
use Rattle.traces.specs.Cited.Events.{Event}
use Rattle.traces.specs.Telling.{step_events}
use Rattle.telling.specs.Cited.Passing.{Grouping, passage}
use Rattle.telling.specs.Cited.Tracing.{Told, return, next_t}
use Rattle.telling.proofs.Holding.{Spot, alone, rest, base, onward, HoldsGrouped}
use Rattle.telling.proofs.Moves.{Follows}
use Rattle.telling.proofs.Standing.{whole, Activations, Stands, Says, Jumping, start_stands, next_says, ends_over, body_moves}

module _ (ds : Table) (C : Code) (M : Grouping) where
  -- an activation for each body of the chain, but the outermost
  stack_few :
      (c : ℕ) (r : Live) (s : Spot) (ρ : Labels) (k : Link) (τ : List ℕ) (n : ℕ) (κ : List ℕ) → Chained ds c r → Stands C M s ρ k τ r n κ
      → length κ ≤ length τ + c
  stack_few c (one i) (alone b) ρ k τ n κ h q = omega (arith, ap length q.0)
  stack_few c (one i) (rest z b) ρ k τ n κ h q = absurd q
  stack_few c (seq_l r a) (alone b) ρ k τ n κ h q = stack_few c r (alone b) ρ (at q.0) τ n κ h.0 q.1
  stack_few c (seq_l r a) (rest z b) ρ k τ n κ h q = absurd q
  stack_few c (both r t) s ρ k τ n κ h q = stack_few c r (alone (q.2 ∷ base s)) ρ (at q.0) τ n κ h.0 q.5
  stack_few c (left r) s ρ k τ n κ h q = absurd h
  stack_few c (right r) s ρ k τ n κ h q = stack_few c r (onward (M.last q.1) q.1 (base s)) ρ k τ n κ h q.3
  stack_few c (lab_l l a r) (alone b) ρ k τ n κ h q = stack_few c r (alone b) (bind l q.0 k ρ) k τ n κ h.1 q.2
  stack_few c (lab_l l a r) (rest z b) ρ k τ n κ h q = absurd q
  stack_few c (loop_l a r) (alone b) ρ k τ n κ h q = stack_few c r (alone b) ρ (at q.0) τ n κ h.1 q.3
  stack_few c (loop_l a r) (rest z b) ρ k τ n κ h q = absurd q
  stack_few zero (call_l p r) (alone b) ρ k τ n κ h q = absurd h
  stack_few (suc c) (call_l p r) (alone b) ρ k τ n κ h q =
      omega (arith, stack_few c r (alone []) (own_label C p) exit q.0 n κ h.1 q.2, q.1.deeper)
  stack_few (suc c) (call_l p r) (rest z b) ρ k τ n κ h q = absurd q
  stack_few zero (call_l p r) (rest z b) ρ k τ n κ h q = absurd q

  -- each by its instruction
  stack_active :
      (r : Live) (s : Spot) (ρ : Labels) (k : Link) (τ : List ℕ) (n : ℕ) (κ : List ℕ) → Activations C M τ → Stands C M s ρ k τ r n κ → Activations C M κ
  stack_active (one i) (alone b) ρ k τ n κ h q = subst (Activations C M) (sym q.0) h
  stack_active (one i) (rest z b) ρ k τ n κ h q = absurd q
  stack_active (seq_l r a) (alone b) ρ k τ n κ h q = stack_active r (alone b) ρ (at q.0) τ n κ h q.1
  stack_active (seq_l r a) (rest z b) ρ k τ n κ h q = absurd q
  stack_active (both r t) s ρ k τ n κ h q = stack_active r (alone (q.2 ∷ base s)) ρ (at q.0) τ n κ h q.5
  stack_active (left r) s ρ k τ n κ h q = absurd q
  stack_active (right r) s ρ k τ n κ h q = stack_active r (onward (M.last q.1) q.1 (base s)) ρ k τ n κ h q.3
  stack_active (lab_l l a r) (alone b) ρ k τ n κ h q = stack_active r (alone b) (bind l q.0 k ρ) k τ n κ h q.2
  stack_active (lab_l l a r) (rest z b) ρ k τ n κ h q = absurd q
  stack_active (loop_l a r) (alone b) ρ k τ n κ h q = stack_active r (alone b) ρ (at q.0) τ n κ h q.3
  stack_active (loop_l a r) (rest z b) ρ k τ n κ h q = absurd q
  stack_active (call_l p r) (alone b) ρ k τ n κ h q = stack_active r (alone []) (own_label C p) exit q.0 n κ (q.1.active h) q.2
  stack_active (call_l p r) (rest z b) ρ k τ n κ h q = absurd q

  whole_few : (κ : List ℕ) → ((n : ℕ) → length (M.around n) ≤ deepest) → length (whole C M κ) ≤ deepest * length κ
  unfolding whole
  whole_few [] h = omega arith
  whole_few (m ∷ κ) h = omega (arith, length-append (M.around m) (whole C M κ), h m, whole_few κ h)

  module _ (P : Prints) (c : ℕ) (p : Word) where
    -- something of a run of the body of p from left to right is left there, in which activations go at most c deep
    pub record TracePlace (n : ℕ) (κ : List ℕ) : Type 0 where
      left : Live
      sound : OkL P (in_body P p) left
      chained : Chained ds c left
      stands : Stands C M (alone []) (own_label C p) exit [] left n κ

    -- so few activations go on
    pub place_stack : {n : ℕ} {κ : List ℕ} → TracePlace n κ → length κ ≤ c
    place_stack {n} {κ} h = omega (arith, stack_few c h.left (alone []) (own_label C p) exit [] n κ h.chained h.stands)

    pub place_active : {n : ℕ} {κ : List ℕ} → TracePlace n κ → Activations C M κ
    place_active {n} {κ} h = stack_active h.left (alone []) (own_label C p) exit [] n κ tt h.stands

    -- and so few groups are open
    pub place_groups :
        ((n : ℕ) → length (M.around n) ≤ deepest) → {n : ℕ} {κ : List ℕ} → TracePlace n κ → length (M.around n ++ whole C M κ) ≤ deepest * suc c
    place_groups few {n} {κ} h = omega (arith, length-append (M.around n) (whole C M κ), few n, whole_few κ few, place_stack h)

    module _ (ok : BodiesOk P (body_act ds)) (bodies : HoldsGrouped M C (body_act ds)) (far : chain_over ds (suc c) p ≡ false) where
      pub place_first : TracePlace (C.first p) []
      place_first =
          record {
            left = start (body_act ds p);
            sound = start_ok P (in_body P p) (body_act ds p) (ok p);
            chained = (call_chained ds (suc c) p far).1;
            stands = start_stands C M (body_act ds p) (alone []) (own_label C p) (C.first p) exit [] (bodies p);
          }

      pub place_next :
          {n : ℕ} {κ : List ℕ} → TracePlace n κ → (v n' : ℕ) (κ' : List ℕ)
          → (next_t C M n (C.instr n) κ v).control ≡ pc n' κ' → TracePlace n' κ'
      unfolding return leave_to restart_to
      place_next {n} {κ} h v n' κ' e =
          by (next (body_act ds) h.left (leftmost h.left) v) (next_t C M n (C.instr n) κ v) e (next_ok P (body_act ds) ok (in_body P p) h.left (leftmost h.left) v h.sound)
          (next_chained ds c h.left v h.chained)
          (next_says C M (body_act ds) bodies P ok h.left (in_body P p) (alone []) (own_label C p) exit [] n κ h.sound h.stands v)
        where
          w : List ℕ
          w = M.around n ++ whole C M κ

          es : List Event
          es = step_events (body_act ds) h.left v

          again : (b : Bool) (m : Told) → m.control ≡ pc n' κ' → Jumping C M (cond b (some (at (C.first p))) none) (alone []) [] w es m → TracePlace n' κ'
          again true m i q =
              let d = q.jumped in
              let x : C.first p ≡ n' = cc in
              let y : ◌≡◌ {A = List ℕ} [] κ' = cc in
              subst₂ TracePlace x y place_first
          again false m i q = absurd q.jumped

          gone : (b : Bool) (m : Told) → m.control ≡ pc n' κ' → Jumping C M (cond b (some exit) none) (alone []) [] w es m → TracePlace n' κ'
          gone true m i q = let d = q.jumped in impossible (cc)
          gone false m i q = absurd q.jumped

          by :
              (x : Sig) (m : Told) → m.control ≡ pc n' κ' → OkS P (in_body P p) x → ChainedS ds c x → Says C M (alone []) (own_label C p) exit [] w es x m
              → TracePlace n' κ'
          by ends m i o k q = let d = (ends_over C M q).0 in impossible (cc)
          by (goes r) m i o k q =
              let d = q.control in
              let x : q.n ≡ n' = cc in
              let y : q.κ ≡ κ' = cc in
              record { left = r; sound = o; chained = k; stands = subst₂ (λ x y. Stands C M (alone []) (own_label C p) exit [] r x y) x y q.stands }
          by (leaves l) m i o k q = gone (same_bytes l p) m i q
          by (restarts l) m i o k q = again (same_bytes l p) m i q
          by stops m i o k q = let d = ap (λ (z : Told). z.control) q.0 in impossible (cc)
          by (faults x y) m i o k q = let d = ap (λ (z : Told). z.control) q.0 in impossible (cc)

      -- the groups that open where the body begins
      pub first_moves : Follows M [] (passage M [] (M.around (C.first p))) (M.around (C.first p) ++ whole C M [])
      unfolding whole
      first_moves = (body_moves C M (body_act ds) bodies p []).follows

      -- what a step passes leads to the groups that are open where it has come to
      pub place_moves :
          {n : ℕ} {κ : List ℕ} → TracePlace n κ → (v n' : ℕ) (κ' : List ℕ) → (next_t C M n (C.instr n) κ v).control ≡ pc n' κ'
          → Follows M (M.around n ++ whole C M κ) (next_t C M n (C.instr n) κ v).passed (M.around n' ++ whole C M κ')
      unfolding return leave_to restart_to whole
      place_moves {n} {κ} h v n' κ' e =
          by (next (body_act ds) h.left (leftmost h.left) v) (next_t C M n (C.instr n) κ v) e
          (next_says C M (body_act ds) bodies P ok h.left (in_body P p) (alone []) (own_label C p) exit [] n κ h.sound h.stands v)
        where
          w : List ℕ
          w = M.around n ++ whole C M κ

          es : List Event
          es = step_events (body_act ds) h.left v

          Arrives : Told → Type 0
          Arrives m = Follows M w m.passed (M.around n' ++ whole C M κ')

          again : (b : Bool) (m : Told) → m.control ≡ pc n' κ' → Jumping C M (cond b (some (at (C.first p))) none) (alone []) [] w es m → Arrives m
          again true m i q =
              let d = q.jumped in
              let x : C.first p ≡ n' = cc in
              let y : ◌≡◌ {A = List ℕ} [] κ' = cc in
              subst (λ (z : Told). Follows M w z.passed (M.around n' ++ whole C M κ')) (sym d)
              (subst₂ (λ x y. Follows M w (passage M [] (M.around (C.first p))) (M.around x ++ whole C M y)) x y
              (subst (λ z. Follows M z (passage M [] (M.around (C.first p))) (M.around (C.first p) ++ [])) (sym q.same) (body_moves C M (body_act ds) bodies p []).follows))
          again false m i q = absurd q.jumped

          gone : (b : Bool) (m : Told) → m.control ≡ pc n' κ' → Jumping C M (cond b (some exit) none) (alone []) [] w es m → Arrives m
          gone true m i q = let d = q.jumped in impossible (cc)
          gone false m i q = absurd q.jumped

          by : (x : Sig) (m : Told) → m.control ≡ pc n' κ' → Says C M (alone []) (own_label C p) exit [] w es x m → Arrives m
          by ends m i q = let d = (ends_over C M q).0 in impossible (cc)
          by (goes r) m i q =
              let d = q.control in
              let x : q.n ≡ n' = cc in
              let y : q.κ ≡ κ' = cc in
              subst₂ (λ x y. Follows M w m.passed (M.around x ++ whole C M y)) x y q.moves.follows
          by (leaves l) m i q = gone (same_bytes l p) m i q
          by (restarts l) m i q = again (same_bytes l p) m i q
          by stops m i q = let d = ap (λ (z : Told). z.control) q.0 in impossible (cc)
          by (faults x y) m i q = let d = ap (λ (z : Told). z.control) q.0 in impossible (cc)
