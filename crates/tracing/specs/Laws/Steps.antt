-- A step of the tracing machine, by what the step of the flat machine comes to: it goes the same way, with the activations on its stack.
-- Assumes nothing.
use Rattle.std.specs.Prelude.{ℕ, zero, suc, ◌≡◌, refl, false, List, [], ◌∷◌, map, Result, Ok, Err}
use Rattle.std.proofs.Common.{sym, ◌∙◌, ap, ap₂, subst}
use Rattle.std.proofs.Math.Option.{Option, none, some}
use Rattle.rules.specs.Declarations.{Table}
use Rattle.rules.specs.Values.{Value}
use Rattle.rules.specs.Stores.{made, if_given, entries_of, stored}
use Rattle.rules.specs.Steps.Actions.{transfer_place}
use Rattle.rules.specs.Steps.Control.{Work, moves, tests, nothing}
use Rattle.rules.specs.Steps.Evaluation.{Carriers, Outcome, gives, faulty, then, Field, evaluate, evaluate_accesses, transferred, store_all}
use Rattle.rules.specs.Steps.Runs.{Worked, moved, perform}
use Rattle.rules.specs.Values.{cut}
use Rattle.laws_orders.specs.Cited.Flat.{Link, at, exit, Instr, if_i, decode_i, go_i, call_i, stop_i, move_i, Code, At, pc, over, halt, broken, go, find, picked, work_m, next_m, put, put_after, step_m}
use Rattle.laws_orders.proofs.Orders.Tests.{impossible}
use Rattle.stepping.specs.declared.steps.Moved.{Moved}
use Rattle.stepping.specs.declared.steps.Moved.TheVariants.{Go, Call, Stop}
use Rattle.stepping.specs.declared.steps.Fault.{Fault}
use Rattle.stepping.specs.Steps.{onward, returning, control, Activates, Into, fault}
use Rattle.telling.specs.Cited.Passing.{Grouping, passage}
use Rattle.telling.specs.Cited.Tracing.{Told, told, follow, picked_t, next_t, put_t, after_t, step_t}
use Rattle.telling.proofs.Taken.{activates, next_stays, next_over}
use Rattle.turning.specs.Ways.{link_to, way_of}

-- A transfer that faults makes no store.
fault_quiet : (ds : Table) (w : Work) (s : Carriers) {m p : ℕ} → perform ds w s ≡ faulty m p → made ds w s ≡ []
unfolding stored transferred then
fault_quiet ds (moves d e) s {m} {p} h = by (evaluate ds s e) (evaluate_accesses ds s d) h
  where
    by : (x : Outcome Value) (y : Outcome (List Field)) → moved (then x (λ v. then y (λ fs. gives (store_all s fs (cut (map (λ f. f.size) fs) v.number))))) ≡ faulty m p
        → if_given (then x (λ v. then y (λ fs. gives (entries_of (transfer_place d) s fs (cut (map (λ f. f.size) fs) v.number))))) ≡ []
    by (gives v) (gives fs) q = impossible (cc)
    by (gives v) (faulty x y) q = refl
    by (faulty x y) z q = refl
fault_quiet ds (tests e) s h = refl
fault_quiet ds nothing s h = refl

-- control that is at no fault
abbrev pub Calm : At → Type 0
Calm (pc n σ) = Unit {0}
Calm over = Unit {0}
Calm halt = Unit {0}
Calm (broken m p) = ⊥

pub put_same : (s c u : Carriers) (a b : At) → Calm b → put s c a ≡ put s u b → (c ≡ u) × (a ≡ b)
put_same s c u (pc n σ) (pc m τ) h e = (cc, (let x : n ≡ m = cc in let y : σ ≡ τ = cc in ap₂ pc x y))
put_same s c u (pc n σ) over h e = impossible (cc)
put_same s c u (pc n σ) halt h e = impossible (cc)
put_same s c u over (pc m τ) h e = impossible (cc)
put_same s c u over over h e = (cc, refl)
put_same s c u over halt h e = impossible (cc)
put_same s c u halt (pc m τ) h e = impossible (cc)
put_same s c u halt over h e = impossible (cc)
put_same s c u halt halt h e = (cc, refl)
put_same s c u (broken x y) (pc m τ) h e = impossible (cc)
put_same s c u (broken x y) over h e = impossible (cc)
put_same s c u (broken x y) halt h e = impossible (cc)
put_same s c u a (broken m p) h e = absurd h

put_broken : (s c u : Carriers) (a : At) (m p : ℕ) → put s c a ≡ put s u (broken m p) → a ≡ broken m p
put_broken s c u (pc n σ) m p e = impossible (cc)
put_broken s c u over m p e = impossible (cc)
put_broken s c u halt m p e = impossible (cc)
put_broken s c u (broken x y) m p e = let q : x ≡ m = cc in let r : y ≡ p = cc in ap₂ broken q r

fault_put : (s u : Carriers) (a : At) (m p : ℕ) → Calm a → put s s (broken m p) ≡ put s u a → ⊥
fault_put s u (pc n σ) m p h e = impossible (cc)
fault_put s u over m p h e = impossible (cc)
fault_put s u halt m p h e = impossible (cc)
fault_put s u (broken x y) m p h e = h

still : (i : Instr) → (Activates i → ⊥) → activates i ≡ false
still (if_i e g k) h = refl
still (decode_i p e t) h = refl
still (go_i k) h = refl
still (call_i p k) h = absurd (h tt)
still stop_i h = refl
still (move_i d e k) h = refl

-- a body goes on, or all has ended
abbrev Going : At → Type 0
Going (pc n σ) = Unit {0}
Going over = Unit {0}
Going halt = ⊥
Going (broken m p) = ⊥

module _ (C : Code) (M : Grouping) (n : ℕ) (κ : List ℕ) where
  link_going : (k : Link) (a : At) → go k [] ≡ a → Going a
  link_going (at g) a q = subst Going q tt
  link_going exit a q = subst Going q tt

  -- a step behind which nothing goes on passes nothing
  next_ends : (i : Instr) (v : ℕ) (a : At) → (Going a → ⊥) → next_m C i [] v ≡ a → next_t C M n i κ v ≡ told a []
  next_ends (if_i e g k) zero a h q = absurd (h (link_going k a q))
  next_ends (if_i e g k) (suc v) a h q = absurd (h (subst Going q tt))
  next_ends (decode_i p e t) v a h q = by (find t v) q
    where
      by : (o : Option ℕ) → picked p [] o ≡ a → picked_t C M p (M.around n) κ o ≡ told a []
      by none q = ap (λ a. told a []) q
      by (some g) q = absurd (h (subst Going q tt))
  next_ends (go_i k) v a h q = absurd (h (link_going k a q))
  next_ends (call_i p k) v a h q = absurd (h (subst Going q tt))
  next_ends stop_i v a h q = ap (λ a. told a []) q
  next_ends (move_i d e k) v a h q = absurd (h (link_going k a q))

  next_calls : (i : Instr) (v f k : ℕ) → Activates i → next_m C i [] v ≡ pc f (returning k []) → next_t C M n i κ v ≡ told (pc f (n ∷ κ)) (passage M [] (M.around f))
  next_calls (if_i e g l) v f k h q = absurd h
  next_calls (decode_i p e t) v f k h q = absurd h
  next_calls (go_i l) v f k h q = absurd h
  next_calls (call_i p l) v f k h q = let x : C.first p ≡ f = cc in ap (λ f. told (pc f (n ∷ κ)) (passage M [] (M.around f))) x
  next_calls stop_i v f k h q = absurd h
  next_calls (move_i d e l) v f k h q = absurd h

  next_goes : (i : Instr) (v k : ℕ) → (Activates i → ⊥) → next_m C i [] v ≡ onward k [] → next_t C M n i κ v ≡ follow C M (M.around n) (link_to k) κ
  next_goes i v zero h q = next_over C M n i κ [] v (still i h) q
  next_goes i v (suc k) h q = next_stays C M n i κ [] v (still i h) (suc k) [] q refl

module _ (ds : Table) (C : Code) (M : Grouping) (n : ℕ) (κ : List ℕ) (s u : Carriers) where
  -- the step of the tracing machine, where the flat one is at r
  pub record Takes (r : Result Moved Fault) : Type 0 where
    pub is : step_t ds C M n κ s ≡ put_t s (made ds (work_m (C.instr n)) s) u (way_of n r C M κ)
    pub by : (n' : ℕ) (κ' : List ℕ) → (way_of n r C M κ).control ≡ pc n' κ' → (x : ℕ) × (next_t C M n (C.instr n) κ x ≡ way_of n r C M κ)

  calm_takes : (o : Outcome Worked) → perform ds (work_m (C.instr n)) s ≡ o → (r : Result Moved Fault) → Calm (control r [])
      → ((x : ℕ) → next_m C (C.instr n) [] x ≡ control r [] → next_t C M n (C.instr n) κ x ≡ way_of n r C M κ)
      → put_after s (next_m C (C.instr n) []) o ≡ put s u (control r []) → Takes r
  calm_takes (gives w) g r h f e =
      let z = put_same s w.carriers u (next_m C (C.instr n) [] w.number) (control r []) h e in
      let way = f w.number z.1 in
      record {
        is = ap (after_t s (made ds (work_m (C.instr n)) s) (next_t C M n (C.instr n) κ)) g
            ∙ ap₂ (put_t s (made ds (work_m (C.instr n)) s)) z.0 way;
        by = λ n' κ' q. (w.number, way);
      }
  calm_takes (faulty m p) g r h f e = absurd (fault_put s u (control r []) m p h e)

  fault_takes : (o : Outcome Worked) → perform ds (work_m (C.instr n)) s ≡ o → (m p : ℕ)
      → put_after s (next_m C (C.instr n) []) o ≡ put s u (broken m p) → Takes (Err (fault m p))
  fault_takes (gives w) g m p e =
      let way = next_ends C M n κ (C.instr n) w.number (broken m p) (λ x. x) (put_broken s w.carriers u (next_m C (C.instr n) [] w.number) m p e) in
      record {
        is = ap (after_t s (made ds (work_m (C.instr n)) s) (next_t C M n (C.instr n) κ)) g ∙ ap (put_t s (made ds (work_m (C.instr n)) s) w.carriers) way;
        by = λ n' κ' q. impossible (cc);
      }
  fault_takes (faulty x y) g m p e =
      let q : x ≡ m = cc in
      let r : y ≡ p = cc in
      record {
        is = ap (after_t s (made ds (work_m (C.instr n)) s) (next_t C M n (C.instr n) κ)) g
            ∙ ap₂ (λ b (t : Told). put_t s b u t) (sym (fault_quiet ds (work_m (C.instr n)) s g)) (ap₂ (λ x y. told (broken x y) []) q r);
        by = λ n' κ' q. impossible (cc);
      }

  -- By whatever the flat machine comes to with any stack, the tracing one goes that way.
  pub takes : (r : Result Moved Fault) → Into r (C.instr n) → ((σ : List ℕ) → step_m ds C n σ s ≡ put s u (control r σ)) → Takes r
  takes (Ok (Go k)) i e = calm_takes _ refl (Ok (Go k)) (by k) (λ x q. next_goes C M n κ (C.instr n) x k i q) (e [])
    where
      by : (k : ℕ) → Calm (onward k [])
      by zero = tt
      by (suc k) = tt
  takes (Ok (Call f k)) i e = calm_takes _ refl (Ok (Call f k)) tt (λ x q. next_calls C M n κ (C.instr n) x f k i q) (e [])
  takes (Ok Stop) i e = calm_takes _ refl (Ok Stop) tt (λ x q. next_ends C M n κ (C.instr n) x halt (λ x. x) q) (e [])
  takes (Err f) i e = fault_takes _ refl f.number f.place (e [])
