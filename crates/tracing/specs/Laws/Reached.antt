-- A step of the tracing machine from an instruction that control can come to leads to another, and so do all activations on its stack.
-- Assumes nothing.
use Prim.Native.Nat.{ℕ, zero, suc, ◌<◌}
use Rattle.std.specs.Prelude.{◌≡◌, refl, get_or}
use Rattle.std.proofs.Math.Path.{subst}
use mathlib.Core.List.{List, [], ◌∷◌}
use Rattle.std.proofs.Common.{inl, inr, arith}
use Rattle.std.proofs.Math.Option.{Option, none, some}
use Rattle.std.proofs.Math.Decide.{dec_lt}
use Rattle.rules.specs.Declarations.{Table}
use Rattle.laws_orders.specs.Cited.Flat.{Link, at, exit, Instr, if_i, decode_i, go_i, call_i, stop_i, move_i, Code, At, pc, find}
use Rattle.laws_orders.proofs.Orders.Tests.{impossible}
use Rattle.promise.specs.Reached.{Reached, onward, Leads}
use Rattle.promise.specs.Laws.Reached.{AllReached}
use Rattle.runner.specs.Runs.{stack_of}
use Rattle.stepping.specs.Laws.Steps.{chosen_leads}
use Rattle.telling.specs.Cited.Passing.{Grouping}
use Rattle.telling.specs.Cited.Tracing.{link_of, resume, return, follow, picked_t, next_t}

module _ (ds : Table) (C : Code) (M : Grouping) where
  -- control that is somewhere is at a reached instruction
  abbrev Somewhere : At → Type 0
  Somewhere x = (n : ℕ) (κ : List ℕ) → x ≡ pc n κ → Reached ds C n × AllReached ds C κ

  at_pc : (g : ℕ) (τ : List ℕ) → Reached ds C g → AllReached ds C τ → Somewhere (pc g τ)
  at_pc g τ r s n κ e = let p : g ≡ n = cc in let q : τ ≡ κ = cc in (rw (← p) r, rw (← q) s)

  link_leads : (i : Instr) (g : ℕ) → link_of i ≡ at g → Leads C i g
  link_leads (if_i e f k) g q = inr q
  link_leads (decode_i p e t) g q = impossible (cc)
  link_leads (go_i k) g q = q
  link_leads (call_i p k) g q = inr q
  link_leads stop_i g q = impossible (cc)
  link_leads (move_i d e k) g q = q

  returns : (τ : List ℕ) → AllReached ds C τ → Somewhere (return C M τ).control
  unfolding return
  returns [] s = λ n κ e. impossible (cc)
  returns (m ∷ τ) s = by (link_of (C.instr m)) (λ g q. onward m g s.0 (link_leads (C.instr m) g q)) (returns τ s.1)
    where
      by : (k : Link) → ((g : ℕ) → k ≡ at g → Reached ds C g) → Somewhere (return C M τ).control → Somewhere (resume C M m τ (return C M τ) k).control
      by (at g) r h = at_pc g τ (r g refl) s.1
      by exit r h = h

  goes : (xs : List ℕ) (k : Link) (τ : List ℕ) → ((g : ℕ) → k ≡ at g → Reached ds C g) → AllReached ds C τ → Somewhere (follow C M xs k τ).control
  goes xs (at g) τ r s = at_pc g τ (r g refl) s
  goes xs exit τ r s = returns τ s

  pub reached_next : (n : ℕ) (κ : List ℕ) (v n' : ℕ) (κ' : List ℕ) → Reached ds C n → AllReached ds C κ → (next_t C M n (C.instr n) κ v).control ≡ pc n' κ'
      → Reached ds C n' × AllReached ds C κ'
  reached_next n κ v n' κ' r s e = by (C.instr n) (λ g h. onward n g r h) v n' κ' e
    where
      by : (x : Instr) → ((g : ℕ) → Leads C x g → Reached ds C g) → (v : ℕ) → Somewhere (next_t C M n x κ v).control
      by (if_i e f k) h zero = goes (M.around n) k κ (λ g q. h g (inr q)) s
      by (if_i e f k) h (suc v) = at_pc f κ (h f (inl refl)) s
      by (decode_i p e t) h v = picks (find t v) refl
        where
          picks : (o : Option ℕ) → find t v ≡ o → Somewhere (picked_t C M p (M.around n) κ o).control
          picks none q = λ n σ e. impossible (cc)
          picks (some g) q = at_pc g κ (h g (chosen_leads t v g q)) s
      by (go_i k) h v = goes (M.around n) k κ h s
      by (call_i p k) h v = at_pc (C.first p) (n ∷ κ) (h (C.first p) (inl refl)) (r, s)
      by stop_i h v = λ n σ e. impossible (cc)
      by (move_i to e k) h v = goes (M.around n) k κ h s

-- what holds of all on the stack holds of each
module _ (P : ℕ → Type 0) where
  abbrev pub All : List ℕ → Type 0
  All [] = Unit {0}
  All (n ∷ σ) = P n × All σ

  pub each : (stack : List ℕ) (depth d : ℕ) → d < depth → All (stack_of stack depth) → P (get_or stack d 0)
  unfolding stack_of
  each stack zero d l h = absurd (omega arith)
  each stack (suc k) d l h = by (λ y. each stack k d y h.1) (dec_lt d k)
    where
      by : (d < k → P (get_or stack d 0)) → Dec (d < k) → P (get_or stack d 0)
      by f (yes y) = f y
      by f (no n) = let e : k ≡ d = omega (arith, l, n) in subst (λ i. P (get_or stack i 0)) e h.0
