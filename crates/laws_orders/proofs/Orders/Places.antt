-- The places that the flat machine can come to: each holds an instruction of the description, and the stack is short there.
use Rattle.std.specs.Prelude.{ℕ, ◌≤◌, ◌≡◌, false, length}
use Rattle.std.proofs.Math.Path.{subst₂}
use mathlib.Core.List.{List, []}
use Rattle.std.proofs.Common.{arith}
use Rattle.rules.specs.Declarations.{Word, Table}
use Rattle.rules.specs.Steps.Control.{Live, call_l, start, leftmost}
use Rattle.rules.specs.Steps.Control.{Sig, ends, goes, leaves, restarts, stops, faults, next}
use Rattle.rules.specs.Steps.Runs.{body_act}
use Rattle.rules.specs.Whole.Sets.{chain_over}
use Rattle.rules.specs.Limits.{longest_chain}
use Rattle.laws_orders.proofs.Orders.Tests.{impossible}
use Rattle.laws_orders.specs.Cited.Flat.{exit, Code, At, pc, next_m, outer, leave_to, restart_to, HoldsBodies}
use Rattle.laws_orders.proofs.Orders.Stands.{Stands, Says, next_says, call_stands}
use Rattle.laws_orders.proofs.Orders.Depth.{Chained, ChainedS, call_chained, next_chained, stack_short}

module _ (ds : Table) (C : Code) where
  -- a place that the machine can come to: there something of a run from left to right is left
  pub record Place (n : ℕ) (σ : List ℕ) : Type 0 where
    rest : Live
    chained : Chained ds longest_chain rest
    stands : Stands C outer exit [] rest n σ

  pub place_stack : {n : ℕ} {σ : List ℕ} → Place n σ → length σ ≤ longest_chain
  place_stack {n} {σ} h = omega (arith, stack_short ds C longest_chain h.rest outer exit [] n σ h.chained h.stands)

  said : (x : Sig) (m : At) (n : ℕ) (σ : List ℕ) → m ≡ pc n σ → ChainedS ds longest_chain x → Says C outer exit [] x m → Place n σ
  unfolding leave_to restart_to
  said ends m n σ e h q = impossible (cc)
  said (goes r) m n σ e h q =
      let a : q.0 ≡ n = cc q.2 in
      let b : q.1 ≡ σ = cc q.2 in
      record { rest = r; chained = h; stands = subst₂ (λ x y. Stands C outer exit [] r x y) a b q.3 }
  said (leaves l) m n σ e h q = absurd q
  said (restarts l) m n σ e h q = absurd q
  said stops m n σ e h q = impossible (cc)
  said (faults x p) m n σ e h q = impossible (cc)

  module _ (bodies : HoldsBodies C (body_act ds)) where
    pub place_first : (n : Word) → chain_over ds longest_chain n ≡ false → Place (C.first n) []
    place_first n h =
        record {
          rest = call_l n (start (body_act ds n));
          chained = call_chained ds longest_chain n h;
          stands = call_stands C (body_act ds) bodies outer exit [] n;
        }

    pub place_next : {n : ℕ} {σ : List ℕ} → Place n σ → (v n' : ℕ) (σ' : List ℕ) → next_m C (C.instr n) σ v ≡ pc n' σ' → Place n' σ'
    place_next {n} {σ} h v n' σ' e =
        said (next (body_act ds) h.rest (leftmost h.rest) v) (next_m C (C.instr n) σ v) n' σ' e
        (next_chained ds longest_chain h.rest v h.chained) (next_says C (body_act ds) bodies h.rest outer exit [] n σ h.stands v)
