-- What is left of an action owes at most so many steps, and each step that it takes is one of them. LEAVE only lowers what is owed.
use Prim.Native.Nat.{ℕ, zero, suc, ◌+◌, ◌≤◌}
use Rattle.std.specs.Prelude.{◌≡◌, Bool, cond}
use Rattle.std.proofs.Math.Path.{refl, ap}
use Rattle.std.proofs.Common.{sym, ◌∙◌, inl, inr}
use Rattle.std.proofs.Math.Bool.{true, false}
use Rattle.std.proofs.lemmas.Bool.{false≢true}
use Rattle.std.proofs.Math.Option.{Option, none, some}
use native.Mathlib.Omega.{arith}
use Rattle.rules.specs.Text.Scan.{same_bytes}
use Rattle.rules.specs.Selectors.{takes}
use Rattle.rules.specs.Declarations.{Word}
use Rattle.rules.specs.Steps.Actions.{Act, seq, par, label, ins, Ins, iff, decode, repeat, leave, restart, call, stop, noop, transfer, Alts, no_alts, alt}
use Rattle.rules.specs.Steps.Control.{Live, one, seq_l, both, left, right, lab_l, loop_l, call_l, start, Mv, choose, pick_s}
use Rattle.rules.specs.Steps.Control.{Sig, ends, goes, leaves, restarts, stops, faults, lost, next_i, next}
use Rattle.rules.specs.Steps.Control.{seq_s, both_l, both_r, left_s, right_s, lab_s, call_s}
use Rattle.rules.specs.Bound.{cost, cost_in, dearest, turns, turns_in, any_turns}
use Rattle.laws_orders.proofs.Orders.Tests.{or_neither}

module _ (costs : Word → ℕ) (turning : Word → Bool) where
  abbrev pub owed : Live → ℕ
  owed (one i) = 1 + cost_in costs i
  owed (seq_l r a) = owed r + cost costs a
  owed (both r t) = owed r + owed t
  owed (left r) = owed r
  owed (right r) = owed r
  owed (lab_l l a r) = owed r
  owed (loop_l a r) = owed r
  owed (call_l p r) = owed r

  -- no REPEAT or RESTART is left, nor can one be reached
  abbrev pub Straight : Live → Type 0
  Straight (one i) = turns_in turning i ≡ false
  Straight (seq_l r a) = Straight r × (turns turning a ≡ false)
  Straight (both r t) = Straight r × Straight t
  Straight (left r) = Straight r
  Straight (right r) = Straight r
  Straight (lab_l l a r) = Straight r
  Straight (loop_l a r) = ⊥
  Straight (call_l p r) = Straight r

  -- what a step may say where n was owed
  abbrev pub Falls : ℕ → Sig → Type 0
  Falls n ends = 1 ≤ n
  Falls n (goes r) = Straight r × (1 + owed r ≤ n)
  Falls n (leaves k) = 1 ≤ n
  Falls n (restarts k) = ⊥
  Falls n stops = 1 ≤ n
  Falls n (faults m p) = 1 ≤ n
