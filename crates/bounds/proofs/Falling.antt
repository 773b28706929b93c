-- Each step that an action takes is one of those that it owes.
use Prim.Native.Nat.{ℕ, zero, suc, ◌+◌, ◌≤◌}
use Rattle.std.specs.Prelude.{◌≡◌, Bool, cond}
use Rattle.std.proofs.Math.Path.{refl, ap}
use Rattle.std.proofs.Common.{sym, ◌∙◌, inl, inr}
use Rattle.std.proofs.Math.Bool.{true, false}
use Rattle.std.proofs.lemmas.Bool.{false≢true}
use Rattle.std.proofs.Math.Option.{Option, none, some}
use native.Mathlib.Omega.{arith}
use Rattle.rules.specs.Text.Scan.{same_bytes}
use Rattle.rules.specs.Selectors.{takes}
use Rattle.rules.specs.Declarations.{Word}
use Rattle.rules.specs.Steps.Actions.{Act, seq, par, label, ins, Ins, iff, decode, repeat, leave, restart, call, stop, noop, transfer, Alts, no_alts, alt}
use Rattle.rules.specs.Steps.Control.{Live, one, seq_l, both, left, right, lab_l, loop_l, call_l, start, Mv, choose, pick_s}
use Rattle.rules.specs.Steps.Control.{Sig, ends, goes, leaves, restarts, stops, faults, lost, next_i, next}
use Rattle.rules.specs.Steps.Control.{seq_s, both_l, both_r, left_s, right_s, lab_s, call_s}
use Rattle.rules.specs.Bound.{cost, cost_in, dearest, turns, turns_in, any_turns}
use Rattle.laws_orders.proofs.Orders.Tests.{or_neither}
use Rattle.bounds.proofs.Owed.{owed as owed_by, Straight as StraightBy, Falls as FallsBy}

module _ (costs : Word → ℕ) (turning : Word → Bool) where
  abbrev owed : Live → ℕ
  owed = owed_by costs turning

  abbrev Straight : Live → Type 0
  Straight = StraightBy costs turning

  abbrev Falls : ℕ → Sig → Type 0
  Falls = FallsBy costs turning

  pub start_owes : (a : Act) → owed (start a) ≡ cost costs a
  unfolding start cost
  start_owes (seq a b) = ap (λ n. n + cost costs b) (start_owes a)
  start_owes (par a b) = let p = start_owes a in let q = start_owes b in omega arith
  start_owes (label l a) = start_owes a
  start_owes (ins i) = refl

  pub start_straight : (a : Act) → turns turning a ≡ false → Straight (start a)
  unfolding start turns
  start_straight (seq a b) h = let n = or_neither (turns turning a) (turns turning b) h in (start_straight a n.0, n.1)
  start_straight (par a b) h = let n = or_neither (turns turning a) (turns turning b) h in (start_straight a n.0, start_straight b n.1)
  start_straight (label l a) h = start_straight a h
  start_straight (ins i) h = h

  begins : (a : Act) (n : ℕ) → turns turning a ≡ false → 1 + cost costs a ≤ n → Falls n (goes (start a))
  begins a n h l = (start_straight a h, let e = start_owes a in omega arith)

  -- each context keeps it
  seq_s_falls : (n : ℕ) (a : Act) → turns turning a ≡ false → (x : Sig) → Falls n x → Falls (n + cost costs a) (seq_s a x)
  seq_s_falls n a h ends l = begins a (n + cost costs a) h (omega arith)
  seq_s_falls n a h (goes r) f = ((f.0, h), let l : 1 + owed r ≤ n = f.1 in omega arith)
  seq_s_falls n a h (leaves k) l = omega arith
  seq_s_falls n a h (restarts k) f = f
  seq_s_falls n a h stops l = omega arith
  seq_s_falls n a h (faults m p) l = omega arith

  both_l_falls : (n : ℕ) (t : Live) → Straight t → (x : Sig) → Falls n x → Falls (n + owed t) (both_l t x)
  both_l_falls n t h ends l = (h, omega arith)
  both_l_falls n t h (goes r) f = ((f.0, h), let l : 1 + owed r ≤ n = f.1 in omega arith)
  both_l_falls n t h (leaves k) l = omega arith
  both_l_falls n t h (restarts k) f = f
  both_l_falls n t h stops l = omega arith
  both_l_falls n t h (faults m p) l = omega arith

  both_r_falls : (n : ℕ) (r : Live) → Straight r → (x : Sig) → Falls n x → Falls (owed r + n) (both_r r x)
  both_r_falls n r h ends l = (h, omega arith)
  both_r_falls n r h (goes t) f = ((h, f.0), let l : 1 + owed t ≤ n = f.1 in omega arith)
  both_r_falls n r h (leaves k) l = omega arith
  both_r_falls n r h (restarts k) f = f
  both_r_falls n r h stops l = omega arith
  both_r_falls n r h (faults m p) l = omega arith

  left_s_falls : (n : ℕ) (x : Sig) → Falls n x → Falls n (left_s x)
  left_s_falls n ends f = f
  left_s_falls n (goes r) f = f
  left_s_falls n (leaves k) f = f
  left_s_falls n (restarts k) f = f
  left_s_falls n stops f = f
  left_s_falls n (faults m p) f = f

  right_s_falls : (n : ℕ) (x : Sig) → Falls n x → Falls n (right_s x)
  right_s_falls n ends f = f
  right_s_falls n (goes r) f = f
  right_s_falls n (leaves k) f = f
  right_s_falls n (restarts k) f = f
  right_s_falls n stops f = f
  right_s_falls n (faults m p) f = f

  either_falls : (n : ℕ) (b : Bool) (x y : Sig) → Falls n x → Falls n y → Falls n (cond b x y)
  either_falls n true x y f g = f
  either_falls n false x y f g = g

  lab_s_falls : (n : ℕ) (l : Word) (a : Act) (x : Sig) → Falls n x → Falls n (lab_s l a x)
  lab_s_falls n l a ends f = f
  lab_s_falls n l a (goes r) f = f
  lab_s_falls n l a (leaves k) f = either_falls n (same_bytes k l) ends (leaves k) f f
  lab_s_falls n l a (restarts k) f = absurd f
  lab_s_falls n l a stops f = f
  lab_s_falls n l a (faults m p) f = f

  -- the alternative that is taken is not dearer than the dearest
  abbrev Chosen : Alts → Option Act → Type 0
  Chosen bs none = Unit {0}
  Chosen bs (some a) = (turns turning a ≡ false) × (cost costs a ≤ dearest costs bs)

  chosen_more : (c : _) (b : Act) (bs : Alts) (o : Option Act) → Chosen bs o → Chosen (alt c b bs) o
  unfolding dearest
  chosen_more c b bs none h = tt
  chosen_more c b bs (some a) h = (h.0, let l : cost costs a ≤ dearest costs bs = h.1 in omega arith)

  chosen_by : (c : _) (b : Act) (bs : Alts) → turns turning b ≡ false → (t : Bool) (o : Option Act) → Chosen bs o → Chosen (alt c b bs) (cond t (some b) o)
  unfolding dearest
  chosen_by c b bs q true o h = (q, omega arith)
  chosen_by c b bs q false o h = chosen_more c b bs o h

  chosen : (bs : Alts) (v : ℕ) → any_turns turning bs ≡ false → Chosen bs (choose bs v)
  unfolding choose any_turns
  chosen no_alts v h = tt
  chosen (alt c a bs) v h =
      let n = or_neither (turns turning a) (any_turns turning bs) h in chosen_by c a bs n.0 (takes c v) (choose bs v) (chosen bs v n.1)

  picked : (p : ℕ) (bs : Alts) (o : Option Act) → Chosen bs o → Falls (1 + dearest costs bs) (pick_s p o)
  picked p bs none h = omega arith
  picked p bs (some a) h = begins a (1 + dearest costs bs) h.0 (let l : cost costs a ≤ dearest costs bs = h.1 in omega arith)

  -- with bodies that cost what their actions cost
  module _
      (body : Word → Act) (cost_closed : (p : Word) → costs p ≡ cost costs (body p)) (turns_closed : (p : Word) → turning p ≡ turns turning (body p)) where
    call_s_falls : (n : ℕ) (p : Word) (x : Sig) → Falls n x → Falls n (call_s body p x)
    call_s_falls n p ends f = f
    call_s_falls n p (goes r) f = f
    call_s_falls n p (leaves k) f = either_falls n (same_bytes k p) ends lost f f
    call_s_falls n p (restarts k) f = absurd f
    call_s_falls n p stops f = f
    call_s_falls n p (faults m q) f = f

    ins_falls : (i : Ins) (v : ℕ) → turns_in turning i ≡ false → Falls (1 + cost_in costs i) (next_i body i v)
    unfolding next_i cost_in turns_in
    ins_falls (iff e a) zero h = omega arith
    ins_falls (iff e a) (suc v) h = begins a (1 + cost costs a) h (omega arith)
    ins_falls (decode p e bs) v h = picked p bs (choose bs v) (chosen bs v h)
    ins_falls (repeat a) v h = absurd (false≢true (sym h))
    ins_falls (leave l) v h = omega arith
    ins_falls (restart l) v h = absurd (false≢true (sym h))
    ins_falls (call p) v h = begins (body p) (1 + costs p) (sym (turns_closed p) ∙ h) (let e = cost_closed p in omega arith)
    ins_falls stop v h = omega arith
    ins_falls noop v h = omega arith
    ins_falls (transfer d e) v h = omega arith

    -- whichever member goes on, and whatever number its test gives
    pub step_falls : (r : Live) (m : Mv r) (v : ℕ) → Straight r → Falls (owed r) (next body r m v)
    step_falls (one i) m v h = ins_falls i v h
    step_falls (seq_l r a) m v h = seq_s_falls (owed r) a h.1 (next body r m v) (step_falls r m v h.0)
    step_falls (both r t) (inl m) v h = both_l_falls (owed r) t h.1 (next body r m v) (step_falls r m v h.0)
    step_falls (both r t) (inr m) v h = both_r_falls (owed t) r h.0 (next body t m v) (step_falls t m v h.1)
    step_falls (left r) m v h = left_s_falls (owed r) (next body r m v) (step_falls r m v h)
    step_falls (right r) m v h = right_s_falls (owed r) (next body r m v) (step_falls r m v h)
    step_falls (lab_l l a r) m v h = lab_s_falls (owed r) l a (next body r m v) (step_falls r m v h)
    step_falls (loop_l a r) m v h = absurd h
    step_falls (call_l p r) m v h = call_s_falls (owed r) p (next body r m v) (step_falls r m v h)

  pub owes_one : (r : Live) → 1 ≤ owed r
  owes_one (one i) = omega arith
  owes_one (seq_l r a) = let l = owes_one r in omega arith
  owes_one (both r t) = let l = owes_one r in omega arith
  owes_one (left r) = owes_one r
  owes_one (right r) = owes_one r
  owes_one (lab_l l a r) = owes_one r
  owes_one (loop_l a r) = owes_one r
  owes_one (call_l p r) = owes_one r
