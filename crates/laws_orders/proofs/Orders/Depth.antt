-- Where no chain of activations is too long, the stack of the flat machine is short.
use Prim.Native.Nat.{ℕ, zero, suc, ◌+◌, ◌≤◌}
use Rattle.std.specs.Prelude.{◌≡◌, Bool, cond, List, length}
use Rattle.std.proofs.Common.{sym, ap, arith}
use Rattle.std.proofs.Math.Bool.{true, false}
use Rattle.std.proofs.lemmas.Bool.{false≢true}
use Rattle.std.proofs.Math.Option.{some}
use Rattle.rules.specs.Text.Scan.{same_bytes}
use Rattle.rules.specs.Selectors.{takes}
use Rattle.rules.specs.Declarations.{Word, Table}
use Rattle.rules.specs.Steps.Actions.{Act, seq, par, label, ins, Ins, iff, decode, repeat, leave, restart, call, stop, noop, transfer, Alts, no_alts, alt}
use Rattle.rules.specs.Steps.Control.{Live, one, seq_l, both, left, right, lab_l, loop_l, call_l, start, leftmost}
use Rattle.rules.specs.Steps.Control.{Sig, ends, goes, leaves, restarts, stops, faults, seq_s, both_l, right_s, lab_s, loop_s, choose, pick_s, lost, call_s, next_i, next}
use Rattle.rules.specs.Steps.Runs.{body_act}
use Rattle.rules.specs.Whole.Sets.{calls_in, calls_i, calls_alts, any_name, chain_over}
use Rattle.laws_orders.proofs.Orders.Chains.{none_of, not_this}
use Rattle.laws_orders.specs.Cited.Flat.{Link, at, exit, Code, push, Labels, bind, own_label}
use Rattle.laws_orders.proofs.Orders.Stands.{Stands}

module _ (ds : Table) where
  -- none of some bodies begins a chain of over k
  abbrev pub Short : ℕ → List Word → Type 0
  Short k ns = any_name (chain_over ds k) ns ≡ false

  -- a residual of left to right in which activations go at most k deep
  abbrev pub Chained : ℕ → Live → Type 0
  Chained k (one i) = Short k (calls_i i)
  Chained k (seq_l r a) = Chained k r × Short k (calls_in a)
  Chained k (both r t) = Chained k r × Chained k t
  Chained k (left r) = ⊥
  Chained k (right r) = Chained k r
  Chained k (lab_l l a r) = Short k (calls_in a) × Chained k r
  Chained k (loop_l a r) = Short k (calls_in a) × Chained k r
  Chained zero (call_l p r) = ⊥
  Chained (suc k) (call_l p r) = Short k (calls_in (body_act ds p)) × Chained k r

  abbrev pub ChainedS : ℕ → Sig → Type 0
  ChainedS k ends = Unit {0}
  ChainedS k (goes r) = Chained k r
  ChainedS k (leaves l) = Unit {0}
  ChainedS k (restarts l) = Unit {0}
  ChainedS k stops = Unit {0}
  ChainedS k (faults m p) = Unit {0}

  start_chained : (k : ℕ) (a : Act) → Short k (calls_in a) → Chained k (start a)
  unfolding start calls_in
  start_chained k (seq a b) h = let n = none_of (chain_over ds k) (calls_in a) (calls_in b) h in (start_chained k a n.0, n.1)
  start_chained k (par a b) h = let n = none_of (chain_over ds k) (calls_in a) (calls_in b) h in (start_chained k a n.0, start_chained k b n.1)
  start_chained k (label l a) h = (h, start_chained k a h)
  start_chained k (ins i) h = h

  pub call_chained : (k : ℕ) (p : Word) → chain_over ds k p ≡ false → Chained k (call_l p (start (body_act ds p)))
  unfolding chain_over
  call_chained zero p h = absurd (false≢true (sym h))
  call_chained (suc k) p h = (h, start_chained k (body_act ds p) h)

  -- each context keeps it
  seq_chained : (k : ℕ) (a : Act) (x : Sig) → Short k (calls_in a) → ChainedS k x → ChainedS k (seq_s a x)
  seq_chained k a ends h q = start_chained k a h
  seq_chained k a (goes r) h q = (q, h)
  seq_chained k a (leaves l) h q = q
  seq_chained k a (restarts l) h q = q
  seq_chained k a stops h q = q
  seq_chained k a (faults m p) h q = q

  both_chained : (k : ℕ) (t : Live) (x : Sig) → Chained k t → ChainedS k x → ChainedS k (both_l t x)
  both_chained k t ends h q = h
  both_chained k t (goes r) h q = (q, h)
  both_chained k t (leaves l) h q = q
  both_chained k t (restarts l) h q = q
  both_chained k t stops h q = q
  both_chained k t (faults m p) h q = q

  right_chained : (k : ℕ) (x : Sig) → ChainedS k x → ChainedS k (right_s x)
  right_chained k ends q = q
  right_chained k (goes r) q = q
  right_chained k (leaves l) q = q
  right_chained k (restarts l) q = q
  right_chained k stops q = q
  right_chained k (faults m p) q = q

  caught_chained : (k : ℕ) (x y : Sig) (b : Bool) → ChainedS k x → ChainedS k y → ChainedS k (cond b x y)
  caught_chained k x y true p q = p
  caught_chained k x y false p q = q

  lab_chained : (k : ℕ) (l : Word) (a : Act) (x : Sig) → Short k (calls_in a) → ChainedS k x → ChainedS k (lab_s l a x)
  lab_chained k l a ends h q = q
  lab_chained k l a (goes r) h q = (h, q)
  lab_chained k l a (leaves j) h q = caught_chained k ends (leaves j) (same_bytes j l) tt tt
  lab_chained k l a (restarts j) h q = caught_chained k (goes (lab_l l a (start a))) (restarts j) (same_bytes j l) (h, start_chained k a h) tt
  lab_chained k l a stops h q = q
  lab_chained k l a (faults m p) h q = q

  loop-chained : (k : ℕ) (a : Act) (x : Sig) → Short k (calls_in a) → ChainedS k x → ChainedS k (loop_s a x)
  unfolding calls_i
  loop-chained k a ends h q = h
  loop-chained k a (goes r) h q = (h, q)
  loop-chained k a (leaves l) h q = q
  loop-chained k a (restarts l) h q = q
  loop-chained k a stops h q = q
  loop-chained k a (faults m p) h q = q

  call_s_chained : (k : ℕ) (p : Word) (x : Sig) → Short k (calls_in (body_act ds p)) → ChainedS k x → ChainedS (suc k) (call_s (body_act ds) p x)
  call_s_chained k p ends h q = q
  call_s_chained k p (goes r) h q = (h, q)
  call_s_chained k p (leaves j) h q = caught_chained (suc k) ends lost (same_bytes j p) tt tt
  call_s_chained k p (restarts j) h q =
      caught_chained (suc k) (goes (call_l p (start (body_act ds p)))) lost (same_bytes j p) (h, start_chained k (body_act ds p) h) tt
  call_s_chained k p stops h q = q
  call_s_chained k p (faults m y) h q = q

  choose_chained : (k p : ℕ) (bs : Alts) (v : ℕ) → Short k (calls_alts bs) → ChainedS k (pick_s p (choose bs v))
  unfolding calls_alts choose
  choose_chained k p no_alts v h = tt
  choose_chained k p (alt c a bs) v h =
      let n = none_of (chain_over ds k) (calls_in a) (calls_alts bs) h in by (takes c v) (start_chained k a n.0) (choose_chained k p bs v n.1)
    where
      by : (b : Bool) → Chained k (start a) → ChainedS k (pick_s p (choose bs v)) → ChainedS k (pick_s p (cond b (some a) (choose bs v)))
      by true x y = x
      by false x y = y

  ins_chained : (k : ℕ) (i : Ins) (v : ℕ) → Short k (calls_i i) → ChainedS k (next_i (body_act ds) i v)
  unfolding calls_i next_i
  ins_chained k (iff e a) zero h = tt
  ins_chained k (iff e a) (suc v) h = start_chained k a h
  ins_chained k (decode p e bs) v h = choose_chained k p bs v h
  ins_chained k (repeat a) v h = (h, start_chained k a h)
  ins_chained k (leave l) v h = tt
  ins_chained k (restart l) v h = tt
  ins_chained k (call p) v h = call_chained k p (not_this (chain_over ds k) p h)
  ins_chained k stop v h = tt
  ins_chained k noop v h = tt
  ins_chained k (transfer d e) v h = tt

  pub next_chained : (k : ℕ) (r : Live) (v : ℕ) → Chained k r → ChainedS k (next (body_act ds) r (leftmost r) v)
  unfolding leftmost calls_i
  next_chained k (one i) v h = ins_chained k i v h
  next_chained k (seq_l r a) v h = seq_chained k a (next (body_act ds) r (leftmost r) v) h.1 (next_chained k r v h.0)
  next_chained k (both r t) v h = both_chained k t (next (body_act ds) r (leftmost r) v) h.1 (next_chained k r v h.0)
  next_chained k (left r) v h = absurd h
  next_chained k (right r) v h = right_chained k (next (body_act ds) r (leftmost r) v) (next_chained k r v h)
  next_chained k (lab_l l a r) v h = lab_chained k l a (next (body_act ds) r (leftmost r) v) h.0 (next_chained k r v h.1)
  next_chained k (loop_l a r) v h = loop-chained k a (next (body_act ds) r (leftmost r) v) h.0 (next_chained k r v h.1)
  next_chained zero (call_l p r) v h = absurd h
  next_chained (suc k) (call_l p r) v h = call_s_chained k p (next (body_act ds) r (leftmost r) v) h.0 (next_chained k r v h.1)

  module _ (C : Code) where
    pushed_length : (k : Link) (τ : List ℕ) → length (push k τ) ≤ suc (length τ)
    pushed_length (at n) τ = omega arith
    pushed_length exit τ = omega arith

    -- a return address for each activation, but the outermost
    pub stack_short :
        (c : ℕ) (r : Live) (ρ : Labels) (k : Link) (τ : List ℕ) (n : ℕ) (σ : List ℕ) → Chained c r → Stands C ρ k τ r n σ → length σ ≤ length τ + c
    stack_short c (one i) ρ k τ n σ h q = omega (arith, ap length q.0)
    stack_short c (seq_l r a) ρ k τ n σ h q = stack_short c r ρ (at q.0) τ n σ h.0 q.1
    stack_short c (both r t) ρ k τ n σ h q = stack_short c r ρ (at q.0) τ n σ h.0 q.2
    stack_short c (left r) ρ k τ n σ h q = absurd h
    stack_short c (right r) ρ k τ n σ h q = stack_short c r ρ k τ n σ h q
    stack_short c (lab_l l a r) ρ k τ n σ h q = stack_short c r (bind l q.0 k ρ) k τ n σ h.1 q.2
    stack_short c (loop_l a r) ρ k τ n σ h q = stack_short c r ρ (at q.0) τ n σ h.1 q.2
    stack_short zero (call_l p r) ρ k τ n σ h q = absurd h
    stack_short (suc c) (call_l p r) ρ k τ n σ h q = omega (arith, stack_short c r (own_label C p) exit (push k τ) n σ h.1 q, pushed_length k τ)
