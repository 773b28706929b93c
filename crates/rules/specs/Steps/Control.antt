-- The control of a step: which moves there are, the work of each, and what a move leaves. No carriers here. "Any member that has not ended may take the
-- next step; NEXT waits for all. LEAVE ends its target; RESTART begins it again."
use Rattle.std.specs.Prelude.{ℕ, zero, suc, cond, List, ◌⊎◌}
use Rattle.std.proofs.Common.{inl, inr}
use Rattle.std.proofs.Math.Option.{Option, none, some}
use Rattle.rules.specs.Text.Scan.{same_bytes}
use Rattle.rules.specs.Grammar.Precedence.{Expr}
use Rattle.rules.specs.Selectors.{takes}
use Rattle.rules.specs.Declarations.{Word}
use Rattle.rules.specs.Steps.Actions.{Access, Act, seq, par, label, ins, Ins, iff, decode, repeat, leave, restart, call, stop, noop, transfer, Alts, no_alts, alt}

-- What is left of an action that has begun and has not ended: an instruction; a group with what comes behind it; two members, or the one of two that has
-- not ended; inside a label, a turn of a REPEAT, an activation.
pub data Live : Type 0 where
  one : Ins → Live
  seq_l : Live → Act → Live
  both : Live → Live → Live
  left : Live → Live
  right : Live → Live
  lab_l : Word → Act → Live → Live
  loop_l : Act → Live → Live
  call_l : Word → Live → Live

-- "Blocks and labels take none."
unfoldable pub start : Act → Live
start (seq a b) = seq_l (start a) b
start (par a b) = both (start a) (start b)
start (label l a) = lab_l l a (start a)
start (ins i) = one i

-- the work of a step on the carriers: a transfer, a test, or none
pub data Work : Type 0 where
  moves : List Access → Expr → Work
  tests : Expr → Work
  nothing : Work

-- what a step says to the action around it; a fault has a number and a place
pub data Sig : Type 0 where
  ends : Sig
  goes : Live → Sig
  leaves : Word → Sig
  restarts : Word → Sig
  stops : Sig
  faults : ℕ → ℕ → Sig

-- the moves: one for each member that has not ended
abbrev pub Mv : Live → Type 0
Mv (one i) = Unit {0}
Mv (seq_l r a) = Mv r
Mv (both r t) = Mv r ⊎ Mv t
Mv (left r) = Mv r
Mv (right r) = Mv r
Mv (lab_l l a r) = Mv r
Mv (loop_l a r) = Mv r
Mv (call_l p r) = Mv r

-- "Run goes left to right, each member to its end"
unfoldable pub leftmost : (r : Live) → Mv r
leftmost (one i) = tt
leftmost (seq_l r a) = leftmost r
leftmost (both r t) = inl (leftmost r)
leftmost (left r) = leftmost r
leftmost (right r) = leftmost r
leftmost (lab_l l a r) = leftmost r
leftmost (loop_l a r) = leftmost r
leftmost (call_l p r) = leftmost r

unfoldable pub work_i : Ins → Work
work_i (iff e a) = tests e
work_i (decode p e bs) = tests e
work_i (repeat a) = nothing
work_i (leave l) = nothing
work_i (restart l) = nothing
work_i (call p) = nothing
work_i stop = nothing
work_i noop = nothing
work_i (transfer d e) = moves d e

abbrev pub work : (r : Live) → Mv r → Work
work (one i) m = work_i i
work (seq_l r a) m = work r m
work (both r t) (inl m) = work r m
work (both r t) (inr m) = work t m
work (left r) m = work r m
work (right r) m = work r m
work (lab_l l a r) m = work r m
work (loop_l a r) m = work r m
work (call_l p r) m = work r m

-- what each context makes of what the step inside it says
abbrev pub seq_s : Act → Sig → Sig
seq_s a ends = goes (start a)
seq_s a (goes r) = goes (seq_l r a)
seq_s a (leaves k) = leaves k
seq_s a (restarts k) = restarts k
seq_s a stops = stops
seq_s a (faults m p) = faults m p

abbrev pub both_l : Live → Sig → Sig
both_l t ends = goes (right t)
both_l t (goes r) = goes (both r t)
both_l t (leaves k) = leaves k
both_l t (restarts k) = restarts k
both_l t stops = stops
both_l t (faults m p) = faults m p

abbrev pub both_r : Live → Sig → Sig
both_r r ends = goes (left r)
both_r r (goes t) = goes (both r t)
both_r r (leaves k) = leaves k
both_r r (restarts k) = restarts k
both_r r stops = stops
both_r r (faults m p) = faults m p

abbrev pub left_s : Sig → Sig
left_s ends = ends
left_s (goes r) = goes (left r)
left_s (leaves k) = leaves k
left_s (restarts k) = restarts k
left_s stops = stops
left_s (faults m p) = faults m p

abbrev pub right_s : Sig → Sig
right_s ends = ends
right_s (goes r) = goes (right r)
right_s (leaves k) = leaves k
right_s (restarts k) = restarts k
right_s stops = stops
right_s (faults m p) = faults m p

abbrev pub lab_s : Word → Act → Sig → Sig
lab_s l a ends = ends
lab_s l a (goes r) = goes (lab_l l a r)
lab_s l a (leaves k) = cond (same_bytes k l) ends (leaves k)
lab_s l a (restarts k) = cond (same_bytes k l) (goes (lab_l l a (start a))) (restarts k)
lab_s l a stops = stops
lab_s l a (faults m p) = faults m p

abbrev pub loop_s : Act → Sig → Sig
loop_s a ends = goes (one (repeat a))
loop_s a (goes r) = goes (loop_l a r)
loop_s a (leaves k) = leaves k
loop_s a (restarts k) = restarts k
loop_s a stops = stops
loop_s a (faults m p) = faults m p

-- the first alternative that takes the value; "71 (no alternative matches, place of DECODE)"
unfoldable pub choose : Alts → ℕ → Option Act
choose no_alts v = none
choose (alt c a bs) v = cond (takes c v) (some a) (choose bs v)

abbrev pub pick_s : ℕ → Option Act → Sig
pick_s p none = faults 71 p
pick_s p (some a) = goes (start a)

-- a jump that no label takes; no accepted text has one
abbrev pub lost : Sig
lost = faults 0 0

module _ (body : Word → Act) where
  -- a body's own name is its outermost label; no other label reaches through an activation
  abbrev pub call_s : Word → Sig → Sig
  call_s p ends = ends
  call_s p (goes r) = goes (call_l p r)
  call_s p (leaves k) = cond (same_bytes k p) ends lost
  call_s p (restarts k) = cond (same_bytes k p) (goes (call_l p (start (body p)))) lost
  call_s p stops = stops
  call_s p (faults m q) = faults m q

  -- a step of an instruction, from the number that its work gives. "IF acts when any bit is 1."
  unfoldable pub next_i : Ins → ℕ → Sig
  next_i (iff e a) zero = ends
  next_i (iff e a) (suc v) = goes (start a)
  next_i (decode p e bs) v = pick_s p (choose bs v)
  next_i (repeat a) v = goes (loop_l a (start a))
  next_i (leave l) v = leaves l
  next_i (restart l) v = restarts l
  next_i (call p) v = goes (call_l p (start (body p)))
  next_i stop v = stops
  next_i noop v = ends
  next_i (transfer d e) v = ends

  -- a step: the chosen member goes on
  abbrev pub next : (r : Live) → Mv r → ℕ → Sig
  next (one i) m v = next_i i v
  next (seq_l r a) m v = seq_s a (next r m v)
  next (both r t) (inl m) v = both_l t (next r m v)
  next (both r t) (inr m) v = both_r r (next t m v)
  next (left r) m v = left_s (next r m v)
  next (right r) m v = right_s (next r m v)
  next (lab_l l a r) m v = lab_s l a (next r m v)
  next (loop_l a r) m v = loop_s a (next r m v)
  next (call_l p r) m v = call_s p (next r m v)
