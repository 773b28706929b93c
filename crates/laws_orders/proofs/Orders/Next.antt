-- Steps keep what is well formed so.
use Prim.Native.Nat.{ℕ}
use Rattle.std.proofs.Common.{inl, inr}
use Rattle.rules.specs.Declarations.{Word}
use Rattle.rules.specs.Steps.Actions.{Act}
use Rattle.rules.specs.Steps.Control.{Live, one, seq_l, both, left, right, lab_l, loop_l, call_l, Mv, next}
use Rattle.laws_orders.proofs.Orders.Foot.{Prints}
use Rattle.laws_orders.proofs.Orders.Ok.{under, member, in_body, Env, OkL, OkS, BodiesOk, seq_s_ok, both_l_ok, both_r_ok, left_s_ok, right_s_ok, lab_s_ok, loop_s_ok, call_s_ok, next_i_ok}

module _ (P : Prints) (body : Word → Act) (bodies : BodiesOk P body) where
  -- steps keep well-formedness; and no jump or stop gets out of a member
  pub next_ok : (E : Env) (r : Live) (m : Mv r) (v : ℕ) → OkL P E r → OkS P E (next body r m v)
  next_ok E (one i) m v h = next_i_ok P body bodies E i v h
  next_ok E (seq_l r a) m v h = seq_s_ok P E a h.1 (next body r m v) (next_ok E r m v h.0)
  next_ok E (both r t) (inl m) v h = both_l_ok P E h.0 h.1 h.2 t h.4 (next body r m v) (next_ok (member h.0) r m v h.3)
  next_ok E (both r t) (inr m) v h = both_r_ok P E h.0 h.1 h.2 r h.3 (next body t m v) (next_ok (member h.1) t m v h.4)
  next_ok E (left r) m v h = left_s_ok P E h.0 h.1 (next body r m v) (next_ok (member h.0) r m v h.2)
  next_ok E (right r) m v h = right_s_ok P E h.0 h.1 (next body r m v) (next_ok (member h.0) r m v h.2)
  next_ok E (lab_l l a r) m v h = lab_s_ok P E l a h.0 (next body r m v) (next_ok (under l E) r m v h.1)
  next_ok E (loop_l a r) m v h = loop_s_ok P E a h.0 (next body r m v) (next_ok E r m v h.1)
  next_ok E (call_l p r) m v h = call_s_ok P body bodies E p h.0 (next body r m v) (next_ok (in_body P p) r m v h.1)
