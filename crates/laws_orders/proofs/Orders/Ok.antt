-- Well-formedness, of actions and of what is left of them, and that steps keep it.
use Prim.Native.Nat.{ℕ, zero, suc}
use Rattle.std.specs.Prelude.{◌≡◌, Bool, true, false, cond, List, [], ◌∷◌}
use Rattle.std.proofs.lemmas.Bool.{false≢true}
use Rattle.std.proofs.Common.{inl, inr}
use Rattle.std.proofs.Math.Option.{Option, none, some}
use Rattle.rules.specs.Text.Scan.{same_bytes}
use Rattle.rules.specs.Selectors.{takes}
use Rattle.rules.specs.Declarations.{Word}
use Rattle.rules.specs.Steps.Actions.{Act, seq, par, label, ins, Ins, iff, decode, repeat, leave, restart, call, stop, noop, transfer, Alts, no_alts, alt}
use Rattle.rules.specs.Steps.Control.{Live, one, seq_l, both, left, right, lab_l, loop_l, call_l, start}
use Rattle.rules.specs.Steps.Control.{Sig, ends, goes, leaves, restarts, stops, faults, Mv, work_i, work}
use Rattle.rules.specs.Steps.Control.{seq_s, both_l, both_r, left_s, right_s, lab_s, loop_s, choose, pick_s, lost, call_s, next_i, next}
use Rattle.laws_orders.proofs.Orders.Foot.{Foot, Within, Sub, Indep, Prints, work_foot, Sub-trans, reads_only, untouched}

-- where an action stands: what it may read and write, whether it may stop, and the labels that it may leave or restart
pub record Env : Type 0 where
  pub foot : Foot
  pub may_stop : Bool
  pub scope : List Word

abbrev pub under : Word → Env → Env
under l E = record { foot = E.foot; may_stop = E.may_stop; scope = l ∷ E.scope }

-- a member of a group of several may not stop, and may leave only what is inside it
abbrev pub member : Foot → Env
member F = record { foot = F; may_stop = false; scope = [] }

abbrev pub In : Word → List Word → Type 0
In k [] = ⊥
In k (l ∷ ls) = cond (same_bytes k l) (Unit {0}) (In k ls)

-- two members of one group, each in its own footprint
pub record Two (F G H : Foot) : Type 0 where
  pub first : Sub G F
  pub second : Sub H F
  pub apart : Indep G H

module _ (P : Prints) where
  abbrev pub in_body : Word → Env
  in_body p = record { foot = P.body p; may_stop = P.stops p; scope = p ∷ [] }

  pub record Calls (E : Env) (p : Word) : Type 0 where
    pub foot : Sub (P.body p) E.foot
    pub stopping : P.stops p ≡ true → E.may_stop ≡ true

  abbrev mutual
    pub OkA : Env → Act → Type 0
    OkA E (seq a b) = OkA E a × OkA E b
    OkA E (par a b) = (G : Foot) × (H : Foot) × Two E.foot G H × OkA (member G) a × OkA (member H) b
    OkA E (label l a) = OkA (under l E) a
    OkA E (ins i) = OkI E i

    pub OkI : Env → Ins → Type 0
    OkI E (iff e a) = Within (P.test e) E.foot.rd × OkA E a
    OkI E (decode p e bs) = Within (P.test e) E.foot.rd × OkAlts E bs
    OkI E (repeat a) = OkA E a
    OkI E (leave l) = In l E.scope
    OkI E (restart l) = In l E.scope
    OkI E (call p) = Calls E p
    OkI E stop = E.may_stop ≡ true
    OkI E noop = Unit {0}
    OkI E (transfer d e) = Sub (P.move d e) E.foot

    pub OkAlts : Env → Alts → Type 0
    OkAlts E no_alts = Unit {0}
    OkAlts E (alt c a bs) = OkA E a × OkAlts E bs

  abbrev pub OkL : Env → Live → Type 0
  OkL E (one i) = OkI E i
  OkL E (seq_l r a) = OkL E r × OkA E a
  OkL E (both r t) = (G : Foot) × (H : Foot) × Two E.foot G H × OkL (member G) r × OkL (member H) t
  OkL E (left r) = (G : Foot) × Sub G E.foot × OkL (member G) r
  OkL E (right r) = (G : Foot) × Sub G E.foot × OkL (member G) r
  OkL E (lab_l l a r) = OkA (under l E) a × OkL (under l E) r
  OkL E (loop_l a r) = OkA E a × OkL E r
  OkL E (call_l p r) = Calls E p × OkL (in_body p) r

  -- what a step may say in that place
  abbrev pub OkS : Env → Sig → Type 0
  OkS E ends = Unit {0}
  OkS E (goes r) = OkL E r
  OkS E (leaves k) = In k E.scope
  OkS E (restarts k) = In k E.scope
  OkS E stops = E.may_stop ≡ true
  OkS E (faults m p) = Unit {0}

  pub start_ok : (E : Env) (a : Act) → OkA E a → OkL E (start a)
  unfolding start
  start_ok E (seq a b) h = (start_ok E a h.0, h.1)
  start_ok E (par a b) h = (h.0, h.1, h.2, start_ok (member h.0) a h.3, start_ok (member h.1) b h.4)
  start_ok E (label l a) h = (h, start_ok (under l E) a h)
  start_ok E (ins i) h = h

  -- each context keeps what holds of what it is told
  pub seq_s_ok : (E : Env) (a : Act) → OkA E a → (x : Sig) → OkS E x → OkS E (seq_s a x)
  seq_s_ok E a h ends k = start_ok E a h
  seq_s_ok E a h (goes r) k = (k, h)
  seq_s_ok E a h (leaves l) k = k
  seq_s_ok E a h (restarts l) k = k
  seq_s_ok E a h stops k = k
  seq_s_ok E a h (faults m p) k = k

  pub both_l_ok : (E : Env) (G H : Foot) → Two E.foot G H → (t : Live) → OkL (member H) t → (x : Sig) → OkS (member G) x → OkS E (both_l t x)
  both_l_ok E G H d t h ends k = (H, d.second, h)
  both_l_ok E G H d t h (goes r) k = (G, H, d, k, h)
  both_l_ok E G H d t h (leaves l) k = absurd k
  both_l_ok E G H d t h (restarts l) k = absurd k
  both_l_ok E G H d t h stops k = absurd (false≢true k)
  both_l_ok E G H d t h (faults m p) k = k

  pub both_r_ok : (E : Env) (G H : Foot) → Two E.foot G H → (r : Live) → OkL (member G) r → (x : Sig) → OkS (member H) x → OkS E (both_r r x)
  both_r_ok E G H d r h ends k = (G, d.first, h)
  both_r_ok E G H d r h (goes t) k = (G, H, d, h, k)
  both_r_ok E G H d r h (leaves l) k = absurd k
  both_r_ok E G H d r h (restarts l) k = absurd k
  both_r_ok E G H d r h stops k = absurd (false≢true k)
  both_r_ok E G H d r h (faults m p) k = k

  pub left_s_ok : (E : Env) (G : Foot) → Sub G E.foot → (x : Sig) → OkS (member G) x → OkS E (left_s x)
  left_s_ok E G d ends k = k
  left_s_ok E G d (goes r) k = (G, d, k)
  left_s_ok E G d (leaves l) k = absurd k
  left_s_ok E G d (restarts l) k = absurd k
  left_s_ok E G d stops k = absurd (false≢true k)
  left_s_ok E G d (faults m p) k = k

  pub right_s_ok : (E : Env) (G : Foot) → Sub G E.foot → (x : Sig) → OkS (member G) x → OkS E (right_s x)
  right_s_ok E G d ends k = k
  right_s_ok E G d (goes r) k = (G, d, k)
  right_s_ok E G d (leaves l) k = absurd k
  right_s_ok E G d (restarts l) k = absurd k
  right_s_ok E G d stops k = absurd (false≢true k)
  right_s_ok E G d (faults m p) k = k

  -- a jump that is caught, and one that is not
  caught : (E : Env) (x y : Sig) (A : Type 0) (b : Bool) → OkS E x → (A → OkS E y) → cond b (Unit {0}) A → OkS E (cond b x y)
  caught E x y A true h f k = h
  caught E x y A false h f k = f k

  pub lab_s_ok : (E : Env) (l : Word) (a : Act) → OkA (under l E) a → (x : Sig) → OkS (under l E) x → OkS E (lab_s l a x)
  lab_s_ok E l a h ends k = k
  lab_s_ok E l a h (goes r) k = (h, k)
  lab_s_ok E l a h (leaves j) k = caught E ends (leaves j) (In j E.scope) (same_bytes j l) tt (λ m. m) k
  lab_s_ok E l a h (restarts j) k =
      caught E (goes (lab_l l a (start a))) (restarts j) (In j E.scope) (same_bytes j l) (h, start_ok (under l E) a h) (λ m. m) k
  lab_s_ok E l a h stops k = k
  lab_s_ok E l a h (faults m p) k = k

  pub loop_s_ok : (E : Env) (a : Act) → OkA E a → (x : Sig) → OkS E x → OkS E (loop_s a x)
  loop_s_ok E a h ends k = h
  loop_s_ok E a h (goes r) k = (h, k)
  loop_s_ok E a h (leaves l) k = k
  loop_s_ok E a h (restarts l) k = k
  loop_s_ok E a h stops k = k
  loop_s_ok E a h (faults m p) k = k

  -- the alternative that a DECODE takes, if there is one
  abbrev OkO : Env → Option Act → Type 0
  OkO E none = Unit {0}
  OkO E (some a) = OkA E a

  cond_ok : (E : Env) (a : Act) (o : Option Act) (b : Bool) → OkA E a → OkO E o → OkO E (cond b (some a) o)
  cond_ok E a o true h k = h
  cond_ok E a o false h k = k

  choose_ok : (E : Env) (bs : Alts) (v : ℕ) → OkAlts E bs → OkO E (choose bs v)
  unfolding choose
  choose_ok E no_alts v h = tt
  choose_ok E (alt c a bs) v h = cond_ok E a (choose bs v) (takes c v) h.0 (choose_ok E bs v h.1)

  pick_s_ok : (E : Env) (p : ℕ) (o : Option Act) → OkO E o → OkS E (pick_s p o)
  pick_s_ok E p none h = tt
  pick_s_ok E p (some a) h = start_ok E a h

  work_i_sub : (E : Env) (i : Ins) → OkI E i → Sub (work_foot P (work_i i)) E.foot
  unfolding work_i
  work_i_sub E (iff e a) h = reads_only h.0
  work_i_sub E (decode p e bs) h = reads_only h.0
  work_i_sub E (repeat a) h = untouched E.foot
  work_i_sub E (leave l) h = untouched E.foot
  work_i_sub E (restart l) h = untouched E.foot
  work_i_sub E (call p) h = untouched E.foot
  work_i_sub E stop h = untouched E.foot
  work_i_sub E noop h = untouched E.foot
  work_i_sub E (transfer d e) h = h

  -- the work of a move is within the footprint of the place
  pub work_sub : (E : Env) (r : Live) (m : Mv r) → OkL E r → Sub (work_foot P (work r m)) E.foot
  work_sub E (one i) m h = work_i_sub E i h
  work_sub E (seq_l r a) m h = work_sub E r m h.0
  work_sub E (both r t) (inl m) h = Sub-trans (work_sub (member h.0) r m h.3) h.2.first
  work_sub E (both r t) (inr m) h = Sub-trans (work_sub (member h.1) t m h.4) h.2.second
  work_sub E (left r) m h = Sub-trans (work_sub (member h.0) r m h.2) h.1
  work_sub E (right r) m h = Sub-trans (work_sub (member h.0) r m h.2) h.1
  work_sub E (lab_l l a r) m h = work_sub (under l E) r m h.1
  work_sub E (loop_l a r) m h = work_sub E r m h.1
  work_sub E (call_l p r) m h = Sub-trans (work_sub (in_body p) r m h.1) h.0.foot

  module _ (body : Word → Act) where
    -- the bodies are well formed in their declared footprints
    abbrev pub BodiesOk : Type 0
    BodiesOk = (p : Word) → OkA (in_body p) (body p)

    module _ (bodies : BodiesOk) where
      pub call_ok : (E : Env) (p : Word) → Calls E p → OkL E (call_l p (start (body p)))
      call_ok E p c = (c, start_ok (in_body p) (body p) (bodies p))

      pub call_s_ok : (E : Env) (p : Word) → Calls E p → (x : Sig) → OkS (in_body p) x → OkS E (call_s body p x)
      call_s_ok E p c ends k = k
      call_s_ok E p c (goes r) k = (c, k)
      call_s_ok E p c (leaves j) k = caught E ends lost ⊥ (same_bytes j p) tt (λ m. tt) k
      call_s_ok E p c (restarts j) k = caught E (goes (call_l p (start (body p)))) lost ⊥ (same_bytes j p) (call_ok E p c) (λ m. tt) k
      call_s_ok E p c stops k = c.stopping k
      call_s_ok E p c (faults m q) k = k

      pub next_i_ok : (E : Env) (i : Ins) (v : ℕ) → OkI E i → OkS E (next_i body i v)
      unfolding next_i
      next_i_ok E (iff e a) zero h = tt
      next_i_ok E (iff e a) (suc v) h = start_ok E a h.1
      next_i_ok E (decode p e bs) v h = pick_s_ok E p (choose bs v) (choose_ok E bs v h.1)
      next_i_ok E (repeat a) v h = (h, start_ok E a h)
      next_i_ok E (leave l) v h = h
      next_i_ok E (restart l) v h = h
      next_i_ok E (call p) v h = call_ok E p h
      next_i_ok E stop v h = h
      next_i_ok E noop v h = tt
      next_i_ok E (transfer d e) v h = tt
