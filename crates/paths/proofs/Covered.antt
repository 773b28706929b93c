-- A report covers what is left of an action if it says all that can still be reached before the test has ended. Steps keep it.
use Rattle.std.specs.Prelude.{ℕ, ◌≡◌, refl, Bool, true, cond, not, ◌&&◌, [], eqb}
use Rattle.std.proofs.Common.{sym, ap, subst, inl, inr, eq-eqb}
use Rattle.std.proofs.Math.Bool.{false}
use Rattle.std.proofs.lemmas.Bool.{false≢true}
use Rattle.rules.specs.Text.Scan.{same_bytes}
use Rattle.rules.specs.Declarations.{Word, Table}
use Rattle.rules.specs.Steps.Actions.{Act, seq, par, label, ins, Ins, iff, decode, repeat, leave, restart, call, stop, noop, transfer, Alts, no_alts, alt, transfer_place}
use Rattle.rules.specs.Steps.Control.{Live, one, seq_l, both, left, right, lab_l, loop_l, call_l, start}
use Rattle.rules.specs.Steps.Control.{Sig, ends, goes, leaves, restarts, stops, faults, Mv, work_i, work}
use Rattle.rules.specs.Steps.Control.{seq_s, both_l, both_r, left_s, right_s, lab_s, loop_s, lost, call_s, next_i}
use Rattle.rules.specs.Steps.Runs.{body_act}
use Rattle.rules.specs.Whole.Sets.{member}
use Rattle.laws_orders.proofs.Orders.Tests.{or_neither, or_left, or_right, member_left, member_right}
use Rattle.laws_accepted.proofs.Accepted.Named.{same_equal, same_itself}
use Rattle.rules.specs.Paths.{at, OneOf, May, around, is_end, ends_test, Writes}
use Rattle.paths.specs.Cited.Early.{Report, passed, in_turn, beside, inside, turning, activation, early, early_i, early_alts}
use Rattle.paths.proofs.Reports.{and_true, Sub, sub_refl, sub_trans, either_left, either_right, turn_second, beside_first, beside_second, turning_sub}

module _ (ds : Table) (test : Word) (output : ℕ) (known : Word → Report) where
  abbrev early_a : Act → Report
  early_a a = early ds test output known a

  abbrev pub Covers : Report → Live → Type 0
  Covers R (one i) = Sub (early_i ds test output known i) R
  Covers R (seq_l r a) = (S : Report) × Covers S r × Sub (in_turn S (early_a a)) R
  Covers R (both r t) = (S : Report) × (T : Report) × Covers S r × Covers T t × Sub (beside S T) R
  Covers R (left r) = Covers R r
  Covers R (right r) = Covers R r
  Covers R (lab_l l a r) = (S : Report) × Sub (early_a a) S × Covers S r × Sub (inside l S) R
  Covers R (loop_l a r) = (S : Report) × Sub (early_a a) S × Covers S r × Sub (turning S) R
  Covers R (call_l p r) = (S : Report) × Sub (early_a (body_act ds p)) S × Covers S r × Sub (activation test p (inside p S)) R

  -- what a step may say
  abbrev pub CoversS : Report → Sig → Type 0
  CoversS R ends = R.ends ≡ true
  CoversS R (goes r) = Covers R r
  CoversS R (leaves k) = R.leaves k ≡ true
  CoversS R (restarts k) = Unit {0}
  CoversS R stops = Unit {0}
  CoversS R (faults m p) = Unit {0}

  pub covers_more : (R T : Report) → Sub R T → (r : Live) → Covers R r → Covers T r
  covers_more R T s (one i) h = sub_trans h s
  covers_more R T s (seq_l r a) h = (h.0, h.1, sub_trans h.2 s)
  covers_more R T s (both r t) h = (h.0, h.1, h.2, h.3, sub_trans h.4 s)
  covers_more R T s (left r) h = covers_more R T s r h
  covers_more R T s (right r) h = covers_more R T s r h
  covers_more R T s (lab_l l a r) h = (h.0, h.1, h.2, sub_trans h.3 s)
  covers_more R T s (loop_l a r) h = (h.0, h.1, h.2, sub_trans h.3 s)
  covers_more R T s (call_l p r) h = (h.0, h.1, h.2, sub_trans h.3 s)

  start_covered : (a : Act) → Covers (early_a a) (start a)
  unfolding start early
  start_covered (seq a b) = (early_a a, start_covered a, sub_refl _)
  start_covered (par a b) = (early_a a, early_a b, start_covered a, start_covered b, sub_refl _)
  start_covered (label l a) = (early_a a, sub_refl _, start_covered a, sub_refl _)
  start_covered (ins i) = sub_refl _

  pub begins : (a : Act) (R : Report) → Sub (early_a a) R → Covers R (start a)
  begins a R s = covers_more (early_a a) R s (start a) (start_covered a)

  -- each context keeps it
  seq_s_covered : (R S : Report) (a : Act) → Sub (in_turn S (early_a a)) R → (x : Sig) → CoversS S x → CoversS R (seq_s a x)
  seq_s_covered R S a s ends h = begins a R (turn_second S (early_a a) h s)
  seq_s_covered R S a s (goes r) h = (S, h, s)
  seq_s_covered R S a s (leaves k) h = s.leaves k (or_left (S.leaves k) (S.ends && (early_a a).leaves k) h)
  seq_s_covered R S a s (restarts k) h = tt
  seq_s_covered R S a s stops h = tt
  seq_s_covered R S a s (faults m p) h = tt

  both_l_covered : (R S T : Report) (t : Live) → Covers T t → Sub (beside S T) R → (x : Sig) → CoversS S x → CoversS R (both_l t x)
  both_l_covered R S T t c s ends h = covers_more T R (beside_second S T h s) t c
  both_l_covered R S T t c s (goes r) h = (S, T, h, c, s)
  both_l_covered R S T t c s (leaves k) h = s.leaves k (or_left (S.leaves k) (T.leaves k) h)
  both_l_covered R S T t c s (restarts k) h = tt
  both_l_covered R S T t c s stops h = tt
  both_l_covered R S T t c s (faults m p) h = tt

  both_r_covered : (R S T : Report) (r : Live) → Covers S r → Sub (beside S T) R → (x : Sig) → CoversS T x → CoversS R (both_r r x)
  both_r_covered R S T r c s ends h = covers_more S R (beside_first S T h s) r c
  both_r_covered R S T r c s (goes t) h = (S, T, c, h, s)
  both_r_covered R S T r c s (leaves k) h = s.leaves k (or_right (S.leaves k) (T.leaves k) h)
  both_r_covered R S T r c s (restarts k) h = tt
  both_r_covered R S T r c s stops h = tt
  both_r_covered R S T r c s (faults m p) h = tt

  left_s_covered : (R : Report) (x : Sig) → CoversS R x → CoversS R (left_s x)
  left_s_covered R ends h = h
  left_s_covered R (goes r) h = h
  left_s_covered R (leaves k) h = h
  left_s_covered R (restarts k) h = tt
  left_s_covered R stops h = tt
  left_s_covered R (faults m p) h = tt

  right_s_covered : (R : Report) (x : Sig) → CoversS R x → CoversS R (right_s x)
  right_s_covered R ends h = h
  right_s_covered R (goes r) h = h
  right_s_covered R (leaves k) h = h
  right_s_covered R (restarts k) h = tt
  right_s_covered R stops h = tt
  right_s_covered R (faults m p) h = tt

  -- a LEAVE that the label takes, and one that goes on
  left_covered :
      (R S : Report) (l k : Word) → Sub (inside l S) R → S.leaves k ≡ true → (b : Bool) → same_bytes k l ≡ b → CoversS R (cond b ends (leaves k))
  left_covered R S l k s h true e = s.ends (or_right S.ends (S.leaves l) (subst (λ z. S.leaves z ≡ true) (same_equal k l e) h))
  left_covered R S l k s h false e = s.leaves k (and_true (not (same_bytes k l)) (S.leaves k) (ap not e) h)

  restart_covered : (R : Report) (t : Live) (k : Word) → Covers R t → (b : Bool) → CoversS R (cond b (goes t) (restarts k))
  restart_covered R t k h true = h
  restart_covered R t k h false = tt

  lab_s_covered : (R S : Report) (l : Word) (a : Act) → Sub (early_a a) S → Sub (inside l S) R → (x : Sig) → CoversS S x → CoversS R (lab_s l a x)
  lab_s_covered R S l a o s ends h = s.ends (or_left S.ends (S.leaves l) h)
  lab_s_covered R S l a o s (goes r) h = (S, o, h, s)
  lab_s_covered R S l a o s (leaves k) h = left_covered R S l k s h (same_bytes k l) refl
  lab_s_covered R S l a o s (restarts k) h = restart_covered R (lab_l l a (start a)) k (S, o, begins a S o, s) (same_bytes k l)
  lab_s_covered R S l a o s stops h = tt
  lab_s_covered R S l a o s (faults m p) h = tt

  loop_s_covered : (R S : Report) (a : Act) → Sub (early_a a) S → Sub (turning S) R → (x : Sig) → CoversS S x → CoversS R (loop_s a x)
  unfolding early_i
  loop_s_covered R S a o s ends h = sub_trans (turning_sub o) s
  loop_s_covered R S a o s (goes r) h = (S, o, h, s)
  loop_s_covered R S a o s (leaves k) h = s.leaves k h
  loop_s_covered R S a o s (restarts k) h = tt
  loop_s_covered R S a o s stops h = tt
  loop_s_covered R S a o s (faults m p) h = tt

  -- the end of an activation that is not the test's
  other_ends : (R S : Report) (p : Word) → Sub (activation test p (inside p S)) R → (inside p S).ends ≡ true → (b : Bool) → same_bytes p test ≡ b → (b && true) ≡ false → R.ends ≡ true
  other_ends R S p s h true e q = absurd (false≢true (sym q))
  other_ends R S p s h false e q = s.ends (and_true (not (same_bytes p test)) (inside p S).ends (ap not e) h)

  left_call :
      (R S : Report) (p k : Word) → Sub (activation test p (inside p S)) R → S.leaves k ≡ true → (b : Bool) → same_bytes k p ≡ b
      → (same_bytes p test && is_end (cond b ends lost)) ≡ false → CoversS R (cond b ends lost)
  left_call R S p k s h true e q =
      other_ends R S p s (or_right S.ends (S.leaves p) (subst (λ z. S.leaves z ≡ true) (same_equal k p e) h)) (same_bytes p test) refl q
  left_call R S p k s h false e q = tt

  restart_call : (R : Report) (t : Live) → Covers R t → (b : Bool) → CoversS R (cond b (goes t) lost)
  restart_call R t h true = h
  restart_call R t h false = tt

  call_s_covered :
      (R S : Report) (p : Word) → Sub (early_a (body_act ds p)) S → Sub (activation test p (inside p S)) R → (x : Sig) → CoversS S x
      → (same_bytes p test && is_end (call_s (body_act ds) p x)) ≡ false → CoversS R (call_s (body_act ds) p x)
  call_s_covered R S p o s ends h q = other_ends R S p s (or_left S.ends (S.leaves p) h) (same_bytes p test) refl q
  call_s_covered R S p o s (goes r) h q = (S, o, h, s)
  call_s_covered R S p o s (leaves k) h q = left_call R S p k s h (same_bytes k p) refl q
  call_s_covered R S p o s (restarts k) h q = restart_call R (call_l p (start (body_act ds p))) (S, o, begins (body_act ds p) S o, s) (same_bytes k p)
  call_s_covered R S p o s stops h q = tt
  call_s_covered R S p o s (faults m y) h q = tt

  alts_covered : (R : Report) (bs : Alts) (a : Act) → OneOf bs a → Sub (early_alts ds test output known bs) R → Covers R (start a)
  unfolding early_alts
  alts_covered R no_alts a o s = absurd o
  alts_covered R (alt c b bs) a (inl e) s = begins a R (rw e (either_left (early_a b) (early_alts ds test output known bs) s))
  alts_covered R (alt c b bs) a (inr o) s = alts_covered R bs a o (either_right (early_a b) (early_alts ds test output known bs) s)

  -- what is known of a body counts what its action reaches
  abbrev pub Closed : Type 0
  Closed = (p : Word) → Sub (inside p (early_a (body_act ds p))) (known p)

  activation_sub : (p : Word) (x y : Report) → Sub x y → Sub (activation test p x) (activation test p y)
  activation_sub p x y s = record { places = s.places; ends = λ h. by (not (same_bytes p test)) h; leaves = λ k h. h }
    where
      by : (b : Bool) → (b && x.ends) ≡ true → (b && y.ends) ≡ true
      by true h = s.ends h
      by false h = h

  module _ (closed : Closed) where
    ins_covered : (R : Report) (i : Ins) → Sub (early_i ds test output known i) R → (x : Sig) → May (body_act ds) i x → CoversS R x
    unfolding early_i next_i
    ins_covered R (iff e a) s x (inl q) = rw q (s.ends refl)
    ins_covered R (iff e a) s x (inr q) = rw q (begins a R (either_right passed (early_a a) s))
    ins_covered R (decode p e bs) s x m = rw m.2 (alts_covered R bs m.0 m.1 s)
    ins_covered R (repeat a) s x q = rw q (early_a a, sub_refl _, start_covered a, s)
    ins_covered R (leave l) s x q = rw q (s.leaves l (same_itself l))
    ins_covered R (restart l) s x q = rw q tt
    ins_covered R (call p) s x q =
        rw q (early_a (body_act ds p), sub_refl _, start_covered (body_act ds p), sub_trans (activation_sub p (inside p (early_a (body_act ds p))) (known p) (closed p)) s)
    ins_covered R stop s x q = rw q tt
    ins_covered R noop s x q = rw q (s.ends refl)
    ins_covered R (transfer d e) s x q = rw q (s.ends refl)

    -- a step that ends no activation of the test
    pub step_covered :
        (R : Report) (r : Live) (m : Mv r) (x : Sig) → Covers R r → May (body_act ds) (at r m) x → ends_test (body_act ds) test r m x ≡ false
        → CoversS R (around (body_act ds) r m x)
    step_covered R (one i) m x h w q = ins_covered R i h x w
    step_covered R (seq_l r a) m x h w q = seq_s_covered R h.0 a h.2 (around (body_act ds) r m x) (step_covered h.0 r m x h.1 w q)
    step_covered R (both r t) (inl m) x h w q =
        both_l_covered R h.0 h.1 t h.3 h.4 (around (body_act ds) r m x) (step_covered h.0 r m x h.2 w q)
    step_covered R (both r t) (inr m) x h w q =
        both_r_covered R h.0 h.1 r h.2 h.4 (around (body_act ds) t m x) (step_covered h.1 t m x h.3 w q)
    step_covered R (left r) m x h w q = left_s_covered R (around (body_act ds) r m x) (step_covered R r m x h w q)
    step_covered R (right r) m x h w q = right_s_covered R (around (body_act ds) r m x) (step_covered R r m x h w q)
    step_covered R (lab_l l a r) m x h w q = lab_s_covered R h.0 l a h.1 h.3 (around (body_act ds) r m x) (step_covered h.0 r m x h.2 w q)
    step_covered R (loop_l a r) m x h w q = loop_s_covered R h.0 a h.1 h.3 (around (body_act ds) r m x) (step_covered h.0 r m x h.2 w q)
    step_covered R (call_l p r) m x h w q =
        let n = or_neither (ends_test (body_act ds) test r m x) (same_bytes p test && is_end (call_s (body_act ds) p (around (body_act ds) r m x))) q in
        call_s_covered R h.0 p h.1 h.3 (around (body_act ds) r m x) (step_covered h.0 r m x h.2 w n.0) n.1

  -- a transfer that may be the next step has its place in the report
  ins_writes : (R : Report) (i : Ins) (p : ℕ) → Sub (early_i ds test output known i) R → Writes ds output (work_i i) p → member p R.places ≡ true
  unfolding early_i work_i member
  ins_writes R (iff e a) p s w = absurd w
  ins_writes R (decode q e bs) p s w = absurd w
  ins_writes R (repeat a) p s w = absurd w
  ins_writes R (leave l) p s w = absurd w
  ins_writes R (restart l) p s w = absurd w
  ins_writes R (call q) p s w = absurd w
  ins_writes R stop p s w = absurd w
  ins_writes R noop p s w = absurd w
  ins_writes R (transfer d e) p s w = s.places p (rw w.0 (or_left (eqb p (transfer_place d)) false (eq-eqb p (transfer_place d) w.1)))

  pub covers_writes : (R : Report) (r : Live) (m : Mv r) (p : ℕ) → Covers R r → Writes ds output (work r m) p → member p R.places ≡ true
  covers_writes R (one i) m p h w = ins_writes R i p h w
  covers_writes R (seq_l r a) m p h w =
      h.2.places p (member_left p h.0.places (cond h.0.ends (early_a a).places []) (covers_writes h.0 r m p h.1 w))
  covers_writes R (both r t) (inl m) p h w = h.4.places p (member_left p h.0.places h.1.places (covers_writes h.0 r m p h.2 w))
  covers_writes R (both r t) (inr m) p h w = h.4.places p (member_right p h.0.places h.1.places (covers_writes h.1 t m p h.3 w))
  covers_writes R (left r) m p h w = covers_writes R r m p h w
  covers_writes R (right r) m p h w = covers_writes R r m p h w
  covers_writes R (lab_l l a r) m p h w = h.3.places p (covers_writes h.0 r m p h.2 w)
  covers_writes R (loop_l a r) m p h w = h.3.places p (covers_writes h.0 r m p h.2 w)
  covers_writes R (call_l q r) m p h w = h.3.places p (covers_writes h.0 r m p h.2 w)
