-- Every run, in any order and from any carriers, is a path.
use Prim.Native.Nat.{ℕ, zero, suc}
use Rattle.std.specs.Prelude.{◌≡◌, Bool, true, cond, ◌||◌}
use Rattle.std.proofs.Math.Path.{refl}
use Rattle.std.proofs.Common.{sym, ◌∙◌, ap, ap₂, subst, inl, inr}
use Rattle.std.proofs.Math.Bool.{false, or_assoc, or-false}
use Rattle.std.proofs.Math.Option.{Option, none, some}
use Rattle.rules.specs.Selectors.{takes}
use Rattle.rules.specs.Declarations.{Word, Table}
use Rattle.rules.specs.Steps.Actions.{Act, Ins, iff, decode, repeat, leave, restart, call, stop, noop, transfer, Alts, no_alts, alt}
use Rattle.rules.specs.Steps.Evaluation.{Carriers, Outcome, gives, faulty}
use Rattle.rules.specs.Steps.Control.{Live, one, seq_l, both, left, right, lab_l, loop_l, call_l, start}
use Rattle.rules.specs.Steps.Control.{Sig, ends, goes, leaves, restarts, stops, faults, Mv, work, choose, pick_s, next_i, next}
use Rattle.rules.specs.Steps.Control.{seq_s, both_l, both_r, left_s, right_s, lab_s, loop_s, call_s}
use Rattle.rules.specs.Steps.Runs.{Conf, running, finished, stopped, failed, Worked, perform, told, after, body_act, step, Steps, begin}
use Rattle.rules.specs.Faults.Whole.{main_name}
use Rattle.rules.specs.Paths.{at, OneOf, May, around, ends_test, spot, Path, outset, Writes, TooEarly, ends_by, test_ended}

abbrev is_going : Sig → Type 0
is_going ends = ⊥
is_going (goes r) = Unit {0}
is_going (leaves k) = ⊥
is_going (restarts k) = ⊥
is_going stops = ⊥
is_going (faults m p) = ⊥

module _ (body : Word → Act) where
  -- `around` is what `next` does around an instruction
  pub next_around : (r : Live) (m : Mv r) (v : ℕ) → next body r m v ≡ around body r m (next_i body (at r m) v)
  next_around (one i) m v = refl
  next_around (seq_l r a) m v = ap (seq_s a) (next_around r m v)
  next_around (both r t) (inl m) v = ap (both_l t) (next_around r m v)
  next_around (both r t) (inr m) v = ap (both_r r) (next_around t m v)
  next_around (left r) m v = ap left_s (next_around r m v)
  next_around (right r) m v = ap right_s (next_around r m v)
  next_around (lab_l l a r) m v = ap (lab_s l a) (next_around r m v)
  next_around (loop_l a r) m v = ap (loop_s a) (next_around r m v)
  next_around (call_l p r) m v = ap (call_s body p) (next_around r m v)

  -- a fault goes all the way out
  fault_out : (r : Live) (m : Mv r) (n p : ℕ) → around body r m (faults n p) ≡ faults n p
  fault_out (one i) m n p = refl
  fault_out (seq_l r a) m n p = ap (seq_s a) (fault_out r m n p)
  fault_out (both r t) (inl m) n p = ap (both_l t) (fault_out r m n p)
  fault_out (both r t) (inr m) n p = ap (both_r r) (fault_out t m n p)
  fault_out (left r) m n p = ap left_s (fault_out r m n p)
  fault_out (right r) m n p = ap right_s (fault_out r m n p)
  fault_out (lab_l l a r) m n p = ap (lab_s l a) (fault_out r m n p)
  fault_out (loop_l a r) m n p = ap (loop_s a) (fault_out r m n p)
  fault_out (call_l q r) m n p = ap (call_s body q) (fault_out r m n p)

  -- what an instruction says is a fault, or it may say so on a path
  data Said (i : Ins) (x : Sig) : Type 0 where
    fails : (n p : ℕ) → x ≡ faults n p → Said i x
    may : May body i x → Said i x

  -- the alternative that a DECODE takes is one of them
  abbrev Chosen : Alts → Option Act → Type 0
  Chosen bs none = Unit {0}
  Chosen bs (some a) = OneOf bs a

  chosen_more : (c : _) (b : Act) (bs : Alts) (o : Option Act) → Chosen bs o → Chosen (alt c b bs) o
  chosen_more c b bs none h = tt
  chosen_more c b bs (some a) h = inr h

  chosen_by : (c : _) (b : Act) (bs : Alts) (t : Bool) (o : Option Act) → Chosen bs o → Chosen (alt c b bs) (cond t (some b) o)
  chosen_by c b bs true o h = inl refl
  chosen_by c b bs false o h = chosen_more c b bs o h

  chosen : (bs : Alts) (v : ℕ) → Chosen bs (choose bs v)
  unfolding choose
  chosen no_alts v = tt
  chosen (alt c a bs) v = chosen_by c a bs (takes c v) (choose bs v) (chosen bs v)

  picked : (p : ℕ) (e : _) (bs : Alts) (o : Option Act) → Chosen bs o → Said (decode p e bs) (pick_s p o)
  picked p e bs none h = fails 71 p refl
  picked p e bs (some a) h = may (a, h, refl)

  says : (i : Ins) (v : ℕ) → Said i (next_i body i v)
  unfolding next_i
  says (iff e a) zero = may (inl refl)
  says (iff e a) (suc v) = may (inr refl)
  says (decode p e bs) v = picked p e bs (choose bs v) (chosen bs v)
  says (repeat a) v = may refl
  says (leave l) v = may refl
  says (restart l) v = may refl
  says (call p) v = may refl
  says stop v = may refl
  says noop v = may refl
  says (transfer d e) v = may refl

  may_said : (r : Live) (m : Mv r) (x : Sig) (t : Live) → around body r m x ≡ goes t → Said (at r m) x → May body (at r m) x
  may_said r m x t e (fails n p q) = absurd (subst is_going (sym (sym (fault_out r m n p) ∙ (ap (around body r m) (sym q) ∙ e))) tt)
  may_said r m x t e (may h) = h

  -- whatever number v a test gives, a step of the rules that goes on is a step of a path
  pub number_step :
      (r : Live) (m : Mv r) (v : ℕ) (t : Live) → next body r m v ≡ goes t
      → May body (at r m) (next_i body (at r m) v) × (around body r m (next_i body (at r m) v) ≡ goes t)
  number_step r m v t e =
      let g : around body r m (next_i body (at r m) v) ≡ goes t = sym (next_around r m v) ∙ e in
      (may_said r m (next_i body (at r m) v) t g (says (at r m) v), g)

abbrev is_running : Conf → Type 0
is_running (running r s) = Unit {0}
is_running (finished s) = ⊥
is_running (stopped s) = ⊥
is_running (failed m p s) = ⊥

abbrev live_or : Live → Conf → Live
live_or z (running r s) = r
live_or z (finished s) = z
live_or z (stopped s) = z
live_or z (failed m p s) = z

told_runs : (s u : Carriers) (x : Sig) (t : Live) (v : Carriers) → told s u x ≡ running t v → x ≡ goes t
told_runs s u ends t v e = absurd (subst is_running (sym e) tt)
told_runs s u (goes r) t v e = ap goes (ap (live_or r) e)
told_runs s u (leaves l) t v e = absurd (subst is_running (sym e) tt)
told_runs s u (restarts l) t v e = absurd (subst is_running (sym e) tt)
told_runs s u stops t v e = absurd (subst is_running (sym e) tt)
told_runs s u (faults m p) t v e = absurd (subst is_running (sym e) tt)

module _ (ds : Table) (test : Word) where
  -- steps that come to something running come from something running
  from_running : (n : ℕ) (c : Conf) (r : Live) (s : Carriers) → Steps ds n c (running r s) → is_running c
  from_running zero c r s q = subst is_running (sym q) tt
  from_running (suc n) (running t u) r s q = tt
  from_running (suc n) (finished u) r s q = q
  from_running (suc n) (stopped u) r s q = q
  from_running (suc n) (failed m p u) r s q = q

  module _ (r' : Live) (s' : Carriers) where
    -- n steps are a path, whatever was before
    abbrev Paths : ℕ → Type 0
    Paths n =
        (r : Live) (s : Carriers) (b : Bool) (q : Steps ds n (running r s) (running r' s'))
        → Path ds test n (spot r b) (spot r' (b || test_ended ds test n (running r s) (running r' s') q))

    -- one step by what its work gave, and the rest
    stepped :
        (n : ℕ) → Paths n → (r : Live) (m : Mv r) (s : Carriers) (b : Bool) (o : Outcome Worked) (c : Conf) → after s (next (body_act ds) r m) o ≡ c
        → (q : Steps ds n c (running r' s'))
        → Path ds test (suc n) (spot r b) (spot r' (b || (ends_by ds test r m o || test_ended ds test n c (running r' s') q)))
    stepped n ih r m s b o (finished u) e q = absurd (from_running n (finished u) r' s' q)
    stepped n ih r m s b o (stopped u) e q = absurd (from_running n (stopped u) r' s' q)
    stepped n ih r m s b o (failed k p u) e q = absurd (from_running n (failed k p u) r' s' q)
    stepped n ih r m s b (faulty k p) (running t u) e q = absurd (subst is_running (sym e) tt)
    stepped n ih r m s b (gives w) (running t u) e q =
        let x : Sig = next_i (body_act ds) (at r m) w.number in
        let g = number_step (body_act ds) r m w.number t (told_runs s w.carriers (next (body_act ds) r m w.number) t u e) in
        let E : Bool = ends_test (body_act ds) test r m x in
        let rest = ih t u (b || E) q in (
          m,
          x,
          t,
          g.0,
          g.1,
          subst (λ z. Path ds test n (spot t (b || E)) (spot r' z)) (or_assoc b E (test_ended ds test n (running t u) (running r' s') q)) rest,
        )

    run_path : (n : ℕ) → Paths n
    run_path zero r s b q = ap₂ spot (ap (live_or r) q) (sym (or-false b))
    run_path (suc n) r s b q =
        stepped n (run_path n) r q.0 s b (perform ds (work r q.0) s) (step ds r q.0 s) refl q.1

  -- Every n single steps from the start of MAIN, by any choice of members, from any carriers, are a path; the test has ended on it when it has in the steps.
  pub runs_are_paths :
      (n : ℕ) (s s' : Carriers) (r : Live) (q : Steps ds n (begin ds (main_name ds) s) (running r s'))
      → Path ds test n (outset ds (main_name ds)) (spot r (test_ended ds test n (begin ds (main_name ds) s) (running r s') q))
  unfolding begin outset
  runs_are_paths n s s' r q = run_path r s' n (call_l (main_name ds) (start (body_act ds (main_name ds)))) s false q

  -- Where nothing is too early, no step of a run is a transfer to the output unless an activation of the test has ended before it.
  pub no_early_store :
      (output : ℕ) → ((p : ℕ) → ¬ TooEarly ds test output p) → (n : ℕ) (s s' : Carriers) (r : Live) (q : Steps ds n (begin ds (main_name ds) s) (running r s'))
      → (m : Mv r) (p : ℕ) → Writes ds output (work r m) p → test_ended ds test n (begin ds (main_name ds) s) (running r s') q ≡ true
  no_early_store output none_early n s s' r q m p w = by (test_ended ds test n (begin ds (main_name ds) s) (running r s') q) (runs_are_paths n s s' r q)
    where
      by : (b : Bool) → Path ds test n (outset ds (main_name ds)) (spot r b) → b ≡ true
      by true z = refl
      by false z = absurd (none_early p (record { steps = n; live = r; path = z; move = m; writes = w }))
