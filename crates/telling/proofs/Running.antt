-- The tracing machine makes the steps of the run from left to right and tells its events; it is the flat machine with more on its stack.
use Prim.Native.Nat.{ℕ, zero, suc}
use Rattle.std.specs.Prelude.{◌≡◌, true}
use Rattle.std.proofs.Math.Path.{refl, sym, ap, subst}
use Rattle.std.proofs.Common.{◌∙◌, ap₂}
use mathlib.Core.List.{List, [], ◌∷◌, ◌++◌, append_assoc, map}
use Rattle.std.proofs.Math.Option.{Option, none, some}
use Rattle.rules.specs.Declarations.{Word, Table}
use Rattle.rules.specs.Stores.{made}
use Rattle.rules.specs.Steps.Evaluation.{Carriers, Outcome, gives, faulty}
use Rattle.rules.specs.Steps.Actions.{repeat}
use Rattle.rules.specs.Steps.Control.{Live, one, seq_l, both, left, right, lab_l, loop_l, call_l, start, leftmost, work}
use Rattle.rules.specs.Steps.Control.{Sig, ends, goes, leaves, restarts, stops, faults, next}
use Rattle.rules.specs.Steps.Runs.{Conf, running, finished, stopped, failed, Worked, perform, told as told_conf, after, body_act, step, begin}
use Rattle.rules.specs.Steps.Runs.{Run, run_with, done, halted, paused, faulted, run_from, run}
use Rattle.rules.specs.Steps.Orders.{end_of}
use Rattle.laws_orders.proofs.Orders.Ends.{EndsWell}
use Rattle.laws_orders.proofs.Orders.Budget.{onward as onward_run}
use Rattle.laws_orders.specs.Cited.Flat.{Link, at, exit, Instr, if_i, decode_i, go_i, call_i, stop_i, move_i, Code, At, pc, over, halt, broken, go, push, find, picked, work_m, next_m}
use Rattle.laws_orders.specs.Cited.Flat.{return as return_m, Machine, runs, ended, stood, broke, put, put_after, step_m, Labels, outer, bind, leave_to, restart_to, own_label}
use Rattle.laws_orders.proofs.Orders.Stands as Flat
use Rattle.laws_orders.proofs.Orders.Stands.{work_says}
use Rattle.laws_orders.proofs.Orders.Foot.{Prints, Sub-refl}
use Rattle.laws_orders.proofs.Orders.Ok.{Env, OkL, OkS, BodiesOk, call_ok}
use Rattle.laws_orders.proofs.Orders.Next.{next_ok}
use Rattle.traces.specs.Joining.{step_by}
use Rattle.traces.specs.Cited.Entries.{Block}
use Rattle.traces.specs.Cited.Events.{Event}
use Rattle.traces.specs.Telling.{openings, openings_c, step_events, store_event, Tells}
use Rattle.telling.specs.Cited.Passing.{Grouping, Passing, opened, turned, closed, pair_events, all_pairs, passage}
use Rattle.telling.specs.Cited.Tracing.{Told, link_of, addresses, resume, return, follow, picked_t, next_t}
use Rattle.telling.specs.Cited.Tracing.{Report, stored, passes, store_report, pairs_in, pairs_of, Stepped, Traced, traced, reported, put_t, after_t, step_t, run_t, trace_run}
use Rattle.telling.proofs.Moves.{Follows, Moves, moves_none, moves_as}
use Rattle.telling.proofs.Holding.{Spot, alone, rest, base, onward, HoldsGrouped, holds, holds_i}
use Rattle.telling.proofs.Standing.{whole, entered_main, Stands, Says, next_says, ends_over, no_jump, call_stands, body_moves}

-- the control of the flat machine
abbrev pub flat_at : Code → At → At
flat_at C (pc n κ) = pc n (addresses C κ)
flat_at C over = over
flat_at C halt = halt
flat_at C (broken m p) = broken m p

abbrev pub flat_machine : Code → Machine → Machine
flat_machine C (runs n κ s) = runs n (addresses C κ) s
flat_machine C (ended s) = ended s
flat_machine C (stood s) = stood s
flat_machine C (broke m p s) = broke m p s

module _ (C : Code) (M : Grouping) where
  pushed : (k : Link) (σ : List ℕ) → return_m (push k σ) ≡ go k σ
  pushed (at n) σ = refl
  pushed exit σ = refl

  return_flat : (κ : List ℕ) → flat_at C (return C M κ).control ≡ return_m (addresses C κ)
  unfolding return addresses
  return_flat [] = refl
  return_flat (m ∷ κ) = by (link_of (C.instr m)) (return_flat κ) ∙ sym (pushed (link_of (C.instr m)) (addresses C κ))
    where
      by : (l : Link) → flat_at C (return C M κ).control ≡ return_m (addresses C κ) → flat_at C (resume C M m κ (return C M κ) l).control ≡ go l (addresses C κ)
      by (at n) ih = refl
      by exit ih = ih

  follow_flat : (xs : List ℕ) (k : Link) (κ : List ℕ) → flat_at C (follow C M xs k κ).control ≡ go k (addresses C κ)
  follow_flat xs (at n) κ = refl
  follow_flat xs exit κ = return_flat κ

  -- Its control is that of the flat machine.
  pub next_flat : (n : ℕ) (i : Instr) (κ : List ℕ) (v : ℕ) → C.instr n ≡ i → flat_at C (next_t C M n i κ v).control ≡ next_m C i (addresses C κ) v
  unfolding addresses
  next_flat n (if_i e g k) κ zero q = follow_flat (M.around n) k κ
  next_flat n (if_i e g k) κ (suc v) q = refl
  next_flat n (decode_i p e t) κ v q = by (find t v)
    where
      by : (o : Option ℕ) → flat_at C (picked_t C M p (M.around n) κ o).control ≡ picked p (addresses C κ) o
      by none = refl
      by (some g) = refl
  next_flat n (go_i k) κ v q = follow_flat (M.around n) k κ
  next_flat n (call_i p k) κ v q = ap (λ j. pc (C.first p) (push (link_of j) (addresses C κ))) q
  next_flat n stop_i κ v q = refl
  next_flat n (move_i d e k) κ v q = follow_flat (M.around n) k κ

  put_flat : (s u : Carriers) (a : At) → flat_machine C (put s u a) ≡ put s u (flat_at C a)
  put_flat s u (pc n κ) = refl
  put_flat s u over = refl
  put_flat s u halt = refl
  put_flat s u (broken m p) = refl

  -- Its step is a step of the flat machine.
  pub step_flat : (ds : Table) (n : ℕ) (κ : List ℕ) (s : Carriers) → flat_machine C (step_t ds C M n κ s).machine ≡ step_m ds C n (addresses C κ) s
  step_flat ds n κ s = by (perform ds (work_m (C.instr n)) s)
    where
      by :
          (o : Outcome Worked)
          → flat_machine C (after_t s (made ds (work_m (C.instr n)) s) (next_t C M n (C.instr n) κ) o).machine ≡ put_after s (next_m C (C.instr n) (addresses C κ)) o
      by (gives w) =
          put_flat s w.carriers (next_t C M n (C.instr n) κ w.number).control ∙ ap (put s w.carriers) (next_flat n (C.instr n) κ w.number refl)
      by (faulty m p) = refl

  -- where it stands, the flat machine stands
  pub stands_flat :
      (r : Live) (s : Spot) (ρ : Labels) (k : Link) (τ : List ℕ) (n : ℕ) (κ : List ℕ) → Stands C M s ρ k τ r n κ
      → Flat.Stands C ρ k (addresses C τ) r n (addresses C κ)
  stands_flat (one i) (alone c) ρ k τ n κ h = (ap (addresses C) h.0, holds_i M C i c ρ n k h.2)
  stands_flat (one i) (rest z c) ρ k τ n κ h = absurd h
  stands_flat (seq_l r a) (alone c) ρ k τ n κ h = (h.0, stands_flat r (alone c) ρ (at h.0) τ n κ h.1, holds M C a (alone c) ρ h.0 k h.2)
  stands_flat (seq_l r a) (rest z c) ρ k τ n κ h = absurd h
  stands_flat (both r t) s ρ k τ n κ h =
      (h.0, h.1, stands_flat r (alone (h.2 ∷ base s)) ρ (at h.0) τ n κ h.5, h.6, holds M C h.1 (onward (M.last h.3) h.3 (base s)) ρ h.0 k h.7)
  stands_flat (left r) s ρ k τ n κ h = absurd h
  stands_flat (right r) s ρ k τ n κ h = stands_flat r (onward (M.last h.1) h.1 (base s)) ρ k τ n κ h.3
  stands_flat (lab_l l a r) (alone c) ρ k τ n κ h =
      (h.0, holds M C a (alone c) (bind l h.0 k ρ) h.0 k h.1, stands_flat r (alone c) (bind l h.0 k ρ) k τ n κ h.2)
  stands_flat (lab_l l a r) (rest z c) ρ k τ n κ h = absurd h
  stands_flat (loop_l a r) (alone c) ρ k τ n κ h = (h.0, holds_i M C (repeat a) c ρ h.0 k h.2, stands_flat r (alone c) ρ (at h.0) τ n κ h.3)
  stands_flat (loop_l a r) (rest z c) ρ k τ n κ h = absurd h
  stands_flat (call_l p r) (alone c) ρ k τ n κ h =
      subst (λ σ. Flat.Stands C (own_label C p) exit σ r n (addresses C κ)) h.1.addressed (stands_flat r (alone []) (own_label C p) exit h.0 n κ h.2)
  stands_flat (call_l p r) (rest z c) ρ k τ n κ h = absurd h

-- reports lead from some open groups to others
abbrev pub FollowsAll : Grouping → List ℕ → List Report → List ℕ → Type 0
FollowsAll M w [] v = w ≡ v
FollowsAll M w (stored x xs ∷ rs) v = FollowsAll M w rs v
FollowsAll M w (passes p ∷ rs) v = (u : List ℕ) × Follows M w (p ∷ []) u × FollowsAll M u rs v

module _ (M : Grouping) where
  pub follows_all : (ps : List Passing) (rs : List Report) (w u v : List ℕ) → Follows M w ps u → FollowsAll M u rs v → FollowsAll M w (map passes ps ++ rs) v
  follows_all [] rs w u v h k = subst (λ z. FollowsAll M z rs v) (sym h) k
  follows_all (opened y ∷ ps) rs w u v h k = (y ∷ w, (h.0, h.1, refl), follows_all ps rs (y ∷ w) u v h.2 k)
  follows_all (turned y ∷ ps) rs w u v h k =
      (y ∷ h.1, (h.0, h.1, h.2, h.3, h.4, refl), follows_all ps rs (y ∷ h.1) u v h.5 k)
  follows_all (closed z ∷ ps) rs w u v h k = (h.0, (h.0, h.1, h.2, refl), follows_all ps rs h.0 u v h.3 k)

  follows_store : (b : Block) (rs : List Report) (w v : List ℕ) → FollowsAll M w rs v → FollowsAll M w (store_report b ++ rs) v
  follows_store [] rs w v h = h
  follows_store (x ∷ xs) rs w v h = h

  pub reports_append : (rs qs : List Report) → pairs_of M (rs ++ qs) ≡ pairs_of M rs ++ pairs_of M qs
  unfolding pairs_of
  reports_append [] qs = refl
  reports_append (r ∷ rs) qs = ap (λ z. pairs_in M r ++ z) (reports_append rs qs) ∙ sym (append_assoc (pairs_in M r) (pairs_of M rs) (pairs_of M qs))

  pub reports_passes : (ps : List Passing) → pairs_of M (map passes ps) ≡ all_pairs M ps
  unfolding pairs_of all_pairs
  reports_passes [] = refl
  reports_passes (p ∷ ps) = ap (λ z. pair_events M p ++ z) (reports_passes ps)

  reports_store : (b : Block) → pairs_of M (store_report b) ≡ store_event b
  unfolding pairs_of
  reports_store [] = refl
  reports_store (x ∷ xs) = refl

  reports_step : (b : Block) (ps : List Passing) (es : List Event) → es ≡ all_pairs M ps → pairs_of M (store_report b ++ map passes ps) ≡ store_event b ++ es
  reports_step b ps es e = reports_append (store_report b) (map passes ps) ∙ ap₂ ◌++◌ (reports_store b) (reports_passes ps ∙ sym e)

module _ (ds : Table) (C : Code) (M : Grouping) where
  -- what the machine has come to by t: the same run, and where that ends well the same events; its reports lead on from the members w
  pub record Agrees (r : Run) (c : Conf) (w : List ℕ) (t : Traced) : Type 0 where
    pub same : t.run ≡ r
    pub tells : EndsWell r → (j : ℕ) × Tells ds j c (pairs_of M t.reports) (end_of r)
    pub leads : (v : List ℕ) × FollowsAll M w t.reports v

  -- what the machine's run goes on to, after a step
  abbrev onward_t : ℕ → ℕ → Machine → Traced
  onward_t b k m =
      elim m [
        | runs n κ u ↦ run_t ds C M b (suc k) n κ u
        | ended u ↦ traced (run_with done (suc k) u) []
        | stood u ↦ traced (run_with halted (suc k) u) []
        | broke x p u ↦ traced (run_with (faulted x p) k u) []
      ]

  over_agrees : (r : Run) (c : Conf) (w : List ℕ) → (EndsWell r → c ≡ end_of r) → Agrees r c w (traced r [])
  unfolding pairs_of
  over_agrees r c w h = record { same = refl; tells = λ e. (0, (h e, refl)); leads = (w, refl) }

  -- a step before
  step_agrees :
      (r : Live) (s : Carriers) (z : Run) (c : Conf) (w v : List ℕ) (o : Worked) (ps : List Passing) (t : Traced)
      → perform ds (work r (leftmost r)) s ≡ gives o → step ds r (leftmost r) s ≡ c → Moves M w (step_events (body_act ds) r o.number) ps v → Agrees z c v t
      → Agrees z (running r s) w (reported (store_report (made ds (work r (leftmost r)) s) ++ map passes ps) t)
  step_agrees r s z c w v o ps t g e m a =
      let b : Block = made ds (work r (leftmost r)) s in
      let rs : List Report = store_report b ++ map passes ps in
      let es : List Event = step_events (body_act ds) r o.number in
      record {
        same = a.same;
        tells = λ h.
            let y = a.tells h in (
              suc y.0,
              (
                o,
                g,
                pairs_of M t.reports,
                reports_append M rs t.reports
                    ∙ (ap (λ q. q ++ pairs_of M t.reports) (reports_step M b ps es m.events) ∙ append_assoc (store_event b) es (pairs_of M t.reports)),
                subst (λ q. Tells ds y.0 q (pairs_of M t.reports) (end_of z)) (sym e) y.1,
              ),
            );
        leads = (
          a.leads.0,
          subst (λ q. FollowsAll M w q a.leads.0) (sym (append_assoc (store_report b) (map passes ps) t.reports))
              (follows_store M b (map passes ps ++ t.reports) w a.leads.0 (follows_all M ps t.reports w v a.leads.0 m.follows a.leads.1)),
        );
      }

  -- The machine's run of a body is the run from left to right; where that ends well, what it tells is what left to right tells, behind the groups that open
  -- where it begins. Its reports lead from no open group to some.
  pub record Traces (n : Word) (b : ℕ) (s : Carriers) : Type 0 where
    pub same : (trace_run ds C M n b s).run ≡ run ds n b s
    pub tells :
        EndsWell (run ds n b s)
        → (j : ℕ) × (es : List Event) × Tells ds j (begin ds n s) es (end_of (run ds n b s))
        × (pairs_of M (trace_run ds C M n b s).reports ≡ openings_c (begin ds n s) ++ es)
    pub leads : (v : List ℕ) × FollowsAll M [] (trace_run ds C M n b s).reports v

  module _ (P : Prints) (ok : BodiesOk P (body_act ds)) (bodies : HoldsGrouped M C (body_act ds)) where
    -- the machine's step, by the work of the residual's
    abbrev step_by_of : Live → ℕ → List ℕ → Carriers → Outcome Worked → Stepped
    step_by_of r n κ s o = after_t s (made ds (work r (leftmost r)) s) (next_t C M n (C.instr n) κ) o

    abbrev onward_s : ℕ → ℕ → Stepped → Traced
    onward_s b k t = reported t.reports (onward_t b k t.machine)

    from_agrees :
        (b k : ℕ) (r : Live) (E : Env) (s : Carriers) (n : ℕ) (κ : List ℕ) → OkL P E r → Stands C M (alone []) outer exit [] r n κ
        → Agrees (run_from ds b k (running r s)) (running r s) (M.around n ++ whole C M κ) (run_t ds C M b k n κ s)
    unfolding run_t run_from leave_to restart_to
    from_agrees zero k r E s n κ o h = over_agrees (run_with paused k s) (running r s) (M.around n ++ whole C M κ) (λ e. absurd e)
    from_agrees (suc b) k r E s n κ o h =
        let same = work_says C r outer exit (addresses C []) n (addresses C κ) (stands_flat C M r (alone []) outer exit [] n κ h) in
        subst (λ z. Agrees (onward_run ds b k (step ds r (leftmost r) s)) (running r s) w (onward_s b k (after_t s (made ds z s) (next_t C M n (C.instr n) κ) (perform ds z s)))) same
        (by (perform ds (work r (leftmost r)) s) refl (λ r u. from_agrees b (suc k) r E u))
      where
        w : List ℕ
        w = M.around n ++ whole C M κ

        said : (x : Worked) → Says C M (alone []) outer exit [] w (step_events (body_act ds) r x.number) (next (body_act ds) r (leftmost r) x.number) (next_t C M n (C.instr n) κ x.number)
        said x = next_says C M (body_act ds) bodies P ok r E (alone []) outer exit [] n κ o h x.number

        by :
            (y : Outcome Worked) → perform ds (work r (leftmost r)) s ≡ y
            → ((r : Live) (u : Carriers) (n : ℕ) (κ : List ℕ) → OkL P E r → Stands C M (alone []) outer exit [] r n κ
            → Agrees (run_from ds b (suc k) (running r u)) (running r u) (M.around n ++ whole C M κ) (run_t ds C M b (suc k) n κ u))
            → Agrees (onward_run ds b k (step ds r (leftmost r) s)) (running r s) w (onward_s b k (step_by_of r n κ s y))
        by (faulty m p) g ih =
            subst (λ c. Agrees (onward_run ds b k c) (running r s) w (traced (run_with (faulted m p) k s) [])) (sym (ap (after s (next (body_act ds) r (leftmost r))) g))
            (over_agrees (run_with (faulted m p) k s) (running r s) w (λ e. absurd e))
        by (gives x) g ih =
            on (next (body_act ds) r (leftmost r) x.number) (next_t C M n (C.instr n) κ x.number) refl (said x)
            (next_ok P (body_act ds) ok E r (leftmost r) x.number o)
          where
            u : Carriers
            u = x.carriers

            -- behind a step that says X and has come to c
            stepped_on :
                (X : Sig) (m : Told) (c : Conf) (a : At) (v : List ℕ) → next (body_act ds) r (leftmost r) x.number ≡ X → told_conf s u X ≡ c → m.control ≡ a
                → Moves M w (step_events (body_act ds) r x.number) m.passed v → Agrees (onward_run ds b k c) c v (onward_t b k (put s u a))
                → Agrees (onward_run ds b k (step ds r (leftmost r) s)) (running r s) w (onward_s b k (put_t s (made ds (work r (leftmost r)) s) u m))
            stepped_on X m c a v e f i y z =
                let e' : step ds r (leftmost r) s ≡ c = step_by ds r (leftmost r) s x X g e ∙ f in
                let rs : List Report = store_report (made ds (work r (leftmost r)) s) ++ map passes m.passed in
                subst (λ (j : At). Agrees (onward_run ds b k (step ds r (leftmost r) s)) (running r s) w (reported rs (onward_t b k (put s u j)))) (sym i)
                (subst (λ (j : Conf). Agrees (onward_run ds b k j) (running r s) w (reported rs (onward_t b k (put s u a)))) (sym e')
                (step_agrees r s (onward_run ds b k c) c w v x m.passed (onward_t b k (put s u a)) g e' y z))

            on :
                (X : Sig) (m : Told) → next (body_act ds) r (leftmost r) x.number ≡ X
                → Says C M (alone []) outer exit [] w (step_events (body_act ds) r x.number) X m → OkS P E X
                → Agrees (onward_run ds b k (step ds r (leftmost r) s)) (running r s) w (onward_s b k (put_t s (made ds (work r (leftmost r)) s) u m))
            on ends m e q j =
                let z = ends_over C M q in
                stepped_on ends m (finished u) over [] e refl z.0 z.1 (over_agrees (run_with done (suc k) u) (finished u) [] (λ i. refl))
            on (goes r') m e q j =
                stepped_on (goes r') m (running r' u) (pc q.n q.κ) (M.around q.n ++ whole C M q.κ) e refl q.control q.moves
                (ih r' u q.n q.κ j q.stands)
            on (leaves l) m e q j = absurd (no_jump C M q)
            on (restarts l) m e q j = absurd (no_jump C M q)
            on stops m e q j =
                stepped_on stops m (stopped u) halt w e refl (ap (λ (z : Told). z.control) q.0) (moves_as M q.1 (ap (λ (z : Told). z.passed) q.0) refl (moves_none M w))
                (over_agrees (run_with halted (suc k) u) (stopped u) w (λ i. refl))
            on (faults i p) m e q j =
                stepped_on (faults i p) m (failed i p s) (broken i p) w e refl (ap (λ (z : Told). z.control) q.0)
                (moves_as M q.1 (ap (λ (z : Told). z.passed) q.0) refl (moves_none M w))
                (over_agrees (run_with (faulted i p) k s) (failed i p s) w (λ i. absurd i))

    abbrev outermost : Word → Env
    outermost n = record { foot = P.body n; may_stop = true; scope = [] }

    first_ok : (n : Word) → OkL P (outermost n) (call_l n (start (body_act ds n)))
    first_ok n = call_ok P (body_act ds) ok (outermost n) n (record { foot = Sub-refl (P.body n); stopping = λ p. refl })

    pub trace_agrees : (n : Word) (b : ℕ) (s : Carriers) → Traces n b s
    unfolding trace_run run begin openings whole
    trace_agrees n b s =
        let a = from_agrees b 0 (call_l n (start (body_act ds n))) (outermost n) s (C.first n) [] (first_ok n)
        (call_stands C M (body_act ds) bodies [] outer exit [] [] n (entered_main C M)) in
        let m = body_moves C M (body_act ds) bodies n [] in
        let ps : List Passing = passage M [] (M.around (C.first n)) in
        let rs : List Report = (run_t ds C M b 0 (C.first n) [] s).reports in
        record {
          same = a.same;
          tells = λ h.
              let y = a.tells h in
              (y.0, pairs_of M rs, y.1, reports_append M (map passes ps) rs ∙ ap (λ z. z ++ pairs_of M rs) (reports_passes M ps ∙ sym m.events));
          leads = (a.leads.0, follows_all M ps rs [] (M.around (C.first n) ++ []) a.leads.0 m.follows a.leads.1);
        }
