-- Nothing is made up: each place of the analysis is a transfer that some path comes to too early.
use Prim.Native.Nat.{ℕ, zero, suc}
use Rattle.std.specs.Prelude.{◌≡◌, Bool, cond, not, ◌||◌, ◌&&◌, List, [], ◌∷◌, ◌⊎◌, eqb}
use Rattle.std.proofs.Math.Path.{refl}
use Rattle.std.proofs.Common.{sym, ap, subst, inl, inr, eqb-true}
use Rattle.std.proofs.Math.Bool.{true, false}
use Rattle.std.proofs.lemmas.Bool.{false≢true}
use Rattle.rules.specs.Text.Scan.{same_bytes}
use Rattle.rules.specs.Grammar.Precedence.{Expr}
use Rattle.rules.specs.Declarations.{Word, Table}
use Rattle.rules.specs.Steps.Actions.{Access, Act, seq, par, label, ins, Ins, iff, decode, repeat, leave, restart, call, stop, noop, transfer, Alts, no_alts, alt, transfer_place}
use Rattle.rules.specs.Steps.Control.{Live, one, seq_l, both, right, lab_l, loop_l, call_l, start, work_i, ends, goes, leaves, lost, next_i}
use Rattle.rules.specs.Steps.Runs.{body_act}
use Rattle.rules.specs.Whole.Sets.{member, stores}
use Rattle.rules.specs.Limits.{longest_chain}
use Rattle.rules.specs.Faults.Whole.{main_name}
use Rattle.laws_orders.proofs.Orders.Tests.{or_either, member_either}
use Rattle.laws_accepted.proofs.Accepted.Named.{and_both, same_equal, same_itself}
use Rattle.rules.specs.Paths.{May, OneOf, spot, Path, outset, TooEarly}
use Rattle.paths.specs.Cited.Early.{Report, report, nowhere, passed, in_turn, beside, either, inside, turning, activation, written, early, early_i, early_alts, body_early, early_places}
use Rattle.paths.proofs.Going.{before, first_of, second_of, last_right, labelled, turn, activated, Goes, Says, Comes, says_in, comes_in, says_on, comes_on, says_once}

by : {A B C : Type 0} → A ⊎ B → (A → C) → (B → C) → C
by (inl u) f g = f u
by (inr u) f g = g u

not_so : (b : Bool) → not b ≡ true → b ≡ false
not_so true e = absurd (false≢true e)
not_so false e = refl

module _ (ds : Table) (test : Word) (output : ℕ) where
  -- all that a report says is reached
  record Real (x : Report) (r : Live) : Type 0 where
    ends : x.ends ≡ true → Says ds test output r ends
    leaves : (k : Word) → x.leaves k ≡ true → Says ds test output r (leaves k)
    places : (p : ℕ) → member p x.places ≡ true → Comes ds test output r p

  nowhere_real : (r : Live) → Real nowhere r
  unfolding member
  nowhere_real r = record { ends = λ h. absurd (false≢true h); leaves = λ k h. absurd (false≢true h); places = λ p h. absurd (false≢true h) }

  either_real : (x y : Report) (r : Live) → Real x r → Real y r → Real (either x y) r
  either_real x y r a b =
      record {
        ends = λ h. by (or_either x.ends y.ends h) a.ends b.ends;
        leaves = λ k h. by (or_either (x.leaves k) (y.leaves k) h) (a.leaves k) (b.leaves k);
        places = λ p h. by (member_either p x.places y.places h) (a.places p) (b.places p);
      }

  -- after a step that goes on
  on_real : (x : Report) (r u : Live) → Says ds test output r (goes u) → Real x u → Real x r
  on_real x r u w a =
      record {
        ends = λ h. says_on ds test output r u ends w (a.ends h);
        leaves = λ k h. says_on ds test output r u (leaves k) w (a.leaves k h);
        places = λ p h. comes_on ds test output r u p w (a.places p h);
      }

  seq_real : (x y : Report) (r : Live) (b : Act) → Real x r → Real y (start b) → Real (in_turn x y) (seq_l r b)
  unfolding member
  seq_real x y r b p q =
      record {
        ends = λ h. let e = and_both x.ends y.ends h in says_on ds test output (seq_l r b) (start b) ends (onward e.0) (q.ends e.1);
        leaves = λ k h.
            by (or_either (x.leaves k) (x.ends && y.leaves k) h) (λ e. says_in ds test output (before b) r (leaves k) tt (p.leaves k e))
            (λ e. let d = and_both x.ends (y.leaves k) e in says_on ds test output (seq_l r b) (start b) (leaves k) (onward d.0) (q.leaves k d.1));
        places = λ n h.
            by (member_either n x.places (cond x.ends y.places []) h) (λ e. comes_in ds test output (before b) r n (p.places n e)) (later n x.ends refl);
      }
    where
      onward : x.ends ≡ true → Says ds test output (seq_l r b) (goes (start b))
      onward e = says_in ds test output (before b) r ends tt (p.ends e)

      later : (n : ℕ) (c : Bool) → x.ends ≡ c → member n (cond c y.places []) ≡ true → Comes ds test output (seq_l r b) n
      later n true e h = comes_on ds test output (seq_l r b) (start b) n (onward e) (q.places n h)
      later n false e h = absurd (false≢true h)

  -- the first member to its end, then the second
  par_real : (x y : Report) (r t : Live) → Real x r → Real y t → Real (beside x y) (both r t)
  par_real x y r t p q =
      record {
        ends = λ h.
            let e = and_both x.ends y.ends h in
            says_on ds test output (both r t) (right t) ends (says_in ds test output (first_of t) r ends tt (p.ends e.0))
            (says_in ds test output last_right t ends tt (q.ends e.1));
        leaves = λ k h.
            by (or_either (x.leaves k) (y.leaves k) h) (λ e. says_in ds test output (first_of t) r (leaves k) tt (p.leaves k e))
            (λ e. says_in ds test output (second_of r) t (leaves k) tt (q.leaves k e));
        places = λ n h.
            by (member_either n x.places y.places h) (λ e. comes_in ds test output (first_of t) r n (p.places n e))
            (λ e. comes_in ds test output (second_of r) t n (q.places n e));
      }

  label_real : (x : Report) (l : Word) (a : Act) (r : Live) → Real x r → Real (inside l x) (lab_l l a r)
  label_real x l a r p =
      record {
        ends = λ h.
            by (or_either x.ends (x.leaves l) h) (λ e. says_in ds test output (labelled l a) r ends tt (p.ends e))
            (λ e. subst (λ b. Says ds test output (lab_l l a r) (cond b ends (leaves l))) (same_itself l) (says_in ds test output (labelled l a) r (leaves l) tt (p.leaves l e)));
        leaves = λ k h.
            let e = and_both (not (same_bytes k l)) (x.leaves k) h in
            subst (λ b. Says ds test output (lab_l l a r) (cond b ends (leaves k))) (not_so (same_bytes k l) e.0)
            (says_in ds test output (labelled l a) r (leaves k) tt (p.leaves k e.1));
        places = λ n h. comes_in ds test output (labelled l a) r n (p.places n h);
      }

  turning_real : (x : Report) (a : Act) (r : Live) → Real x r → Real (turning x) (loop_l a r)
  turning_real x a r p =
      record {
        ends = λ h. absurd (false≢true h);
        leaves = λ k h. says_in ds test output (turn a) r (leaves k) tt (p.leaves k h);
        places = λ n h. comes_in ds test output (turn a) r n (p.places n h);
      }

  call_real : (x : Report) (n : Word) (r : Live) → Real x r → Real (activation test n (inside n x)) (call_l n r)
  call_real x n r p =
      record {
        ends = λ h. let e = and_both (not (same_bytes n test)) (x.ends || x.leaves n) h in back (not_so (same_bytes n test) e.0) (or_either x.ends (x.leaves n) e.1);
        leaves = λ k h. absurd (false≢true h);
        places = λ q h. comes_in ds test output (activated n) r q (p.places q h);
      }
    where
      -- it is not the test, so it may end
      back : same_bytes n test ≡ false → (x.ends ≡ true) ⊎ (x.leaves n ≡ true) → Says ds test output (call_l n r) ends
      back e (inl h) = says_in ds test output (activated n) r ends (rw e refl) (p.ends h)
      back e (inr h) =
          subst (λ b. Says ds test output (call_l n r) (cond b ends lost)) (same_itself n)
          (says_in ds test output (activated n) r (leaves n) (rw e refl) (p.leaves n h))

  -- with what is known of the bodies
  module _ (known : Word → Report) (bodies : (n : Word) → Real (activation test n (known n)) (call_l n (start (body_act ds n)))) where
    goes_real : (x : Report) (i : Ins) (u : Live) → May (body_act ds) i (goes u) → Real x u → Real x (one i)
    goes_real x i u h a = on_real x (one i) u (says_once ds test output i (goes u) h) a

    -- an instruction that only ends
    passed_real : (i : Ins) → May (body_act ds) i ends → Real passed (one i)
    unfolding member
    passed_real i h =
        record { ends = λ e. says_once ds test output i ends h; leaves = λ k e. absurd (false≢true e); places = λ p e. absurd (false≢true e) }

    leave_real : (l : Word) → Real (report [] false (λ k. same_bytes k l)) (one (leave l))
    unfolding member next_i
    leave_real l =
        record {
          ends = λ h. absurd (false≢true h);
          leaves = λ k h. says_once ds test output (leave l) (leaves k) (ap leaves (same_equal k l h));
          places = λ p h. absurd (false≢true h);
        }

    transfer_real : (d : List Access) (e : Expr) → Real (report (written ds output d) true (λ k. false)) (one (transfer d e))
    unfolding next_i member work_i
    transfer_real d e =
        record {
          ends = λ h. says_once ds test output (transfer d e) ends refl;
          leaves = λ k h. absurd (false≢true h);
          places = λ p h. found p (member output (stores ds d)) refl h;
        }
      where
        found : (p : ℕ) (b : Bool) → member output (stores ds d) ≡ b → member p (cond b (transfer_place d ∷ []) []) ≡ true → Comes ds test output (one (transfer d e)) p
        found p true w h =
            let q : p ≡ transfer_place d = by (or_either (eqb p (transfer_place d)) false h) (eqb-true p (transfer_place d)) (λ z. absurd (false≢true z)) in
            record { steps = 0; live = one (transfer d e); path = refl; move = tt; writes = (w, q) }
        found p false w h = absurd (false≢true h)

    -- all of the alternatives, from where one is chosen
    alts_goes : (x : Report) (q : ℕ) (e : Expr) (all : Alts) (a : Act) → OneOf all a → Real x (start a) → Real x (one (decode q e all))
    alts_goes x q e all a o r = goes_real x (decode q e all) (start a) (a, o, refl) r

    mutual
      unfolding early early_i early_alts start next_i

      act_real : (a : Act) → Real (early ds test output known a) (start a)
      act_real (seq a b) = seq_real _ _ (start a) b (act_real a) (act_real b)
      act_real (par a b) = par_real _ _ (start a) (start b) (act_real a) (act_real b)
      act_real (label l a) = label_real _ l a (start a) (act_real a)
      act_real (ins i) = ins_real i

      ins_real : (i : Ins) → Real (early_i ds test output known i) (one i)
      ins_real (iff e a) = either_real _ _ (one (iff e a)) (passed_real (iff e a) (inl refl)) (goes_real _ (iff e a) (start a) (inr refl) (act_real a))
      ins_real (decode q e bs) = alts_real bs q e bs (λ a o. o)
      ins_real (repeat a) = goes_real _ (repeat a) (loop_l a (start a)) refl (turning_real _ a (start a) (act_real a))
      ins_real (leave l) = leave_real l
      ins_real (restart l) = nowhere_real (one (restart l))
      ins_real (call n) = goes_real _ (call n) (call_l n (start (body_act ds n))) refl (bodies n)
      ins_real stop = nowhere_real (one stop)
      ins_real noop = passed_real noop refl
      ins_real (transfer d e) = transfer_real d e

      alts_real : (bs : Alts) (q : ℕ) (e : Expr) (all : Alts) → ((a : Act) → OneOf bs a → OneOf all a) → Real (early_alts ds test output known bs) (one (decode q e all))
      alts_real no_alts q e all o = nowhere_real (one (decode q e all))
      alts_real (alt c a bs) q e all o =
          either_real _ _ (one (decode q e all)) (alts_goes _ q e all a (o a (inl refl)) (act_real a)) (alts_real bs q e all (λ b h. o b (inr h)))

  activation_nowhere : (n : Word) (r : Live) → Real (activation test n nowhere) r
  unfolding member
  activation_nowhere n r =
      record {
        ends = λ h. absurd (false≢true (and_both (not (same_bytes n test)) false h).1);
        leaves = λ k h. absurd (false≢true h);
        places = λ p h. absurd (false≢true h);
      }

  body_real : (k : ℕ) (n : Word) → Real (activation test n (body_early ds test output k n)) (call_l n (start (body_act ds n)))
  unfolding body_early
  body_real zero n = activation_nowhere n (call_l n (start (body_act ds n)))
  body_real (suc k) n = call_real _ n (start (body_act ds n)) (act_real (body_early ds test output k) (body_real k) (body_act ds n))

  -- where no activation of the test has ended
  early_path : (n : ℕ) (r t : Live) → Goes ds test output n r t → Path ds test n (spot r false) (spot t false)
  early_path zero r t q = ap (λ z. spot z false) q
  early_path (suc n) r t q =
      (q.0, q.1, q.2, q.3, q.4, subst (λ b. Path ds test n (spot q.2 b) (spot t false)) (sym q.5) (early_path n q.2 t q.6))

  pub exact : (p : ℕ) → member p (early_places ds test output) ≡ true → TooEarly ds test output p
  unfolding early_places outset
  exact p h =
      let main = main_name ds in
      let c : Comes ds test output (call_l main (start (body_act ds main))) p = (body_real longest_chain main).places p h in
      record {
        steps = c.steps;
        live = c.live;
        path = early_path c.steps (call_l main (start (body_act ds main))) c.live c.path;
        move = c.move;
        writes = c.writes;
      }
