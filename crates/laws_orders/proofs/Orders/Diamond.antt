-- The diamond of control: two moves of one residual are the same, or each leaves the other as it was and the two orders meet.
use Rattle.std.specs.Prelude.{ℕ, ◌≡◌, ◌⊎◌}
use Rattle.std.proofs.Math.Path.{refl, sym, ap}
use Rattle.std.proofs.Common.{◌∙◌}
use Rattle.std.proofs.lemmas.Bool.{false≢true}
use Rattle.std.proofs.Math.Logic.{inl, inr}
use Rattle.rules.specs.Declarations.{Word}
use Rattle.rules.specs.Steps.Actions.{Act}
use Rattle.rules.specs.Steps.Control.{Live, one, seq_l, both, left, right, lab_l, loop_l, call_l}
use Rattle.rules.specs.Steps.Control.{Sig, ends, goes, leaves, restarts, stops, faults, Mv, work}
use Rattle.rules.specs.Steps.Control.{seq_s, both_l, both_r, left_s, right_s, lab_s, loop_s, call_s, next}
use Rattle.laws_orders.proofs.Orders.Foot.{Foot, Indep, Prints, work_foot, Indep-sub, Indep-sym}
use Rattle.laws_orders.proofs.Orders.Ok.{Env, under, member, in_body, OkL, OkS, BodiesOk, work_sub}
use Rattle.laws_orders.proofs.Orders.Next.{next_ok}

-- a fault, whatever its number and place
pub record Faulty (x : Sig) : Type 0 where
  pub number : ℕ
  pub place : ℕ
  pub is : x ≡ faults number place

faulty_by : (f : Sig → Sig) → ((m p : ℕ) → f (faults m p) ≡ faults m p) → (x y : Sig) → y ≡ f x → Faulty x → Faulty y
faulty_by f k x y e h = record { number = h.number; place = h.place; is = e ∙ (ap f h.is ∙ k h.number h.place) }

module _ (body : Word → Act) where
  -- after the move m with the value v, the move k is still there, with the same work
  pub record After (r : Live) (m k : Mv r) (v : ℕ) : Type 0 where
    pub rest : Live
    pub move : Mv rest
    pub goes_there : next body r m v ≡ goes rest
    pub same_work : work rest move ≡ work r k

  -- two moves, with the values that their work gives: where one faults it faults after the other too, and else the two orders meet
  pub data Meet (r : Live) (m k : Mv r) (v w : ℕ) : Type 0 where
    neither : Faulty (next body r m v) → Faulty (next body r k w) → Meet r m k v w
    first : (x : After r m k v) → Faulty (next body r k w) → Faulty (next body x.rest x.move w) → Meet r m k v w
    second : (y : After r k m w) → Faulty (next body r m v) → Faulty (next body y.rest y.move v) → Meet r m k v w
    meet : (x : After r m k v) (y : After r k m w) → next body x.rest x.move w ≡ next body y.rest y.move v → Meet r m k v w

  -- a context with a place for a residual, and what it makes of what the step inside says
  record Frame (K : Live → Live) (f : Sig → Sig) : Type 0 where
    up : (r : Live) → Mv r → Mv (K r)
    work_up : (r : Live) (m : Mv r) → work (K r) (up r m) ≡ work r m
    next_up : (r : Live) (m : Mv r) (v : ℕ) → next body (K r) (up r m) v ≡ f (next body r m v)
    f_goes : (r : Live) → f (goes r) ≡ goes (K r)
    f_faults : (m p : ℕ) → f (faults m p) ≡ faults m p

  module _ {K : Live → Live} {f : Sig → Sig} (c : Frame K f) {r : Live} {m k : Mv r} where
    up_after : {v : ℕ} → After r m k v → After (K r) (c.up r m) (c.up r k) v
    up_after {v} x =
        record {
          rest = K x.rest;
          move = c.up x.rest x.move;
          goes_there = c.next_up r m v ∙ (ap f x.goes_there ∙ c.f_goes x.rest);
          same_work = c.work_up x.rest x.move ∙ (x.same_work ∙ sym (c.work_up r k));
        }

  module _ {K : Live → Live} {f : Sig → Sig} (c : Frame K f) where
    up_faults : (r : Live) (m : Mv r) (v : ℕ) → Faulty (next body r m v) → Faulty (next body (K r) (c.up r m) v)
    up_faults r m v h = faulty_by f c.f_faults (next body r m v) (next body (K r) (c.up r m) v) (c.next_up r m v) h

    up_same :
        (r t : Live) (m : Mv r) (k : Mv t) (v w : ℕ) → next body r m v ≡ next body t k w
        → next body (K r) (c.up r m) v ≡ next body (K t) (c.up t k) w
    up_same r t m k v w e = c.next_up r m v ∙ (ap f e ∙ sym (c.next_up t k w))

    up_meet : {r : Live} {m k : Mv r} {v w : ℕ} → Meet r m k v w → Meet (K r) (c.up r m) (c.up r k) v w
    unfolding up_after
    up_meet {r} {m} {k} {v} {w} (neither a b) = neither (up_faults r m v a) (up_faults r k w b)
    up_meet {r} {m} {k} {v} {w} (first x a b) = first (up_after c x) (up_faults r k w a) (up_faults x.rest x.move w b)
    up_meet {r} {m} {k} {v} {w} (second y a b) = second (up_after c y) (up_faults r m v a) (up_faults y.rest y.move v b)
    up_meet {r} {m} {k} {v} {w} (meet x y e) = meet (up_after c x) (up_after c y) (up_same x.rest y.rest x.move y.move w v e)

  in_seq : (a : Act) → Frame (λ r. seq_l r a) (seq_s a)
  in_seq a = record { up = λ r m. m; work_up = λ r m. refl; next_up = λ r m v. refl; f_goes = λ r. refl; f_faults = λ m p. refl }

  in_both_l : (t : Live) → Frame (λ r. both r t) (both_l t)
  in_both_l t = record { up = λ r m. inl m; work_up = λ r m. refl; next_up = λ r m v. refl; f_goes = λ r. refl; f_faults = λ m p. refl }

  in_both_r : (r : Live) → Frame (λ t. both r t) (both_r r)
  in_both_r r = record { up = λ t m. inr m; work_up = λ t m. refl; next_up = λ t m v. refl; f_goes = λ t. refl; f_faults = λ m p. refl }

  in_left : Frame left left_s
  in_left = record { up = λ r m. m; work_up = λ r m. refl; next_up = λ r m v. refl; f_goes = λ r. refl; f_faults = λ m p. refl }

  in_right : Frame right right_s
  in_right = record { up = λ r m. m; work_up = λ r m. refl; next_up = λ r m v. refl; f_goes = λ r. refl; f_faults = λ m p. refl }

  in_lab : (l : Word) (a : Act) → Frame (lab_l l a) (lab_s l a)
  in_lab l a = record { up = λ r m. m; work_up = λ r m. refl; next_up = λ r m v. refl; f_goes = λ r. refl; f_faults = λ m p. refl }

  in_loop : (a : Act) → Frame (loop_l a) (loop_s a)
  in_loop a = record { up = λ r m. m; work_up = λ r m. refl; next_up = λ r m v. refl; f_goes = λ r. refl; f_faults = λ m p. refl }

  in_call : (p : Word) → Frame (call_l p) (call_s body p)
  in_call p = record { up = λ r m. m; work_up = λ r m. refl; next_up = λ r m v. refl; f_goes = λ r. refl; f_faults = λ m p. refl }

  -- what a step of a member of a group of several can say
  data Quiet : Type 0 where
    ended : Quiet
    going : Live → Quiet
    faulting : ℕ → ℕ → Quiet

  abbrev said : Quiet → Sig
  said ended = ends
  said (going r) = goes r
  said (faulting m p) = faults m p

  -- a move of the one side of a group and a move of the other
  module _ (r t : Live) (m : Mv r) (k : Mv t) (v w : ℕ) where
    after_l_ends : next body r m v ≡ ends → After (both r t) (inl m) (inr k) v
    after_l_ends e = record { rest = right t; move = k; goes_there = ap (both_l t) e; same_work = refl }

    after_l_goes : (r' : Live) → next body r m v ≡ goes r' → After (both r t) (inl m) (inr k) v
    after_l_goes r' e = record { rest = both r' t; move = inr k; goes_there = ap (both_l t) e; same_work = refl }

    after_r_ends : next body t k w ≡ ends → After (both r t) (inr k) (inl m) w
    after_r_ends e = record { rest = left r; move = m; goes_there = ap (both_r r) e; same_work = refl }

    after_r_goes : (t' : Live) → next body t k w ≡ goes t' → After (both r t) (inr k) (inl m) w
    after_r_goes t' e = record { rest = both r t'; move = inl m; goes_there = ap (both_r r) e; same_work = refl }

    cross : (x y : Quiet) → next body r m v ≡ said x → next body t k w ≡ said y → Meet (both r t) (inl m) (inr k) v w
    unfolding after_l_ends after_l_goes after_r_ends after_r_goes
    cross ended ended d e = meet (after_l_ends d) (after_r_ends e) (ap right_s e ∙ sym (ap left_s d))
    cross ended (going t') d e = meet (after_l_ends d) (after_r_goes t' e) (ap right_s e ∙ sym (ap (both_l t') d))
    cross ended (faulting n p) d e =
        first (after_l_ends d) (record { number = n; place = p; is = ap (both_r r) e }) (record { number = n; place = p; is = ap right_s e })
    cross (going r') ended d e = meet (after_l_goes r' d) (after_r_ends e) (ap (both_r r') e ∙ sym (ap left_s d))
    cross (going r') (going t') d e = meet (after_l_goes r' d) (after_r_goes t' e) (ap (both_r r') e ∙ sym (ap (both_l t') d))
    cross (going r') (faulting n p) d e =
        first (after_l_goes r' d) (record { number = n; place = p; is = ap (both_r r) e }) (record { number = n; place = p; is = ap (both_r r') e })
    cross (faulting n p) ended d e =
        second (after_r_ends e) (record { number = n; place = p; is = ap (both_l t) d }) (record { number = n; place = p; is = ap left_s d })
    cross (faulting n p) (going t') d e =
        second (after_r_goes t' e) (record { number = n; place = p; is = ap (both_l t) d }) (record { number = n; place = p; is = ap (both_l t') d })
    cross (faulting n p) (faulting n' p') d e =
        neither (record { number = n; place = p; is = ap (both_l t) d }) (record { number = n'; place = p'; is = ap (both_r r) e })

  turn : {r : Live} {m k : Mv r} {v w : ℕ} → Meet r m k v w → Meet r k m w v
  turn (neither a b) = neither b a
  turn (first x a b) = second x a b
  turn (second y a b) = first y a b
  turn (meet x y e) = meet y x (sym e)

  module _ (P : Prints) where
    -- two moves that are free of one another
    pub record Free (r : Live) (m k : Mv r) : Type 0 where
      pub apart : Indep (work_foot P (work r m)) (work_foot P (work r k))
      pub meets : (v w : ℕ) → Meet r m k v w

    module _ {K : Live → Live} {f : Sig → Sig} (c : Frame K f) where
      up_free : (r : Live) (m k : Mv r) → Free r m k → Free (K r) (c.up r m) (c.up r k)
      up_free r m k d = record { apart = rw (c.work_up r m, c.work_up r k) d.apart; meets = λ v w. up_meet c (d.meets v w) }

      up_either : (r : Live) (m k : Mv r) → (m ≡ k) ⊎ Free r m k → (c.up r m ≡ c.up r k) ⊎ Free (K r) (c.up r m) (c.up r k)
      up_either r m k (inl e) = inl (ap (c.up r) e)
      up_either r m k (inr d) = inr (up_free r m k d)

    quiet : (G : Foot) (x : Sig) → OkS P (member G) x → (q : Quiet) × (x ≡ said q)
    quiet G ends h = (ended, refl)
    quiet G (goes r) h = (going r, refl)
    quiet G (leaves l) h = absurd h
    quiet G (restarts l) h = absurd h
    quiet G stops h = absurd (false≢true h)
    quiet G (faults m p) h = (faulting m p, refl)

    turn_free : {r : Live} {m k : Mv r} → Free r m k → Free r k m
    turn_free d = record { apart = Indep-sym d.apart; meets = λ v w. turn (d.meets w v) }

    module _ (bodies : BodiesOk P body) where
      cross_free : (E : Env) (r t : Live) → OkL P E (both r t) → (m : Mv r) (k : Mv t) → Free (both r t) (inl m) (inr k)
      cross_free E r t h m k =
          record {
            apart = Indep-sub (work_sub P (member h.0) r m h.3) (work_sub P (member h.1) t k h.4) h.2.apart;
            meets = λ v w.
                let x : (q : Quiet) × (next body r m v ≡ said q) = quiet h.0 (next body r m v) (next_ok P body bodies (member h.0) r m v h.3) in
                let y : (q : Quiet) × (next body t k w ≡ said q) = quiet h.1 (next body t k w) (next_ok P body bodies (member h.1) t k w h.4) in
                cross r t m k v w x.0 y.0 x.1 y.1;
          }

      pub diamond : (E : Env) (r : Live) → OkL P E r → (m k : Mv r) → (m ≡ k) ⊎ Free r m k
      unfolding in_seq in_both_l in_both_r in_left in_right in_lab in_loop in_call
      diamond E (one i) h m k = inl refl
      diamond E (seq_l r a) h m k = up_either (in_seq a) r m k (diamond E r h.0 m k)
      diamond E (both r t) h (inl m) (inl k) = up_either (in_both_l t) r m k (diamond (member h.0) r h.3 m k)
      diamond E (both r t) h (inl m) (inr k) = inr (cross_free E r t h m k)
      diamond E (both r t) h (inr m) (inl k) = inr (turn_free (cross_free E r t h k m))
      diamond E (both r t) h (inr m) (inr k) = up_either (in_both_r r) t m k (diamond (member h.1) t h.4 m k)
      diamond E (left r) h m k = up_either in_left r m k (diamond (member h.0) r h.2 m k)
      diamond E (right r) h m k = up_either in_right r m k (diamond (member h.0) r h.2 m k)
      diamond E (lab_l l a r) h m k = up_either (in_lab l a) r m k (diamond (under l E) r h.1 m k)
      diamond E (loop_l a r) h m k = up_either (in_loop a) r m k (diamond E r h.1 m k)
      diamond E (call_l p r) h m k = up_either (in_call p) r m k (diamond (in_body P p) r h.1 m k)
