-- Parts of paths on which no activation of the test ends: from one thing that is left to another, to what is said at last, to a transfer. What goes on
-- alone goes on so inside any action.
use Rattle.std.specs.Prelude.{ℕ, zero, suc, ◌≡◌, refl, Bool, true, false, ◌||◌, ◌&&◌}
use Rattle.std.proofs.Common.{sym, ◌∙◌, ap, ap₂, subst, inl, inr}
use Rattle.rules.specs.Text.Scan.{same_bytes}
use Rattle.rules.specs.Declarations.{Word, Table}
use Rattle.rules.specs.Steps.Actions.{Act, Ins}
use Rattle.rules.specs.Steps.Control.{Live, one, seq_l, both, left, right, lab_l, loop_l, call_l}
use Rattle.rules.specs.Steps.Control.{Sig, goes, Mv, work, seq_s, both_l, both_r, left_s, right_s, lab_s, loop_s, call_s}
use Rattle.rules.specs.Steps.Runs.{body_act}
use Rattle.rules.specs.Paths.{at, May, around, is_end, ends_test, Writes}

-- an action around what is left of a part of it
pub data Frame : Type 0 where
  before : Act → Frame
  first_of : Live → Frame
  second_of : Live → Frame
  last_left last_right : Frame
  labelled : Word → Act → Frame
  turn : Act → Frame
  activated : Word → Frame

abbrev pub fill : Frame → Live → Live
fill (before a) r = seq_l r a
fill (first_of t) r = both r t
fill (second_of t) r = both t r
fill last_left r = left r
fill last_right r = right r
fill (labelled l a) r = lab_l l a r
fill (turn a) r = loop_l a r
fill (activated p) r = call_l p r

abbrev pub lift : (f : Frame) (r : Live) → Mv r → Mv (fill f r)
lift (before a) r m = m
lift (first_of t) r m = inl m
lift (second_of t) r m = inr m
lift last_left r m = m
lift last_right r m = m
lift (labelled l a) r m = m
lift (turn a) r m = m
lift (activated p) r m = m

module _ (ds : Table) (test : Word) (output : ℕ) where
  abbrev body : Word → Act
  body = body_act ds

  abbrev pub Goes : ℕ → Live → Live → Type 0
  Goes zero r t = r ≡ t
  Goes (suc n) r t =
      (m : Mv r) × (x : Sig) × (u : Live) × May body (at r m) x × (around body r m x ≡ goes u) × (ends_test body test r m x ≡ false) × Goes n u t

  pub record Says (r : Live) (y : Sig) : Type 0 where
    pub steps : ℕ
    pub live : Live
    pub path : Goes steps r live
    pub move : Mv live
    pub first : Sig
    pub may : May (body_act ds) (at live move) first
    pub said : around (body_act ds) live move first ≡ y
    pub quiet : ends_test (body_act ds) test live move first ≡ false

  pub record Comes (r : Live) (p : ℕ) : Type 0 where
    pub steps : ℕ
    pub live : Live
    pub path : Goes steps r live
    pub move : Mv live
    pub writes : Writes ds output (work live move) p

  -- what a frame makes of what is said to it
  abbrev pub hears : Frame → Sig → Sig
  hears (before a) y = seq_s a y
  hears (first_of t) y = both_l t y
  hears (second_of t) y = both_r t y
  hears last_left y = left_s y
  hears last_right y = right_s y
  hears (labelled l a) y = lab_s l a y
  hears (turn a) y = loop_s a y
  hears (activated p) y = call_s body p y

  -- it is no end of an activation of the test
  abbrev pub Quiet : Frame → Sig → Type 0
  Quiet (before a) y = Unit {0}
  Quiet (first_of t) y = Unit {0}
  Quiet (second_of t) y = Unit {0}
  Quiet last_left y = Unit {0}
  Quiet last_right y = Unit {0}
  Quiet (labelled l a) y = Unit {0}
  Quiet (turn a) y = Unit {0}
  Quiet (activated p) y = (same_bytes p test && is_end (call_s body p y)) ≡ false

  and_false : (b : Bool) → (b && false) ≡ false
  and_false true = refl
  and_false false = refl

  goes_quiet : (f : Frame) (u : Live) → Quiet f (goes u)
  goes_quiet (before a) u = tt
  goes_quiet (first_of t) u = tt
  goes_quiet (second_of t) u = tt
  goes_quiet last_left u = tt
  goes_quiet last_right u = tt
  goes_quiet (labelled l a) u = tt
  goes_quiet (turn a) u = tt
  goes_quiet (activated p) u = and_false (same_bytes p test)

  hears_goes : (f : Frame) (u : Live) → hears f (goes u) ≡ goes (fill f u)
  hears_goes (before a) u = refl
  hears_goes (first_of t) u = refl
  hears_goes (second_of t) u = refl
  hears_goes last_left u = refl
  hears_goes last_right u = refl
  hears_goes (labelled l a) u = refl
  hears_goes (turn a) u = refl
  hears_goes (activated p) u = refl

  may_in : (f : Frame) (r : Live) (m : Mv r) (x : Sig) → May body (at r m) x → May body (at (fill f r) (lift f r m)) x
  may_in (before a) r m x h = h
  may_in (first_of t) r m x h = h
  may_in (second_of t) r m x h = h
  may_in last_left r m x h = h
  may_in last_right r m x h = h
  may_in (labelled l a) r m x h = h
  may_in (turn a) r m x h = h
  may_in (activated p) r m x h = h

  around_in : (f : Frame) (r : Live) (m : Mv r) (x : Sig) → around body (fill f r) (lift f r m) x ≡ hears f (around body r m x)
  around_in (before a) r m x = refl
  around_in (first_of t) r m x = refl
  around_in (second_of t) r m x = refl
  around_in last_left r m x = refl
  around_in last_right r m x = refl
  around_in (labelled l a) r m x = refl
  around_in (turn a) r m x = refl
  around_in (activated p) r m x = refl

  quiet_in :
      (f : Frame) (r : Live) (m : Mv r) (x : Sig) → Quiet f (around body r m x) → ends_test body test r m x ≡ false
      → ends_test body test (fill f r) (lift f r m) x ≡ false
  quiet_in (before a) r m x q h = h
  quiet_in (first_of t) r m x q h = h
  quiet_in (second_of t) r m x q h = h
  quiet_in last_left r m x q h = h
  quiet_in last_right r m x q h = h
  quiet_in (labelled l a) r m x q h = h
  quiet_in (turn a) r m x q h = h
  quiet_in (activated p) r m x q h = ap₂ ◌||◌ h q

  writes_in : (f : Frame) (r : Live) (m : Mv r) (p : ℕ) → Writes ds output (work r m) p → Writes ds output (work (fill f r) (lift f r m)) p
  writes_in (before a) r m p h = h
  writes_in (first_of t) r m p h = h
  writes_in (second_of t) r m p h = h
  writes_in last_left r m p h = h
  writes_in last_right r m p h = h
  writes_in (labelled l a) r m p h = h
  writes_in (turn a) r m p h = h
  writes_in (activated q) r m p h = h

  goes_in : (f : Frame) (n : ℕ) (r t : Live) → Goes n r t → Goes n (fill f r) (fill f t)
  goes_in f zero r t q = ap (fill f) q
  goes_in f (suc n) r t q =
      let m : Mv r = q.0 in
      let x : Sig = q.1 in (
        lift f r m,
        x,
        fill f q.2,
        may_in f r m x q.3,
        around_in f r m x ∙ (ap (hears f) q.4 ∙ hears_goes f q.2),
        quiet_in f r m x (subst (Quiet f) (sym q.4) (goes_quiet f q.2)) q.5,
        goes_in f n q.2 t q.6,
      )

  pub says_in : (f : Frame) (r : Live) (y : Sig) → Quiet f y → Says r y → Says (fill f r) (hears f y)
  says_in f r y q w =
      record {
        steps = w.steps;
        live = fill f w.live;
        path = goes_in f w.steps r w.live w.path;
        move = lift f w.live w.move;
        first = w.first;
        may = may_in f w.live w.move w.first w.may;
        said = around_in f w.live w.move w.first ∙ ap (hears f) w.said;
        quiet = quiet_in f w.live w.move w.first (subst (Quiet f) (sym w.said) q) w.quiet;
      }

  pub comes_in : (f : Frame) (r : Live) (p : ℕ) → Comes r p → Comes (fill f r) p
  comes_in f r p w =
      record {
        steps = w.steps;
        live = fill f w.live;
        path = goes_in f w.steps r w.live w.path;
        move = lift f w.live w.move;
        writes = writes_in f w.live w.move p w.writes;
      }

  -- a part of a path, a step, and a part of a path
  joined :
      (n : ℕ) (r t : Live) → Goes n r t → (m : Mv t) (x : Sig) (u v : Live) (k : ℕ) → May body (at t m) x → around body t m x ≡ goes u
      → ends_test body test t m x ≡ false → Goes k u v → (j : ℕ) × Goes j r v
  joined zero r t q m x u v k a b c w = subst (λ z. (j : ℕ) × Goes j z v) (sym q) (suc k, (m, x, u, a, b, c, w))
  joined (suc n) r t q m x u v k a b c w =
      let i : (j : ℕ) × Goes j q.2 v = joined n q.2 t q.6 m x u v k a b c w in (suc i.0, (q.0, q.1, q.2, q.3, q.4, q.5, i.1))

  -- what says that it goes on to u goes on as u does
  onto : (r u v : Live) (k : ℕ) → Says r (goes u) → Goes k u v → (j : ℕ) × Goes j r v
  onto r u v k w q = joined w.steps r w.live w.path w.move w.first u v k w.may w.said w.quiet q

  pub says_on : (r u : Live) (y : Sig) → Says r (goes u) → Says u y → Says r y
  says_on r u y w z =
      let i = onto r u z.live z.steps w z.path in
      record { steps = i.0; live = z.live; path = i.1; move = z.move; first = z.first; may = z.may; said = z.said; quiet = z.quiet }

  pub comes_on : (r u : Live) (p : ℕ) → Says r (goes u) → Comes u p → Comes r p
  comes_on r u p w z =
      let i = onto r u z.live z.steps w z.path in
      record { steps = i.0; live = z.live; path = i.1; move = z.move; writes = z.writes }

  -- one step of an instruction
  pub says_once : (i : Ins) (x : Sig) → May body i x → Says (one i) x
  says_once i x h = record { steps = 0; live = one i; path = refl; move = tt; first = x; may = h; said = refl; quiet = refl }
