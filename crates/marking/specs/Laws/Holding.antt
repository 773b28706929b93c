-- What is shown while frames are written.
use Rattle.std.specs.Prelude.{ℕ, zero, suc, ◌+◌, ◌*◌, ◌-◌, ◌<◌, ◌≤◌, ◌≡◌, refl, Bool, true, false, List, [], ◌∷◌, ltb, length}
use Rattle.std.proofs.Common.{sym, ap, ◌∙◌, subst, arith, lt-ltb, le-ltb}
use Rattle.cells.specs.Cells.{cell, put_cell}
use Rattle.cells.proofs.Laws.{length_put, le_put_same, le_put_below}
use Rattle.rules.specs.Limits.{deepest, most_tokens}
use Rattle.telling.specs.Cited.Cells.{inner}
use Rattle.marking.specs.Machine.{Frame, frame, State, inside, ranked, begun, opened, closed, also, next}
use Rattle.marking.specs.Holding.{Paired, nest, within, Enters, enough, FrameAt, Frames, no_frames, frames, Shows, Standing, Does}
use Rattle.marking.specs.declared.frames.Nest.{Nest}

pub pair_put : {old mid new : List ℕ} {k x y : ℕ} → 4 * k + 4 ≤ length old → x < 65536 → y < 65536 → mid ≡ put_cell 2 old (2 * k) x → new ≡ put_cell 2 mid (2 * k + 1) y
    → Paired old new k x y
pair_put {old} {mid} {new} {k} {x} {y} room h l p q =
    let size : length mid ≡ length old = ap length p ∙ length_put 2 old (2 * (2 * k)) x in
    record {
      size = ap length q ∙ (length_put 2 mid (2 * (2 * k + 1)) y ∙ size);
      first =
          ap (λ b. cell 2 b (2 * k)) q
          ∙ (le_put_below 2 2 mid (2 * (2 * k + 1)) y (2 * (2 * k)) (omega arith)
          ∙ (ap (λ b. cell 2 b (2 * k)) p ∙ le_put_same 2 old (2 * (2 * k)) x (omega arith) (omega arith)));
      second = ap (λ b. cell 2 b (2 * k + 1)) q ∙ le_put_same 2 mid (2 * (2 * k + 1)) y (omega (arith, size)) (omega arith);
      kept = λ j m.
          ap (λ b. cell 2 b j) q
          ∙ (le_put_below 2 2 mid (2 * (2 * k + 1)) y (2 * j) (omega arith)
          ∙ (ap (λ b. cell 2 b j) p ∙ le_put_below 2 2 old (2 * (2 * k)) x (2 * j) (omega arith)));
    }

-- in front of an action of a block
module _ {d o j p : ℕ} {b : Bool} where
  pub enters_followed : b ≡ true → Enters d o j p b (nest d p (2 * j + 1) o)
  enters_followed e = subst (λ c. Enters d o j p c (nest d p (2 * j + 1) o)) (sym e) (by j)
    where
      by : (j : ℕ) → Enters d o j p true (nest d p (2 * j + 1) o)
      by zero = record { depth_is = refl; around_is = refl; rank_is = refl; up_is = refl }
      by (suc j) = record { depth_is = refl; around_is = refl; rank_is = omega arith; up_is = refl }

  pub enters_alone : {r : Nest} → b ≡ false → j ≡ 0 → r ≡ within d o → Enters d o j p b r
  enters_alone {r} e z is =
      subst (λ c. Enters d o j p c r) (sym e) (subst (λ k. Enters d o k p false r) (sym z) (subst (Enters d o 0 p false) (sym is)
      (record { depth_is = refl; around_is = refl; rank_is = refl; up_is = refl })))

  pub enters_last : b ≡ false → (j ≡ 0 → ⊥) → Enters d o j p b (nest d p (2 * j + 2) o)
  enters_last e h = subst (λ c. Enters d o j p c (nest d p (2 * j + 2) o)) (sym e) (by j h)
    where
      by : (j : ℕ) → (j ≡ 0 → ⊥) → Enters d o j p false (nest d p (2 * j + 2) o)
      by zero h = absurd (h refl)
      by (suc j) h = record { depth_is = refl; around_is = refl; rank_is = omega arith; up_is = refl }

inner_low : (o p j : ℕ) (b : Bool) → o < 65536 → p < 65536 → inner o p j b < 65536
inner_low o p zero false h l = h
inner_low o p zero true h l = l
inner_low o p (suc j) b h l = l

ranked_low : (j : ℕ) (b : Bool) → ranked j b ≤ 2 * j + 2
ranked_low zero false = omega arith
ranked_low zero true = omega arith
ranked_low (suc j) true = omega arith
ranked_low (suc j) false = omega arith

-- frames stay, one token on
frames_kept : {old new : List ℕ} {i : ℕ} {fs : List Frame} → ((q : ℕ) → q < 2 * length fs → cell 2 new q ≡ cell 2 old q) → Frames old i fs → Frames new (i + 1) fs
frames_kept s no_frames = no_frames
frames_kept s (frames {fs = fs} a r) =
    frames (record {
      outer = s (2 * length fs) (omega arith) ∙ a.outer;
      outer_low = a.outer_low;
      before = s (2 * length fs + 1) (omega arith) ∙ a.before;
      before_low = omega (arith, a.before_low);
    }) (frames_kept (λ q h. s q (omega arith)) r)

frames_later : {room : List ℕ} {i : ℕ} {fs : List Frame} → Frames room i fs → Frames room (i + 1) fs
frames_later = frames_kept (λ q h. refl)

-- an action begins behind the token i, in the frame number k
abbrev Begins : ℕ → ℕ → ℕ → ℕ → Bool → List ℕ → List ℕ → Nest → Type 0
Begins i k o j b old new r = (fs : List Frame) → k ≡ length fs → Frames old i fs → Shows new (i + 1) r (begun (i + 1) b (frame o j) fs)

-- its frame is written
pub begin_shown : {old new : List ℕ} {k o j i : ℕ} {b : Bool} {r : Nest} → k < deepest → enough ≤ length old → o < 65536 → j ≤ i + 1 → i < most_tokens → Paired old new k o j
    → Enters (k + 1) o j (i + 1) b r → Begins i k o j b old new r
begin_shown {old} {new} {k} {o} {j} {i} {b} h space low few l put e fs is there = record {
  space = omega (arith, put.size);
  depth_is = omega (arith, e.depth_is);
  shallow = omega (arith, e.depth_is);
  around_is = e.around_is;
  around_low = omega (arith, e.around_is, inner_low o (i + 1) j b low (omega arith));
  rank_is = e.rank_is;
  rank_low = omega (arith, e.rank_is, ranked_low j b);
  up_is = e.up_is;
  up_low = omega (arith, e.up_is);
  frames =
      frames (record {
        outer = ap (λ q. cell 2 new (2 * q)) (sym is) ∙ put.first;
        outer_low = low;
        before = ap (λ q. cell 2 new (2 * q + 1)) (sym is) ∙ put.second;
        before_low = few;
      }) (frames_kept (λ q m. put.kept q (omega arith)) there);
}

-- nothing is written, and no member begins
inside_shown : {room : List ℕ} {i d x y : ℕ} {r : Nest} (fs : List Frame) → r ≡ within d x → enough ≤ length room → d ≡ length fs → d ≤ deepest → x ≡ y → x < 65536
    → Frames room i fs → Shows room (i + 1) r (inside fs y)
inside_shown {room} {i} {d} {x} {y} fs e space deep shallow is low there =
    subst (λ q. Shows room (i + 1) q (inside fs y)) (sym e)
    (record {
      space = space;
      depth_is = deep;
      shallow = shallow;
      around_is = is;
      around_low = low;
      rank_is = refl;
      rank_low = omega arith;
      up_is = is;
      up_low = low;
      frames = frames_later there;
    })

-- a token that is no bracket or separator
pub other_shown : {room : List ℕ} {i : ℕ} {x r : Nest} → r ≡ within x.depth x.around → Does i (λ z. inside z.frames z.around) room x room r
other_shown e z s = inside_shown z.frames e s.space s.depth_is s.shallow s.around_is s.around_low s.frames

-- BEGIN
abbrev Opens : ℕ → Bool → List ℕ → Nest → List ℕ → Nest → Type 0
Opens i b old x new y = Does i (λ z. opened (ltb (length z.frames) deepest) (i + 1) b z) old x new y

module _ {i : ℕ} (b : Bool) where
  pub too_deep : {room : List ℕ} {x r : Nest} → 32 ≤ x.depth → r ≡ within x.depth x.around → Opens i b room x room r
  too_deep {room} {x} {r} h e z s =
      subst (λ c. Shows room (i + 1) r (opened c (i + 1) b z)) (sym (le-ltb (length z.frames) deepest (omega (arith, s.depth_is)))) (other_shown {x = x} e z s)

  pub open_shown : {old new : List ℕ} {x r : Nest} → x.depth < 32 → Begins i x.depth x.around 0 b old new r → Opens i b old x new r
  open_shown {old} {new} {x} {r} h begins z s =
      subst (λ c. Shows new (i + 1) r (opened c (i + 1) b z)) (sym (lt-ltb (length z.frames) deepest (omega (arith, s.depth_is))))
      (subst (λ y. Shows new (i + 1) r (begun (i + 1) b (frame y 0) z.frames)) s.around_is (begins z.frames s.depth_is s.frames))

none_there : (fs : List Frame) → length fs ≡ 0 → fs ≡ []
none_there [] e = refl
none_there (f ∷ fs) e = absurd (omega arith)

-- where nothing is open, brackets and separators do nothing
pub none_shown : (g : List Frame → State → State) → ((z : State) → g [] z ≡ inside [] z.around) → {room : List ℕ} {i : ℕ} {x r : Nest} → x.depth ≡ 0
    → r ≡ within 0 x.around → Does i (λ z. g z.frames z) room x room r
none_shown g same {room} {i} {x} {r} h e z s =
    let none = none_there z.frames (sym s.depth_is ∙ h) in
    subst (λ fs. Shows room (i + 1) r (g fs z)) (sym none)
    (subst (Shows room (i + 1) r) (sym (same z)) (inside_shown [] e s.space refl (omega arith) s.around_is s.around_low no_frames))

-- the innermost frame, as it is read
record Top (room : List ℕ) (i : ℕ) (x : Nest) (z : State) : Type 0 where
  frame_is : Frame
  others : List Frame
  is : z.frames ≡ frame_is ∷ others
  there : FrameAt room i (length others) frame_is
  rest : Frames room i others
  number : x.depth - 1 ≡ length others
  low : x.depth - 1 < deepest

top : {room : List ℕ} {i : ℕ} {x : Nest} {z : State} → Shows room i x z → (x.depth ≡ 0 → ⊥) → Top room i x z
top {room} {i} {x} {z} s n = by z.frames refl s.frames
  where
    by : (fs : List Frame) → z.frames ≡ fs → Frames room i fs → Top room i x z
    by fs e no_frames = absurd (n (s.depth_is ∙ ap length e))
    by fs e (frames {f = f} {fs = others} a r) =
        let size : x.depth ≡ suc (length others) = s.depth_is ∙ ap length e in
        record { frame_is = f; others = others; is = e; there = a; rest = r; number = omega arith; low = omega (arith, s.shallow) }

module _ {room : List ℕ} {i : ℕ} {x : Nest} (n : x.depth ≡ 0 → ⊥) {o : ℕ} (at_outer : o ≡ cell 2 room (2 * (x.depth - 1))) where
  outer_is : {z : State} (y : Top room i x z) → o ≡ y.frame_is.outer
  outer_is y = at_outer ∙ (ap (λ q. cell 2 room (2 * q)) y.number ∙ y.there.outer)

  pub outer_low : Standing room i x → o < 65536
  outer_low (z, s) = let y = top s n in omega (arith, outer_is y, y.there.outer_low)

  -- END
  pub close_shown : {r : Nest} → r ≡ within (x.depth - 1) o → Does i (λ z. closed z.frames z) room x room r
  close_shown {r} e z s =
      let y = top s n in
      subst (λ fs. Shows room (i + 1) r (closed fs z)) (sym y.is)
      (inside_shown y.others e s.space y.number (omega (arith, y.low)) (outer_is y) (omega (arith, outer_is y, y.there.outer_low)) y.rest)

  -- NEXT
  pub next_shown : {new : List ℕ} (b : Bool) {j : ℕ} {r : Nest} → j ≡ 0 → Begins i (x.depth - 1) o j b room new r → Does i (λ z. next z.frames (i + 1) b z) room x new r
  next_shown {new} b {j} {r} none begins z s =
      let y = top s n in
      subst (λ fs. Shows new (i + 1) r (next fs (i + 1) b z)) (sym y.is)
      (subst (λ q. Shows new (i + 1) r (begun (i + 1) b (frame q 0) y.others)) (outer_is y)
      (subst (λ q. Shows new (i + 1) r (begun (i + 1) b (frame o q) y.others)) none (begins y.others y.number y.rest)))

  module _ {j : ℕ} (at_before : j ≡ cell 2 room (2 * (x.depth - 1) + 1)) where
    before_is : {z : State} (y : Top room i x z) → j ≡ y.frame_is.before
    before_is y = at_before ∙ (ap (λ q. cell 2 room (2 * q + 1)) y.number ∙ y.there.before)

    pub one_more_low : Standing room i x → j + 1 ≤ i + 1
    one_more_low (z, s) = let y = top s n in omega (arith, before_is y, y.there.before_low)

    -- `;`
    pub also_shown : {new : List ℕ} (b : Bool) {r : Nest} → Begins i (x.depth - 1) o (j + 1) b room new r → Does i (λ z. also z.frames (i + 1) b z) room x new r
    also_shown {new} b {r} begins z s =
        let y = top s n in
        let count : j + 1 ≡ suc y.frame_is.before = omega (arith, before_is y) in
        subst (λ fs. Shows new (i + 1) r (also fs (i + 1) b z)) (sym y.is)
        (subst (λ q. Shows new (i + 1) r (begun (i + 1) b (frame q (suc y.frame_is.before)) y.others)) (outer_is y)
        (subst (λ q. Shows new (i + 1) r (begun (i + 1) b (frame o q) y.others)) count (begins y.others y.number y.rest)))
