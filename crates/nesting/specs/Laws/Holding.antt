-- What stays shown while flags, frames and labels are written.
use Rattle.std.specs.Prelude.{ℕ, min, ◌+◌, ◌*◌, ◌<◌, ◌≤◌, ◌≡◌, refl, Bool, true, false, cond, not, ◌||◌, ◌&&◌, List, [], ◌∷◌, ◌++◌, eqb, length, Some, None}
use Rattle.std.proofs.Common.{sym, ap, ap₂, ◌∙◌, subst, append-nil, arith, eq-eqb, ne_eqb}
use Rattle.std.proofs.lemmas.Bool.{false≢true}
use Rattle.std.proofs.Math.Bool.{and-false}
use Rattle.std.proofs.Math.Decide.{ℕ_discrete}
use Rattle.cells.specs.Cells.{cell, put_cell}
use Rattle.cells.proofs.Laws.{put_size, put_same, put_here}
use Rattle.rules.specs.Limits.{most_tokens}
use Rattle.records.specs.Holds.{link_cell}
use Rattle.paths.specs.Cited.Marks.{Marks, Slot, marked, cleared, added}
use Rattle.paths.specs.Cited.Least.{least}
use Rattle.paths.proofs.Least.{least_append}
use Rattle.nesting.specs.Machine.{Frame, Dest, parts, part, State, reached, transferred, destined, looped, chosen}
use Rattle.nesting.specs.Holding.{unseen, bit, Book, Linked, unlinked, linked, Still, LabelPut, FrameAt, Frames, no_frames, frames, Flagged, dest_of, low_behind, Shows, Does, Set}
use Rattle.room.specs.Profile.{frame_cell, label_cell, hints_from, hint_cell, most_flags, labels_from, room_size}
use Rattle.nesting.specs.Grouping.{nest}
use Rattle.nesting.specs.declared.nests.Destination.{Destination}
use Rattle.nesting.specs.declared.nests.Nest.{Nest}

pub bit_test : (b : Bool) → eqb (bit b) 1 ≡ b
bit_test true = refl
bit_test false = refl

pub put_set : {old new : List ℕ} {k : ℕ} {b : Bool} → new ≡ put_cell 2 old k 1 → 2 * k + 2 ≤ length old → b ≡ true → Set old new k b
put_set {old} {new} {k} put h t = record {
  size = put_size 2 old new k 1 put;
  is = λ q. put_here 2 old new k 1 put h (omega arith);
  same = λ j n. put_same 2 old new k 1 put j (λ z. n z t);
}

pub set_none : {old : List ℕ} {k : ℕ} {b : Bool} → b ≡ false → Set old old k b
set_none f = record { size = refl; is = λ t. absurd (false≢true (sym f ∙ t)); same = λ j n. refl }

still_lower : {old new : List ℕ} {top p : ℕ} → Still old new top → p ≤ top → Still old new p
still_lower s h = record { cells = λ q a b. s.cells q a (omega arith); hints = λ m c a b d. s.hints m c (omega arith) b d }

still_all : {old new : List ℕ} → ((q : ℕ) → labels_from ≤ q → cell 2 new q ≡ cell 2 old q) → (top : ℕ) → Still old new top
still_all s top = record { cells = λ q a b. s q a; hints = λ m c a b d. rw (s c (omega arith)) d }

pub linked_still : {ts : Book} {old new : List ℕ} {top p : ℕ} {ls : List Slot} → Still old new top → p ≤ top → Linked ts old p ls → Linked ts new p ls
linked_still s h unlinked = unlinked
linked_still s h (linked {p} {l} n w f k q r) =
    let e = s.cells (label_cell p) (omega arith) (omega arith) in
    linked {p = p} {l = l} (rw e n) (rw e w) (s.cells (label_cell p + 1) (omega arith) (omega arith) ∙ f) k (rw e (s.hints p _ (omega arith) (omega arith) q))
    (linked_still s (omega arith) r)

pub linked_kept : {ts : Book} {old new : List ℕ} {p : ℕ} {ls : List Slot} → ((q : ℕ) → labels_from ≤ q → cell 2 new q ≡ cell 2 old q) → Linked ts old p ls → Linked ts new p ls
linked_kept {p = p} s l = linked_still (still_all s p) (omega arith) l

frame_still : {ts : Book} {old new : List ℕ} {top j : ℕ} {f : Frame} → ((q : ℕ) → frame_cell j ≤ q → q < frame_cell j + 6 → cell 2 new q ≡ cell 2 old q)
    → Still old new top → FrameAt ts old top j f → FrameAt ts new top j f
frame_still {ts} {old} {new} {top} {j} {f} s l x = record {
  below = rw (s (frame_cell j) (omega arith) (omega arith)) x.below;
  labels = subst (λ q. Linked ts new q f.labels) (sym (s (frame_cell j) (omega arith) (omega arith))) (linked_still l x.below x.labels);
  flag = s (frame_cell j + 1) (omega arith) (omega arith) ∙ x.flag;
  flag_low = x.flag_low;
  own = s (frame_cell j + 2) (omega arith) (omega arith) ∙ x.own;
  own_low = x.own_low;
  comes = s (frame_cell j + 3) (omega arith) (omega arith) ∙ x.comes;
  ended = s (frame_cell j + 4) (omega arith) (omega arith) ∙ x.ended;
  group = s (frame_cell j + 5) (omega arith) (omega arith) ∙ x.group;
}

pub frames_still : {ts : Book} {old new : List ℕ} {top : ℕ} {fs : List Frame} → ((q : ℕ) → most_flags ≤ q → q < frame_cell (length fs) → cell 2 new q ≡ cell 2 old q)
    → Still old new top → Frames ts old top fs → Frames ts new top fs
frames_still s l no_frames = no_frames
frames_still {ts} {new = new} s l (frames {fs = fs} x r) =
    frames {fs = fs} (frame_still (λ q a b. s q (omega arith) (omega arith)) l x)
    (subst (λ p. Frames ts new p fs) (sym (s (frame_cell (length fs)) (omega arith) (omega arith)))
    (frames_still (λ q a b. s q a (omega arith)) (still_lower l x.below) r))

pub frames_kept : {ts : Book} {old new : List ℕ} {top : ℕ} {fs : List Frame} → ((q : ℕ) → most_flags ≤ q → q < frame_cell (length fs) → cell 2 new q ≡ cell 2 old q)
    → ((q : ℕ) → labels_from ≤ q → cell 2 new q ≡ cell 2 old q) → Frames ts old top fs → Frames ts new top fs
frames_kept {top = top} s l f = frames_still s (still_all l top) f

-- with more labels around what is inside it
pub frame_later : {ts : Book} {room : List ℕ} {top j : ℕ} {f : Frame} (more : ℕ) → cell 2 room (frame_cell j) ≤ more → FrameAt ts room top j f → FrameAt ts room more j f
frame_later more h a = record {
  below = h;
  labels = a.labels;
  flag = a.flag;
  flag_low = a.flag_low;
  own = a.own;
  own_low = a.own_low;
  comes = a.comes;
  ended = a.ended;
  group = a.group;
}

pub frames_later : {ts : Book} {room : List ℕ} {top : ℕ} {fs : List Frame} (more : ℕ) → top ≤ more → Frames ts room top fs → Frames ts room more fs
frames_later more h no_frames = no_frames
frames_later more h (frames {fs = fs} a r) = let b = a.below in frames {fs = fs} (frame_later more (omega arith) a) r

-- a label and its hint are put
pub label_put : (records : List ℕ) {old x y new : List ℕ} {j i flag hint : ℕ} → room_size ≤ length old → j < most_tokens → i < most_tokens → flag < 65536
    → hint ≡ hint_cell (link_cell records i) → hints_from ≤ hint → 2 * hint + 2 ≤ room_size → x ≡ put_cell 2 old (label_cell j) i → y ≡ put_cell 2 x (label_cell j + 1) flag
    → new ≡ put_cell 2 y hint j → LabelPut records old new j i flag
label_put records {old} {x} {y} {new} {j} {i} {flag} {hint} room few fits low is from end px py pn = record {
  size = zn ∙ (zy ∙ zx);
  low = λ q l. others q (λ e. omega arith) (λ e. omega arith) (λ e. omega arith);
  still = record {
    cells = λ q a b. others q (λ e. omega arith) (λ e. omega arith) (λ e. omega arith);
    hints = λ m c a b d. by m c a d (ℕ_discrete c hint) (λ e. others c (λ o. omega arith) (λ o. omega arith) e);
  };
  token = sn (label_cell j) (λ e. omega arith) ∙ (sy (label_cell j) (λ e. omega arith) ∙ put_here 2 old x (label_cell j) i px (omega arith) (omega arith));
  flag_is = sn (label_cell j + 1) (λ e. omega arith) ∙ put_here 2 x y (label_cell j + 1) flag py (omega (arith, zx)) low;
  hint = ap (cell 2 new) (sym is) ∙ there;
}
  where
    zx : length x ≡ length old
    zx = put_size 2 old x (label_cell j) i px

    zy : length y ≡ length x
    zy = put_size 2 x y (label_cell j + 1) flag py

    zn : length new ≡ length y
    zn = put_size 2 y new hint j pn

    sn : (q : ℕ) → (q ≡ hint → ⊥) → cell 2 new q ≡ cell 2 y q
    sn = put_same 2 y new hint j pn

    sy : (q : ℕ) → (q ≡ label_cell j + 1 → ⊥) → cell 2 y q ≡ cell 2 x q
    sy = put_same 2 x y (label_cell j + 1) flag py

    others : (q : ℕ) → (q ≡ label_cell j → ⊥) → (q ≡ label_cell j + 1 → ⊥) → (q ≡ hint → ⊥) → cell 2 new q ≡ cell 2 old q
    others q a b c = sn q c ∙ (sy q b ∙ put_same 2 old x (label_cell j) i px q a)

    there : cell 2 new hint ≡ j
    there = put_here 2 y new hint j pn (omega (arith, zx, zy)) (omega arith)

    by : (m c : ℕ) → m < j → m ≤ cell 2 old c → Dec (c ≡ hint) → ((c ≡ hint → ⊥) → cell 2 new c ≡ cell 2 old c) → m ≤ cell 2 new c
    by m c l d (yes e) f = omega (arith, there, ap (cell 2 new) e)
    by m c l d (no e) f = omega (arith, f e)

-- the flags
pub flagged_set : {old new : List ℕ} {w : Marks} {k : ℕ} {b : Bool} → Set old new k b → Flagged old w → Flagged new (marked k b w)
flagged_set {old} {new} {w} {k} {b} s f = record { at = λ j h. by j h b refl (ℕ_discrete j k) }
  where
    by : (j : ℕ) → j < most_flags → (c : Bool) → b ≡ c → Dec (j ≡ k) → cell 2 new j ≡ bit ((eqb j k && b) || w.flags j)
    by j h false e d =
        s.same j (λ z t. false≢true (sym e ∙ t)) ∙ (f.at j h ∙ ap bit (sym (ap (λ c. c || w.flags j) (ap (λ c. eqb j k && c) e ∙ and-false (eqb j k)))))
    by j h true e (yes z) = ap (cell 2 new) z ∙ (s.is e ∙ ap bit (sym (ap (λ c. c || w.flags j) (ap (λ c. c && b) (eq-eqb j k z) ∙ e))))
    by j h true e (no n) = s.same j (λ z t. n z) ∙ (f.at j h ∙ ap bit (sym (ap (λ c. (c && b) || w.flags j) (ne_eqb j k n))))

pub flagged_cleared : {old new : List ℕ} {w : Marks} (k : ℕ) → 2 * k + 2 ≤ length old → new ≡ put_cell 2 old k 0 → Flagged old w → Flagged new (cleared k w)
flagged_cleared {old} {new} {w} k room put f = record { at = λ j h. by j h (ℕ_discrete j k) }
  where
    by : (j : ℕ) → j < most_flags → Dec (j ≡ k) → cell 2 new j ≡ bit (not (eqb j k) && w.flags j)
    by j h (yes z) = ap (cell 2 new) z ∙ (put_here 2 old new k 0 put room (omega arith) ∙ ap bit (sym (ap (λ c. not c && w.flags j) (eq-eqb j k z))))
    by j h (no n) = put_same 2 old new k 0 put j n ∙ (f.at j h ∙ ap bit (sym (ap (λ c. not c && w.flags j) (ne_eqb j k n))))

pub flagged_kept : {old new : List ℕ} {w : Marks} → ((j : ℕ) → j < most_flags → cell 2 new j ≡ cell 2 old j) → Flagged old w → Flagged new w
flagged_kept s f = record { at = λ j h. s j h ∙ f.at j h }

-- a flag set, and a place more: all else is shown as before
module _ {ts : Book} {old : List ℕ} {i : ℕ} {x : Nest} {z : State} (s : Shows ts old i x z) where
  module _ {new : List ℕ} {k : ℕ} {b : Bool} (set : Set old new k b) (low : k < most_flags) where
    high : (j : ℕ) → most_flags ≤ j → cell 2 new j ≡ cell 2 old j
    high j h = set.same j (λ e t. omega arith)

    pub set_frames : Frames ts new x.label z.frames
    set_frames = frames_kept (λ q a c. high q a) (λ q a. high q (omega arith)) s.frames

    pub set_labels : Linked ts new x.label z.labels
    set_labels = linked_kept (λ q a. high q (omega arith)) s.labels

-- the state shown, with parts replaced
pub reach_shown : {old new : List ℕ} {x : Nest} → Set old new x.flag x.comes → Does (λ z. reached z z.marks) old x new x
reach_shown {old} {new} {x} set ts i z s = record {
  space = omega (arith, s.space, set.size);
  few = s.few;
  label_low = s.label_low;
  depth_is = s.depth_is;
  shallow = s.shallow;
  free_is = s.free_is;
  free_low = s.free_low;
  labels = set_labels s set s.flag_low;
  flag_is = s.flag_is;
  flag_low = s.flag_low;
  comes_is = s.comes_is;
  choosing_is = s.choosing_is;
  dest_is = s.dest_is;
  place_low = s.place_low;
  low_is = s.low_is;
  frames = set_frames s set s.flag_low;
  flags = let g : Flagged new (marked x.flag x.comes z.marks) = flagged_set set s.flags in subst (λ k. Flagged new (marked k z.comes z.marks)) s.flag_is (subst (λ b. Flagged new (marked x.flag b z.marks)) s.comes_is g);
}

-- a place more, if b
pub lower : (l p : ℕ) (ps : List ℕ) (b c : Bool) → l ≡ least unseen ps → (p < unseen) → cond (b && c) (min l p) l ≡ least unseen (ps ++ cond b (cond c (p ∷ []) []) [])
lower l p ps true true e h = omega (arith, least_append unseen ps (p ∷ []))
lower l p ps true false e h = e ∙ ap (least unseen) (sym (append-nil ps))
lower l p ps false c e h = e ∙ ap (least unseen) (sym (append-nil ps))

pub transfer_shown : {old new : List ℕ} {x : Nest} {low : ℕ} → low ≡ low_behind x
    → Set old new x.flag x.comes
    → Does transferred old x new (nest x.depth x.free x.label x.flag x.comes x.choosing None low)
transfer_shown {old} {new} {x} e set ts i z s = record {
  space = omega (arith, s.space, set.size);
  few = s.few;
  label_low = s.label_low;
  depth_is = s.depth_is;
  shallow = s.shallow;
  free_is = s.free_is;
  free_low = s.free_low;
  labels = set_labels s set s.flag_low;
  flag_is = s.flag_is;
  flag_low = s.flag_low;
  comes_is = s.comes_is;
  choosing_is = s.choosing_is;
  dest_is = refl;
  place_low = omega arith;
  low_is =
      e ∙ (lower x.low (dest_of x.destination).place z.marks.places x.comes (dest_of x.destination).hit s.low_is s.place_low
      ∙ ap₂ (λ (b : Bool) (d : Dest). least unseen (z.marks.places ++ cond b (cond d.hit (d.place ∷ []) []) [])) s.comes_is s.dest_is);
  frames = set_frames s set s.flag_low;
  flags =
      let w = added (cond z.comes (cond z.dest.hit (z.dest.place ∷ []) []) []) z.marks in
      let f : Flagged old w = record { at = s.flags.at } in
      let g : Flagged new (marked x.flag x.comes w) = flagged_set set f in
      subst (λ k. Flagged new (marked k z.comes w)) s.flag_is (subst (λ b. Flagged new (marked x.flag b w)) s.comes_is g);
}

-- nothing is written
module _ (room : List ℕ) (x : Nest) where
  pub looped_shown : Does looped room x room (nest x.depth x.free x.label 0 x.comes x.choosing x.destination x.low)
  looped_shown ts i z s = record {
    space = s.space;
    few = s.few;
    label_low = s.label_low;
    depth_is = s.depth_is;
    shallow = s.shallow;
    free_is = s.free_is;
    free_low = s.free_low;
    labels = s.labels;
    flag_is = refl;
    flag_low = omega arith;
    comes_is = s.comes_is;
    choosing_is = s.choosing_is;
    dest_is = s.dest_is;
    place_low = s.place_low;
    low_is = s.low_is;
    frames = s.frames;
    flags = s.flags;
  }

  pub chosen_shown : (c : Bool) → Does (chosen c) room x room (nest x.depth x.free x.label x.flag x.comes c x.destination x.low)
  chosen_shown c ts i z s = record {
    space = s.space;
    few = s.few;
    label_low = s.label_low;
    depth_is = s.depth_is;
    shallow = s.shallow;
    free_is = s.free_is;
    free_low = s.free_low;
    labels = s.labels;
    flag_is = s.flag_is;
    flag_low = s.flag_low;
    comes_is = s.comes_is;
    choosing_is = refl;
    dest_is = s.dest_is;
    place_low = s.place_low;
    low_is = s.low_is;
    frames = s.frames;
    flags = s.flags;
  }

  module _ (p : ℕ) (h : Bool) (low : p < unseen) where
    pub part_shown : (d : Destination) → dest_of (Some d) ≡ part (dest_of x.destination) p h → d.place < unseen → Does (destined p h) room x room
        (nest x.depth x.free x.label x.flag x.comes x.choosing (Some d) x.low)
    part_shown d e l ts i z s = record {
      space = s.space;
      few = s.few;
      label_low = s.label_low;
      depth_is = s.depth_is;
      shallow = s.shallow;
      free_is = s.free_is;
      free_low = s.free_low;
      labels = s.labels;
      flag_is = s.flag_is;
      flag_low = s.flag_low;
      comes_is = s.comes_is;
      choosing_is = s.choosing_is;
      dest_is = e ∙ ap (λ (y : Dest). part y p h) s.dest_is;
      place_low = l;
      low_is = s.low_is;
      frames = s.frames;
      flags = s.flags;
    }

    pub part_later : {d : Destination} → x.destination ≡ Some d → {t : Bool} → t ≡ (d.hit || h) → Does (destined p h) room x room
        (nest x.depth x.free x.label x.flag x.comes x.choosing (Some (record { place = d.place; hit = t })) x.low)
    part_later {d} e {t} f ts i z s =
        part_shown (record { place = d.place; hit = t }) (ap (parts d.place) f ∙ ap (λ o. part (dest_of o) p h) (sym e))
        (subst (λ o. (dest_of o).place < unseen) e s.place_low) ts i z s

    pub part_first : x.destination ≡ None → Does (destined p h) room x room
        (nest x.depth x.free x.label x.flag x.comes x.choosing (Some (record { place = p; hit = h })) x.low)
    part_first e ts i z s = part_shown (record { place = p; hit = h }) (ap (λ o. part (dest_of o) p h) (sym e)) low ts i z s

-- the lowest place
pub low_unwritten : (x : Nest) → x.destination ≡ None → x.low ≡ low_behind x
low_unwritten x e = subst (λ o. x.low ≡ cond (x.comes && (dest_of o).hit) (min x.low (dest_of o).place) x.low) (sym e) (ap (λ b. cond b (min x.low 0) x.low) (sym (and-false x.comes)))

pub low_written : (x : Nest) {d : Destination} {b : Bool} {r : ℕ} → x.destination ≡ Some d → b ≡ (x.comes && d.hit) → r ≡ cond b (min x.low d.place) x.low → r ≡ low_behind x
low_written x {d} e f q =
    q ∙ (ap (λ b. cond b (min x.low d.place) x.low) f ∙ ap (λ o. cond (x.comes && (dest_of o).hit) (min x.low (dest_of o).place) x.low) (sym e))

pub lower_taken : (low place r : ℕ) (b : Bool) → b ≡ true → r ≡ min low place → r ≡ cond b (min low place) low
lower_taken low place r b e h = rw e h
