-- What BEGIN, END, `;`, NEXT and `,` do to the frames.
use Rattle.std.specs.Prelude.{ℕ, suc, ◌+◌, ◌*◌, ◌-◌, ◌<◌, ◌≤◌, ◌≡◌, refl, Bool, true, false, cond, not, ◌&&◌, List, [], ◌∷◌, ◌⊎◌, eqb, ltb, length, None}
use Rattle.std.proofs.Common.{sym, ap, ap₂, ◌∙◌, subst, inl, inr, arith, add-one, lt-ltb, le-ltb}
use Rattle.std.proofs.lemmas.Bool.{false≢true}
use Rattle.cells.specs.Cells.{cell, put_cell}
use Rattle.cells.proofs.Laws.{put_size, put_same, put_here}
use Rattle.rules.specs.Limits.{deepest}
use Rattle.paths.specs.Cited.Least.{least}
use Rattle.paths.specs.Cited.Marks.{Marks, marked, cleared}
use Rattle.nesting.specs.Machine.{Frame, frame, State, state, settled, idle, begun, opened, closed, also, next, another}
use Rattle.nesting.specs.Holding.{unseen, bit, Book, Linked, unlinked, FrameAt, Frames, no_frames, frames, Flagged, Shows, Standing, Does, Set, Taken, Top, Pushed}
use Rattle.room.specs.Profile.{frame_cell, most_flags, labels_from, room_size}
use Rattle.nesting.specs.Grouping.{nest, kept, settle, enter, Three, Resuming, Resumed}
use Rattle.nesting.specs.Laws.Holding.{bit_test, linked_kept, frames_kept, frame_later, flagged_set, flagged_cleared, flagged_kept}
use Rattle.nesting.specs.declared.nests.Nest.{Nest}
use Rattle.nesting.specs.declared.frames.Frame.{Frame as Kept-frame}

pub three_put : {old x y new : List ℕ} {at a b c : ℕ} → 2 * at + 6 ≤ length old → a < 65536 → b < 65536 → c < 65536 → x ≡ put_cell 2 old at a → y ≡ put_cell 2 x (at + 1) b
    → new ≡ put_cell 2 y (at + 2) c → Three old new at a b c
three_put {old} {x} {y} {new} {at} {a} {b} {c} h fa fb fc px py pn =
    let zx = put_size 2 old x at a px in
    let zy = put_size 2 x y (at + 1) b py in
    let zn = put_size 2 y new (at + 2) c pn in
    let sx : (k : ℕ) → (k ≡ at → ⊥) → cell 2 x k ≡ cell 2 old k = put_same 2 old x at a px in
    let sy : (k : ℕ) → (k ≡ at + 1 → ⊥) → cell 2 y k ≡ cell 2 x k = put_same 2 x y (at + 1) b py in
    let sn : (k : ℕ) → (k ≡ at + 2 → ⊥) → cell 2 new k ≡ cell 2 y k = put_same 2 y new (at + 2) c pn in
    record {
      kept = record {
        size = zn ∙ (zy ∙ zx);
        same = λ k n. sn k (λ z. n (omega arith) (omega arith)) ∙ (sy k (λ z. n (omega arith) (omega arith)) ∙ sx k (λ z. n (omega arith) (omega arith)));
      };
      first = sn at (λ z. omega arith) ∙ (sy at (λ z. omega arith) ∙ put_here 2 old x at a px (omega arith) fa);
      second = sn (at + 1) (λ z. omega arith) ∙ put_here 2 x y (at + 1) b py (omega arith) fb;
      third = put_here 2 y new (at + 2) c pn (omega arith) fc;
    }

pub six_put : {old mid new : List ℕ} {j u v w : ℕ} {f : Kept-frame} → Three old mid (frame_cell j) f.label f.flag f.own → Three mid new (frame_cell j + 3) u v w
    → u ≡ bit f.comes → v ≡ bit f.ended → w ≡ bit f.group → Pushed old new j f
six_put {old} {mid} {new} {j} a b e g h = record {
  kept = record {
    size = b.kept.size ∙ a.kept.size;
    same = λ k n. b.kept.same k (λ p q. n (omega arith) (omega arith)) ∙ a.kept.same k (λ p q. n (omega arith) (omega arith));
  };
  label = b.kept.same (frame_cell j) (λ p q. omega arith) ∙ a.first;
  flag = b.kept.same (frame_cell j + 1) (λ p q. omega arith) ∙ a.second;
  own = b.kept.same (frame_cell j + 2) (λ p q. omega arith) ∙ a.third;
  comes = b.first ∙ e;
  ended = ap (cell 2 new) (omega arith) ∙ (b.second ∙ g);
  group = ap (cell 2 new) (omega arith) ∙ (b.third ∙ h);
}

-- the innermost frame, as it is read
record Inner (ts : Book) (room : List ℕ) (i : ℕ) (x : Nest) (z : State) (f : Kept-frame) : Type 0 where
  frame_is : Frame
  others : List Frame
  is : z.frames ≡ frame_is ∷ others
  rest : Frames ts room f.label others
  itself : Frames ts room f.label (frame_is ∷ others)
  below : f.label ≤ x.label
  size : x.depth ≡ suc (length others)
  labels : Linked ts room f.label frame_is.labels
  flag : f.flag ≡ frame_is.flag
  flag_low : f.flag < most_flags
  own : f.own ≡ frame_is.own
  own_low : f.own ≤ length others + 2
  comes : f.comes ≡ frame_is.comes
  ended : f.ended ≡ frame_is.ended
  group : f.group ≡ frame_is.group

inner : {ts : Book} {room : List ℕ} {i : ℕ} {x : Nest} {z : State} {f : Kept-frame} → Shows ts room i x z → (x.depth ≡ 0 → ⊥) → Top room x.depth f
    → Inner ts room i x z f
inner {ts} {room} {i} {x} {z} {f} s n t = by z.frames refl s.frames
  where
    by : (fs : List Frame) → z.frames ≡ fs → Frames ts room x.label fs → Inner ts room i x z f
    by fs e no_frames = absurd (n (s.depth_is ∙ ap length e))
    by fs e (frames {f = g} {fs = others} a r) =
        let size : x.depth ≡ suc (length others) = s.depth_is ∙ ap length e in
        let at : x.depth - 1 ≡ length others = omega arith in
        let count : f.label ≡ cell 2 room (frame_cell (length others)) = t.label ∙ ap (λ k. cell 2 room (frame_cell k)) at in
        record {
          frame_is = g;
          others = others;
          is = e;
          rest = subst (λ p. Frames ts room p others) (sym count) r;
          itself = frames {fs = others} (frame_later f.label (omega arith) a) r;
          below = omega (arith, a.below);
          size = size;
          labels = subst (λ p. Linked ts room p g.labels) (sym count) a.labels;
          flag = t.flag ∙ (ap (λ k. cell 2 room (frame_cell k + 1)) at ∙ a.flag);
          flag_low = omega (arith, t.flag ∙ (ap (λ k. cell 2 room (frame_cell k + 1)) at ∙ a.flag), a.flag_low);
          own = t.own ∙ (ap (λ k. cell 2 room (frame_cell k + 2)) at ∙ a.own);
          own_low = omega (arith, t.own ∙ (ap (λ k. cell 2 room (frame_cell k + 2)) at ∙ a.own), a.own_low);
          comes = t.comes ∙ (ap (λ k. eqb (cell 2 room (frame_cell k + 3)) 1) at ∙ (ap (λ k. eqb k 1) a.comes ∙ bit_test g.comes));
          ended = t.ended ∙ (ap (λ k. eqb (cell 2 room (frame_cell k + 4)) 1) at ∙ (ap (λ k. eqb k 1) a.ended ∙ bit_test g.ended));
          group = t.group ∙ (ap (λ k. eqb (cell 2 room (frame_cell k + 5)) 1) at ∙ (ap (λ k. eqb k 1) a.group ∙ bit_test g.group));
        }

-- what the functions ask
module _ {room : List ℕ} {x : Nest} (st : Standing room x) where
  module _ {f : Kept-frame} (n : x.depth ≡ 0 → ⊥) (t : Top room x.depth f) where
    pub own_room : 2 * f.own + 2 ≤ length room
    own_room = let s = st.3 in let y = inner s n t in omega (arith, s.space, s.shallow, y.size, y.own_low)

    pub end_room : 2 * f.flag + 2 ≤ length room
    end_room = let s = st.3 in let y = inner s n t in omega (arith, s.space, y.flag_low)

    pub to_resume : {mid : List ℕ} {b : Bool} → Taken room mid f.own b → Resuming mid x f
    to_resume {mid} k =
        let s = st.3 in
        let y = inner s n t in
        record {
          inside = omega (arith, y.size);
          shallow = s.shallow;
          space = omega (arith, s.space, put_size 2 room mid f.own 0 k.put);
          label_fits = omega (arith, y.below, s.label_low, s.few);
          flag_fits = omega (arith, y.flag_low);
          own_fits = omega (arith, y.own_low, y.size, s.shallow);
        }

-- a member begins
module _ {ts : Book} {old mid new : List ℕ} {i : ℕ} {x r : Nest} {z : State} {f : Kept-frame} {was b c : Bool} (s : Shows ts old i x z) (n : x.depth ≡ 0 → ⊥)
    (t : Top old x.depth f) (k : Taken old mid f.own was) (res : Resumed mid new x f b c r) where
  abbrev y : Inner ts old i x z f
  y = inner s n t

  own_small : f.own < most_flags
  own_small = omega (arith, y.own_low, y.size, s.shallow)

  low_same : (q : ℕ) → most_flags ≤ q → cell 2 mid q ≡ cell 2 old q
  low_same q h = put_same 2 old mid f.own 0 k.put q (λ e. omega (arith, own_small))

  far_same : (q : ℕ) → most_flags ≤ q → (q < frame_cell (length y.others)) ⊎ (labels_from ≤ q) → cell 2 new q ≡ cell 2 old q
  far_same q h (inl l) = res.pushed.kept.same q (λ a e. omega (arith, y.size)) ∙ low_same q h
  far_same q h (inr l) = res.pushed.kept.same q (λ a e. omega (arith, y.size, s.shallow)) ∙ low_same q h

  was_is : was ≡ z.marks.flags f.own
  was_is = k.was ∙ (ap (λ v. eqb v 1) (s.flags.at f.own own_small) ∙ bit_test (z.marks.flags f.own))

  count_there : cell 2 new (frame_cell (length y.others)) ≡ f.label
  count_there = let at : x.depth - 1 ≡ length y.others = omega (arith, y.size) in ap (λ j. cell 2 new (frame_cell j)) (sym at) ∙ res.pushed.label

  frame_there : FrameAt ts new f.label (length y.others) (frame y.frame_is.labels y.frame_is.flag y.frame_is.own b c y.frame_is.group)
  frame_there =
      let at : x.depth - 1 ≡ length y.others = omega (arith, y.size) in
      let p = res.pushed in
      record {
        below = omega (arith, count_there);
        labels = subst (λ q. Linked ts new q y.frame_is.labels) (sym count_there) (linked_kept (λ q a. far_same q (omega arith) (inr a)) y.labels);
        flag = ap (λ j. cell 2 new (frame_cell j + 1)) (sym at) ∙ (p.flag ∙ y.flag);
        flag_low = omega (arith, y.flag, y.flag_low);
        own = ap (λ j. cell 2 new (frame_cell j + 2)) (sym at) ∙ (p.own ∙ y.own);
        own_low = omega (arith, y.own, y.own_low);
        comes = ap (λ j. cell 2 new (frame_cell j + 3)) (sym at) ∙ p.comes;
        ended = ap (λ j. cell 2 new (frame_cell j + 4)) (sym at) ∙ p.ended;
        group = ap (λ j. cell 2 new (frame_cell j + 5)) (sym at) ∙ (p.group ∙ ap bit y.group);
      }

  abbrev begins_there : State
  begins_there =
      state (frame y.frame_is.labels y.frame_is.flag y.frame_is.own b c y.frame_is.group ∷ y.others) z.free
      (cleared y.frame_is.own z.marks) y.frame_is.labels y.frame_is.own b false idle

  member_begins : Shows ts new i r begins_there
  member_begins =
      let mid_size = put_size 2 old mid f.own 0 k.put in
      let cleaned : Flagged mid (cleared f.own z.marks) = flagged_cleared f.own (omega (arith, own_small, s.space)) k.put s.flags in
      let kept_flags : Flagged new (cleared f.own z.marks) = flagged_kept (λ j h. res.pushed.kept.same j (λ a e. omega arith)) cleaned in
      subst (λ w. Shows ts new i w begins_there) (sym res.is)
      (record {
        space = omega (arith, s.space, mid_size, res.pushed.kept.size);
        few = s.few;
        label_low = omega (arith, y.below, s.label_low);
        depth_is = y.size;
        shallow = s.shallow;
        free_is = s.free_is;
        free_low = s.free_low;
        labels = linked_kept (λ q a. far_same q (omega arith) (inr a)) y.labels;
        flag_is = y.own;
        flag_low = own_small;
        comes_is = refl;
        choosing_is = refl;
        dest_is = refl;
        place_low = omega arith;
        low_is = s.low_is;
        frames =
            frames {fs = y.others} frame_there (subst (λ q. Frames ts new q y.others) (sym count_there)
            (frames_kept (λ q a l. far_same q a (inl l)) (λ q a. far_same q (omega arith) (inr a)) y.rest));
        flags = subst (λ d. Flagged new (cleared d z.marks)) y.own kept_flags;
      })

  ended_is : {g : Bool} → g ≡ (f.ended && was) → g ≡ (y.frame_is.ended && z.marks.flags y.frame_is.own)
  ended_is e = e ∙ (ap₂ ◌&&◌ y.ended was_is ∙ ap (λ d. y.frame_is.ended && z.marks.flags d) y.own)

-- nothing is open
unframed : (f : List Frame → State → State) {room : List ℕ} {x : Nest} → ((z : State) → f [] z ≡ z) → x.depth ≡ 0 → Does (λ z. f z.frames z) room x room x
unframed f {room} {x} none e ts i z s = by z.frames refl s.frames
  where
    by : (fs : List Frame) → z.frames ≡ fs → Frames ts room x.label fs → Shows ts room i x (f z.frames z)
    by fs q no_frames = subst (Shows ts room i x) (sym (ap (λ l. f l z) q ∙ none z)) s
    by fs q (frames a r) = absurd (omega (arith, s.depth_is, ap length q))

module _ {room : List ℕ} {x : Nest} (e : x.depth ≡ 0) where
  pub unclosed : Does (λ z. closed z.frames z) room x room x
  unclosed = unframed closed (λ z. refl) e

  pub none_also : Does (λ z. also z.frames z) room x room x
  none_also = unframed also (λ z. refl) e

  pub none_next : Does (λ z. next z.frames z) room x room x
  none_next = unframed next (λ z. refl) e

  pub none_another : Does (λ z. another z.frames z) room x room x
  none_another = unframed another (λ z. refl) e

module _ {old : List ℕ} {x : Nest} {f : Kept-frame} (n : x.depth ≡ 0 → ⊥) (t : Top old x.depth f) where
  module _ {mid new : List ℕ} {r : Nest} {was g : Bool} (k : Taken old mid f.own was) (e : g ≡ (f.ended && was)) where
    pub also_shown : Resumed mid new x f f.comes g r → Does (λ z. also z.frames z) old x new r
    also_shown res ts i z s =
        let y = inner s n t in
        let h = y.frame_is in
        let w : Bool = h.ended && z.marks.flags h.own in
        subst (λ l. Shows ts new i r (also l z)) (sym y.is)
        (subst (λ b. Shows ts new i r (state (frame h.labels h.flag h.own b w h.group ∷ y.others) z.free (cleared h.own z.marks) h.labels h.own b false idle))
        y.comes
        (subst (λ c. Shows ts new i r (state (frame h.labels h.flag h.own f.comes c h.group ∷ y.others) z.free (cleared h.own z.marks) h.labels h.own f.comes false idle))
        (ended_is s n t k res e) (member_begins s n t k res)))

    pub next_shown : Resumed mid new x f g true r → Does (λ z. next z.frames z) old x new r
    next_shown res ts i z s =
        let y = inner s n t in
        let h = y.frame_is in
        subst (λ l. Shows ts new i r (next l z)) (sym y.is)
        (subst (λ b. Shows ts new i r (state (frame h.labels h.flag h.own b true h.group ∷ y.others) z.free (cleared h.own z.marks) h.labels h.own b false idle))
        (ended_is s n t k res e) (member_begins s n t k res))

  pub another_shown : Does (λ z. another z.frames z) old x old (nest x.depth x.free f.label f.flag f.comes false None x.low)
  another_shown ts i z s =
      let y = inner s n t in
      let r : Nest = nest x.depth x.free f.label f.flag f.comes false None x.low in
      subst (λ l. Shows ts old i r (another l z)) (sym y.is)
      (record {
        space = s.space;
        few = s.few;
        label_low = omega (arith, y.below, s.label_low);
        depth_is = y.size;
        shallow = s.shallow;
        free_is = s.free_is;
        free_low = s.free_low;
        labels = y.labels;
        flag_is = y.flag;
        flag_low = y.flag_low;
        comes_is = y.comes;
        choosing_is = refl;
        dest_is = refl;
        place_low = omega arith;
        low_is = s.low_is;
        frames = y.itself;
        flags = s.flags;
      })

  -- END
  module _ {new : List ℕ} {was c g : Bool} (look : was ≡ eqb (cell 2 old f.own) 1) (e : c ≡ (f.ended && was)) (h : g ≡ (f.group && c)) (set : Set old new f.flag g) where
    pub close_shown : {r : Nest} → r ≡ settle (x.depth - 1) f.own f.label x.low → Does (λ z. closed z.frames z) old x new r
    close_shown {r} is ts i z s =
        let y = inner s n t in
        let q = y.frame_is in
        let own_small : f.own < most_flags = omega (arith, y.own_low, y.size, s.shallow) in
        let was_is : was ≡ z.marks.flags q.own =
        look ∙ (ap (λ v. eqb v 1) (s.flags.at f.own own_small) ∙ (bit_test (z.marks.flags f.own) ∙ ap z.marks.flags y.own)) in
        let c_is : c ≡ (q.ended && z.marks.flags q.own) = e ∙ ap₂ ◌&&◌ y.ended was_is in
        let high : (j : ℕ) → most_flags ≤ j → cell 2 new j ≡ cell 2 old j = λ j l. set.same j (λ d o. omega (arith, y.flag_low)) in
        let down : x.depth - 1 ≡ length y.others = omega (arith, y.size) in
        subst (λ w. Shows ts new i w (closed z.frames z)) (sym is) (subst (λ l. Shows ts new i (settle (x.depth - 1) f.own f.label x.low) (closed l z)) (sym y.is)
        (record {
          space = omega (arith, s.space, set.size);
          few = s.few;
          label_low = omega (arith, y.below, s.label_low);
          depth_is = down;
          shallow = omega (arith, s.shallow);
          free_is = y.own;
          free_low = omega (arith, y.own_low);
          labels = linked_kept (λ j a. high j (omega arith)) y.labels;
          flag_is = refl;
          flag_low = omega arith;
          comes_is = refl;
          choosing_is = refl;
          dest_is = refl;
          place_low = omega arith;
          low_is = s.low_is ∙ low q.group z.marks q.flag (q.ended && z.marks.flags q.own);
          frames = frames_kept (λ j a b. high j a) (λ j a. high j (omega arith)) y.rest;
          flags = ends q.group y.group z.marks q.flag (q.ended && z.marks.flags q.own) s.flags y.flag c_is;
        }))
      where
        low : (b : Bool) (w : Marks) (k : ℕ) (d : Bool) → least unseen w.places ≡ least unseen (cond b (marked k d w) w).places
        low true w k d = refl
        low false w k d = refl

        ends : (b : Bool) → f.group ≡ b → (w : Marks) (k : ℕ) (d : Bool) → Flagged old w → f.flag ≡ k → c ≡ d → Flagged new (cond b (marked k d w) w)
        ends true i w k d a j o =
            let p : Flagged new (marked f.flag g w) = flagged_set set a in
            subst (λ v. Flagged new (marked v d w)) j (subst (λ v. Flagged new (marked f.flag v w)) (h ∙ (ap (λ v. v && c) i ∙ o)) p)
        ends false i w k d a j o = flagged_kept (λ v l. set.same v (λ u b. false≢true (sym (h ∙ ap (λ y. y && c) i) ∙ b))) a

-- BEGIN
pub too_deep : {room : List ℕ} {x r : Nest} → 32 ≤ x.depth → r ≡ settle 0 0 0 x.low → Does (λ z. opened (ltb (length z.frames) deepest) z) room x room r
too_deep {room} {x} {r} h e ts i z s =
    let test : ltb (length z.frames) deepest ≡ false = le-ltb (length z.frames) deepest (omega (arith, s.depth_is)) in
    subst (λ b. Shows ts room i r (opened b z)) (sym test) (subst (λ w. Shows ts room i w (settled [] 0 z.marks)) (sym e)
    (record {
      space = s.space;
      few = s.few;
      label_low = omega arith;
      depth_is = refl;
      shallow = omega arith;
      free_is = refl;
      free_low = omega arith;
      labels = unlinked;
      flag_is = refl;
      flag_low = omega arith;
      comes_is = refl;
      choosing_is = refl;
      dest_is = refl;
      place_low = omega arith;
      low_is = s.low_is;
      frames = no_frames;
      flags = s.flags;
    }))

module _ {old : List ℕ} {x : Nest} (l : x.depth < 32) where
  pub to_open : Standing old x
      → (x.depth < 32) × (room_size ≤ length old) × (x.label < 65536) × (x.flag < 65536) × (x.free < 65536)
  to_open st = let s = st.3 in (l, s.space, omega (arith, s.label_low, s.few), omega (arith, s.flag_low), omega (arith, s.free_low))

  module _ {mid : List ℕ} {g : Bool} (p : Pushed old mid x.depth (kept x.label x.flag x.free x.comes true g)) where
    module _ {ts : Book} {i : ℕ} {z : State} (s : Shows ts old i x z) where
      aside : (q : ℕ) → (q < frame_cell x.depth) ⊎ (labels_from ≤ q) → cell 2 mid q ≡ cell 2 old q
      aside q (inl a) = p.kept.same q (λ b e. omega arith)
      aside q (inr a) = p.kept.same q (λ b e. omega arith)

      label_linked : Linked ts mid x.label z.labels
      label_linked = linked_kept (λ q a. aside q (inr a)) s.labels

      count_kept : cell 2 mid (frame_cell (length z.frames)) ≡ x.label
      count_kept = ap (λ j. cell 2 mid (frame_cell j)) (sym s.depth_is) ∙ p.label

      one_more : Frames ts mid x.label (frame z.labels z.flag z.free z.comes true g ∷ z.frames)
      one_more =
          let d = s.depth_is in
          frames {top = x.label} {fs = z.frames}
          (record {
            below = omega (arith, count_kept);
            labels = subst (λ q. Linked ts mid q z.labels) (sym count_kept) label_linked;
            flag = ap (λ j. cell 2 mid (frame_cell j + 1)) (sym d) ∙ (p.flag ∙ s.flag_is);
            flag_low = omega (arith, s.flag_is, s.flag_low);
            own = ap (λ j. cell 2 mid (frame_cell j + 2)) (sym d) ∙ (p.own ∙ s.free_is);
            own_low = omega (arith, s.free_is, s.free_low);
            comes = ap (λ j. cell 2 mid (frame_cell j + 3)) (sym d) ∙ (p.comes ∙ ap bit s.comes_is);
            ended = ap (λ j. cell 2 mid (frame_cell j + 4)) (sym d) ∙ p.ended;
            group = ap (λ j. cell 2 mid (frame_cell j + 5)) (sym d) ∙ p.group;
          })
          (subst (λ q. Frames ts mid q z.frames) (sym count_kept)
          (frames_kept (λ q a b. aside q (inl (omega (arith, d)))) (λ q a. aside q (inr a)) s.frames))

      not_deep : ltb (length z.frames) deepest ≡ true
      not_deep = lt-ltb (length z.frames) deepest (omega (arith, s.depth_is))

      flags_there : Flagged mid z.marks
      flags_there = flagged_kept (λ j h. aside j (inl (omega arith))) s.flags

    -- of the alternatives of a DECODE
    pub alternatives_opened : {r : Nest} → g ≡ not x.choosing → x.choosing ≡ true → r ≡ enter x x.free x.flag
        → Does (λ z. opened (ltb (length z.frames) deepest) z) old x mid r
    alternatives_opened {r} gi c e ts i z s =
        subst (λ b. Shows ts mid i r (opened b z)) (sym (not_deep s)) (subst (λ b. Shows ts mid i r (begun b z)) (sym c ∙ s.choosing_is)
        (subst (λ w. Shows ts mid i w (begun true z)) (sym e)
        (record {
          space = omega (arith, s.space, p.kept.size);
          few = s.few;
          label_low = s.label_low;
          depth_is = add-one x.depth ∙ ap suc s.depth_is;
          shallow = omega arith;
          free_is = s.free_is;
          free_low = omega (arith, s.free_low);
          labels = label_linked s;
          flag_is = s.flag_is;
          flag_low = s.flag_low;
          comes_is = s.comes_is;
          choosing_is = refl;
          dest_is = refl;
          place_low = omega arith;
          low_is = s.low_is;
          frames = subst (λ b. Frames ts mid x.label (frame z.labels z.flag z.free z.comes true b ∷ z.frames)) (gi ∙ ap not c) (one_more s);
          flags = flags_there s;
        })))

    -- of a block
    module _ {new : List ℕ} (put : new ≡ put_cell 2 mid x.free 0) where
      pub block_opened : {r : Nest} → g ≡ not x.choosing → x.choosing ≡ false → r ≡ enter x (x.free + 1) x.free
          → Does (λ z. opened (ltb (length z.frames) deepest) z) old x new r
      block_opened {r} gi c e ts i z s =
          let high : (q : ℕ) → most_flags ≤ q → cell 2 new q ≡ cell 2 mid q = λ q h. put_same 2 mid new x.free 0 put q (λ d. omega (arith, s.free_low)) in
          let cleaned : Flagged new (cleared x.free z.marks) = flagged_cleared x.free (omega (arith, s.free_low, s.space, p.kept.size)) put (flags_there s) in
          subst (λ b. Shows ts new i r (opened b z)) (sym (not_deep s)) (subst (λ b. Shows ts new i r (begun b z)) (sym c ∙ s.choosing_is)
          (subst (λ w. Shows ts new i w (begun false z)) (sym e)
          (record {
            space = omega (arith, s.space, p.kept.size, put_size 2 mid new x.free 0 put);
            few = s.few;
            label_low = s.label_low;
            depth_is = add-one x.depth ∙ ap suc s.depth_is;
            shallow = omega arith;
            free_is = add-one x.free ∙ ap suc s.free_is;
            free_low = omega (arith, s.free_low);
            labels = linked_kept (λ q a. high q (omega arith)) (label_linked s);
            flag_is = s.free_is;
            flag_low = omega (arith, s.free_low);
            comes_is = s.comes_is;
            choosing_is = refl;
            dest_is = refl;
            place_low = omega arith;
            low_is = s.low_is;
            frames =
                frames_kept (λ q a b. high q a) (λ q a. high q (omega arith))
                (subst (λ b. Frames ts mid x.label (frame z.labels z.flag z.free z.comes true b ∷ z.frames)) (gi ∙ ap not c) (one_more s));
            flags = subst (λ d. Flagged new (cleared d z.marks)) s.free_is cleaned;
          })))
