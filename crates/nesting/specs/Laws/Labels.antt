-- A label more, and the label that a LEAVE names.
use Rattle.std.specs.Prelude.{ℕ, suc, ◌+◌, ◌*◌, ◌-◌, ◌<◌, ◌≤◌, ◌≡◌, refl, Bool, true, false, cond, List, ◌∷◌, length, Option as Found, Some, None}
use Rattle.std.proofs.Common.{sym, ap, ◌∙◌, subst, arith, eqb-true}
use Rattle.std.proofs.Math.Option.{Option, none, some}
use Rattle.std.proofs.Math.Decide.{dec_lt}
use Rattle.cells.specs.Cells.{cell}
use Rattle.rules.specs.Text.Scan.{same_bytes}
use Rattle.paths.specs.Cited.Least.{least}
use Rattle.paths.specs.Cited.Marks.{Slot, slot, marked, marked_at, flag_of}
use Rattle.records.specs.Holds.{link_cell}
use Rattle.records.specs.Words.{NameAt, word_at}
use Rattle.spelling.specs.Spelled.{TwoSpelled, spelled_alike}
use Rattle.nesting.specs.Spelt.{Spelt}
use Rattle.nesting.specs.Laws.Spelt.{name_there}
use Rattle.nesting.specs.Machine.{State, left}
use Rattle.nesting.specs.Holding.{unseen, Book, book, Linked, unlinked, linked, LabelPut, Flagged, Shows, Set}
use Rattle.room.specs.Profile.{label_cell, hint_cell}
use Rattle.nesting.specs.Grouping.{nest}
use Rattle.nesting.specs.Jumping.{Sought, Seeking, Jumping, Left, Labels, FlagFound}
use Rattle.nesting.specs.Laws.Holding.{linked_still, frames_still, frames_later, flagged_kept, flagged_set, set_none, set_labels, set_frames}
use Rattle.nesting.specs.declared.nests.Nest.{Nest}

pub label_shown : {records old new : List ℕ} {i : ℕ} {x : Nest} → i < 8192 → LabelPut records old new x.label i x.flag
    → Labels records old new i x (nest x.depth x.free (x.label + 1) x.flag x.comes x.choosing x.destination x.low)
label_shown {records} {old} {new} {i} {x} h p ts z s n =
    let one : x.label + 1 ≡ suc x.label = omega arith in
    let more : Linked (book records ts) new (suc x.label) (slot (word_at ts i) z.flag ∷ z.labels) =
    linked {p = x.label} (rw p.token n) (ap (word_at ts) p.token) (p.flag_is ∙ s.flag_is) (omega (arith, s.flag_low, s.flag_is))
    (omega (arith, p.hint, ap (λ y. cell 2 new (hint_cell (link_cell records y))) p.token))
    (linked_still p.still (omega arith) s.labels) in
    record {
      space = omega (arith, s.space, p.size);
      few = omega arith;
      depth_is = s.depth_is;
      shallow = s.shallow;
      free_is = s.free_is;
      free_low = s.free_low;
      label_low = omega (arith, s.label_low);
      labels = rw one more;
      flag_is = s.flag_is;
      flag_low = s.flag_low;
      comes_is = s.comes_is;
      choosing_is = s.choosing_is;
      dest_is = s.dest_is;
      place_low = s.place_low;
      low_is = s.low_is;
      frames = frames_later (x.label + 1) (omega arith) (frames_still (λ q a b. p.low q (omega (arith, s.depth_is, s.shallow))) p.still s.frames);
      flags = flagged_kept (λ j l. p.low j (omega arith)) s.flags;
    }

-- THE SEARCH: the names of a LEAVE and of a label
abbrev two_spelled : {records room : List ℕ} {n count name at : ℕ} → Sought records room n count name → (w : Spelt records n) → NameAt w.tokens at
    → TwoSpelled records name at
two_spelled {name = name} s w other = record {
  tokens = w.tokens;
  room = w.holds.record_room;
  spelled = w.spelled;
  first = name_there w name s.name_in s.is_name;
  second = other;
}

-- the hint of a LEAVE: no label above the one that it leads to has its word
module _ {records room : List ℕ} {n count name k : ℕ} (s : Sought records room n count name) (hint : k ≡ cell 2 room (hint_cell (link_cell records name))) where
  other_above : (w : Spelt records n) (m : ℕ) (l : Slot) → NameAt w.tokens (cell 2 room (label_cell m)) → word_at w.tokens (cell 2 room (label_cell m)) ≡ l.name
      → m ≤ cell 2 room (hint_cell (link_cell records (cell 2 room (label_cell m)))) → k < m → same_bytes (word_at w.tokens name) l.name ≡ false
  other_above w m l at is low h = by (same_bytes (word_at w.tokens name) l.name) refl
    where
      by : (b : Bool) → same_bytes (word_at w.tokens name) l.name ≡ b → b ≡ false
      by false e = refl
      by true e =
          let u = two_spelled s w at in
          let same : link_cell records name ≡ link_cell records (cell 2 room (label_cell m)) =
          eqb-true _ _ (w.spelled.same name (cell 2 room (label_cell m)) u.first at ∙ (ap (same_bytes (word_at w.tokens name)) is ∙ e)) in
          absurd (omega (arith, low, hint, ap (λ y. cell 2 room (hint_cell y)) same))

  upto : (w : Spelt records n) {m : ℕ} {ls : List Slot} → k + 1 ≤ m → Linked (book records w.tokens) room m ls
      → (rest : List Slot) × Linked (book records w.tokens) room (k + 1) rest × (flag_of ls (word_at w.tokens name) ≡ flag_of rest (word_at w.tokens name))
  upto w h unlinked = absurd (omega arith)
  upto w h (linked {p} {l} {ls} a e f g q r) = by (dec_lt k p) (λ y. upto w (omega arith) r)
    where
      by : Dec (k < p)
          → (k < p → (rest : List Slot) × Linked (book records w.tokens) room (k + 1) rest × (flag_of ls (word_at w.tokens name) ≡ flag_of rest (word_at w.tokens name)))
          → (rest : List Slot) × Linked (book records w.tokens) room (k + 1) rest × (flag_of (l ∷ ls) (word_at w.tokens name) ≡ flag_of rest (word_at w.tokens name))
      by (yes y) inner =
          let x = inner y in
          (x.0, x.1, ap (λ b. cond b (some l.flag) (flag_of ls (word_at w.tokens name))) (other_above w p l a e q y) ∙ x.2)
      by (no y) inner = let z : k + 1 ≡ suc p = omega arith in (l ∷ ls, rw z (linked {p = p} a e f g q r), refl)

  pub seek_hinted : k < count → Seeking records room n count name (k + 1)
  seek_hinted h = record { sought = s; within = omega arith; left = λ w ls l. upto w (omega arith) l }

pub seek_all : {records room : List ℕ} {n count name : ℕ} → Sought records room n count name → Seeking records room n count name count
seek_all s = record { sought = s; within = omega arith; left = λ w ls l. (ls, l, refl) }

record Next (ts : Book) (room : List ℕ) (p : ℕ) (ls : List Slot) : Type 0 where
  slot_is : Slot
  rest : List Slot
  is : ls ≡ slot_is ∷ rest
  name : NameAt ts.tokens (cell 2 room (label_cell (p - 1)))
  word : word_at ts.tokens (cell 2 room (label_cell (p - 1))) ≡ slot_is.name
  flag_is : cell 2 room (label_cell (p - 1) + 1) ≡ slot_is.flag
  flag_low : slot_is.flag < 64
  others : Linked ts room (p - 1) rest

next_label : {ts : Book} {room : List ℕ} {p : ℕ} {ls : List Slot} → 0 < p → Linked ts room p ls → Next ts room p ls
next_label h unlinked = absurd (omega arith)
next_label h (linked {p} {l} {ls} n w f k q r) =
    let e : suc p - 1 ≡ p = omega arith in
    record { slot_is = l; rest = ls; is = refl; name = rw e n; word = rw e w; flag_is = rw e f; flag_low = k; others = rw e r }

module _ {records room : List ℕ} {n count name j : ℕ} (v : Seeking records room n count name j) where
  pub seek_none : j ≤ 0 → (w : Spelt records n) (ls : List Slot) → Linked (book records w.tokens) room count ls → FlagFound (flag_of ls (word_at w.tokens name)) None
  seek_none h w ls l = let x = v.left w ls l in subst (λ o. FlagFound o None) (sym x.2) (by h x.1)
    where
      by : {ts : Book} {q : ℕ} {rest : List Slot} → q ≤ 0 → Linked ts room q rest → FlagFound (flag_of rest (word_at w.tokens name)) None
      by o unlinked = refl
      by o (linked a e f g q r) = absurd (omega arith)

  pub seek_room : 2 * (label_cell j) ≤ length room
  seek_room = omega (arith, v.within, v.sought.few, v.sought.space)

  module _ (h : 0 < j) {at : ℕ} (e : at ≡ cell 2 room (256 + 2 * (j - 1))) where
    abbrev here : (w : Spelt records n) (ls : List Slot) → (l : Linked (book records w.tokens) room count ls) → Next (book records w.tokens) room j (v.left w ls l).0
    here w ls l = next_label h (v.left w ls l).1

    pub both_named : TwoSpelled records name at
    both_named = two_spelled v.sought v.sought.spelt (rw e (here v.sought.spelt v.sought.labels v.sought.linked).name)

    module _ {r : Bool} (same : (u : TwoSpelled records name at) → r ≡ spelled_alike u) where
      by_test : (w : Spelt records n) (ls : List Slot) (l : Linked (book records w.tokens) room count ls) → flag_of ls (word_at w.tokens name)
          ≡ cond r (some (here w ls l).slot_is.flag) (flag_of (here w ls l).rest (word_at w.tokens name))
      by_test w ls l =
          let x = here w ls l in
          let test : r ≡ same_bytes (word_at w.tokens name) x.slot_is.name =
          same (two_spelled v.sought w (rw e x.name)) ∙ ap (same_bytes (word_at w.tokens name)) (ap (word_at w.tokens) e ∙ x.word) in
          (v.left w ls l).2 ∙ (ap (λ k. flag_of k (word_at w.tokens name)) x.is
          ∙ ap (λ b. cond b (some x.slot_is.flag) (flag_of x.rest (word_at w.tokens name))) (sym test))

      pub seek_found : r ≡ true → {k : ℕ} → k ≡ cell 2 room (257 + 2 * (j - 1)) → (w : Spelt records n) (ls : List Slot)
          → Linked (book records w.tokens) room count ls → FlagFound (flag_of ls (word_at w.tokens name)) (Some k)
      seek_found t {k} q w ls l =
          let x = here w ls l in
          let k_is : k ≡ x.slot_is.flag = q ∙ (ap (cell 2 room) (omega arith) ∙ x.flag_is) in
          subst (λ o. FlagFound o (Some k)) (sym (by_test w ls l ∙ (ap (λ b. cond b (some x.slot_is.flag) (flag_of x.rest (word_at w.tokens name))) t ∙ ap some (sym k_is))))
          (refl, omega (arith, x.flag_low))

      pub seek_on : r ≡ false → Seeking records room n count name (j - 1)
      seek_on t = record {
        sought = v.sought;
        within = omega (arith, v.within);
        left = λ w ls l.
            let x = here w ls l in
            (x.rest, x.others, by_test w ls l ∙ ap (λ b. cond b (some x.slot_is.flag) (flag_of x.rest (word_at w.tokens name))) t);
      }

-- LEAVE
pub to_seek : {records room : List ℕ} {n name : ℕ} {x : Nest} → Jumping records room n name x → Sought records room n x.label name
to_seek j = record {
  spelt = j.spelt;
  few = omega (arith, j.shows.label_low, j.shows.few);
  labels = j.state.labels;
  linked = j.shows.labels;
  name_in = j.name_in;
  is_name = j.is_name;
  space = j.shows.space;
}

left_places : (o : Option ℕ) (z : State) → least unseen z.marks.places ≡ least unseen (marked_at o z.comes z.marks).places
left_places none z = refl
left_places (some k) z = refl

-- that control does not come to
pub left_idle : {records old : List ℕ} {n : ℕ} (name : ℕ) {x : Nest} → x.comes ≡ false → Left records old old n name x x
left_idle {old = old} name {x} e w i z s =
    record {
      space = s.space;
      few = s.few;
      label_low = s.label_low;
      depth_is = s.depth_is;
      shallow = s.shallow;
      free_is = s.free_is;
      free_low = s.free_low;
      labels = s.labels;
      flag_is = s.flag_is;
      flag_low = s.flag_low;
      comes_is = s.comes_is;
      choosing_is = s.choosing_is;
      dest_is = s.dest_is;
      place_low = s.place_low;
      low_is = s.low_is ∙ left_places (flag_of z.labels (word_at w.tokens name)) z;
      frames = s.frames;
      flags = by (flag_of z.labels (word_at w.tokens name));
    }
  where
    by : (o : Option ℕ) → Flagged old (marked_at o z.comes z.marks)
    by none = s.flags
    by (some j) =
        let g : Flagged old (marked j x.comes z.marks) = flagged_set (set_none e) s.flags in
        subst (λ b. Flagged old (marked j b z.marks)) s.comes_is g

-- the flag of a label that is found
flag_is : {r : Found ℕ} {k : ℕ} (o : Option ℕ) → FlagFound o r → r ≡ Some k → (o ≡ some k) × (k < 64)
flag_is none e q = cc
flag_is {k = k} (some j) e q = let j_is : j ≡ k = cc in (ap some j_is, omega (arith, e.1))

module _ {records old : List ℕ} {n name : ℕ} {r : Found ℕ} {x : Nest} (found : (w : Spelt records n) (ls : List Slot) → Linked (book records w.tokens) old x.label ls
    → FlagFound (flag_of ls (word_at w.tokens name)) r) where
  pub flag_room : {k : ℕ} → Jumping records old n name x → r ≡ Some k → 2 * k + 2 ≤ length old
  flag_room j q = omega (arith, (flag_is _ (found j.spelt j.state.labels j.shows.labels) q).1, j.shows.space)

  pub left_flag : {new : List ℕ} {k : ℕ} → r ≡ Some k → Set old new k x.comes → Left records old new n name x x
  left_flag {new} {k} q set w i z s =
      let f = flag_is _ (found w z.labels s.labels) q in
      record {
        space = omega (arith, s.space, set.size);
        few = s.few;
        label_low = s.label_low;
        depth_is = s.depth_is;
        shallow = s.shallow;
        free_is = s.free_is;
        free_low = s.free_low;
        labels = set_labels s set f.1;
        flag_is = s.flag_is;
        flag_low = s.flag_low;
        comes_is = s.comes_is;
        choosing_is = s.choosing_is;
        dest_is = s.dest_is;
        place_low = s.place_low;
        low_is = s.low_is ∙ left_places (flag_of z.labels (word_at w.tokens name)) z;
        frames = set_frames s set f.1;
        flags =
            let g : Flagged new (marked k x.comes z.marks) = flagged_set set s.flags in
            subst (λ o. Flagged new (marked_at o z.comes z.marks)) (sym f.0) (subst (λ b. Flagged new (marked k b z.marks)) s.comes_is g);
      }

  pub left_nowhere : r ≡ None → Left records old old n name x x
  left_nowhere q w i z s = subst (λ o. Shows (book records w.tokens) old i x (to o)) (sym (by (flag_of z.labels (word_at w.tokens name)) (found w z.labels s.labels))) s
    where
      to : Option ℕ → State
      to o = record { frames = z.frames; free = z.free; marks = marked_at o z.comes z.marks; labels = z.labels; flag = z.flag; comes = z.comes; choosing = z.choosing; dest = z.dest }

      by : (o : Option ℕ) → FlagFound o r → o ≡ none
      by none e = refl
      by (some j) e = let h = e.0 in cc
