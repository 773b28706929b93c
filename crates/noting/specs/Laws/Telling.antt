-- What is told, arm by arm of the code: the numbers that it puts make the matching what the definitions say.
-- Assumes nothing.
use Rattle.std.specs.Prelude.{ℕ, ◌+◌, ◌*◌, ◌<◌, ◌≤◌, ◌≡◌, true, false, List, [], ◌∷◌, length, get_or}
use Rattle.std.proofs.Math.Path.{refl, sym, ap, ap₂}
use Rattle.std.proofs.Common.{◌∙◌, arith, add-one}
use Rattle.std.proofs.Math.Option.{some}
use Rattle.std.proofs.Math.Decide.{dec_lt}
use Rattle.cells.specs.Cells.{cell, put_cell}
use Rattle.cells.proofs.Laws.{cell_same, cell_other}
use Rattle.rules.specs.Stores.{Entry, entry}
use Rattle.traces.specs.Cited.Entries.{same_entry}
use Rattle.traces.specs.Cited.Marking.{Pos, at, lesser, greater, never, marked}
use Rattle.traces.specs.Cited.Events.{stores, opens, turns, closes}
use Rattle.matching.specs.Matching.{group, Matching, matching, turned, closed, with, told, part_at, spoilt, told_part}
use Rattle.matching.specs.Room.{endless, pos_of, groups_in, matching_in, Sound, Stands}
use Rattle.room.specs.Trace.{most_groups, groups_cell, floor_cell, bad_cell, depth_cell}
use Rattle.linking.specs.Seeking.{Seeks}
use Rattle.noting.specs.Laws.Parts.{never_lesser, fit_past, fit_taken, fit_other, fit_same}
use Rattle.linking.specs.Laws.Seeking.{Early, InTime, put_missing, put_early, put_in_time}
use Rattle.matching.specs.Laws.Room.{pos_at, pos_never, groups_frame, cells_long, taken_there, left_there}
use Rattle.linking.specs.Laws.Puts.{same_matching, floor_put, bad_put, spare_put, pushed, top_is, popped, most_put, taken_put}

stands_as : {l : List Entry} {a : List ℕ} {y z : Matching} → Stands l a y → y ≡ z → Stands l a z
stands_as v e = record { sound = v.sound; is = v.is ∙ e }

pub stands_still : {l : List Entry} {b : List ℕ} {z : Matching} → Sound l b → matching_in l b ≡ z → Stands l b z
stands_still s e = record { sound = s; is = e }

-- no entry is there for a store
abbrev missed : Matching → Matching
missed z = with (marked z.cells never never) z

module _ {l : List Entry} {b : List ℕ} (s : Sound l b) where
  -- a store finds no entry
  misses : {a : List ℕ} → a ≡ put_cell 2 b floor_cell endless → Stands l a (missed (matching_in l b))
  misses e =
      rw e (stands_as (floor_put s endless (omega arith)) (same_matching refl (pos_never endless (omega arith)) (sym (never_lesser (matching_in l b).bad)) refl))

  -- the entry i is bad
  pub spoils : {i v g : ℕ} {a₁ a : List ℕ} → i < endless → v < 65536 → g ≡ cell 2 b bad_cell → pos_of v ≡ lesser (pos_of g) (pos_of i)
      → a₁ ≡ put_cell 2 b bad_cell v → a ≡ put_cell 2 a₁ floor_cell endless → Stands l a (spoilt i (matching_in l b))
  unfolding matching_in
  spoils {i} {v} {g} h k is_g e e₁ e₂ =
      let p = bad_put s v k in
      let q = floor_put p.sound endless (omega arith) in
      rw (e₂, e₁) (stands_as q (
      ap (λ (y : Matching). matching y.cells (pos_of endless) y.bad y.groups) p.is
      ∙ same_matching refl (pos_never endless (omega arith)) (e ∙ ap₂ (λ m (n : Pos). lesser (pos_of m) n) is_g (pos_at i h)) refl))

  -- a part at the entry i: behind all of them, at one that is taken, at another one, at one like it
  module _ (x : Entry) (i : ℕ) where
    pub fits_past : {a : List ℕ} → length l ≤ i → a ≡ put_cell 2 b floor_cell endless → Stands l a (part_at (at i) x (matching_in l b))
    fits_past h e =
        let z = matching_in l b in
        stands_as (misses e) (ap (λ r. with r z) (sym (fit_past i x z.cells (omega (arith, cells_long s)))))

    pub fits_taken : {g : ℕ} {a : List ℕ} → i < length l → g ≡ cell 2 b i → (g ≡ 0 → ⊥) → Stands l a (spoilt i (matching_in l b)) → Stands l a (part_at (at i) x (matching_in l b))
    fits_taken h e n v =
        let z = matching_in l b in
        stands_as v (ap (λ r. with r z) (sym (fit_taken i x z.cells (omega (arith, cells_long s)) (taken_there s i h (λ q. n (e ∙ q))))))

    pub fits_other : {g : ℕ} {y : Entry} {a : List ℕ} → i < length l → g ≡ cell 2 b i → g ≡ 0 → y ≡ get_or l i (entry 0 0 0) → false ≡ same_entry x y
        → Stands l a (spoilt i (matching_in l b)) → Stands l a (part_at (at i) x (matching_in l b))
    fits_other {y = y} h e n is_y o v =
        let z = matching_in l b in
        stands_as v (ap (λ r. with r z) (sym (fit_other i x y z.cells (left_there s i h (sym e ∙ n) ∙ ap some (sym is_y)) (sym o))))

    pub fits_same : {g : ℕ} {y : Entry} {a₁ a : List ℕ} → i < length l → g ≡ cell 2 b i → g ≡ 0 → y ≡ get_or l i (entry 0 0 0) → true ≡ same_entry x y
        → a₁ ≡ put_cell 2 b i 1 → a ≡ put_cell 2 a₁ floor_cell (i + 1) → Stands l a (part_at (at i) x (matching_in l b))
    fits_same {y = y} h e n is_y o e₁ e₂ =
        let z = matching_in l b in
        let p = taken_put s i h in
        let q = floor_put p.sound (i + 1) (omega (arith, s.few)) in
        rw (e₂, e₁) (stands_as q (
        ap (λ (y : Matching). matching y.cells (pos_of (i + 1)) y.bad y.groups) p.is
        ∙ same_matching refl (pos_at (i + 1) (omega (arith, s.few)) ∙ ap at (add-one i)) (sym (never_lesser z.bad)) refl
        ∙ ap (λ r. with r z) (sym (fit_same i x y z.cells (left_there s i h (sym e ∙ n) ∙ ap some (sym is_y)) (sym o)))))

  -- one more part, where those before it stand together, and where they do not
  module _ (x : Entry) {i : ℕ} (e : i ≡ cell 2 b floor_cell) where
    pub next_never : i ≡ endless → Stands l b (told_part x (matching_in l b))
    unfolding matching_in
    next_never n = stands_still s (ap (λ f. part_at f x (matching_in l b)) (sym (ap pos_of (sym e) ∙ pos_never i (omega arith))))

    pub next_at : {a : List ℕ} → i < endless → Stands l a (part_at (at i) x (matching_in l b)) → Stands l a (told_part x (matching_in l b))
    unfolding matching_in
    next_at h v = stands_as v (ap (λ f. part_at f x (matching_in l b)) (sym (ap pos_of (sym e) ∙ pos_at i h)))

  -- a group opens
  pub opens_there : {d f : ℕ} {a₁ a₂ a : List ℕ} → d ≡ cell 2 b depth_cell → d < most_groups → f ≡ cell 2 b floor_cell → f < 65536
      → a₁ ≡ put_cell 2 b (groups_cell + 2 * d) f → a₂ ≡ put_cell 2 a₁ (groups_cell + 2 * d + 1) 0 → a ≡ put_cell 2 a₂ depth_cell (d + 1)
      → Stands l a (told opens (matching_in l b))
  unfolding matching_in
  opens_there {d} {f} is_d h is_f k e₁ e₂ e₃ =
      let i = groups_cell + 2 * d in
      let b₁ = put_cell 2 b i f in
      let b₂ = put_cell 2 b₁ (i + 1) 0 in
      let p = spare_put s i f (omega arith) (omega arith) in
      let d₁ : cell 2 b₁ depth_cell ≡ cell 2 b depth_cell = cell_other 2 b i f depth_cell (λ q. omega arith) in
      let q = spare_put p.sound (i + 1) 0 (omega arith) (omega arith) in
      let d₂ : cell 2 b₂ depth_cell ≡ cell 2 b₁ depth_cell = cell_other 2 b₁ (i + 1) 0 depth_cell (λ q. omega arith) in
      let r = pushed q.sound d (omega arith) h in
      let first : cell 2 b₂ i ≡ f = cell_other 2 b₁ (i + 1) 0 i (λ q. omega arith) ∙ cell_same 2 b i f (omega (arith, s.long)) k in
      let second : cell 2 b₂ (i + 1) ≡ 0 = cell_same 2 b₁ (i + 1) 0 (omega (arith, p.sound.long)) (omega arith) in
      rw (e₃, e₂, e₁) (stands_as r (
      ap (λ (y : Matching). matching y.cells y.floor y.bad (group (pos_of (cell 2 b₂ i)) (pos_of (cell 2 b₂ (i + 1))) ∷ y.groups)) (q.is ∙ p.is)
      ∙ same_matching refl refl refl (ap₂ (λ (m n : Pos). group m n ∷ (matching_in l b).groups) (ap pos_of (first ∙ is_f)) (ap pos_of second ∙ pos_at 0 (omega arith)))))

  -- no group is open
  module _ {d : ℕ} (is_d : d ≡ cell 2 b depth_cell) (n : d ≡ 0) where
    no_groups : (matching_in l b).groups ≡ []
    unfolding matching_in groups_in
    no_groups = ap (groups_in b) (sym is_d ∙ n)

    pub turns_nowhere : Stands l b (told turns (matching_in l b))
    turns_nowhere = let z = matching_in l b in stands_still s (same_matching refl refl refl no_groups ∙ sym (ap (turned z.cells z.floor z.bad) no_groups))

    pub closes_nowhere : Stands l b (told closes (matching_in l b))
    closes_nowhere = let z = matching_in l b in stands_still s (same_matching refl refl refl no_groups ∙ sym (ap (closed z.cells z.floor z.bad) no_groups))

  -- the innermost group turns, and closes
  module _ (d : ℕ) {g f m : ℕ} (is_d : d + 1 ≡ cell 2 b depth_cell) (is_g : g ≡ cell 2 b (groups_cell + 2 * d + 1)) (is_f : f ≡ cell 2 b floor_cell)
      (e : pos_of m ≡ greater (pos_of g) (pos_of f)) (k : m < 65536) where
    most_is : pos_of m ≡ greater (pos_of (cell 2 b (groups_cell + 2 * d + 1))) (matching_in l b).floor
    unfolding matching_in
    most_is = e ∙ ap₂ (λ u v. greater (pos_of u) (pos_of v)) is_g is_f

    pub turns_there : {p : ℕ} {a₁ a : List ℕ} → p ≡ cell 2 b (groups_cell + 2 * d) → p < 65536
        → a₁ ≡ put_cell 2 b (groups_cell + 2 * d + 1) m → a ≡ put_cell 2 a₁ floor_cell p → Stands l a (told turns (matching_in l b))
    turns_there {p} is_p h e₁ e₂ =
        let z = matching_in l b in
        let u = most_put s d is_d m k in
        let v = floor_put u.sound p h in
        let start = pos_of (cell 2 b (groups_cell + 2 * d)) in
        rw (e₂, e₁) (stands_as v (
        ap (λ (y : Matching). matching y.cells (pos_of p) y.bad y.groups) u.is
        ∙ same_matching refl (ap pos_of is_p) refl (ap (λ (q : Pos). group start q ∷ groups_in b d) most_is)
        ∙ sym (ap (turned z.cells z.floor z.bad) (top_is s d is_d))))

    pub closes_there : {a₁ a : List ℕ} → a₁ ≡ put_cell 2 b floor_cell m → a ≡ put_cell 2 a₁ depth_cell d → Stands l a (told closes (matching_in l b))
    unfolding groups_in
    closes_there e₁ e₂ =
        let z = matching_in l b in
        let b₁ = put_cell 2 b floor_cell m in
        let u = floor_put s m k in
        let v = popped u.sound d (is_d ∙ sym (cell_other 2 b floor_cell m depth_cell (λ q. omega arith))) in
        let inner : groups_in b₁ d ≡ groups_in b d = groups_frame b₁ b d (λ j h n. cell_other 2 b floor_cell m j (λ q. omega (arith, s.shallow))) in
        rw (e₂, e₁) (stands_as v (
        ap (λ (y : Matching). matching y.cells y.floor y.bad (groups_in b₁ d)) u.is
        ∙ same_matching refl most_is refl inner
        ∙ sym (ap (closed z.cells z.floor z.bad) (top_is s d is_d))))

-- the first part of a transfer, from where its word is found: nowhere, too early, in time
module _ {l : List Entry} {b b₁ : List ℕ} (x : Entry) {i : ℕ} (v : Seeks l b b₁ x.word i) where
  abbrev first_told : Matching
  first_told = told (stores x []) (matching_in l b)

  there_long : length (matching_in l b).cells ≡ length l
  there_long = ap (λ (y : Matching). length y.cells) (sym v.stands.is) ∙ cells_long v.stands.sound

  pub first_missing : {a : List ℕ} → length l ≤ i → a ≡ put_cell 2 b₁ floor_cell endless → Stands l a first_told
  first_missing h e =
      let z = matching_in l b in
      stands_as (misses v.stands.sound e)
      (ap missed v.stands.is ∙ ap (λ r. with r z) (sym (put_missing x z.floor v.sought (omega (arith, there_long)))))

  floor_there : {f : ℕ} → f ≡ cell 2 b₁ floor_cell → pos_of f ≡ (matching_in l b).floor
  unfolding matching_in
  floor_there e = ap pos_of e ∙ ap (λ (y : Matching). y.floor) v.stands.is

  early_there : (f : ℕ) → i < f → Early x (pos_of f) i
  early_there f h = by (dec_lt f endless)
    where
      by : Dec (f < endless) → Early x (pos_of f) i
      by (yes m) = rw (pos_at f m) h
      by (no m) = rw (pos_never f (omega arith)) tt

  pub first_early : {f : ℕ} {a : List ℕ} → i < length l → f ≡ cell 2 b₁ floor_cell → i < f → Stands l a (spoilt i (matching_in l b₁)) → Stands l a first_told
  first_early {f} h e k w =
      let z = matching_in l b in
      stands_as w (ap (spoilt i) v.stands.is
      ∙ ap (λ r. with r z) (sym (put_early x z.floor v.sought (omega (arith, there_long)) (rw (floor_there e) at (early_there f k)))))

  in_time_there : (f : ℕ) → f < endless → f ≤ i → InTime x (pos_of f) i
  in_time_there f m h = rw (pos_at f m) h

  pub first_in_time : {f : ℕ} {a : List ℕ} → i < length l → f ≡ cell 2 b₁ floor_cell → f ≤ i → Stands l a (part_at (at i) x (matching_in l b₁)) → Stands l a first_told
  first_in_time {f} h e k w =
      let z = matching_in l b in
      stands_as w (ap (part_at (at i) x) v.stands.is
      ∙ ap (λ r. with r z) (sym (put_in_time x z.floor v.sought (omega (arith, there_long)) (rw (floor_there e) at (in_time_there f (omega (arith, v.stands.sound.few)) k)))))
