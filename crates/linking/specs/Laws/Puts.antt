-- What becomes of the matching that stands in the memory where one of its numbers is put.
-- Assumes nothing.
use Rattle.std.specs.Prelude.{ℕ, ◌+◌, ◌*◌, ◌<◌, ◌≤◌, ◌≡◌, length, set}
use Rattle.std.proofs.Math.Path.{refl, sym, ap, ap₂}
use Rattle.std.proofs.Common.{◌∙◌, arith, zero-add}
use mathlib.Core.List.{List, ◌∷◌}
use Rattle.std.proofs.Math.Option.{none}
use Rattle.std.proofs.Math.Decide.{dec_lt}
use Rattle.std.proofs.Math.Numerals.{add-one}
use Rattle.cells.specs.Cells.{cell, put_cell}
use Rattle.cells.proofs.Laws.{cell_same, cell_other, long_put}
use Rattle.rules.specs.Stores.{Entry}
use Rattle.traces.specs.Cited.Marking.{Pos, Cells}
use Rattle.rules.specs.Entries.{most_entries}
use Rattle.matching.specs.Matching.{Group, group, matching}
use Rattle.matching.specs.Room.{pos_of, left_from, groups_in, matching_in, word_at, Reached, Sound, Stands}
use Rattle.room.specs.Trace.{most_groups, next_cell, groups_cell, floor_cell, bad_cell, depth_cell, first_cell}
use Rattle.matching.specs.Laws.Room.{left_frame, left_take, length_groups, groups_frame}

pub same_matching : {c c' : Cells} {f f' b b' : Pos} {g g' : List Group} → c ≡ c' → f ≡ f' → b ≡ b' → g ≡ g' → matching c f b g ≡ matching c' f' b' g'
same_matching p q r t = rw (p, q, r, t) refl

pub reached_frame : {l : List Entry} {a b : List ℕ} {w r : ℕ} → length l ≤ most_entries → ((j : ℕ) → j < most_entries → cell 2 a j ≡ cell 2 b j)
    → Reached l b w r → Reached l a w r
reached_frame few h v = record {
  most = v.most;
  passed = λ k m e z. v.passed k m e (sym (h k (omega (arith, v.most))) ∙ z);
  found = v.found;
}

module _ {l : List Entry} {b : List ℕ} (s : Sound l b) where
  -- nothing of the entries is changed
  pub sound_frame : {a : List ℕ} → length a ≡ length b → ((j : ℕ) → j < groups_cell → cell 2 a j ≡ cell 2 b j) → ((j : ℕ) → first_cell ≤ j → cell 2 a j ≡ cell 2 b j)
      → cell 2 a depth_cell ≤ most_groups → Sound l a
  sound_frame {a} long low high shallow = record {
    few = s.few;
    long = omega (arith, s.long);
    shallow = shallow;
    next = λ i m k. rw (low (next_cell + i) (omega (arith, s.few))) (s.next i m k);
    first = λ w m. rw (high (first_cell + w) (omega arith)) (reached_frame s.few (λ j n. low j (omega arith)) (s.first w m));
  }

  low_kept : (i v : ℕ) → groups_cell ≤ i → (j : ℕ) → j < groups_cell → cell 2 (put_cell 2 b i v) j ≡ cell 2 b j
  low_kept i v h j m = cell_other 2 b i v j (λ e. omega arith)

  high_kept : (i v : ℕ) → i < first_cell → (j : ℕ) → first_cell ≤ j → cell 2 (put_cell 2 b i v) j ≡ cell 2 b j
  high_kept i v h j m = cell_other 2 b i v j (λ e. omega arith)

  left_kept : (i v : ℕ) → most_entries ≤ i → left_from (put_cell 2 b i v) 0 l ≡ left_from b 0 l
  left_kept i v h = left_frame (put_cell 2 b i v) b 0 l (λ j m. cell_other 2 b i v j (λ e. omega (arith, s.few)))

  groups_kept : (d i v : ℕ) → ((j : ℕ) → groups_cell ≤ j → j < groups_cell + 2 * d → j ≡ i → ⊥) → groups_in (put_cell 2 b i v) d ≡ groups_in b d
  groups_kept d i v h = groups_frame (put_cell 2 b i v) b d (λ j m n. cell_other 2 b i v j (h j m n))

  -- a number among those behind the groups, or a group that is not open
  all_groups_kept : (i v : ℕ) → (i ≡ depth_cell → ⊥) → ((j : ℕ) → groups_cell ≤ j → j < groups_cell + 2 * cell 2 b depth_cell → j ≡ i → ⊥)
      → groups_in (put_cell 2 b i v) (cell 2 (put_cell 2 b i v) depth_cell) ≡ groups_in b (cell 2 b depth_cell)
  all_groups_kept i v n h =
      ap (groups_in (put_cell 2 b i v)) (cell_other 2 b i v depth_cell (λ e. n (sym e))) ∙ groups_kept (cell 2 b depth_cell) i v h

  sound_put : (i v : ℕ) → groups_cell ≤ i → i < first_cell → (i ≡ depth_cell → ⊥) → Sound l (put_cell 2 b i v)
  sound_put i v h k n =
      sound_frame (long_put 2 b i v) (low_kept i v h) (high_kept i v k) (rw (cell_other 2 b i v depth_cell (λ e. n (sym e))) s.shallow)

  pub floor_put : (v : ℕ) → v < 65536 → Stands l (put_cell 2 b floor_cell v) (let z = matching_in l b in matching z.cells (pos_of v) z.bad z.groups)
  unfolding matching_in
  floor_put v h = record {
    sound = sound_put floor_cell v (omega arith) (omega arith) (λ e. omega arith);
    is = same_matching
        (left_kept floor_cell v (omega arith))
        (ap pos_of (cell_same 2 b floor_cell v (omega (arith, s.long)) h))
        (ap pos_of (cell_other 2 b floor_cell v bad_cell (λ e. omega arith)))
        (all_groups_kept floor_cell v (λ e. omega arith) (λ j m n e. omega (arith, s.shallow)));
  }

  pub bad_put : (v : ℕ) → v < 65536 → Stands l (put_cell 2 b bad_cell v) (let z = matching_in l b in matching z.cells z.floor (pos_of v) z.groups)
  unfolding matching_in
  bad_put v h = record {
    sound = sound_put bad_cell v (omega arith) (omega arith) (λ e. omega arith);
    is = same_matching
        (left_kept bad_cell v (omega arith))
        (ap pos_of (cell_other 2 b bad_cell v floor_cell (λ e. omega arith)))
        (ap pos_of (cell_same 2 b bad_cell v (omega (arith, s.long)) h))
        (all_groups_kept bad_cell v (λ e. omega arith) (λ j m n e. omega (arith, s.shallow)));
  }

  -- a number of the group that is the next to open
  pub spare_put : (i v : ℕ) → groups_cell + 2 * cell 2 b depth_cell ≤ i → i < floor_cell → Stands l (put_cell 2 b i v) (matching_in l b)
  unfolding matching_in
  spare_put i v h k = record {
    sound = sound_put i v (omega arith) (omega arith) (λ e. omega arith);
    is = same_matching
        (left_kept i v (omega arith))
        (ap pos_of (cell_other 2 b i v floor_cell (λ e. omega arith)))
        (ap pos_of (cell_other 2 b i v bad_cell (λ e. omega arith)))
        (all_groups_kept i v (λ e. omega arith) (λ j m n e. omega arith));
  }

  -- how many groups are open
  depth_put : (d : ℕ) → d ≤ most_groups
      → Stands l (put_cell 2 b depth_cell d) (let z = matching_in l b in matching z.cells z.floor z.bad (groups_in b d))
  unfolding matching_in
  depth_put d h =
      let e : cell 2 (put_cell 2 b depth_cell d) depth_cell ≡ d = cell_same 2 b depth_cell d (omega (arith, s.long)) (omega arith) in
      record {
        sound = sound_frame (long_put 2 b depth_cell d) (low_kept depth_cell d (omega arith)) (high_kept depth_cell d (omega arith)) (omega arith);
        is = same_matching
            (left_kept depth_cell d (omega arith))
            (ap pos_of (cell_other 2 b depth_cell d floor_cell (λ e. omega arith)))
            (ap pos_of (cell_other 2 b depth_cell d bad_cell (λ e. omega arith)))
            (ap (groups_in (put_cell 2 b depth_cell d)) e ∙ groups_kept d depth_cell d (λ j m n e. omega arith));
      }

  pub depth_is : length (matching_in l b).groups ≡ cell 2 b depth_cell
  unfolding matching_in
  depth_is = length_groups b (cell 2 b depth_cell)

  -- one more group is open, of the numbers that stand there
  pub pushed : (d : ℕ) → d ≡ cell 2 b depth_cell → d < most_groups
      → Stands l (put_cell 2 b depth_cell (d + 1))
      (let z = matching_in l b in matching z.cells z.floor z.bad (group (pos_of (cell 2 b (groups_cell + 2 * d))) (pos_of (cell 2 b (groups_cell + 2 * d + 1))) ∷ z.groups))
  unfolding groups_in matching_in
  pushed d e h =
      let v = depth_put (d + 1) (omega arith) in
      record {
        sound = v.sound;
        is = v.is ∙ same_matching refl refl refl (ap (groups_in b) (add-one d) ∙ ap (λ k. group (pos_of (cell 2 b (groups_cell + 2 * d))) (pos_of (cell 2 b (groups_cell + 2 * d + 1))) ∷ groups_in b k) e);
      }

  -- the innermost group
  module _ (d : ℕ) (e : d + 1 ≡ cell 2 b depth_cell) where
    pub top_is : (matching_in l b).groups ≡ group (pos_of (cell 2 b (groups_cell + 2 * d))) (pos_of (cell 2 b (groups_cell + 2 * d + 1))) ∷ groups_in b d
    unfolding groups_in matching_in
    top_is = ap (groups_in b) (sym e ∙ add-one d)

    pub popped : Stands l (put_cell 2 b depth_cell d) (let z = matching_in l b in matching z.cells z.floor z.bad (groups_in b d))
    popped = depth_put d (omega (arith, s.shallow))

    pub most_put : (v : ℕ) → v < 65536
        → Stands l (put_cell 2 b (groups_cell + 2 * d + 1) v)
        (let z = matching_in l b in matching z.cells z.floor z.bad (group (pos_of (cell 2 b (groups_cell + 2 * d))) (pos_of v) ∷ groups_in b d))
    unfolding groups_in matching_in
    most_put v h =
        let i = groups_cell + 2 * d + 1 in
        let shallow : d + 1 ≤ most_groups = omega (arith, s.shallow) in
        record {
          sound = sound_put i v (omega arith) (omega arith) (λ q. omega arith);
          is = same_matching
              (left_kept i v (omega arith))
              (ap pos_of (cell_other 2 b i v floor_cell (λ q. omega arith)))
              (ap pos_of (cell_other 2 b i v bad_cell (λ q. omega arith)))
              (ap (groups_in (put_cell 2 b i v)) (cell_other 2 b i v depth_cell (λ q. omega arith) ∙ sym e ∙ add-one d)
              ∙ ap₂ (λ (g : Group) (t : List Group). g ∷ t)
              (ap₂ (λ m n. group (pos_of m) (pos_of n)) (cell_other 2 b i v (groups_cell + 2 * d) (λ q. omega arith)) (cell_same 2 b i v (omega (arith, s.long)) h))
              (groups_kept d i v (λ j m n q. omega arith)));
        }

  -- what was taken stays taken
  still_reached : (i : ℕ) {w r : ℕ} → 2 * i + 2 ≤ length b → Reached l b w r → Reached l (put_cell 2 b i 1) w r
  still_reached i {w} {r} long v = record {
    most = v.most;
    passed = λ k m e z. by k m e z (dec_lt k i) (dec_lt i k);
    found = v.found;
  }
    where
      by : (k : ℕ) → k < r → word_at l k ≡ w → cell 2 (put_cell 2 b i 1) k ≡ 0 → Dec (k < i) → Dec (i < k) → ⊥
      by k m e z (yes p) q = v.passed k m e (sym (cell_other 2 b i 1 k (λ u. omega arith)) ∙ z)
      by k m e z (no p) (yes q) = v.passed k m e (sym (cell_other 2 b i 1 k (λ u. omega arith)) ∙ z)
      by k m e z (no p) (no q) = let u : k ≡ i = omega arith in omega (arith, cell_same 2 b i 1 long (omega arith), ap (cell 2 (put_cell 2 b i 1)) u)

  -- an entry is taken
  pub taken_put : (i : ℕ) → i < length l → Stands l (put_cell 2 b i 1) (let z = matching_in l b in matching (set z.cells i none) z.floor z.bad z.groups)
  unfolding matching_in
  taken_put i h =
      let few = s.few in
      let long = s.long in
      record {
        sound = record {
          few = few;
          long = omega (arith, long_put 2 b i 1);
          shallow = rw (cell_other 2 b i 1 depth_cell (λ e. omega arith)) s.shallow;
          next = λ j m k. rw (cell_other 2 b i 1 (next_cell + j) (λ e. omega arith)) (s.next j m k);
          first = λ w m. rw (cell_other 2 b i 1 (first_cell + w) (λ e. omega arith)) (still_reached i (omega arith) (s.first w m));
        };
        is = same_matching
            (ap (λ n. left_from (put_cell 2 b n 1) 0 l) (sym (zero-add i)) ∙ left_take b 0 l i h (omega arith))
            (ap pos_of (cell_other 2 b i 1 floor_cell (λ e. omega arith)))
            (ap pos_of (cell_other 2 b i 1 bad_cell (λ e. omega arith)))
            (all_groups_kept i 1 (λ e. omega arith) (λ j m n e. omega arith));
      }
