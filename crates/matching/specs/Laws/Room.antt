-- What a number put into the memory changes of the matching that stands there.
-- Assumes nothing.
use Rattle.std.specs.Prelude.{ℕ, zero, suc, ◌+◌, ◌*◌, ◌<◌, ◌≤◌, ◌≡◌, refl, List, [], ◌∷◌, eqb, length, get_or, set}
use Rattle.std.proofs.Common.{sym, ◌∙◌, ap₂, arith, add-zero, zero-add, lt-ltb, le-ltb, eq-eqb, ne_eqb}
use Rattle.std.proofs.Math.Path.{ap}
use Rattle.std.proofs.Math.Bool.{cond}
use Rattle.std.proofs.Math.Option.{none, some}
use Rattle.std.proofs.Math.Decide.{dec_lt}
use Rattle.cells.specs.Cells.{cell, put_cell}
use Rattle.cells.proofs.Laws.{cell_same, cell_other}
use Rattle.rules.specs.Stores.{Entry, entry}
use Rattle.traces.specs.Cited.Marking.{at, never, lesser_n, lesser, greater_n, greater, Cells}
use Rattle.matching.specs.Matching.{Group, group}
use Rattle.matching.specs.Room.{endless, pos_of, left_from, groups_in, matching_in, Sound}
use Rattle.room.specs.Trace.{groups_cell}

-- numbers that stand for positions
pub pos_at : (n : ℕ) → n < endless → pos_of n ≡ at n
unfolding pos_of
pos_at n h = ap (λ b. cond b (at n) never) (lt-ltb n endless h)

pub pos_never : (n : ℕ) → endless ≤ n → pos_of n ≡ never
unfolding pos_of
pos_never n h = ap (λ b. cond b (at n) never) (le-ltb n endless h)

lesser_left : (a b : ℕ) → a ≤ b → lesser_n a b ≡ a
unfolding lesser_n
lesser_left zero b h = refl
lesser_left (suc a) zero h = absurd (omega arith)
lesser_left (suc a) (suc b) h = ap suc (lesser_left a b (omega arith))

lesser_right : (a b : ℕ) → b ≤ a → lesser_n a b ≡ b
unfolding lesser_n
lesser_right zero zero h = refl
lesser_right zero (suc b) h = absurd (omega arith)
lesser_right (suc a) zero h = refl
lesser_right (suc a) (suc b) h = ap suc (lesser_right a b (omega arith))

greater_left : (a b : ℕ) → b ≤ a → greater_n a b ≡ a
unfolding greater_n
greater_left zero zero h = refl
greater_left zero (suc b) h = absurd (omega arith)
greater_left (suc a) zero h = refl
greater_left (suc a) (suc b) h = ap suc (greater_left a b (omega arith))

greater_right : (a b : ℕ) → a ≤ b → greater_n a b ≡ b
unfolding greater_n
greater_right zero b h = refl
greater_right (suc a) zero h = absurd (omega arith)
greater_right (suc a) (suc b) h = ap suc (greater_right a b (omega arith))

module _ {a b : ℕ} where
  pub pos_lesser_left : a < b → pos_of a ≡ lesser (pos_of a) (pos_of b)
  pos_lesser_left h = by (dec_lt a endless) (dec_lt b endless)
    where
      by : Dec (a < endless) → Dec (b < endless) → pos_of a ≡ lesser (pos_of a) (pos_of b)
      by (yes l) (yes m) = rw (pos_at a l, pos_at b m) (ap at (sym (lesser_left a b (omega arith))))
      by (yes l) (no m) = rw (pos_at a l, pos_never b (omega arith)) refl
      by (no l) m = rw (pos_never a (omega arith), pos_never b (omega arith)) refl

  pub pos_lesser_right : b ≤ a → pos_of b ≡ lesser (pos_of a) (pos_of b)
  pos_lesser_right h = by (dec_lt a endless)
    where
      by : Dec (a < endless) → pos_of b ≡ lesser (pos_of a) (pos_of b)
      by (yes l) = rw (pos_at a l, pos_at b (omega arith)) (ap at (sym (lesser_right a b (omega arith))))
      by (no l) = rw (pos_never a (omega arith)) refl

  pub pos_greater_right : a < b → pos_of b ≡ greater (pos_of a) (pos_of b)
  pos_greater_right h = by (dec_lt a endless) (dec_lt b endless)
    where
      by : Dec (a < endless) → Dec (b < endless) → pos_of b ≡ greater (pos_of a) (pos_of b)
      by (yes l) (yes m) = rw (pos_at a l, pos_at b m) (ap at (sym (greater_right a b (omega arith))))
      by (yes l) (no m) = rw (pos_at a l, pos_never b (omega arith)) refl
      by (no l) m = rw (pos_never a (omega arith), pos_never b (omega arith)) refl

  pub pos_greater_left : b ≤ a → pos_of a ≡ greater (pos_of a) (pos_of b)
  pos_greater_left h = by (dec_lt a endless)
    where
      by : Dec (a < endless) → pos_of a ≡ greater (pos_of a) (pos_of b)
      by (yes l) = rw (pos_at a l, pos_at b (omega arith)) (ap at (sym (greater_left a b (omega arith))))
      by (no l) = rw (pos_never a (omega arith)) refl

-- the entries that are left
pub length_left : (room : List ℕ) (k : ℕ) (l : List Entry) → length (left_from room k l) ≡ length l
unfolding left_from
length_left room k [] = refl
length_left room k (x ∷ l) = ap suc (length_left room (suc k) l)

pub left_frame : (a b : List ℕ) (k : ℕ) (l : List Entry) → ((j : ℕ) → j < k + length l → cell 2 a j ≡ cell 2 b j) → left_from a k l ≡ left_from b k l
unfolding left_from
left_frame a b k [] h = refl
left_frame a b k (x ∷ l) h =
    ap₂ (λ n (t : Cells). cond (eqb n 0) (some x) none ∷ t) (h k (omega arith)) (left_frame a b (suc k) l (λ j m. h j (omega arith)))

pub left_at : (room : List ℕ) (k : ℕ) (l : List Entry) (i : ℕ) → i < length l
    → get_or (left_from room k l) i none ≡ cond (eqb (cell 2 room (k + i)) 0) (some (get_or l i (entry 0 0 0))) none
unfolding left_from
left_at room k [] i h = absurd (omega arith)
left_at room k (x ∷ l) zero h = rw add-zero refl
left_at room k (x ∷ l) (suc i) h = left_at room (suc k) l i (omega arith) ∙ ap (λ n. cond (eqb (cell 2 room n) 0) (some (get_or l i (entry 0 0 0))) none) (omega arith)

pub left_take : (room : List ℕ) (k : ℕ) (l : List Entry) (i : ℕ) → i < length l → 2 * (k + i) + 2 ≤ length room
    → left_from (put_cell 2 room (k + i) 1) k l ≡ set (left_from room k l) i none
unfolding left_from
left_take room k [] i h s = absurd (omega arith)
left_take room k (x ∷ l) zero h s =
    ap₂ (λ n (t : Cells). cond (eqb n 0) (some x) none ∷ t)
    (ap (cell 2 (put_cell 2 room (k + 0) 1)) (omega arith) ∙ cell_same 2 room (k + 0) 1 s (omega arith))
    (after room (suc k) l (k + 0) (omega arith))
  where
    after : (room : List ℕ) (k : ℕ) (l : List Entry) (i : ℕ) → i < k → left_from (put_cell 2 room i 1) k l ≡ left_from room k l
    after room k [] i h = refl
    after room k (x ∷ l) i h = ap₂ (λ n (t : Cells). cond (eqb n 0) (some x) none ∷ t) (cell_other 2 room i 1 k (λ e. omega arith)) (after room (suc k) l i (omega arith))
left_take room k (x ∷ l) (suc i) h s =
    ap₂ (λ n (t : Cells). cond (eqb n 0) (some x) none ∷ t)
    (cell_other 2 room (k + suc i) 1 k (λ e. omega arith))
    (ap (λ n. left_from (put_cell 2 room n 1) (suc k) l) (omega arith) ∙ left_take room (suc k) l i (omega arith) (omega arith))

-- the groups that are open
pub length_groups : (room : List ℕ) (d : ℕ) → length (groups_in room d) ≡ d
unfolding groups_in
length_groups room zero = refl
length_groups room (suc d) = ap suc (length_groups room d)

pub groups_frame : (a b : List ℕ) (d : ℕ) → ((j : ℕ) → groups_cell ≤ j → j < groups_cell + 2 * d → cell 2 a j ≡ cell 2 b j) → groups_in a d ≡ groups_in b d
unfolding groups_in
groups_frame a b zero h = refl
groups_frame a b (suc d) h =
    ap₂ (λ (g : Group) (t : List Group). g ∷ t)
    (ap₂ (λ m n. group (pos_of m) (pos_of n)) (h (groups_cell + 2 * d) (omega arith) (omega arith)) (h (groups_cell + 2 * d + 1) (omega arith) (omega arith)))
    (groups_frame a b d (λ j m n. h j m (omega arith)))

-- the entries that are not yet taken, in the matching
module _ {l : List Entry} {b : List ℕ} (s : Sound l b) where
  pub cells_long : length (matching_in l b).cells ≡ length l
  unfolding matching_in
  cells_long = length_left b 0 l

  cell_there : (i : ℕ) → i < length l → get_or (matching_in l b).cells i none ≡ cond (eqb (cell 2 b i) 0) (some (get_or l i (entry 0 0 0))) none
  unfolding matching_in
  cell_there i h = left_at b 0 l i h ∙ ap (λ n. cond (eqb (cell 2 b n) 0) (some (get_or l i (entry 0 0 0))) none) (zero-add i)

  pub taken_there : (i : ℕ) → i < length l → (cell 2 b i ≡ 0 → ⊥) → get_or (matching_in l b).cells i none ≡ none
  taken_there i h n = cell_there i h ∙ ap (λ k. cond k (some (get_or l i (entry 0 0 0))) none) (ne_eqb (cell 2 b i) 0 n)

  pub left_there : (i : ℕ) → i < length l → cell 2 b i ≡ 0 → get_or (matching_in l b).cells i none ≡ some (get_or l i (entry 0 0 0))
  left_there i h e = cell_there i h ∙ ap (λ k. cond k (some (get_or l i (entry 0 0 0))) none) (eq-eqb (cell 2 b i) 0 e)
