-- Laws of names: the bytes of the text, folded one after the other.
-- Assumes nothing.
use Prim.Native.Nat.{ℕ, suc, ◌+◌, ◌-◌, ◌<◌, ◌≤◌}
use mathlib.Core.Path.{◌≡◌, ◌∙◌}
use mathlib.Core.List.{List, [], ◌∷◌}
use native.Mathlib.Omega.{arith}
use lib.ListN.{length, get_or, take, drop, length-map, length-take, length-drop}
use lib.Seq.{drop-cons}
use Rattle.rules.specs.Text.Bytes.{fold}
use Rattle.records.specs.Holds.{size_byte, place_cell, folded_at}
use Rattle.lines.specs.Appended.{Appended}
use Rattle.lines.specs.Laws.Appended.{Left, all_left, less_left, none_left}
use Rattle.listing.specs.Standing.{name_bytes, NameStands}

pub folded_length : (text : List ℕ) (from n : ℕ) → from + n ≤ length text → length (folded_at text from n) ≡ n
folded_length text from n room =
    length-map (take n (drop from text)) fold ∙ length-take n (drop from text) ∙ omega (arith, length-drop from text)

-- a run of n bytes from `from` on, of which k are appended
module _ {before now : List ℕ} {start at : ℕ} (text : List ℕ) (from n k : ℕ)
    (l : Left before now start at (folded_at text from n) (folded_at text (from + k) (n - k))) (inside : from + n ≤ length text) where
  pub run_room : k < n → start + n ≤ length before → at < length now
  run_room h room = omega (arith, l.size, l.room, folded_length text from n inside, folded_length text (from + k) (n - k) (omega arith))

  pub run_less : {after : List ℕ} {r b : ℕ} → k < n → b ≡ fold (get_or text (from + k) 0) → Appended now after at r (b ∷ [])
      → Left before after start r (folded_at text from n) (folded_at text (from + (k + 1)) (n - (k + 1)))
  run_less {b = b} h e p =
      let more : n - k ≡ suc (n - (k + 1)) = omega arith in
      let next : from + (k + 1) ≡ suc (from + k) = omega arith in
      let within : from + k < length text = omega arith in
      let whole : folded_at text (from + k) (n - k) ≡ b ∷ folded_at text (from + (k + 1)) (n - (k + 1)) = rw (more, next, drop-cons text (from + k) 0 within, e) in
      less_left (rw whole at l) p

  pub run_done : n ≤ k → Appended before now start at (folded_at text from n)
  run_done h = let none : n - k ≡ 0 = omega arith in none_left (rw none at l)

pub run_starts : {buffer : List ℕ} {at : ℕ} (text : List ℕ) (from n : ℕ) → Left buffer buffer at at (folded_at text from n) (folded_at text (from + 0) (n - 0))
run_starts text from n = let same : from + 0 ≡ from = omega arith in let all : n - 0 ≡ n = omega arith in rw (same, all) all_left

-- the name p
module _ {text records : List ℕ} {p : ℕ} (s : NameStands text records p) {place size : ℕ} (is_place : place ≡ place_cell records p) (is_size : size ≡ size_byte records p) where
  pub name_inside : place + size ≤ length text
  name_inside = omega (arith, s.inside)

  pub name_put : {before after : List ℕ} {at r : ℕ} → Appended before after at r (folded_at text place size)
      → Appended before after at r (name_bytes text records p) × (r ≤ at + 64)
  name_put p = (rw (is_place, is_size) at p, omega (arith, p.size, folded_length text place size name_inside, s.short))
