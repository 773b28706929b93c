-- Laws of the lines of an array.
-- Assumes nothing.
use Prim.Native.Nat.{ℕ, suc, ◌+◌, ◌-◌, ◌*◌, ◌<◌, ◌≤◌}
use mathlib.Core.Path.{◌≡◌}
use mathlib.Core.List.{List, ◌++◌}
use native.Mathlib.Omega.{arith}
use borrow.Author.Tests.{lt-ltb, le-ltb}
use Rattle.cells.specs.Cells.{cell}
use Rattle.rules.specs.Declarations.{Word, Names, names, how_many}
use Rattle.lines.specs.Appended.{Appended}
use Rattle.lines.specs.Laws.Appended.{Left, all_left, less_left, none_left}
use Rattle.listing.specs.Listing.{array_line, name_at, array_lines}

-- names run down or up, and each of them is a number that fits
module _ (left right i : ℕ) (inside : i < how_many (names left right)) where
  pub down_fits : right < left → i ≤ left
  unfolding how_many
  down_fits h = omega arith

  pub up_fits : left ≤ right → left + i ≤ right
  unfolding how_many
  up_fits h = omega arith

  pub down_is : right < left → left - i ≡ name_at (names left right) i
  down_is h = rw (lt-ltb right left h)

  pub up_is : left ≤ right → left + i ≡ name_at (names left right) i
  up_is h = rw (le-ltb right left h)

-- i of n lines are appended
pub record ArrayLeft (before now : List ℕ) (start at : ℕ) (name : Word) (s : Names) (carriers : List ℕ) (w n i : ℕ) : Type 0 where
  pub within : i ≤ n
  pub reach : at ≤ start + 128 * i
  pub left : Left before now start at (array_lines name s carriers w 0 n) (array_lines name s carriers w i (n - i))

pub array_starts : {buffer : List ℕ} {at : ℕ} {name : Word} {s : Names} {carriers : List ℕ} {w n : ℕ} → ArrayLeft buffer buffer at at name s carriers w n 0
array_starts {n = n} = let all : n - 0 ≡ n = omega arith in record { within = omega arith; reach = omega arith; left = rw all all_left }

module _ {before now : List ℕ} {start at : ℕ} {name : Word} {s : Names} {carriers : List ℕ} {w n i : ℕ}
    (l : ArrayLeft before now start at name s carriers w n i) where
  pub array_less : {after : List ℕ} {r m v : ℕ} → i < n → m ≡ name_at s i → v ≡ cell 8 carriers (w + i)
      → Appended now after at r (array_line name m v) × (r ≤ at + 128) → ArrayLeft before after start r name s carriers w n (i + 1)
  unfolding array_lines
  array_less {m = m} {v} h e f (p, q) =
      let more : n - i ≡ suc (n - (i + 1)) = omega arith in
      let whole : array_lines name s carriers w i (n - i) ≡ array_line name m v ++ array_lines name s carriers w (i + 1) (n - (i + 1)) = rw (more, array_lines, e, f) in
      record { within = omega arith; reach = omega (arith, l.reach); left = less_left (rw whole at l.left) p }

  pub array_done : n ≤ i → Appended before now start at (array_lines name s carriers w 0 n) × (at ≤ start + 128 * n)
  unfolding array_lines
  array_done h =
      let none : n - i ≡ 0 = omega (arith, l.within) in
      (none_left (rw (none, array_lines) at l.left), omega (arith, l.within, l.reach))
