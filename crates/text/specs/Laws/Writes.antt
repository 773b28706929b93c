-- Laws of cells that are written one after the other, each for every width w: they are read back, and every other byte and the length stay.
use Rattle.std.specs.Prelude.{◌≡◌, ℕ, ◌+◌, ◌*◌, ◌^◌, ◌<◌, ◌≤◌, get_or}
use Rattle.std.proofs.Math.Path.{refl}
use Rattle.std.proofs.Common.{◌∙◌, mul-suc, mul-zero, zero-add, add-one}
use mathlib.Core.List.{List, [], ◌∷◌}
use Rattle.std.proofs.Math.Nat.{mul-le-mul_left}
use native.Mathlib.Omega.{arith}
use Rattle.std.proofs.Math.ListN.{length}
use Rattle.cells.specs.Cells.{le_at, put_cell, cells_from, cells}
use Rattle.cells.proofs.Laws.{length_put, get_or_put_below, le_put_same, le_put_below}
use Rattle.text.specs.Table.{write_cells}

-- numbers that fit cells of w bytes
abbrev pub Fitting : ℕ → List ℕ → Type 0
Fitting w [] = Unit
Fitting w (v ∷ vs) = (v < 256 ^ w) × Fitting w vs

module _ (w : ℕ) where
  next : (i : ℕ) → w * (i + 1) ≡ w * i + w
  next i = rw add-one (mul-suc w i)

  pub length_written : (b : List ℕ) (i : ℕ) (vs : List ℕ) → length (write_cells w b i vs) ≡ length b
  unfolding write_cells
  length_written b i [] = refl
  length_written b i (v ∷ vs) = length_written (put_cell w b i v) (i + 1) vs ∙ length_put w b (w * i) v

  pub before_written : (b : List ℕ) (i : ℕ) (vs : List ℕ) (k : ℕ) → k < w * i → get_or (write_cells w b i vs) k 0 ≡ get_or b k 0
  unfolding write_cells
  before_written b i [] k h = refl
  before_written b i (v ∷ vs) k h =
      before_written (put_cell w b i v) (i + 1) vs k (omega (arith, next i)) ∙ get_or_put_below w b (w * i) v k h

  -- a number whose n bytes lie before the cells
  le_before : (n : ℕ) (b : List ℕ) (i : ℕ) (vs : List ℕ) (o : ℕ) → o + n ≤ w * i → le_at n (write_cells w b i vs) o ≡ le_at n b o
  unfolding write_cells
  le_before n b i [] o h = refl
  le_before n b i (v ∷ vs) o h = le_before n (put_cell w b i v) (i + 1) vs o (omega (arith, next i)) ∙ le_put_below n w b (w * i) v o h

  written_from : (b : List ℕ) (i : ℕ) (vs : List ℕ) → w * (i + length vs) ≤ length b → Fitting w vs
      → cells_from w (write_cells w b i vs) (w * i) (length vs) ≡ vs
  unfolding write_cells cells_from
  written_from b i [] room fits = refl
  written_from b i (v ∷ vs) room fits =
      let size : i + length (v ∷ vs) ≡ i + 1 + length vs = omega arith in
      let more : w * (i + 1 + length vs) ≤ length b = rw size at room in
      let here : w * (i + 1) ≤ w * (i + 1 + length vs) = mul-le-mul_left w (omega arith) in
      let first : le_at w (write_cells w (put_cell w b i v) (i + 1) vs) (w * i) ≡ v
      = le_before w (put_cell w b i v) (i + 1) vs (w * i) (omega (arith, next i)) ∙ le_put_same w b (w * i) v (omega (arith, next i)) fits.0 in
      let rest : cells_from w (write_cells w (put_cell w b i v) (i + 1) vs) (w * i + w) (length vs) ≡ vs
      = rw next at (written_from (put_cell w b i v) (i + 1) vs (rw length_put more) fits.1) in
      rw (first, rest)

  -- the cells that were written, from the first cell on
  pub written : (b vs : List ℕ) → w * length vs ≤ length b → Fitting w vs → cells w (length vs) (write_cells w b 0 vs) ≡ vs
  written b vs room fits = rw mul-zero at (written_from b 0 vs (rw zero-add room) fits)
