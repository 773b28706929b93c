-- The laws of a table of cells, each for every width w: a cell that was put is read back, every other is unchanged, and so is the length.
-- Assumes nothing.
use Rattle.std.specs.Prelude.{◌≡◌, refl, List, ℕ, zero, suc, ◌+◌, ◌*◌, ◌/◌, ◌%◌, ◌^◌, ◌<◌, ◌≤◌, length, get_or, set}
use Rattle.std.proofs.Common.{sym, ap, ◌∙◌, zero-add, mul-suc, mul-le-mul_left, arith, length-set, get_or-set_same, get_or-set_other, ext_get_or}
use Rattle.std.proofs.Math.Nat.{pow-succ'}
use Rattle.std.proofs.Math.Decide.{dec_lt}
use Rattle.cells.specs.Cells.{le_at, put_at, cell, put_cell, cells_from, cells}

pub length_put : (w : ℕ) (b : List ℕ) (o v : ℕ) → length (put_at w b o v) ≡ length b
unfolding put_at
length_put zero b o v = refl
length_put (suc w) b o v = length_put w (set b o (v % 256)) (o + 1) (v / 256) ∙ length-set b o (v % 256)

-- a byte before the cell, or past it
pub get_or_put_below : (w : ℕ) (b : List ℕ) (o v k : ℕ) → k < o → get_or (put_at w b o v) k 0 ≡ get_or b k 0
unfolding put_at
get_or_put_below zero b o v k h = refl
get_or_put_below (suc w) b o v k h =
    get_or_put_below w (set b o (v % 256)) (o + 1) (v / 256) k (omega arith)
    ∙ get_or-set_other b o k (v % 256) 0 (λ e. omega arith)

pub get_or_put_above : (w : ℕ) (b : List ℕ) (o v k : ℕ) → o + w ≤ k → get_or (put_at w b o v) k 0 ≡ get_or b k 0
unfolding put_at
get_or_put_above zero b o v k h = refl
get_or_put_above (suc w) b o v k h =
    get_or_put_above w (set b o (v % 256)) (o + 1) (v / 256) k (omega arith)
    ∙ get_or-set_other b o k (v % 256) 0 (λ e. omega arith)

-- the cell that was put
pub le_put_same : (w : ℕ) (b : List ℕ) (o v : ℕ) → o + w ≤ length b → v < 256 ^ w → le_at w (put_at w b o v) o ≡ v
unfolding le_at put_at
le_put_same zero b o v h fits = omega arith
le_put_same (suc w) b o v h fits =
    let first : get_or (put_at w (set b o (v % 256)) (o + 1) (v / 256)) o 0 ≡ v % 256
    = get_or_put_below w (set b o (v % 256)) (o + 1) (v / 256) o (omega arith) ∙ get_or-set_same b o (v % 256) 0 (omega arith) in
    let rest : le_at w (put_at w (set b o (v % 256)) (o + 1) (v / 256)) (o + 1) ≡ v / 256
    = le_put_same w (set b o (v % 256)) (o + 1) (v / 256) (simp length-set (omega arith)) (omega (arith, pow-succ' 256 w)) in
    omega arith

-- a number whose n bytes lie before the cell, or past it
pub le_put_below : (n w : ℕ) (b : List ℕ) (o v k : ℕ) → k + n ≤ o → le_at n (put_at w b o v) k ≡ le_at n b k
unfolding le_at
le_put_below zero w b o v k h = refl
le_put_below (suc n) w b o v k h =
    let first : get_or (put_at w b o v) k 0 ≡ get_or b k 0 = get_or_put_below w b o v k (omega arith) in
    let rest : le_at n (put_at w b o v) (k + 1) ≡ le_at n b (k + 1) = le_put_below n w b o v (k + 1) (omega arith) in
    omega arith

pub le_put_above : (n w : ℕ) (b : List ℕ) (o v k : ℕ) → o + w ≤ k → le_at n (put_at w b o v) k ≡ le_at n b k
unfolding le_at
le_put_above zero w b o v k h = refl
le_put_above (suc n) w b o v k h =
    let first : get_or (put_at w b o v) k 0 ≡ get_or b k 0 = get_or_put_above w b o v k (omega arith) in
    let rest : le_at n (put_at w b o v) (k + 1) ≡ le_at n b (k + 1) = le_put_above n w b o v (k + 1) (omega arith) in
    omega arith

-- a cell that is put is read back, every other is as before, and there are as many bytes
pub cell_same : (w : ℕ) (b : List ℕ) (i v : ℕ) → w * i + w ≤ length b → v < 256 ^ w → cell w (put_cell w b i v) i ≡ v
cell_same w b i v room fits = le_put_same w b (w * i) v room fits

pub cell_other : (w : ℕ) (b : List ℕ) (i v j : ℕ) → (j ≡ i → ⊥) → cell w (put_cell w b i v) j ≡ cell w b j
cell_other w b i v j other = by (dec_lt j i)
  where
    by : Dec (j < i) → cell w (put_cell w b i v) j ≡ cell w b j
    by (yes l) = le_put_below w w b (w * i) v (w * j) (omega (arith, mul-suc w j, mul-le-mul_left w l))
    by (no l) = let g : i < j = omega (arith, other) in le_put_above w w b (w * i) v (w * j) (omega (arith, mul-suc w i, mul-le-mul_left w g))

pub long_put : (w : ℕ) (b : List ℕ) (i v : ℕ) → length (put_cell w b i v) ≡ length b
long_put w b i v = length_put w b (w * i) v

-- the same of bytes that are new
module _ (w : ℕ) (old new : List ℕ) (k v : ℕ) (put : new ≡ put_cell w old k v) where
  pub put_size : length new ≡ length old
  put_size = ap length put ∙ long_put w old k v

  pub put_same : (j : ℕ) → (j ≡ k → ⊥) → cell w new j ≡ cell w old j
  put_same j n = ap (λ b. cell w b j) put ∙ cell_other w old k v j n

  pub put_here : w * k + w ≤ length old → v < 256 ^ w → cell w new k ≡ v
  put_here room fits = ap (λ b. cell w b k) put ∙ cell_same w old k v room fits

-- the table as a list: as long as it says, its elements are the cells, and a put is a `set`
pub length_cells : (w : ℕ) (b : List ℕ) (o n : ℕ) → length (cells_from w b o n) ≡ n
unfolding cells_from
length_cells w b o zero = refl
length_cells w b o (suc n) = ap suc (length_cells w b (o + w) n)

pub cells_at : (w : ℕ) (b : List ℕ) (o n i : ℕ) → i < n → get_or (cells_from w b o n) i 0 ≡ le_at w b (o + w * i)
unfolding cells_from
cells_at w b o zero i h = absurd (omega arith)
cells_at w b o (suc n) zero h = ap (le_at w b) (omega arith)
cells_at w b o (suc n) (suc i) h = cells_at w b (o + w) n i (omega arith) ∙ ap (le_at w b) (omega (arith, mul-suc w i))

pub cells_put : (w n : ℕ) (b : List ℕ) (i v : ℕ) → i < n → w * n ≤ length b → v < 256 ^ w
    → cells w n (put_cell w b i v) ≡ set (cells w n b) i v
cells_put w n b i v h room fits =
    ext_get_or 0 (cells w n (put_cell w b i v)) (set (cells w n b) i v)
    (length_cells w (put_cell w b i v) 0 n ∙ sym (length-set (cells w n b) i v ∙ length_cells w b 0 n))
    (λ j l. each j (rw length_cells at l) (dec_lt j i) (dec_lt i j))
  where
    same : get_or (cells w n (put_cell w b i v)) i 0 ≡ get_or (set (cells w n b) i v) i 0
    same =
        cells_at w (put_cell w b i v) 0 n i h
        ∙ ap (le_at w (put_cell w b i v)) (zero-add (w * i))
        ∙ le_put_same w b (w * i) v (omega (arith, mul-suc w i, mul-le-mul_left w h)) fits
        ∙ sym (get_or-set_same (cells w n b) i v 0 (rw length_cells h))

    there : (j : ℕ) → j < n → (j ≡ i → ⊥) → le_at w (put_cell w b i v) (0 + w * j) ≡ le_at w b (0 + w * j)
        → get_or (cells w n (put_cell w b i v)) j 0 ≡ get_or (set (cells w n b) i v) j 0
    there j l ne e =
        cells_at w (put_cell w b i v) 0 n j l ∙ e ∙ sym (get_or-set_other (cells w n b) i j v 0 ne ∙ cells_at w b 0 n j l)

    each : (j : ℕ) → j < n → Dec (j < i) → Dec (i < j) → get_or (cells w n (put_cell w b i v)) j 0 ≡ get_or (set (cells w n b) i v) j 0
    each j l (yes lt) _ =
        there j l (λ e. omega arith) (le_put_below w w b (w * i) v (0 + w * j) (omega (arith, mul-suc w j, mul-le-mul_left w lt)))
    each j l (no _) (yes gt) =
        there j l (λ e. omega arith) (le_put_above w w b (w * i) v (0 + w * j) (omega (arith, mul-suc w i, mul-le-mul_left w gt)))
    each j l (no nlt) (no ngt) = let e : j ≡ i = omega arith in rw e same

pub cells_get : (w n : ℕ) (b : List ℕ) (i : ℕ) → i < n → get_or (cells w n b) i 0 ≡ le_at w b (w * i)
cells_get w n b i h = cells_at w b 0 n i h ∙ ap (le_at w b) (zero-add (w * i))
