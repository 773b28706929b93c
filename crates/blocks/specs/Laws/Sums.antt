-- Laws of the check: it is below 2^32, and one changed byte changes it; numbers and their bytes.
-- Assumes nothing.
use Rattle.std.specs.Prelude.{ℕ, zero, suc, ◌+◌, ◌*◌, ◌/◌, ◌^◌, ◌<◌, ◌≤◌, ◌≡◌, refl, List, [], ◌∷◌, ◌++◌, length, get_or, take, set}
use Rattle.std.proofs.Common.{sym, ap, ◌∙◌, arith, mul-le-mul, length-set, take_all, get_or-set_same}
use Rattle.std.proofs.Math.Nat.{eq_of_mul-eq-mul_right, pow-succ'}
use Rattle.rules.specs.Answers.{little_endian, bytes_of}
use Rattle.buffers.specs.Laws.Buffers.{bytes_back}
use Rattle.rules.specs.Images.{weighed, check_of}

-- every element is a byte
abbrev pub Bytes : List ℕ → Type 0
Bytes bs = (i : ℕ) → get_or bs i 0 < 256

pub length_bytes : (w v : ℕ) → length (bytes_of w v) ≡ w
unfolding bytes_of
length_bytes zero v = refl
length_bytes (suc w) v = ap suc (length_bytes w (v / 256))

pub number_front : (w v : ℕ) (rest : List ℕ) → v < 256 ^ w → little_endian w (bytes_of w v ++ rest) ≡ v
unfolding little_endian bytes_of
number_front zero v rest h = omega arith
number_front (suc w) v rest h = let e : little_endian w (bytes_of w (v / 256) ++ rest) ≡ v / 256 = number_front w (v / 256) rest (omega (arith, pow-succ' 256 w)) in omega arith

-- the weight of a byte
pub weight_bounded : (b p : ℕ) → b < 256 → p < 508 → b * (p + 1) ≤ 129540
weight_bounded b p hb hp = mul-le-mul {n₁ = b} {m₁ = p + 1} {n₂ = 255} {m₂ = 508} (omega arith) (omega arith)

pub weighed_bounded : (p : ℕ) (bs : List ℕ) → Bytes bs → p + length bs ≤ 508 → weighed p bs ≤ 129540 * length bs
unfolding weighed
weighed_bounded p [] each l = omega arith
weighed_bounded p (b ∷ bs) each l =
    omega (arith, weight_bounded b p (each 0) (omega arith), weighed_bounded (p + 1) bs (λ i. each (suc i)) (omega arith))

pub check_bounded : (bs : List ℕ) → Bytes bs → length bs ≤ 508 → check_of bs < 4294967296
check_bounded bs each l = omega (arith, weighed_bounded 0 bs each (omega arith))

-- one byte more or less counts by its weight
weighed_set : (p : ℕ) (bs : List ℕ) (j v : ℕ) → j < length bs → weighed p (set bs j v) + get_or bs j 0 * (p + j + 1) ≡ weighed p bs + v * (p + j + 1)
unfolding weighed
weighed_set p [] j v h = absurd (omega arith)
weighed_set p (b ∷ bs) zero v h = omega arith
weighed_set p (b ∷ bs) (suc j) v h =
    let e : p + 1 + j + 1 ≡ p + suc j + 1 = omega arith in
    let r = rw e at (weighed_set (p + 1) bs j v (omega arith)) in
    omega arith

pub check_changed : (bs : List ℕ) (j v : ℕ) → j < length bs → (v ≡ get_or bs j 0 → ⊥) → check_of (set bs j v) ≡ check_of bs → ⊥
check_changed bs j v h ne e = ne (eq_of_mul-eq-mul_right (j + 1) (omega arith) v (get_or bs j 0) (same (weighed_set 0 bs j v h)))
  where
    same : weighed 0 (set bs j v) + get_or bs j 0 * (0 + j + 1) ≡ weighed 0 bs + v * (0 + j + 1) → v * (j + 1) ≡ get_or bs j 0 * (j + 1)
    same r = let z : 0 + j + 1 ≡ j + 1 = omega arith in let r' = rw z at r in omega arith

-- numbers of w bytes that are equal have equal bytes
pub number_changed : (w : ℕ) (bs : List ℕ) (j v : ℕ) → length bs ≡ w → Bytes bs → Bytes (set bs j v) → j < w → (v ≡ get_or bs j 0 → ⊥)
    → little_endian w (set bs j v) ≡ little_endian w bs → ⊥
number_changed w bs j v l each each' h ne e =
    let same : take w (set bs j v) ≡ take w bs =
    sym (bytes_back w (set bs j v) (omega (arith, length-set bs j v)) each') ∙ ap (bytes_of w) e ∙ bytes_back w bs (omega arith) each in
    let whole : set bs j v ≡ bs = sym (take_all w (set bs j v) (omega (arith, length-set bs j v))) ∙ same ∙ take_all w bs (omega arith) in
    ne (sym (get_or-set_same bs j v 0 (omega arith)) ∙ ap (λ l. get_or l j 0) whole)
