-- Laws of numbers written into lent bytes.
-- Assumes nothing.
use Rattle.std.specs.Prelude.{ℕ, zero, suc, ◌+◌, ◌*◌, ◌/◌, ◌%◌, ◌<◌, ◌≤◌, ◌≡◌, refl, List, [], ◌∷◌, ◌++◌, length, drop, set}
use Rattle.std.proofs.Common.{sym, ap, ap₂, ◌∙◌, append_assoc, arith, length-drop, length-append, drop-drop}
use Rattle.cells.specs.Cells.{put_at, put_cell}
use Rattle.rules.specs.Answers.{bytes_of}
use Rattle.rules.specs.Calls.Memory.{number_bytes, answered}

set_behind : (front rest : List ℕ) (o x y : ℕ) → o ≡ length front → set (front ++ (y ∷ rest)) o x ≡ front ++ (x ∷ rest)
set_behind [] rest zero x y e = refl
set_behind [] rest (suc o) x y e = absurd (omega arith)
set_behind (z ∷ front) rest zero x y e = absurd (omega arith)
set_behind (z ∷ front) rest (suc o) x y e = ap (λ l. z ∷ l) (set_behind front rest o x y (omega arith))

-- w bytes of a number, put behind a front
pub put_behind : (w : ℕ) (front rest : List ℕ) (o v : ℕ) → o ≡ length front → w ≤ length rest → put_at w (front ++ rest) o v ≡ front ++ (bytes_of w v ++ drop w rest)
unfolding put_at bytes_of
put_behind zero front rest o v e l = refl
put_behind (suc w) front [] o v e l = absurd (omega arith)
put_behind (suc w) front (y ∷ rest) o v e l =
    let front' = front ++ (v % 256 ∷ []) in
    let here : set (front ++ (y ∷ rest)) o (v % 256) ≡ front' ++ rest = set_behind front rest o (v % 256) y e ∙ sym (append_assoc front (v % 256 ∷ []) rest) in
    ap (λ b. put_at w b (o + 1) (v / 256)) here ∙ put_behind w front' rest (o + 1) (v / 256) (omega (arith, length-append front (v % 256 ∷ []))) (omega arith)
    ∙ append_assoc front (v % 256 ∷ []) (bytes_of w (v / 256) ++ drop w rest)

-- the lowest byte of a sum, and the rest
pub byte_step : (x l k : ℕ) → x ≡ l + 256 * k → (x % 256 ≡ l % 256) × (x / 256 ≡ l / 256 + k)
byte_step x l k e = (omega arith, omega arith)

-- two numbers of 32 bits in one of 64
bytes_pair : (low high : ℕ) → low < 4294967296 → bytes_of 8 (low + 4294967296 * high) ≡ bytes_of 4 low ++ bytes_of 4 high
unfolding bytes_of
bytes_pair low high l =
    let x = low + 4294967296 * high in
    let s₀ = byte_step x low (16777216 * high) (omega arith) in
    let s₁ = byte_step (x / 256) (low / 256) (65536 * high) (omega (arith, s₀.1)) in
    let s₂ = byte_step (x / 256 / 256) (low / 256 / 256) (256 * high) (omega (arith, s₁.1)) in
    let s₃ = byte_step (x / 256 / 256 / 256) (low / 256 / 256 / 256) high (omega (arith, s₂.1)) in
    let e₄ : x / 256 / 256 / 256 / 256 ≡ high = s₃.1 ∙ omega arith in
    rw (s₀.0, s₁.0, s₂.0, s₃.0, e₄) refl

pub pair_put : (front before now : List ℕ) (o i low high : ℕ) → now ≡ front ++ drop o before → o ≡ length front → o ≡ 8 * i → o + 8 ≤ length before → low < 4294967296
    → put_cell 8 now i (low + 4294967296 * high) ≡ (front ++ (bytes_of 4 low ++ bytes_of 4 high)) ++ drop (o + 8) before
pair_put front before now o i low high is e at room l =
    let v = low + 4294967296 * high in
    ap₂ (λ b k. put_at 8 b k v) is (sym at) ∙ put_behind 8 front (drop o before) o v e (omega (arith, length-drop o before))
    ∙ ap₂ (λ x y. front ++ (x ++ y)) (bytes_pair low high l) (drop-drop 8 o before)
    ∙ sym (append_assoc front (bytes_of 4 low ++ bytes_of 4 high) (drop (o + 8) before))

-- the answer, pair by pair
pub answer_put : (before b₁ b₂ b₃ after : List ℕ) (x₀ x₁ x₂ x₃ x₄ x₅ x₆ x₇ : ℕ) → 32 ≤ length before
    → x₀ < 4294967296 → x₂ < 4294967296 → x₄ < 4294967296 → x₆ < 4294967296
    → b₁ ≡ put_cell 8 before 0 (x₀ + 4294967296 * x₁) → b₂ ≡ put_cell 8 b₁ 1 (x₂ + 4294967296 * x₃) → b₃ ≡ put_cell 8 b₂ 2 (x₄ + 4294967296 * x₅)
    → after ≡ put_cell 8 b₃ 3 (x₆ + 4294967296 * x₇) → after ≡ answered (x₀ ∷ x₁ ∷ x₂ ∷ x₃ ∷ x₄ ∷ x₅ ∷ x₆ ∷ x₇ ∷ []) before
unfolding answered number_bytes bytes_of
answer_put before b₁ b₂ b₃ after x₀ x₁ x₂ x₃ x₄ x₅ x₆ x₇ room l₀ l₂ l₄ l₆ e₁ e₂ e₃ e₄ =
    let front₁ = bytes_of 4 x₀ ++ bytes_of 4 x₁ in
    let front₂ = front₁ ++ (bytes_of 4 x₂ ++ bytes_of 4 x₃) in
    let front₃ = front₂ ++ (bytes_of 4 x₄ ++ bytes_of 4 x₅) in
    let f₁ : b₁ ≡ front₁ ++ drop 8 before = e₁ ∙ pair_put [] before before 0 0 x₀ x₁ refl refl refl (omega arith) l₀ in
    let f₂ : b₂ ≡ front₂ ++ drop 16 before = e₂ ∙ pair_put front₁ before b₁ 8 1 x₂ x₃ f₁ refl refl (omega arith) l₂ in
    let f₃ : b₃ ≡ front₃ ++ drop 24 before = e₃ ∙ pair_put front₂ before b₂ 16 2 x₄ x₅ f₂ refl refl (omega arith) l₄ in
    e₄ ∙ pair_put front₃ before b₃ 24 3 x₆ x₇ f₃ refl refl (omega arith) l₆
