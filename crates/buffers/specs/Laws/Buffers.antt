-- Laws of carrier buffers: their words are their cells of 8 bytes, and a buffer of whole words is the buffer of these words.
-- Assumes nothing.
use Rattle.std.specs.Prelude.{ℕ, zero, suc, ◌+◌, ◌*◌, ◌/◌, ◌%◌, ◌<◌, ◌≤◌, ◌≡◌, refl, List, [], ◌∷◌, ◌++◌, length, get_or, take, drop}
use Rattle.std.proofs.Common.{sym, ap, ap₂, ◌∙◌, arith, length-drop, take-append-drop, drop-drop, get_or-drop}
use Rattle.cells.specs.Cells.{le_at, cells_from, cells}
use Rattle.rules.specs.Answers.{little_endian, words_from, bytes_of, buffer_of}

-- a number that is read at o, and the bytes from o on
no_bytes : (n : ℕ) → little_endian n [] ≡ 0
unfolding little_endian
no_bytes zero = refl
no_bytes (suc n) = refl

first_byte : (n : ℕ) (bs : List ℕ) → little_endian (suc n) bs ≡ get_or bs 0 0 + 256 * little_endian n (drop 1 bs)
unfolding little_endian
first_byte n [] = omega (arith, no_bytes n)
first_byte n (b ∷ bs) = refl

pub number_at : (n : ℕ) (b : List ℕ) (o : ℕ) → le_at n b o ≡ little_endian n (drop o b)
unfolding little_endian le_at
number_at zero b o = refl
number_at (suc n) b o =
    let first : get_or (drop o b) 0 0 ≡ get_or b o 0 = get_or-drop o b 0 0 ∙ ap (λ (i : ℕ). get_or b i 0) (omega arith) in
    let rest : le_at n b (o + 1) ≡ little_endian n (drop 1 (drop o b)) = number_at n b (o + 1) ∙ ap (little_endian n) (sym (drop-drop 1 o b)) in
    omega (arith, first_byte n (drop o b))

words_at : (n : ℕ) (b : List ℕ) (o : ℕ) → cells_from 8 b o n ≡ words_from n (drop o b)
unfolding cells_from words_from
words_at zero b o = refl
words_at (suc n) b o = ap₂ ◌∷◌ (number_at 8 b o) (words_at n b (o + 8) ∙ ap (words_from n) (sym (drop-drop 8 o b)))

-- the words of a buffer are its cells
pub words_cells : (n : ℕ) (b : List ℕ) → cells 8 n b ≡ words_from n b
words_cells n b = words_at n b 0

pub bytes_back : (n : ℕ) (b : List ℕ) → n ≤ length b → ((i : ℕ) → get_or b i 0 < 256) → bytes_of n (little_endian n b) ≡ take n b
unfolding little_endian bytes_of
bytes_back zero b l each = refl
bytes_back (suc n) [] l each = absurd (omega arith)
bytes_back (suc n) (b ∷ bs) l each =
    let low : (b + 256 * little_endian n bs) % 256 ≡ b = omega (arith, each 0) in
    let high : (b + 256 * little_endian n bs) / 256 ≡ little_endian n bs = omega (arith, each 0) in
    ap₂ ◌∷◌ low (ap (bytes_of n) high ∙ bytes_back n bs (omega arith) (λ i. each (suc i)))

-- a buffer of whole words is the buffer of its words
pub buffer_back : (n : ℕ) (b : List ℕ) → length b ≡ 8 * n → ((i : ℕ) → get_or b i 0 < 256) → buffer_of (words_from n b) ≡ b
unfolding words_from buffer_of
buffer_back zero [] l each = refl
buffer_back zero (x ∷ b) l each = absurd (omega arith)
buffer_back (suc n) b l each =
    ap₂ ◌++◌ (bytes_back 8 b (omega arith) each)
    (buffer_back n (drop 8 b) (omega (arith, length-drop 8 b)) (λ i. rw get_or-drop (each (8 + i))))
    ∙ take-append-drop 8 b
