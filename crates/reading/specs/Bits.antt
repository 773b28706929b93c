-- Sets of numbers below 256 as the bits of four words.
use Rattle.std.specs.Prelude.{ℕ, ◌/◌, ◌%◌, ◌^◌, ◌<◌, ◌≡◌, Bool, true, false, ◌&&◌, List, eqb, ltb, get_or}

-- the bit k of a number
abbrev pub bit : ℕ → ℕ → ℕ
bit a k = a / 2 ^ k % 2

-- whether the number k is in the set of the words w
unfoldable pub holds : List ℕ → ℕ → Bool
holds w k = ltb k 256 && eqb (bit (get_or w (k / 64) 0) (k % 64)) 1

-- Whether two words have a bit in common.
abbrev pub Common : Bool → ℕ → ℕ → Type 0
Common true a b = (k : ℕ) × (k < 64) × (bit a k ≡ 1) × (bit b k ≡ 1)
Common false a b = (k : ℕ) → bit a k ≡ 1 → bit b k ≡ 1 → ⊥
