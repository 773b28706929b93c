-- Numbers as digits.
use Rattle.std.specs.Prelude.{ℕ, zero, suc, ◌+◌, ◌/◌, ◌%◌, true, false, List, [], ◌∷◌, ◌++◌, ltb}

-- the decimal digits of n, as many as it takes, but the last k at most
unfoldable pub decimal_in : ℕ → ℕ → List ℕ
decimal_in zero n = []
decimal_in (suc k) n = elim (ltb n 10) [ true ↦ (48 + n) ∷ [] | false ↦ decimal_in k (n / 10) ++ ((48 + n % 10) ∷ []) ]

-- every number of 64 bits has at most 20 of them
abbrev pub decimal_bytes : ℕ → List ℕ
decimal_bytes n = decimal_in 20 n

-- a digit below 16: `0` to `9`, then `A` to `F`
unfoldable pub hex_digit : ℕ → ℕ
hex_digit d = elim (ltb d 10) [ true ↦ 48 + d | false ↦ 65 + d % 10 ]

-- the last k hexadecimal digits of n
unfoldable pub hex_in : ℕ → ℕ → List ℕ
hex_in zero n = []
hex_in (suc k) n = hex_in k (n / 16) ++ (hex_digit (n % 16) ∷ [])

-- a number of 64 bits in 16 digits, in capitals
abbrev pub hex_capitals : ℕ → List ℕ
hex_capitals n = hex_in 16 n
