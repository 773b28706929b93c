-- Laws of constants: when the code knows one, and a decimal behind digits that are read.
use Rattle.std.specs.Prelude.{ℕ, ◌^◌, ◌≡◌, refl, Bool, true, false, ◌&&◌, List, ltb}
use Rattle.rules.specs.Text.Constants.{Constant, malformed, constant, all, is_digit_of, value_from, decimal_bits}
use Rattle.lexemes.specs.Numbers.{known}

pub known_by : (r : Bool) (v f n : ℕ) → known r v f n ≡ elim r [ true ↦ constant v f n | false ↦ malformed ]
known_by true v f n = refl
known_by false v f n = refl

-- the digits of a decimal behind those of value v
abbrev pub decimal_from : ℕ → List ℕ → Constant
decimal_from v ds = known (all (is_digit_of 10) ds && ltb (value_from 10 v ds) (2 ^ 64)) (value_from 10 v ds) 0 (decimal_bits (value_from 10 v ds))
