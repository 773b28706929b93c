-- The rules' constants as the values that the code hands about.
use Rattle.std.specs.Prelude.{ℕ, zero, suc, Bool, true, false, List, Option, Some, None, Result, Ok, Err}
use Rattle.rules.specs.Text.Constants.{Constant, malformed, constant, all, is_based_digit, value_from, free_from}
use Rattle.lexemes.specs.declared.constants.Number.{Number}
use Rattle.lexemes.specs.declared.lexemes.Lexeme.{Lexeme}
use Rattle.lexemes.specs.declared.lexemes.Lexeme.TheVariants.{Token as Found}
use Rattle.lexemes.specs.declared.lexemes.Misspelling.{Misspelling}
use Rattle.lexemes.specs.declared.lexemes.Misspelling.TheVariants.{BadConstant}

abbrev pub number_of : Constant → Option Number
number_of malformed = None
number_of (constant v f n) = Some (record { value = v; free = f; bits = n })

-- a constant where a test holds
abbrev pub known : Bool → ℕ → ℕ → ℕ → Constant
known true v f n = constant v f n
known false v f n = malformed

-- digits of a base, n bits in all, behind those of value v and free bits f
abbrev pub based_from : ℕ → ℕ → ℕ → ℕ → List ℕ → Constant
based_from base n v f ds = known (all (is_based_digit base) ds) (value_from base v ds) (free_from base f ds) n

abbrev pub based_digits : ℕ → ℕ → List ℕ → Constant
based_digits base n ds = based_from base n 0 0 ds

-- the number of a constant's kind: one that has free bits has a `?`
abbrev pub free_kind : ℕ → ℕ
free_kind zero = 1
free_kind (suc f) = 2

abbrev pub constant_of : ℕ → Option Number → Result Lexeme Misspelling
constant_of more None = Err BadConstant
constant_of more (Some n) = Ok (Found (record { more = more; kind = free_kind n.free; size = n.bits; value = n.value; free = n.free }))
