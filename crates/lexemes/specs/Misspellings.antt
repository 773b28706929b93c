-- The refusals of a text at a place where neither nothing nor a token stands, as the code has them, and their numbers.
use Rattle.std.specs.Prelude.{ℕ, true, false, eqb}
use Rattle.lexemes.specs.declared.lexemes.Misspelling.{Misspelling}
use Rattle.lexemes.specs.declared.lexemes.Misspelling.TheVariants.{NotAllowed, LongName, BadConstant}

abbrev pub refusal_number : Misspelling → ℕ
refusal_number NotAllowed = 10
refusal_number LongName = 11
refusal_number BadConstant = 12

-- the one that has a number
abbrev pub misspelling : ℕ → Misspelling
misspelling m = elim (eqb m 11) [ true ↦ LongName | false ↦ elim (eqb m 12) [ true ↦ BadConstant | false ↦ NotAllowed ] ]
