-- A pattern and a range at the highest bit: which bit the pattern may have there, and what is left to be seen where only the upper bound has it.
use Rattle.std.specs.Prelude.{ℕ, ◌+◌, ◌/◌, ◌%◌, ◌^◌, Bool, ◌&&◌, ◌||◌, leb, eqb}

-- whether the bit n of a value of the pattern may be b
abbrev pub may : ℕ → ℕ → ℕ → ℕ → Bool
may b n v f = eqb (f / 2 ^ n % 2) 1 || eqb (v / 2 ^ n % 2) b

-- where only h has the bit n: a value without it must reach l, or one with it must not pass h
abbrev pub either_way : Bool → Bool → ℕ → ℕ → ℕ → ℕ → Bool
either_way without with v f l h = (without && leb l (v + f)) || (with && leb v h)
