-- Sets of numbers below 256 as four words.
use Rattle.std.specs.Prelude.{ℕ, ◌/◌, ◌%◌, ◌^◌, Bool, List, eqb, get_or, set}
use Rattle.std.specs.Int.Bits.{bit_or}

-- whether i is in the set
unfoldable pub holds : List ℕ → ℕ → Bool
holds w i = eqb (get_or w (i / 64) 0 / 2 ^ (i % 64) % 2) 1

-- the set with i
unfoldable pub added : List ℕ → ℕ → List ℕ
added w i = set w (i / 64) (bit_or (get_or w (i / 64) 0) (2 ^ (i % 64)))
