-- The instruction of a number.
use Rattle.std.specs.Prelude.{ℕ, true, false, List, [], ◌∷◌, eqb}
use Rattle.laws_orders.specs.Cited.Flat.{exit, Instr, go_i}
use Rattle.laws_code.specs.Cited.Code.{Numbered}

-- the instruction of a number; a number that none has goes out of the body
unfoldable pub fetch : List Numbered → ℕ → Instr
fetch [] n = go_i exit
fetch (x ∷ xs) n = elim (eqb x.number n) [ true ↦ x.instr | false ↦ fetch xs n ]
