-- The lowest place as a number that is kept on the way: M, over all places, stands for none.
use Rattle.std.specs.Prelude.{ℕ, min, List, [], ◌∷◌}

abbrev pub least : ℕ → List ℕ → ℕ
least M [] = M
least M (p ∷ ps) = min p (least M ps)
