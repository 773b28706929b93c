-- The eight numbers of an answer, in their order.
use Rattle.std.specs.Prelude.{ℕ, List, [], ◌∷◌}
use Rattle.lent.specs.declared.answers.Answer.{Answer}

abbrev pub numbers_of : Answer → List ℕ
numbers_of a = a.ending ∷ a.number ∷ a.place ∷ a.steps ∷ a.fourth ∷ a.fifth ∷ a.line ∷ a.column ∷ []
