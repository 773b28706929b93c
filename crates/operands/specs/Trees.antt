-- The tree that a chain has come to, with the operands that wait.
use Rattle.std.specs.Prelude.{ℕ, List}
use Rattle.rules.specs.Grammar.Precedence.{Expr, leaf, node}
use Rattle.laws_grammar.specs.Cited.Shunting.{Waiting, looser, settled}

abbrev pub Waits : Type 0
Waits = List (Waiting Expr)

abbrev pub tree_left : ℕ → Waits → Expr → Waits
tree_left = looser node leaf

abbrev pub tree_settled : ℕ → Waits → Expr → Expr
tree_settled = settled node leaf
