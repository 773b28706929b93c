-- What binding asks of a tree: the operators bind as tightly as document 01 has it, and each associates to the left.
use Rattle.std.specs.Prelude.{List, ◌∷◌, ℕ, suc, ◌≤◌}
use Rattle.rules.specs.Grammar.Precedence.{tightness, Expr, leaf, node, Factor, Link, link}

-- a tree's first operand, and its links in front of others
abbrev pub head : Expr → Factor
head (leaf f) = f
head (node o i l r) = head l

abbrev pub links : Expr → List Link → List Link
links (leaf f) ks = ks
links (node o i l r) ks = links l (link o i (head r) ∷ links r ks)

-- every operator binds as tightly as n, one on its left as tightly as itself, and one on its right tighter
abbrev pub Tight : ℕ → Expr → Type 0
Tight n (leaf f) = Unit {0}
Tight n (node o i l r) = (n ≤ tightness o) × (Tight (tightness o) l × Tight (suc (tightness o)) r)
