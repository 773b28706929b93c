-- `patterns::meets::weight` meets its contract: the shift loses no bit.
-- Assumes nothing.
use borrow.Author.Rules.{rules}
use native.Mathlib.Nat.{one-mul}
use mathlib.Core.Path.{◌∙◌}
use lib.Dec.{lit<}
use lib.Pow.{shl_exact}
use Rattle.patterns.proofs.meets.weight.Goals as goal

pub returns : goal.returns
returns c = shl_exact 1 c.args.n 64 (lit< tt) (search rules) ∙ one-mul _
