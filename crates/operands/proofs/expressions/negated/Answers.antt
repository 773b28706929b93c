-- `operands::expressions::negated` meets its contract, by the number of NOTs.
-- Assumes nothing.
use borrow.Author.Tests.{eq-eqb, ne_eqb}
use mathlib.Core.Path.{refl}
use Prim.Native.Nat.{◌%◌}
use Rattle.operands.proofs.expressions.negated.Goals as goal

pub returns-then-nots-eq0 : goal.returns-then-nots-eq0
returns-then-nots-eq0 c = rw (eq-eqb (c.args.nots % 2) 0 c.if-nots-eq0.true) refl

pub returns : goal.returns
returns c = rw (ne_eqb (c.args.nots % 2) 0 c.if-nots-eq0.false, c.invert.ensures) refl
