-- `blocks::blocks::is_checked` meets its contract.
-- Assumes nothing.
use mathlib.Core.Path.{sym, ap₂}
use native.Mathlib.Omega.{arith}
use lib.Dec.{eqb}
use lib.Seq.{length-take-le}
use Rattle.rules.specs.Images.{is_checked}
use Rattle.blocks.proofs.blocks.is_checked.Goals as goal

pub slice_bounds-check_of-end : goal.slice_bounds-check_of-end
slice_bounds-check_of-end c = sym (length-take-le 508 c.args.block.now (omega arith))

pub check_of-requires : goal.check_of-requires
check_of-requires c = length-take-le 508 c.args.block.now (omega arith)

pub returns : goal.returns
unfolding is_checked
returns c = ap₂ eqb c.stored_check.ensures c.check_of.ensures.0
