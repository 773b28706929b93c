-- `blocks::blocks::put_block` meets its contract.
-- Assumes nothing.
use mathlib.Core.Path.{sym}
use native.Mathlib.Omega.{arith}
use lib.Seq.{length-take-le}
use Rattle.blocks.specs.Laws.Puts.{block_put, length_fronted}
use Rattle.blocks.proofs.blocks.put_block.Goals as goal

pub slice_bounds-check_of-end-2 : goal.slice_bounds-check_of-end-2
slice_bounds-check_of-end-2 c =
    sym (length-take-le 508 c.put_front.new.block (omega (arith, length_fronted _ _ _ c.requires.1.1 c.put_front.ensures)))

pub check_of-sum-requires : goal.check_of-sum-requires
check_of-sum-requires c = length-take-le 508 c.put_front.new.block (omega (arith, length_fronted _ _ _ c.requires.1.1 c.put_front.ensures))

pub returns : goal.returns
returns c = block_put _ _ _ _ _ c.requires.1.1 c.put_front.ensures c.check_of-sum.ensures.0 c.put_check.ensures
