-- `images::images::write` meets its contract: the blocks passed stand in the image.
-- Assumes nothing.
use borrow.Author.Rules.{rules}
use native.Mathlib.Omega.{arith}
use Rattle.images.specs.Laws.Turns.{none_written, block_whole, part_short, more_written, all_written}
use Rattle.images.proofs.images.write.Goals as goal

pub loop-number-init : goal.loop-number-init
loop-number-init c = search (rules, none_written)

pub slice_bounds-put_block-end-in-loop-number : goal.slice_bounds-put_block-end-in-loop-number
slice_bounds-put_block-end-in-loop-number c = omega (arith, c.loop-number.invariant.passes.needed (omega arith), c.loop-number.invariant.sized)

pub put_block-requires : goal.put_block-requires
put_block-requires c =
    (block_whole c.loop-number.invariant (omega arith) _ c.used_in.ensures, (omega (arith, c.loop-number.invariant.passes.few, c.loop-number.invariant.passes.within), part_short c.loop-number.invariant (omega arith) _ c.used_in.ensures))

pub loop-number-preserved : goal.loop-number-preserved
loop-number-preserved c = more_written c.loop-number.invariant (omega arith) _ c.used_in.ensures _ c.put_block.ensures

pub returns : goal.returns
returns c = all_written c.loop-number.invariant (omega arith)
