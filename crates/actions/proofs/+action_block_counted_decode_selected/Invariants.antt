-- The cycle of calls {action, block, counted, decode, selected}. The measure is three times the depth, and a rank: alternatives call for an action, an
-- action for its block or DECODE, and these for what lies one BEGIN deeper.
-- Assumes nothing.
use Prim.Native.Nat.{◌+◌, ◌-◌, ◌*◌}
use Rattle.actions.proofs.Steps as steps
use Rattle.actions.proofs.+action_block_counted_decode_selected.Given as goal

abbrev pub decreases-action : goal.decreases-action
decreases-action l = 3 * l.depth + 1

abbrev pub decreases-block : goal.decreases-block
decreases-block l = 3 * l.depth

abbrev pub decreases-counted : goal.decreases-counted
decreases-counted l = 3 * l.depth + 2

abbrev pub decreases-decode : goal.decreases-decode
decreases-decode l = 3 * l.depth

abbrev pub decreases-selected : goal.decreases-selected
decreases-selected l = 3 * l.depth + 2

abbrev pub invariant-block-loop-i : goal.invariant-block-loop-i
invariant-block-loop-i l = steps.InBlock l.records l.values l.decls l.initial.room l.i l.count l.depth l.room l.key l.at

abbrev pub decreases-block-loop-i : goal.decreases-block-loop-i
decreases-block-loop-i l = 8192 - l.at

abbrev pub invariant-counted-loop-i : goal.invariant-counted-loop-i
invariant-counted-loop-i l = steps.InCounted l.records l.values l.decls l.initial.room l.i l.count l.depth l.bits l.room l.key l.number l.at

abbrev pub decreases-counted-loop-i : goal.decreases-counted-loop-i
decreases-counted-loop-i l = 8192 - l.at

abbrev pub invariant-selected-loop-room : goal.invariant-selected-loop-room
invariant-selected-loop-room l = steps.InSelected l.records l.values l.decls l.initial.room l.i l.count l.depth l.bits l.room l.key l.number l.at

abbrev pub decreases-selected-loop-room : goal.decreases-selected-loop-room
decreases-selected-loop-room l = 8192 - l.at
