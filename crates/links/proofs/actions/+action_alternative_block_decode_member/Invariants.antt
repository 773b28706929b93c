-- The proof of the cycle of calls {action, alternative, block, decode, member}. The measure is three times the depth, and a rank: an action calls for
-- its block or DECODE, these for a member or an alternative, and that for an action that lies one BEGIN deeper.
-- Assumes nothing.
use Prim.Native.Nat.{◌+◌, ◌-◌, ◌*◌}
use lib.ListN.{length}
use Rattle.links.specs.Laws.Members.{Passing}
use Rattle.links.specs.Laws.Choices.{Choosing}
use Rattle.links.proofs.actions.+action_alternative_block_decode_member.Given as goal

abbrev pub decreases-action : goal.decreases-action
decreases-action l = 3 * l.depth + 2

abbrev pub decreases-alternative : goal.decreases-alternative
decreases-alternative l = 3 * l.depth

abbrev pub decreases-block : goal.decreases-block
decreases-block l = 3 * l.depth + 1

abbrev pub decreases-decode : goal.decreases-decode
decreases-decode l = 3 * l.depth + 1

abbrev pub decreases-member : goal.decreases-member
decreases-member l = 3 * l.depth

abbrev pub invariant-block-loop-next : goal.invariant-block-loop-next
invariant-block-loop-next l = Passing l.text l.initial.records l.initial.labels l.initial.at l.s.link l.s.count l.initial.first l.depth l.records l.labels l.at l.first

abbrev pub decreases-block-loop-next : goal.decreases-block-loop-next
decreases-block-loop-next l = length l.records - l.at

abbrev pub invariant-decode-loop-next : goal.invariant-decode-loop-next
invariant-decode-loop-next l = Choosing l.text l.initial.records l.initial.labels l.initial.p l.s.link l.s.count l.depth l.records l.labels l.p

abbrev pub decreases-decode-loop-next : goal.decreases-decode-loop-next
decreases-decode-loop-next l = length l.records - l.p
