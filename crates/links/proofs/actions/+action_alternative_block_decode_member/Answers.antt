-- The proof of the cycle of calls {action, alternative, block, decode, member}. The measure is three times the depth, and a rank: an action calls for
-- its block or DECODE, these for a member or an alternative, and that for an action that lies one BEGIN deeper.
-- Assumes nothing.
use native.Mathlib.Omega.{arith}
use Prim.Native.Nat.{◌-◌}
use Rattle.ways.specs.Laws.Standing.{within}
use Rattle.links.specs.Laws.Members.{members_within, left_all, left_then, left_done, member_end, member_end_within, last_member, last_done}
use Rattle.links.specs.Laws.Members.{next_starts, this_member, more_done, block_members, block_done}
use Rattle.links.specs.Laws.Choices.{turns_within, turns_all, turns_then, turns_done, alternative_at as turn_here, this_alternative, part_within, last_turn, more_turns}
use Rattle.links.specs.Laws.Choices.{choice_arrow, begin_fits, choice_turns, choice_done}
use Rattle.links.specs.Laws.Actions.{behind_done, block_behind, choice_behind, leaf_behind}
use Rattle.links.proofs.actions.+action_alternative_block_decode_member.Goals as goal

pub action-behind_prefixes-bare-requires : goal.action-behind_prefixes-bare-requires
action-behind_prefixes-bare-requires t c = (c.requires.0, _, c.requires.1)

pub action-kind_at-kind-requires : goal.action-kind_at-kind-requires
action-kind_at-kind-requires t c = (within (c.behind_prefixes-bare.ensures c.requires.0 _ c.requires.1).passed.now).1

pub action-block-requires : goal.action-block-requires
action-block-requires t c =
    let (g, v, e) = c.requires in
    (omega arith, (g, block_behind e (c.behind_prefixes-bare.ensures g _ v) c.kind_at-kind.ensures c.if-kind-eq-BEGIN.true))

pub action-returns-then-kind-eq-BEGIN : goal.action-returns-then-kind-eq-BEGIN
action-returns-then-kind-eq-BEGIN t c =
    λ g v e. let b = c.behind_prefixes-bare.ensures g _ v in
    behind_done v b.passed (c.block.ensures g (block_behind e b c.kind_at-kind.ensures c.if-kind-eq-BEGIN.true))

pub action-decode-requires : goal.action-decode-requires
action-decode-requires t c =
    let (g, v, e) = c.requires in
    (omega arith, (g, choice_behind e (c.behind_prefixes-bare.ensures g _ v) c.kind_at-kind.ensures c.if-kind-eq-DECODE.true))

pub action-returns-then-kind-eq-DECODE : goal.action-returns-then-kind-eq-DECODE
action-returns-then-kind-eq-DECODE t c =
    λ g v e. let b = c.behind_prefixes-bare.ensures g _ v in
    behind_done v b.passed (c.decode.ensures g (choice_behind e b c.kind_at-kind.ensures c.if-kind-eq-DECODE.true))

pub action-leaf-requires : goal.action-leaf-requires
action-leaf-requires t c =
    let (g, v, e) = c.requires in
    (g, _, leaf_behind e (c.behind_prefixes-bare.ensures g _ v) c.kind_at-kind.ensures c.if-kind-eq-BEGIN.false c.if-kind-eq-DECODE.false)

pub action-returns : goal.action-returns
action-returns t c =
    λ g v e. let b = c.behind_prefixes-bare.ensures g _ v in
    behind_done v b.passed (c.leaf.ensures g _ (leaf_behind e b c.kind_at-kind.ensures c.if-kind-eq-BEGIN.false c.if-kind-eq-DECODE.false))

pub alternative-separator-extent-requires : goal.alternative-separator-extent-requires
alternative-separator-extent-requires t c = (c.requires.0, turn_here c.requires.1)

pub alternative-overflow_sub-depth : goal.alternative-overflow_sub-depth
alternative-overflow_sub-depth t c = omega (arith, c.requires.1.action_shallow)

pub alternative-action-requires : goal.alternative-action-requires
alternative-action-requires t c =
    let (g, v, e) = c.requires in
    (omega (arith, v.action_shallow), (g, this_alternative v (c.separator-extent.ensures g (turn_here v)), e))

pub alternative-kind_at-requires : goal.alternative-kind_at-requires
alternative-kind_at-requires t c =
    let (g, v, e) = c.requires in
    let x = c.separator-extent.ensures g (turn_here v) in
    part_within v x (c.action.ensures g (this_alternative v x) e)

pub alternative-returns-then-kind_at-eq-END : goal.alternative-returns-then-kind_at-eq-END
alternative-returns-then-kind_at-eq-END t c =
    λ g v e. let x = c.separator-extent.ensures g (turn_here v) in
    last_turn v x (c.action.ensures g (this_alternative v x) e) c.kind_at.ensures c.if-kind_at-eq-END.true

pub alternative-returns : goal.alternative-returns
alternative-returns t c =
    λ g v e. let x = c.separator-extent.ensures g (turn_here v) in
    more_turns v x (c.action.ensures g (this_alternative v x) e) c.kind_at.ensures c.if-kind_at-eq-END.false

pub block-overflow_add-at : goal.block-overflow_add-at
block-overflow_add-at t c = record { fits = omega (arith, (within c.requires.1.view).2) }

pub block-loop-next-init : goal.block-loop-next-init
block-loop-next-init t c = record { left = λ g v e. left_all v }

pub block-member-requires : goal.block-member-requires
block-member-requires t c =
    let (g, v) = c.requires in
    (omega arith, (g, (c.loop-next.invariant.left g (block_members v.view v.is_block) v.same_text).now, v.same_text))

pub block-returns : goal.block-returns
block-returns t c =
    λ g v. let m = block_members v.view v.is_block in
    let p = c.loop-next.invariant.left g m v.same_text in
    block_done v.view v.is_block (left_done m p ((c.member.ensures g p.now v.same_text).done c.in_default.is))

pub block-loop-next-smaller : goal.block-loop-next-smaller
block-loop-next-smaller t c =
    let (g, v) = c.requires in
    let p = c.loop-next.invariant.left g (block_members v.view v.is_block) v.same_text in
    let a = c.member.ensures g p.now v.same_text in
    omega (arith, a.further_on _ c.in-Some.is, (a.left _ c.in-Some.is).kept.long, members_within p.now)

pub block-loop-next-preserved : goal.block-loop-next-preserved
block-loop-next-preserved t c =
    record {
      left = λ g v e. let p = c.loop-next.invariant.left g v e in left_then v p ((c.member.ensures g p.now e).left _ c.in-Some.is);
    }

pub decode-overflow_add-s : goal.decode-overflow_add-s
decode-overflow_add-s t c = record { fits = omega (arith, (within c.requires.1.view).2) }

pub decode-seek-p-requires : goal.decode-seek-p-requires
decode-seek-p-requires t c = let (g, v) = c.requires in (g, choice_arrow v.view v.is_choice)

pub decode-overflow_add-p : goal.decode-overflow_add-p
decode-overflow_add-p t c =
    let (g, v) = c.requires in
    let s = choice_arrow v.view v.is_choice in
    record { fits = omega (arith, begin_fits v.view v.is_choice c.seek-p.result (c.seek-p.ensures.1 g s)) }

pub decode-loop-next-init : goal.decode-loop-next-init
decode-loop-next-init t c = record { left = λ g v e. turns_all v }

pub decode-alternative-requires : goal.decode-alternative-requires
decode-alternative-requires t c =
    let (g, v) = c.requires in
    let t = choice_turns v.view v.is_choice c.seek-p.result (c.seek-p.ensures.1 g (choice_arrow v.view v.is_choice)) in
    (omega arith, (g, (c.loop-next.invariant.left g t v.same_text).now, v.same_text))

pub decode-returns : goal.decode-returns
decode-returns t c =
    λ g v. let f = c.seek-p.ensures.1 g (choice_arrow v.view v.is_choice) in
    let t = choice_turns v.view v.is_choice c.seek-p.result f in
    let p = c.loop-next.invariant.left g t v.same_text in
    choice_done v.view v.is_choice c.seek-p.result f (turns_done t p ((c.alternative.ensures g p.now v.same_text).done c.in_default.is))

pub decode-loop-next-smaller : goal.decode-loop-next-smaller
decode-loop-next-smaller t c =
    let (g, v) = c.requires in
    let t = choice_turns v.view v.is_choice c.seek-p.result (c.seek-p.ensures.1 g (choice_arrow v.view v.is_choice)) in
    let p = c.loop-next.invariant.left g t v.same_text in
    let a = c.alternative.ensures g p.now v.same_text in
    omega (arith, a.further_on _ c.in-Some.is, (a.left _ c.in-Some.is).kept.long, turns_within p.now)

pub decode-loop-next-preserved : goal.decode-loop-next-preserved
decode-loop-next-preserved t c =
    record {
      left = λ g v e. let p = c.loop-next.invariant.left g v e in turns_then v p ((c.alternative.ensures g p.now e).left _ c.in-Some.is);
    }

pub member-seek-end-requires : goal.member-seek-end-requires
member-seek-end-requires t c = (c.requires.0, member_end c.requires.1)

pub member-kind_at-requires : goal.member-kind_at-requires
member-kind_at-requires t c = let (g, v, e) = c.requires in (member_end_within v c.seek-end.result (c.seek-end.ensures.1 g (member_end v))).0

pub member-overflow_sub-depth : goal.member-overflow_sub-depth
member-overflow_sub-depth t c = omega (arith, c.requires.1.action_shallow)

pub member-action-requires : goal.member-action-requires
member-action-requires t c =
    let (g, v, e) = c.requires in
    (omega (arith, v.action_shallow), (g, last_member v c.seek-end.result (c.seek-end.ensures.1 g (member_end v)) c.kind_at.ensures c.if-kind_at-eq-END.true, e))

pub member-returns-then-kind_at-eq-END : goal.member-returns-then-kind_at-eq-END
member-returns-then-kind_at-eq-END t c =
    λ g v e. let f = c.seek-end.ensures.1 g (member_end v) in
    last_done v c.seek-end.result f c.kind_at.ensures c.if-kind_at-eq-END.true (c.action.ensures g (last_member v c.seek-end.result f c.kind_at.ensures c.if-kind_at-eq-END.true) e)

pub member-overflow_add-end : goal.member-overflow_add-end
member-overflow_add-end t c =
    let (g, v, e) = c.requires in
    record { fits = omega (arith, (member_end_within v c.seek-end.result (c.seek-end.ensures.1 g (member_end v))).1) }

pub member-first_of-first-requires : goal.member-first_of-first-requires
member-first_of-first-requires t c =
    let (g, v, e) = c.requires in
    (g, next_starts v c.seek-end.result (c.seek-end.ensures.1 g (member_end v)) c.kind_at.ensures c.if-kind_at-eq-END.false)

pub member-overflow_sub-depth-2 : goal.member-overflow_sub-depth-2
member-overflow_sub-depth-2 t c = omega (arith, c.requires.1.action_shallow)

pub member-action-requires-2 : goal.member-action-requires-2
member-action-requires-2 t c =
    let (g, v, e) = c.requires in
    let f = c.seek-end.ensures.1 g (member_end v) in
    let n = c.first_of-first.ensures g (next_starts v c.seek-end.result f c.kind_at.ensures c.if-kind_at-eq-END.false) in
    (omega (arith, v.action_shallow), (g, this_member v c.seek-end.result f c.kind_at.ensures c.if-kind_at-eq-END.false n, e))

pub member-overflow_add-result : goal.member-overflow_add-result
member-overflow_add-result t c =
    let (g, v, e) = c.requires in
    record { fits = omega (arith, (member_end_within v c.seek-end.result (c.seek-end.ensures.1 g (member_end v))).1) }

pub member-returns : goal.member-returns
member-returns t c =
    λ g v e. let f = c.seek-end.ensures.1 g (member_end v) in
    let n = c.first_of-first.ensures g (next_starts v c.seek-end.result f c.kind_at.ensures c.if-kind_at-eq-END.false) in
    more_done v c.seek-end.result f c.kind_at.ensures c.if-kind_at-eq-END.false n (c.action-2.ensures g (this_member v c.seek-end.result f c.kind_at.ensures c.if-kind_at-eq-END.false n) e)
