-- `bounding::filling::fill` and `descend` meet their contracts: the remaining length of the chain falls at each body.
use borrow.Author.Rules.{rules}
use Prim.Native.Nat.{◌-◌}
use native.Mathlib.Omega.{arith}
use Rattle.reading.specs.Laws.Reading.{kinded}
use Rattle.bounding.specs.Laws.Filling.{to_index, index_room, fill_known, declared, fill_bodiless, chain_down, to_walk, fill_body, some_left, go_down, descended, call_short, call_name, call_fewer, call_done}
use Rattle.bounding.proofs.filling.+descend_fill.Goals as goal

pub descend-loop-call-init : goal.descend-loop-call-init
descend-loop-call-init t c = go_down _ _ c.requires.0 c.requires.1.1

pub descend-next_call-call-requires : goal.descend-next_call-call-requires
descend-next_call-call-requires t c = (kinded c.loop-call.invariant.fillable.ready.reading, (c.loop-call.invariant.shallow, c.loop-call.invariant.counted))

pub descend-returns-then-n-name : goal.descend-returns-then-n-name
descend-returns-then-n-name t c = descended c.loop-call.invariant c.next_call-call.ensures c.if-n-name.true

pub descend-fill-requires : goal.descend-fill-requires
descend-fill-requires t c = (omega (arith, c.decreases), (c.loop-call.invariant.fillable, (c.if-n-name.false, (call_name c.loop-call.invariant c.next_call-call.ensures c.if-n-name.false, (c.requires.1.0, call_short c.loop-call.invariant c.next_call-call.ensures c.if-n-name.false)))))

pub descend-loop-call-smaller : goal.descend-loop-call-smaller
descend-loop-call-smaller t c = call_fewer c.loop-call.invariant c.next_call-call.ensures c.if-n-name.false

pub descend-loop-call-preserved : goal.descend-loop-call-preserved
descend-loop-call-preserved t c = call_done c.loop-call.invariant c.next_call-call.ensures c.if-n-name.false (search rules) (search rules) c.fill.ensures

pub fill-index_of-k-requires : goal.fill-index_of-k-requires
fill-index_of-k-requires t c = to_index c.requires.0 c.requires.1.0

pub fill-get64-requires : goal.fill-get64-requires
fill-get64-requires t c = index_room c.requires.0 c.requires.1.0 c.requires.1.1.0 c.index_of-k.ensures.0 c.index_of-k.ensures.1

pub fill-returns-then-get64-ne-UNKNOWN : goal.fill-returns-then-get64-ne-UNKNOWN
fill-returns-then-get64-ne-UNKNOWN t c = fill_known c.requires.0 c.requires.1.0 c.requires.1.1.0 c.index_of-k.ensures.0 c.index_of-k.ensures.1 c.get64.ensures c.if-get64-ne-UNKNOWN.true

pub fill-body_at-requires : goal.fill-body_at-requires
fill-body_at-requires t c = (c.requires.0.ready.reading, declared c.requires.0 c.requires.1.0 c.requires.1.1.0 c.index_of-k.ensures.0 c.index_of-k.ensures.1 c.get64.ensures c.if-get64-ne-UNKNOWN.false)

pub fill-put64-requires : goal.fill-put64-requires
fill-put64-requires t c = index_room c.requires.0 c.requires.1.0 c.requires.1.1.0 c.index_of-k.ensures.0 c.index_of-k.ensures.1

pub fill-returns-in_default : goal.fill-returns-in_default
fill-returns-in_default t c =
    fill_bodiless c.requires.0 c.requires.1.0 c.requires.1.1.0 c.index_of-k.ensures.0 c.index_of-k.ensures.1 c.get64.ensures c.if-get64-ne-UNKNOWN.false c.in_default.ensures
    c.put64.ensures

pub fill-overflow_sub-left : goal.fill-overflow_sub-left
fill-overflow_sub-left t c = omega (arith, some_left _ _ c.requires.0.ready c.requires.1.1.1.1)

pub fill-descend-requires : goal.fill-descend-requires
fill-descend-requires t c =
    let more = some_left _ _ c.requires.0.ready c.requires.1.1.1.1 in (
      omega (arith, c.decreases),
      (
        c.requires.0,
        (
          search rules,
          chain_down c.requires.0 c.requires.1.0 c.requires.1.1.0 c.index_of-k.ensures.0 c.index_of-k.ensures.1 c.get64.ensures c.if-get64-ne-UNKNOWN.false
              c.in-Some.ensures _ c.requires.1.1.1.1,
        ),
      ),
    )

pub fill-walk-count-requires : goal.fill-walk-count-requires
fill-walk-count-requires t c =
    to_walk c.requires.0 c.requires.1.0 c.requires.1.1.0 c.index_of-k.ensures.0 c.index_of-k.ensures.1 c.get64.ensures c.if-get64-ne-UNKNOWN.false c.in-Some.ensures
    c.descend.ensures (search rules) (search rules)

pub fill-put64-requires-2 : goal.fill-put64-requires-2
fill-put64-requires-2 t c = omega (arith, index_room c.requires.0 c.requires.1.0 c.requires.1.1.0 c.index_of-k.ensures.0 c.index_of-k.ensures.1, c.descend.auto.table)

pub fill-returns : goal.fill-returns
fill-returns t c =
    fill_body c.requires.0 c.requires.1.0 c.requires.1.1.0 c.index_of-k.ensures.0 c.index_of-k.ensures.1 c.get64.ensures c.if-get64-ne-UNKNOWN.false c.in-Some.ensures
    c.descend.ensures c.descend.auto.table c.walk-count.ensures c.put64-2.ensures
