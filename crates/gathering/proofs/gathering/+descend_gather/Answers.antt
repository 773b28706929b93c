-- `gathering::gathering::gather` and `descend` meet their contracts: the remaining length of the chain falls at each body.
use borrow.Author.Rules.{rules}
use native.Mathlib.Omega.{arith}
use Rattle.reading.specs.Laws.Reading.{kinded}
use Rattle.gathering.specs.Laws.Filling.{fill_unknown, fill_done, fill_bodiless, fill_body, still_carrying, chain_down, some_left, go_down, descended, call_short, call_name, call_fewer, call_done, token_room, entry_room, few_declared}
use Rattle.gathering.proofs.gathering.+descend_gather.Goals as goal

pub descend-loop-call-init : goal.descend-loop-call-init
descend-loop-call-init t c = go_down _ _ c.requires.0 c.requires.1.1

pub descend-next_call-call-requires : goal.descend-next_call-call-requires
descend-next_call-call-requires t c = (kinded c.loop-call.invariant.fillable.reading, (c.loop-call.invariant.shallow, c.loop-call.invariant.counted))

pub descend-returns-then-n-name : goal.descend-returns-then-n-name
descend-returns-then-n-name t c = (c.loop-call.invariant.grows, descended c.loop-call.invariant c.next_call-call.ensures c.if-n-name.true)

pub descend-gather-requires : goal.descend-gather-requires
descend-gather-requires t c =
    let inv = c.loop-call.invariant in
    let call = c.next_call-call.ensures in
    let h = c.if-n-name.false in (
      omega (arith, c.decreases),
      (inv.fillable, (h, (call_name inv call h, (c.requires.1.0, call_short inv call h)))),
    )

pub descend-loop-call-smaller : goal.descend-loop-call-smaller
descend-loop-call-smaller t c =
    call_fewer c.loop-call.invariant c.next_call-call.ensures
    c.if-n-name.false

pub descend-loop-call-preserved : goal.descend-loop-call-preserved
descend-loop-call-preserved t c =
    call_done c.loop-call.invariant c.next_call-call.ensures
    c.if-n-name.false (search rules) c.gather.ensures

pub gather-inside_at-k-requires : goal.gather-inside_at-k-requires
gather-inside_at-k-requires t c = token_room c.requires.0 c.requires.1.0

pub gather-returns-then-m-k : goal.gather-returns-then-m-k
gather-returns-then-m-k t c =
    fill_unknown c.requires.0 c.requires.1.0
    c.requires.1.1.0 c.inside_at-k.ensures c.if-m-k.true

pub gather-overflow_mul-k : goal.gather-overflow_mul-k
gather-overflow_mul-k t c = omega (arith, few_declared c.requires.0)

pub gather-mark_in-requires : goal.gather-mark_in-requires
gather-mark_in-requires t c = omega (arith, entry_room c.requires.0 c.if-m-k.false)

pub gather-returns-then-mark_in-ne0 : goal.gather-returns-then-mark_in-ne0
gather-returns-then-mark_in-ne0 t c =
    fill_done c.requires.0
    c.requires.1.0
    c.requires.1.1.0 c.inside_at-k.ensures
    c.if-m-k.false c.mark_in.ensures c.if-mark_in-ne0.true

pub gather-body_at-requires : goal.gather-body_at-requires
gather-body_at-requires t c = (c.requires.0.reading, c.if-m-k.false)

pub gather-remember-requires : goal.gather-remember-requires
gather-remember-requires t c =
    entry_room c.requires.0
    c.if-m-k.false

pub gather-returns-in_default : goal.gather-returns-in_default
gather-returns-in_default t c =
    fill_bodiless c.requires.0
    c.requires.1.0
    c.requires.1.1.0
    c.inside_at-k.ensures
    c.if-m-k.false
    _ c.in_default.ensures
    c.nothing.ensures.0 c.nothing.ensures.1.0 c.nothing.ensures.1.1
    c.remember.ensures

pub gather-overflow_sub-left : goal.gather-overflow_sub-left
gather-overflow_sub-left t c =
    omega (
      arith,
      some_left _ _ c.requires.0.reading
          c.requires.1.1.1.1,
    )

pub gather-descend-requires : goal.gather-descend-requires
gather-descend-requires t c = (
  omega (
    arith,
    c.decreases,
    some_left _ _
        c.requires.0.reading
        c.requires.1.1.1.1,
  ),
  (
    c.requires.0,
    (
      search rules,
      chain_down c.requires.0
          c.requires.1.0
          c.requires.1.1.0
          c.inside_at-k.ensures c.if-m-k.false
          c.in-Some.ensures _
          c.requires.1.1.1.1,
    ),
  ),
)

pub gather-touched-t-requires : goal.gather-touched-t-requires
gather-touched-t-requires t c = (c.requires.0.reading, (omega (arith, c.requires.0.room, c.descend.auto.memo), still_carrying c.requires.0 c.descend.ensures.0))

pub gather-remember-requires-2 : goal.gather-remember-requires-2
gather-remember-requires-2 t c =
    omega (
      arith,
      entry_room
          c.requires.0
          c.if-m-k.false,
      c.descend.auto.memo,
    )

pub gather-returns : goal.gather-returns
gather-returns t c =
    fill_body c.requires.0 c.requires.1.0 c.requires.1.1.0 c.inside_at-k.ensures c.if-m-k.false c.in-Some.ensures _
    c.descend.ensures.0
    c.descend.ensures.1 c.touched-t.ensures
    c.remember-2.ensures
