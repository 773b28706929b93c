-- `comparing::trace` meets its contract: 1 and 2 change nothing, and what is answered is settled.
-- Assumes nothing.
use native.Mathlib.Omega.{arith}
use Rattle.lent.specs.Laws.Measured.{fits}
use Rattle.lent.specs.Laws.Settled.{settled_from}
use Rattle.comparing.specs.Laws.Traced.{trace_call, short_fourth, unread_call, zeros_same}
use Rattle.comparing.proofs.trace.Goals as goal

pub returns-then-d-lt-WORK_SIZE : goal.returns-then-d-lt-WORK_SIZE
returns-then-d-lt-WORK_SIZE c = short_fourth (λ h. absurd (omega arith))

pub returns-in-Some : goal.returns-in-Some
returns-in-Some c = unread_call (omega arith) c.unread.ensures c.in-Some.is

pub traced-found-requires : goal.traced-found-requires
traced-found-requires c =
    let f = fits c.unread.ensures c.in_default.is in
    (f.1, (f.0.work_a, (f.0.work_b, (f.0.work_c, omega arith))))

pub settle-requires : goal.settle-requires
settle-requires c = (fits c.unread.ensures c.in_default.is).0.answer

pub returns : goal.returns
returns c =
    let f = fits c.unread.ensures c.in_default.is in
    trace_call (record { enough = f.0; work_d = omega arith }) f.1 c.traced-found.ensures (settled_from c.settle.ensures c.traced-found.auto.records c.traced-found.auto.values c.traced-found.auto.room)
    (zeros_same c.args.d.now c.clear.ensures c.traced-found.auto.memory)
