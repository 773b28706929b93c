-- `reporting::why` meets its contract.
use borrow.Author.Rules.{rules}
use Rattle.lent.specs.Laws.Measured.{fits}
use Rattle.lent.specs.Laws.Settled.{settled_from}
use Rattle.reporting.specs.Laws.Reported.{short_reason, unread_call, answers_call}
use Rattle.reporting.proofs.why.Goals as goal

pub returns-then-reason-lt-REASON_SIZE : goal.returns-then-reason-lt-REASON_SIZE
returns-then-reason-lt-REASON_SIZE c = short_reason c.if-reason-lt-REASON_SIZE.true

pub returns-in-Some : goal.returns-in-Some
returns-in-Some c = unread_call c.if-reason-lt-REASON_SIZE.false c.unread.ensures c.in-Some.is

pub reported-found-requires : goal.reported-found-requires
reported-found-requires c =
    let f = fits c.unread.ensures c.in_default.is in
    record { text_len_bound = (f.1, (f.0.work_a, (f.0.work_b, f.0.work_c))); reason_size_in_bounds = c.if-reason-lt-REASON_SIZE.false }

pub settle-requires : goal.settle-requires
settle-requires c =
    (fits c.unread.ensures c.in_default.is).0.answer

pub returns : goal.returns
returns c =
    let f = fits c.unread.ensures c.in_default.is in
    answers_call f.0 c.if-reason-lt-REASON_SIZE.false f.1 c.reported-found.ensures (settled_from c.settle.ensures (search rules) (search rules) (search rules))
