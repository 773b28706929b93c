-- `lasting::bound` meets its contract.
use borrow.Author.Rules.{rules}
use Rattle.lent.specs.Laws.Measured.{fits}
use Rattle.lent.specs.Laws.Settled.{settled_from}
use Rattle.lasting.specs.Laws.Bounded.{answers_call, unread_call}
use Rattle.lasting.proofs.bound.Goals as goal

pub returns-in-Some : goal.returns-in-Some
returns-in-Some c = unread_call c.unread.ensures c.in-Some.is

pub bounded-found-requires : goal.bounded-found-requires
bounded-found-requires c =
    let f = fits c.unread.ensures c.in_default.is in
    (f.1, (f.0.work_a, (f.0.work_b, f.0.work_c)))

pub settle-requires : goal.settle-requires
settle-requires c =
    (fits c.unread.ensures c.in_default.is).0.answer

pub returns : goal.returns
returns c =
    let f = fits c.unread.ensures c.in_default.is in
    answers_call f.0 f.1 c.bounded-found.ensures (settled_from c.settle.ensures (search rules) (search rules) (search rules))
