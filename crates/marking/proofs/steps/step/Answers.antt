-- `marking::steps::step` meets its contract.
use borrow.Author.Rules.{rules}
use Rattle.marking.specs.Laws.Acting.{record_room, few, begin_acts, end_acts, semi_acts, next_acts, other_acts}
use Rattle.marking.proofs.steps.step.Goals as goal

pub kind_at-kind-requires : goal.kind_at-kind-requires
kind_at-kind-requires c = search (rules, record_room)

pub open-requires : goal.open-requires
open-requires c = search (rules, few)

pub returns-then-kind-eq-BEGIN : goal.returns-then-kind-eq-BEGIN
returns-then-kind-eq-BEGIN c = begin_acts c.kind_at-kind.ensures (search rules) c.more-followed.ensures c.before.before.«open».ensures

pub returns-then-kind-eq-END : goal.returns-then-kind-eq-END
returns-then-kind-eq-END c = search (rules, end_acts)

pub also-requires : goal.also-requires
also-requires c = search (rules, few)

pub returns-then-kind-eq-SEMI : goal.returns-then-kind-eq-SEMI
returns-then-kind-eq-SEMI c = semi_acts c.kind_at-kind.ensures (search rules) c.more-followed-then-kind-eq-SEMI.ensures c.also.ensures

pub next-requires : goal.next-requires
next-requires c = search (rules, few)

pub returns-then-kind-eq-NEXT : goal.returns-then-kind-eq-NEXT
returns-then-kind-eq-NEXT c = next_acts c.kind_at-kind.ensures (search rules) c.more-followed-then-kind-eq-NEXT.ensures c.next.ensures

pub returns : goal.returns
returns c = search (rules, other_acts)
