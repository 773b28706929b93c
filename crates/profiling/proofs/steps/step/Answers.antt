-- `profiling::steps::step` meets its contract.
use borrow.Author.Rules.{rules}
use Rattle.profiling.specs.Laws.Acting.{also_acts, begin_acts, choice_acts, comma_acts, end_acts, jump_acts, loop-acts, name_acts, next_acts, other_acts, reach_acts, test_acts, transfer_acts}
use Rattle.profiling.proofs.steps.step.Goals as goal

pub returns-then-kind-eq-NAME : goal.returns-then-kind-eq-NAME
returns-then-kind-eq-NAME c = search (rules, name_acts)

pub returns-then-kind-eq-BEGIN : goal.returns-then-kind-eq-BEGIN
returns-then-kind-eq-BEGIN c = search (rules, begin_acts)

pub returns-then-kind-eq-END : goal.returns-then-kind-eq-END
returns-then-kind-eq-END c = search (rules, end_acts)

pub returns-then-kind-eq-SEMI : goal.returns-then-kind-eq-SEMI
returns-then-kind-eq-SEMI c = search (rules, also_acts)

pub returns-then-kind-eq-NEXT : goal.returns-then-kind-eq-NEXT
returns-then-kind-eq-NEXT c = search (rules, next_acts)

pub returns-then-kind-eq-COMMA : goal.returns-then-kind-eq-COMMA
returns-then-kind-eq-COMMA c = search (rules, comma_acts)

pub returns-then-kind-eq-EQUALS : goal.returns-then-kind-eq-EQUALS
returns-then-kind-eq-EQUALS c = search (rules, transfer_acts)

pub returns-then-kind-eq-IF : goal.returns-then-kind-eq-IF
returns-then-kind-eq-IF c = search (rules, test_acts)

pub returns-then-kind-eq-DECODE : goal.returns-then-kind-eq-DECODE
returns-then-kind-eq-DECODE c = search (rules, choice_acts)

pub returns-then-kind-eq-REPEAT : goal.returns-then-kind-eq-REPEAT
returns-then-kind-eq-REPEAT c = search (rules, loop-acts)

pub returns-then-kind-eq-LEAVE : goal.returns-then-kind-eq-LEAVE
returns-then-kind-eq-LEAVE c = search (rules, jump_acts)

pub returns-then-kind-eq-NO_OP : goal.returns-then-kind-eq-NO_OP
returns-then-kind-eq-NO_OP c = search (rules, reach_acts)

pub returns : goal.returns
returns c = search (rules, other_acts)
