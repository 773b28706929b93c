-- `walking::steps::step` meets its contract.
use borrow.Author.Rules.{rules}
use Rattle.walking.specs.Laws.Acting.{standing, name_acts, begin_acts, end_acts, comma_acts, step_acts, turn_acts, other_acts}
use Rattle.walking.proofs.steps.step.Goals as goal

pub returns-then-kind-eq-NAME : goal.returns-then-kind-eq-NAME
returns-then-kind-eq-NAME c = search (rules, name_acts)

pub open-requires : goal.open-requires
open-requires c = search (rules, standing)

pub returns-then-kind-eq-BEGIN : goal.returns-then-kind-eq-BEGIN
returns-then-kind-eq-BEGIN c = search (rules, begin_acts)

pub close-requires : goal.close-requires
close-requires c = search (rules, standing)

pub returns-then-kind-eq-END : goal.returns-then-kind-eq-END
returns-then-kind-eq-END c = search (rules, end_acts)

pub another-requires : goal.another-requires
another-requires c = search (rules, standing)

pub returns-then-kind-eq-COMMA : goal.returns-then-kind-eq-COMMA
returns-then-kind-eq-COMMA c = search (rules, comma_acts)

pub returns-then-takes_step : goal.returns-then-takes_step
returns-then-takes_step c = step_acts c.requires.0 _ c.requires.1 c.if-kind-eq-NAME.false c.if-kind-eq-BEGIN.false c.if-kind-eq-END.false c.if-kind-eq-COMMA.false c.takes_step.ensures c.if-takes_step.true c.count.ensures

pub returns-then-turns : goal.returns-then-turns
returns-then-turns c = turn_acts c.requires.0 _ c.requires.1 c.if-kind-eq-NAME.false c.if-kind-eq-BEGIN.false c.if-kind-eq-END.false c.if-kind-eq-COMMA.false c.takes_step.ensures c.if-takes_step.false c.turns.ensures c.if-turns.true c.turn.ensures

pub returns : goal.returns
returns c = other_acts c.requires.0 _ c.requires.1 c.if-kind-eq-NAME.false c.if-kind-eq-BEGIN.false c.if-kind-eq-END.false c.if-kind-eq-COMMA.false c.takes_step.ensures c.if-takes_step.false c.turns.ensures c.if-turns.false
