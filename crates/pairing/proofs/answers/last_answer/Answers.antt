-- `pairing::answers::last_answer` meets its contract, by the side.
-- Assumes nothing.
use Rattle.runner.specs.Runs.{ending_of, steps_of}
use Rattle.pairing.specs.Laws.Numbers.{ran_first, ran_second}
use Rattle.pairing.proofs.answers.last_answer.Goals as goal

pub returns-then-side-eq0 : goal.returns-then-side-eq0
returns-then-side-eq0 c = ran_first _ _ (ending_of c.args.last.ended) (steps_of c.args.last.ended) c.ended_answer.ensures c.with_side.ensures c.if-side-eq0.true

pub returns : goal.returns
returns c = ran_second _ _ (ending_of c.args.last.ended) (steps_of c.args.last.ended) c.ended_answer-2.ensures c.with_side-2.ensures c.if-side-eq0.false
