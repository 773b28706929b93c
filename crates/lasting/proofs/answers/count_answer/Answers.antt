-- `lasting::answers::count_answer` meets its contract.
use Rattle.lasting.specs.Laws.Bounded.{count_endless, count_bound}
use Rattle.lasting.proofs.answers.count_answer.Goals as goal

pub returns-then-count-eq-ENDLESS : goal.returns-then-count-eq-ENDLESS
returns-then-count-eq-ENDLESS c = count_endless c.args.count c.if-count-eq-ENDLESS.true c.unrefused.ensures

pub returns : goal.returns
returns c = count_bound c.if-count-eq-ENDLESS.false c.unrefused-2.ensures
