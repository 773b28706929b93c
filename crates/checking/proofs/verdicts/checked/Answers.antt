-- `checking::verdicts::checked` meets its contract: the reader's verdict as numbers.
-- Assumes nothing.
use Rattle.checking.specs.Laws.Checked.{near, told}
use Rattle.checking.proofs.verdicts.checked.Goals as goal

pub verdict_answer-requires : goal.verdict_answer-requires
verdict_answer-requires c = near c.check.ensures

pub returns : goal.returns
returns c = told c.check.ensures c.verdict_answer.ensures
