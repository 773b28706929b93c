-- `keeping::endings::ending_answer` meets its contract: the numbers by the case of the ending.
-- Assumes nothing.
use Rattle.keeping.specs.Laws.Calls.{numbers_by, near_by}
use Rattle.keeping.proofs.endings.ending_answer.Goals as goal

pub refusal-requires : goal.refusal-requires
refusal-requires c = near_by c.requires c.in-Err.is

pub returns-in-Err : goal.returns-in-Err
returns-in-Err c = λ left. numbers_by c.args.text.now left c.refusal.ensures c.in-Err.is

pub returns-in-Ok : goal.returns-in-Ok
returns-in-Ok c = λ left. numbers_by c.args.text.now left c.unrefused.ensures c.in-Ok.is
