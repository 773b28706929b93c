-- `compared::endings::verdict_answer` meets its contract: the numbers by the case of the verdict.
-- Assumes nothing.
use Rattle.compared.specs.Laws.Traced.{verdict_numbers}
use Rattle.compared.proofs.endings.verdict_answer.Goals as goal

pub returns-in-Ok : goal.returns-in-Ok
returns-in-Ok c = verdict_numbers _ _ c.unrefused.ensures c.in-Ok.is

pub returns-in-Err : goal.returns-in-Err
returns-in-Err c = verdict_numbers _ _ c.unrefused-in-Err.ensures c.in-Err.is
