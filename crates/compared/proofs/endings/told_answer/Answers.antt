-- `compared::endings::told_answer` meets its contract: the numbers by the case of the ending.
-- Assumes nothing.
use Rattle.compared.specs.Laws.Traced.{numbers_by, said_numbers}
use Rattle.compared.proofs.endings.told_answer.Goals as goal

pub returns-in-Done : goal.returns-in-Done
returns-in-Done c = numbers_by _ _ (said_numbers 0 _ c.verdict_answer.ensures c.answer.ensures) c.in-Done.is

pub returns-in-Stopped : goal.returns-in-Stopped
returns-in-Stopped c = numbers_by _ _ (said_numbers 1 _ c.verdict_answer-in-Stopped.ensures c.answer-in-Stopped.ensures) c.in-Stopped.is

pub returns-in-Paused : goal.returns-in-Paused
returns-in-Paused c = numbers_by _ _ c.unrefused.ensures c.in-Paused.is

pub returns-in-Fault : goal.returns-in-Fault
returns-in-Fault c = numbers_by _ _ c.fault.ensures c.in-Fault.is
