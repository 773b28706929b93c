-- `preparing::endings::ended_answer` meets its contract: the numbers by the case of the ending.
-- Assumes nothing.
use Rattle.preparing.specs.Laws.Outcome.{numbers_by}
use Rattle.preparing.proofs.endings.ended_answer.Goals as goal

pub returns-in-Done : goal.returns-in-Done
returns-in-Done c = numbers_by c.args.text.now c.unrefused.ensures c.in-Done.is

pub returns-in-Stopped : goal.returns-in-Stopped
returns-in-Stopped c = numbers_by c.args.text.now c.unrefused-in-Stopped.ensures c.in-Stopped.is

pub returns-in-Paused : goal.returns-in-Paused
returns-in-Paused c = numbers_by c.args.text.now c.unrefused-in-Paused.ensures c.in-Paused.is

pub returns-in-Fault : goal.returns-in-Fault
returns-in-Fault c = numbers_by c.args.text.now c.fault.ensures c.in-Fault.is
