-- `lines::endings::put_ending` meets its contract, an ending at a time.
-- Assumes nothing.
use borrow.Author.Rules.{rules}
use Rattle.lines.proofs.Reports.{is_done, is_stopped, is_paused, is_fault, is_refused}
use Rattle.lines.proofs.endings.put_ending.Goals as goal

pub returns-in-Done : goal.returns-in-Done
returns-in-Done c = search (rules, is_done)

pub returns-in-Stopped : goal.returns-in-Stopped
returns-in-Stopped c = search (rules, is_stopped)

pub returns-in-Paused : goal.returns-in-Paused
returns-in-Paused c = search (rules, is_paused)

pub returns-in-Fault : goal.returns-in-Fault
returns-in-Fault c = search (rules, is_fault)

pub returns-in_default : goal.returns-in_default
returns-in_default c = search (rules, is_refused)
