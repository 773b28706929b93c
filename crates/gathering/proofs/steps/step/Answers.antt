-- `gathering::steps::step` meets its contract.
use borrow.Author.Rules.{rules}
use Rattle.gathering.specs.Laws.Steps.{of_kind}
use Rattle.gathering.proofs.steps.step.Goals as goal

pub returns-in-5 : goal.returns-in-5
returns-in-5 c = search (rules, of_kind)

pub returns-in-6 : goal.returns-in-6
returns-in-6 c = search (rules, of_kind)

pub returns-in-9 : goal.returns-in-9
returns-in-9 c = search (rules, of_kind)

pub returns-in-10 : goal.returns-in-10
returns-in-10 c = search (rules, of_kind)

pub returns-in-12 : goal.returns-in-12
returns-in-12 c = search (rules, of_kind)

pub returns-in-13 : goal.returns-in-13
returns-in-13 c = search (rules, of_kind)

pub returns-in-14 : goal.returns-in-14
returns-in-14 c = search (rules, of_kind)

pub returns-in-19 : goal.returns-in-19
returns-in-19 c = search (rules, of_kind)

pub returns-in-20 : goal.returns-in-20
returns-in-20 c = search (rules, of_kind)

pub returns-in-21 : goal.returns-in-21
returns-in-21 c = search (rules, of_kind)

pub returns-in-22 : goal.returns-in-22
returns-in-22 c = search (rules, of_kind)

pub returns-in-23 : goal.returns-in-23
returns-in-23 c = search (rules, of_kind)

pub returns-in-25 : goal.returns-in-25
returns-in-25 c = search (rules, of_kind)
