-- `checking::verdicts::verdict_answer` meets its contract: the numbers by the case of the verdict.
-- Assumes nothing.
use native.Mathlib.Omega.{arith}
use Rattle.checking.specs.Laws.Checked.{numbers_by, refused_near, accepted_near}
use Rattle.checking.proofs.verdicts.verdict_answer.Goals as goal

pub refusal-requires : goal.refusal-requires
refusal-requires c = omega (arith, refused_near c.requires c.in-Err.is)

pub overflow_cast-accepted : goal.overflow_cast-accepted
overflow_cast-accepted c = omega (arith, (accepted_near c.requires c.in-Ok.is).0)

pub overflow_cast-accepted-in-Ok : goal.overflow_cast-accepted-in-Ok
overflow_cast-accepted-in-Ok c = omega (arith, (accepted_near c.requires c.in-Ok.is).1)

pub returns-in-Err : goal.returns-in-Err
returns-in-Err c = numbers_by c.args.text.now c.refusal.ensures c.in-Err.is

pub returns-in-Ok : goal.returns-in-Ok
returns-in-Ok c = numbers_by c.args.text.now c.unrefused.ensures c.in-Ok.is
