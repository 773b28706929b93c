-- `lines::answers::ending_of` meets its contract, a code at a time.
-- Assumes nothing.
use Rattle.std.proofs.Common.{rules, refl}
use Rattle.lines.specs.Answers.{ending_of}
use Rattle.lines.proofs.Reports.{other_code}
use Rattle.lines.proofs.answers.ending_of.Goals as goal

pub returns-in-0 : goal.returns-in-0
unfolding ending_of
returns-in-0 c = rw (c.in-0.is, ending_of) refl

pub returns-in-1 : goal.returns-in-1
unfolding ending_of
returns-in-1 c = rw (c.in-1.is, ending_of) refl

pub returns-in-2 : goal.returns-in-2
unfolding ending_of
returns-in-2 c = rw (c.in-2.is, ending_of) refl

pub returns-in-3 : goal.returns-in-3
unfolding ending_of
returns-in-3 c = rw (c.in-3.is, ending_of) refl

pub returns-in-4 : goal.returns-in-4
unfolding ending_of
returns-in-4 c = rw (c.in-4.is, ending_of) refl

pub returns-in-5 : goal.returns-in-5
unfolding ending_of
returns-in-5 c = rw (c.in-5.is, ending_of) refl

pub returns-in_default : goal.returns-in_default
returns-in_default c = search (rules, other_code)
