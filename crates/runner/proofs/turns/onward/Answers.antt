-- `runner::turns::onward` meets its contract: control goes where the step leads.
-- Assumes nothing.
use native.Mathlib.Omega.{arith}
use Rattle.std.specs.Prelude.{Ok}
use Rattle.std.proofs.Common.{ap}
use Rattle.runner.specs.Laws.Turns.{stands, calls_last, calls_more, goes_there, goes_back}
use Rattle.runner.proofs.turns.onward.Goals as goal

pub returns-then-behind-eq0 : goal.returns-then-behind-eq0
returns-then-behind-eq0 c = calls_last _ _ (ap Ok c.in-Call.is) c.if-behind-eq0.true

pub bounds-stack-depth : goal.bounds-stack-depth
bounds-stack-depth c = omega (arith, c.requires.more _ _ (ap Ok c.in-Call.is) c.if-behind-eq0.false)

pub returns-then-next-ne0 : goal.returns-then-next-ne0
returns-then-next-ne0 c = goes_there _ _ (ap Ok c.in-Go.is) c.if-next-ne0.true

pub returns-in-Stop : goal.returns-in-Stop
returns-in-Stop c = stands _ _ (ap Ok c.in-Stop.is)

pub returns-else-behind-eq0 : goal.returns-else-behind-eq0
returns-else-behind-eq0 c =
    calls_more _ _ (ap Ok c.in-Call.is) c.if-behind-eq0.false
    (omega (arith, c.requires.more _ _ (ap Ok c.in-Call.is) c.if-behind-eq0.false, c.requires.long))

pub returns-else-next-ne0 : goal.returns-else-next-ne0
returns-else-next-ne0 c = goes_back _ _ (Ok c.back.result) (ap Ok c.in-Go.is) c.if-next-ne0.false c.back.ensures
