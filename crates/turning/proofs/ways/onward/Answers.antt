-- `turning::ways::onward` meets its contract: control goes where the step leads, and what it passes is told.
-- Assumes nothing.
use Rattle.std.specs.Prelude.{Ok}
use Rattle.std.proofs.Common.{ap}
use Rattle.turning.specs.Laws.Ways.{way_stops, call_few, call_told, go_few, go_told, out_returns, out_told}
use Rattle.turning.proofs.ways.onward.Goals as goal

pub enter-requires : goal.enter-requires
enter-requires c = (c.requires.0.long, (c.requires.0.list, (c.requires.0.sound, call_few _ _ c.requires.0 (ap Ok c.in-Call.is))))

pub pass-requires : goal.pass-requires
pass-requires c = (c.requires.0.long, (c.requires.0.list, (c.requires.0.sound, go_few _ _ c.requires.0 (ap Ok c.in-Go.is) c.if-next-ne0.true)))

pub returns-then-next-ne0 : goal.returns-then-next-ne0
returns-then-next-ne0 c = λ v. go_told _ _ v (ap Ok c.in-Go.is) c.if-next-ne0.true c.pass.ensures

pub leave-requires : goal.leave-requires
leave-requires c = (c.requires.0.long, (c.requires.0.list, c.requires.0.sound))

pub back-requires : goal.back-requires
back-requires c = out_returns _ _ c.requires.0 (ap Ok c.in-Go.is) c.if-next-ne0.false c.leave.ensures

pub returns-in-Stop : goal.returns-in-Stop
returns-in-Stop c = λ v. way_stops _ _ v (ap Ok c.in-Stop.is)

pub returns-in-Call : goal.returns-in-Call
returns-in-Call c = λ v. call_told _ _ v (ap Ok c.in-Call.is) c.requires.1 c.enter.ensures

pub returns-else-next-ne0 : goal.returns-else-next-ne0
returns-else-next-ne0 c = λ v. out_told _ _ v (ap Ok c.in-Go.is) c.if-next-ne0.false c.leave.ensures c.back.ensures
