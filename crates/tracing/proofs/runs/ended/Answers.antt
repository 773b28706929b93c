-- `tracing::runs::ended` meets its contract.
-- Assumes nothing.
use mathlib.Core.Path.{sym, ap}
use Rattle.std.specs.Prelude.{Ok}
use Rattle.tracing.specs.Traces.{ended_by}
use Rattle.tracing.proofs.runs.ended.Goals as goal

pub returns-in-At : goal.returns-in-At
returns-in-At c = sym (ap (λ t. ended_by (Ok t) c.args.steps) c.in-At.is)

pub returns-in-Over : goal.returns-in-Over
returns-in-Over c = sym (ap (λ t. ended_by (Ok t) c.args.steps) c.in-Over.is)

pub returns-in-Stop : goal.returns-in-Stop
returns-in-Stop c = sym (ap (λ t. ended_by (Ok t) c.args.steps) c.in-Stop.is)
