-- `pair_turns::taking::well` meets its contract.
-- Assumes nothing.
use mathlib.Core.Path.{sym, ap}
use mathlib.Core.Bool.{Bool}
use Rattle.pair_turns.specs.Taking.{well_ended}
use Rattle.pair_turns.proofs.taking.well.Goals as goal

pub returns-then-stopped : goal.returns-then-stopped
returns-then-stopped c = sym (ap (λ (b : Bool). well_ended b c.args.steps) c.if-stopped.true)

pub returns : goal.returns
returns c = sym (ap (λ (b : Bool). well_ended b c.args.steps) c.if-stopped.false)
