-- `spans::distance` meets its contract: the larger less the smaller.
-- Assumes nothing.
use native.Mathlib.Omega.{arith}
use Rattle.rules.specs.Declarations.{how_many}
use Rattle.spans.proofs.distance.Goals as goal

pub returns-then-left-right : goal.returns-then-left-right
unfolding how_many
returns-then-left-right c = omega arith

pub returns : goal.returns
unfolding how_many
returns c = omega arith
