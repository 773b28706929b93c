-- `turning::ways::back` meets its contract: activations are left until one goes on.
-- Assumes nothing.
use mathlib.Core.Path.{◌≡◌}
use lib.ListN.{length}
use Rattle.telling.specs.Cited.Tracing.{return}
use Rattle.turning.specs.Ways.{WayAt}
use Rattle.turning.specs.Laws.Ways.{Returning}
use Rattle.turning.proofs.ways.back.Given as goal

abbrev pub invariant-loop-top : goal.invariant-loop-top
invariant-loop-top l = (length l.room ≡ length l.initial.room) × ((v : WayAt l.records l.cells l.initial.room l.stack l.n l.depth return) → Returning v l.room l.top)
