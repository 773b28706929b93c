-- `gathering::memory::marked` meets its contract.
use Rattle.gathering.specs.Laws.Memory.{marks_stopping, marks_gathered}
use Rattle.gathering.proofs.memory.marked.Goals as goal

pub returns-then-stops : goal.returns-then-stops
returns-then-stops c = marks_stopping _ c.if-stops.true

pub returns : goal.returns
returns c = marks_gathered _ c.if-stops.false
