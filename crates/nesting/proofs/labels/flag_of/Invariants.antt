-- `nesting::labels::flag_of` meets its contract: from the label that the hint leads to outwards.
use Rattle.nesting.specs.Jumping.{Seeking}
use Rattle.nesting.proofs.labels.flag_of.Given as goal

abbrev pub invariant-loop-j : goal.invariant-loop-j
invariant-loop-j l = Seeking l.records l.room l.n l.count l.name l.j
