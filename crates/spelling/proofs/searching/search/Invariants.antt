-- `spelling::searching::search` meets its contract: the nodes that are passed have other words, and each stands behind the one before it.
-- Assumes nothing.
use Prim.Native.Nat.{◌+◌, ◌*◌, ◌-◌}
use Rattle.room.specs.Spelling.{heads}
use Rattle.spelling.proofs.Walks.{Inv}
use Rattle.spelling.proofs.searching.search.Given as goal

abbrev pub invariant-loop-i : goal.invariant-loop-i
invariant-loop-i l = Inv l.text l.records l.room l.i l.c l.depth

abbrev pub decreases-loop-i : goal.decreases-loop-i
decreases-loop-i l = heads + 2 * l.i - l.c
