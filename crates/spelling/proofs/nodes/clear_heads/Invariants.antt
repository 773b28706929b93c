-- `spelling::nodes::clear_heads` meets its contract: the heads that are passed have no node.
-- Assumes nothing.
use Rattle.spelling.specs.Spelling.{Cleared}
use Rattle.spelling.proofs.nodes.clear_heads.Given as goal

abbrev pub invariant-loop-h : goal.invariant-loop-h
invariant-loop-h l = Cleared l.room 0 l.h
