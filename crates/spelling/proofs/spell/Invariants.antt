-- `spelling::spell` meets its contract: the tokens that are passed are spelled.
-- Assumes nothing.
use Rattle.spelling.proofs.Steps.{Inv}
use Rattle.spelling.proofs.spell.Given as goal

abbrev pub invariant-loop-i : goal.invariant-loop-i
invariant-loop-i l = Inv l.text l.initial.records l.records l.initial.room l.room l.n l.i
