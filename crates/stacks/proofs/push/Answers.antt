-- `stacks::push` meets its contract.
-- Assumes nothing.
use borrow.Author.Rules.{rules}
use native.Mathlib.Omega.{arith}
use Rattle.stacks.specs.Laws.Index.{spelling_small}
use Rattle.stacks.specs.Laws.Pushed.{is_pushed}
use Rattle.stacks.proofs.push.Goals as goal

pub overflow_add-spelling : goal.overflow_add-spelling
overflow_add-spelling c = omega (arith, spelling_small c.requires.0)

pub put16-requires : goal.put16-requires
put16-requires c = omega (arith, spelling_small c.requires.0)

pub returns : goal.returns
returns c = search (rules, is_pushed)
