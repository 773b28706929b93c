-- `gathering::memory::remember` meets its contract.
use borrow.Author.Rules.{rules}
use Rattle.gathering.specs.Laws.Memory.{stored}
use Rattle.gathering.proofs.memory.remember.Goals as goal

pub returns : goal.returns
returns c = search (rules, stored)
