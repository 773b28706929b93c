-- `profiling::walks::tell` meets its contract.
use borrow.Author.Rules.{rules}
use Rattle.profiling.specs.Laws.Going.{found_tells}
use Rattle.profiling.proofs.walks.tell.Goals as goal

pub returns : goal.returns
returns c = search (rules, found_tells)
