-- `nesting::frames::put3` meets its contract.
use borrow.Author.Rules.{rules}
use Rattle.nesting.specs.Laws.Grouping.{three_put}
use Rattle.nesting.proofs.frames.put3.Goals as goal

pub returns : goal.returns
returns c = search (rules, three_put)
