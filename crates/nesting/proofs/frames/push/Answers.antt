-- `nesting::frames::push` meets its contract.
use borrow.Author.Rules.{rules}
use Rattle.nesting.specs.Laws.Grouping.{six_put}
use Rattle.nesting.proofs.frames.push.Goals as goal

pub returns : goal.returns
returns c = search (rules, six_put)
