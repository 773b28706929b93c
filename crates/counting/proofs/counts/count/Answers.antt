-- `counting::counts::count` meets its contract.
use borrow.Author.Rules.{rules}
use Rattle.counting.specs.Laws.Holding.{count_shown}
use Rattle.counting.proofs.counts.count.Goals as goal

pub returns : goal.returns
returns c = search (rules, count_shown)
