-- `counting::counts::turn` meets its contract.
use borrow.Author.Rules.{rules}
use Rattle.counting.specs.Laws.Holding.{turn_shown}
use Rattle.counting.proofs.counts.turn.Goals as goal

pub returns : goal.returns
returns c = search (rules, turn_shown)
