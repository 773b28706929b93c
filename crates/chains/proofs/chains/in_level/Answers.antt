-- `chains::chains::in_level` meets its contract.
use borrow.Author.Rules.{rules}
use Rattle.chains.specs.Laws.Chains.{in_all, in_none, in_some}
use Rattle.chains.proofs.chains.in_level.Goals as goal

pub returns-then-all : goal.returns-then-all
returns-then-all c = search (rules, in_all)

pub returns-then-m-k : goal.returns-then-m-k
returns-then-m-k c = search (rules, in_none)

pub returns : goal.returns
returns c = search (rules, in_some)
