-- `chains::chains::grown` meets its contract.
use borrow.Author.Rules.{rules}
use Rattle.chains.specs.Laws.Chains.{grown_more, grown_same}
use Rattle.chains.proofs.chains.grown.Goals as goal

pub returns-then-more : goal.returns-then-more
returns-then-more c = grown_more _ _ _ _ c.if-more.true c.only.ensures c.union.ensures

pub returns : goal.returns
returns c = search (rules, grown_same)
