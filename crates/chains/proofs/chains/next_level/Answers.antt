-- `chains::chains::next_level` meets its contract.
use borrow.Author.Rules.{rules}
use Rattle.chains.specs.Laws.Chains.{none_rising, risen, rise}
use Rattle.chains.proofs.chains.next_level.Goals as goal

pub loop-k-init : goal.loop-k-init
loop-k-init c = search (rules, none_rising)

pub loop-k-preserved : goal.loop-k-preserved
loop-k-preserved c = rise c.loop-k.invariant _ c.loop-k-test.true c.rises.ensures c.grown-set.ensures

pub returns : goal.returns
returns c = search (rules, risen)
