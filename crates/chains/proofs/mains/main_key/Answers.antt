-- `chains::mains::main_key` meets its contract.
use borrow.Author.Rules.{rules}
use Rattle.chains.specs.Laws.Mains.{none_seen, see_more, all_seen}
use Rattle.chains.proofs.mains.main_key.Goals as goal

pub loop-k-init : goal.loop-k-init
loop-k-init c = search (rules, none_seen)

pub loop-k-preserved : goal.loop-k-preserved
loop-k-preserved c = see_more c.loop-k.invariant c.main_at-at.result c.loop-k-test.true c.main_at-at.ensures c.second_key.ensures c.earlier-key.ensures c.met-seen.ensures

pub returns : goal.returns
returns c = search (rules, all_seen)
