-- `chains::chains::chain_key` meets its contract.
use Rattle.chains.specs.Laws.Least.{none_chained, chain_more, chains_all}
use Rattle.chains.proofs.chains.chain_key.Goals as goal

pub loop-k-init : goal.loop-k-init
loop-k-init c = none_chained c.requires

pub loop-k-preserved : goal.loop-k-preserved
loop-k-preserved c =
    chain_more c.over_longest-over.ensures c.loop-k-test.true c.earlier-key.ensures
    c.chain_at.ensures c.loop-k.invariant

pub returns : goal.returns
returns c = chains_all c.over_longest-over.ensures c.loop-k-test.false c.loop-k.invariant
