-- `linking::beginning::link` meets its contract: the entry comes in front of those of its word.
-- Assumes nothing.
use native.Mathlib.Omega.{arith}
use Rattle.linking.specs.Laws.Chains.{unlinked, linked}
use Rattle.linking.proofs.beginning.link.Goals as goal

pub returns-then-w-ge-MOST_WORDS : goal.returns-then-w-ge-MOST_WORDS
returns-then-w-ge-MOST_WORDS c =
    unlinked c.args.i c.requires c.put16.ensures c.entry_at-x.ensures (omega arith)

pub returns : goal.returns
returns c =
    linked c.args.i c.requires c.put16.ensures c.entry_at-x.ensures (omega arith) c.get16-next.ensures (omega arith)
    c.put16-2.ensures c.put16-3.ensures
