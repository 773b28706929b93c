-- `linking::beginning::fill` meets its contract: the words passed have their number.
-- Assumes nothing.
use borrow.Author.Rules.{rules}
use native.Mathlib.Omega.{arith}
use Rattle.linking.specs.Laws.Chains.{none_filled, more_filled, all_filled}
use Rattle.linking.proofs.beginning.fill.Goals as goal

pub loop-w-init : goal.loop-w-init
loop-w-init c = search (rules, none_filled)

pub loop-w-preserved : goal.loop-w-preserved
loop-w-preserved c =
    (more_filled c.loop-w.invariant.0 (omega arith) (omega arith) (omega arith) c.put16.ensures, omega arith)

pub returns : goal.returns
returns c = all_filled c.loop-w.invariant.0 (omega arith)
