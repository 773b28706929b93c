-- `reporting::numbers::put_numbers` meets its contract: the numbers stand pair by pair.
use borrow.Author.Rules.{rules}
use Prim.Native.Nat.{◌-◌}
use Rattle.reporting.specs.Laws.Numbers.{none_written, all_written, pair_written}
use Rattle.reporting.proofs.numbers.put_numbers.Goals as goal

pub loop-i-init : goal.loop-i-init
loop-i-init c = none_written _ _

pub loop-i-preserved : goal.loop-i-preserved
loop-i-preserved c = pair_written c.loop-i.invariant c.loop-i-test.true (search rules) (search rules) c.number_at-low.ensures c.number_at-high.ensures c.pair.ensures.1 c.pair.ensures.0 c.put64.ensures (search rules)

pub returns : goal.returns
returns c = all_written c.loop-i-test.false (search rules) c.loop-i.invariant
