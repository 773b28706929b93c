-- `linking::beginning::link_all` meets its contract: the entries passed are linked.
-- Assumes nothing.
use borrow.Author.Rules.{rules}
use mathlib.Core.Path.{refl}
use Rattle.linking.specs.Laws.Chains.{one_less, none_before}
use Rattle.linking.proofs.beginning.link_all.Goals as goal

pub loop-i-init : goal.loop-i-init
loop-i-init c = (rw c.count-i.ensures c.requires, refl)

pub link-requires : goal.link-requires
link-requires c = search (rules, one_less)

pub returns : goal.returns
returns c = search (rules, none_before)
