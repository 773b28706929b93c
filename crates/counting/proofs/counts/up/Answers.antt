-- `counting::counts::up` meets its contract.
use borrow.Author.Rules.{rules}
use Rattle.bounds.specs.Cited.Counts.{up}
use Rattle.counting.proofs.counts.up.Goals as goal

pub returns : goal.returns
unfolding up
returns c = search rules
