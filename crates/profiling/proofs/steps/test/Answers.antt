-- `profiling::steps::test` meets its contract.
use borrow.Author.Rules.{rules}
use Rattle.profiling.specs.Laws.Acting.{chosen_stands, test_does}
use Rattle.profiling.proofs.steps.test.Goals as goal

pub reach-requires : goal.reach-requires
reach-requires c = search (rules, chosen_stands)

pub returns : goal.returns
returns c = search (rules, test_does)
