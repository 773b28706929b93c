-- `profiling::names::activate` meets its contract.
use borrow.Author.Rules.{rules}
use Rattle.profiling.specs.Laws.Acting.{activate_shown}
use Rattle.profiling.proofs.names.activate.Goals as goal

pub returns : goal.returns
returns c = search (rules, activate_shown)
