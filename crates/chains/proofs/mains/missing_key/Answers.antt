-- `chains::mains::missing_key` meets its contract.
use borrow.Author.Rules.{rules}
use Rattle.chains.specs.Laws.Mains.{main_present, main_missing}
use Rattle.chains.proofs.mains.missing_key.Goals as goal

pub returns-then-seen : goal.returns-then-seen
returns-then-seen c = search (rules, main_present)

pub returns : goal.returns
returns c = search (rules, main_missing)
