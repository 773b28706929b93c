-- `gathering::touches::carried` meets its contract.
use borrow.Author.Rules.{rules}
use Rattle.reading.specs.Laws.Meanings.{unknown_carrier}
use Rattle.gathering.specs.Laws.Shown.{known_carrier}
use Rattle.gathering.proofs.touches.carried.Goals as goal

pub returns-then-m-k : goal.returns-then-m-k
returns-then-m-k c = search (rules, unknown_carrier)

pub returns : goal.returns
returns c = search (rules, known_carrier)
