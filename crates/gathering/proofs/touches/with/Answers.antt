-- `gathering::touches::with` meets its contract.
use borrow.Author.Rules.{rules}
use Rattle.gathering.specs.Laws.Shown.{with_owned, with_none}
use Rattle.gathering.proofs.touches.with.Goals as goal

pub returns-then-c-lt-MOST_DECLARATIONS : goal.returns-then-c-lt-MOST_DECLARATIONS
returns-then-c-lt-MOST_DECLARATIONS c = with_owned _ _ _ c.if-c-lt-MOST_DECLARATIONS.true c.only.ensures c.union.ensures

pub returns : goal.returns
returns c = search (rules, with_none)
