-- `gathering::gathering::own_carrier` meets its contract.
use borrow.Author.Rules.{rules}
use Rattle.gathering.specs.Laws.Filling.{name_inside, name_kind, carrier_one, carrier_none}
use Rattle.gathering.proofs.gathering.own_carrier.Goals as goal

pub carrier-c-requires : goal.carrier-c-requires
carrier-c-requires c = search (rules, name_inside, name_kind)

pub returns-then-c-lt-MOST_DECLARATIONS : goal.returns-then-c-lt-MOST_DECLARATIONS
returns-then-c-lt-MOST_DECLARATIONS c = (search rules, search (rules, carrier_one))

pub returns : goal.returns
returns c = (search rules, search (rules, carrier_none))
