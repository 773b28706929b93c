-- `explaining::verdicts::race_numbers` meets its contract.
use Rattle.explaining.specs.Laws.Reasons.{numbers_by, race_front}
use Rattle.explaining.proofs.verdicts.race_numbers.Goals as goal

pub returns-in-None : goal.returns-in-None
returns-in-None c = numbers_by c.nothing_more.ensures c.in-None.is

pub returns-in-Some : goal.returns-in-Some
returns-in-Some c = numbers_by (race_front _ _ _ _ _ _ c.nothing_more-numbers.ensures) c.in-Some.is
