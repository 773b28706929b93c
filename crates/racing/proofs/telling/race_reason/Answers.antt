-- `racing::telling::race_reason` meets its contract.
use Rattle.racing.specs.Laws.Told.{no_race, with_race}
use Rattle.racing.proofs.telling.race_reason.Goals as goal

pub returns-in_err-found : goal.returns-in_err-found
returns-in_err-found c = λ v. rw (c.from_residual.ensures) (no_race c.in_err-found.ensures v)

pub returns : goal.returns
returns c = with_race c.in_ok-found.ensures c.shared.ensures
