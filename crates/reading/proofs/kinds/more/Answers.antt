-- `reading::kinds::more` meets its contract.
use Rattle.reading.specs.Laws.Groups.{more_behind}
use Rattle.reading.proofs.kinds.more.Goals as goal

pub returns : goal.returns
returns c = λ v. more_behind _ _ (c.end_of.ensures.1 v) (c.kind_of.ensures v)
