-- `storing::parts::tell_part` meets its contract.
-- Assumes nothing.
use Rattle.storing.specs.Laws.Parts.{told_first, told_next}
use Rattle.storing.proofs.parts.tell_part.Goals as goal

pub returns-then-k-eq0 : goal.returns-then-k-eq0
returns-then-k-eq0 c = told_first _ _ c.if-k-eq0.true c.tell_first.ensures

pub returns : goal.returns
returns c = search told_next
