-- `scopes::labels::among` meets its contract.
-- Assumes nothing.
use mathlib.Core.Path.{sym}
use Rattle.scopes.proofs.labels.among.Goals as goal

pub returns-then-hinted : goal.returns-then-hinted
returns-then-hinted c = λ v. sym (c.hinted.ensures v c.if-hinted.true)
