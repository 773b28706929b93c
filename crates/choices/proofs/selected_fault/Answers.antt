-- `choices::selected_fault` meets its contract.
-- Assumes nothing.
use Rattle.choices.proofs.selected_fault.Goals as goal

pub returns : goal.returns
returns c = λ v. rw (← c.past.ensures v) c.choice_fault.ensures
