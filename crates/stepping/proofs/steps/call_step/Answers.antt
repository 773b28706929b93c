-- `stepping::steps::call_step` meets its contract: the declaration tells where the body begins.
-- Assumes nothing.
use native.Mathlib.Omega.{arith}
use mathlib.Core.Path.{ap, ◌∙◌}
use Rattle.cells.specs.Cells.{cell}
use Rattle.records.specs.Holds.{link_cell}
use Rattle.stepping.specs.Laws.Steps.{call_declared, call_body, call_answer}
use Rattle.stepping.proofs.steps.call_step.Goals as goal

pub get16-body-requires : goal.get16-body-requires
get16-body-requires c = omega (arith, c.inside_at.ensures, call_declared c.requires.1.1.0 c.requires.1.1.1.0 c.requires.1.1.1.1)

pub link_at-first-requires : goal.link_at-first-requires
link_at-first-requires c = omega (arith, c.get16-body.ensures ∙ ap (cell 2 _) c.inside_at.ensures, call_body c.requires.1.1.0 c.requires.1.1.1.0 c.requires.1.1.1.1)

pub returns : goal.returns
returns c = λ values carriers v k o. call_answer v k o (c.link_at-first.ensures ∙ ap (link_cell _) (c.get16-body.ensures ∙ ap (cell 2 _) c.inside_at.ensures)) c.link_at.ensures
