-- `table::views::body_of` meets its contract: a body begins with BEGIN behind `:=`.
-- Assumes nothing.
use native.Mathlib.Omega.{arith}
use Rattle.table.specs.Laws.Views.{seen_given, given_far, body_none, body_some, body_other}
use Rattle.table.proofs.views.body_of.Goals as goal

pub returns-in_err-g : goal.returns-in_err-g
returns-in_err-g c = λ values v. rw (c.from_residual.ensures) (body_none v (c.in_err-g.ensures _ v))

pub kind_at-requires : goal.kind_at-requires
kind_at-requires c = let v = c.requires.1 in omega (arith, given_far (seen_given v (c.in_ok-g.ensures _ v)))

pub returns-then-kind_at-eq-BEGIN : goal.returns-then-kind_at-eq-BEGIN
returns-then-kind_at-eq-BEGIN c = λ values v. body_some (seen_given v (c.in_ok-g.ensures _ v)) c.kind_at.ensures c.if-kind_at-eq-BEGIN.true

pub returns : goal.returns
returns c = λ values v. body_other (seen_given v (c.in_ok-g.ensures _ v)) c.kind_at.ensures c.if-kind_at-eq-BEGIN.false
