-- `table::views::target_of` meets its contract: what stands behind `:=` and is no BEGIN is the name of a target.
-- Assumes nothing.
use native.Mathlib.Omega.{arith}
use Rattle.table.specs.Laws.Views.{seen_given, given_far, target_none, target_body, target_some}
use Rattle.table.proofs.views.target_of.Goals as goal

pub returns-in_err-g : goal.returns-in_err-g
returns-in_err-g c = λ values v. rw (c.from_residual.ensures) (target_none v (c.in_err-g.ensures _ v))

pub kind_at-requires : goal.kind_at-requires
kind_at-requires c = let v = c.requires.1 in omega (arith, given_far (seen_given v (c.in_ok-g.ensures _ v)))

pub returns-then-kind_at-eq-BEGIN : goal.returns-then-kind_at-eq-BEGIN
returns-then-kind_at-eq-BEGIN c = λ values v. target_body (seen_given v (c.in_ok-g.ensures _ v)) c.kind_at.ensures c.if-kind_at-eq-BEGIN.true

pub returns : goal.returns
returns c = λ values v. target_some (seen_given v (c.in_ok-g.ensures _ v)) c.kind_at.ensures c.if-kind_at-eq-BEGIN.false
