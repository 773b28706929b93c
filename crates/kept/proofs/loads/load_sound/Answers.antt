-- `kept::loads::load_sound` meets its contract.
-- Assumes nothing.
use borrow.Author.Rules.{rules}
use native.Mathlib.Omega.{arith}
use mathlib.Core.Path.{ap, ◌∙◌}
use lib.ListN.{length-take}
use Rattle.rules.specs.Images.{image_size_of}
use Rattle.table.specs.Ready.{table_of}
use Rattle.starts.specs.Laws.Cases.{declines_by, begins_by}
use Rattle.std.proofs.lemmas.Result.{err_from_is_err_and}
use Rattle.kept.specs.Laws.Cases.{same_held, taken_declined, taken_done}
use Rattle.kept.proofs.loads.load_sound.Goals as goal

pub slice_bounds-start_held-end-2 : goal.slice_bounds-start_held-end-2
slice_bounds-start_held-end-2 c = simp length-take (omega arith)

pub start_held-requires : goal.start_held-requires
start_held-requires c =
    record { scene = c.requires.scene; held_len_bound = (simp length-take (omega arith), c.requires.in_bounds.1.1 ∙ ap image_size_of (simp length-take (omega arith))) }

pub returns-in_err-start_held : goal.returns-in_err-start_held
returns-in_err-start_held c = λ v l.
    let p = err_from_is_err_and c.from_residual.result c.from_residual.ensures.1 in
    rw (p.1, p.2)
    (taken_declined (table_of v) _ _ l c.requires.in_bounds.1.1 (declines_by (same_held c.args.image.now (c.start_held.ensures v) (simp length-take (omega arith))) c.in_err-start_held.was))

pub returns : goal.returns
returns c = λ v l.
    taken_done (table_of v) _ _ l c.requires.in_bounds.1.1 (begins_by (same_held c.args.image.now (c.start_held.ensures v) (simp length-take (omega arith))) c.in_ok-start_held.was) c.read.ensures
