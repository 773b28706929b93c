-- `lent::answers::put_answer` meets its contract: the answer stands pair by pair.
-- Assumes nothing.
use borrow.Author.Rules.{rules}
use mathlib.Core.Path.{◌∙◌, ap}
use Rattle.cells.specs.Cells.{put_cell}
use Rattle.lent.specs.Laws.Bytes.{answer_put}
use Rattle.lent.proofs.answers.put_answer.Goals as goal

pub returns : goal.returns
returns c =
    answer_put c.args.answer.now _ _ _ _ _ _ _ _ _ _ _ _ (search rules)
    c.pair.ensures.1 c.pair-2.ensures.1 c.pair-3.ensures.1 c.pair-4.ensures.1
    (c.put64.ensures ∙ ap (put_cell 8 _ 0) c.pair.ensures.0) (c.put64-2.ensures ∙ ap (put_cell 8 _ 1) c.pair-2.ensures.0)
    (c.put64-3.ensures ∙ ap (put_cell 8 _ 2) c.pair-3.ensures.0) (c.put64-4.ensures ∙ ap (put_cell 8 _ 3) c.pair-4.ensures.0)
