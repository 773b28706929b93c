-- `kept::stores::store_accepted` meets its contract.
-- Assumes nothing.
use borrow.Author.Rules.{rules}
use Rattle.table.specs.Ready.{table_of}
use Rattle.starts.specs.Laws.Cases.{declines_by, begins_by}
use Rattle.std.proofs.lemmas.Result.{err_from_is_err_and}
use Rattle.kept.specs.Laws.Cases.{store_declined, store_begun, small_carriers}
use Rattle.kept.proofs.stores.store_accepted.Goals as goal

pub start-requires : goal.start-requires
start-requires c = (c.requires.text, c.requires.tokens, c.requires.description, c.requires.ready)

pub write_image-requires : goal.write_image-requires
write_image-requires c = small_carriers c.requires (begins_by (c.start.ensures _ _ _ c.requires.ready) c.in_ok-start.was)

pub returns-in_err-start : goal.returns-in_err-start
returns-in_err-start c = λ v.
    let p = err_from_is_err_and c.from_residual.result c.from_residual.ensures.1 in
    rw (p.1, p.2) (store_declined (table_of v) _ _ (declines_by (c.start.ensures _ _ _ v.ready) c.in_err-start.was))

pub returns : goal.returns
returns c = λ v. store_begun (table_of v) _ _ (begins_by (c.start.ensures _ _ _ v.ready) c.in_ok-start.was) c.write_image.ensures
