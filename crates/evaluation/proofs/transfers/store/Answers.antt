-- `evaluation::transfers::store` meets its contract.
-- Assumes nothing.
use Rattle.evaluation.specs.Laws.Stores.{put_by}
use Rattle.evaluation.proofs.transfers.store.Goals as goal

pub returns : goal.returns
returns c = put_by c.get64-old.ensures c.with_field.ensures c.put64.ensures c.with_field.type_inv
