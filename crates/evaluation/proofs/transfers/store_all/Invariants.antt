-- `evaluation::transfers::store_all` meets its contract: a turn stores the next field.
-- Assumes nothing.
use Rattle.evaluation.specs.Stores.{StoresAt}
use Rattle.evaluation.specs.Laws.Stores.{Storing}
use Rattle.evaluation.proofs.transfers.store_all.Given as goal

abbrev pub invariant-loop-k : goal.invariant-loop-k
invariant-loop-k l = (s : StoresAt l.initial.carriers l.fields l.count l.bits) → Storing s l.v l.carriers l.k l.rest
