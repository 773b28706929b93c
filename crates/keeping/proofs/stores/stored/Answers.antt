-- `keeping::stores::stored` meets its contract.
-- Assumes nothing.
use Rattle.reader.specs.Laws.Cases.{refuses_by, accepts_by}
use Rattle.std.proofs.lemmas.Result.{err_from_is_err_and}
use Rattle.keeping.specs.Laws.Answered.{standing, refused_answer, kept_answer}
use Rattle.keeping.proofs.stores.stored.Goals as goal

pub store_accepted-requires : goal.store_accepted-requires
store_accepted-requires c = standing (accepts_by c.check.ensures c.in_ok-accepted.was)

pub returns-in_err-accepted : goal.returns-in_err-accepted
returns-in_err-accepted c =
    let p = err_from_is_err_and c.from_residual.result c.from_residual.ensures.1 in
    rw (p.1, p.2) (refused_answer (refuses_by c.check.ensures c.in_err-accepted.was))

pub returns : goal.returns
returns c = let v = accepts_by c.check.ensures c.in_ok-accepted.was in kept_answer v (c.store_accepted.ensures (standing v))
