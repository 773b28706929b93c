-- `reader::declaring::declared` meets its contract: what the declarations' pass tells is what is answered.
-- Assumes nothing.
use Rattle.std.proofs.lemmas.Result.{err_from_is_err_and}
use Rattle.reader.specs.Laws.Read.{described, told}
use Rattle.reader.proofs.declaring.declared.Goals as goal

pub returns-in_err-m : goal.returns-in_err-m
returns-in_err-m c =
    let p = err_from_is_err_and c.from_residual.result c.from_residual.ensures.1 in
    rw (p.1, p.2)
    (rw c.in_err-m.was at
    (told c.requires.stands _ _ c.declare.result
    (c.declare.ensures (described c.requires.stands) c.requires.stands.nested)))

pub returns : goal.returns
returns c =
    rw c.in_ok-m.was at
    (told c.requires.stands _ _ c.declare.result
    (c.declare.ensures (described c.requires.stands) c.requires.stands.nested))
