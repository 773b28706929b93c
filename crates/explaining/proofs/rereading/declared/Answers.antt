-- `explaining::rereading::declared` meets its contract.
use Rattle.explaining.specs.Laws.Again.{described, nested, redeclared}
use Rattle.explaining.proofs.rereading.declared.Goals as goal

pub returns-in_err-m : goal.returns-in_err-m
returns-in_err-m c =
    absurd
    (rw c.in_err-m.was at
    (redeclared c.requires.rescanned _ _ c.declare.result
    (c.declare.ensures (described c.requires.rescanned) (nested c.requires.rescanned))))

pub returns : goal.returns
returns c =
    rw c.in_ok-m.was at
    (redeclared c.requires.rescanned _ _ c.declare.result
    (c.declare.ensures (described c.requires.rescanned) (nested c.requires.rescanned)))
