-- `gathering::touches::called` meets its contract.
use Rattle.gathering.specs.Laws.Shown.{unknown_body, known_body}
use Rattle.gathering.proofs.touches.called.Goals as goal

pub returns-then-m-k : goal.returns-then-m-k
returns-then-m-k c =
    unknown_body c.requires.1.0 c.requires.1.1.0
    c.inside_at-k.ensures _ c.if-m-k.true c.nothing.ensures.0 c.nothing.ensures.1.0 c.nothing.ensures.1.1

pub returns : goal.returns
returns c =
    known_body c.requires.1.0 c.requires.1.1.0
    c.inside_at-k.ensures c.if-m-k.false c.recalled.ensures.0 c.recalled.ensures.1.0 c.recalled.ensures.1.1
