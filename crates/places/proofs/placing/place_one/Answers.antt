-- `places::placing::place_one` meets its contract: a name takes its place, and any other token stays as it is.
-- Assumes nothing.
use native.Mathlib.Omega.{arith}
use Rattle.places.specs.Laws.Placing.{no_name, name_in, name_placed}
use Rattle.places.proofs.placing.place_one.Goals as goal

pub returns-then-kind_at-ne-NAME : goal.returns-then-kind_at-ne-NAME
returns-then-kind_at-ne-NAME c = λ v. no_name c.kind_at.ensures c.requires.1 c.if-kind_at-ne-NAME.true v

pub access_cell-c-requires : goal.access_cell-c-requires
access_cell-c-requires c = name_in c.kind_at.ensures c.requires.1 c.if-kind_at-ne-NAME.false c.requires.0

pub returns : goal.returns
returns c = λ v. name_placed c.kind_at.ensures c.requires.1 c.if-kind_at-ne-NAME.false (omega (arith, c.access_cell-c.type_inv)) c.access_cell-c.ensures c.put64.ensures v
