-- `links::bodies::declaration` meets its contract.
-- Assumes nothing.
use Rattle.links.specs.Laws.Bodies.{cell_room, view_here, without_body, body_in, with_body}
use Rattle.links.proofs.bodies.declaration.Goals as goal

pub get16-name-requires : goal.get16-name-requires
get16-name-requires c = cell_room c.requires

pub body_of-requires : goal.body_of-requires
body_of-requires c = (c.requires.values, view_here c.requires c.get16-name.ensures)

pub body-requires : goal.body-requires
body-requires c = (_, body_in c.requires c.get16-name.ensures (c.in-Some.ensures c.requires.values (view_here c.requires c.get16-name.ensures)))

pub returns-in-Some : goal.returns-in-Some
returns-in-Some c =
    λ v. let b = c.in-Some.ensures v.values (view_here v c.get16-name.ensures) in
    with_body v c.get16-name.ensures b (c.body.ensures _ (body_in v c.get16-name.ensures b))

pub returns-in_default : goal.returns-in_default
returns-in_default c = λ v. without_body v c.get16-name.ensures (c.in_default.ensures v.values (view_here v c.get16-name.ensures))
