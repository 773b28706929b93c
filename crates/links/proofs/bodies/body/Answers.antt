-- `links::bodies::body` meets its contract.
-- Assumes nothing.
use native.Mathlib.Omega.{arith}
use Rattle.ways.specs.Laws.Firsts.{first_fits}
use Rattle.links.specs.Laws.Bodies.{body_starts_lem, body_within, body_action, body_done}
use Rattle.links.proofs.bodies.body.Goals as goal

pub first_of-first-requires : goal.first_of-first-requires
first_of-first-requires c = (c.requires.0, body_starts_lem c.requires.1)

pub push-requires : goal.push-requires
push-requires c =
    let (g, v) = c.requires in
    let s = body_starts_lem v in
    (omega arith, v.room, (body_within v).0, omega (arith, (body_within v).1), omega (arith, (first_fits s (c.first_of-first.ensures g s)).1), omega arith)

pub action-requires : goal.action-requires
action-requires c = let (g, v) = c.requires in (g, body_action v (c.first_of-first.ensures g (body_starts_lem v)) c.push.ensures, v.same_text)

pub put_link-requires : goal.put_link-requires
put_link-requires c =
    let (g, v) = c.requires in
    let s = body_starts_lem v in
    let f = c.first_of-first.ensures g s in
    (omega (arith, (body_within v).0, (c.action.ensures g (body_action v f c.push.ensures) v.same_text).kept.long), omega (arith, (first_fits s f).1))

pub returns : goal.returns
returns c =
    λ g v. let f = c.first_of-first.ensures g (body_starts_lem v) in
    body_done v f c.push.ensures (c.action.ensures g (body_action v f c.push.ensures) v.same_text) c.put_link.ensures
