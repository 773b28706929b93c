-- `bodies::all::body_fault` meets its contract: the body's own name is the only one around its action.
-- Assumes nothing.
use borrow.Author.Rules.{rules}
use native.Mathlib.Omega.{arith}
use mathlib.Core.Path.{refl}
use Rattle.bodies.specs.Laws.Bodies.{declared_view, own_name, bodiless, begins, body_view, labels_view, body_answer}
use Rattle.bodies.proofs.all.body_fault.Goals as goal

pub body_of-requires : goal.body_of-requires
body_of-requires c = (_, declared_view c.requires.1)

pub returns-in_default : goal.returns-in_default
returns-in_default c = record { answer = λ text v. bodiless v (c.in_default.ensures _ (declared_view v)); long = refl }

pub push-requires : goal.push-requires
push-requires c = own_name c.requires.1

pub action-inside-requires : goal.action-inside-requires
action-inside-requires c = (_, body_view c.requires.1 (begins c.requires.1 (c.in-Some.ensures _ (declared_view c.requires.1))) c.push.ensures)

pub labels_fault-labels-requires : goal.labels_fault-labels-requires
labels_fault-labels-requires c =
    let h = begins c.requires.1 (c.in-Some.ensures _ (declared_view c.requires.1)) in
    (omega (arith, c.requires.1.large, c.push.ensures.kept.long, c.action-inside.ensures.kept.long), (_, _, _, labels_view c.requires.1 h c.push.ensures (c.action-inside.ensures.answer _ (body_view c.requires.1 h c.push.ensures))))

pub returns : goal.returns
returns c =
    record {
      answer = λ text v.
          let h = begins v (c.in-Some.ensures _ (declared_view v)) in
          let a = c.action-inside.ensures.answer _ (body_view v h c.push.ensures) in
          body_answer v h c.push.ensures a (c.labels_fault-labels.ensures _ _ _ (labels_view v h c.push.ensures a)) c.earlier.ensures;
      long = search rules;
    }
