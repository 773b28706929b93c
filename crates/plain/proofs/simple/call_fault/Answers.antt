-- `plain::simple::call_fault` meets its contract: the name's cell tells its declaration.
-- Assumes nothing.
use mathlib.Core.Path.{ap, ◌∙◌}
use mathlib.Core.Bool.{not}
use native.Mathlib.Omega.{arith}
use Rattle.plain.specs.Laws.Simple.{call_room, call_place, call_unknown, call_outer, call_found, call_view, call_bodiless, call_lawful}
use Rattle.plain.proofs.simple.call_fault.Goals as goal

pub place_at-place-requires : goal.place_at-place-requires
place_at-place-requires c = call_room c.requires

pub inside16_at-number-requires : goal.inside16_at-number-requires
inside16_at-number-requires c = call_room c.requires

pub fault_key-requires : goal.fault_key-requires
fault_key-requires c = omega (arith, call_place c.requires, c.place_at-place.ensures)

pub returns-then-number : goal.returns-then-number
returns-then-number c = λ v. call_unknown v c.inside16_at-number.ensures c.place_at-place.ensures c.if-number.true c.fault_key.ensures

pub fault_key-requires-then-number-2 : goal.fault_key-requires-then-number-2
fault_key-requires-then-number-2 c = omega (arith, call_place c.requires, c.place_at-place.ensures)

pub returns-then-number-2 : goal.returns-then-number-2
returns-then-number-2 c = λ v. call_outer v c.inside16_at-number.ensures c.place_at-place.ensures c.if-number-2.true c.fault_key-then-number-2.ensures

pub get16-declared-requires : goal.get16-declared-requires
get16-declared-requires c = (call_found c.requires c.inside16_at-number.ensures c.if-number.false c.if-number-2.false).room

pub body_of-requires : goal.body_of-requires
body_of-requires c = (_, call_view c.requires c.inside16_at-number.ensures c.if-number.false c.if-number-2.false c.get16-declared.ensures)

pub fault_key-requires-then-is_none : goal.fault_key-requires-then-is_none
fault_key-requires-then-is_none c = omega (arith, call_place c.requires, c.place_at-place.ensures)

pub returns-then-is_none : goal.returns-then-is_none
returns-then-is_none c =
    λ v. call_bodiless v c.inside16_at-number.ensures c.if-number.false c.if-number-2.false c.body_of.result c.place_at-place.ensures
    (c.body_of.ensures _ (call_view v c.inside16_at-number.ensures c.if-number.false c.if-number-2.false c.get16-declared.ensures)) (c.is_none.ensures ∙ ap not c.if-is_none.true) c.fault_key-then-is_none.ensures

pub returns : goal.returns
returns c =
    λ v. call_lawful v c.inside16_at-number.ensures c.if-number.false c.if-number-2.false c.body_of.result
    (c.body_of.ensures _ (call_view v c.inside16_at-number.ensures c.if-number.false c.if-number-2.false c.get16-declared.ensures)) (c.is_none.ensures ∙ ap not c.if-is_none.false)
