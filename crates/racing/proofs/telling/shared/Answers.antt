-- `racing::telling::shared` meets its contract.
use native.Mathlib.Omega.{arith}
use Rattle.racing.specs.Laws.Told.{none_shared, one_shared}
use Rattle.racing.proofs.telling.shared.Goals as goal

pub first_conflict-k-requires : goal.first_conflict-k-requires
first_conflict-k-requires c = omega (arith, c.requires.0.ready.few)

pub returns-then-m-k : goal.returns-then-m-k
returns-then-m-k c =
    none_shared c.args.earlier c.args.later _ _ _ _ _ _ c.requires.1.1 c.touched-u.ensures
    c.touched-t.ensures c.first_conflict-k.ensures c.if-m-k.true

pub writers-who-requires : goal.writers-who-requires
writers-who-requires c = omega (arith, c.requires.0.ready.few)

pub overflow_cast-result : goal.overflow_cast-result
overflow_cast-result c = omega (arith, c.place_of-first.ensures.0)

pub overflow_cast-result-2 : goal.overflow_cast-result-2
overflow_cast-result-2 c = omega (arith, c.place_of-second.ensures.0)

pub overflow_cast-result-3 : goal.overflow_cast-result-3
overflow_cast-result-3 c = omega (arith, c.if-m-k.false, c.requires.0.ready.few)

pub overflow_cast-result-4 : goal.overflow_cast-result-4
overflow_cast-result-4 c = omega (arith, c.name_place-name.ensures.0)

pub returns : goal.returns
returns c =
    one_shared c.args.earlier c.args.later _ _ _ _ _ _ c.requires.1.1
    c.touched-u.ensures c.touched-t.ensures
    c.first_conflict-k.ensures c.if-m-k.false c.place_of-first.ensures.1
    c.place_of-second.ensures.1 c.name_place-name.ensures.1 c.writers-who.ensures
