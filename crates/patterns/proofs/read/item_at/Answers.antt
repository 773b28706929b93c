-- `patterns::read::item_at` meets its contract: the kind of the second token tells a range.
-- Assumes nothing.
use borrow.Author.Rules.{rules}
use native.Mathlib.Omega.{arith}
use Rattle.patterns.specs.Laws.Tokens.{first_view, second_kind_room, range_view, read_single, read_range}
use Rattle.patterns.proofs.read.item_at.Goals as goal

pub literal_at-one-requires : goal.literal_at-one-requires
literal_at-one-requires c = search (rules, first_view)

pub overflow_add-q : goal.overflow_add-q
overflow_add-q c = omega (arith, second_kind_room c.requires)

pub kind_at-requires : goal.kind_at-requires
kind_at-requires c = search (rules, second_kind_room)

pub overflow_add-result : goal.overflow_add-result
overflow_add-result c = omega (arith, second_kind_room c.requires)

pub returns-then-kind_at-ne-COLON : goal.returns-then-kind_at-ne-COLON
returns-then-kind_at-ne-COLON c = λ v. read_single v c.kind_at.ensures c.if-kind_at-ne-COLON.true (c.literal_at-one.ensures (first_view v))

pub overflow_add-q-2 : goal.overflow_add-q-2
overflow_add-q-2 c = omega (arith, second_kind_room c.requires)

pub literal_at-other-requires : goal.literal_at-other-requires
literal_at-other-requires c = range_view c.requires c.kind_at.ensures c.if-kind_at-ne-COLON.false

pub range-requires : goal.range-requires
range-requires c =
    let v = c.requires in
    let k = c.kind_at.ensures in
    ((c.literal_at-one.ensures (first_view v)).fits, (c.literal_at-other.ensures (range_view v k c.if-kind_at-ne-COLON.false)).fits)

pub overflow_add-result-2 : goal.overflow_add-result-2
overflow_add-result-2 c = omega (arith, second_kind_room c.requires)

pub returns : goal.returns
returns c =
    λ v. read_range v c.kind_at.ensures c.if-kind_at-ne-COLON.false (c.literal_at-one.ensures (first_view v))
    c.literal_at-other.ensures c.range.ensures
