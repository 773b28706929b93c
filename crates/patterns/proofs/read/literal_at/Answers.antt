-- `patterns::read::literal_at` meets its contract: the table has the value and the free bits.
-- Assumes nothing.
use borrow.Author.Rules.{rules}
use native.Mathlib.Omega.{arith}
use Rattle.patterns.specs.Laws.Tokens.{literal_value_room, literal_kind_room, literal_free_room, read_masked, read_exact}
use Rattle.patterns.proofs.read.literal_at.Goals as goal

pub value_at-value-requires : goal.value_at-value-requires
value_at-value-requires c = search (rules, literal_value_room)

pub kind_at-requires : goal.kind_at-requires
kind_at-requires c = search (rules, literal_kind_room)

pub overflow_add-q : goal.overflow_add-q
overflow_add-q c = omega (arith, literal_free_room c.requires)

pub value_at-requires : goal.value_at-requires
value_at-requires c = search (rules, literal_free_room)

pub returns-then-kind_at-eq-MASKED : goal.returns-then-kind_at-eq-MASKED
returns-then-kind_at-eq-MASKED c = λ v. read_masked v.held c.kind_at.ensures c.value_at-value.ensures v.literal v.stands c.if-kind_at-eq-MASKED.true _ c.value_at.ensures

pub returns : goal.returns
returns c = λ v. read_exact v.held c.kind_at.ensures c.value_at-value.ensures v.literal v.stands c.if-kind_at-eq-MASKED.false
