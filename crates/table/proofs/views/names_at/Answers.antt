-- `table::views::names_at` meets its contract: the number of tokens tells which names stand there.
-- Assumes nothing.
use borrow.Author.Rules.{rules}
use native.Mathlib.Omega.{arith}
use mathlib.Core.Path.{◌≡◌}
use Rattle.table.specs.Laws.Bits.{seen, bits_within, names_none, names_unnamed, names_single, size_last, names_pair}
use Rattle.table.proofs.views.names_at.Goals.{In_default}
use Rattle.table.proofs.views.names_at.Goals as goal

-- a form that is none of the three before has five tokens
five : (c : In_default) → c.bits_size-size.result ≡ 5
five c =
    let v = c.requires in
    size_last (seen v) (c.bits_size-size.ensures _ v) c.in_default.in_default-own.rest.0.0.1 c.in_default.in_default-own.rest.0.1 c.in_default.in_default-own.rest.1

pub overflow_add-p : goal.overflow_add-p
overflow_add-p c = let v = c.requires in omega (arith, bits_within v, c.bits_size-size.ensures _ v, c.in-3.is)

pub value_at-only-requires : goal.value_at-only-requires
value_at-only-requires c = let v = c.requires in omega (arith, bits_within v, c.bits_size-size.ensures _ v, c.in-3.is)

pub overflow_add-p-in_default : goal.overflow_add-p-in_default
overflow_add-p-in_default c = let v = c.requires in omega (arith, bits_within v, c.bits_size-size.ensures _ v, five (goal.at.overflow_add-p-in_default c).In_default)

pub value_at-requires : goal.value_at-requires
value_at-requires c = let v = c.requires in omega (arith, bits_within v, c.bits_size-size.ensures _ v, five (goal.at.value_at-requires c).In_default)

pub overflow_add-p-in_default-2 : goal.overflow_add-p-in_default-2
overflow_add-p-in_default-2 c = let v = c.requires in omega (arith, bits_within v, c.bits_size-size.ensures _ v, five (goal.at.overflow_add-p-in_default-2 c).In_default)

pub value_at-requires-in_default : goal.value_at-requires-in_default
value_at-requires-in_default c = let v = c.requires in omega (arith, bits_within v, c.bits_size-size.ensures _ v, five (goal.at.value_at-requires-in_default c).In_default)

pub returns-in-0 : goal.returns-in-0
returns-in-0 c = λ v. let s = seen v in let e = c.bits_size-size.ensures _ v in search (rules, names_none)

pub returns-in-2 : goal.returns-in-2
returns-in-2 c = λ v. let s = seen v in let e = c.bits_size-size.ensures _ v in search (rules, names_unnamed)

pub returns-in-3 : goal.returns-in-3
returns-in-3 c = λ v. let s = seen v in let e = c.bits_size-size.ensures _ v in search (rules, names_single)

pub returns-in_default : goal.returns-in_default
returns-in_default c = λ v. names_pair (seen v) (c.bits_size-size.ensures _ v) (five (goal.at.returns-in_default c).In_default) c.value_at.ensures c.value_at-in_default.ensures
