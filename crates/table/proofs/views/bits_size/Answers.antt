-- `table::views::bits_size` meets its contract: the kinds of the first three tokens tell the form of the bits.
-- Assumes nothing.
use borrow.Author.Rules.{rules}
use native.Mathlib.Omega.{arith}
use mathlib.Core.Path.{◌≡◌}
use mathlib.Core.List.{List}
use Prim.Native.Nat.{ℕ, ◌+◌, ◌<◌}
use lib.ListN.{length}
use Rattle.rules.specs.Text.Tokens.{Less, kind_no}
use Rattle.records.specs.Holds.{kind_byte}
use Rattle.table.specs.Bits.{BitsView}
use Rattle.table.specs.Laws.Bits.{seen, bits_within, size_open, size_none, size_unnamed, size_pair, size_single}
use Rattle.table.proofs.views.bits_size.Goals as goal

opened : {records values : List ℕ} {p k : ℕ} (v : BitsView records values p) → k ≡ kind_byte records p → k ≡ kind_no Less → p + 2 < length v.tokens
opened v e k = omega (arith, bits_within v, size_open (seen v) e k)

pub kind_at-requires : goal.kind_at-requires
kind_at-requires c = omega (arith, bits_within c.requires.1)

pub returns-then-kind_at-ne-LESS : goal.returns-then-kind_at-ne-LESS
returns-then-kind_at-ne-LESS c = λ values v. let s = seen v in search (rules, size_none)

pub overflow_add-p : goal.overflow_add-p
overflow_add-p c = omega (arith, opened c.requires.1 c.kind_at.ensures c.if-kind_at-ne-LESS.false)

pub kind_at-requires-2 : goal.kind_at-requires-2
kind_at-requires-2 c = omega (arith, opened c.requires.1 c.kind_at.ensures c.if-kind_at-ne-LESS.false)

pub returns-then-kind_at-eq-GREATER : goal.returns-then-kind_at-eq-GREATER
returns-then-kind_at-eq-GREATER c = λ values v. let s = seen v in search (rules, size_unnamed)

pub overflow_add-p-2 : goal.overflow_add-p-2
overflow_add-p-2 c = omega (arith, opened c.requires.1 c.kind_at.ensures c.if-kind_at-ne-LESS.false)

pub kind_at-requires-3 : goal.kind_at-requires-3
kind_at-requires-3 c = omega (arith, opened c.requires.1 c.kind_at.ensures c.if-kind_at-ne-LESS.false)

pub returns-then-kind_at-eq-COLON : goal.returns-then-kind_at-eq-COLON
returns-then-kind_at-eq-COLON c = λ values v. let s = seen v in search (rules, size_pair)

pub returns : goal.returns
returns c = λ values v. let s = seen v in search (rules, size_single)
