-- `table::views::words_of` meets its contract: words that take tokens are two constants at fixed distances.
-- Assumes nothing.
use native.Mathlib.Omega.{arith}
use mathlib.Core.Path.{◌≡◌}
use Rattle.table.specs.Laws.Views.{seen_words, given_within, words_missing, words_five, words_span}
use Rattle.table.proofs.views.words_of.Goals.{Else-size-eq0}
use Rattle.table.proofs.views.words_of.Goals as goal

five : (c : Else-size-eq0) → c.words_size-size.result ≡ 5
five c = let v = c.requires in words_five (seen_words v) (c.words_size-size.ensures _ v) c.if-size-eq0.false

pub returns-then-size-eq0 : goal.returns-then-size-eq0
returns-then-size-eq0 c = λ v. words_missing (seen_words v) (c.words_size-size.ensures _ v) c.if-size-eq0.true

pub overflow_add-i : goal.overflow_add-i
overflow_add-i c = let v = c.requires in omega (arith, given_within v, five (goal.at.overflow_add-i c).Else-size-eq0, c.words_size-size.ensures _ v)

pub value_at-requires : goal.value_at-requires
value_at-requires c = let v = c.requires in omega (arith, given_within v, five (goal.at.value_at-requires c).Else-size-eq0, c.words_size-size.ensures _ v)

pub overflow_add-i-2 : goal.overflow_add-i-2
overflow_add-i-2 c = let v = c.requires in omega (arith, given_within v, five (goal.at.overflow_add-i-2 c).Else-size-eq0, c.words_size-size.ensures _ v)

pub value_at-requires-2 : goal.value_at-requires-2
value_at-requires-2 c = let v = c.requires in omega (arith, given_within v, five (goal.at.value_at-requires-2 c).Else-size-eq0, c.words_size-size.ensures _ v)

pub returns : goal.returns
returns c = λ v. words_span (seen_words v) (c.words_size-size.ensures _ v) c.if-size-eq0.false c.value_at.ensures c.value_at-2.ensures
