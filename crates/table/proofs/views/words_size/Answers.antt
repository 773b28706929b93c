-- `table::views::words_size` meets its contract: words begin with a `[` behind the name.
-- Assumes nothing.
use borrow.Author.Rules.{rules}
use native.Mathlib.Omega.{arith}
use Rattle.table.specs.Laws.Views.{seen_words, given_within, words_size, no_words_size}
use Rattle.table.proofs.views.words_size.Goals as goal

pub overflow_add-i : goal.overflow_add-i
overflow_add-i c = omega (arith, given_within c.requires.1)

pub kind_at-requires : goal.kind_at-requires
kind_at-requires c = omega (arith, given_within c.requires.1)

pub returns-then-kind_at-eq-LBRA : goal.returns-then-kind_at-eq-LBRA
returns-then-kind_at-eq-LBRA c = λ values v. let s = seen_words v in search (rules, words_size)

pub returns : goal.returns
returns c = λ values v. let s = seen_words v in search (rules, no_words_size)
