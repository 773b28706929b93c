-- `places::counting::words_named` meets its contract: by the form of the names.
-- Assumes nothing.
use borrow.Author.Rules.{rules}
use Rattle.std.proofs.Common.{inl, inr}
use Rattle.places.specs.Laws.Counting.{words_missing, words_unnamed, words_span}
use Rattle.places.proofs.counting.words_named.Goals as goal

pub returns-in-Missing : goal.returns-in-Missing
returns-in-Missing c = (search rules, elim c.in-Missing.is [ inl e ↦ words_missing e | inr e ↦ words_unnamed e ])

pub returns-in-Span : goal.returns-in-Span
returns-in-Span c = (search rules, search (rules, words_span))
