-- `listing::listing::put_declaration` meets its contract: the lines are told by the number of words and their names.
-- Assumes nothing.
use borrow.Author.Rules.{rules}
use Rattle.listing.proofs.Storage.{view_of, name_stands, nothing_listed, word_listed, array_count, array_listed, never_listed}
use Rattle.listing.proofs.listing.put_declaration.Goals as goal

pub returns-then-n-eq0 : goal.returns-then-n-eq0
returns-then-n-eq0 c = nothing_listed c.requires.counted _ _ c.if-n-eq0.true

pub words_of-requires : goal.words_of-requires
words_of-requires c = search (rules, view_of)

pub put_word-requires : goal.put_word-requires
put_word-requires c = search (rules, name_stands)

pub put_array-requires : goal.put_array-requires
put_array-requires c = search (rules, name_stands, array_count)

pub returns-in-Missing : goal.returns-in-Missing
returns-in-Missing c = word_listed c.requires.counted _ _ c.if-n-eq0.false c.words_of.ensures c.in-Missing.is c.get64.ensures c.put_word.ensures

pub returns-in-Unnamed : goal.returns-in-Unnamed
returns-in-Unnamed c = never_listed c.requires.counted _ _ c.if-n-eq0.false c.words_of.ensures c.in-Unnamed.is

pub returns-in-Span : goal.returns-in-Span
returns-in-Span c = array_listed c.requires.counted _ _ c.if-n-eq0.false c.words_of.ensures _ _ c.in-Span.is c.put_array.ensures
