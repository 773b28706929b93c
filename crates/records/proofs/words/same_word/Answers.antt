-- `records::words::same_word` meets its contract: words of one size are compared where they stand in the text.
-- Assumes nothing.
use borrow.Author.Rules.{rules}
use Rattle.records.specs.Laws.Words.{other_size, runs_inside, same_runs}
use Rattle.records.proofs.words.same_word.Goals as goal

pub returns-then-n-m : goal.returns-then-n-m
returns-then-n-m c = λ v. search (rules, other_size)

pub same_run-requires : goal.same_run-requires
same_run-requires c =
    runs_inside c.requires c.size_at-n.ensures c.size_at-m.ensures c.if-n-m.false
    c.place_at.ensures c.place_at-2.ensures

pub returns : goal.returns
returns c = λ v. search (rules, same_runs)
