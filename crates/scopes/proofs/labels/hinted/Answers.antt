-- `scopes::labels::hinted` meets its contract: the label that the hint leads to is one of those from base up to top.
-- Assumes nothing.
use borrow.Author.Rules.{rules}
use mathlib.Core.Path.{sym}
use mathlib.Core.Bool.{true≢false}
use Rattle.scopes.specs.Laws.Hints.{hinted_pair, hinted_known}
use Rattle.scopes.proofs.labels.hinted.Goals as goal

pub returns-then-k-base : goal.returns-then-k-base
returns-then-k-base c = λ v e. absurd (true≢false (sym e))

pub returns-then-top-k : goal.returns-then-top-k
returns-then-top-k c = λ v e. absurd (true≢false (sym e))

pub same_word-requires : goal.same_word-requires
same_word-requires c = search (rules, hinted_pair)

pub returns : goal.returns
returns c = search (rules, hinted_known)
