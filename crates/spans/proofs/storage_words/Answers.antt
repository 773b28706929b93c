-- `spans::storage_words` meets its contract: names that are not too large are few.
-- Assumes nothing.
use borrow.Author.Rules.{rules}
use native.Mathlib.Omega.{arith}
use Rattle.spans.proofs.Ranges.{few_words, no_storage, storage}
use Rattle.spans.proofs.storage_words.Goals as goal

pub returns-then-is_missing : goal.returns-then-is_missing
returns-then-is_missing c = search (rules, no_storage)

pub overflow_add-result : goal.overflow_add-result
overflow_add-result c = omega (arith, few_words c.args.words c.requires)

pub returns : goal.returns
returns c =
    storage c.args.bits c.args.words c.is_missing.ensures c.last_of.result c.if-is_missing.false c.requires
    c.last_of.ensures
