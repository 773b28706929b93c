-- `reader::judging::keep` meets its contract: the cells before k are copied.
-- Assumes nothing.
use borrow.Author.Rules.{rules}
use Rattle.cells.proofs.Laws.{length_put}
use Rattle.reader.specs.Laws.Copied.{none_copied, one_more, all_copied}
use Rattle.reader.proofs.judging.keep.Goals as goal

pub loop-k-init : goal.loop-k-init
loop-k-init c = record { within = search rules; long = search rules; copied = search (rules, none_copied) }

pub loop-k-preserved : goal.loop-k-preserved
loop-k-preserved c =
    record {
      within = search rules;
      long = search (rules, length_put);
      copied = one_more c.loop-k.invariant.copied c.put16.ensures c.get16.ensures (search rules) (search rules);
    }

pub returns : goal.returns
returns c = search (rules, all_copied)
