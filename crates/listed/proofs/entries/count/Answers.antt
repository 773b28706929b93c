-- `listed::entries::count` meets its contract: there are so many entries as are asked for.
-- Assumes nothing.
use mathlib.Core.Path.{sym}
use Rattle.listed.specs.Laws.Entries.{length_entries}
use Rattle.listed.proofs.entries.count.Goals as goal

pub returns : goal.returns
returns c = sym (length_entries _ _)
