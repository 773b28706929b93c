-- `listed::entries::is_list` meets its contract: whole entries, and not too many.
-- Assumes nothing.
use Rattle.std.proofs.Common.{ne_eqb, ◌∙◌}
use Rattle.listed.specs.Laws.Entries.{not_whole, count_decides}
use Rattle.listed.proofs.entries.is_list.Goals as goal

pub returns-then-entries-eq0 : goal.returns-then-entries-eq0
returns-then-entries-eq0 c = count_decides c.args.entries.now c.if-entries-eq0.true

pub returns-else-entries-eq0 : goal.returns-else-entries-eq0
returns-else-entries-eq0 c = ne_eqb _ 0 c.if-entries-eq0.false ∙ not_whole c.args.entries.now c.if-entries-eq0.false
