-- `compared::runs::compare_listed` meets its contract: the refusal of the list, or what is compared.
-- Assumes nothing.
use Rattle.std.proofs.lemmas.Bool.{not_from_false, not_from_true}
use borrow.Author.Tests.{not-true, not-false}
use mathlib.Core.Path.{sym, ◌∙◌}
use Rattle.compared.specs.Laws.Traced.{refused_list}
use Rattle.compared.proofs.runs.compare_listed.Goals as goal

pub returns-then-not-is_list : goal.returns-then-not-is_list
returns-then-not-is_list c = refused_list c.requires.by_index.1 c.requires.by_index.2 (sym c.is_list.ensures ∙ not-true _ (not_from_false _ c.if-not-is_list.true)) c.refusal.ensures

pub compare-requires : goal.compare-requires
compare-requires c = record { by_index = c.requires.by_index; entries_value = (sym c.is_list.ensures ∙ not-false _ (not_from_true _ c.if-not-is_list.false), c.requires.in_bounds) }
