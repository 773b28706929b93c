-- `pair_turns::views::fill_view` meets its contract: the words of the first k declarations are numbered.
-- Assumes nothing.
use mathlib.Core.Path.{◌≡◌}
use lib.ListN.{length}
use Rattle.pair_turns.specs.Laws.Views.{Filling}
use Rattle.pair_turns.proofs.views.fill_view.Given as goal

abbrev pub invariant-loop-k : goal.invariant-loop-k
invariant-loop-k l = (length l.view ≡ length l.initial.view) × Filling l.records l.values l.decls l.m l.firsts l.view l.at l.k
