-- `table::views::main_of` meets its contract: the token before the name is MAIN, or any other.
-- Assumes nothing.
use native.Mathlib.Omega.{arith}
use Rattle.table.specs.Laws.Views.{name_here, main_some, main_none}
use Rattle.table.proofs.views.main_of.Goals as goal

pub kind_at-requires : goal.kind_at-requires
kind_at-requires c = omega (arith, (name_here c.requires.1).within)

pub returns-then-kind_at-eq-MAIN : goal.returns-then-kind_at-eq-MAIN
returns-then-kind_at-eq-MAIN c = λ values v. main_some v c.kind_at.ensures c.if-kind_at-eq-MAIN.true

pub returns : goal.returns
returns c = λ values v. main_none v c.kind_at.ensures c.if-kind_at-eq-MAIN.false
