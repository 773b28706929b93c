-- `stepping::choice::takes_value` meets its contract: the kind of the first token tells the case.
-- Assumes nothing.
use native.Mathlib.Omega.{arith}
use Rattle.stepping.specs.Laws.Choice.{case_room, listed_inside, listed_there, takes_inside, takes_any, takes_there, takes_number}
use Rattle.stepping.proofs.choice.takes_value.Goals as goal

pub kind_at-kind-requires : goal.kind_at-kind-requires
kind_at-kind-requires c = case_room c.requires

pub returns-then-kind-eq-OTHERWISE : goal.returns-then-kind-eq-OTHERWISE
returns-then-kind-eq-OTHERWISE c = λ v. takes_any v c.kind_at-kind.ensures _ c.if-kind-eq-OTHERWISE.true

pub overflow_add-q : goal.overflow_add-q
overflow_add-q c = omega (arith, case_room c.requires)

pub any_matches-requires : goal.any_matches-requires
any_matches-requires c = listed_inside c.requires c.kind_at-kind.ensures c.if-kind-eq-LBRA.true

pub returns-then-kind-eq-LBRA : goal.returns-then-kind-eq-LBRA
returns-then-kind-eq-LBRA c = λ v. takes_inside v c.kind_at-kind.ensures _ c.if-kind-eq-LBRA.true c.any_matches.ensures

pub returns-then-kind-eq-NAME : goal.returns-then-kind-eq-NAME
returns-then-kind-eq-NAME c = λ v. takes_number v c.kind_at-kind.ensures _ (λ e. omega arith) (λ e. omega arith) c.if-kind-eq-LBRA.false c.if-kind-eq-OTHERWISE.false

pub returns-then-kind-gt-MASKED : goal.returns-then-kind-gt-MASKED
returns-then-kind-gt-MASKED c = λ v. takes_number v c.kind_at-kind.ensures _ (λ e. omega arith) (λ e. omega arith) c.if-kind-eq-LBRA.false c.if-kind-eq-OTHERWISE.false

pub any_matches-requires-2 : goal.any_matches-requires-2
any_matches-requires-2 c = listed_there c.requires c.kind_at-kind.ensures (omega arith) (omega arith)

pub returns : goal.returns
returns c = λ v. takes_there v c.kind_at-kind.ensures _ (omega arith) (omega arith) c.any_matches-2.ensures
