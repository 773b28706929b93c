-- `scopes::labels::push_label` meets its contract.
use borrow.Author.Rules.{rules}
use native.Mathlib.Omega.{arith}
use Rattle.scopes.specs.Laws.Labels.{push_nowhere, push_nothing, push_label}
use Rattle.scopes.specs.Laws.Hints.{pushed_hinted}
use Rattle.scopes.proofs.labels.push_label.Goals as goal

pub returns-then-top-base : goal.returns-then-top-base
returns-then-top-base c = search (rules, push_nowhere)

pub returns-then-kind_at-ne-NAME : goal.returns-then-kind_at-ne-NAME
returns-then-kind_at-ne-NAME c = search (rules, push_nothing)

pub returns : goal.returns
returns c =
    pushed_hinted
    (push_label c.requires.1.0 c.requires.1.1.0
    c.kind_at.ensures c.if-top-base.false
    c.if-kind_at-ne-NAME.false (search rules) c.put16.ensures
    c.requires.1.1.1.1)
    (omega arith) c.put_hint.ensures
