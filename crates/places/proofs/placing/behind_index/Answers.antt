-- `places::placing::behind_index` meets its contract: a subscript begins with `[`, and nothing else behind a name does.
-- Assumes nothing.
use borrow.Author.Rules.{rules}
use Rattle.places.specs.Laws.Placing.{index_past, index_none, index_some}
use Rattle.places.proofs.placing.behind_index.Goals as goal

pub returns-then-p-n : goal.returns-then-p-n
returns-then-p-n c = (search rules, λ values v. index_past c.args.p v (search rules))

pub returns-then-kind_at-ne-LBRA : goal.returns-then-kind_at-ne-LBRA
returns-then-kind_at-ne-LBRA c = (search rules, λ values v. index_none c.args.p v c.kind_at.ensures c.if-kind_at-ne-LBRA.true)

pub returns : goal.returns
returns c = (search rules, λ values v. index_some c.args.p v c.behind_subscript.result c.kind_at.ensures c.if-kind_at-ne-LBRA.false (c.behind_subscript.ensures.1 values v))
