-- `links::leaves::leaf` meets its contract: by the keyword, or else the name, that it begins with.
-- Assumes nothing.
use native.Mathlib.Omega.{arith}
use Rattle.rules.specs.Text.Tokens.{LEAVE, RESTART, NO-OP, STOP}
use Rattle.ways.specs.Laws.Standing.{within}
use Rattle.ways.specs.Laws.Prefixes.{heads, heads_not}
use Rattle.links.specs.Laws.Leaves.{no_op_done, stop_done, leave_at, leave_done, restart_at, restart_done, leaf_named}
use Rattle.links.proofs.leaves.leaf.Goals as goal

pub kind_at-kind-requires : goal.kind_at-kind-requires
kind_at-kind-requires c = (within c.requires.2.view).1

pub overflow_add-at : goal.overflow_add-at
overflow_add-at c = omega (arith, (within c.requires.2.view).2)

pub aim-to-requires : goal.aim-to-requires
aim-to-requires c = ((c.requires.0, leave_at c.requires.2.view _ c.requires.2.same_text (heads c.requires.2.view c.kind_at-kind.ensures 26 c.if-kind-eq-LEAVE.true)), omega arith, omega arith)

pub put_link-requires : goal.put_link-requires
put_link-requires c = ((within c.requires.2.view).1, c.aim-to.ensures.1)

pub returns-then-kind-eq-LEAVE : goal.returns-then-kind-eq-LEAVE
returns-then-kind-eq-LEAVE c = λ g depth w. let h = heads w.view c.kind_at-kind.ensures 26 c.if-kind-eq-LEAVE.true in leave_done w.view _ w.same_text h (c.aim-to.ensures.0 g (leave_at w.view _ w.same_text h)) c.put_link.ensures

pub overflow_add-at-then-kind-eq-RESTART : goal.overflow_add-at-then-kind-eq-RESTART
overflow_add-at-then-kind-eq-RESTART c = omega (arith, (within c.requires.2.view).2)

pub aim-to-requires-then-kind-eq-RESTART : goal.aim-to-requires-then-kind-eq-RESTART
aim-to-requires-then-kind-eq-RESTART c = ((c.requires.0, restart_at c.requires.2.view _ c.requires.2.same_text (heads c.requires.2.view c.kind_at-kind.ensures 27 c.if-kind-eq-RESTART.true)), omega arith, omega arith)

pub put_link-requires-then-kind-eq-RESTART : goal.put_link-requires-then-kind-eq-RESTART
put_link-requires-then-kind-eq-RESTART c = ((within c.requires.2.view).1, c.aim-to-then-kind-eq-RESTART.ensures.1)

pub returns-then-kind-eq-RESTART : goal.returns-then-kind-eq-RESTART
returns-then-kind-eq-RESTART c = λ g depth w. let h = heads w.view c.kind_at-kind.ensures 27 c.if-kind-eq-RESTART.true in restart_done w.view _ w.same_text h (c.aim-to-then-kind-eq-RESTART.ensures.0 g (restart_at w.view _ w.same_text h)) c.put_link-then-kind-eq-RESTART.ensures

pub put_link-requires-then-kind-eq-NO_OP : goal.put_link-requires-then-kind-eq-NO_OP
put_link-requires-then-kind-eq-NO_OP c = ((within c.requires.2.view).1, c.requires.2.view.link_fits)

pub returns-then-kind-eq-NO_OP : goal.returns-then-kind-eq-NO_OP
returns-then-kind-eq-NO_OP c = λ g depth w. no_op_done w.view (heads w.view c.kind_at-kind.ensures 30 c.if-kind-eq-NO_OP.true) c.put_link-then-kind-eq-NO_OP.ensures

pub returns-then-kind-eq-STOP : goal.returns-then-kind-eq-STOP
returns-then-kind-eq-STOP c = λ g depth w. stop_done w.view (heads w.view c.kind_at-kind.ensures 29 c.if-kind-eq-STOP.true)

pub named-requires : goal.named-requires
named-requires c = (c.requires.0, _, _, _, c.requires.1, c.requires.2.view, (leaf_named c.requires.2.view.action c.requires.2.bare c.requires.2.no_block c.requires.2.no_choice (heads_not c.requires.2.view c.kind_at-kind.ensures LEAVE c.if-kind-eq-LEAVE.false) (heads_not c.requires.2.view c.kind_at-kind.ensures RESTART c.if-kind-eq-RESTART.false) (heads_not c.requires.2.view c.kind_at-kind.ensures NO-OP c.if-kind-eq-NO_OP.false) (heads_not c.requires.2.view c.kind_at-kind.ensures STOP c.if-kind-eq-STOP.false), c.requires.2.bare))

pub returns : goal.returns
returns c = λ g depth w. c.named.ensures g _ _ _ depth w.view (leaf_named w.view.action w.bare w.no_block w.no_choice (heads_not w.view c.kind_at-kind.ensures LEAVE c.if-kind-eq-LEAVE.false) (heads_not w.view c.kind_at-kind.ensures RESTART c.if-kind-eq-RESTART.false) (heads_not w.view c.kind_at-kind.ensures NO-OP c.if-kind-eq-NO_OP.false) (heads_not w.view c.kind_at-kind.ensures STOP c.if-kind-eq-STOP.false), w.bare)
