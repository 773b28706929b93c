-- `links::leaves::named` meets its contract: `(` stands behind the name of an activation.
-- Assumes nothing.
use native.Mathlib.Omega.{arith}
use Rattle.ways.specs.Laws.Seeking.{found_within}
use Rattle.ways.specs.Laws.Standing.{within}
use Rattle.links.specs.Laws.Leaves.{behind_within, activation_done, equals_sought, transfer_done}
use Rattle.links.proofs.leaves.named.Goals as goal

pub overflow_add-at : goal.overflow_add-at
overflow_add-at c = omega (arith, (within c.requires.5).2)

pub kind_at-requires : goal.kind_at-requires
kind_at-requires c = behind_within c.requires.5 c.requires.6

pub put_link-requires : goal.put_link-requires
put_link-requires c = ((within c.requires.5).1, c.requires.5.link_fits)

pub returns-then-kind_at-eq-LPAR : goal.returns-then-kind_at-eq-LPAR
returns-then-kind_at-eq-LPAR c = λ g labels count first depth v n. activation_done v n c.kind_at.ensures c.if-kind_at-eq-LPAR.true c.put_link.ensures

pub overflow_add-at-2 : goal.overflow_add-at-2
overflow_add-at-2 c = omega (arith, (within c.requires.5).2)

pub seek-equals-requires : goal.seek-equals-requires
seek-equals-requires c = (c.requires.0, equals_sought c.requires.5 c.requires.6 c.kind_at.ensures c.if-kind_at-eq-LPAR.false)

pub put_inside-requires : goal.put_inside-requires
put_inside-requires c = let s = equals_sought c.requires.5 c.requires.6 c.kind_at.ensures c.if-kind_at-eq-LPAR.false in ((within c.requires.5).1, omega (arith, found_within c.requires.0 s c.seek-equals.result (c.seek-equals.ensures.1 c.requires.0 s)))

pub put_link-requires-2 : goal.put_link-requires-2
put_link-requires-2 c = (omega (arith, (within c.requires.5).1, c.put_inside.ensures.kept.long), c.requires.5.link_fits)

pub returns : goal.returns
returns c = λ g labels count first depth v n. let s = equals_sought v n c.kind_at.ensures c.if-kind_at-eq-LPAR.false in transfer_done v n c.kind_at.ensures c.if-kind_at-eq-LPAR.false c.seek-equals.result (c.seek-equals.ensures.1 g s) c.put_inside.ensures c.put_link-2.ensures
