-- `ways::prefixes::test` meets its contract: the action begins behind the `=>`.
-- Assumes nothing.
use native.Mathlib.Omega.{arith}
use Rattle.ways.specs.Laws.Seeking.{found_within}
use Rattle.ways.specs.Laws.Firsts.{first_fits}
use Rattle.ways.specs.Laws.Prefixes.{test_within, arrow_sought, test_starts, test_put}
use Rattle.ways.proofs.prefixes.test.Goals as goal

pub overflow_add-at : goal.overflow_add-at
overflow_add-at c = omega (arith, (test_within c.requires.0.1).2)

pub seek-to-requires : goal.seek-to-requires
seek-to-requires c = (c.requires.0.0, arrow_sought c.requires.0.1)

pub overflow_add-to : goal.overflow_add-to
overflow_add-to c = let (g, v) = c.requires.0 in omega (arith, found_within g (arrow_sought v) c.seek-to.result (c.seek-to.ensures.1 g (arrow_sought v)))

pub first_of-first-requires : goal.first_of-first-requires
first_of-first-requires c = let (g, v) = c.requires.0 in (g, test_starts v c.seek-to.result (c.seek-to.ensures.1 g (arrow_sought v)))

pub put_inside-requires : goal.put_inside-requires
put_inside-requires c = let (g, v) = c.requires.0 in let s = test_starts v c.seek-to.result (c.seek-to.ensures.1 g (arrow_sought v)) in ((test_within v).1, omega (arith, (first_fits s (c.first_of-first.ensures g s)).1))

pub put_link-requires : goal.put_link-requires
put_link-requires c = (omega (arith, (test_within c.requires.0.1).1, c.put_inside.ensures.kept.long), c.requires.1)

pub returns : goal.returns
returns c = λ g v. let q = c.seek-to.ensures.1 g (arrow_sought v) in test_put v c.seek-to.result q (c.first_of-first.ensures g (test_starts v c.seek-to.result q)) c.put_inside.ensures c.put_link.ensures
