-- `links::bodies::link` meets its contract: one declaration after the other.
-- Assumes nothing.
use borrow.Author.Rules.{rules}
use native.Mathlib.Omega.{arith}
use mathlib.Core.Path.{refl}
use Rattle.links.specs.Laws.Bodies.{start_going, partly_at, one_linked, all_linked}
use Rattle.links.proofs.bodies.link.Goals as goal

pub loop-k-init : goal.loop-k-init
loop-k-init c = (start_going _ _ _ _, refl, refl)

pub declaration-requires : goal.declaration-requires
declaration-requires c = let (values, ts, d, r, s) = c.requires.0 in partly_at c.loop-k.invariant.0 _ (omega (arith, c.requires.1, c.loop-k.invariant.1)) c.loop-k-test.true values ts d r s

pub loop-k-preserved : goal.loop-k-preserved
loop-k-preserved c = (one_linked c.loop-k.invariant.0 _ (omega (arith, c.requires.1, c.loop-k.invariant.1)) c.loop-k-test.true c.declaration.ensures, search rules, search rules)

pub returns : goal.returns
returns c = all_linked c.loop-k.invariant.0 c.loop-k-test.false
