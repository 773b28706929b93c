-- `chaining::walks::descend` meets its contract: the levels that are left fall.
use borrow.Author.Rules.{rules}
use Prim.Native.Nat.{◌-◌}
use native.Mathlib.Omega.{arith}
use Rattle.chaining.specs.Laws.Walks.{level_above, top_level, top_walked, body_there}
use Rattle.chaining.proofs.walks.+descend.Goals as goal

pub start-requires : goal.start-requires
start-requires t c = (c.requires.0, top_level c.requires.1.0 c.if-k-ge-LONGEST_CHAIN.true _ c.requires.1.1)

pub returns-then-k-ge-LONGEST_CHAIN : goal.returns-then-k-ge-LONGEST_CHAIN
returns-then-k-ge-LONGEST_CHAIN t c = top_walked c.requires.1.0 c.if-k-ge-LONGEST_CHAIN.true c.start.ensures

pub next_level-above-requires : goal.next_level-above-requires
next_level-above-requires t c = c.requires.0

pub descend-walk-requires : goal.descend-walk-requires
descend-walk-requires t c = (
  omega (arith, c.decreases, c.if-k-ge-LONGEST_CHAIN.false),
  (c.requires.0, (search rules, level_above _ _ _ c.requires.1.1 c.next_level-above.ensures)),
)

pub step-requires : goal.step-requires
step-requires t c = (c.requires.0, (search rules, body_there c.requires.0 c.descend-walk.ensures))

pub returns : goal.returns
returns t c = c.step.ensures _ c.requires.1.1 c.descend-walk.ensures
