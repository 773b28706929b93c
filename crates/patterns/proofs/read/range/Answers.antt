-- `patterns::read::range` meets its contract.
-- Assumes nothing.
use borrow.Author.Rules.{rules}
use borrow.Author.Tests.{lt-ltb, le-ltb}
use mathlib.Core.Path.{◌≡◌}
use Prim.Native.Nat.{ℕ, ◌+◌, ◌<◌, ◌≤◌}
use Rattle.rules.specs.Selectors.{between}
use Rattle.patterns.specs.Items.{range_of}
use Rattle.patterns.proofs.read.range.Goals as goal

falling : (a b c d : ℕ) → c < a → between c (a + b) ≡ range_of a b c d
falling a b c d h = rw (range_of, lt-ltb c a h)

rising : (a b c d : ℕ) → a ≤ c → between a (c + d) ≡ range_of a b c d
rising a b c d h = rw (range_of, le-ltb c a h)

pub returns-then-other-one : goal.returns-then-other-one
returns-then-other-one c = search (rules, falling)

pub returns : goal.returns
returns c = search (rules, rising)
