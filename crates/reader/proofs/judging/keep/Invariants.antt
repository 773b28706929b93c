-- `reader::judging::keep` meets its contract: the cells before k are copied.
-- Assumes nothing.
use Prim.Native.Nat.{ℕ, ◌≤◌}
use mathlib.Core.Path.{◌≡◌}
use mathlib.Core.List.{List}
use lib.ListN.{length}
use Rattle.reader.specs.Copied.{Copied}
use Rattle.reader.proofs.judging.keep.Given as goal

pub record Inv (room decls₀ decls : List ℕ) (k : ℕ) : Type 0 where
  pub within : k ≤ 256
  pub long : length decls ≡ length decls₀
  pub copied : Copied decls room k

abbrev pub invariant-loop-k : goal.invariant-loop-k
invariant-loop-k l = Inv l.room l.initial.decls l.decls l.k
