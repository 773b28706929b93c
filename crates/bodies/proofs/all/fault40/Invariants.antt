-- `bodies::all::fault40` meets its contract: what is found so far, with what the bodies left have, is the answer.
-- Assumes nothing.
use mathlib.Core.Path.{◌≡◌}
use mathlib.Core.List.{List}
use Prim.Native.Nat.{ℕ}
use lib.ListN.{length}
use Rattle.bodies.specs.Bodies.{BodiesView}
use Rattle.bodies.specs.Laws.All.{Left}
use Rattle.bodies.proofs.all.fault40.Given as goal

pub record Inv (records values decls room₀ : List ℕ) (m : ℕ) (room : List ℕ) (a k : ℕ) : Type 0 where
  pub long : length room ≡ length room₀
  pub left : (text : List ℕ) (v : BodiesView text records values decls room₀ m) → Left v a k

abbrev pub invariant-loop-k : goal.invariant-loop-k
invariant-loop-k l = Inv l.records l.values l.decls l.initial.room l.m l.room l.key l.k
