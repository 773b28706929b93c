-- `places::counting::first_words` meets its contract: each declaration begins where those before it end.
-- Assumes nothing.
use mathlib.Core.Path.{◌≡◌}
use mathlib.Core.List.{List}
use Prim.Native.Nat.{ℕ}
use lib.ListN.{length}
use Rattle.places.specs.Laws.Counting.{Counted}
use Rattle.places.proofs.counting.first_words.Given as goal

pub record Inv (records values decls firsts₀ firsts : List ℕ) (m k total : ℕ) : Type 0 where
  pub counted : Counted records values decls firsts m k total
  pub long : length firsts ≡ length firsts₀

abbrev pub invariant-loop-k : goal.invariant-loop-k
invariant-loop-k l = Inv l.records l.values l.decls l.initial.firsts l.firsts l.m l.k l.total
