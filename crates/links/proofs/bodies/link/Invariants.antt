-- `links::bodies::link` meets its contract: one declaration after the other.
-- Assumes nothing.
use mathlib.Core.Path.{◌≡◌}
use lib.ListN.{length}
use Rattle.links.specs.Laws.Bodies.{Going}
use Rattle.links.proofs.bodies.link.Given as goal

abbrev pub invariant-loop-k : goal.invariant-loop-k
invariant-loop-k l = Going l.text l.initial.records l.decls l.m l.records l.k × (length l.room ≡ length l.initial.room) × (length l.records ≡ length l.initial.records)
