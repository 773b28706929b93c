-- `ways::scans::first_of` meets its contract: each step keeps the first instruction.
-- Assumes nothing.
use borrow.Author.Rules.{rules}
use native.Mathlib.Omega.{arith}
use Prim.Native.Nat.{◌-◌}
use Rattle.ways.specs.Laws.Firsts.{start_going, going_within, past_begin, first_other, name_within, first_name, past_label}
use Rattle.ways.proofs.scans.first_of.Goals as goal

pub loop-at-init : goal.loop-at-init
loop-at-init c = search (rules, start_going)

pub kind_at-kind-requires : goal.kind_at-kind-requires
kind_at-kind-requires c = (going_within c.loop-at.invariant c.requires).0

pub overflow_add-at : goal.overflow_add-at
overflow_add-at c = omega (arith, (going_within c.loop-at.invariant c.requires).1)

pub loop-at-smaller-then-kind-eq-BEGIN : goal.loop-at-smaller-then-kind-eq-BEGIN
loop-at-smaller-then-kind-eq-BEGIN c = omega (arith, (going_within c.loop-at.invariant c.requires).0)

pub loop-at-preserved-then-kind-eq-BEGIN : goal.loop-at-preserved-then-kind-eq-BEGIN
loop-at-preserved-then-kind-eq-BEGIN c = past_begin c.loop-at.invariant c.kind_at-kind.ensures c.if-kind-eq-BEGIN.true

pub returns-then-kind-ne-NAME : goal.returns-then-kind-ne-NAME
returns-then-kind-ne-NAME c = first_other c.loop-at.invariant c.kind_at-kind.ensures c.if-kind-eq-BEGIN.false c.if-kind-ne-NAME.true

pub overflow_add-at-in-loop-at : goal.overflow_add-at-in-loop-at
overflow_add-at-in-loop-at c = omega (arith, (going_within c.loop-at.invariant c.requires).1)

pub kind_at-requires : goal.kind_at-requires
kind_at-requires c = name_within c.loop-at.invariant c.kind_at-kind.ensures c.if-kind-ne-NAME.false c.requires

pub returns-then-kind_at-ne-BECOMES : goal.returns-then-kind_at-ne-BECOMES
returns-then-kind_at-ne-BECOMES c = first_name c.loop-at.invariant c.kind_at-kind.ensures c.if-kind-ne-NAME.false c.kind_at.ensures c.if-kind_at-ne-BECOMES.true

pub overflow_add-at-in-loop-at-2 : goal.overflow_add-at-in-loop-at-2
overflow_add-at-in-loop-at-2 c = omega (arith, (going_within c.loop-at.invariant c.requires).1)

pub loop-at-smaller : goal.loop-at-smaller
loop-at-smaller c = omega (arith, (going_within c.loop-at.invariant c.requires).0)

pub loop-at-preserved : goal.loop-at-preserved
loop-at-preserved c = past_label c.loop-at.invariant c.kind_at-kind.ensures c.if-kind-ne-NAME.false c.kind_at.ensures c.if-kind_at-ne-BECOMES.false
