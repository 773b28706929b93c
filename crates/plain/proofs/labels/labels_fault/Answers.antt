-- `plain::labels::labels_fault` meets its contract: what is found so far, with what the labels left have, is the answer.
-- Assumes nothing.
use Rattle.std.proofs.lemmas.Bool.{not_from_false, not_from_true}
use borrow.Author.Rules.{rules}
use native.Mathlib.Omega.{arith}
use borrow.Author.Tests.{not-true, not-false}
use mathlib.Core.Path.{◌∙◌}
use mathlib.Core.List.{List}
use Prim.Native.Nat.{ℕ, ◌*◌, ◌≤◌}
use lib.ListN.{length}
use Rattle.room.specs.Bodies.{index_end}
use Rattle.plain.specs.Laws.Passes.{pass_starts, pass_ends, pass_room, pass_on, pass_label, pass_push, pass_pushed}
use Rattle.plain.proofs.labels.labels_fault.Invariants.{Inv}
use Rattle.plain.proofs.labels.labels_fault.Goals as goal

large : {records room₀ : List ℕ} {i j : ℕ} {room : List ℕ} {at count k : ℕ} → Inv records room₀ i j room at count k → 2 * index_end ≤ length room₀
    → 2 * index_end ≤ length room
large inv l = omega (arith, inv.long)

pub loop-at-init : goal.loop-at-init
loop-at-init c = record { long = search rules; least = omega arith; left = λ text values decls v. pass_starts v _ }

pub loop-at-preserved-then-not-is_label : goal.loop-at-preserved-then-not-is_label
loop-at-preserved-then-not-is_label c =
    record {
      long = c.loop-at.invariant.long;
      least = c.loop-at.invariant.least;
      left = λ text values decls v. pass_on v (c.loop-at.invariant.left _ _ _ v) c.loop-at-test.true c.is_label.ensures (not-true _ (not_from_false _ c.if-not-is_label.true));
    }

pub label_fault-requires : goal.label_fault-requires
label_fault-requires c = (_, _, _, pass_label c.requires.1.3 (c.loop-at.invariant.left _ _ _ c.requires.1.3) c.loop-at-test.true c.is_label.ensures (not-false _ (not_from_true _ c.if-not-is_label.false)) (large c.loop-at.invariant c.requires.0))

pub push-requires : goal.push-requires
push-requires c = pass_push c.requires.1.3 (c.loop-at.invariant.left _ _ _ c.requires.1.3) c.loop-at-test.true c.is_label.ensures (not-false _ (not_from_true _ c.if-not-is_label.false)) (large c.loop-at.invariant c.requires.0)

pub overflow_add-count : goal.overflow_add-count
overflow_add-count c = omega (arith, pass_room c.requires.1.3 (c.loop-at.invariant.left _ _ _ c.requires.1.3) c.loop-at-test.true)

pub loop-at-preserved : goal.loop-at-preserved
loop-at-preserved c =
    record {
      long = c.push.ensures.kept.long ∙ c.loop-at.invariant.long;
      least = omega (arith, c.earlier-key.ensures, c.loop-at.invariant.least);
      left = λ text values decls v.
          let p = c.loop-at.invariant.left _ _ _ v in
          let t = not-false _ (not_from_true _ c.if-not-is_label.false) in
          let l = large c.loop-at.invariant c.requires.0 in
          rw c.earlier-key.ensures
          (pass_pushed v p c.loop-at-test.true c.is_label.ensures t l (c.label_fault.ensures _ _ _ (pass_label v p c.loop-at-test.true c.is_label.ensures t l)) c.push.ensures);
    }

pub returns : goal.returns
returns c = λ text values decls v. pass_ends v (c.loop-at.invariant.left _ _ _ v) c.loop-at.invariant.least c.loop-at-test.false
