-- `plain::prefixes::prefixes` meets its contract: with the faults found so far, the action left has those of the whole.
-- Assumes nothing.
use Rattle.std.proofs.lemmas.Bool.{not_from_false, not_from_true}
use borrow.Author.Tests.{not-true, not-false}
use native.Mathlib.Omega.{arith}
use Rattle.stacks.specs.Laws.Kept.{kept_all, kept_then, kept_less}
use Rattle.plain.specs.Laws.Prefixes.{ahead_starts, ahead_inside, ahead_first, ahead_second, ahead_loop, ahead_test, ahead_push, ahead_label, ahead_bare}
use Rattle.plain.proofs.prefixes.prefixes.Goals as goal

pub loop-at-init : goal.loop-at-init
loop-at-init c = record { more = omega arith; kept = kept_all _ _ _; left = λ text v. ahead_starts v }

pub kind_at-kind-requires : goal.kind_at-kind-requires
kind_at-kind-requires c = ahead_first (c.loop-at.invariant.left _ c.requires.1)

pub overflow_add-at : goal.overflow_add-at
overflow_add-at c = omega (arith, ahead_inside (c.loop-at.invariant.left _ c.requires.1))

pub loop-at-smaller-then-kind-eq-REPEAT : goal.loop-at-smaller-then-kind-eq-REPEAT
loop-at-smaller-then-kind-eq-REPEAT c = omega (arith, ahead_inside (c.loop-at.invariant.left _ c.requires.1))

pub loop-at-preserved-then-kind-eq-REPEAT : goal.loop-at-preserved-then-kind-eq-REPEAT
loop-at-preserved-then-kind-eq-REPEAT c =
    record {
      more = c.loop-at.invariant.more;
      kept = c.loop-at.invariant.kept;
      left = λ text v. ahead_loop (c.loop-at.invariant.left text v) c.kind_at-kind.ensures c.if-kind-eq-REPEAT.true;
    }

pub overflow_add-at-then-kind-eq-IF : goal.overflow_add-at-then-kind-eq-IF
overflow_add-at-then-kind-eq-IF c = omega (arith, ahead_inside (c.loop-at.invariant.left _ c.requires.1))

pub expression-test-requires : goal.expression-test-requires
expression-test-requires c = (ahead_test (c.loop-at.invariant.left _ c.requires.1) c.kind_at-kind.ensures c.if-kind-eq-IF.true).view

pub overflow_add-at-then-kind-eq-IF-2 : goal.overflow_add-at-then-kind-eq-IF-2
overflow_add-at-then-kind-eq-IF-2 c =
    let t = ahead_test (c.loop-at.invariant.left _ c.requires.1) c.kind_at-kind.ensures c.if-kind-eq-IF.true in
    omega (arith, t.inside _ (c.expression-test.ensures t.view))

pub loop-at-smaller-then-kind-eq-IF : goal.loop-at-smaller-then-kind-eq-IF
loop-at-smaller-then-kind-eq-IF c =
    let t = ahead_test (c.loop-at.invariant.left _ c.requires.1) c.kind_at-kind.ensures c.if-kind-eq-IF.true in
    omega (arith, t.inside _ (c.expression-test.ensures t.view), (c.expression-test.ensures t.view).past)

pub loop-at-preserved-then-kind-eq-IF : goal.loop-at-preserved-then-kind-eq-IF
loop-at-preserved-then-kind-eq-IF c =
    record {
      more = c.loop-at.invariant.more;
      kept = c.loop-at.invariant.kept;
      left = λ text v.
          let t = ahead_test (c.loop-at.invariant.left text v) c.kind_at-kind.ensures c.if-kind-eq-IF.true in
          t.goes_on _ _ (c.expression-test.ensures t.view) c.earlier-key.ensures;
    }

pub is_label-requires : goal.is_label-requires
is_label-requires c = ahead_second (c.loop-at.invariant.left _ c.requires.1)

pub returns-then-not-is_label : goal.returns-then-not-is_label
returns-then-not-is_label c =
    record {
      kept = c.loop-at.invariant.kept;
      answer = λ text v. record {
        ahead = c.loop-at.invariant.left text v;
        bare = ahead_bare (c.loop-at.invariant.left text v) c.is_label.ensures c.kind_at-kind.ensures c.if-kind-eq-REPEAT.false c.if-kind-eq-IF.false (not-true _ (not_from_false _ c.if-not-is_label.true));
      };
    }

pub push-requires : goal.push-requires
push-requires c = ahead_push (c.loop-at.invariant.left _ c.requires.1) c.is_label.ensures (not-false _ (not_from_true _ c.if-not-is_label.false)) (omega (arith, c.loop-at.invariant.kept.long, c.requires.1.large))

pub overflow_add-names : goal.overflow_add-names
overflow_add-names c = omega (arith, ahead_inside (c.loop-at.invariant.left _ c.requires.1))

pub overflow_add-at-in-loop-at : goal.overflow_add-at-in-loop-at
overflow_add-at-in-loop-at c = omega (arith, ahead_inside (c.loop-at.invariant.left _ c.requires.1))

pub loop-at-smaller : goal.loop-at-smaller
loop-at-smaller c = omega (arith, ahead_inside (c.loop-at.invariant.left _ c.requires.1))

pub loop-at-preserved : goal.loop-at-preserved
loop-at-preserved c =
    record {
      more = omega arith;
      kept =
          kept_then c.loop-at.invariant.kept
          (kept_less c.push.ensures.kept c.loop-at.invariant.more
          (let l = (ahead_inside (c.loop-at.invariant.left _ c.requires.1)).1 in omega arith));
      left = λ text v.
          ahead_label (c.loop-at.invariant.left text v) c.is_label.ensures (not-false _ (not_from_true _ c.if-not-is_label.false)) (omega (arith, c.loop-at.invariant.kept.long, v.large)) c.push.ensures;
    }
