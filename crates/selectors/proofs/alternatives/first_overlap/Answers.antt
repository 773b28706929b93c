-- `selectors::alternatives::first_overlap` meets its contract. No alternative passed overlaps an earlier one, nor does the present one any that was
-- compared with it or told apart from it by their summaries.
-- Assumes nothing.
use native.Mathlib.Omega.{arith}
use mathlib.Core.Path.{sym, ◌∙◌}
use Rattle.selectors.specs.Laws.Alternatives.{one_alternative, pair, overlap_found, no_pair, one_pair}
use Rattle.summaries.specs.Laws.Summaries.{none_meet}
use Rattle.selectors.proofs.alternatives.first_overlap.Goals as goal
use Rattle.selectors.proofs.alternatives.first_overlap.Goals.{else-not-apart-via-then-not-apart+else-overlap, else-not-apart-via-else-not-apart}

pub loop-earlier-init : goal.loop-earlier-init
loop-earlier-init c = record { within = omega arith; none = λ v. no_pair _ _ }

pub loop-earlier-preserved : goal.loop-earlier-preserved
loop-earlier-preserved c =
    record {
      within = omega (arith, c.loop-earlier-test.true);
      none = λ v.
          let one = one_alternative v c.loop-later-test.true c.get16-p.ensures in
          let second = one_alternative v {k = c.loop-earlier.earlier} (omega (arith, c.loop-earlier-test.true, c.loop-later-test.true)) c.get16-q.ensures in
          let both = pair v c.loop-later-test.true (omega (arith, c.loop-earlier-test.true, c.loop-later-test.true)) c.get16-p.ensures c.get16-q.ensures in
          one_pair _ v.items _
          (elim c.else-not-apart.branch [
            | else-not-apart-via-then-not-apart+else-overlap w ↦ sym (w.overlap.ensures both) ∙ w.if-overlap.false
            | else-not-apart-via-else-not-apart w ↦ none_meet _ _ _ _ (c.summary_of-one.ensures one) (c.summary_of-other.ensures second) (c.apart.ensures w.if-not-apart.false)
          ])
          (c.loop-earlier.invariant.none v);
    }

pub returns-then-overlap : goal.returns-then-overlap
returns-then-overlap c =
    λ v. overlap_found v c.loop-later-test.true (c.loop-later.invariant.none v) c.loop-earlier-test.true
    (sym (c.overlap.ensures (pair v c.loop-later-test.true (omega (arith, c.loop-earlier-test.true, c.loop-later-test.true)) c.get16-p.ensures c.get16-q.ensures)) ∙ c.if-overlap.true)
