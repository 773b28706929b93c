-- Nothing is missed: a transfer that some path comes to too early is among the places of the analysis.
use Rattle.std.specs.Prelude.{ℕ, zero, suc, ◌≡◌, refl, Bool, true, false}
use Rattle.std.proofs.Common.{sym, ◌∙◌, subst}
use Rattle.std.proofs.Math.Path.{ap}
use Rattle.std.proofs.lemmas.Bool.{false≢true}
use Rattle.rules.specs.Declarations.{Word, Table}
use Rattle.rules.specs.Steps.Control.{Live, call_l, start}
use Rattle.rules.specs.Steps.Runs.{body_act}
use Rattle.rules.specs.Whole.Sets.{member}
use Rattle.rules.specs.Limits.{longest_chain}
use Rattle.laws_orders.proofs.Orders.Orderly.{Orderly}
use Rattle.rules.specs.Faults.Whole.{main_name}
use Rattle.rules.specs.Paths.{ends_test, Spot, spot, Path, outset, TooEarly}
use Rattle.paths.specs.Cited.Early.{Report, inside, activation, early, body_early, early_places}
use Rattle.paths.proofs.Reports.{sub_refl}
use Rattle.paths.proofs.Covered.{Covers, CoversS, Closed, begins, step_covered, covers_writes}
use Rattle.paths.proofs.Closing.{early_closed, all_closed}

module _ (ds : Table) (test : Word) (output : ℕ) where
  -- what has ended has ended
  stays_ended : (n : ℕ) (r t : Live) → Path ds test n (spot r true) (spot t false) → ⊥
  stays_ended zero r t q = false≢true (sym (ap (λ (c : Spot). c.test_ended_lem) q))
  stays_ended (suc n) r t q = stays_ended n q.2 t q.5

  module _ (known : Word → Report) (closed : Closed ds test output known) (R : Report) where
    -- a path on which no activation of the test has ended stays within the report
    pub path_covered : (n : ℕ) (r t : Live) → Covers ds test output known R r → Path ds test n (spot r false) (spot t false) → Covers ds test output known R t
    path_covered zero r t h q = subst (Covers ds test output known R) (ap (λ (c : Spot). c.live) q) h
    path_covered (suc n) r t h q = by (ends_test (body_act ds) test r q.0 q.1) refl (path_covered n q.2 t) q.5
      where
        by :
            (b : Bool) → ends_test (body_act ds) test r q.0 q.1 ≡ b
            → (Covers ds test output known R q.2 → Path ds test n (spot q.2 false) (spot t false) → Covers ds test output known R t)
            → Path ds test n (spot q.2 b) (spot t false) → Covers ds test output known R t
        by true e ih w = absurd (stays_ended n q.2 t w)
        by false e ih w = ih (subst (CoversS ds test output known R) q.4 (step_covered ds test output known closed R r q.0 q.1 h q.3 e)) w

  pub sound : Orderly ds → (p : ℕ) → TooEarly ds test output p → member p (early_places ds test output) ≡ true
  unfolding outset early_places
  sound o p w =
      let main = main_name ds in
      let known = body_early ds test output longest_chain in
      let S : Report = early ds test output known (body_act ds main) in
      let R : Report = activation test main (inside main S) in
      let begun : Covers ds test output known R (call_l main (start (body_act ds main))) =
      (S, sub_refl S, begins ds test output known (body_act ds main) S (sub_refl S), sub_refl R) in
      let c = path_covered known (all_closed ds test output o) R w.steps (call_l main (start (body_act ds main))) w.live begun w.path in
      ap (λ (x : Report). member p x.places) (sym (early_closed ds test output longest_chain main (o.chains main)))
      ∙ covers_writes ds test output known R w.live w.move p c w.writes
