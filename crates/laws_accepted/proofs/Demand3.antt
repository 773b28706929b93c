-- Demand 3: on an accepted text the order in which members take their steps does not matter. "Any member that has not ended may take the next step; NEXT
-- waits for all. Run goes left to right, each member to its end."
--
-- `run ds n b s`: the run from left to right of the body n with the budget b, from the carriers s. `Steps ds k (begin ds n s) c`: some k allowed steps from
-- there come to c. `EndsWell r`: the run r ends Done or Stopped; `Ended c`: c is such an end. `EveryOrder ds r k c`: k is at most r's count, c is no fault
-- and can go on to r's end in the steps that are left, and if c is an end, it is r's, after r's count and with r's carriers.
use Rattle.std.specs.Prelude.{ℕ, ◌≤◌, ◌≡◌, List}
use Rattle.std.proofs.Common.{sym, ◌∙◌, subst}
use Rattle.rules.specs.Text.Scan.{scan}
use Rattle.rules.specs.Grammar.Trees.{Description, flatten}
use Rattle.rules.specs.Declarations.{Table, declarations}
use Rattle.rules.specs.Steps.Evaluation.{Carriers}
use Rattle.rules.specs.Steps.Runs.{Conf, Steps, begin, run}
use Rattle.laws_orders.proofs.Orders.Orderly.{Orderly}
use Rattle.rules.specs.Faults.Whole.{main_name}
use Rattle.rules.specs.Answers.{accepted, Checks}
use Rattle.laws_grammar.specs.Answers.{accepted_iff_lawful}
use Rattle.laws_grammar.specs.Grammar.Exact.{unique}
use Rattle.rules.specs.Steps.Orders.{Ended, EveryOrder}
use Rattle.laws_orders.proofs.Orders.Ends.{EndsWell}
use Rattle.laws_orders.proofs.Orders.Demand3.{order_free, none_ends}
use Rattle.laws_accepted.proofs.Accepted.Orderly.{accepted_orderly}

-- a text that Check accepts, and the description that stands in it
module _ (text : List ℕ) (n w : ℕ) (accepts : Checks text (accepted n w)) (d : Description) (stands : flatten d ≡ (scan text).tokens) where
  orderly : Orderly (declarations d)
  orderly =
      let l = (accepted_iff_lawful text n w).0 accepts in
      let same : l.description ≡ d = unique l.description d (l.stands ∙ sym stands) in
      subst (λ x. Orderly (declarations x)) same (accepted_orderly l.description n w l.faultless)

  -- the run of MAIN from left to right, from any carriers and with any budget
  module _ (s : Carriers) (b : ℕ) where
    abbrev ds : Table
    ds = declarations d

    -- (a) If left to right ends Done or Stopped, so does every order, with that count and those carriers: none faults, stalls or runs longer.
    pub accepted_order_free :
        EndsWell (run ds (main_name ds) b s)
        → (k : ℕ) (c : Conf) → Steps ds k (begin ds (main_name ds) s) c → EveryOrder ds (run ds (main_name ds) b s) k c
    accepted_order_free = order_free ds orderly (main_name ds) b s

    -- (b) If left to right faults or pauses, no order ends Done or Stopped within the budget.
    pub accepted_none_ends :
        (EndsWell (run ds (main_name ds) b s) → ⊥) → (k : ℕ) (c : Conf) → k ≤ b → Steps ds k (begin ds (main_name ds) s) c → Ended c → ⊥
    accepted_none_ends = none_ends ds orderly (main_name ds) b s
