-- Every order of the steps of an orderly description, against its run from left to right within a budget. `Steps ds k (begin ds n s) c`: some k allowed
-- steps from the start of the body n with the carriers s come to c. `EndsWell r`: the run r ends Done or Stopped; `Ended c`: c is such an end.
-- `EveryOrder ds r k c`: k is at most r's count, c is no fault and can go on to r's end in the steps that are left, and an end is that end after that count.
use Rattle.std.specs.Prelude.{ℕ, ◌≤◌}
use Rattle.rules.specs.Declarations.{Word, Table}
use Rattle.rules.specs.Steps.Evaluation.{Carriers}
use Rattle.rules.specs.Steps.Runs.{Conf, Steps, begin, run}
use Rattle.laws_orders.proofs.Orders.Orderly.{Orderly}
use Rattle.rules.specs.Steps.Orders.{Ended, EveryOrder}
use Rattle.laws_orders.proofs.Orders.Ends.{EndsWell}
use Rattle.laws_orders.proofs.Orders.Carriers.{frames}
use Rattle.laws_orders.proofs.Orders.Static.{bodies_ok}
use Rattle.laws_orders.proofs.Orders.Theorem

-- (a) If left to right ends Done or Stopped, so does every order, with that count and those carriers: none faults, stalls or runs longer.
pub order_free :
    (ds : Table) → Orderly ds → (n : Word) (b : ℕ) (s : Carriers) → EndsWell (run ds n b s)
    → (k : ℕ) (c : Conf) → Steps ds k (begin ds n s) c → EveryOrder ds (run ds n b s) k c
order_free ds o = Theorem.order_free (frames ds) (bodies_ok ds o)

-- (b) If left to right faults or pauses, no order ends Done or Stopped within the budget.
pub none_ends :
    (ds : Table) → Orderly ds → (n : Word) (b : ℕ) (s : Carriers) → (EndsWell (run ds n b s) → ⊥)
    → (k : ℕ) (c : Conf) → k ≤ b → Steps ds k (begin ds n s) c → Ended c → ⊥
none_ends ds o = Theorem.none_ends (frames ds) (bodies_ok ds o)
