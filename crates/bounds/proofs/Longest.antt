-- THE LONGEST RUN: what is proved of an accepted description with a bound, and when there is none.
use Rattle.std.specs.Prelude.{ℕ, ◌≤◌, ◌<◌, ◌≡◌, refl, Bool, true, false, List, ◌⊎◌, ◌↔◌, leb}
use Rattle.std.proofs.Common.{sym, ◌∙◌, ap, subst, inl, inr, arith, leb-true, leb-false}
use Rattle.std.proofs.lemmas.Bool.{false≢true}
use Rattle.rules.specs.Text.Scan.{scan}
use Rattle.rules.specs.Grammar.Trees.{Description, flatten}
use Rattle.rules.specs.Declarations.{Table, declarations}
use Rattle.rules.specs.Limits.{most_steps}
use Rattle.rules.specs.Steps.Evaluation.{Carriers}
use Rattle.rules.specs.Steps.Runs.{Conf, Steps, begin, paused, run}
use Rattle.rules.specs.Faults.Whole.{main_name}
use Rattle.rules.specs.Answers.{accepted, Checks}
use Rattle.rules.specs.Bound.{cost_of, turns_from, Bound, bound, no_bound, bound_if, bound_of, Bounds, not_accepted, bounded_by, Reached}
use Rattle.laws_orders.proofs.Orders.Orderly.{Orderly}
use Rattle.laws_grammar.specs.Answers.{one_verdict, accepted_iff_lawful}
use Rattle.laws_grammar.specs.Grammar.Exact.{unique}
use Rattle.laws_accepted.proofs.Accepted.Orderly.{accepted_orderly}
use Rattle.bounds.proofs.Counted.{steps_bounded, never_paused}
use Rattle.bounds.proofs.Reaching.{turns_reached}

-- what a bound says
pub record Bounding (ds : Table) (n : ℕ) : Type 0 where
  pub straight : turns_from ds (main_name ds) ≡ false
  pub is : cost_of ds (main_name ds) ≡ n
  pub fits : n ≤ most_steps

bounding_by : (ds : Table) (n : ℕ) (t f : Bool) → turns_from ds (main_name ds) ≡ t → leb (cost_of ds (main_name ds)) most_steps ≡ f → bound_if t f (cost_of ds (main_name ds)) ≡ bound n → Bounding ds n
bounding_by ds n true f u v e = let z : ◌≡◌ {A = ℕ} 0 1 = cc in absurd (omega arith)
bounding_by ds n false false u v e = let z : ◌≡◌ {A = ℕ} 0 1 = cc in absurd (omega arith)
bounding_by ds n false true u v e =
    let same : cost_of ds (main_name ds) ≡ n = cc in record { straight = u; is = same; fits = subst (λ k. k ≤ most_steps) same (leb-true (cost_of ds (main_name ds)) most_steps v) }

pub bounding : (ds : Table) (n : ℕ) → bound_of ds ≡ bound n → Bounding ds n
unfolding bound_of
bounding ds n e = bounding_by ds n (turns_from ds (main_name ds)) (leb (cost_of ds (main_name ds)) most_steps) refl refl e

-- "`no bound` is answered exactly when a REPEAT or RESTART can be reached by activations from MAIN, or the number passes 4,294,967,295"
abbrev pub Boundless : Table → Type 0
Boundless ds = (turns_from ds (main_name ds) ≡ true) ⊎ (most_steps < cost_of ds (main_name ds))

boundless_by : (ds : Table) (t f : Bool) → turns_from ds (main_name ds) ≡ t → leb (cost_of ds (main_name ds)) most_steps ≡ f → bound_if t f (cost_of ds (main_name ds)) ≡ no_bound → Boundless ds
boundless_by ds true f u v e = inl u
boundless_by ds false false u v e = inr (leb-false (cost_of ds (main_name ds)) most_steps v)
boundless_by ds false true u v e = let z : ◌≡◌ {A = ℕ} 0 1 = cc in absurd (omega arith)

none_by : (ds : Table) (t f : Bool) → turns_from ds (main_name ds) ≡ t → leb (cost_of ds (main_name ds)) most_steps ≡ f → Boundless ds → bound_if t f (cost_of ds (main_name ds)) ≡ no_bound
none_by ds true f u v b = refl
none_by ds false false u v b = refl
none_by ds false true u v (inl t) = absurd (false≢true (sym u ∙ t))
none_by ds false true u v (inr l) = let g = leb-true (cost_of ds (main_name ds)) most_steps v in absurd (omega arith)

pub no_bound_exactly : (ds : Table) → (bound_of ds ≡ no_bound) ↔ Boundless ds
unfolding bound_of
no_bound_exactly ds =
    let t = turns_from ds (main_name ds) in
    let f = leb (cost_of ds (main_name ds)) most_steps in
    (boundless_by ds t f refl refl, none_by ds t f refl refl)

-- a text that Check accepts, and the description that stands in it
module _ (text : List ℕ) (n w : ℕ) (accepts : Checks text (accepted n w)) (d : Description) (stands : flatten d ≡ (scan text).tokens) where
  abbrev ds : Table
  ds = declarations d

  orderly : Orderly ds
  orderly =
      let l = (accepted_iff_lawful text n w).0 accepts in
      subst (λ x. Orderly (declarations x)) (unique l.description d (l.stands ∙ sym stands)) (accepted_orderly l.description n w l.faultless)

  -- "a REPEAT or RESTART can be reached by activations from MAIN": it stands in a body to which they lead
  pub reached_exactly : (turns_from ds (main_name ds) ≡ true) ↔ Reached ds (main_name ds)
  reached_exactly = turns_reached ds orderly (main_name ds)

  module _ (b : ℕ) (bounded : bound_of ds ≡ bound b) where
    -- "from any start carriers, in any order, an accepted text's run counts no more than that";
    pub every_order_bounded : (s : Carriers) (k : ℕ) (c : Conf) → Steps ds k (begin ds (main_name ds) s) c → k ≤ b
    every_order_bounded s k c q =
        let x = bounding ds b bounded in subst (λ z. k ≤ z) x.is (steps_bounded ds orderly (main_name ds) x.straight s k c q)

    -- "so that a budget of that size never ends Paused"
    pub budget_enough : (budget : ℕ) (s : Carriers) → b ≤ budget → (run ds (main_name ds) budget s).ending ≡ paused → ⊥
    budget_enough budget s l =
        let x = bounding ds b bounded in never_paused ds orderly (main_name ds) x.straight budget s (subst (λ z. z ≤ budget) (sym x.is) l)

-- a text has one bound
pub one_bound : (text : List ℕ) {x y : Bound} → Bounds text x → Bounds text y → x ≡ y
one_bound text (not_accepted {m} {p} a) (not_accepted {m = k} {p = q} b) = let e = one_verdict text a b in cc
one_bound text (not_accepted a) (bounded_by d s b) = let e = one_verdict text a b in let z : ◌≡◌ {A = ℕ} 0 1 = cc in absurd (omega arith)
one_bound text (bounded_by d s a) (not_accepted b) = let e = one_verdict text a b in let z : ◌≡◌ {A = ℕ} 0 1 = cc in absurd (omega arith)
one_bound text (bounded_by d s a) (bounded_by f t b) = ap (λ x. bound_of (declarations x)) (unique d f (s ∙ sym t))
