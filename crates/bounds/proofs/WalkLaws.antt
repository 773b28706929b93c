-- The walk of a body comes to what the body costs, cut at `endless`, where also all is that can turn.
use Rattle.std.specs.Prelude.{ℕ, suc, ◌+◌, ◌≤◌, max, ◌≡◌, Bool, true, false, ◌||◌}
use Rattle.std.proofs.Math.Path.{refl, ap, ap₂}
use Rattle.std.proofs.Common.{sym, ◌∙◌}
use Rattle.std.proofs.Math.Bool.{or_assoc, or-false}
use Rattle.std.proofs.Math.Option.{Option, none, some}
use native.Mathlib.Omega.{arith}
use Rattle.rules.specs.Grammar.Trees.{Action, block, labelled, if_then, decode, repeat, leave, restart, activate, stop, no_op, transfer, Members, end, also, next}
use Rattle.rules.specs.Grammar.Trees.{Alternatives, counted, selected, Counted, counted_end, counted_more, Selected, select, otherwise, SelectedMore, selected_end, selected_more}
use Rattle.rules.specs.Declarations.{Word, Table, body_of}
use Rattle.rules.specs.Steps.Actions.{Act, par, act_of, in_turn, groups, whole, alts_of, counted_alts, selected_alts, more_alts}
use Rattle.rules.specs.Steps.Runs.{body_act, act_or}
use Rattle.rules.specs.Bound.{cost, cost_in, dearest, turns, turns_in, any_turns, cost_down, turns_down}
use Rattle.bounds.specs.Cited.Counts.{cut, count_down, endless, up}
use Rattle.bounds.specs.Walk.{walk, walk_members, walk_alternatives, walk_counted, walk_selected, walk_more}

pub cut_low : (t : Bool) (n : ℕ) → cut t n ≤ endless
unfolding cut
cut_low true n = omega arith
cut_low false n = omega arith

up_cut : (x k : ℕ) → up x k ≡ cut false (x + k)
unfolding up cut
up_cut x k = refl

pub up_low : (x k : ℕ) → up x k ≤ endless
unfolding up
up_low x k = omega arith

-- from a cut count on
cut_on : (t u : Bool) (n m : ℕ) → cut u (cut t n + m) ≡ cut (t || u) (n + m)
unfolding cut
cut_on true true n m = refl
cut_on true false n m = omega arith
cut_on false true n m = refl
cut_on false false n m = omega arith

cut_along : (t u : Bool) (x m n : ℕ) → cut u (cut t (x + m) + n) ≡ cut (t || u) (x + (m + n))
cut_along t u x m n = let e : x + m + n ≡ x + (m + n) = omega arith in cut_on t u (x + m) n ∙ ap (cut (t || u)) e

from_up : (u : Bool) (x k m : ℕ) → cut u (up x k + m) ≡ cut u (x + (k + m))
from_up u x k m = ap (λ y. cut u (y + m)) (up_cut x k) ∙ cut_along false u x k m

from_endless : (u : Bool) (m : ℕ) → cut u (endless + m) ≡ endless
unfolding cut
from_endless true m = refl
from_endless false m = omega arith

-- a cut count does not fall
cut_more : (t : Bool) (x m : ℕ) → x ≤ endless → x ≤ cut t (x + m)
unfolding cut
cut_more true x m h = h
cut_more false x m h = omega arith

cut_best : (t : Bool) (best x m : ℕ) → x ≤ endless → best ≤ x → max best (cut t (x + m)) ≡ cut t (x + m)
cut_best t best x m h l = let g = cut_more t x m h in omega arith

-- the dearer of two alternatives
cut_max : (t u : Bool) (x m n : ℕ) → max (cut t (x + m)) (cut u (x + n)) ≡ cut (t || u) (x + max m n)
unfolding cut
cut_max true true x m n = refl
cut_max true false x m n = omega arith
cut_max false true x m n = omega arith
cut_max false false x m n = omega arith

-- an activation
up_on : (t : Bool) (x n : ℕ) → up x (1 + cut t n) ≡ cut t (x + (1 + n))
unfolding up cut
up_on true x n = omega arith
up_on false x n = omega arith

-- and no more
taken_none : (x best y : ℕ) → x ≤ endless → x ≤ best → max best y ≡ max (max best y) (cut false (x + 0))
unfolding cut
taken_none x best y h l = omega arith

cut_true : (n : ℕ) → cut true n ≡ endless
unfolding cut
cut_true n = refl

module _ (costs : Word → ℕ) (turning : Word → Bool) (counts : Word → ℕ) (known : (n : Word) → counts n ≡ cut (turning n) (costs n)) where
  abbrev C : Act → ℕ
  C a = cost costs a

  abbrev T : Act → Bool
  T a = turns turning a

  -- a member in front of a group
  par_cost : (y g : Act) (b : Option Act) → C (in_turn (par y g) b) ≡ C y + C (in_turn g b)
  unfolding cost
  par_cost y g none = refl
  par_cost y g (some b) = omega arith

  par_turns : (y g : Act) (b : Option Act) → T (in_turn (par y g) b) ≡ (T y || T (in_turn g b))
  unfolding turns
  par_turns y g none = refl
  par_turns y g (some b) = or_assoc (T y) (T g) (T b)

  call_counted : (x : ℕ) (n : Word) → up x (1 + counts n) ≡ cut (turning n) (x + (1 + costs n))
  call_counted x n = ap (λ k. up x (1 + k)) (known n) ∙ up_on (turning n) x (costs n)

  -- one more alternative
  taken_more : (best x : ℕ) (a : Act) (u : Bool) (d y : ℕ) → y ≡ cut (T a) (x + C a) → max (max best y) (cut u (x + d)) ≡ max best (cut (T a || u) (x + max (C a) d))
  taken_more best x a u d y e =
      let q : max (max best y) (cut u (x + d)) ≡ max best (max y (cut u (x + d))) = omega arith in
      q ∙ ap (max best) (ap (λ k. max k (cut u (x + d))) e ∙ cut_max (T a) u x (C a) d)

  mutual
    unfolding walk walk_members walk_alternatives walk_counted walk_selected walk_more act_of groups alts_of counted_alts selected_alts more_alts cost cost_in dearest turns turns_in any_turns

    pub walk_is : (a : Action) (x : ℕ) → x ≤ endless → walk counts a x ≡ cut (T (act_of a)) (x + C (act_of a))
    walk_is (block i a m) x h = ap (walk_members counts m x) (walk_is a x h) ∙ members_is m (act_of a) x x h (omega arith)
    walk_is (labelled n i a) x h = walk_is a x h
    walk_is (if_then i o t w a) x h = walk_is a (up x 1) (up_low x 1) ∙ from_up (T (act_of a)) x 1 (C (act_of a))
    walk_is (decode i o t w g v) x h =
        let d = dearest costs (alts_of v) in
        let u = any_turns turning (alts_of v) in
        alternatives_is v (up x 1) (up x 1) (up_low x 1) (omega arith) ∙ (cut_best u (up x 1) (up x 1) d (up_low x 1) (omega arith) ∙ from_up u x 1 d)
    walk_is (repeat i a) x h = walk_is a endless (omega arith) ∙ (from_endless (T (act_of a)) (C (act_of a)) ∙ sym (cut_true (x + (1 + C (act_of a)))))
    walk_is (leave i n) x h = up_cut x 1
    walk_is (restart i n) x h = sym (cut_true (x + 1))
    walk_is (activate n l r) x h = call_counted x n.word
    walk_is (stop i l r) x h = up_cut x 1
    walk_is (no_op i l r) x h = up_cut x 1
    walk_is (transfer n s f j e o t) x h = up_cut x 1

    -- what follows the member y
    members_is : (m : Members) (y : Act) (best x : ℕ) → x ≤ endless → best ≤ x
        → walk_members counts m best (cut (T y) (x + C y)) ≡ cut (T (whole (groups y m))) (x + C (whole (groups y m)))
    members_is (end i) y best x h l = cut_best (T y) best x (C y) h l
    members_is (also i a m) y best x h l =
        let z = cut (T y) (x + C y) in
        let low : z ≤ endless = cut_low (T y) (x + C y) in
        let more : x ≤ z = cut_more (T y) x (C y) h in
        let g = groups (act_of a) m in
        ap (walk_members counts m best) (walk_is a z low) ∙ (members_is m (act_of a) best z low (omega arith)
        ∙ (cut_along (T y) (T (whole g)) x (C y) (C (whole g))
        ∙ ap₂ (λ t k. cut t (x + k)) (sym (par_turns y g.group g.behind)) (sym (par_cost y g.group g.behind))))
    members_is (next i a m) y best x h l =
        let z = cut (T y) (x + C y) in
        let low : z ≤ endless = cut_low (T y) (x + C y) in
        let more : x ≤ z = cut_more (T y) x (C y) h in
        let g = whole (groups (act_of a) m) in
        ap (walk_members counts m best) (walk_is a z low) ∙ (members_is m (act_of a) best z low (omega arith) ∙ cut_along (T y) (T g) x (C y) (C g))

    -- with the greatest count so far
    alternatives_is : (v : Alternatives) (x best : ℕ) → x ≤ endless → x ≤ best
        → walk_alternatives counts v x best ≡ max best (cut (any_turns turning (alts_of v)) (x + dearest costs (alts_of v)))
    alternatives_is (counted a c) x best h l =
        counted_is c 1 x best (walk counts a x) h l ∙ taken_more best x (act_of a) (any_turns turning (counted_alts 1 c)) (dearest costs (counted_alts 1 c)) (walk counts a x) (walk_is a x h)
    alternatives_is (selected s) x best h l = selected_is s x best h l

    counted_is : (c : Counted) (n x best y : ℕ) → x ≤ endless → x ≤ best
        → walk_counted counts c x best y ≡ max (max best y) (cut (any_turns turning (counted_alts n c)) (x + dearest costs (counted_alts n c)))
    counted_is (counted_end i) n x best y h l = taken_none x best y h l
    counted_is (counted_more i a c) n x best y h l =
        counted_is c (suc n) x (max best y) (walk counts a x) h (omega arith)
        ∙ taken_more (max best y) x (act_of a) (any_turns turning (counted_alts (suc n) c)) (dearest costs (counted_alts (suc n) c)) (walk counts a x) (walk_is a x h)

    selected_is : (s : Selected) (x best : ℕ) → x ≤ endless → x ≤ best
        → walk_selected counts s x best ≡ max best (cut (any_turns turning (selected_alts s)) (x + dearest costs (selected_alts s)))
    selected_is (select s i a m) x best h l =
        others_is m x best (walk counts a x) h l ∙ taken_more best x (act_of a) (any_turns turning (more_alts m)) (dearest costs (more_alts m)) (walk counts a x) (walk_is a x h)
    selected_is (otherwise i w a e) x best h l =
        let z : max (C (act_of a)) 0 ≡ C (act_of a) = omega arith in
        ap (max best) (walk_is a x h ∙ ap₂ (λ t k. cut t (x + k)) (sym (or-false (T (act_of a)))) (sym z))

    others_is : (m : SelectedMore) (x best y : ℕ) → x ≤ endless → x ≤ best
        → walk_more counts m x best y ≡ max (max best y) (cut (any_turns turning (more_alts m)) (x + dearest costs (more_alts m)))
    others_is (selected_end i) x best y h l = taken_none x best y h l
    others_is (selected_more i s) x best y h l = selected_is s x (max best y) h (omega arith)

  -- what is walked of a body, one activation further down
  module _ (ds : Table) (p : Word) where
    pub walked_body : (a : Action) → body_of ds p ≡ some a → walk counts a 0 ≡ cut (T (body_act ds p)) (C (body_act ds p))
    unfolding body_act
    walked_body a e =
        walk_is a 0 (omega arith) ∙ ap₂ cut (ap (λ o. T (act_or o)) (sym e)) (let z : 0 + C (act_of a) ≡ C (act_of a) = omega arith in z ∙ ap (λ o. C (act_or o)) (sym e))

    -- a body that is not there does nothing, which is a step
    pub no_body : body_of ds p ≡ none → 1 ≡ cut (T (body_act ds p)) (C (body_act ds p))
    unfolding body_act cost turns cost_in turns_in cut
    no_body e = rw e

pub count_none : (ds : Table) (k : ℕ) (p : Word) → body_of ds p ≡ none → 1 ≡ count_down ds (suc k) p
unfolding cost_down turns_down
count_none ds k p e = no_body (cost_down ds k) (turns_down ds k) (count_down ds k) (λ n. refl) ds p e
