-- Where no chain of activations is too long, what a body costs, and whether a REPEAT or RESTART can be reached from it, do not depend on the chains' limit.
use Prim.Native.Nat.{ℕ, zero, suc, ◌+◌, max}
use Rattle.std.specs.Prelude.{◌≡◌, refl, Bool, false, ◌||◌}
use Rattle.std.proofs.Common.{sym, ap, ap₂}
use Rattle.std.proofs.lemmas.Bool.{false≢true}
use Rattle.rules.specs.Declarations.{Word, Table}
use Rattle.rules.specs.Steps.Actions.{Act, seq, par, label, ins, Ins, iff, decode, repeat, leave, restart, call, stop, noop, transfer, Alts, no_alts, alt}
use Rattle.rules.specs.Steps.Runs.{body_act}
use Rattle.rules.specs.Whole.Sets.{calls_in, calls_i, calls_alts, any_name, chain_over}
use Rattle.rules.specs.Limits.{longest_chain}
use Rattle.rules.specs.Bound.{cost, cost_in, dearest, turns, turns_in, any_turns, cost_down, turns_down, cost_of, turns_from}
use Rattle.laws_orders.proofs.Orders.Orderly.{Orderly}
use Rattle.laws_orders.proofs.Orders.Chains.{none_of, not_this}

-- both go by what is known of the bodies that an action activates
module _ (p : Word → Bool) where
  module _ (f g : Word → ℕ) (same : (n : Word) → p n ≡ false → f n ≡ g n) where
    mutual
      unfolding cost cost_in dearest calls_in calls_i calls_alts

      pub cost_same : (a : Act) → any_name p (calls_in a) ≡ false → cost f a ≡ cost g a
      cost_same (seq a b) h = let n = none_of p (calls_in a) (calls_in b) h in ap₂ ◌+◌ (cost_same a n.0) (cost_same b n.1)
      cost_same (par a b) h = let n = none_of p (calls_in a) (calls_in b) h in ap₂ ◌+◌ (cost_same a n.0) (cost_same b n.1)
      cost_same (label l a) h = cost_same a h
      cost_same (ins i) h = ap (λ k. 1 + k) (inside_same i h)

      inside_same : (i : Ins) → any_name p (calls_i i) ≡ false → cost_in f i ≡ cost_in g i
      inside_same (iff e a) h = cost_same a h
      inside_same (decode q e bs) h = dearest_same bs h
      inside_same (repeat a) h = cost_same a h
      inside_same (leave l) h = refl
      inside_same (restart l) h = refl
      inside_same (call n) h = same n (not_this p n h)
      inside_same stop h = refl
      inside_same noop h = refl
      inside_same (transfer d e) h = refl

      dearest_same : (bs : Alts) → any_name p (calls_alts bs) ≡ false → dearest f bs ≡ dearest g bs
      dearest_same no_alts h = refl
      dearest_same (alt c a bs) h = let n = none_of p (calls_in a) (calls_alts bs) h in ap₂ max (cost_same a n.0) (dearest_same bs n.1)

  module _ (f g : Word → Bool) (same : (n : Word) → p n ≡ false → f n ≡ g n) where
    mutual
      unfolding turns turns_in any_turns calls_in calls_i calls_alts

      pub turns_same : (a : Act) → any_name p (calls_in a) ≡ false → turns f a ≡ turns g a
      turns_same (seq a b) h = let n = none_of p (calls_in a) (calls_in b) h in ap₂ ◌||◌ (turns_same a n.0) (turns_same b n.1)
      turns_same (par a b) h = let n = none_of p (calls_in a) (calls_in b) h in ap₂ ◌||◌ (turns_same a n.0) (turns_same b n.1)
      turns_same (label l a) h = turns_same a h
      turns_same (ins i) h = turns_in_same i h

      turns_in_same : (i : Ins) → any_name p (calls_i i) ≡ false → turns_in f i ≡ turns_in g i
      turns_in_same (iff e a) h = turns_same a h
      turns_in_same (decode q e bs) h = any_turns_same bs h
      turns_in_same (repeat a) h = refl
      turns_in_same (leave l) h = refl
      turns_in_same (restart l) h = refl
      turns_in_same (call n) h = same n (not_this p n h)
      turns_in_same stop h = refl
      turns_in_same noop h = refl
      turns_in_same (transfer d e) h = refl

      any_turns_same : (bs : Alts) → any_name p (calls_alts bs) ≡ false → any_turns f bs ≡ any_turns g bs
      any_turns_same no_alts h = refl
      any_turns_same (alt c a bs) h = let n = none_of p (calls_in a) (calls_alts bs) h in ap₂ ◌||◌ (turns_same a n.0) (any_turns_same bs n.1)

module _ (ds : Table) where
  pub cost_closed : (k : ℕ) (n : Word) → chain_over ds k n ≡ false → cost (cost_down ds k) (body_act ds n) ≡ cost_down ds k n
  unfolding chain_over cost_down
  cost_closed zero n h = absurd (false≢true (sym h))
  cost_closed (suc k) n h = cost_same (chain_over ds k) (cost_down ds (suc k)) (cost_down ds k) (cost_closed k) (body_act ds n) h

  pub turns_closed : (k : ℕ) (n : Word) → chain_over ds k n ≡ false → turns (turns_down ds k) (body_act ds n) ≡ turns_down ds k n
  unfolding chain_over turns_down
  turns_closed zero n h = absurd (false≢true (sym h))
  turns_closed (suc k) n h = turns_same (chain_over ds k) (turns_down ds (suc k)) (turns_down ds k) (turns_closed k) (body_act ds n) h

  -- a body costs what its action costs, whatever the chains below it
  pub cost_of_body : Orderly ds → (p : Word) → cost_of ds p ≡ cost (cost_of ds) (body_act ds p)
  cost_of_body o p = sym (cost_closed longest_chain p (o.chains p))

  pub turns_of_body : Orderly ds → (p : Word) → turns_from ds p ≡ turns (turns_from ds) (body_act ds p)
  turns_of_body o p = sym (turns_closed longest_chain p (o.chains p))
