-- Where no chain of activations is too long, what is gathered of a body down such chains counts all that it activates: gathering once more adds nothing.
use Prim.Native.Nat.{ℕ, zero, suc}
use Rattle.std.specs.Prelude.{◌≡◌, refl, Bool, false, ◌||◌, List, [], ◌∷◌, ◌++◌}
use Rattle.std.proofs.Common.{sym, ◌∙◌, ap, ap₂}
use Rattle.std.proofs.Math.Bool.{or_assoc, or-false}
use Rattle.std.proofs.lemmas.Bool.{false≢true}
use Rattle.rules.specs.Declarations.{Word, Table}
use Rattle.rules.specs.Steps.Actions.{Act, seq, par, label, ins, Ins, iff, decode, repeat, leave, restart, call, stop, noop, transfer, Alts, no_alts, alt}
use Rattle.rules.specs.Steps.Runs.{body_act}
use Rattle.rules.specs.Whole.Sets.{Sets, sets, union, reads_of, sets_of, sets_i, sets_alts, body_sets, stops_in, stops_i, stops_alts, body_stops}
use Rattle.rules.specs.Whole.Sets.{calls_in, calls_i, calls_alts, any_name, chain_over}
use Rattle.laws_orders.proofs.Orders.Tests.{or_neither}

any_append : (p : Word → Bool) (xs ys : List Word) → any_name p (xs ++ ys) ≡ (any_name p xs || any_name p ys)
unfolding any_name
any_append p [] ys = refl
any_append p (x ∷ xs) ys = ap (λ b. p x || b) (any_append p xs ys) ∙ sym (or_assoc (p x) (any_name p xs) (any_name p ys))

pub none_of : (p : Word → Bool) (xs ys : List Word) → any_name p (xs ++ ys) ≡ false → (any_name p xs ≡ false) × (any_name p ys ≡ false)
none_of p xs ys h = or_neither (any_name p xs) (any_name p ys) (sym (any_append p xs ys) ∙ h)

pub not_this : (p : Word → Bool) (n : Word) → any_name p (n ∷ []) ≡ false → p n ≡ false
unfolding any_name
not_this p n h = sym (or-false (p n)) ∙ h

-- what is gathered of an action goes by what is known of the bodies that it activates
module _ (p : Word → Bool) where
  module _ (ds : Table) (f g : Word → Sets) (same : (n : Word) → p n ≡ false → f n ≡ g n) where
    mutual
      unfolding sets_of sets_i sets_alts calls_in calls_i calls_alts

      sets_same : (a : Act) → any_name p (calls_in a) ≡ false → sets_of ds f a ≡ sets_of ds g a
      sets_same (seq a b) h = let n = none_of p (calls_in a) (calls_in b) h in ap₂ union (sets_same a n.0) (sets_same b n.1)
      sets_same (par a b) h = let n = none_of p (calls_in a) (calls_in b) h in ap₂ union (sets_same a n.0) (sets_same b n.1)
      sets_same (label l a) h = sets_same a h
      sets_same (ins i) h = sets_i_same i h

      sets_i_same : (i : Ins) → any_name p (calls_i i) ≡ false → sets_i ds f i ≡ sets_i ds g i
      sets_i_same (iff e a) h = ap (union (sets (reads_of ds e) [])) (sets_same a h)
      sets_i_same (decode q e bs) h = ap (union (sets (reads_of ds e) [])) (sets_alts_same bs h)
      sets_i_same (repeat a) h = sets_same a h
      sets_i_same (leave l) h = refl
      sets_i_same (restart l) h = refl
      sets_i_same (call n) h = same n (not_this p n h)
      sets_i_same stop h = refl
      sets_i_same noop h = refl
      sets_i_same (transfer d e) h = refl

      sets_alts_same : (bs : Alts) → any_name p (calls_alts bs) ≡ false → sets_alts ds f bs ≡ sets_alts ds g bs
      sets_alts_same no_alts h = refl
      sets_alts_same (alt c a bs) h = let n = none_of p (calls_in a) (calls_alts bs) h in ap₂ union (sets_same a n.0) (sets_alts_same bs n.1)

  module _ (f g : Word → Bool) (same : (n : Word) → p n ≡ false → f n ≡ g n) where
    mutual
      unfolding stops_in stops_i stops_alts calls_in calls_i calls_alts

      stops_same : (a : Act) → any_name p (calls_in a) ≡ false → stops_in f a ≡ stops_in g a
      stops_same (seq a b) h = let n = none_of p (calls_in a) (calls_in b) h in ap₂ ◌||◌ (stops_same a n.0) (stops_same b n.1)
      stops_same (par a b) h = let n = none_of p (calls_in a) (calls_in b) h in ap₂ ◌||◌ (stops_same a n.0) (stops_same b n.1)
      stops_same (label l a) h = stops_same a h
      stops_same (ins i) h = stops_i_same i h

      stops_i_same : (i : Ins) → any_name p (calls_i i) ≡ false → stops_i f i ≡ stops_i g i
      stops_i_same (iff e a) h = stops_same a h
      stops_i_same (decode q e bs) h = stops_alts_same bs h
      stops_i_same (repeat a) h = stops_same a h
      stops_i_same (leave l) h = refl
      stops_i_same (restart l) h = refl
      stops_i_same (call n) h = same n (not_this p n h)
      stops_i_same stop h = refl
      stops_i_same noop h = refl
      stops_i_same (transfer d e) h = refl

      stops_alts_same : (bs : Alts) → any_name p (calls_alts bs) ≡ false → stops_alts f bs ≡ stops_alts g bs
      stops_alts_same no_alts h = refl
      stops_alts_same (alt c a bs) h = let n = none_of p (calls_in a) (calls_alts bs) h in ap₂ ◌||◌ (stops_same a n.0) (stops_alts_same bs n.1)

module _ (ds : Table) where
  pub sets_closed : (k : ℕ) (n : Word) → chain_over ds k n ≡ false → sets_of ds (body_sets ds k) (body_act ds n) ≡ body_sets ds k n
  unfolding chain_over body_sets
  sets_closed zero n h = absurd (false≢true (sym h))
  sets_closed (suc k) n h = sets_same (chain_over ds k) ds (body_sets ds (suc k)) (body_sets ds k) (sets_closed k) (body_act ds n) h

  pub stops_closed : (k : ℕ) (n : Word) → chain_over ds k n ≡ false → stops_in (body_stops ds k) (body_act ds n) ≡ body_stops ds k n
  unfolding chain_over body_stops
  stops_closed zero n h = absurd (false≢true (sym h))
  stops_closed (suc k) n h = stops_same (chain_over ds k) (body_stops ds (suc k)) (body_stops ds k) (stops_closed k) (body_act ds n) h
