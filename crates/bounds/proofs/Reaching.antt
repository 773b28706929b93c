-- "A REPEAT or RESTART can be reached by activations": `turns_from` says just that.
use Prim.Native.Nat.{ℕ, zero, suc}
use Rattle.std.specs.Prelude.{◌≡◌, refl, Bool, false, ◌||◌, List, [], ◌∷◌, ◌++◌, ◌⊎◌, ◌↔◌}
use Rattle.std.proofs.Common.{sym, ap, ◌∙◌, subst, inl, inr}
use Rattle.std.proofs.Math.Bool.{true, or_assoc, or-false}
use Rattle.std.proofs.lemmas.Bool.{false≢true}
use Rattle.rules.specs.Text.Scan.{same_bytes}
use Rattle.rules.specs.Limits.{longest_chain}
use Rattle.rules.specs.Declarations.{Word, Table}
use Rattle.rules.specs.Steps.Actions.{Act, seq, par, label, ins, Ins, iff, decode, repeat, leave, restart, call, stop, noop, transfer, Alts, no_alts, alt}
use Rattle.rules.specs.Steps.Runs.{body_act}
use Rattle.rules.specs.Whole.Sets.{calls_in, calls_i, calls_alts, any_name}
use Rattle.rules.specs.Bound.{turns, turns_in, any_turns, turns_down, turns_from, Reached, Reaches, Turns, itself, onward}
use Rattle.laws_orders.proofs.Orders.Orderly.{Orderly}
use Rattle.laws_orders.proofs.Orders.Tests.{or_either, or_left, or_right}
use Rattle.laws_accepted.proofs.Accepted.Named.{same_equal, same_itself}
use Rattle.bounds.proofs.Closing.{turns_of_body}

any_append : (p : Word → Bool) (xs ys : List Word) → any_name p (xs ++ ys) ≡ (any_name p xs || any_name p ys)
unfolding any_name
any_append p [] ys = refl
any_append p (x ∷ xs) ys = ap (λ b. p x || b) (any_append p xs ys) ∙ sym (or_assoc (p x) (any_name p xs) (any_name p ys))

module _ (f : Word → Bool) where
  -- what turns does so itself, or activates what turns
  abbrev Why : Bool → List Word → Type 0
  Why t ns = (t ≡ true) ⊎ ((q : Word) × (any_name (same_bytes q) ns ≡ true) × (f q ≡ true))

  why_left : (t u : Bool) (xs ys : List Word) → Why t xs → Why (t || u) (xs ++ ys)
  why_left t u xs ys (inl e) = inl (or_left t u e)
  why_left t u xs ys (inr (q, c, h)) = inr (q, any_append (same_bytes q) xs ys ∙ or_left (any_name (same_bytes q) xs) (any_name (same_bytes q) ys) c, h)

  why_right : (t u : Bool) (xs ys : List Word) → Why u ys → Why (t || u) (xs ++ ys)
  why_right t u xs ys (inl e) = inl (or_right t u e)
  why_right t u xs ys (inr (q, c, h)) = inr (q, any_append (same_bytes q) xs ys ∙ or_right (any_name (same_bytes q) xs) (any_name (same_bytes q) ys) c, h)

  why_either : (t u : Bool) (xs ys : List Word) → Why t xs ⊎ Why u ys → Why (t || u) (xs ++ ys)
  why_either t u xs ys (inl w) = why_left t u xs ys w
  why_either t u xs ys (inr w) = why_right t u xs ys w

  each : {A B C D : Type 0} → A ⊎ B → (A → C) → (B → D) → C ⊎ D
  each (inl a) g h = inl (g a)
  each (inr b) g h = inr (h b)

  abbrev none : Word → Bool
  none n = false

  mutual
    unfolding turns turns_in any_turns calls_in calls_i calls_alts any_name

    why : (a : Act) → turns f a ≡ true → Why (turns none a) (calls_in a)
    why (seq a b) h = why_either (turns none a) (turns none b) (calls_in a) (calls_in b) (each (or_either (turns f a) (turns f b) h) (λ e. why a e) (λ e. why b e))
    why (par a b) h = why_either (turns none a) (turns none b) (calls_in a) (calls_in b) (each (or_either (turns f a) (turns f b) h) (λ e. why a e) (λ e. why b e))
    why (label l a) h = why a h
    why (ins i) h = why_in i h

    why_in : (i : Ins) → turns_in f i ≡ true → Why (turns_in none i) (calls_i i)
    why_in (iff e a) h = why a h
    why_in (decode p e bs) h = why_any bs h
    why_in (repeat a) h = inl refl
    why_in (leave l) h = absurd (false≢true h)
    why_in (restart l) h = inl refl
    why_in (call n) h = inr (n, or_left (same_bytes n n) false (same_itself n), h)
    why_in stop h = absurd (false≢true h)
    why_in noop h = absurd (false≢true h)
    why_in (transfer d e) h = absurd (false≢true h)

    why_any : (bs : Alts) → any_turns f bs ≡ true → Why (any_turns none bs) (calls_alts bs)
    why_any no_alts h = absurd (false≢true h)
    why_any (alt c a bs) h =
        why_either (turns none a) (any_turns none bs) (calls_in a) (calls_alts bs) (each (or_either (turns f a) (any_turns f bs) h) (λ e. why a e) (λ e. why_any bs e))

  -- and the other way
  from_either : (t u v w : Bool) → (t || u) ≡ true → (t ≡ true → v ≡ true) → (u ≡ true → w ≡ true) → (v || w) ≡ true
  from_either t u v w h g k = by (or_either t u h)
    where
      by : (t ≡ true) ⊎ (u ≡ true) → (v || w) ≡ true
      by (inl e) = or_left v w (g e)
      by (inr e) = or_right v w (k e)

  mutual
    unfolding turns turns_in any_turns

    turns_so : (a : Act) → turns none a ≡ true → turns f a ≡ true
    turns_so (seq a b) h = from_either (turns none a) (turns none b) (turns f a) (turns f b) h (λ e. turns_so a e) (λ e. turns_so b e)
    turns_so (par a b) h = from_either (turns none a) (turns none b) (turns f a) (turns f b) h (λ e. turns_so a e) (λ e. turns_so b e)
    turns_so (label l a) h = turns_so a h
    turns_so (ins i) h = turns_in_so i h

    turns_in_so : (i : Ins) → turns_in none i ≡ true → turns_in f i ≡ true
    turns_in_so (iff e a) h = turns_so a h
    turns_in_so (decode p e bs) h = any_turns_so bs h
    turns_in_so (repeat a) h = refl
    turns_in_so (leave l) h = h
    turns_in_so (restart l) h = refl
    turns_in_so (call n) h = absurd (false≢true h)
    turns_in_so stop h = h
    turns_in_so noop h = h
    turns_in_so (transfer d e) h = h

    any_turns_so : (bs : Alts) → any_turns none bs ≡ true → any_turns f bs ≡ true
    any_turns_so no_alts h = h
    any_turns_so (alt c a bs) h = from_either (turns none a) (any_turns none bs) (turns f a) (any_turns f bs) h (λ e. turns_so a e) (λ e. any_turns_so bs e)

  module _ (q : Word) (its : f q ≡ true) where
    abbrev among : List Word → Bool
    among ns = any_name (same_bytes q) ns

    mutual
      unfolding turns turns_in any_turns calls_in calls_i calls_alts any_name

      turns_by : (a : Act) → among (calls_in a) ≡ true → turns f a ≡ true
      turns_by (seq a b) h =
          from_either (among (calls_in a)) (among (calls_in b)) (turns f a) (turns f b) (sym (any_append (same_bytes q) (calls_in a) (calls_in b)) ∙ h) (λ e. turns_by a e) (λ e. turns_by b e)
      turns_by (par a b) h =
          from_either (among (calls_in a)) (among (calls_in b)) (turns f a) (turns f b) (sym (any_append (same_bytes q) (calls_in a) (calls_in b)) ∙ h) (λ e. turns_by a e) (λ e. turns_by b e)
      turns_by (label l a) h = turns_by a h
      turns_by (ins i) h = turns_in_by i h

      turns_in_by : (i : Ins) → among (calls_i i) ≡ true → turns_in f i ≡ true
      turns_in_by (iff e a) h = turns_by a h
      turns_in_by (decode p e bs) h = any_turns_by bs h
      turns_in_by (repeat a) h = refl
      turns_in_by (leave l) h = h
      turns_in_by (restart l) h = refl
      turns_in_by (call n) h = subst (λ x. f x ≡ true) (same_equal q n (sym (or-false (same_bytes q n)) ∙ h)) its
      turns_in_by stop h = h
      turns_in_by noop h = h
      turns_in_by (transfer d e) h = h

      any_turns_by : (bs : Alts) → among (calls_alts bs) ≡ true → any_turns f bs ≡ true
      any_turns_by no_alts h = h
      any_turns_by (alt c a bs) h =
          from_either (among (calls_in a)) (among (calls_alts bs)) (turns f a) (any_turns f bs) (sym (any_append (same_bytes q) (calls_in a) (calls_alts bs)) ∙ h) (λ e. turns_by a e)
          (λ e. any_turns_by bs e)

module _ (ds : Table) where
  down : (k : ℕ) (p : Word) → turns_down ds k p ≡ true → Reached ds p
  unfolding turns_down
  down zero p h = absurd (false≢true h)
  down (suc k) p h = by (down k) (why (turns_down ds k) (body_act ds p) h)
    where
      by : ((q : Word) → turns_down ds k q ≡ true → Reached ds q) → Why (turns_down ds k) (turns (λ n. false) (body_act ds p)) (calls_in (body_act ds p)) → Reached ds p
      by ih (inl e) = (p, itself, e)
      by ih (inr (q, c, e)) = let r = ih q e in (r.0, onward c r.1, r.2)

  module _ (o : Orderly ds) where
    up : (p q : Word) → Reaches ds p q → Turns (body_act ds q) → turns_from ds p ≡ true
    up p q itself h = turns_of_body ds o p ∙ turns_so (turns_from ds) (body_act ds p) h
    up p q (onward {q = r} c w) h = turns_of_body ds o p ∙ turns_by (turns_from ds) r (up r q w h) (body_act ds p) c

    -- a REPEAT or RESTART stands in p or in a body that activations reach from it, whether control gets there or not
    pub turns_reached : (p : Word) → (turns_from ds p ≡ true) ↔ Reached ds p
    turns_reached p = (down longest_chain p, λ r. up p r.0 r.1 r.2)
