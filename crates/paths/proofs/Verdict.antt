-- The computed profile is what the definitions ask for, and they allow one answer.
use Rattle.std.specs.Prelude.{ℕ, min, ◌≤◌, ◌≡◌, true, false, ◌||◌, ◌⊎◌, eqb}
use Rattle.std.proofs.Math.Path.{refl}
use Rattle.std.proofs.Common.{sym, ◌∙◌, ap, subst, inl, inr, arith, eqb-true, eq-eqb}
use Rattle.std.proofs.Math.Bool.{false≢true}
use mathlib.Core.List.{List, [], ◌∷◌}
use Rattle.std.proofs.Math.Option.{Option, none, some, some-injective}
use Rattle.std.proofs.Math.Decide.{dec_le}
use Rattle.rules.specs.Declarations.{Word, Table, body_of}
use Rattle.rules.specs.Grammar.Trees.{Action}
use Rattle.rules.specs.Whole.Sets.{member}
use Rattle.laws_orders.proofs.Orders.Orderly.{Orderly}
use Rattle.laws_orders.proofs.Orders.Tests.{or_either, or_left, or_right}
use Rattle.rules.specs.Paths.{TooEarly, storage_of, Profile, passes, fails, Profiles, no_body, no_storage, early, in_time}
use Rattle.paths.specs.Cited.Early.{early_places, lowest, verdict, on_storage, on_body, profile}
use Rattle.paths.proofs.Sound.{sound}
use Rattle.paths.proofs.Exact.{exact}

-- the lowest place is one of them, and none is lower
lowest_under : (p : ℕ) (ps : List ℕ) → lowest p ps ≤ p
unfolding lowest
lowest_under p [] = omega arith
lowest_under p (q ∷ qs) = omega (arith, lowest_under (min p q) qs)

lowest_least : (p : ℕ) (ps : List ℕ) (q : ℕ) → member q (p ∷ ps) ≡ true → lowest p ps ≤ q
unfolding lowest member
lowest_least p [] q h = by (or_either (eqb q p) false h)
  where
    by : (eqb q p ≡ true) ⊎ (false ≡ true) → p ≤ q
    by (inl e) = let z = eqb-true q p e in omega arith
    by (inr e) = absurd (false≢true e)
lowest_least p (x ∷ xs) q h = by (lowest_least (min p x) xs q) (or_either (eqb q p) (eqb q x || member q xs) h)
  where
    low : lowest (min p x) xs ≤ min p x
    low = lowest_under (min p x) xs

    by : ((eqb q (min p x) || member q xs) ≡ true → lowest (min p x) xs ≤ q) → (eqb q p ≡ true) ⊎ ((eqb q x || member q xs) ≡ true) → lowest (min p x) xs ≤ q
    by ih (inl e) = let z = eqb-true q p e in omega (arith, low)
    by ih (inr e) = more (or_either (eqb q x) (member q xs) e)
      where
        more : (eqb q x ≡ true) ⊎ (member q xs ≡ true) → lowest (min p x) xs ≤ q
        more (inl f) = let z = eqb-true q x f in omega (arith, low)
        more (inr f) = ih (or_right (eqb q (min p x)) (member q xs) f)

min_one : (p q : ℕ) → (min p q ≡ p) ⊎ (min p q ≡ q)
min_one p q = by (dec_le p q)
  where
    by : Dec (p ≤ q) → (min p q ≡ p) ⊎ (min p q ≡ q)
    by (yes h) = inl (omega arith)
    by (no h) = inr (omega arith)

lowest_one : (p : ℕ) (ps : List ℕ) → (lowest p ps ≡ p) ⊎ (member (lowest p ps) ps ≡ true)
unfolding lowest member
lowest_one p [] = inl refl
lowest_one p (q ∷ qs) = by (lowest_one (min p q) qs) (min_one p q)
  where
    x : ℕ
    x = lowest (min p q) qs

    by : (x ≡ min p q) ⊎ (member x qs ≡ true) → (min p q ≡ p) ⊎ (min p q ≡ q) → (x ≡ p) ⊎ ((eqb x q || member x qs) ≡ true)
    by (inl e) (inl f) = inl (e ∙ f)
    by (inl e) (inr f) = inr (or_left (eqb x q) (member x qs) (eq-eqb x q (e ∙ f)))
    by (inr e) f = inr (or_right (eqb x q) (member x qs) e)

lowest_in : (p : ℕ) (ps : List ℕ) → member (lowest p ps) (p ∷ ps) ≡ true
unfolding member
lowest_in p ps = by (lowest_one p ps)
  where
    x : ℕ
    x = lowest p ps

    by : (x ≡ p) ⊎ (member x ps ≡ true) → (eqb x p || member x ps) ≡ true
    by (inl e) = or_left (eqb x p) (member x ps) (eq-eqb x p e)
    by (inr e) = or_right (eqb x p) (member x ps) e

abbrev is_some : {A : Type 0} → Option A → Type 0
is_some none = ⊥
is_some (some a) = Unit {0}

module _ (ds : Table) (test output : Word) where
  -- by the places, on a storage carrier
  judged :
      (o : ℕ) → ¬ (body_of ds test ≡ none) → storage_of ds output ≡ some o → (ps : List ℕ)
      → ((p : ℕ) → TooEarly ds test o p → member p ps ≡ true) → ((p : ℕ) → member p ps ≡ true → TooEarly ds test o p) → Profiles ds test output (verdict ps)
  unfolding member
  judged o b e [] all real = in_time o b e (λ q w. false≢true (all q w))
  judged o b e (p ∷ ps) all real = early o (lowest p ps) b e (real (lowest p ps) (lowest_in p ps)) (λ q w. lowest_least p ps q (all q w))

  on_storage_lem : Orderly ds → ¬ (body_of ds test ≡ none) → (x : Option ℕ) → storage_of ds output ≡ x → Profiles ds test output (on_storage ds test x)
  on_storage_lem h b none e = no_storage b e
  on_storage_lem h b (some o) e = judged o b e (early_places ds test o) (sound ds test o h) (exact ds test o)

  on_body_lem : Orderly ds → (x : Option Action) → body_of ds test ≡ x → Profiles ds test output (on_body ds test output x)
  on_body_lem h none e = no_body e
  on_body_lem h (some a) e = on_storage_lem h (λ q. subst is_some (sym e ∙ q) tt) (storage_of ds output) refl

  pub right : Orderly ds → Profiles ds test output (profile ds test output)
  unfolding profile
  right h = on_body_lem h (body_of ds test) refl

  no_number : {A : Type 0} (o : ℕ) → storage_of ds output ≡ none → storage_of ds output ≡ some o → A
  no_number o e f = absurd (subst is_some (sym f ∙ e) tt)

  same_number : (o u : ℕ) → storage_of ds output ≡ some o → storage_of ds output ≡ some u → o ≡ u
  same_number o u e f = some-injective o u (sym e ∙ f)

  pub one_answer : {x y : Profile} → Profiles ds test output x → Profiles ds test output y → x ≡ y
  one_answer (no_body a) (no_body b) = refl
  one_answer (no_body a) (no_storage n b) = absurd (n a)
  one_answer (no_body a) (early o p n e w l) = absurd (n a)
  one_answer (no_body a) (in_time o n e l) = absurd (n a)
  one_answer (no_storage n a) (no_body b) = absurd (n b)
  one_answer (no_storage n a) (no_storage k b) = refl
  one_answer (no_storage n a) (early o p k e w l) = no_number o a e
  one_answer (no_storage n a) (in_time o k e l) = no_number o a e
  one_answer (early o p n e w l) (no_body b) = absurd (n b)
  one_answer (early o p n e w l) (no_storage k b) = no_number o b e
  one_answer (early o p n e w l) (early u q k f v g) =
      let s = same_number o u e f in
      let a : p ≤ q = l q (subst (λ z. TooEarly ds test z q) (sym s) v) in
      let b : q ≤ p = g p (subst (λ z. TooEarly ds test z p) s w) in
      ap (fails 92) (omega arith)
  one_answer (early o p n e w l) (in_time u k f g) = absurd (g p (subst (λ z. TooEarly ds test z p) (same_number o u e f) w))
  one_answer (in_time o n e l) (no_body b) = absurd (n b)
  one_answer (in_time o n e l) (no_storage k b) = no_number o b e
  one_answer (in_time o n e l) (early u q k f v g) = absurd (l q (subst (λ z. TooEarly ds test z q) (sym (same_number o u e f)) v))
  one_answer (in_time o n e l) (in_time u k f g) = refl

  pub accepted_none : Profiles ds test output passes → (o : ℕ) → storage_of ds output ≡ some o → (p : ℕ) → ¬ TooEarly ds test o p
  accepted_none (in_time u n f l) o e p w = l p (subst (λ z. TooEarly ds test z p) (same_number o u e f) w)
