-- Laws of keys: they are in the order of the faults, the least key of a list is that of its least fault, and a key gives back number and place.
-- Assumes nothing.
use Rattle.std.specs.Prelude.{ℕ, ◌+◌, ◌*◌, ◌/◌, ◌%◌, ◌<◌, ◌≤◌, min, Bool, ◌&&◌, ◌||◌, ltb, eqb}
use Rattle.std.proofs.Math.Path.{◌≡◌, refl, ap}
use Rattle.std.proofs.Common.{sym, ◌∙◌, arith, mul-le-mul_right, suc-mul, lt-ltb, le-ltb, eq-eqb, ne_eqb, ltb-true, ltb-false}
use Rattle.std.proofs.Math.Bool.{true, false}
use mathlib.Core.List.{List, [], ◌∷◌, ◌++◌}
use Rattle.std.proofs.Math.Option.{some}
use Rattle.std.proofs.Math.Decide.{dec_lt}
use Rattle.rules.specs.Limits.{longest_text}
use Rattle.rules.specs.Faults.Fault.{Fault, fault, when, by_place_of, by_number_of, least_from, least}
use Rattle.keys.specs.Keys.{Small, no_key, key, number_key, Smalls, none_small, also_small, least_by, least_key, least_number_key}

-- a key goes by an order: it is below `no_key`, and the order is that of the keys
pub record Orders (k : Fault → ℕ) (before : Fault → Fault → Bool) : Type 0 where
  pub below : (f : Fault) → Small f → k f < no_key
  pub agrees : (f g : Fault) → Small f → Small g → before f g ≡ ltb (k f) (k g)

-- two numbers in one: the first counts first
shifted : (n b d : ℕ) → ltb b d ≡ ltb (n + b) (n + d)
shifted n b d = by (dec_lt b d)
  where
    by : Dec (b < d) → ltb b d ≡ ltb (n + b) (n + d)
    by (yes l) = lt-ltb b d l ∙ sym (lt-ltb (n + b) (n + d) (omega arith))
    by (no l) = le-ltb b d (omega arith) ∙ sym (le-ltb (n + b) (n + d) (omega arith))

lexical : (w a b c d : ℕ) → b < w → d < w → ltb a c || (eqb a c && ltb b d) ≡ ltb (a * w + b) (c * w + d)
lexical w a b c d hb hd = go (dec_lt a c) (dec_lt c a)
  where
    go : Dec (a < c) → Dec (c < a) → ltb a c || (eqb a c && ltb b d) ≡ ltb (a * w + b) (c * w + d)
    go (yes l) _ = rw (lt-ltb a c l) (sym (lt-ltb (a * w + b) (c * w + d) (omega (arith, mul-le-mul_right w l, suc-mul a w))))
    go (no n) (yes l) =
        rw (le-ltb a c (omega arith), ne_eqb a c (λ e. omega arith))
        (sym (le-ltb (a * w + b) (c * w + d) (omega (arith, mul-le-mul_right w l, suc-mul c w))))
    go (no n) (no m) = let e : a ≡ c = omega arith in rw (e, le-ltb c c (omega arith), eq-eqb c c refl) (shifted (c * w) b d)

pub by_place : Orders key by_place_of
by_place = record {
  below = λ f s. omega (arith, s.number, s.place);
  agrees = λ f g s t. lexical 128 f.place f.number g.place g.number s.number t.number;
}

pub by_number : Orders number_key by_number_of
by_number = record {
  below = λ f s. omega (arith, s.number, s.place);
  agrees = λ f g s t. lexical 65536 f.number f.place g.number g.place (omega (arith, s.place)) (omega (arith, t.place));
}

pub smalls_append : {xs ys : List Fault} → Smalls xs → Smalls ys → Smalls (xs ++ ys)
smalls_append none_small q = q
smalls_append (also_small s p) q = also_small s (smalls_append p q)

pub least_none : (k : Fault → ℕ) → least_by k [] ≡ no_key
unfolding least_by
least_none k = refl

pub least_bounded : (k : Fault → ℕ) (fs : List Fault) → least_by k fs ≤ no_key
unfolding least_by
least_bounded k [] = omega arith
least_bounded k (f ∷ fs) = omega (arith, least_bounded k fs)

pub least_append : (k : Fault → ℕ) (xs ys : List Fault) → least_by k (xs ++ ys) ≡ min (least_by k xs) (least_by k ys)
unfolding least_by
least_append k [] ys = omega (arith, least_bounded k ys)
least_append k (f ∷ xs) ys = omega (arith, least_append k xs ys)

module _ {k : Fault → ℕ} {before : Fault → Fault → Bool} (o : Orders k before) where
  pub least_one : (f : Fault) → Small f → least_by k (f ∷ []) ≡ k f
  unfolding least_by
  least_one f s = omega (arith, o.below f s)

  -- only the empty list has no key
  pub some_key : (f : Fault) (fs : List Fault) → Small f → least_by k (f ∷ fs) < no_key
  unfolding least_by
  some_key f fs s = omega (arith, o.below f s)

  pub no_fault : (fs : List Fault) → Smalls fs → least_by k fs ≡ no_key → fs ≡ []
  no_fault [] s e = refl
  no_fault (f ∷ fs) (also_small s _) e = absurd (omega (arith, some_key f fs s))

  lesser : (b f : Fault) (fs : List Fault) (r : Bool) → r ≡ ltb (k f) (k b)
      → min (k f) (least_by k fs) ≡ k (least_from before f fs) → min (k b) (least_by k fs) ≡ k (least_from before b fs)
      → min (k b) (min (k f) (least_by k fs)) ≡ k (least_from before (elim r [ true ↦ f | false ↦ b ]) fs)
  lesser b f fs true e p q = omega (arith, ltb-true (k f) (k b) (sym e))
  lesser b f fs false e p q = omega (arith, ltb-false (k f) (k b) (sym e))

  least_from_lem : (b : Fault) (fs : List Fault) → Small b → Smalls fs → min (k b) (least_by k fs) ≡ k (least_from before b fs)
  unfolding least_by least_from
  least_from_lem b [] s none_small = omega (arith, o.below b s)
  least_from_lem b (f ∷ fs) s (also_small t ss) = lesser b f fs (before f b) (o.agrees f b t s) (least_from_lem f fs t ss) (least_from_lem b fs s ss)

  -- the key of the least fault is the least key
  pub least_key_lem : (fs : List Fault) (f : Fault) → Smalls fs → least before fs ≡ some f → least_by k fs ≡ k f
  unfolding least_by least
  least_key_lem [] f s e = absurd (let z : ◌≡◌ {A = ℕ} 0 1 = cc in omega arith)
  least_key_lem (g ∷ fs) f (also_small s ss) e = let same : least_from before g fs ≡ f = cc in least_from_lem g fs s ss ∙ ap k same

  -- the least of small faults is small
  least_small : (b : Fault) (fs : List Fault) → Small b → Smalls fs → Small (least_from before b fs)
  unfolding least_from
  least_small b [] s none_small = s
  least_small b (f ∷ fs) s (also_small t ts) = least_small (elim (before f b) [ true ↦ f | false ↦ b ]) fs (by (before f b)) ts
    where
      by : (c : Bool) → Small (elim c [ true ↦ f | false ↦ b ])
      by true = t
      by false = s

  -- a key that is not `no_key` is that of the least fault
  pub least_by_key : (fs : List Fault) (n : ℕ) → Smalls fs → n ≡ least_by k fs → (n ≡ no_key → ⊥) → (f : Fault) × (least before fs ≡ some f) × Small f × (n ≡ k f)
  unfolding least
  least_by_key [] n s e h = absurd (h (e ∙ least_none k))
  least_by_key (g ∷ fs) n (also_small s ss) e h =
      let f = least_from before g fs in (f, refl, least_small g fs s ss, e ∙ least_key_lem (g ∷ fs) f (also_small s ss) refl)

-- a fault, or none
pub fault_key : (n p : ℕ) → n < 128 → p ≤ longest_text → least_key (when true n p) ≡ key (fault n p)
fault_key n p h l = least_one by_place (fault n p) (record { number = h; place = l })

pub no_fault_key : (n p : ℕ) → least_key (when false n p) ≡ no_key
unfolding least_by
no_fault_key n p = refl

-- a fault by its key
pub key_number : (f : Fault) → Small f → key f % 128 ≡ f.number
key_number f s = omega (arith, s.number)

pub key_place : (f : Fault) → Small f → key f / 128 ≡ f.place
key_place f s = omega (arith, s.number)

pub number_key_number : (f : Fault) → Small f → number_key f / 65536 ≡ f.number
number_key_number f s = omega (arith, s.place)

pub number_key_place : (f : Fault) → Small f → number_key f % 65536 ≡ f.place
number_key_place f s = omega (arith, s.place)

same_fault : (f : Fault) (n p : ℕ) → f.number ≡ n → f.place ≡ p → some f ≡ some (fault n p)
same_fault f n p e q = ap some (ap (λ (x : ℕ). fault x f.place) e ∙ ap (fault n) q)

pub place_first : (fs : List Fault) (k : ℕ) → Smalls fs → k ≡ least_key fs → (k ≡ no_key → ⊥) → least by_place_of fs ≡ some (fault (k % 128) (k / 128))
place_first fs k s e h =
    let b = least_by_key by_place fs k s e h in
    b.1 ∙ same_fault b.0 _ _ (sym (ap (λ (n : ℕ). n % 128) b.3 ∙ key_number b.0 b.2))
    (sym (ap (λ (n : ℕ). n / 128) b.3 ∙ key_place b.0 b.2))

pub number_first : (fs : List Fault) (k : ℕ) → Smalls fs → k ≡ least_number_key fs → (k ≡ no_key → ⊥) → least by_number_of fs ≡ some (fault (k / 65536) (k % 65536))
number_first fs k s e h =
    let b = least_by_key by_number fs k s e h in
    b.1 ∙ same_fault b.0 _ _ (sym (ap (λ (n : ℕ). n / 65536) b.3 ∙ number_key_number b.0 b.2))
    (sym (ap (λ (n : ℕ). n % 65536) b.3 ∙ number_key_place b.0 b.2))

pub place_near : (fs : List Fault) (k : ℕ) → Smalls fs → k ≡ least_key fs → (k ≡ no_key → ⊥) → k / 128 ≤ longest_text
place_near fs k s e h = let b = least_by_key by_place fs k s e h in omega (arith, b.3, b.2.place, b.2.number)

pub number_near : (fs : List Fault) (k : ℕ) → Smalls fs → k ≡ least_number_key fs → (k ≡ no_key → ⊥) → k % 65536 ≤ longest_text
number_near fs k s e h = let b = least_by_key by_number fs k s e h in omega (arith, b.3, b.2.place)
