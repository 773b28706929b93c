-- Each word belongs to one carrier, and what a name reaches lies in the words of the carrier that it is counted for.
use Rattle.std.specs.Prelude.{ℕ, zero, suc, ◌+◌, ◌-◌, ◌<◌, min, max, ◌≡◌, refl, Bool, true, false, cond, ◌&&◌, [], ◌∷◌, leb, ltb}
use Rattle.std.proofs.Common.{◌∙◌, ap, subst, arith, leb-true, leb-false, lt-ltb, le-ltb}
use Rattle.std.proofs.Math.Option.{Option, none, some}
use Rattle.std.proofs.Math.ListN.{get_elem?}
use Rattle.rules.specs.Declarations.{Word, Names, how_many, from_left, BitNames, Target, Declared, Table, number_of, storage_words, words_of, first_word}
use Rattle.rules.specs.Declarations.{low_bit, Reach, reach_storage, reach_on, reach_under, reach_of, reach_number, reach}
use Rattle.rules.specs.Steps.Evaluation.{gives, word_or70, word_of}
use Rattle.laws_orders.proofs.Orders.Tests.{impossible}

-- the number of the declaration that a word belongs to; past all words, that of no declaration
unfoldable pub owner_at : Table → ℕ → ℕ
owner_at [] w = 0
owner_at (d ∷ ds) w = cond (ltb w (words_of d)) 0 (suc (owner_at ds (w - words_of d)))

owner_of : (ds : Table) (i : ℕ) (d : Declared) (k : ℕ) → get_elem? ds i ≡ some d → k < words_of d → owner_at ds (first_word ds i + k) ≡ i
unfolding owner_at first_word
owner_of [] i d k e h = cc
owner_of (x ∷ ds) zero d k e h =
    let q : d ≡ x = cc in
    let b : k < words_of x = subst (λ (z : Declared). k < words_of z) q h in
    ap (λ t. cond t 0 (suc (owner_at ds (0 + k - words_of x)))) (lt-ltb (0 + k) (words_of x) (omega arith))
owner_of (x ∷ ds) (suc i) d k e h =
    let w : ℕ = words_of x + first_word ds i + k in
    let rest : w - words_of x ≡ first_word ds i + k = omega arith in
    ap (λ t. cond t 0 (suc (owner_at ds (w - words_of x)))) (le-ltb w (words_of x) (omega arith)) ∙ ap suc (ap (owner_at ds) rest ∙ owner_of ds i d k e h)

-- a word's name stands fewer words from the left one than there are
from_left_fits : (s : Names) (n k : ℕ) → from_left s n ≡ some k → k < how_many s
unfolding from_left how_many
from_left_fits s n k e = by (leb (min s.left s.right) n) (leb n (max s.left s.right)) (leb s.left s.right) refl refl refl e
  where
    by :
        (a b c : Bool) → leb (min s.left s.right) n ≡ a → leb n (max s.left s.right) ≡ b → leb s.left s.right ≡ c
        → (elim (a && b) [ true ↦ elim c [ true ↦ some (n - s.left) | false ↦ some (s.left - n) ] | false ↦ none ]) ≡ some k → k < how_many s
    by true true true p q r z = let y : n - s.left ≡ k = cc in omega (arith, leb-true, leb-false)
    by true true false p q r z = let y : s.left - n ≡ k = cc in omega (arith, leb-true, leb-false)
    by true false c p q r z = impossible (cc)
    by false b c p q r z = impossible (cc)

word_or_70 : (p : ℕ) (o : Option ℕ) (k : ℕ) → word_or70 p o ≡ gives k → o ≡ some k
unfolding word_or70
word_or_70 p none k e = cc
word_or_70 p (some n) k e = cc

-- a subscript that gives a word gives one of the carrier's
words_fit : (w : Option Names) (b : BitNames) (p n k : ℕ) → word_of p w n ≡ gives k → k < storage_words none (some b) w
unfolding word_of storage_words
words_fit none b p n k e = let q : 0 ≡ k = cc in omega arith
words_fit (some s) b p n k e = from_left_fits s n k (word_or_70 p (from_left s n) k e)

-- storage has a word
some_word : (b : BitNames) (w : Option Names) → 0 < storage_words none (some b) w
unfolding storage_words how_many
some_word b none = omega arith
some_word b (some s) = omega arith

-- what is reached lies in the words of the carrier that is its owner
record Lies (ds : Table) (r : Reach) : Type 0 where
  storage : Declared
  declared : get_elem? ds r.owner ≡ some storage
  first : r.first ≡ first_word ds r.owner
  inside : (p n k : ℕ) → word_of p r.words n ≡ gives k → k < words_of storage

abbrev reached : Table → ℕ → Option Names → ℕ → BitNames → Reach
reached ds i w l b = record { owner = i; first = first_word ds i; words = w; low = l; bits = b }

-- any bits of a declaration that is storage, under the names w for its words
storage_lies :
    (ds : Table) (i : ℕ) (d : Declared) (w : Option Names) (l : ℕ) (b c : BitNames) → get_elem? ds i ≡ some d → none ≡ d.target → some c ≡ d.bits
    → ((p n k : ℕ) → word_of p w n ≡ gives k → k < storage_words none (some c) d.words) → Lies ds (reached ds i w l b)
storage_lies ds i d w l b c e t q h =
    record {
      storage = d;
      declared = e;
      first = refl;
      inside = λ p n k z. subst (λ x. k < storage_words x d.bits d.words) t (subst (λ x. k < storage_words none x d.words) q (h p n k z));
    }

itself_lies :
    (ds : Table) (i : ℕ) (d : Declared) (b : Option BitNames) (r : Reach) → get_elem? ds i ≡ some d → none ≡ d.target → b ≡ d.bits
    → reach_storage ds i d b ≡ some r → Lies ds r
unfolding reach_storage
itself_lies ds i d none r e t q h = impossible (cc)
itself_lies ds i d (some b) r e t q h =
    let z : reached ds i d.words 0 b ≡ r = cc in
    subst (Lies ds) z (storage_lies ds i d d.words 0 b b e t q (words_fit d.words b))

under_lies :
    (ds : Table) (b : BitNames) (s : Names) (i : ℕ) (d : Declared) (t : Option Target) (c : Option BitNames) (r : Reach)
    → get_elem? ds i ≡ some d → t ≡ d.target → c ≡ d.bits → reach_on ds b s i t c ≡ some r → Lies ds r
unfolding reach_on word_of
under_lies ds b s i d (some t) c r e p q h = impossible (cc)
under_lies ds b s i d none none r e p q h = impossible (cc)
under_lies ds b s i d none (some c) r e p q h =
    let z : reached ds i none (low_bit c s) b ≡ r = cc in
    subst (Lies ds) z (storage_lies ds i d none (low_bit c s) b c e p q (λ x n k y. let w : 0 ≡ k = cc in omega (arith, some_word c d.words)))

mapping_lies : (ds : Table) (b : BitNames) (s : Names) (o : Option ℕ) (r : Reach) → reach_under ds b s o ≡ some r → Lies ds r
unfolding reach_under
mapping_lies ds b s none r h = impossible (cc)
mapping_lies ds b s (some i) r h = by (get_elem? ds i) refl h
  where
    by : (x : Option Declared) → get_elem? ds i ≡ x → (elim x [ none ↦ none | some d ↦ reach_on ds b s i d.target d.bits ]) ≡ some r → Lies ds r
    by none e z = impossible (cc)
    by (some d) e z = under_lies ds b s i d d.target d.bits r e refl refl z

declared_lies :
    (ds : Table) (i : ℕ) (d : Declared) (t : Option Target) (r : Reach) → get_elem? ds i ≡ some d
    → t ≡ d.target → reach_of ds i d t ≡ some r → Lies ds r
unfolding reach_of
declared_lies ds i d none r e q h = itself_lies ds i d d.bits r e q refl h
declared_lies ds i d (some t) r e q h = by d.bits h
  where
    by : (x : Option BitNames) → (elim x [ none ↦ none | some b ↦ reach_under ds b t.bits (number_of ds t.name.word) ]) ≡ some r → Lies ds r
    by none z = impossible (cc)
    by (some b) z = mapping_lies ds b t.bits (number_of ds t.name.word) r z

number_lies : (ds : Table) (o : Option ℕ) (r : Reach) → reach_number ds o ≡ some r → Lies ds r
unfolding reach_number
number_lies ds none r h = impossible (cc)
number_lies ds (some i) r h = by (get_elem? ds i) refl h
  where
    by : (x : Option Declared) → get_elem? ds i ≡ x → (elim x [ none ↦ none | some d ↦ reach_of ds i d d.target ]) ≡ some r → Lies ds r
    by none e z = impossible (cc)
    by (some d) e z = declared_lies ds i d d.target r e refl z

-- A word that an access comes to belongs to the carrier that the name is counted for, also under a mapping.
pub owned : (ds : Table) (n : Word) (r : Reach) (p v k : ℕ) → reach ds n ≡ some r → word_of p r.words v ≡ gives k → owner_at ds (r.first + k) ≡ r.owner
unfolding reach
owned ds n r p v k h w =
    let l : Lies ds r = number_lies ds (number_of ds n) r h in
    ap (λ x. owner_at ds (x + k)) l.first ∙ owner_of ds r.owner l.storage k l.declared (l.inside p v k w)
