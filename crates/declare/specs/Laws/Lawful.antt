-- What declarations are that have no fault of the 30s: few, with few words, and none of them large.
-- Assumes nothing.
use Rattle.std.specs.Prelude.{ℕ, zero, suc, ◌+◌, ◌≤◌, ◌≡◌, refl, Bool, true, false, ◌||◌, List, [], ◌∷◌, ◌++◌, ltb, length}
use Rattle.std.proofs.Common.{sym, ap, ◌∙◌, arith, ltb-false}
use Rattle.std.proofs.Math.Option.{some, none-ne-some, some-injective}
use Rattle.std.proofs.Math.ListN.{get_elem?}
use Rattle.rules.specs.Declarations.{Word, Declared, Table, words_of, total_words}
use Rattle.rules.specs.Faults.Fault.{Fault, when}
use Rattle.rules.specs.Faults.Declared.{twice, large, too_many, mappings, faults30}
use Rattle.rules.specs.Limits.{most_declarations, most_words}
use Rattle.declare.specs.Faults.{is_large, is_too_many}

-- the parts of an empty list
empty_first : (xs ys : List Fault) → xs ++ ys ≡ [] → xs ≡ []
empty_first [] ys e = refl
empty_first (x ∷ xs) ys e = absurd (omega (arith, ap length e))

empty_second : (xs ys : List Fault) → xs ++ ys ≡ [] → ys ≡ []
empty_second [] ys e = e
empty_second (x ∷ xs) ys e = absurd (omega (arith, ap length e))

no_when : (b : Bool) (n p : ℕ) → when b n p ≡ [] → b ≡ false
no_when true n p e = absurd (omega (arith, ap length e))
no_when false n p e = refl

pub both_false : (a b : Bool) → a || b ≡ false → (a ≡ false) × (b ≡ false)
both_false true b e = absurd (let z : ◌≡◌ {A = ℕ} 0 1 = cc in omega arith)
both_false false b e = (refl, e)

-- the counts, from n declarations and w words on
counts : (n w : ℕ) (ds : Table) → n ≤ most_declarations → w ≤ most_words → too_many n w ds ≡ [] → (n + length ds ≤ most_declarations) × (w + total_words ds ≤ most_words)
unfolding too_many total_words
counts n w [] a b e = (omega arith, omega arith)
counts n w (d ∷ ds) a b e =
    let none_of = no_when (is_too_many n w d) 32 d.name.place (empty_first (when (is_too_many n w d) 32 d.name.place) _ e) in
    let now = both_false (ltb most_declarations (n + 1)) (ltb most_words (w + words_of d)) none_of in
    let more = ltb-false most_declarations (n + 1) now.0 in
    let room = ltb-false most_words (w + words_of d) now.1 in
    let rest = counts (n + 1) (w + words_of d) ds more room (empty_second (when (is_too_many n w d) 32 d.name.place) _ e) in
    (omega (arith, rest.0), omega (arith, rest.1))

none_large : (ds : Table) → large ds ≡ [] → (k : ℕ) (d : Declared) → get_elem? ds k ≡ some d → is_large d ≡ false
unfolding large
none_large [] e k d f = absurd (none-ne-some d f)
none_large (x ∷ ds) e zero d f =
    ap is_large (sym (some-injective x d f)) ∙ no_when (is_large x) 31 x.name.place (empty_first (when (is_large x) 31 x.name.place) (large ds) e)
none_large (x ∷ ds) e (suc k) d f = none_large ds (empty_second (when (is_large x) 31 x.name.place) (large ds) e) k d f

module _ (outer : Word) (ds : Table) (lawful : faults30 outer ds ≡ []) where
  behind_twice : large ds ++ (too_many 0 0 ds ++ mappings outer ds ds) ≡ []
  unfolding faults30
  behind_twice = empty_second (twice (outer ∷ []) ds) _ lawful

  pub lawful_large : (k : ℕ) (d : Declared) → get_elem? ds k ≡ some d → is_large d ≡ false
  lawful_large = none_large ds (empty_first (large ds) _ behind_twice)

  lawful_counts : (0 + length ds ≤ most_declarations) × (0 + total_words ds ≤ most_words)
  lawful_counts = counts 0 0 ds (omega arith) (omega arith) (empty_first (too_many 0 0 ds) _ (empty_second (large ds) _ behind_twice))

  pub lawful_count : length ds ≤ most_declarations
  lawful_count = omega (arith, lawful_counts.0)

  pub lawful_words : total_words ds ≤ most_words
  lawful_words = omega (arith, lawful_counts.1)
