-- What the 30s leave of declarations: how long bits are, how large names, how many words, and what a mapping lies on.
use Rattle.std.specs.Prelude.{ℕ, zero, suc, ◌+◌, ◌≤◌, max, ◌≡◌, refl, true, not, ◌||◌, [], ◌∷◌, ◌++◌, ltb, length}
use Rattle.std.proofs.Common.{subst, arith}
use Rattle.std.proofs.Math.Bool.{false}
use Rattle.std.proofs.Math.Option.{some}
use Rattle.std.proofs.Math.ListN.{get_elem?}
use borrow.Author.Tests.{ltb-false, not-false}
use Rattle.rules.specs.Text.Scan.{same_bytes}
use Rattle.rules.specs.Grammar.Trees.{carrier, given, body, mapped, words, with_bits, bare_body, Declaration, plain, main, Declarations, declared_all, declared_also, Description, description}
use Rattle.rules.specs.Declarations.{Word, Names, how_many, BitNames, one_unnamed, these, bit_count, Target, Declared, declared_of, Table, rest_of, declarations, outer_name, number_of, words_of, total_words}
use Rattle.rules.specs.Faults.Fault.{when}
use Rattle.rules.specs.Faults.Declared.{twice, far_names, large_bits, large_words, large, too_many, good_target, declared_at, bad_mapping, mappings, faults30}
use Rattle.rules.specs.Limits.{largest_name, most_declarations, most_words, most_bits}
use Rattle.rules.specs.Answers.{accepted, judgement}
use Rattle.laws_orders.proofs.Orders.Tests.{impossible, or_neither}
use Rattle.laws_accepted.proofs.Accepted.Faultless.{both_empty, when_empty, each_empty, no_faults}
use Rattle.laws_accepted.specs.Cited.Declared.{Bare, Declares, Length}

abbrev bare_of : Declared → Type 0
bare_of d = Bare d.target d.words

declared_bare : (d : Declaration) → bare_of (declared_of d)
declared_bare (plain n (words l f c t r b o)) = tt
declared_bare (plain n (with_bits l o carrier)) = tt
declared_bare (plain n (with_bits l o (given e (body g a m)))) = tt
declared_bare (plain n (with_bits l o (given e (mapped t b c r)))) = refl
declared_bare (plain n (bare_body e g a m)) = tt
declared_bare (main i n o e g a m) = tt

rest_bare : (ds : Declarations) (i : ℕ) (d : Declared) → get_elem? (rest_of ds) i ≡ some d → bare_of d
unfolding rest_of
rest_bare (declared_all e) i d h = impossible (cc)
rest_bare (declared_also c g x ds) zero d h = let q : declared_of x ≡ d = cc in subst bare_of q (declared_bare x)
rest_bare (declared_also c g x ds) (suc i) d h = rest_bare ds i d h

pub declares : (d : Description) → faults30 (outer_name d).word (declarations d) ≡ [] → Declares (outer_name d).word (declarations d)
unfolding declarations
declares (description n e b g x ds) f = record { of30 = f; bare = by }
  where
    by : (i : ℕ) (d : Declared) → get_elem? (declared_of x ∷ rest_of ds) i ≡ some d → bare_of d
    by zero d h = let q : declared_of x ≡ d = cc in subst bare_of q (declared_bare x)
    by (suc i) d h = rest_bare ds i d h

pub accepted_declares : (d : Description) (n w : ℕ) → judgement d ≡ accepted n w → Declares (outer_name d).word (declarations d)
accepted_declares d n w e = declares d (no_faults d n w e).of30

-- "a declared bit or word name over 4,095"
pub record Near (s : Names) : Type 0 where
  pub left : s.left ≤ largest_name
  pub right : s.right ≤ largest_name

near : (s : Names) → far_names s ≡ false → Near s
near s e = let h = ltb-false largest_name (max s.left s.right) e in record { left = omega arith; right = omega arith }

-- "over 64 bits"
abbrev pub NearBits : BitNames → Type 0
NearBits one_unnamed = Unit {0}
NearBits (these s) = (how_many s ≤ most_bits) × Near s

pub bits_length : (b : BitNames) → NearBits b → Length (bit_count b)
unfolding bit_count how_many
bits_length one_unnamed h = record { some = omega arith; short = omega arith }
bits_length (these s) h = record { some = omega arith; short = h.0 }

total_from :
    (ds : Table) (n w : ℕ) → n ≤ most_declarations → w ≤ most_words → too_many n w ds ≡ []
    → (n + length ds ≤ most_declarations) × (w + total_words ds ≤ most_words)
unfolding too_many total_words
total_from [] n w p q e = (omega arith, omega arith)
total_from (d ∷ ds) n w p q e =
    let f = both_empty (when (ltb most_declarations (n + 1) || ltb most_words (w + words_of d)) 32 d.name.place) (too_many (n + 1) (w + words_of d) ds) e in
    let g = or_neither (ltb most_declarations (n + 1)) (ltb most_words (w + words_of d)) (when_empty _ 32 d.name.place f.0) in
    let r =
    total_from ds (n + 1) (w + words_of d) (ltb-false most_declarations (n + 1) g.0) (ltb-false most_words (w + words_of d) g.1) f.1 in
    let a = r.0 in
    let b = r.1 in
    (omega arith, omega arith)

module _ {outer : Word} {ds : Table} (h : Declares outer ds) where
  no_fault : (twice (outer ∷ []) ds ≡ []) × ((large ds ≡ []) × ((too_many 0 0 ds ≡ []) × (mappings outer ds ds ≡ [])))
  unfolding faults30
  no_fault =
      let a = both_empty (twice (outer ∷ []) ds) (large ds ++ (too_many 0 0 ds ++ mappings outer ds ds)) h.of30 in
      let b = both_empty (large ds) (too_many 0 0 ds ++ mappings outer ds ds) a.1 in
      (a.0, (b.0, both_empty (too_many 0 0 ds) (mappings outer ds ds) b.1))

  module _ (i : ℕ) (d : Declared) (there : get_elem? ds i ≡ some d) where
    not_large : (large_bits d.bits ≡ false) × (large_words d.words ≡ false)
    unfolding large
    not_large =
        or_neither (large_bits d.bits) (large_words d.words)
        (when_empty _ 31 d.name.place
        (each_empty (λ d. when (large_bits d.bits || large_words d.words) 31 d.name.place) large (λ d ds. refl) ds i d no_fault.1.0 there))

    pub near_bits : (b : BitNames) → d.bits ≡ some b → NearBits b
    near_bits b e = by b (rw e at not_large.0)
      where
        by : (b : BitNames) → large_bits (some b) ≡ false → NearBits b
        by one_unnamed z = tt
        by (these s) z = let n = or_neither (ltb most_bits (how_many s)) (far_names s) z in (ltb-false most_bits (how_many s) n.0, near s n.1)

    pub near_words : (s : Names) → d.words ≡ some s → Near s
    near_words s e = near s (rw e at not_large.1)

    -- 33: what a mapping lies on
    pub good_target_lem : (t : Target) → d.target ≡ some t → good_target d.bits t.bits (declared_at ds (number_of ds t.name.word)) ≡ true
    unfolding mappings bad_mapping
    good_target_lem t e =
        let f =
        each_empty (λ d. when (bad_mapping outer ds d d.target) 33 d.name.place) (mappings outer ds) (λ d ds. refl) ds i d
        no_fault.1.1.1 there in
        let g : bad_mapping outer ds d (some t) ≡ false = rw e at (when_empty (bad_mapping outer ds d d.target) 33 d.name.place f) in
        let good = good_target d.bits t.bits (declared_at ds (number_of ds t.name.word)) in
        not-false good (or_neither (same_bytes outer t.name.word) (not good) g).1

  pub few_words : total_words ds ≤ most_words
  few_words = let r = total_from ds 0 0 (omega arith) (omega arith) no_fault.1.1.0 in omega (arith, r.1)
