-- What the names of an accepted description reach: bits inside a word of 64, and words inside the carriers.
use Rattle.std.specs.Prelude.{ℕ, zero, suc, ◌+◌, ◌-◌, ◌≤◌, ◌<◌, min, max, ◌≡◌, Bool, true, false, cond, ◌&&◌, ◌||◌, [], ◌∷◌, leb, eqb, length}
use Rattle.std.proofs.Math.Path.{refl, ap, subst}
use Rattle.std.proofs.Common.{sym, ◌∙◌, arith, leb-true, leb-false, eqb-true, le-ltb}
use Rattle.std.proofs.lemmas.Bool.{false≢true}
use Rattle.std.proofs.Math.Option.{Option, none, some}
use Rattle.std.proofs.Math.Decide.{dec_lt}
use Rattle.std.proofs.Math.ListN.{get_elem?}
use Rattle.rules.specs.Limits.{most_bits}
use Rattle.rules.specs.Declarations.{Word, Names, how_many, from_right, BitNames, one_unnamed, these, bit_count, Target, Declared, Table, number_of, words_of, total_words, first_word}
use Rattle.rules.specs.Declarations.{Reach, reach_storage, low_bit, reach_on, reach_under, reach_of, reach_number, reach}
use Rattle.rules.specs.Steps.Evaluation.{gives, word_of}
use Rattle.rules.specs.Faults.Declared.{among, same_way, inside, fits, good_target, declared_at}
use Rattle.laws_orders.proofs.Orders.Tests.{impossible}
use Rattle.laws_orders.proofs.Orders.Owners.{owner_at, owned}
use Rattle.laws_accepted.proofs.Accepted.Named.{and_both}
use Rattle.laws_accepted.specs.Cited.Declared.{Bare, Declares, Length}
use Rattle.laws_accepted.proofs.Accepted.Declared.{bits_length, near_bits, good_target_lem}

-- names that go up, and names that go down
up_among : (s : Names) (n : ℕ) → s.left ≤ s.right → among s n ≡ true → (s.left ≤ n) × (n ≤ s.right)
unfolding among
up_among s n h e =
    let p = and_both (leb (min s.left s.right) n) (leb n (max s.left s.right)) e in
    let l = leb-true (min s.left s.right) n p.0 in
    let r = leb-true n (max s.left s.right) p.1 in
    (omega arith, omega arith)

down_among : (s : Names) (n : ℕ) → s.right ≤ s.left → among s n ≡ true → (s.right ≤ n) × (n ≤ s.left)
unfolding among
down_among s n h e =
    let p = and_both (leb (min s.left s.right) n) (leb n (max s.left s.right)) e in
    let l = leb-true (min s.left s.right) n p.0 in
    let r = leb-true n (max s.left s.right) p.1 in
    (omega arith, omega arith)

up_many : (s : Names) → s.left ≤ s.right → s.left + how_many s ≡ suc s.right
unfolding how_many
up_many s h = omega arith

down_many : (s : Names) → s.right ≤ s.left → s.right + how_many s ≡ suc s.left
unfolding how_many
down_many s h = omega arith

-- bits inside the declared ones end below their number
pub inside_fits : (c : BitNames) (s : Names) → inside c s ≡ true → low_bit c s + how_many s ≤ bit_count c
unfolding inside low_bit from_right bit_count
inside_fits one_unnamed s e = absurd (false≢true e)
inside_fits (these b) s e =
    let way = same_way (leb b.left b.right) (leb s.left s.right) in
    let p = and_both (among b s.left) (among b s.right && (eqb s.left s.right || way)) e in
    let q = and_both (among b s.right) (eqb s.left s.right || way) p.1 in
    by (leb b.left b.right) (leb s.left s.right) (eqb s.left s.right) refl refl refl p.0 q.0 q.1
  where
    up :
        b.left ≤ b.right → s.left ≤ s.right → among b s.left ≡ true → among b s.right ≡ true
        → b.right - s.right + how_many s ≤ how_many b
    up f g l r = omega (arith, up_many b f, up_many s g, (up_among b s.left f l).0, (up_among b s.right f r).1)

    down :
        b.right ≤ b.left → s.right ≤ s.left → among b s.left ≡ true → among b s.right ≡ true
        → s.right - b.right + how_many s ≤ how_many b
    down f g l r = omega (arith, down_many b f, down_many s g, (down_among b s.left f l).1, (down_among b s.right f r).0)

    by :
        (x y z : Bool) → leb b.left b.right ≡ x → leb s.left s.right ≡ y → eqb s.left s.right ≡ z
        → among b s.left ≡ true → among b s.right ≡ true → (z || same_way x y) ≡ true
        → (elim x [ true ↦ b.right - s.right | false ↦ s.right - b.right ]) + how_many s ≤ how_many b
    by true y true p q r l k w = up (leb-true _ _ p) (omega (arith, eqb-true s.left s.right r)) l k
    by false y true p q r l k w = down (omega (arith, leb-false b.left b.right p)) (omega (arith, eqb-true s.left s.right r)) l k
    by true true false p q r l k w = up (leb-true _ _ p) (leb-true _ _ q) l k
    by true false false p q r l k w = absurd (false≢true w)
    by false true false p q r l k w = absurd (false≢true w)
    by false false false p q r l k w = down (omega (arith, leb-false b.left b.right p)) (omega (arith, leb-false s.left s.right q)) l k

-- what a declaration with bits reaches: its own words and bit names, in a carrier that is declared, inside a word of 64 bits
pub record Carried (ds : Table) (d : Declared) (r : Reach) : Type 0 where
  pub owner : r.owner < length ds
  pub words : r.words ≡ d.words
  pub bits : d.bits ≡ some r.bits
  pub size : Length (bit_count r.bits)
  pub fits : r.low + bit_count r.bits ≤ most_bits

-- a name reaches what its declaration does
pub reach_at :
    (ds : Table) (n : Word) (i : ℕ) (d : Declared) → number_of ds n ≡ some i → get_elem? ds i ≡ some d
    → reach ds n ≡ reach_of ds i d d.target
unfolding reach reach_number
reach_at ds n i d p q = ap (reach_number ds) p ∙ ap (λ (o : Option Declared). elim o [ none ↦ none | some d ↦ reach_of ds i d d.target ]) q

there_below : (ds : Table) (i : ℕ) (d : Declared) → get_elem? ds i ≡ some d → i < length ds
there_below [] i d e = impossible (cc)
there_below (x ∷ ds) zero d e = omega arith
there_below (x ∷ ds) (suc i) d e = omega (arith, there_below ds i d e)

-- past all words is the carrier of no declaration
pub owner_past : (ds : Table) (w : ℕ) → total_words ds ≤ w → owner_at ds w ≡ length ds
unfolding owner_at total_words
owner_past [] w h = refl
owner_past (d ∷ ds) w h =
    ap (λ t. cond t 0 (suc (owner_at ds (w - words_of d)))) (le-ltb w (words_of d) (omega arith)) ∙ ap suc (owner_past ds (w - words_of d) (omega arith))

module _ {outer : Word} {ds : Table} (h : Declares outer ds) where
  module _ (i : ℕ) (d : Declared) (there : get_elem? ds i ≡ some d) (c : BitNames) (with_bits : d.bits ≡ some c) where
    -- it is storage itself
    storage_carried : (r : Reach) × (reach_storage ds i d d.bits ≡ some r) × Carried ds d r
    unfolding reach_storage
    storage_carried =
        let n = bits_length c (near_bits h i d there c with_bits) in
        let r : Reach = record { owner = i; first = first_word ds i; words = d.words; low = 0; bits = c } in (
          r,
          ap (reach_storage ds i d) with_bits,
          record { owner = there_below ds i d there; words = refl; bits = with_bits; size = n; fits = omega (arith, n.short) },
        )

    -- it lies on a carrier
    mapping_carried : (t : Target) → d.target ≡ some t → (r : Reach) × (reach_under ds c t.bits (number_of ds t.name.word) ≡ some r) × Carried ds d r
    unfolding reach_under reach_on
    mapping_carried t e = by (number_of ds t.name.word) (rw with_bits at (good_target_lem h i d there t e))
      where
        bare : d.words ≡ none
        bare = subst (λ (o : Option Target). Bare o d.words) e (h.bare i d there)

        on :
            (j : ℕ) (g : Declared) → get_elem? ds j ≡ some g → (o : Option Target) (b : Option BitNames) → o ≡ g.target → b ≡ g.bits
            → (elim o [ none ↦ fits b (some c) t.bits | some u ↦ false ]) ≡ true
            → (r : Reach) × (reach_on ds c t.bits j o b ≡ some r) × Carried ds d r
        on j g k (some u) b p q z = absurd (false≢true z)
        on j g k none none p q z = absurd (false≢true z)
        on j g k none (some b) p q z =
            let y = and_both (inside b t.bits) (eqb (bit_count c) (how_many t.bits)) z in
            let m = inside_fits b t.bits y.0 in
            let n = bits_length b (near_bits h j g k b (sym q)) in (
              record { owner = j; first = first_word ds j; words = none; low = low_bit b t.bits; bits = c },
              refl,
              record {
                owner = there_below ds j g k;
                words = sym bare;
                bits = with_bits;
                size = bits_length c (near_bits h i d there c with_bits);
                fits = omega (arith, n.short, eqb-true (bit_count c) (how_many t.bits) y.1);
              },
            )

        at :
            (j : ℕ) (o : Option Declared) → get_elem? ds j ≡ o → good_target (some c) t.bits o ≡ true
            → (r : Reach) × ((elim o [ none ↦ none | some g ↦ reach_on ds c t.bits j g.target g.bits ]) ≡ some r) × Carried ds d r
        at j none k z = absurd (false≢true z)
        at j (some g) k z = on j g k g.target g.bits refl refl (wordless g.words z)
          where
            wordless :
                (w : Option Names)
                → (elim w [ none ↦ elim g.target [ none ↦ fits g.bits (some c) t.bits | some u ↦ false ] | some s ↦ false ]) ≡ true
                → (elim g.target [ none ↦ fits g.bits (some c) t.bits | some u ↦ false ]) ≡ true
            wordless none z = z
            wordless (some s) z = absurd (false≢true z)

        by :
            (o : Option ℕ) → good_target (some c) t.bits (declared_at ds o) ≡ true
            → (r : Reach) × (reach_under ds c t.bits o ≡ some r) × Carried ds d r
        by none z = absurd (false≢true z)
        by (some j) z = at j (get_elem? ds j) refl z

    pub declared_carried : (r : Reach) × (reach_of ds i d d.target ≡ some r) × Carried ds d r
    unfolding reach_of
    declared_carried = by d.target refl
      where
        by : (o : Option Target) → d.target ≡ o → (r : Reach) × (reach_of ds i d o ≡ some r) × Carried ds d r
        by none e = storage_carried
        by (some t) e =
            let m = mapping_carried t e in
            let q : reach_of ds i d (some t) ≡ reach_under ds c t.bits (number_of ds t.name.word)
            = ap (λ (b : Option BitNames). elim b [ none ↦ none | some c ↦ reach_under ds c t.bits (number_of ds t.name.word) ]) with_bits in
            (m.0, q ∙ m.1, m.2)

  -- a declaration without bits reaches nothing
  bitless : (i : ℕ) (d : Declared) (o : Option Target) → d.bits ≡ none → reach_of ds i d o ≡ none
  unfolding reach_of reach_storage
  bitless i d none e = rw e refl
  bitless i d (some t) e = rw e refl

  -- whatever a name reaches is what its declaration does
  pub name_carried : (n : Word) (r : Reach) → reach ds n ≡ some r → (d : Declared) × Carried ds d r
  unfolding reach reach_number
  name_carried n r e = number (number_of ds n) e
    where
      declared :
          (i : ℕ) (d : Declared) → get_elem? ds i ≡ some d → (b : Option BitNames) → d.bits ≡ b → reach_of ds i d d.target ≡ some r
          → Carried ds d r
      declared i d k none p z = impossible (cc (bitless i d d.target p))
      declared i d k (some c) p z =
          let m = declared_carried i d k c p in
          let q : m.0 ≡ r = cc m.1 in
          subst (Carried ds d) q m.2

      at :
          (i : ℕ) (o : Option Declared) → get_elem? ds i ≡ o → (elim o [ none ↦ none | some d ↦ reach_of ds i d d.target ]) ≡ some r
          → (d : Declared) × Carried ds d r
      at i none k z = impossible (cc)
      at i (some d) k z = (d, declared i d k d.bits refl z)

      number : (o : Option ℕ) → reach_number ds o ≡ some r → (d : Declared) × Carried ds d r
      number none z = impossible (cc)
      number (some i) z = at i (get_elem? ds i) refl z
