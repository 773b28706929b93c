-- Summaries: those of an item, of items joined to others, and what two that no value fits tell of their items.
-- Assumes nothing.
use Rattle.std.specs.Prelude.{ℕ, zero, suc, ◌+◌, ◌-◌, ◌/◌, ◌%◌, ◌^◌, ◌<◌, ◌≤◌, min, max, ◌≡◌, refl, Bool, true, false, not, List, [], ◌∷◌, ◌++◌, ◌⊎◌, T, leb, eqb}
use Rattle.std.proofs.Common.{ap₂, ◌∙◌, inl, inr, ⊎_elim, arith, le→leb, pow_pos}
use Rattle.std.proofs.Math.Nat.{pow-succ'}
use Rattle.std.proofs.lemmas.Bool.{not-true}
use Rattle.std.specs.Int.Bits.{differ, bit_and, bit_or, bit_xor}
use Rattle.std.proofs.Math.Dec.{leb→le}
use Rattle.rules.specs.Selectors.{Item, pattern, between, agree, matches, any_matches}
use Rattle.rules.specs.Faults.Bodies.{patterns_meet, items_meet, meets_any, some_meet_of}
use Rattle.summaries.specs.declared.Summary.{Summary}
use Rattle.summaries.specs.Summaries.{Admits, Open, Apart, Joins, Bounded, AllFit, Tells}
use Rattle.patterns.specs.Laws.Patterns.{Bit, b0, b1, lowest_bit, differ_bit, or_half, or_bit, xor_half, xor_bit}
use Rattle.summaries.specs.Laws.Truth.{both, first, second, left, right, which}
use Rattle.summaries.specs.Fits.{PatternFits, ItemFits}
use Rattle.summaries.specs.Laws.Values.{allows, least, greatest, least_agrees}
use Rattle.summaries.specs.Laws.Exact.{below_two, common_patterns, meet_share}

-- AGREEMENT
-- a mask of n bits leaves all of them free
pub all_free : (n v x : ℕ) → T (agree n v (2 ^ n - 1) x)
unfolding agree
all_free zero v x = tt
all_free (suc n) v x =
    let half_mask : (2 ^ suc n - 1) / 2 ≡ 2 ^ n - 1 = omega (arith, pow-succ' 2 n, pow_pos n) in
    let low_mask : (2 ^ suc n - 1) % 2 ≡ 1 = omega (arith, pow-succ' 2 n, pow_pos n) in
    rw (half_mask, low_mask) (all_free n (v / 2) (x / 2))

-- the bits that a join leaves free
abbrev pub join_free : ℕ → ℕ → ℕ → ℕ → ℕ
join_free v f w g = bit_or (bit_or f g) (bit_xor v w)

abbrev free_bit : ℕ → ℕ → ℕ → ℕ → ℕ
free_bit v f w g = max (max f g) (differ v w)

free_half : (v f w g : ℕ) → join_free v f w g / 2 ≡ join_free (v / 2) (f / 2) (w / 2) (g / 2)
free_half v f w g = or_half (bit_or f g) (bit_xor v w) ∙ ap₂ bit_or (or_half f g) (xor_half v w)

free_bit_lem : (v f w g : ℕ) → join_free v f w g % 2 ≡ free_bit (v % 2) (f % 2) (w % 2) (g % 2)
free_bit_lem v f w g = or_bit (bit_or f g) (bit_xor v w) ∙ ap₂ max (or_bit f g) (xor_bit v w)

free_allows : (f v x : ℕ) → f ≡ 1 → T (allows f v x)
free_allows f v x e = rw e tt

-- a bit that either allows, the join allows
keeps : {v f w g : ℕ} → Bit v → Bit f → Bit w → Bit g → (x : ℕ) → T (allows f v x) ⊎ T (allows g w x) → T (allows (free_bit v f w g) v x)
keeps {v} {w = w} {g = g} p b1 q r x _ = free_allows (free_bit v 1 w g) v x (omega (arith, differ_bit p q, below_two r))
keeps {v} {w = w} p b0 q b1 x _ = free_allows (free_bit v 0 w 1) v x (omega (arith, differ_bit p q))
keeps {v} {w = w} _ b0 _ b0 x (inl h) = right (eqb (free_bit v 0 w 0) 1) (eqb v x) h
keeps b0 b0 b0 b0 x (inr h) = h
keeps b0 b0 b1 b0 x (inr h) = tt
keeps b1 b0 b0 b0 x (inr h) = tt
keeps b1 b0 b1 b0 x (inr h) = h

pub agrees_join : (n v f w g x : ℕ) → T (agree n v f x) ⊎ T (agree n w g x) → T (agree n v (join_free v f w g) x)
unfolding agree
agrees_join zero v f w g x h = tt
agrees_join (suc n) v f w g x h =
    let a = allows (f % 2) (v % 2) (x % 2) in
    let b = allows (g % 2) (w % 2) (x % 2) in
    let p = agree n (v / 2) (f / 2) (x / 2) in
    let q = agree n (w / 2) (g / 2) (x / 2) in
    rw (free_half v f w g, free_bit_lem v f w g)
    (both (allows (free_bit (v % 2) (f % 2) (w % 2) (g % 2)) (v % 2) (x % 2)) (agree n (v / 2) (join_free (v / 2) (f / 2) (w / 2) (g / 2)) (x / 2))
    (keeps (lowest_bit v) (lowest_bit f) (lowest_bit w) (lowest_bit g) (x % 2) (⊎_elim (λ t. inl (first a p t)) (λ t. inr (first b q t)) h))
    (agrees_join n (v / 2) (f / 2) (w / 2) (g / 2) (x / 2) (⊎_elim (λ t. inl (second a p t)) (λ t. inr (second b q t)) h)))

-- TWO SUMMARIES
pub join_summaries : (s t r : Summary) → r.low ≡ min s.low t.low → r.high ≡ max s.high t.high → r.value ≡ s.value
    → r.free ≡ join_free s.value s.free t.value t.free → Joins s t r
join_summaries s t r low high value free =
    record {
      one = λ x a. record { from = omega (arith, a.from); upto = omega (arith, a.upto); agrees = agrees x (inl a.agrees) };
      other = λ x a. record { from = omega (arith, a.from); upto = omega (arith, a.upto); agrees = agrees x (inr a.agrees) };
    }
  where
    agrees : (x : ℕ) → T (agree 64 s.value s.free x) ⊎ T (agree 64 t.value t.free x) → T (agree 64 r.value r.free x)
    agrees x h = rw (value, free) (agrees_join 64 s.value s.free t.value t.free x h)

pub patterns_apart : (s t : Summary) (meet : Bool) → meet ≡ patterns_meet 64 s.value s.free t.value t.free → not meet ≡ true → Apart s t
patterns_apart s t meet e n x l a b =
    let met = common_patterns 64 s.value s.free t.value t.free x (record { short = l; one = a.agrees; other = b.agrees }) in
    rw (← e, not-true meet n) at met

-- ONE ITEM
-- the values of a list of one item
only : (i : Item) (x : ℕ) → T (any_matches (i ∷ []) x) → T (matches i x)
unfolding any_matches
only i x h = ⊎_elim (λ m. m) (λ n. absurd n) (which (matches i x) false h)

-- what is told of an item that matches the value y
one_item : (i : Item) (s : Summary) → ItemFits i → ((x : ℕ) → x < 2 ^ 64 → T (matches i x) → Admits s x) → (y : ℕ) → y < 2 ^ 64 → T (matches i y) → Tells (i ∷ []) s
one_item i s fits each y short here =
    record {
      each = λ x l h. each x l (only i x h);
      known = inl (fits, tt);
      some = record { value = y; short = short; fits = each y short here };
    }

pub tells_pattern : (v f : ℕ) → v + f < 2 ^ 64 → bit_and v f ≡ 0 → Tells (pattern v f ∷ []) (record { low = v; high = v + f; value = v; free = f })
unfolding matches
tells_pattern v f short apart =
    let fits : PatternFits 64 v f = record { value = omega arith; free = omega arith; apart = apart } in
    one_item (pattern v f) _ fits (λ x l h. record { from = least 64 v f x fits h; upto = greatest 64 v f x fits l h; agrees = h }) v fits.value (least_agrees 64 v f)

module _ (l h : ℕ) (bounded : Bounded (between l h)) where
  tells_between : (v f : ℕ) → ((x : ℕ) → l ≤ x → x ≤ h → T (agree 64 v f x)) → Tells (between l h ∷ []) (record { low = l; high = h; value = v; free = f })
  unfolding matches
  tells_between v f agrees =
      one_item (between l h) _ bounded
      (λ x short m.
      let from = leb→le l x (first (leb l x) (leb x h) m) in
      let upto = leb→le x h (second (leb l x) (leb x h) m) in
      record { from = from; upto = upto; agrees = agrees x from upto })
      l (omega arith) (both (leb l l) (leb l h) (le→leb l l (omega arith)) (le→leb l h bounded.0))

  pub tells_value : l ≡ h → Tells (between l h ∷ []) (record { low = l; high = h; value = l; free = 0 })
  tells_value same = tells_between l 0 (λ x from upto. let e : x ≡ l = omega arith in rw e (least_agrees 64 l 0))

  pub tells_range : (v : ℕ) → Tells (between l h ∷ []) (record { low = l; high = h; value = v; free = 2 ^ 64 - 1 })
  tells_range v = tells_between v (2 ^ 64 - 1) (λ x from upto. all_free 64 v x)

pub open_summary : (v : ℕ) → Open (record { low = 0; high = 2 ^ 64 - 1; value = v; free = 2 ^ 64 - 1 })
open_summary v x l = record { from = omega arith; upto = omega arith; agrees = all_free 64 v x }

-- a summary that every value fits tells of any items
pub tells_nothing : (is : List Item) (s : Summary) → Open s → Tells is s
tells_nothing is s all =
    record { each = λ x l h. all x l; known = inr all; some = record { value = 0; short = omega arith; fits = all 0 (omega arith) } }

-- ITEMS
any_append : (is js : List Item) (x : ℕ) → T (any_matches (is ++ js) x) → T (any_matches is x) ⊎ T (any_matches js x)
unfolding any_matches
any_append [] js x h = inr h
any_append (i ∷ is) js x h =
    ⊎_elim
    (λ m. inl (left (matches i x) (any_matches is x) m))
    (λ m. ⊎_elim (λ p. inl (right (matches i x) (any_matches is x) p)) inr (any_append is js x m))
    (which (matches i x) (any_matches (is ++ js) x) h)

fit_append : (is js : List Item) → AllFit is → AllFit js → AllFit (is ++ js)
fit_append [] js p q = q
fit_append (i ∷ is) js p q = (p.0, fit_append is js p.1 q)

-- of no items each summary tells that some value fits
pub starts : {is : List Item} {s : Summary} → Tells is s → Tells [] s
unfolding any_matches
starts t = record { each = λ x l h. absurd h; known = inl tt; some = t.some }

pub joins : (is js : List Item) (s t r : Summary) → Joins s t r → Tells is s → Tells js t → Tells (is ++ js) r
joins is js s t r j p q =
    record {
      each = λ x l h. ⊎_elim (λ m. j.one x (p.each x l m)) (λ m. j.other x (q.each x l m)) (any_append is js x h);
      known = by p.known q.known;
      some = record { value = p.some.value; short = p.some.short; fits = j.one _ p.some.fits };
    }
  where
    by : AllFit is ⊎ Open s → AllFit js ⊎ Open t → AllFit (is ++ js) ⊎ Open r
    by (inl a) (inl b) = inl (fit_append is js a b)
    by (inr a) _ = inr (λ x l. j.one x (a x l))
    by (inl _) (inr b) = inr (λ x l. j.other x (b x l))

-- TWO LISTS
pub record Common (is js : List Item) : Type 0 where
  value : ℕ
  short : value < 2 ^ 64
  one : T (any_matches is value)
  other : T (any_matches js value)

meets_common : (i : Item) (js : List Item) → ItemFits i → AllFit js → T (meets_any i js) → Common (i ∷ []) js
unfolding meets_any any_matches
meets_common i [] p q h = absurd h
meets_common i (j ∷ js) p q h =
    ⊎_elim
    (λ m.
    let r = meet_share i j p q.0 m in
    let x = r.0 in
    record { value = x; short = r.1.short; one = left (matches i x) false r.1.one; other = left (matches j x) (any_matches js x) r.1.other })
    (λ m.
    let c = meets_common i js p q.1 m in
    record { value = c.value; short = c.short; one = c.one; other = right (matches j c.value) (any_matches js c.value) c.other })
    (which (items_meet i j) (meets_any i js) h)

meet_common : (is js : List Item) → AllFit is → AllFit js → T (some_meet_of is js) → Common is js
unfolding some_meet_of any_matches
meet_common [] js p q h = absurd h
meet_common (i ∷ is) js p q h =
    ⊎_elim
    (λ m.
    let c = meets_common i js p.0 q m in
    record { value = c.value; short = c.short; one = left (matches i c.value) (any_matches is c.value) (only i c.value c.one); other = c.other })
    (λ m.
    let c = meet_common is js p.1 q m in
    record { value = c.value; short = c.short; one = right (matches i c.value) (any_matches is c.value) c.one; other = c.other })
    (which (meets_any i js) (some_meet_of is js) h)

untrue : (b : Bool) → (T b → ⊥) → b ≡ false
untrue true n = absurd (n tt)
untrue false n = refl

-- APART: items of which two summaries tell, and no value fits both, have no value in common
pub none_meet : (is js : List Item) (s t : Summary) → Tells is s → Tells js t → Apart s t → some_meet_of is js ≡ false
none_meet is js s t p q apart = untrue (some_meet_of is js) (by p.known q.known)
  where
    by : AllFit is ⊎ Open s → AllFit js ⊎ Open t → T (some_meet_of is js) → ⊥
    by (inl a) (inl b) h = let c = meet_common is js a b h in apart c.value c.short (p.each c.value c.short c.one) (q.each c.value c.short c.other)
    by (inr a) _ h = let o = q.some in apart o.value o.short (a o.value o.short) o.fits
    by (inl _) (inr b) h = let o = p.some in apart o.value o.short o.fits (b o.value o.short)
