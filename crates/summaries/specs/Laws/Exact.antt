-- EXACT: two items meet where both match some value of 64 bits, and only there.
-- Assumes nothing.
use Rattle.std.specs.Prelude.{ℕ, zero, suc, ◌+◌, ◌-◌, ◌*◌, ◌/◌, ◌%◌, ◌^◌, ◌<◌, ◌≤◌, min, max, ◌≡◌, refl, Bool, ◌&&◌, ◌||◌, ◌↔◌, T, leb, eqb}
use Rattle.std.proofs.Common.{◌∙◌, subst, ⊎_elim, arith, leb→le, le→leb, eqb→eq}
use Rattle.std.proofs.Math.Nat.{pow-succ'}
use Rattle.std.proofs.Math.Decide.{dec_lt}
use Rattle.std.proofs.Math.Dec.{eqb_refl}
use Rattle.rules.specs.Selectors.{Item, pattern, between, agree, matches}
use Rattle.rules.specs.Faults.Bodies.{patterns_meet, reaches, items_meet}
use Rattle.patterns.specs.Laws.Patterns.{Bit, b0, b1, lowest_bit}
use Rattle.patterns.specs.Reaches.{may}
use Rattle.patterns.specs.Laws.Reaches.{both_have, neither_has, one_has}
use Rattle.summaries.specs.Laws.Truth.{both, first, second, left, right, which}
use Rattle.summaries.specs.Fits.{PatternFits, ItemFits}
use Rattle.summaries.specs.Laws.Values.{allows, low_fits, by_highest, least, greatest, least_agrees, greatest_agrees, sum_fits, Split, split_low, split_high}

-- TWO PATTERNS
pub record BothAgree (n v f w g x : ℕ) : Type 0 where
  pub short : x < 2 ^ n
  pub one : T (agree n v f x)
  pub other : T (agree n w g x)

-- a bit of a common value
record CommonBit (v f w g : ℕ) : Type 0 where
  bit : ℕ
  is_bit : Bit bit
  one : T (allows f v bit)
  other : T (allows g w bit)

common_bit : {v f w g : ℕ} → Bit v → Bit f → Bit w → Bit g → T (eqb f 1 || (eqb g 1 || eqb v w)) → CommonBit v f w g
common_bit {w = w} {g = g} _ b1 y _ h = record { bit = w; is_bit = y; one = tt; other = right (eqb g 1) (eqb w w) (eqb_refl w) }
common_bit {v = v} x b0 _ b1 h = record { bit = v; is_bit = x; one = eqb_refl v; other = tt }
common_bit b0 b0 b0 b0 h = record { bit = 0; is_bit = b0; one = tt; other = tt }
common_bit b0 b0 b1 b0 h = absurd h
common_bit b1 b0 b0 b0 h = absurd h
common_bit b1 b0 b1 b0 h = record { bit = 1; is_bit = b1; one = tt; other = tt }

bit_common : {v f w g : ℕ} → Bit v → Bit f → Bit w → Bit g → (x : ℕ) → T (allows f v x) → T (allows g w x) → T (eqb f 1 || (eqb g 1 || eqb v w))
bit_common _ b1 _ _ x p q = tt
bit_common _ b0 _ b1 x p q = tt
bit_common b0 b0 b0 b0 x p q = tt
bit_common b1 b0 b1 b0 x p q = tt
bit_common b0 b0 b1 b0 x p q = absurd (omega (arith, eqb→eq 0 x p, eqb→eq 1 x q))
bit_common b1 b0 b0 b0 x p q = absurd (omega (arith, eqb→eq 1 x p, eqb→eq 0 x q))

pub below_two : {x : ℕ} → Bit x → x < 2
below_two b0 = omega arith
below_two b1 = omega arith

patterns_common : (n v f w g : ℕ) → T (patterns_meet n v f w g) → (x : ℕ) × BothAgree n v f w g x
unfolding patterns_meet agree
patterns_common zero v f w g h = (0, record { short = omega arith; one = tt; other = tt })
patterns_common (suc n) v f w g h =
    let here = eqb (f % 2) 1 || (eqb (g % 2) 1 || eqb (v % 2) (w % 2)) in
    let rest = patterns_meet n (v / 2) (f / 2) (w / 2) (g / 2) in
    let c = common_bit (lowest_bit v) (lowest_bit f) (lowest_bit w) (lowest_bit g) (first here rest h) in
    let r = patterns_common n (v / 2) (f / 2) (w / 2) (g / 2) (second here rest h) in
    let x = r.0 * 2 + c.bit in
    let small = below_two c.is_bit in
    let half : x / 2 ≡ r.0 = omega arith in
    let bit : x % 2 ≡ c.bit = omega arith in (
      x,
      record {
        short = let s = r.1.short in omega (arith, pow-succ' 2 n);
        one = rw (half, bit) (both (allows (f % 2) (v % 2) c.bit) (agree n (v / 2) (f / 2) r.0) c.one r.1.one);
        other = rw (half, bit) (both (allows (g % 2) (w % 2) c.bit) (agree n (w / 2) (g / 2) r.0) c.other r.1.other);
      },
    )

pub common_patterns : (n v f w g x : ℕ) → BothAgree n v f w g x → T (patterns_meet n v f w g)
unfolding patterns_meet agree
common_patterns zero v f w g x c = tt
common_patterns (suc n) v f w g x c =
    let a = allows (f % 2) (v % 2) (x % 2) in
    let b = allows (g % 2) (w % 2) (x % 2) in
    let p = agree n (v / 2) (f / 2) (x / 2) in
    let q = agree n (w / 2) (g / 2) (x / 2) in
    let s = c.short in
    both (eqb (f % 2) 1 || (eqb (g % 2) 1 || eqb (v % 2) (w % 2))) (patterns_meet n (v / 2) (f / 2) (w / 2) (g / 2))
    (bit_common (lowest_bit v) (lowest_bit f) (lowest_bit w) (lowest_bit g) (x % 2) (first a p c.one) (first b q c.other))
    (common_patterns n (v / 2) (f / 2) (w / 2) (g / 2) (x / 2)
    (record { short = omega (arith, pow-succ' 2 n); one = second a p c.one; other = second b q c.other }))

-- A PATTERN AND A RANGE
pub record Within (n v f l h x : ℕ) : Type 0 where
  pub short : x < 2 ^ n
  pub agrees : T (agree n v f x)
  pub from : l ≤ x
  pub upto : x ≤ h

-- the n lowest bits
abbrev low : ℕ → ℕ → ℕ
low n x = x % 2 ^ n

-- both ways of the law, for n bits
abbrev Found : ℕ → Type 0
Found n = (v f l h : ℕ) → PatternFits n v f → l ≤ h → h < 2 ^ n → T (reaches n v f l h) → (x : ℕ) × Within n v f l h x

abbrev Needed : ℕ → Type 0
Needed n = (v f l h : ℕ) → PatternFits n v f → (x : ℕ) → Within n v f l h x → T (reaches n v f l h)

module _ (n v f l h : ℕ) (p : PatternFits (suc n) v f) where
  abbrev fits : PatternFits n (low n v) (low n f)
  fits = low_fits n v f p

  -- a value by its highest bit and the others
  agrees_split : {x b y : ℕ} → Split n x b y → agree (suc n) v f x ≡ may b n v f && agree n (low n v) (low n f) y
  agrees_split {x} s = by_highest n v f x ∙ rw (s.bit, s.others) refl

  agrees_join : {x b y : ℕ} → Split n x b y → T (may b n v f) → T (agree n (low n v) (low n f) y) → T (agree (suc n) v f x)
  agrees_join {x} {b} {y} s m a = rw (agrees_split s) (both (may b n v f) (agree n (low n v) (low n f) y) m a)

  -- what the highest bit leaves
  abbrev rest : ℕ → ℕ → Bool
  rest from upto = reaches n (low n v) (low n f) from upto

  abbrev without : Bool
  without = may 0 n v f && leb l (low n v + low n f)

  abbrev with : Bool
  with = may 1 n v f && leb (low n v) (h - 2 ^ n)

  module _ (le : l ≤ h) (lt : h < 2 ^ suc n) (inner : Found n) where
    found_high : 2 ^ n ≤ l → T (reaches (suc n) v f l h) → (x : ℕ) × Within (suc n) v f l h x
    found_high q t =
        let u = rw (both_have n v f l h q) at t in
        let r = inner (low n v) (low n f) (l - 2 ^ n) (h - 2 ^ n) fits (omega arith) (omega (arith, pow-succ' 2 n))
        (second (may 1 n v f) (rest (l - 2 ^ n) (h - 2 ^ n)) u) in
        let w = r.1 in (
          2 ^ n + r.0,
          record {
            short = omega (arith, pow-succ' 2 n, w.short);
            agrees = agrees_join (split_high n r.0 w.short) (first (may 1 n v f) (rest (l - 2 ^ n) (h - 2 ^ n)) u) w.agrees;
            from = omega (arith, w.from);
            upto = omega (arith, w.upto);
          },
        )

    found_low : l < 2 ^ n → h < 2 ^ n → T (reaches (suc n) v f l h) → (x : ℕ) × Within (suc n) v f l h x
    found_low q s t =
        let u = rw (neither_has n v f l h q s) at t in
        let r = inner (low n v) (low n f) l h fits le s (second (may 0 n v f) (rest l h) u) in
        let w = r.1 in (
          r.0,
          record {
            short = omega (arith, pow-succ' 2 n, w.short);
            agrees = agrees_join (split_low n r.0 w.short) (first (may 0 n v f) (rest l h) u) w.agrees;
            from = w.from;
            upto = w.upto;
          },
        )

    found_one : l < 2 ^ n → 2 ^ n ≤ h → T (reaches (suc n) v f l h) → (x : ℕ) × Within (suc n) v f l h x
    found_one q s t =
        let a = fits.value in
        let b = sum_fits n (low n v) (low n f) fits in
        ⊎_elim
        (λ u. (
          low n v + low n f,
          record {
            short = omega (arith, pow-succ' 2 n);
            agrees = agrees_join (split_low n (low n v + low n f) b) (first (may 0 n v f) (leb l (low n v + low n f)) u) (greatest_agrees n (low n v) (low n f) fits);
            from = leb→le l (low n v + low n f) (second (may 0 n v f) (leb l (low n v + low n f)) u);
            upto = omega arith;
          },
        ))
        (λ u. (
          2 ^ n + low n v,
          record {
            short = omega (arith, pow-succ' 2 n);
            agrees = agrees_join (split_high n (low n v) a) (first (may 1 n v f) (leb (low n v) (h - 2 ^ n)) u) (least_agrees n (low n v) (low n f));
            from = omega arith;
            upto = omega (arith, leb→le (low n v) (h - 2 ^ n) (second (may 1 n v f) (leb (low n v) (h - 2 ^ n)) u));
          },
        ))
        (which without with (rw (one_has n v f l h q s) at t))

  module _ (x : ℕ) (w : Within (suc n) v f l h x) (inner : Needed n) where
    -- x has the highest bit, or has not
    module _ (q : 2 ^ n ≤ x) where
      high_agrees : T (may 1 n v f && agree n (low n v) (low n f) (x - 2 ^ n))
      high_agrees =
          let e : x ≡ 2 ^ n + (x - 2 ^ n) = omega arith in
          let s = w.short in
          rw (agrees_split (split_high n (x - 2 ^ n) (omega (arith, pow-succ' 2 n)))) at (subst (λ y. T (agree (suc n) v f y)) e w.agrees)

      may_have : T (may 1 n v f)
      may_have = first (may 1 n v f) (agree n (low n v) (low n f) (x - 2 ^ n)) high_agrees

      within_high : Within n (low n v) (low n f) (l - 2 ^ n) (h - 2 ^ n) (x - 2 ^ n)
      within_high =
          let a = w.short in
          let b = w.from in
          let c = w.upto in
          record {
            short = omega (arith, pow-succ' 2 n);
            agrees = second (may 1 n v f) (agree n (low n v) (low n f) (x - 2 ^ n)) high_agrees;
            from = omega arith;
            upto = omega arith;
          }

    module _ (q : x < 2 ^ n) where
      low_agrees : T (may 0 n v f && agree n (low n v) (low n f) x)
      low_agrees = rw (agrees_split (split_low n x q)) at w.agrees

      may_lack : T (may 0 n v f)
      may_lack = first (may 0 n v f) (agree n (low n v) (low n f) x) low_agrees

      within_low : Within n (low n v) (low n f) l h x
      within_low = record { short = q; agrees = second (may 0 n v f) (agree n (low n v) (low n f) x) low_agrees; from = w.from; upto = w.upto }

    needed_high : 2 ^ n ≤ l → T (reaches (suc n) v f l h)
    needed_high q =
        let s = w.from in
        let over : 2 ^ n ≤ x = omega arith in
        rw (both_have n v f l h q)
        (both (may 1 n v f) (rest (l - 2 ^ n) (h - 2 ^ n)) (may_have over)
        (inner (low n v) (low n f) (l - 2 ^ n) (h - 2 ^ n) fits (x - 2 ^ n) (within_high over)))

    needed_low : l < 2 ^ n → h < 2 ^ n → T (reaches (suc n) v f l h)
    needed_low q r =
        let s = w.upto in
        let under : x < 2 ^ n = omega arith in
        rw (neither_has n v f l h q r) (both (may 0 n v f) (rest l h) (may_lack under) (inner (low n v) (low n f) l h fits x (within_low under)))

    needed_one : l < 2 ^ n → 2 ^ n ≤ h → Dec (x < 2 ^ n) → T (reaches (suc n) v f l h)
    needed_one q r (yes under) =
        let i = within_low under in
        let most = greatest n (low n v) (low n f) x fits under i.agrees in
        rw (one_has n v f l h q r)
        (left without with (both (may 0 n v f) (leb l (low n v + low n f)) (may_lack under) (le→leb l (low n v + low n f) (omega (arith, w.from)))))
    needed_one q r (no nunder) =
        let over : 2 ^ n ≤ x = omega arith in
        let i = within_high over in
        let fewest = least n (low n v) (low n f) (x - 2 ^ n) fits i.agrees in
        rw (one_has n v f l h q r)
        (right without with (both (may 1 n v f) (leb (low n v) (h - 2 ^ n)) (may_have over) (le→leb (low n v) (h - 2 ^ n) (omega (arith, i.upto)))))

  -- by the cases of the bounds
  found_by : Dec (l < 2 ^ n) → Dec (h < 2 ^ n) → l ≤ h → h < 2 ^ suc n → Found n → T (reaches (suc n) v f l h) → (x : ℕ) × Within (suc n) v f l h x
  found_by (no q) _ le lt inner = found_high le lt inner (omega arith)
  found_by (yes q) (yes r) le lt inner = found_low le lt inner q r
  found_by (yes q) (no r) le lt inner = found_one le lt inner q (omega arith)

  needed_by : Dec (l < 2 ^ n) → Dec (h < 2 ^ n) → (x : ℕ) → Within (suc n) v f l h x → Needed n → T (reaches (suc n) v f l h)
  needed_by (no q) _ x w inner = needed_high x w inner (omega arith)
  needed_by (yes q) (yes r) x w inner = needed_low x w inner q r
  needed_by (yes q) (no r) x w inner = needed_one x w inner q (omega arith) (dec_lt x (2 ^ n))

found : (n : ℕ) → Found n
unfolding reaches agree
found zero v f l h p le lt t = (0, record { short = omega arith; agrees = tt; from = leb→le l 0 t; upto = omega arith })
found (suc n) v f l h p le lt t = found_by n v f l h p (dec_lt l (2 ^ n)) (dec_lt h (2 ^ n)) le lt (found n) t

needed : (n : ℕ) → Needed n
unfolding reaches
needed zero v f l h p x w = le→leb l 0 (let s = w.short in let b = w.from in omega arith)
needed (suc n) v f l h p x w = needed_by n v f l h p (dec_lt l (2 ^ n)) (dec_lt h (2 ^ n)) x w (needed n)

-- ITEMS
pub record Shared (a b : Item) (x : ℕ) : Type 0 where
  pub short : x < 2 ^ 64
  pub one : T (matches a x)
  pub other : T (matches b x)

ranges_share : (l h m k : ℕ) → h < 2 ^ 64 → T (leb (max l m) (min h k)) → (x : ℕ) × Shared (between l h) (between m k) x
unfolding matches
ranges_share l h m k s t =
    let x = max l m in
    let le = leb→le x (min h k) t in (
      x,
      record {
        short = omega arith;
        one = both (leb l x) (leb x h) (le→leb l x (omega arith)) (le→leb x h (omega arith));
        other = both (leb m x) (leb x k) (le→leb m x (omega arith)) (le→leb x k (omega arith));
      },
    )

shared_ranges : (l h m k x : ℕ) → Shared (between l h) (between m k) x → T (leb (max l m) (min h k))
unfolding matches
shared_ranges l h m k x s =
    le→leb (max l m) (min h k)
    (omega (
      arith,
      leb→le l x (first (leb l x) (leb x h) s.one),
      leb→le x h (second (leb l x) (leb x h) s.one),
      leb→le m x (first (leb m x) (leb x k) s.other),
      leb→le x k (second (leb m x) (leb x k) s.other),
    ))

-- a value within a range of a pattern
within_shared : (v f l h x : ℕ) → Within 64 v f l h x → Shared (pattern v f) (between l h) x
unfolding matches
within_shared v f l h x w =
    record { short = w.short; one = w.agrees; other = both (leb l x) (leb x h) (le→leb l x w.from) (le→leb x h w.upto) }

shared_within : (v f l h x : ℕ) → Shared (pattern v f) (between l h) x → Within 64 v f l h x
unfolding matches
shared_within v f l h x s =
    record {
      short = s.short;
      agrees = s.one;
      from = leb→le l x (first (leb l x) (leb x h) s.other);
      upto = leb→le x h (second (leb l x) (leb x h) s.other);
    }

turned : {a b : Item} {x : ℕ} → Shared a b x → Shared b a x
turned s = record { short = s.short; one = s.other; other = s.one }

pub meet_share : (a b : Item) → ItemFits a → ItemFits b → T (items_meet a b) → (x : ℕ) × Shared a b x
unfolding items_meet matches
meet_share (pattern v f) (pattern w g) p q t =
    let r = patterns_common 64 v f w g t in
    (r.0, record { short = r.1.short; one = r.1.one; other = r.1.other })
meet_share (pattern v f) (between l h) p q t = let r = found 64 v f l h p q.0 q.1 t in (r.0, within_shared v f l h r.0 r.1)
meet_share (between l h) (pattern v f) p q t = let r = found 64 v f l h q p.0 p.1 t in (r.0, turned (within_shared v f l h r.0 r.1))
meet_share (between l h) (between m k) p q t = ranges_share l h m k p.1 t

pub share_meet : (a b : Item) → ItemFits a → ItemFits b → (x : ℕ) → Shared a b x → T (items_meet a b)
unfolding items_meet matches
share_meet (pattern v f) (pattern w g) p q x s = common_patterns 64 v f w g x (record { short = s.short; one = s.one; other = s.other })
share_meet (pattern v f) (between l h) p q x s = needed 64 v f l h p x (shared_within v f l h x s)
share_meet (between l h) (pattern v f) p q x s = needed 64 v f l h q x (shared_within v f l h x (turned s))
share_meet (between l h) (between m k) p q x s = shared_ranges l h m k x s

pub exact : (a b : Item) → ItemFits a → ItemFits b → T (items_meet a b) ↔ ((x : ℕ) × Shared a b x)
exact a b p q = (meet_share a b p q, λ r. share_meet a b p q r.0 r.1)
