-- Laws of the length of an access: by the names of its bits it is the one that the rules give, and it fits.
-- Assumes nothing.
use Rattle.std.specs.Prelude.{ℕ, ◌<◌, ◌≤◌, min, max, ◌≡◌, refl, Bool, true, false, not, leb, ltb, Some, None, is_none, unwrap_or}
use Rattle.std.proofs.Math.Option.{Option, none, some}
use Rattle.std.proofs.Common.{arith, ltb-false, leb-true}
use Rattle.rules.specs.Limits.{most_bits}
use Rattle.rules.specs.Grammar.Trees.{bit, upto, Bits, all_bits, bits}
use Rattle.rules.specs.Declarations.{Names as Span-of, names, how_many, BitNames, one_unnamed, these, bit_count, main_names}
use Rattle.rules.specs.Faults.Fault.{when}
use Rattle.rules.specs.Faults.Declared.{among, inside, large_bits, far_names}
use Rattle.rules.specs.Faults.Bodies.{judged_as, bits_judged}
use Rattle.table.specs.Bits.{access_bits}
use Rattle.table.specs.Shown.{shown_bits}
use Rattle.table.specs.declared.views.Names.{Names}
use Rattle.table.specs.declared.views.Names.TheVariants.{Missing, Unnamed, Span}
use Rattle.accesses.specs.Laws.Tests.{both_true, either_false}
use Rattle.accesses.specs.Lengths.{Short, kept, part_length, access_length}

pub shown_short : (b : Option BitNames) → large_bits b ≡ false → Short (shown_bits b)
shown_short none e = tt
shown_short (some one_unnamed) e = tt
shown_short (some (these s)) e =
    let q = either_false (ltb most_bits (how_many s)) (far_names s) e in
    (ltb-false _ _ q.0, ltb-false _ _ q.1)

pub how_many_some : (s : Span-of) → 0 < how_many s
unfolding how_many
how_many_some s = omega arith

-- bits inside others are no more than they
among_within : (s : Span-of) (n : ℕ) → among s n ≡ true → (min s.left s.right ≤ n) × (n ≤ max s.left s.right)
unfolding among
among_within s n e = let q = both_true (leb (min s.left s.right) n) (leb n (max s.left s.right)) e in (leb-true _ _ q.0, leb-true _ _ q.1)

pub inside_fewer : (s t : Span-of) → inside (these s) t ≡ true → how_many t ≤ how_many s
unfolding inside how_many
inside_fewer s t e =
    let q = both_true (among s t.left) _ e in
    let l = among_within s t.left q.0 in
    let r = among_within s t.right (both_true (among s t.right) _ q.1).0 in
    omega arith

never : {A : Type 0} → ◌≡◌ {A = ℕ} 0 1 → A
never e = absurd (omega arith)

-- 42 where there is no length
named_judged : (p : ℕ) (b : BitNames) (s : Span-of)
    → judged_as (when (not (inside b s)) 42 p) (how_many s)
    ≡ judged_as (when (is_none (part_length (shown_bits (some b)) s.left s.right)) 42 p) (unwrap_or (part_length (shown_bits (some b)) s.left s.right) 0)
unfolding inside
named_judged p one_unnamed s = refl
named_judged p (these b) s = go (inside (these b) s)
  where
    go : (t : Bool) → judged_as (when (not t) 42 p) (how_many s)
        ≡ judged_as (when (is_none (kept t (how_many s))) 42 p) (unwrap_or (kept t (how_many s)) 0)
    go true = refl
    go false = refl

pub bits_judged_lem : (p : ℕ) (b : BitNames) (x : Bits) → let n = access_length (shown_bits (some b)) (shown_bits (main_names (access_bits x))) in
    bits_judged p b x ≡ judged_as (when (is_none n) 42 p) (unwrap_or n 0)
unfolding bit_count
bits_judged_lem p one_unnamed all_bits = refl
bits_judged_lem p (these s) all_bits = refl
bits_judged_lem p b (bits l n (bit g)) = named_judged p b (names n.value n.value)
bits_judged_lem p b (bits l n (upto c m g)) = named_judged p b (names n.value m.value)

-- a length is a number of bits, and fits where the declared bits do
pub access_fits : (own given : Names) → Short own → {n : ℕ} → access_length own given ≡ Some n → (0 < n) × (n ≤ most_bits)
access_fits Missing Missing h e = never (cc)
access_fits Missing Unnamed h e = never (cc)
access_fits Missing (Span l r) h e = never (cc)
access_fits Unnamed Missing h {n} e = let q : 1 ≡ n = cc in (omega arith, omega arith)
access_fits Unnamed Unnamed h e = never (cc)
access_fits Unnamed (Span l r) h e = never (cc)
access_fits (Span a b) Missing h {n} e = let q : how_many (names a b) ≡ n = cc in (omega (arith, how_many_some (names a b)), omega (arith, h.0))
access_fits (Span a b) Unnamed h e = never (cc)
access_fits (Span a b) (Span l r) h {n} e = go (inside (these (names a b)) (names l r)) (inside_fewer (names a b) (names l r)) e
  where
    go : (t : Bool) → (t ≡ true → how_many (names l r) ≤ how_many (names a b)) → kept t (how_many (names l r)) ≡ Some n
        → (0 < n) × (n ≤ most_bits)
    go true f e = let q : how_many (names l r) ≡ n = cc in (omega (arith, how_many_some (names l r)), omega (arith, f refl, h.0))
    go false f e = never (cc)
