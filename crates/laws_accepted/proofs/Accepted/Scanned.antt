-- The scan gives constants of 1 to 64 bits, each with a value of its length; one without `?` leaves no bit free.
use Rattle.std.specs.Prelude.{ℕ, zero, suc, ◌+◌, ◌-◌, ◌*◌, ◌^◌, ◌≤◌, ◌<◌, ◌≡◌, refl, Bool, true, false, ◌&&◌, ◌||◌, List, [], ◌∷◌, map, ◌⊎◌, eqb, leb, ltb, length, take, get_or}
use Rattle.std.proofs.Common.{sym, ◌∙◌, ap, inl, inr, mul-suc, arith, pow_pos, pow-add, ltb-true, leb-true, eqb-true}
use Rattle.std.proofs.lemmas.Bool.{false≢true}
use Rattle.std.proofs.Math.Option.{some}
use Rattle.std.proofs.Math.Nat.{one-le-mul}
use Rattle.std.proofs.Math.Arith.{digits_lt}
use Rattle.rules.specs.Text.Bytes.{Class, class_of, leading, fold, in_name, in_constant}
use Rattle.rules.specs.Text.Bytes.{forbidden, blank, exclamation, letter, digit, dot, prefix, query, mark, other}
use Rattle.rules.specs.Text.Tokens.{Kind, Const, Token, tk, Spelling, keywords, marks, same, kind_no}
use Rattle.rules.specs.Text.Constants.{Constant, malformed, constant, is_query, is_digit_of, is_based_digit, all, any, digit_bits, digit_value, value_from, free_digit, free_from, bits_from, decimal_bits, decimal, based}
use Rattle.rules.specs.Limits.{longest_name, most_tokens}
use Rattle.rules.specs.Text.Scan.{Lexeme, no_lexeme, token, bad_lexeme, word_kind, mark_at, word_lexeme, constant_lexeme, masked_kind, mark_lexeme, lexeme_by, lexeme, Scan, scan_from, scan, same_bytes, word_info, followed, scan_end, refuse}
use Rattle.rules.specs.Grammar.Trees.{Tokens}
use Rattle.laws_orders.proofs.Orders.Tests.{impossible, or_neither, or_either}
use Rattle.laws_accepted.proofs.Accepted.Named.{and_both}
use Rattle.laws_accepted.specs.Cited.Constants.{InBits}
use Rattle.laws_accepted.proofs.Accepted.Constants.{ConstantOk, ConstantsOk}

-- m bits, from k to n, that hold v
record Holding (k n v m : ℕ) : Type 0 where
  least : k ≤ m
  most : m ≤ n
  fits : v < 2 ^ m

bits_from_lem : (n k v : ℕ) → v < 2 ^ (k + n) → Holding k (k + n) v (bits_from n k v)
unfolding bits_from
bits_from_lem zero k v h = let e : k + 0 ≡ k = omega arith in record { least = omega arith; most = omega arith; fits = rw e at h }
bits_from_lem (suc n) k v h = let e : k + suc n ≡ k + 1 + n = omega arith in by (ltb v (2 ^ k)) refl (bits_from_lem n (k + 1) v (rw e at h))
  where
    by :
        (b : Bool) → ltb v (2 ^ k) ≡ b → Holding (k + 1) (k + 1 + n) v (bits_from n (k + 1) v)
        → Holding k (k + suc n) v (elim b [ true ↦ k | false ↦ bits_from n (k + 1) v ])
    by true e r = record { least = omega arith; most = omega arith; fits = ltb-true v (2 ^ k) e }
    by false e r = record { least = omega (arith, r.least); most = omega (arith, r.most); fits = r.fits }

-- what the digits of a constant come to, if they come to anything
abbrev Sound : Constant → Type 0
Sound malformed = Unit {0}
Sound (constant v f b) = InBits b v

decimal_sound : (ds : List ℕ) → Sound (decimal ds)
unfolding decimal decimal_bits
decimal_sound ds = by (all (is_digit_of 10) ds && ltb (value_from 10 0 ds) (2 ^ 64)) refl
  where
    v : ℕ
    v = value_from 10 0 ds

    by : (b : Bool) → (all (is_digit_of 10) ds && ltb v (2 ^ 64)) ≡ b → Sound (elim b [ true ↦ constant v 0 (bits_from 63 1 v) | false ↦ malformed ])
    by true e =
        let r = bits_from_lem 63 1 v (ltb-true v (2 ^ 64) (and_both (all (is_digit_of 10) ds) (ltb v (2 ^ 64)) e).1) in
        record { length = record { some = r.least; short = r.most }; fits = r.fits }
    by false e = tt

-- a digit of n bits; `?` counts as 0
based_digit : (n b : ℕ) → is_based_digit (2 ^ n) b ≡ true → digit_value b < 2 ^ n
unfolding is_based_digit is_digit_of digit_value fold
based_digit n b e = by (or_either (is_query b) (is_digit_of (2 ^ n) b) e)
  where
    by : (is_query b ≡ true) ⊎ (is_digit_of (2 ^ n) b ≡ true) → digit_value b < 2 ^ n
    by (inl q) = rw (eqb-true b 63 q) (pow_pos n)
    by (inr q) = ltb-true (digit_value b) (2 ^ n) (and_both (leb 48 b && leb b 57 || leb 65 (fold b) && leb (fold b) 70) (ltb (digit_value b) (2 ^ n)) q).1

digits_fit :
    (n : ℕ) (ds : List ℕ) (v m : ℕ) → all (is_based_digit (2 ^ n)) ds ≡ true → v < 2 ^ m → value_from (2 ^ n) v ds < 2 ^ (m + n * length ds)
unfolding all value_from
digits_fit n [] v m e h = let z : m + n * 0 ≡ m = omega arith in rw z h
digits_fit n (b ∷ ds) v m e h =
    let d = and_both (is_based_digit (2 ^ n) b) (all (is_based_digit (2 ^ n)) ds) e in
    let z : m + n * suc (length ds) ≡ m + n + n * length ds = omega (arith, mul-suc n (length ds)) in
    let one : v * 2 ^ n + digit_value b < 2 ^ (m + n) = rw pow-add (digits_lt h (based_digit n b d.0)) in
    rw z (digits_fit n ds (v * 2 ^ n + digit_value b) (m + n) d.1 one)

based_sound : (n : ℕ) (ds : List ℕ) → 1 ≤ n → Sound (based n ds)
unfolding based
based_sound n ds h = by (all (is_based_digit (2 ^ n)) ds && (ltb 0 (length ds) && leb (n * length ds) 64)) refl
  where
    by :
        (b : Bool) → (all (is_based_digit (2 ^ n)) ds && (ltb 0 (length ds) && leb (n * length ds) 64)) ≡ b
        → Sound (elim b [ true ↦ constant (value_from (2 ^ n) 0 ds) (free_from (2 ^ n) 0 ds) (n * length ds) | false ↦ malformed ])
    by true e =
        let p = and_both (all (is_based_digit (2 ^ n)) ds) (ltb 0 (length ds) && leb (n * length ds) 64) e in
        let q = and_both (ltb 0 (length ds)) (leb (n * length ds) 64) p.1 in
        let z : 0 + n * length ds ≡ n * length ds = omega arith in
        record {
          length = record { some = one-le-mul h (ltb-true 0 (length ds) q.0); short = leb-true (n * length ds) 64 q.1 };
          fits = rw z at (digits_fit n ds 0 0 p.0 (omega arith));
        }
    by false e = tt

-- digits without `?`
abbrev Fixed : Constant → Type 0
Fixed malformed = Unit {0}
Fixed (constant v f b) = f ≡ 0

decimal_fixed : (ds : List ℕ) → Fixed (decimal ds)
unfolding decimal
decimal_fixed ds = by (all (is_digit_of 10) ds && ltb (value_from 10 0 ds) (2 ^ 64))
  where
    by : (b : Bool) → Fixed (elim b [ true ↦ constant (value_from 10 0 ds) 0 (decimal_bits (value_from 10 0 ds)) | false ↦ malformed ])
    by true = refl
    by false = tt

none_free : (base : ℕ) (ds : List ℕ) → any is_query ds ≡ false → free_from base 0 ds ≡ 0
unfolding any free_from free_digit
none_free base [] e = refl
none_free base (d ∷ ds) e =
    let n = or_neither (is_query d) (any is_query ds) e in
    let none_here : free_digit base d ≡ 0 = ap (λ (q : Bool). elim q [ true ↦ base - 1 | false ↦ 0 ]) n.0 in
    let still : 0 * base + free_digit base d ≡ 0 = omega arith in
    ap (λ v. free_from base v ds) still ∙ none_free base ds n.1

based_fixed : (n : ℕ) (ds : List ℕ) → masked_kind (any is_query ds) ≡ Const → Fixed (based n ds)
unfolding based
based_fixed n ds k = by (all (is_based_digit (2 ^ n)) ds && (ltb 0 (length ds) && leb (n * length ds) 64))
  where
    none : (b : Bool) → any is_query ds ≡ b → masked_kind b ≡ Const → any is_query ds ≡ false
    none true e q = absurd (omega (arith, ap kind_no q))
    none false e q = e

    by : (b : Bool) → Fixed (elim b [ true ↦ constant (value_from (2 ^ n) 0 ds) (free_from (2 ^ n) 0 ds) (n * length ds) | false ↦ malformed ])
    by true = none_free (2 ^ n) ds (none (any is_query ds) refl k)
    by false = tt

some_digit_bits : (b : ℕ) → 1 ≤ digit_bits b
unfolding digit_bits
some_digit_bits b = by (eqb b 39) (eqb b 35)
  where
    by : (x y : Bool) → 1 ≤ (elim x [ true ↦ 1 | false ↦ elim y [ true ↦ 3 | false ↦ 4 ] ])
    by true y = omega arith
    by false true = omega arith
    by false false = omega arith

-- no keyword and no mark is a constant
abbrev any_const : List Spelling → Bool
any_const [] = false
any_const (s ∷ ss) = same s.kind Const || any_const ss

not_const : (s : Spelling) → same s.kind Const ≡ false → s.kind ≡ Const → ⊥
not_const s e q = false≢true (sym e ∙ ap (λ k. same k Const) q)

abbrev pub TokenOk : Token → Type 0
TokenOk t = t.kind ≡ Const → ConstantOk t.info × (t.info.free ≡ 0)

abbrev TokensOk : Tokens → Type 0
TokensOk [] = Unit {0}
TokensOk (t ∷ ts) = TokenOk t × TokensOk ts

abbrev LexemeOk : Lexeme → Type 0
LexemeOk (no_lexeme n) = Unit {0}
LexemeOk (token n t) = TokenOk t
LexemeOk (bad_lexeme m) = Unit {0}

word_kind_lem : (ss : List Spelling) (w : List ℕ) → any_const ss ≡ false → word_kind ss w ≡ Const → ⊥
unfolding word_kind
word_kind_lem [] w e q = impossible (cc)
word_kind_lem (s ∷ ss) w e q =
    let n = or_neither (same s.kind Const) (any_const ss) e in by (same_bytes s.written w) (not_const s n.0) (word_kind_lem ss w n.1) q
  where
    by : (b : Bool) → (s.kind ≡ Const → ⊥) → (word_kind ss w ≡ Const → ⊥) → (elim b [ true ↦ s.kind | false ↦ word_kind ss w ]) ≡ Const → ⊥
    by true f g z = f z
    by false f g z = g z

word_ok : (p : ℕ) (bs : List ℕ) → LexemeOk (word_lexeme p bs)
unfolding word_lexeme
word_ok p bs = by (leb (length bs) longest_name)
  where
    by :
        (b : Bool)
        → LexemeOk (elim b [ true ↦ token (length bs - 1) (tk (word_kind keywords (map fold bs)) (word_info p (map fold bs))) | false ↦ bad_lexeme 11 ])
    by true = λ e. absurd (word_kind_lem keywords (map fold bs) refl e)
    by false = tt

mark_ok : (ss : List Spelling) (p : ℕ) (bs : List ℕ) → any_const ss ≡ false → LexemeOk (mark_lexeme p (mark_at ss bs))
unfolding mark_lexeme mark_at
mark_ok [] p bs e = tt
mark_ok (s ∷ ss) p bs e =
    let n = or_neither (same s.kind Const) (any_const ss) e in
    by (same_bytes s.written (take (length s.written) bs)) (not_const s n.0) (mark_ok ss p bs n.1)
  where
    by : (b : Bool) → (s.kind ≡ Const → ⊥) → LexemeOk (mark_lexeme p (mark_at ss bs)) → LexemeOk (mark_lexeme p (elim b [ true ↦ some s | false ↦ mark_at ss bs ]))
    by true f g = λ z. absurd (f z)
    by false f g = g

constant_ok : (p n : ℕ) (k : Kind) (c : Constant) → Sound c → (k ≡ Const → Fixed c) → LexemeOk (constant_lexeme p n k c)
unfolding constant_lexeme
constant_ok p n k malformed s f = tt
constant_ok p n k (constant v f b) s g = λ e. (s, g e)

lexeme_ok : (c : Class) (p b : ℕ) (bs : List ℕ) → LexemeOk (lexeme_by c p b bs)
unfolding lexeme_by
lexeme_ok forbidden p b bs = tt
lexeme_ok blank p b bs = tt
lexeme_ok exclamation p b bs = tt
lexeme_ok letter p b bs = word_ok p (leading in_name (b ∷ bs))
lexeme_ok digit p b bs =
    let ds = leading in_constant (b ∷ bs) in constant_ok p (length (leading in_constant bs)) Const (decimal ds) (decimal_sound ds) (λ e. decimal_fixed ds)
lexeme_ok dot p b bs = tt
lexeme_ok prefix p b bs =
    let ds = leading in_constant bs in
    constant_ok p (length ds) (masked_kind (any is_query ds)) (based (digit_bits b) ds) (based_sound (digit_bits b) ds (some_digit_bits b))
    (based_fixed (digit_bits b) ds)
lexeme_ok query p b bs = tt
lexeme_ok mark p b bs = mark_ok marks p (b ∷ bs) refl
lexeme_ok other p b bs = tt

scan_from_ok : (bs : List ℕ) (p k n : ℕ) → TokensOk (scan_from p k n bs).tokens
unfolding scan_from lexeme
scan_from_ok [] p k n = tt
scan_from_ok (b ∷ bs) p k (suc n) = scan_from_ok bs (p + 1) k n
scan_from_ok (b ∷ bs) p k zero = by (lexeme p b bs) (lexeme_ok (class_of b) p b bs) (scan_from_ok bs (p + 1))
  where
    taken :
        (c : Bool) (n : ℕ) (t : Token) → TokenOk t → TokensOk (scan_from (p + 1) (k - 1) n bs).tokens
        → TokensOk (elim c as (λ x. Scan) [ true ↦ followed t (scan_from (p + 1) (k - 1) n bs) | false ↦ scan_end (refuse 13 p) ]).tokens
    taken true n t q r = (q, r)
    taken false n t q r = tt

    by :
        (l : Lexeme) → LexemeOk l → ((k n : ℕ) → TokensOk (scan_from (p + 1) k n bs).tokens)
        → TokensOk (elim l as (λ x. Scan) [
          | no_lexeme n ↦ scan_from (p + 1) k n bs
          | token n t ↦ elim (ltb 0 k) [ true ↦ followed t (scan_from (p + 1) (k - 1) n bs) | false ↦ scan_end (refuse 13 p) ]
          | bad_lexeme m ↦ scan_end (refuse m p)
        ]).tokens
    by (no_lexeme n) q r = r k n
    by (token n t) q r = taken (ltb 0 k) n t q (r (k - 1) n)
    by (bad_lexeme m) q r = tt

constants_ok : (ts : Tokens) → TokensOk ts → ConstantsOk ts
constants_ok [] h = tt
constants_ok (t ∷ ts) h = (λ e. (h.0 e).0, constants_ok ts h.1)

-- "lengths 1, 3 and 4 bits a digit. A decimal takes the fewest bits that hold it": of the tokens of any text
pub scanned_ok : (text : List ℕ) → ConstantsOk (scan text).tokens
unfolding scan
scanned_ok text = constants_ok (scan_from 0 most_tokens 0 text).tokens (scan_from_ok text 0 most_tokens 0)

-- by their numbers
each_ok : (ts : Tokens) → TokensOk ts → (past : Token) (i : ℕ) → i < length ts → TokenOk (get_or ts i past)
each_ok [] h past i l = absurd (omega arith)
each_ok (t ∷ ts) h past zero l = h.0
each_ok (t ∷ ts) h past (suc i) l = each_ok ts h.1 past i (omega arith)

pub scanned_each : (text : List ℕ) (past : Token) (i : ℕ) → i < length (scan text).tokens → TokenOk (get_or (scan text).tokens i past)
unfolding scan
scanned_each text = each_ok (scan_from 0 most_tokens 0 text).tokens (scan_from_ok text 0 most_tokens 0)
