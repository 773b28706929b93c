-- What holds of every lexeme: it stays within the text, and a token has its place, a size of at most 64, and a value and free bits that fit a cell.
use Rattle.std.specs.Prelude.{◌≡◌, refl, Bool, true, false, ◌&&◌, List, [], ◌∷◌, map, ℕ, zero, suc, ◌+◌, ◌*◌, ◌^◌, ◌<◌, ◌≤◌, ltb, leb, length, take}
use Rattle.std.proofs.Math.Option.{Option, none, some}
use Rattle.std.proofs.Common.{arith, leb-true, ltb-true, length-take, pow_mono}
use Rattle.std.proofs.lemmas.List.{length-map}
use Rattle.rules.specs.Text.Bytes.{Class, class_of, leading, fold, in_name, in_constant, in_comment, forbidden, blank, exclamation, letter, digit, dot, prefix, query, mark, other}
use Rattle.rules.specs.Text.Tokens.{Kind, Token, Const, Spelling, keywords, marks, kind_no}
use Rattle.rules.specs.Text.Constants.{Constant, malformed, constant, decimal, based, all, any, is_query, is_digit_of, is_based_digit, value_from, digit_bits, bits_from, decimal_bits}
use Rattle.rules.specs.Text.Scan.{Lexeme, no_lexeme, token, bad_lexeme, same_bytes, word_kind, word_lexeme, constant_lexeme, masked_kind, mark_at, mark_lexeme, lexeme_by, lexeme}
use Rattle.lexemes.specs.Lexemes.{size_of}
use Rattle.classes.specs.Laws.Runs.{length_run, and_left, and_right}
use Rattle.lexemes.specs.Laws.Words.{same_length}
use Rattle.lexemes.specs.Laws.Bounds.{pow_times, value_below, freedom_below}
use Rattle.lexemes.specs.Laws.Constants.{bits_some}

pub record Placed (p room n : ℕ) (t : Token) : Type 0 where
  pub place : t.info.place ≡ p
  pub kind : kind_no t.kind < 42
  pub size : size_of t ≤ 64
  pub value : t.info.value < 2 ^ 64
  pub free : t.info.free < 2 ^ 64
  pub within : n ≤ room

abbrev pub Sound : ℕ → ℕ → Lexeme → Type 0
Sound p room (no_lexeme n) = n ≤ room
Sound p room (token n t) = Placed p room n t
Sound p room (bad_lexeme m) = Unit

-- spellings whose kinds are numbered below 42
low : List Spelling → Bool
low [] = true
low (s ∷ ss) = ltb (kind_no s.kind) 42 && low ss

word_low : (ss : List Spelling) (w : List ℕ) → low ss ≡ true → kind_no (word_kind ss w) < 42
unfolding low word_kind
word_low [] w h = omega arith
word_low (s ∷ ss) w h = go (same_bytes s.written w) refl (word_low ss w (and_right (ltb (kind_no s.kind) 42) (low ss) h))
  where
    go : (r : Bool) → same_bytes s.written w ≡ r → kind_no (word_kind ss w) < 42 → kind_no (word_kind (s ∷ ss) w) < 42
    go true e rest = rw (word_kind, e) (ltb-true _ _ (and_left (ltb (kind_no s.kind) 42) (low ss) h))
    go false e rest = rw (word_kind, e) rest

keyword_low : (w : List ℕ) → kind_no (word_kind keywords w) < 42
unfolding low
keyword_low w = word_low keywords w refl

word_sound : (p room : ℕ) (w : List ℕ) → length w ≤ suc room → Sound p room (word_lexeme p w)
unfolding word_lexeme
word_sound p room w h = go (leb (length w) 32) refl
  where
    go : (r : Bool) → leb (length w) 32 ≡ r → Sound p room (word_lexeme p w)
    go true e =
        let short : length w ≤ 32 = leb-true _ _ e in
        rw (word_lexeme, e)
        (record { place = refl; kind = keyword_low (map fold w); size = rw length-map (omega arith); value = omega arith; free = omega arith; within = omega arith })
    go false e = rw (word_lexeme, e) tt

-- a constant whose numbers fit
abbrev Fitting : Constant → Type 0
Fitting malformed = Unit
Fitting (constant v f n) = (v < 2 ^ 64) × ((f < 2 ^ 64) × (n ≤ 64))

constant_sound : (p room n : ℕ) (k : Kind) (x : Constant) → kind_no k < 42 → n ≤ room → Fitting x → Sound p room (constant_lexeme p n k x)
unfolding constant_lexeme
constant_sound p room n k malformed l h f = tt
constant_sound p room n k (constant v f b) l h fits =
    record { place = refl; kind = l; size = omega arith; value = fits.0; free = fits.1.0; within = h }

bits_most : (n k v : ℕ) → bits_from n k v ≤ k + n
unfolding bits_from
bits_most zero k v = omega arith
bits_most (suc n) k v = go (ltb v (2 ^ k)) refl (bits_most n (k + 1) v)
  where
    go : (r : Bool) → ltb v (2 ^ k) ≡ r → bits_from n (k + 1) v ≤ k + 1 + n → bits_from (suc n) k v ≤ k + suc n
    go true e rest = rw (bits_from, e) (omega arith)
    go false e rest = rw (bits_from, e) (omega arith)

decimal_fits : (ds : List ℕ) → Fitting (decimal ds)
unfolding decimal decimal_bits
decimal_fits ds = go (all (is_digit_of 10) ds && ltb (value_from 10 0 ds) (2 ^ 64)) refl
  where
    go : (r : Bool) → all (is_digit_of 10) ds && ltb (value_from 10 0 ds) (2 ^ 64) ≡ r → Fitting (decimal ds)
    go true e =
        rw (decimal, e)
        (ltb-true _ _ (and_right (all (is_digit_of 10) ds) (ltb (value_from 10 0 ds) (2 ^ 64)) e), (omega arith, bits_most 63 1 (value_from 10 0 ds)))
    go false e = rw (decimal, e) tt

based_fits : (b : ℕ) (ds : List ℕ) → Fitting (based (digit_bits b) ds)
unfolding based
based_fits b ds = go (sound && (ltb 0 (length ds) && leb (k * length ds) 64)) refl
  where
    k : ℕ
    k = digit_bits b

    sound : Bool
    sound = all (is_based_digit (2 ^ k)) ds

    go : (r : Bool) → sound && (ltb 0 (length ds) && leb (k * length ds) 64) ≡ r → Fitting (based k ds)
    go true e =
        let digits : all (is_based_digit (2 ^ k)) ds ≡ true = and_left sound (ltb 0 (length ds) && leb (k * length ds) 64) e in
        let short : k * length ds ≤ 64
        = leb-true _ _ (and_right (ltb 0 (length ds)) (leb (k * length ds) 64) (and_right sound (ltb 0 (length ds) && leb (k * length ds) 64) e)) in
        let room : (2 ^ k) ^ length ds ≤ 2 ^ 64 = rw pow_times (pow_mono short) in
        let two : 2 ≤ 2 ^ k = pow_mono {i = 1} {j = k} (bits_some b) in
        rw (based, e) (omega (arith, value_below (2 ^ k) two ds digits), (omega (arith, freedom_below (2 ^ k) two ds digits), short))
    go false e = rw (based, e) tt

-- a mark that is found is no longer than the text
abbrev Found : List ℕ → Option Spelling → Type 0
Found l none = Unit
Found l (some s) = (length s.written ≤ length l) × (kind_no s.kind < 42)

mark_found : (ss : List Spelling) (l : List ℕ) → low ss ≡ true → Found l (mark_at ss l)
unfolding mark_at low
mark_found [] l h = tt
mark_found (s ∷ ss) l h =
    go (same_bytes s.written (take (length s.written) l)) refl (mark_found ss l (and_right (ltb (kind_no s.kind) 42) (low ss) h))
  where
    go : (r : Bool) → same_bytes s.written (take (length s.written) l) ≡ r → Found l (mark_at ss l) → Found l (mark_at (s ∷ ss) l)
    go true e rest =
        rw (mark_at, e) (
          omega (arith, same_length s.written (take (length s.written) l) e, length-take (length s.written) l),
          ltb-true _ _ (and_left (ltb (kind_no s.kind) 42) (low ss) h),
        )
    go false e rest = rw (mark_at, e) rest

mark_sound : (p b : ℕ) (bs : List ℕ) (o : Option Spelling) → Found (b ∷ bs) o → Sound p (length bs) (mark_lexeme p o)
unfolding mark_lexeme
mark_sound p b bs none h = tt
mark_sound p b bs (some s) h =
    record { place = refl; kind = h.1; size = omega arith; value = omega arith; free = omega arith; within = omega arith }

masked_low : (r : Bool) → kind_no (masked_kind r) < 42
masked_low true = omega arith
masked_low false = omega arith

by_class : (c : Class) (p b : ℕ) (bs : List ℕ) → Sound p (length bs) (lexeme_by c p b bs)
unfolding lexeme_by low
by_class forbidden p b bs = tt
by_class blank p b bs = omega arith
by_class exclamation p b bs = length_run in_comment bs
by_class letter p b bs = word_sound p (length bs) (leading in_name (b ∷ bs)) (length_run in_name (b ∷ bs))
by_class digit p b bs =
    constant_sound p (length bs) (length (leading in_constant bs)) Const (decimal (leading in_constant (b ∷ bs))) (omega arith) (length_run in_constant bs)
    (decimal_fits (leading in_constant (b ∷ bs)))
by_class dot p b bs = tt
by_class prefix p b bs =
    constant_sound p (length bs) (length (leading in_constant bs)) (masked_kind (any is_query (leading in_constant bs)))
    (based (digit_bits b) (leading in_constant bs)) (masked_low (any is_query (leading in_constant bs))) (length_run in_constant bs) (based_fits b (leading in_constant bs))
by_class query p b bs = tt
by_class mark p b bs = mark_sound p b bs (mark_at marks (b ∷ bs)) (mark_found marks (b ∷ bs) refl)
by_class other p b bs = tt

pub lexeme_sound : (p b : ℕ) (bs : List ℕ) → Sound p (length bs) (lexeme p b bs)
unfolding lexeme
lexeme_sound p b bs = by_class (class_of b) p b bs
