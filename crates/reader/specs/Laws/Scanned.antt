-- What a scan leaves in the table holds its tokens: kinds, sizes and places, the words of names in the text, the values of constants.
use Prim.Native.Nat.{ℕ, zero, suc, ◌+◌, ◌-◌, ◌*◌, ◌^◌, ◌<◌, ◌≤◌}
use Rattle.std.specs.Prelude.{◌≡◌, Bool, ◌&&◌, leb, length, get_or, take, drop}
use Rattle.std.proofs.Math.Path.{refl}
use Rattle.std.proofs.Common.{sym, ap, ◌∙◌, add-zero, mul-pos, arith, leb-true, ltb-true, length-drop, pow_mono, drop-drop}
use Rattle.std.proofs.Math.Bool.{true, false}
use mathlib.Core.List.{List, [], ◌∷◌, map}
use Rattle.std.proofs.Math.Option.{Option, none, some}
use Rattle.std.proofs.Math.Dec.{ltb}
use Rattle.std.proofs.lemmas.List.{length-map}
use Rattle.rules.specs.Text.Bytes.{Class, class_of, leading, fold, in_name, in_constant, forbidden, blank, exclamation, letter, digit, dot, prefix, query, mark, other}
use Rattle.rules.specs.Text.Tokens.{Kind, kind_no, Name, Const, Info, Token, Spelling, keywords, marks}
use Rattle.rules.specs.Text.Constants.{Constant, malformed, constant, decimal, decimal_bits, based, all, any, is_query, is_digit_of, is_based_digit, value_from, digit_bits, bits_from}
use Rattle.rules.specs.Text.Scan.{Lexeme, no_lexeme, token, bad_lexeme, same_bytes, word_kind, word_lexeme, word_info, constant_lexeme, constant_info, masked_kind, mark_at, mark_lexeme, lexeme_by, lexeme, scan_from, scan}
use Rattle.rules.specs.Limits.{most_tokens}
use Rattle.classes.specs.Laws.Runs.{length_run, take_run, and_left, and_right}
use Rattle.lexemes.specs.Laws.Constants.{bits_some}
use Rattle.lexemes.specs.Laws.Bounds.{pow_times, value_below, sum_below}
use Rattle.records.specs.Holds.{WordHolds}

-- a constant's number fits its length
pub record Numbered (x : Info) : Type 0 where
  pub fits : x.value < 2 ^ x.bits
  pub together : x.value + x.free < 2 ^ 64
  pub some_bits : 1 ≤ x.bits
  pub few_bits : x.bits ≤ 64
  pub wordless : x.word ≡ []

-- what a token of a text means there
pub record Meant (text : List ℕ) (t : Token) : Type 0 where
  pub word : t.kind ≡ Name → WordHolds text t.info
  pub constant : kind_no t.kind ≡ 1 → Numbered t.info
  pub masked : kind_no t.kind ≡ 2 → Numbered t.info

abbrev pub MeantBy : List ℕ → Lexeme → Type 0
MeantBy text (no_lexeme n) = Unit
MeantBy text (token n t) = Meant text t
MeantBy text (bad_lexeme m) = Unit

-- keywords and names are no constants, and marks are no words either
aside : ℕ → List Spelling → Bool
aside n [] = true
aside n (s ∷ ss) = ltb n (kind_no s.kind) && aside n ss

abbrev Words : ℕ → Type 0
Words k = (k ≡ 1 → ⊥) × (k ≡ 2 → ⊥)

word_aside : (ss : List Spelling) (w : List ℕ) → aside 2 ss ≡ true → Words (kind_no (word_kind ss w))
unfolding aside word_kind
word_aside [] w h = (λ e. omega arith, λ e. omega arith)
word_aside (s ∷ ss) w h = go (same_bytes s.written w) refl (word_aside ss w (and_right (ltb 2 (kind_no s.kind)) (aside 2 ss) h))
  where
    go : (r : Bool) → same_bytes s.written w ≡ r → Words (kind_no (word_kind ss w)) → Words (kind_no (word_kind (s ∷ ss) w))
    go true e rest =
        let high : 2 < kind_no s.kind = ltb-true _ _ (and_left (ltb 2 (kind_no s.kind)) (aside 2 ss) h) in
        rw (word_kind, e) (λ x. omega arith, λ x. omega arith)
    go false e rest = rw (word_kind, e) rest

keyword_aside : (w : List ℕ) → Words (kind_no (word_kind keywords w))
unfolding aside
keyword_aside w = word_aside keywords w refl

module _ (text : List ℕ) (p b : ℕ) (bs : List ℕ) (here : drop p text ≡ b ∷ bs) where
  room : p + length (b ∷ bs) ≤ length text
  room = omega (arith, ap length here, length-drop p text)

  word_meant : MeantBy text (word_lexeme p (leading in_name (b ∷ bs)))
  unfolding word_lexeme
  word_meant = go (leb (length w) 32) refl
    where
      w : List ℕ
      w = leading in_name (b ∷ bs)

      held : WordHolds text (word_info p (map fold w))
      held =
          let size : length (map fold w) + 0 ≡ length w = add-zero (length (map fold w)) ∙ length-map w fold in
          record {
            folded = rw (size, here) (ap (map fold) (sym (take_run in_name (b ∷ bs))));
            inside = rw size (omega (arith, room, length_run in_name (b ∷ bs)));
          }

      go : (r : Bool) → leb (length w) 32 ≡ r → MeantBy text (word_lexeme p w)
      go true e = rw (word_lexeme, e) (record { word = λ k. held; constant = λ k. absurd ((keyword_aside (map fold w)).0 k); masked = λ k. absurd ((keyword_aside (map fold w)).1 k) })
      go false e = rw (word_lexeme, e) tt

-- a constant that was made
abbrev MadeBy : Constant → Type 0
MadeBy malformed = Unit
MadeBy (constant v f n) = Numbered (constant_info 0 v f n)

-- bits enough are found
bits_hold : (n k v : ℕ) → v < 2 ^ (k + n) → v < 2 ^ bits_from n k v
unfolding bits_from
bits_hold zero k v h = rw add-zero at h
bits_hold (suc n) k v h = go (ltb v (2 ^ k)) refl (λ l. bits_hold n (k + 1) v l)
  where
    go : (r : Bool) → ltb v (2 ^ k) ≡ r → (v < 2 ^ (k + 1 + n) → v < 2 ^ bits_from n (k + 1) v) → v < 2 ^ bits_from (suc n) k v
    go true e rest = rw (bits_from, e) (ltb-true _ _ e)
    go false e rest = let more : k + suc n ≡ k + 1 + n = omega arith in rw (bits_from, e) (rest (rw more at h))

bits_between : (n k v : ℕ) → (k ≤ bits_from n k v) × (bits_from n k v ≤ k + n)
unfolding bits_from
bits_between zero k v = (omega arith, omega arith)
bits_between (suc n) k v = go (ltb v (2 ^ k)) refl (bits_between n (k + 1) v)
  where
    go : (r : Bool) → ltb v (2 ^ k) ≡ r → (k + 1 ≤ bits_from n (k + 1) v) × (bits_from n (k + 1) v ≤ k + 1 + n) → (k ≤ bits_from (suc n) k v) × (bits_from (suc n) k v ≤ k + suc n)
    go true e rest = rw (bits_from, e) (omega arith, omega arith)
    go false e rest = rw (bits_from, e) (omega (arith, rest.0), omega (arith, rest.1))

decimal_made : (ds : List ℕ) → MadeBy (decimal ds)
unfolding decimal decimal_bits
decimal_made ds = go (all (is_digit_of 10) ds && ltb (value_from 10 0 ds) (2 ^ 64)) refl
  where
    go : (r : Bool) → all (is_digit_of 10) ds && ltb (value_from 10 0 ds) (2 ^ 64) ≡ r → MadeBy (decimal ds)
    go true e =
        let small : value_from 10 0 ds < 2 ^ 64 = ltb-true _ _ (and_right (all (is_digit_of 10) ds) (ltb (value_from 10 0 ds) (2 ^ 64)) e) in
        let between = bits_between 63 1 (value_from 10 0 ds) in
        rw (decimal, e)
        (record { fits = bits_hold 63 1 (value_from 10 0 ds) small; together = omega arith; some_bits = between.0; few_bits = between.1; wordless = refl })
    go false e = rw (decimal, e) tt

based_made : (b : ℕ) (ds : List ℕ) → MadeBy (based (digit_bits b) ds)
unfolding based
based_made b ds = go (sound && (ltb 0 (length ds) && leb (k * length ds) 64)) refl
  where
    k : ℕ
    k = digit_bits b

    sound : Bool
    sound = all (is_based_digit (2 ^ k)) ds

    go : (r : Bool) → sound && (ltb 0 (length ds) && leb (k * length ds) 64) ≡ r → MadeBy (based k ds)
    go true e =
        let digits : all (is_based_digit (2 ^ k)) ds ≡ true = and_left sound (ltb 0 (length ds) && leb (k * length ds) 64) e in
        let sizes : ltb 0 (length ds) && leb (k * length ds) 64 ≡ true = and_right sound (ltb 0 (length ds) && leb (k * length ds) 64) e in
        let short : k * length ds ≤ 64 = leb-true _ _ (and_right (ltb 0 (length ds)) (leb (k * length ds) 64) sizes) in
        let some_digits : 0 < length ds = ltb-true _ _ (and_left (ltb 0 (length ds)) (leb (k * length ds) 64) sizes) in
        let room : (2 ^ k) ^ length ds ≡ 2 ^ (k * length ds) = pow_times k (length ds) in
        let most : 2 ^ (k * length ds) ≤ 2 ^ 64 = pow_mono short in
        let two : 2 ≤ 2 ^ k = pow_mono {i = 1} {j = k} (bits_some b) in
        rw (based, e)
        (record {
          fits = omega (arith, value_below (2 ^ k) two ds digits);
          together = omega (arith, sum_below (2 ^ k) two ds digits);
          some_bits = mul-pos (bits_some b) some_digits;
          few_bits = short;
          wordless = refl;
        })
    go false e = rw (based, e) tt

constant_meant : (text : List ℕ) (p n : ℕ) (k : Kind) (x : Constant) → (k ≡ Name → ⊥) → MadeBy x → MeantBy text (constant_lexeme p n k x)
unfolding constant_lexeme
constant_meant text p n k malformed other_kind made = tt
constant_meant text p n k (constant v f b) other_kind made =
    let numbered : Numbered (constant_info p v f b) = record { fits = made.fits; together = made.together; some_bits = made.some_bits; few_bits = made.few_bits; wordless = refl } in
    record { word = λ e. absurd (other_kind e); constant = λ e. numbered; masked = λ e. numbered }

no_name : (r : Bool) → masked_kind r ≡ Name → ⊥
no_name true e = let z : ◌≡◌ {A = ℕ} 0 1 = cc in omega arith
no_name false e = let z : ◌≡◌ {A = ℕ} 0 1 = cc in omega arith

-- a mark's kind is above those of words and constants
abbrev MarkAside : Option Spelling → Type 0
MarkAside none = Unit
MarkAside (some s) = 2 < kind_no s.kind

mark_aside : (ss : List Spelling) (l : List ℕ) → aside 2 ss ≡ true → MarkAside (mark_at ss l)
unfolding aside mark_at
mark_aside [] l h = tt
mark_aside (s ∷ ss) l h =
    go (same_bytes s.written (take (length s.written) l)) refl (mark_aside ss l (and_right (ltb 2 (kind_no s.kind)) (aside 2 ss) h))
  where
    go : (r : Bool) → same_bytes s.written (take (length s.written) l) ≡ r → MarkAside (mark_at ss l) → MarkAside (mark_at (s ∷ ss) l)
    go true e rest = rw (mark_at, e) (ltb-true _ _ (and_left (ltb 2 (kind_no s.kind)) (aside 2 ss) h))
    go false e rest = rw (mark_at, e) rest

mark_meant : (text : List ℕ) (p : ℕ) (o : Option Spelling) → MarkAside o → MeantBy text (mark_lexeme p o)
unfolding mark_lexeme
mark_meant text p none h = tt
mark_meant text p (some s) h =
    record {
      word = λ e. let z : kind_no s.kind ≡ 0 = ap kind_no e in absurd (omega arith);
      constant = λ e. absurd (omega arith);
      masked = λ e. absurd (omega arith);
    }

module _ (text : List ℕ) (p b : ℕ) (bs : List ℕ) (here : drop p text ≡ b ∷ bs) where
  meant_by : (c : Class) → MeantBy text (lexeme_by c p b bs)
  unfolding lexeme_by aside
  meant_by forbidden = tt
  meant_by blank = tt
  meant_by exclamation = tt
  meant_by letter = word_meant text p b bs here
  meant_by digit =
      constant_meant text p (length (leading in_constant bs)) Const (decimal (leading in_constant (b ∷ bs))) (no_name false) (decimal_made (leading in_constant (b ∷ bs)))
  meant_by dot = tt
  meant_by prefix =
      constant_meant text p (length (leading in_constant bs)) (masked_kind (any is_query (leading in_constant bs))) (based (digit_bits b) (leading in_constant bs))
      (no_name (any is_query (leading in_constant bs))) (based_made b (leading in_constant bs))
  meant_by query = tt
  meant_by mark = mark_meant text p (mark_at marks (b ∷ bs)) (mark_aside marks (b ∷ bs) refl)
  meant_by other = tt

  pub lexeme_meant : MeantBy text (lexeme p b bs)
  unfolding lexeme
  lexeme_meant = meant_by (class_of b)

-- every token of a scan
abbrev pub AllMeant : List ℕ → List Token → Type 0
AllMeant text [] = Unit
AllMeant text (t ∷ ts) = Meant text t × AllMeant text ts

module _ (text : List ℕ) where
  behind : (p b : ℕ) (bs : List ℕ) → drop p text ≡ b ∷ bs → drop (p + 1) text ≡ bs
  behind p b bs e = sym (drop-drop 1 p text) ∙ ap (drop 1) e

  step : (p k b : ℕ) (bs : List ℕ) → ((j n : ℕ) → AllMeant text (scan_from (p + 1) j n bs).tokens) → (l : Lexeme) → lexeme p b bs ≡ l → MeantBy text l
      → AllMeant text (scan_from p k 0 (b ∷ bs)).tokens
  unfolding scan_from
  step p k b bs more (no_lexeme n) e is = rw (scan_from, e) (more k n)
  step p k b bs more (bad_lexeme m) e is = rw (scan_from, e) tt
  step p k b bs more (token n t) e is = go (ltb 0 k) refl
    where
      go : (r : Bool) → ltb 0 k ≡ r → AllMeant text (scan_from p k 0 (b ∷ bs)).tokens
      go true q = rw (scan_from, e, q) (is, more (k - 1) n)
      go false q = rw (scan_from, e, q) tt

  all_meant : (bs : List ℕ) (p k n : ℕ) → drop p text ≡ bs → AllMeant text (scan_from p k n bs).tokens
  unfolding scan_from
  all_meant [] p k n h = tt
  all_meant (b ∷ bs) p k (suc n) h = all_meant bs (p + 1) k n (behind p b bs h)
  all_meant (b ∷ bs) p k zero h =
      step p k b bs (λ j n. all_meant bs (p + 1) j n (behind p b bs h)) (lexeme p b bs) refl (lexeme_meant text p b bs h)

  meant_at : (ts : List Token) → AllMeant text ts → (d : Token) (i : ℕ) → i < length ts → Meant text (get_or ts i d)
  meant_at [] a d i h = absurd (omega arith)
  meant_at (t ∷ ts) a d zero h = a.0
  meant_at (t ∷ ts) a d (suc i) h = meant_at ts a.1 d i (omega arith)

  pub token_meant : (d : Token) (i : ℕ) → i < length (scan text).tokens → Meant text (get_or (scan text).tokens i d)
  unfolding scan
  token_meant d i h = meant_at (scan text).tokens (all_meant text 0 most_tokens 0 refl) d i h
