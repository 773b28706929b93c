-- Laws of words: a name's bytes fold to digits of its number, and no keyword is long.
use Rattle.std.specs.Prelude.{◌≡◌, refl, Bool, true, false, ◌&&◌, ◌||◌, not, List, [], ◌∷◌, map, ℕ, suc, ◌<◌, ◌≤◌, T, eqb, leb, length, replicate}
use Rattle.std.proofs.Common.{ap, arith, leb-true}
use Rattle.std.proofs.Math.Decide.{dec_lt}
use Rattle.rules.specs.Text.Bytes.{fold, in_name, class_of, class_in}
use Rattle.rules.specs.Text.Tokens.{Spelling, Name, keywords, kind_no}
use Rattle.rules.specs.Text.Constants.{all}
use Rattle.rules.specs.Text.Scan.{same_bytes, word_kind}
use Rattle.lexemes.specs.Codes.{word_code, kind_by}
use Rattle.classes.specs.Laws.Tests.{at}
use Rattle.classes.specs.Laws.Runs.{class_above, and_left, and_right}
use Rattle.lexemes.specs.Laws.Spellings.{all_head, all_tail, spelled, word_by, word_byte, word_digits}

-- each name byte folds to a byte of a word, by a test at each byte
folds : ℕ → ℕ → Bool
folds b _ = not (in_name b) || word_byte (fold b)

either : (a b : Bool) → T (not a || b) → a ≡ true → b ≡ true
either true true t e = refl
either true false t e = absurd t
either false b t e = absurd (let z : ◌≡◌ {A = ℕ} 0 1 = cc in omega arith)

name_below : (b : ℕ) → in_name b ≡ true → b < 256
unfolding in_name
name_below b h = go (dec_lt b 256)
  where
    go : Dec (b < 256) → b < 256
    go (yes l) = l
    go (no g) = let e : false ≡ true = rw (class_above b (omega arith)) at h in absurd (let z : ◌≡◌ {A = ℕ} 0 1 = cc in omega arith)

name_folds : (b : ℕ) → in_name b ≡ true → word_byte (fold b) ≡ true
unfolding folds in_name class_of class_in fold
name_folds b h = either (in_name b) (word_byte (fold b)) (at folds (replicate 256 0) tt b (name_below b h)) h

names_fold : (w : List ℕ) → all in_name w ≡ true → all word_byte (map fold w) ≡ true
unfolding all
names_fold [] h = refl
names_fold (b ∷ bs) h = rw (name_folds b (all_head in_name b bs h)) (names_fold bs (all_tail in_name b bs h))

pub keyword_by : (w : List ℕ) → all in_name w ≡ true → kind_no (word_kind keywords (map fold w)) ≡ kind_by word_code (word_code (map fold w)) keywords
unfolding spelled all
keyword_by w h = word_by word_digits keywords (map fold w) refl (names_fold w h)

-- spellings of at most n bytes
within : ℕ → List Spelling → Bool
within n [] = true
within n (s ∷ ss) = leb (length s.written) n && within n ss

pub same_length : (s w : List ℕ) → same_bytes s w ≡ true → length s ≡ length w
unfolding same_bytes
same_length [] [] h = refl
same_length [] (c ∷ cs) h = absurd (let z : ◌≡◌ {A = ℕ} 0 1 = cc in omega arith)
same_length (b ∷ bs) [] h = absurd (let z : ◌≡◌ {A = ℕ} 0 1 = cc in omega arith)
same_length (b ∷ bs) (c ∷ cs) h = ap suc (same_length bs cs (and_right (eqb b c) (same_bytes bs cs) h))

long : (n : ℕ) (ss : List Spelling) (w : List ℕ) → within n ss ≡ true → n < length w → word_kind ss w ≡ Name
unfolding within word_kind
long n [] w h l = refl
long n (s ∷ ss) w h l = go (same_bytes s.written w) refl (long n ss w (and_right (leb (length s.written) n) (within n ss) h) l)
  where
    short : length s.written ≤ n
    short = leb-true (length s.written) n (and_left (leb (length s.written) n) (within n ss) h)

    go : (r : Bool) → same_bytes s.written w ≡ r → word_kind ss w ≡ Name → word_kind (s ∷ ss) w ≡ Name
    go true e rest = absurd (omega (arith, short, same_length s.written w e))
    go false e rest = rw (word_kind, e) rest

pub no_keyword : (w : List ℕ) → 9 < length w → 0 ≡ kind_no (word_kind keywords w)
unfolding within
no_keyword w h = rw (long 9 keywords w refl h)
