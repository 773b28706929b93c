-- Laws of classes and runs: the table has each byte's class, the sets of classes are the rules' tests, and how a run goes on.
use Rattle.std.specs.Prelude.{◌≡◌, Bool, ◌&&◌, ◌||◌, ℕ, zero, suc, ◌+◌, ◌/◌, ◌%◌, ◌^◌, ◌<◌, ◌≤◌, T, ltb, leb, get_or, drop, replicate}
use Rattle.std.proofs.Math.Path.{refl}
use Rattle.std.proofs.Common.{sym, ap, subst, ◌∙◌, zero-add, suc-add, add-one, eqb-true, ltb-true, eqb→eq, drop_of_length-le, drop-cons}
use Rattle.std.proofs.Math.Bool.{true, false, not, and_comm, and-false}
use mathlib.Core.List.{List, [], ◌∷◌}
use native.Mathlib.Omega.{arith}
use Rattle.std.proofs.lemmas.Bool.{lt-leb}
use Rattle.std.proofs.Math.Dec.{eqb}
use Rattle.std.proofs.Math.ListN.{length, take}
use Rattle.std.proofs.Math.Seq.{slice, take-nil}
use Rattle.rules.specs.Text.Constants.{all}
use Rattle.rules.specs.Text.Bytes.{Class, Span, ranges, class_no, class_of, class_in, is_class, leading, in_name, in_constant, in_comment, forbidden, blank, exclamation, letter, digit, dot, prefix, query, mark, other}
use Rattle.classes.specs.Classes.{Classed, among, RunEnds}
use Rattle.classes.specs.Laws.Tests.{at, every}

pub and_left : (a b : Bool) → a && b ≡ true → a ≡ true
and_left true b e = refl
and_left false b e = e

pub and_right : (a b : Bool) → a && b ≡ true → b ≡ true
and_right true b e = e
and_right false b e = absurd (let z : ◌≡◌ {A = ℕ} 0 1 = cc in omega arith)

-- a table's rule, by a test at each byte
unfoldable pub right : ℕ → ℕ → Bool
right b n = eqb n (class_no (class_of b))

pub classed : (l : List ℕ) → length l ≡ 256 → T (every right 0 l) → Classed l
unfolding right
classed l size t = record { each = λ b h. eqb→eq (get_or l b 0) (class_no (class_of b)) (at right l t b (rw size h)) }

low : List Span → Bool
low [] = true
low (r ∷ rs) = ltb r.last 256 && low rs

-- past the table every byte is forbidden
above : (rs : List Span) (b : ℕ) → low rs ≡ true → 256 ≤ b → class_in rs b ≡ forbidden
unfolding class_in low
above [] b h l = refl
above (r ∷ rs) b h l =
    let last : r.last < b = omega (arith, ltb-true r.last 256 (and_left (ltb r.last 256) (low rs) h)) in
    rw (class_in, lt-leb b r.last last, and-false (leb r.first b)) (above rs b (and_right (ltb r.last 256) (low rs) h) l)

pub class_above : (b : ℕ) → 256 ≤ b → class_of b ≡ forbidden
unfolding class_of low
class_above b h = above ranges b refl h

pub class_small : (c : Class) → class_no c < 10
class_small forbidden = omega arith
class_small blank = omega arith
class_small exclamation = omega arith
class_small letter = omega arith
class_small digit = omega arith
class_small dot = omega arith
class_small prefix = omega arith
class_small query = omega arith
class_small mark = omega arith
class_small other = omega arith

-- the class of a number
unfoldable pub class_at : ℕ → Class
class_at n = get_or (forbidden ∷ blank ∷ exclamation ∷ letter ∷ digit ∷ dot ∷ prefix ∷ query ∷ mark ∷ other ∷ []) n forbidden

pub class_back : (c : Class) → class_at (class_no c) ≡ c
unfolding class_at
class_back forbidden = refl
class_back blank = refl
class_back exclamation = refl
class_back letter = refl
class_back digit = refl
class_back dot = refl
class_back prefix = refl
class_back query = refl
class_back mark = refl
class_back other = refl

-- a test that passes at each class passes at every one
each_class : (f : Class → Bool) → T (every (λ n _. f (class_at n)) 0 (replicate 10 0)) → (c : Class) → T (f c)
each_class f t c = subst (λ (d : Class). T (f d)) (class_back c) (at (λ n _. f (class_at n)) (replicate 10 0) t (class_no c) (class_small c))

abbrev pub agree : Bool → Bool → Bool
agree true b = b
agree false b = not b

pub agreed : (a b : Bool) → T (agree a b) → a ≡ b
agreed true true t = refl
agreed true false t = absurd t
agreed false true t = absurd t
agreed false false t = refl

newline : class_of 10 ≡ blank
unfolding class_of class_in
newline = refl

-- a set of classes without that of byte 10 is a test of the class alone
module _ (set : ℕ) (test : Class → Bool) (t : T (every (λ n _. agree (eqb (set / 2 ^ class_no (class_at n) % 2) 1) (test (class_at n))) 0 (replicate 10 0))) where
  bit : (c : Class) → eqb (set / 2 ^ class_no c % 2) 1 ≡ test c
  bit c = agreed _ _ (each_class (λ d. agree (eqb (set / 2 ^ class_no d % 2) 1) (test d)) t c)

  set_test : test blank ≡ false → (b : ℕ) → among set b ≡ test (class_of b)
  unfolding among
  set_test out b = go (eqb b 10) refl
    where
      go : (r : Bool) → eqb b 10 ≡ r → not r && eqb (set / 2 ^ class_no (class_of b) % 2) 1 ≡ test (class_of b)
      go true e = rw (eqb-true b 10 e, newline) (sym out)
      go false e = bit (class_of b)

-- the three sets are the rules' tests
pub name_set : (b : ℕ) → among 56 b ≡ in_name b
unfolding in_name class_at
name_set b = set_test 56 (λ c. is_class c letter || (is_class c digit || is_class c dot)) tt refl b

pub constant_set : (b : ℕ) → among 184 b ≡ in_constant b
unfolding in_constant in_name class_at
constant_set b =
    set_test 184 (λ c. is_class c letter || (is_class c digit || is_class c dot) || is_class c query) tt refl b

pub comment_set : (b : ℕ) → among 1022 b ≡ in_comment b
unfolding in_comment among class_at
comment_set b =
    and_comm (not (eqb b 10)) (eqb (1022 / 2 ^ class_no (class_of b) % 2) 1)
    ∙ ap (λ (r : Bool). r && not (eqb b 10)) (bit 1022 (λ c. not (is_class c forbidden)) tt (class_of b))

-- how a run goes on
module _ (p : ℕ → Bool) where
  pub run_more : (b : ℕ) (bs : List ℕ) → p b ≡ true → leading p (b ∷ bs) ≡ b ∷ leading p bs
  unfolding leading
  run_more b bs h = rw (h, leading)

  pub run_ends : (b : ℕ) (bs : List ℕ) → p b ≡ false → leading p (b ∷ bs) ≡ []
  unfolding leading
  run_ends b bs h = rw (h, leading)

  pub length_run : (l : List ℕ) → length (leading p l) ≤ length l
  unfolding leading
  length_run [] = omega arith
  length_run (b ∷ bs) = go (p b) refl (length_run bs)
    where
      go : (r : Bool) → p b ≡ r → length (leading p bs) ≤ length bs → length (leading p (b ∷ bs)) ≤ length (b ∷ bs)
      go true h rest = rw (run_more b bs h) (omega arith)
      go false h rest = rw (run_ends b bs h) (omega arith)

  pub take_run : (l : List ℕ) → take (length (leading p l)) l ≡ leading p l
  unfolding leading
  take_run [] = refl
  take_run (b ∷ bs) = go (p b) refl (take_run bs)
    where
      go : (r : Bool) → p b ≡ r → take (length (leading p bs)) bs ≡ leading p bs → take (length (leading p (b ∷ bs))) (b ∷ bs) ≡ leading p (b ∷ bs)
      go true h rest = rw (run_more b bs h) (ap (λ (t : List ℕ). b ∷ t) rest)
      go false h rest = rw (run_ends b bs h)

  pub all_run : (l : List ℕ) → all p (leading p l) ≡ true
  unfolding leading all
  all_run [] = refl
  all_run (b ∷ bs) = go (p b) refl (all_run bs)
    where
      go : (r : Bool) → p b ≡ r → all p (leading p bs) ≡ true → all p (leading p (b ∷ bs)) ≡ true
      go true h rest = rw (run_more b bs h, h) rest
      go false h rest = rw (run_ends b bs h)

-- two tests that agree have the same runs
pub run_same : (p q : ℕ → Bool) → ((b : ℕ) → p b ≡ q b) → (l : List ℕ) → leading p l ≡ leading q l
unfolding leading
run_same p q h [] = refl
run_same p q h (b ∷ bs) = go (q b) refl (run_same p q h bs)
  where
    go : (r : Bool) → q b ≡ r → leading p bs ≡ leading q bs → leading p (b ∷ bs) ≡ leading q (b ∷ bs)
    go true e rest = run_more p b bs (h b ∙ e) ∙ ap (λ (t : List ℕ). b ∷ t) rest ∙ sym (run_more q b bs e)
    go false e rest = run_ends p b bs (h b ∙ e) ∙ sym (run_ends q b bs e)

-- a text from i on is a byte and the rest
pub drop_from : (text : List ℕ) (i : ℕ) → i < length text → drop i text ≡ get_or text i 0 ∷ drop (i + 1) text
drop_from text i h = rw add-one (drop-cons text i 0 h)

-- a run from i on in a text
module _ (p : ℕ → Bool) (text : List ℕ) (i : ℕ) (h : i < length text) where
  pub run_step : p (get_or text i 0) ≡ true → leading p (drop i text) ≡ get_or text i 0 ∷ leading p (drop (i + 1) text)
  run_step e = rw (drop_from text i h) (run_more p _ _ e)

  pub run_stop : p (get_or text i 0) ≡ false → leading p (drop i text) ≡ []
  run_stop e = rw (drop_from text i h) (run_ends p _ _ e)

pub run_over : (p : ℕ → Bool) (text : List ℕ) (i : ℕ) → length text ≤ i → leading p (drop i text) ≡ []
unfolding leading
run_over p text i h = rw (drop_of_length-le text h)

slice_take : (f n : ℕ) (l : List ℕ) → slice f (f + n) l ≡ take n (drop f l)
slice_take zero n l = rw zero-add
slice_take (suc f) n [] = rw suc-add (sym (take-nil n))
slice_take (suc f) n (x ∷ l) = rw suc-add (slice_take f n l)

-- the run of a test from `from` to `end`
pub record Run (p : ℕ → Bool) (text : List ℕ) (from end : ℕ) : Type 0 where
  pub ends : end ≡ from + length (leading p (drop from text))
  pub part : slice from end text ≡ leading p (drop from text)

module _ (p : ℕ → Bool) (text : List ℕ) where
  parted : (from end : ℕ) → end ≡ from + length (leading p (drop from text)) → Run p text from end
  parted from end e = record {
    ends = e;
    part = ap (λ (n : ℕ). slice from n text) e ∙ slice_take from (length (leading p (drop from text))) text ∙ take_run p (drop from text);
  }

  -- what `run_end` finds, by a set of classes that is the test
  pub ran : (set from end : ℕ) → ((b : ℕ) → among set b ≡ p b) → RunEnds set text from end → Run p text from end
  ran set from end same r = parted from end (r.ends ∙ ap (λ (l : List ℕ). from + length l) (run_same (among set) p same (drop from text)))

  -- with the byte before it
  pub one_more : (at end : ℕ) → at < length text → p (get_or text at 0) ≡ true → Run p text (at + 1) end → Run p text at end
  one_more at end h first r = parted at end (omega (arith, r.ends, ap length (run_step p text at h first)))
