-- Laws of sets as the bits of four words: their members, unions, and what two of them have in common.
use Rattle.std.specs.Prelude.{ℕ, zero, suc, ◌+◌, ◌-◌, ◌*◌, ◌/◌, ◌%◌, ◌^◌, ◌<◌, ◌≤◌, min, max, ◌≡◌, refl, Bool, true, false, ◌||◌, ◌&&◌, List, [], ◌∷◌, eqb, get_or, set}
use Rattle.std.proofs.Common.{sym, ap, ap₂, ◌∙◌, subst, div-one, mod-eq_of_lt, mul-div_cancel, one-mul, arith, eq-eqb, ne_eqb, eqb-true, lt-ltb, le-ltb, pow-add, pow_pos, get_or-set_same, get_or-set_other}
use Rattle.std.proofs.Math.Bool.{or-true}
use Rattle.std.proofs.lemmas.Bool.{false≢true}
use Rattle.std.proofs.Math.Nat.{zero-div, div_self, div-eq_of_lt, div-div-eq-div-mul, mul-mod_right, pow-succ'}
use Rattle.std.proofs.Math.Decide.{dec_lt}
use Rattle.std.specs.Int.Bits.{bit_and, bit_or, or_step, and_step}
use Rattle.std.proofs.lemmas.Nat.{or_shr, and_shr, and_le_l}
use Rattle.std.proofs.Math.Pow.{pow-lt}
use Rattle.rules.specs.Whole.Sets.{member, meet}
use Rattle.reading.specs.Bits.{bit, holds, Common}

abbrev pub none_held : List ℕ
none_held = 0 ∷ 0 ∷ 0 ∷ 0 ∷ []

-- word by word
abbrev pub each : (ℕ → ℕ → ℕ) → List ℕ → List ℕ → List ℕ
each f a b =
    f (get_or a 0 0) (get_or b 0 0) ∷ f (get_or a 1 0) (get_or b 1 0) ∷ f (get_or a 2 0) (get_or b 2 0) ∷ f (get_or a 3 0) (get_or b 3 0) ∷ []

each_at : (f : ℕ → ℕ → ℕ) (a b : List ℕ) (q : ℕ) → q < 4 → get_or (each f a b) q 0 ≡ f (get_or a q 0) (get_or b q 0)
each_at f a b zero h = refl
each_at f a b (suc zero) h = refl
each_at f a b (suc (suc zero)) h = refl
each_at f a b (suc (suc (suc zero))) h = refl
each_at f a b (suc (suc (suc (suc q)))) h = absurd (omega arith)

zeros : (q : ℕ) → get_or none_held q 0 ≡ 0
zeros zero = refl
zeros (suc zero) = refl
zeros (suc (suc zero)) = refl
zeros (suc (suc (suc zero))) = refl
zeros (suc (suc (suc (suc q)))) = refl

zero_bit : (k : ℕ) → bit 0 k ≡ 0
zero_bit k = ap (λ (x : ℕ). x % 2) (zero-div (2 ^ k))

-- within the 256, or past them
pub held : (w : List ℕ) (k : ℕ) → k < 256 → holds w k ≡ eqb (bit (get_or w (k / 64) 0) (k % 64)) 1
unfolding holds
held w k h = ap (λ b. b && eqb (bit (get_or w (k / 64) 0) (k % 64)) 1) (lt-ltb k 256 h)

past : (w : List ℕ) (k : ℕ) → 256 ≤ k → holds w k ≡ false
unfolding holds
past w k h = ap (λ b. b && eqb (bit (get_or w (k / 64) 0) (k % 64)) 1) (le-ltb k 256 h)

-- only the four words count
pub same_words_lem : (a b : List ℕ) → get_or a 0 0 ≡ get_or b 0 0 → get_or a 1 0 ≡ get_or b 1 0 → get_or a 2 0 ≡ get_or b 2 0 → get_or a 3 0 ≡ get_or b 3 0 → (k : ℕ) → holds a k
    ≡ holds b k
same_words_lem a b e₀ e₁ e₂ e₃ k = by (dec_lt k 256)
  where
    each_same : (q : ℕ) → q < 4 → get_or a q 0 ≡ get_or b q 0
    each_same zero h = e₀
    each_same (suc zero) h = e₁
    each_same (suc (suc zero)) h = e₂
    each_same (suc (suc (suc zero))) h = e₃
    each_same (suc (suc (suc (suc q)))) h = absurd (omega arith)

    by : Dec (k < 256) → holds a k ≡ holds b k
    by (yes h) = held a k h ∙ (ap (λ (x : ℕ). eqb (bit x (k % 64)) 1) (each_same (k / 64) (omega arith)) ∙ sym (held b k h))
    by (no n) = past a k (omega arith) ∙ sym (past b k (omega arith))

pub holds_none : (k : ℕ) → holds none_held k ≡ false
holds_none k = by (dec_lt k 256)
  where
    by : Dec (k < 256) → holds none_held k ≡ false
    by (yes h) = held none_held k h ∙ ap (λ (x : ℕ). eqb x 1) (ap (λ (x : ℕ). bit x (k % 64)) (zeros (k / 64)) ∙ zero_bit (k % 64))
    by (no n) = past none_held k (omega arith)

pub words_empty : (w : List ℕ) → get_or w 0 0 ≡ 0 → get_or w 1 0 ≡ 0 → get_or w 2 0 ≡ 0 → get_or w 3 0 ≡ 0 → (k : ℕ) → holds w k ≡ false
words_empty w e₀ e₁ e₂ e₃ k = same_words_lem w none_held e₀ e₁ e₂ e₃ k ∙ holds_none k

-- a bit of the words' union and intersection
low : (z q m : ℕ) → z ≡ q * 2 + m → m < 2 → z % 2 ≡ m
low z q m e h = omega arith

or_bit : (a b k : ℕ) → bit (bit_or a b) k ≡ max (bit a k) (bit b k)
or_bit a b k = rw or_shr (low _ _ _ (or_step (a / 2 ^ k) (b / 2 ^ k)) (omega arith))

and_bit : (a b k : ℕ) → bit (bit_and a b) k ≡ min (bit a k) (bit b k)
and_bit a b k = rw and_shr (low _ _ _ (and_step (a / 2 ^ k) (b / 2 ^ k)) (omega arith))

either_one : (x y : ℕ) → x < 2 → y < 2 → eqb (max x y) 1 ≡ (eqb x 1 || eqb y 1)
either_one zero zero h k = refl
either_one zero (suc zero) h k = refl
either_one (suc zero) zero h k = refl
either_one (suc zero) (suc zero) h k = refl
either_one zero (suc (suc y)) h k = absurd (omega arith)
either_one (suc zero) (suc (suc y)) h k = absurd (omega arith)
either_one (suc (suc x)) y h k = absurd (omega arith)

pub holds_or : (a b : List ℕ) (k : ℕ) → holds (each bit_or a b) k ≡ (holds a k || holds b k)
holds_or a b k = by (dec_lt k 256)
  where
    by : Dec (k < 256) → holds (each bit_or a b) k ≡ (holds a k || holds b k)
    by (yes h) =
        let x = get_or a (k / 64) 0 in
        let y = get_or b (k / 64) 0 in
        held (each bit_or a b) k h
        ∙ (ap (λ (z : ℕ). eqb z 1) (ap (λ (z : ℕ). bit z (k % 64)) (each_at bit_or a b (k / 64) (omega arith)) ∙ or_bit x y (k % 64))
        ∙ (either_one (bit x (k % 64)) (bit y (k % 64)) (omega arith) (omega arith) ∙ sym (ap₂ ◌||◌ (held a k h) (held b k h))))
    by (no n) = let p : 256 ≤ k = omega arith in past (each bit_or a b) k p ∙ sym (ap₂ ◌||◌ (past a k p) (past b k p))

-- a power of two has one bit
pow_bit_same : (j : ℕ) → bit (2 ^ j) j ≡ 1
pow_bit_same j = ap (λ (x : ℕ). x % 2) (div_self (pow_pos j))

pow_bit_above : (e k : ℕ) → bit (2 ^ (suc e + k)) k ≡ 0
pow_bit_above e k =
    ap (λ (x : ℕ). x / 2 ^ k % 2) (pow-add 2 (suc e) k)
    ∙ (ap (λ (x : ℕ). x % 2) (mul-div_cancel (2 ^ suc e) (pow_pos k)) ∙ (ap (λ (x : ℕ). x % 2) (pow-succ' 2 e) ∙ mul-mod_right 2 (2 ^ e)))

pow_bit_other : (j k : ℕ) → (k ≡ j → ⊥) → bit (2 ^ j) k ≡ 0
pow_bit_other j k ne = by (dec_lt j k)
  where
    by : Dec (j < k) → bit (2 ^ j) k ≡ 0
    by (yes h) = ap (λ (x : ℕ). x % 2) (div-eq_of_lt (pow-lt h))
    by (no n) = let e : j ≡ suc (j - k - 1) + k = omega arith in ap (λ (x : ℕ). bit (2 ^ x) k) e ∙ pow_bit_above (j - k - 1) k

-- the words of one number
abbrev pub only : ℕ → List ℕ
only i = set none_held (i / 64) ((1 * 2 ^ (i % 64)) % 18446744073709551616)

only_word : (i : ℕ) → (1 * 2 ^ (i % 64)) % 18446744073709551616 ≡ 2 ^ (i % 64)
only_word i = ap (λ (x : ℕ). x % 18446744073709551616) (one-mul (2 ^ (i % 64))) ∙ mod-eq_of_lt (pow-lt {i = i % 64} {j = 64} (omega arith))

pub holds_only : (i k : ℕ) → i < 256 → holds (only i) k ≡ eqb k i
holds_only i k l = by (dec_lt k 256) (dec_lt (k / 64) (i / 64)) (dec_lt (i / 64) (k / 64)) (dec_lt k i) (dec_lt i k)
  where
    word : ℕ
    word = (1 * 2 ^ (i % 64)) % 18446744073709551616

    elsewhere : k < 256 → (k / 64 ≡ i / 64 → ⊥) → holds (only i) k ≡ eqb k i
    elsewhere h ne =
        held (only i) k h
        ∙ (ap (λ (x : ℕ). eqb x 1) (ap (λ (x : ℕ). bit x (k % 64)) (get_or-set_other none_held (i / 64) (k / 64) word 0 ne ∙ zeros (k / 64)) ∙ zero_bit (k % 64))
        ∙ sym (ne_eqb k i (λ e. ne (ap (λ (x : ℕ). x / 64) e))))

    there : k < 256 → k / 64 ≡ i / 64 → get_or (only i) (k / 64) 0 ≡ 2 ^ (i % 64)
    there h e = ap (λ (x : ℕ). get_or (only i) x 0) e ∙ (get_or-set_same none_held (i / 64) word 0 (omega arith) ∙ only_word i)

    by : Dec (k < 256) → Dec (k / 64 < i / 64) → Dec (i / 64 < k / 64) → Dec (k < i) → Dec (i < k) → holds (only i) k ≡ eqb k i
    by (no n) _ _ _ _ = past (only i) k (omega arith) ∙ sym (ne_eqb k i (λ e. omega arith))
    by (yes h) (yes p) _ _ _ = elsewhere h (λ e. omega arith)
    by (yes h) (no _) (yes p) _ _ = elsewhere h (λ e. omega arith)
    by (yes h) (no p) (no q) (yes r) _ =
        held (only i) k h
        ∙ (ap (λ (x : ℕ). eqb (bit x (k % 64)) 1) (there h (omega arith))
        ∙ (ap (λ (x : ℕ). eqb x 1) (pow_bit_other (i % 64) (k % 64) (λ e. omega arith)) ∙ sym (ne_eqb k i (λ e. omega arith))))
    by (yes h) (no p) (no q) (no _) (yes r) =
        held (only i) k h
        ∙ (ap (λ (x : ℕ). eqb (bit x (k % 64)) 1) (there h (omega arith))
        ∙ (ap (λ (x : ℕ). eqb x 1) (pow_bit_other (i % 64) (k % 64) (λ e. omega arith)) ∙ sym (ne_eqb k i (λ e. omega arith))))
    by (yes h) (no p) (no q) (no r) (no s) =
        let same : i % 64 ≡ k % 64 = omega arith in
        held (only i) k h
        ∙ (ap (λ (x : ℕ). eqb (bit x (k % 64)) 1) (there h (omega arith) ∙ ap (λ (x : ℕ). 2 ^ x) same)
        ∙ (ap (λ (x : ℕ). eqb x 1) (pow_bit_same (k % 64)) ∙ sym (eq-eqb k i (omega arith))))

some_bit : (s n : ℕ) → n < 2 ^ s → (n ≡ 0 → ⊥) → (k : ℕ) × (k < s) × (bit n k ≡ 1)
some_bit zero n h ne = absurd (ne (omega arith))
some_bit (suc s) n h ne = by (dec_lt 0 (n % 2)) (some_bit s (n / 2))
  where
    by : Dec (0 < n % 2) → (n / 2 < 2 ^ s → (n / 2 ≡ 0 → ⊥) → (k : ℕ) × (k < s) × (bit (n / 2) k ≡ 1)) → (k : ℕ) × (k < suc s) × (bit n k ≡ 1)
    by (yes l) rest = (0, omega arith, ap (λ (x : ℕ). x % 2) (div-one n) ∙ omega arith)
    by (no l) rest =
        let r = rest (omega (arith, pow-succ' 2 s)) (λ e. ne (omega arith)) in (
          suc r.0,
          omega (arith, r.1),
          ap (λ (x : ℕ). n / x % 2) (pow-succ' 2 r.0)
              ∙ (ap (λ (x : ℕ). x % 2) (sym (div-div-eq-div-mul n 2 (2 ^ r.0))) ∙ r.2),
        )

pub in_common : (a b : ℕ) → a < 2 ^ 64 → (bit_and a b ≡ 0 → ⊥) → Common true a b
in_common a b h ne =
    let r = some_bit 64 (bit_and a b) (omega (arith, and_le_l a b)) ne in
    let e = and_bit a b r.0 in
    let o = r.2 in
    (r.0, r.1, omega arith, omega arith)

pub not_common : (a b : ℕ) → bit_and a b ≡ 0 → Common false a b
not_common a b e k p q =
    let z = and_bit a b k in
    let y : bit (bit_and a b) k ≡ 0 = ap (λ (x : ℕ). bit x k) e ∙ zero_bit k in
    omega arith

pub settled : (a b : ℕ) {r s : Bool} → r ≡ s → Common r a b → Common s a b
settled a b e c = subst (λ (r : Bool). Common r a b) e c

-- lists of numbers that meet
meet_at : (k : ℕ) (xs ys : List ℕ) → member k xs ≡ true → member k ys ≡ true → meet xs ys ≡ true
unfolding meet member
meet_at k [] ys p q = absurd (false≢true p)
meet_at k (x ∷ xs) ys p q = by (eqb k x) refl p (λ h. meet_at k xs ys h q)
  where
    by : (b : Bool) → eqb k x ≡ b → (b || member k xs) ≡ true → (member k xs ≡ true → meet xs ys ≡ true) → (member x ys || meet xs ys) ≡ true
    by true e h rest = ap (λ c. c || meet xs ys) (ap (λ (z : ℕ). member z ys) (sym (eqb-true k x e)) ∙ q)
    by false e h rest = ap (λ c. member x ys || c) (rest h) ∙ or-true (member x ys)

meet_never : (xs ys : List ℕ) → ((k : ℕ) → member k xs ≡ true → member k ys ≡ true → ⊥) → meet xs ys ≡ false
unfolding meet member
meet_never [] ys h = refl
meet_never (x ∷ xs) ys h = by (member x ys) refl (meet_never xs ys (λ k p q. h k (ap (λ c. eqb k x || c) p ∙ or-true (eqb k x)) q))
  where
    by : (b : Bool) → member x ys ≡ b → meet xs ys ≡ false → (b || meet xs ys) ≡ false
    by true e rest = absurd (h x (ap (λ c. c || member x xs) (eq-eqb x x refl)) e)
    by false e rest = rest

-- the words a and b hold the numbers of two lists
module _ (a b : List ℕ) (xs ys : List ℕ) (shows_a : (k : ℕ) → holds a k ≡ member k xs) (shows_b : (k : ℕ) → holds b k ≡ member k ys) where
  pub words_meet : (q : ℕ) → q < 4 → Common true (get_or a q 0) (get_or b q 0) → meet xs ys ≡ true
  words_meet q h c =
      let k = 64 * q + c.0 in
      let l = c.1 in
      let d : k / 64 ≡ q = omega arith in
      let m : k % 64 ≡ c.0 = omega arith in
      meet_at k xs ys (sym (shows_a k) ∙ in_word a k (omega arith) (rw (d, m) c.2)) (sym (shows_b k) ∙ in_word b k (omega arith) (rw (d, m) c.3))
    where
      in_word : (w : List ℕ) (k : ℕ) → k < 256 → bit (get_or w (k / 64) 0) (k % 64) ≡ 1 → holds w k ≡ true
      in_word w k h e = held w k h ∙ eq-eqb _ 1 e

  pub words_apart : Common false (get_or a 0 0) (get_or b 0 0) → Common false (get_or a 1 0) (get_or b 1 0) → Common false (get_or a 2 0) (get_or b 2 0)
      → Common false (get_or a 3 0) (get_or b 3 0) → meet xs ys ≡ false
  words_apart c₀ c₁ c₂ c₃ = meet_never xs ys (λ k p q. by k (shows_a k ∙ p) (shows_b k ∙ q) (dec_lt k 256))
    where
      each_apart : (j : ℕ) → j < 4 → Common false (get_or a j 0) (get_or b j 0)
      each_apart zero l = c₀
      each_apart (suc zero) l = c₁
      each_apart (suc (suc zero)) l = c₂
      each_apart (suc (suc (suc zero))) l = c₃
      each_apart (suc (suc (suc (suc j)))) l = absurd (omega arith)

      by : (k : ℕ) → holds a k ≡ true → holds b k ≡ true → Dec (k < 256) → ⊥
      by k p q (yes l) = each_apart (k / 64) (omega arith) (k % 64) (eqb-true _ 1 (sym (held a k l) ∙ p)) (eqb-true _ 1 (sym (held b k l) ∙ q))
      by k p q (no n) = false≢true (sym (past a k (omega arith)) ∙ p)
