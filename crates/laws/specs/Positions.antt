-- Laws of positions: offset, line and column determine each other.
-- Assumes nothing.
use Rattle.std.specs.Prelude.{ℕ, zero, suc, ◌+◌, ◌-◌, ◌<◌, ◌≤◌, ◌≡◌, refl, true, false, List, [], ◌∷◌, length, get_or, drop}
use Rattle.std.proofs.Common.{sym, ap, ◌∙◌, arith, eq-eqb, ne_eqb, length-drop}
use Rattle.std.proofs.Math.Decide.{ℕ_discrete, dec_lt}
use Rattle.rules.specs.Positions.{Position, position, line_end, origin, behind, further, position_at, elsewhere, position_of}
use Rattle.rules.specs.Whole.Sets.{member}

-- whether a number is among others, by the first of them
pub member_first : (n m : ℕ) (ms : List ℕ) → n ≡ m → member n (m ∷ ms) ≡ true
unfolding member
member_first n m ms e = rw (member, eq-eqb n m e)

pub member_none : (n : ℕ) → member n [] ≡ false
unfolding member
member_none n = refl

pub member_rest : (n m : ℕ) (ms : List ℕ) → (n ≡ m → ⊥) → member n (m ∷ ms) ≡ member n ms
unfolding member
member_rest n m ms e = rw (member, ne_eqb n m e)

-- line and column by the number
pub position_elsewhere : (text : List ℕ) (number place : ℕ) → member number elsewhere ≡ true → position_of text number place ≡ origin
unfolding position_of
position_elsewhere text number place e = rw (position_of, e)

pub position_in_text : (text : List ℕ) (number place : ℕ) → member number elsewhere ≡ false → position_of text number place ≡ position_at text place
unfolding position_of
position_in_text text number place e = rw (position_of, e)

-- one byte on, by the byte
pub line_ended : (b : ℕ) (p : Position) → b ≡ line_end → behind b p ≡ position (p.line + 1) 1
unfolding behind
line_ended b p e = rw (behind, eq-eqb b line_end e)

pub line_goes_on : (b : ℕ) (p : Position) → (b ≡ line_end → ⊥) → behind b p ≡ position p.line (p.column + 1)
unfolding behind
line_goes_on b p n = rw (behind, ne_eqb b line_end n)

-- q is n bytes behind p: a line or more below it, or n columns to its right
pub record Behind (p q : Position) (n : ℕ) : Type 0 where
  pub below : p.line ≤ q.line
  pub right : p.line ≡ q.line → q.column ≡ p.column + n

one_behind : (b : ℕ) (p : Position) → Behind p (behind b p) 1
one_behind b p =
    elim (ℕ_discrete b line_end) [
      | yes e ↦ rw (line_ended b p e) (record { below = omega arith; right = λ z. absurd (omega arith) })
      | no n ↦ rw (line_goes_on b p n) (record { below = omega arith; right = λ z. refl })
    ]

after_behind : (p : Position) (text : List ℕ) (n : ℕ) → n ≤ length text → Behind p (further p text n) n
unfolding further
after_behind p text zero h = record { below = omega arith; right = λ e. omega arith }
after_behind p [] (suc n) h = absurd (omega arith)
after_behind p (b ∷ text) (suc n) h =
    let one = one_behind b p in
    let more = after_behind (behind b p) text n (omega arith) in
    record {
      below = omega (arith, one.below, more.below);
      right = λ e. let l : p.line ≡ (behind b p).line = omega (arith, one.below, more.below) in
          omega (arith, one.right l, more.right (omega arith));
    }

-- an offset in two parts
after_sum : (p : Position) (text : List ℕ) (n k : ℕ) → n + k ≤ length text → further p text (n + k) ≡ further (further p text n) (drop n text) k
unfolding further
after_sum p text zero k h = let same : 0 + k ≡ k = omega arith in ap (further p text) same
after_sum p [] (suc n) k h = absurd (omega arith)
after_sum p (b ∷ text) (suc n) k h =
    let more : suc n + k ≡ suc (n + k) = omega arith in
    ap (further p (b ∷ text)) more ∙ after_sum (behind b p) text n k (omega arith)

-- one byte more, and the end
pub after_one : (p : Position) (text : List ℕ) (n : ℕ) → n < length text → further p text (n + 1) ≡ behind (get_or text n 0) (further p text n)
unfolding further
after_one p [] n h = absurd (omega arith)
after_one p (b ∷ text) zero h = refl
after_one p (b ∷ text) (suc n) h =
    let more : suc n + 1 ≡ suc (n + 1) = omega arith in
    ap (further p (b ∷ text)) more ∙ after_one (behind b p) text n (omega arith)

pub after_end : (p : Position) (text : List ℕ) (n : ℕ) → length text ≤ n → further p text n ≡ further p text (length text)
unfolding further
after_end p [] zero h = refl
after_end p [] (suc n) h = refl
after_end p (b ∷ text) zero h = absurd (omega arith)
after_end p (b ∷ text) (suc n) h = after_end (behind b p) text n (omega arith)

-- two offsets of one text with the same line and column are equal
ordered : (text : List ℕ) (m n : ℕ) → m ≤ n → n ≤ length text → position_at text m ≡ position_at text n → m ≡ n
ordered text m n l h e =
    let k = n - m in
    let here = position_at text m in
    let split : position_at text n ≡ further here (drop m text) k = ap (position_at text) (omega arith) ∙ after_sum (position 1 1) text m k (omega arith) in
    let apart = after_behind here (drop m text) k (omega (arith, length-drop m text)) in
    let same : here ≡ further here (drop m text) k = e ∙ split in
    omega (arith, apart.right (ap (λ p. p.line) same), ap (λ p. p.column) same)

pub one_offset : (text : List ℕ) (m n : ℕ) → m ≤ length text → n ≤ length text → position_at text m ≡ position_at text n → m ≡ n
one_offset text m n hm hn e =
    elim (dec_lt n m) [
      | yes l ↦ sym (ordered text n m (omega arith) hm (sym e))
      | no l ↦ ordered text m n (omega arith) hn e
    ]
