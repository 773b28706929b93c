-- Laws of one block: that of a payload is sound, a sound block is that of the payload it holds, and one changed byte breaks its check.
-- Assumes nothing.
use Prim.Native.Nat.{ℕ, zero, suc, ◌+◌, ◌-◌, ◌/◌, ◌%◌, ◌<◌, ◌≤◌}
use Rattle.std.specs.Prelude.{◌≡◌, Bool, true, false, ◌&&◌, eqb, take, set, replicate}
use Rattle.std.proofs.Math.Path.{refl, sym, ap, ap₂}
use Rattle.std.proofs.Common.{◌∙◌, arith, eqb-true, eq-eqb, ne_eqb, take-append-drop, length-take-le, take_all, drop-drop}
use mathlib.Core.List.{List, [], ◌∷◌, ◌++◌, append_assoc, append-nil}
use Rattle.std.proofs.Math.Option.{none, some}
use Rattle.std.proofs.Math.Decide.{dec_lt}
use Rattle.std.proofs.Math.ListN.{length, get_or, drop, length-append, length-take, length-drop}
use Rattle.std.proofs.lemmas.List.{length-replicate, take-append-le, drop-append-le, take-set-le}
use Rattle.std.proofs.Math.Seq.{take_at, drop_at, take-set-lt, drop-set-lt, drop-set-add, get_or-drop, get_or-take}
use Rattle.rules.specs.Answers.{little_endian, bytes_of}
use Rattle.laws_accepted.proofs.Accepted.Named.{and_both}
use Rattle.buffers.specs.Laws.Buffers.{bytes_back}
use Rattle.rules.specs.Images.{payload_size, head_size, checked_size, block_size, edition, check_of, front_of, block_of, is_checked, all_zero, is_formed, fault_by, block_fault}
use Rattle.blocks.specs.Laws.Sums.{Bytes, length_bytes, number_front, check_bounded, check_changed, number_changed}

-- bytes, part by part
pub bytes_cons : (b : ℕ) (bs : List ℕ) → b < 256 → Bytes bs → Bytes (b ∷ bs)
bytes_cons b bs h each zero = h
bytes_cons b bs h each (suc i) = each i

pub bytes_append : (xs ys : List ℕ) → Bytes xs → Bytes ys → Bytes (xs ++ ys)
bytes_append [] ys hx hy = hy
bytes_append (x ∷ xs) ys hx hy = bytes_cons x (xs ++ ys) (hx 0) (bytes_append xs ys (λ i. hx (suc i)) hy)

bytes_none : Bytes []
bytes_none zero = omega arith
bytes_none (suc i) = omega arith

bytes_zeros : (n : ℕ) → Bytes (replicate n 0)
bytes_zeros zero = bytes_none
bytes_zeros (suc n) = bytes_cons 0 (replicate n 0) (omega arith) (bytes_zeros n)

bytes_number : (w v : ℕ) → Bytes (bytes_of w v)
unfolding bytes_of
bytes_number zero v = bytes_none
bytes_number (suc w) v = bytes_cons (v % 256) (bytes_of w (v / 256)) (omega arith) (bytes_number w (v / 256))

pub bytes_take : (n : ℕ) (bs : List ℕ) → Bytes bs → Bytes (take n bs)
bytes_take zero bs each = bytes_none
bytes_take (suc n) [] each = bytes_none
bytes_take (suc n) (b ∷ bs) each = bytes_cons b (take n bs) (each 0) (bytes_take n bs (λ i. each (suc i)))

pub bytes_drop : (n : ℕ) (bs : List ℕ) → Bytes bs → Bytes (drop n bs)
bytes_drop n bs each i = rw get_or-drop (each (n + i))

pub bytes_set : (bs : List ℕ) (j v : ℕ) → Bytes bs → v < 256 → Bytes (set bs j v)
bytes_set [] j v each h = bytes_none
bytes_set (b ∷ bs) zero v each h = bytes_cons v bs h (λ i. each (suc i))
bytes_set (b ∷ bs) (suc j) v each h = bytes_cons b (set bs j v) (each 0) (bytes_set bs j v (λ i. each (suc i)) h)

-- padding
zeros_zero : (n : ℕ) → all_zero (replicate n 0) ≡ true
unfolding all_zero
zeros_zero zero = refl
zeros_zero (suc n) = zeros_zero n

zero_zeros : (bs : List ℕ) → all_zero bs ≡ true → bs ≡ replicate (length bs) 0
unfolding all_zero
zero_zeros [] h = refl
zero_zeros (b ∷ bs) h = let both = and_both (eqb b 0) (all_zero bs) h in ap₂ ◌∷◌ (eqb-true b 0 both.0) (zero_zeros bs both.1)

-- what 64 asks
pub record Formed (n used : ℕ) (front : List ℕ) : Type 0 where
  pub number : get_or front 0 0 ≡ n
  pub edited : get_or front 1 0 ≡ edition
  pub count : little_endian 2 (drop 2 front) ≡ used
  pub padding : all_zero (drop (head_size + used) front) ≡ true

both_true : {a b : Bool} → a ≡ true → b ≡ true → (a && b) ≡ true
both_true p q = rw (p, q)

formed_is : {n used : ℕ} {front : List ℕ} → Formed n used front → is_formed n used front ≡ true
unfolding is_formed
formed_is f =
    both_true (eq-eqb _ _ f.number) (both_true (eq-eqb _ _ f.edited) (both_true (eq-eqb _ _ f.count) f.padding))

is_formed_lem : (n used : ℕ) (front : List ℕ) → is_formed n used front ≡ true → Formed n used front
unfolding is_formed
is_formed_lem n used front h =
    let a = and_both _ _ h in
    let b = and_both _ _ a.1 in
    let c = and_both _ _ b.1 in
    record { number = eqb-true _ _ a.0; edited = eqb-true _ _ b.0; count = eqb-true _ _ c.0; padding = c.1 }

-- the block of a payload
module _ (n : ℕ) (payload : List ℕ) (fits : length payload ≤ payload_size) where
  pub length_front : length (front_of n payload) ≡ checked_size
  unfolding front_of
  length_front = simp (length-append, length_bytes, length-replicate) (omega arith)

  pub length_block : length (block_of n payload) ≡ block_size
  unfolding block_of
  length_block = length-append (front_of n payload) (bytes_of 4 (check_of (front_of n payload))) ∙ ap₂ ◌+◌ length_front (length_bytes 4 (check_of (front_of n payload)))

  pub front_of_block : take checked_size (block_of n payload) ≡ front_of n payload
  unfolding block_of
  front_of_block = take_at (front_of n payload) (bytes_of 4 (check_of (front_of n payload))) checked_size length_front

  check_of_block : drop checked_size (block_of n payload) ≡ bytes_of 4 (check_of (front_of n payload))
  unfolding block_of
  check_of_block = drop_at (front_of n payload) (bytes_of 4 (check_of (front_of n payload))) checked_size length_front

  abbrev zeros : List ℕ
  zeros = replicate (payload_size - length payload) 0

  abbrev used_part : List ℕ
  used_part = n ∷ edition ∷ (bytes_of 2 (length payload) ++ payload)

  front_parts : front_of n payload ≡ used_part ++ zeros
  unfolding front_of
  front_parts = ap (λ l. n ∷ edition ∷ l) (sym (append_assoc (bytes_of 2 (length payload)) payload zeros))

  length_used : length used_part ≡ head_size + length payload
  length_used = simp (length-append, length_bytes) (omega arith)

  formed_front : Formed n (length payload) (front_of n payload)
  unfolding front_of
  formed_front = record {
    number = refl;
    edited = refl;
    count = number_front 2 (length payload) (payload ++ zeros) (omega arith);
    padding = ap all_zero (ap (drop (head_size + length payload)) front_parts ∙ drop_at used_part zeros (head_size + length payload) length_used)
        ∙ zeros_zero (payload_size - length payload);
  }

  -- the payload stands behind the head
  pub payload_of_block : take (length payload) (drop head_size (block_of n payload)) ≡ payload
  unfolding block_of front_of bytes_of
  payload_of_block =
      ap (take (length payload)) (append_assoc payload zeros (bytes_of 4 (check_of (front_of n payload))))
      ∙ take_at payload _ (length payload) refl

  module _ (small : n < 256) (each : Bytes payload) where
    bytes_front : Bytes (front_of n payload)
    unfolding front_of
    bytes_front =
        let rest = bytes_of 2 (length payload) ++ (payload ++ zeros) in
        bytes_cons n (edition ∷ rest) small (bytes_cons edition rest (omega arith)
        (bytes_append (bytes_of 2 (length payload)) (payload ++ zeros) (bytes_number 2 (length payload))
        (bytes_append payload zeros each (bytes_zeros (payload_size - length payload)))))

    checked_block : is_checked (block_of n payload) ≡ true
    unfolding is_checked
    checked_block =
        rw (front_of_block, check_of_block) (eq-eqb _ _
        (ap (little_endian 4) (sym (append-nil (bytes_of 4 (check_of (front_of n payload)))))
        ∙ number_front 4 (check_of (front_of n payload)) [] (check_bounded (front_of n payload) bytes_front (omega (arith, length_front)))))

    pub block_sound : block_fault n (length payload) (block_of n payload) ≡ none
    block_sound = ap₂ fault_by checked_block (ap (is_formed n (length payload)) front_of_block ∙ formed_is formed_front)

-- a block that is not refused
sound_both : (a b : Bool) → fault_by a b ≡ none → (a ≡ true) × (b ≡ true)
sound_both false b e = let z : ◌≡◌ {A = ℕ} 0 1 = cc in absurd (omega arith)
sound_both true false e = let z : ◌≡◌ {A = ℕ} 0 1 = cc in absurd (omega arith)
sound_both true true e = (refl, refl)

front_is : (n used : ℕ) (front : List ℕ) → length front ≡ checked_size → used ≤ payload_size → Bytes front → Formed n used front
    → front ≡ front_of n (take used (drop head_size front))
unfolding front_of
front_is n used [] l h each f = absurd (omega arith)
front_is n used (a ∷ []) l h each f = absurd (omega arith)
front_is n used (a ∷ b ∷ rest) l h each f =
    let part = take used (drop 2 rest) in
    let long : length part ≡ used = length-take-le used (drop 2 rest) (omega (arith, length-drop 2 rest)) in
    let padding : all_zero (drop used (drop 2 rest)) ≡ true = ap all_zero (drop-drop used head_size (a ∷ b ∷ rest)) ∙ f.padding in
    let left : length (drop used (drop 2 rest)) ≡ payload_size - length part = omega (arith, length-drop used (drop 2 rest), length-drop 2 rest) in
    let zeros : drop used (drop 2 rest) ≡ replicate (payload_size - length part) 0 =
    zero_zeros (drop used (drop 2 rest)) padding ∙ ap (λ k. replicate k 0) left in
    let counted : take 2 rest ≡ bytes_of 2 (length part) = sym (bytes_back 2 rest (omega arith) (λ i. each (suc (suc i)))) ∙ ap (bytes_of 2) (f.count ∙ sym long) in
    ap₂ ◌∷◌ f.number (ap₂ ◌∷◌ f.edited
    (sym (take-append-drop 2 rest) ∙ ap₂ ◌++◌ counted (sym (take-append-drop used (drop 2 rest)) ∙ ap (λ z. part ++ z) zeros)))

-- a payload within the first s bytes
pub payload_within : (s used : ℕ) (bytes : List ℕ) → s ≤ length bytes → head_size + used ≤ s
    → take used (drop head_size (take s bytes)) ≡ take used (drop head_size bytes)
payload_within s used bytes l h =
    let front = take s bytes in
    let long : length front ≡ s = length-take-le s bytes l in
    sym (ap (λ b. take used (drop head_size b)) (sym (take-append-drop s bytes))
    ∙ ap (take used) (drop-append-le head_size front (drop s bytes) (omega arith))
    ∙ take-append-le used (drop head_size front) (drop s bytes) (omega (arith, length-drop head_size front)))

is_checked_lem : (block : List ℕ) → is_checked block ≡ true → little_endian 4 (drop checked_size block) ≡ check_of (take checked_size block)
unfolding is_checked
is_checked_lem block h = eqb-true _ _ h

pub sound_block : (n used : ℕ) (block : List ℕ) → length block ≡ block_size → used ≤ payload_size → Bytes block → block_fault n used block ≡ none
    → block ≡ block_of n (take used (drop head_size block))
unfolding block_of
sound_block n used block l h each e =
    let both = sound_both (is_checked block) (is_formed n used (take checked_size block)) e in
    let front = take checked_size block in
    let tail = length-drop checked_size block in
    let long : length front ≡ checked_size = length-take-le checked_size block (omega arith) in
    let f : front ≡ front_of n (take used (drop head_size front)) =
    front_is n used front long h (bytes_take checked_size block each) (is_formed_lem n used front both.1) in
    let held : take used (drop head_size front) ≡ take used (drop head_size block) = payload_within checked_size used block (omega arith) (omega arith) in
    let check : drop checked_size block ≡ bytes_of 4 (check_of front) =
    sym (take_all 4 (drop checked_size block) (omega (arith, tail)))
    ∙ sym (bytes_back 4 (drop checked_size block) (omega (arith, tail)) (bytes_drop checked_size block each)) ∙ ap (bytes_of 4) (is_checked_lem block both.0) in
    sym (take-append-drop checked_size block) ∙ ap₂ ◌++◌ (f ∙ ap (front_of n) held) (check ∙ ap (λ x. bytes_of 4 (check_of x)) (f ∙ ap (front_of n) held))

-- one changed byte
module _ (block : List ℕ) (j v : ℕ) (l : length block ≡ block_size) (each : Bytes block) (small : v < 256) (new : v ≡ get_or block j 0 → ⊥)
    (was : little_endian 4 (drop checked_size block) ≡ check_of (take checked_size block)) where
  changed_front : j < checked_size → is_checked (set block j v) ≡ false
  unfolding is_checked
  changed_front h =
      rw (take-set-lt checked_size block j v h, drop-set-lt checked_size block j v h) (ne_eqb _ _ (λ e.
      check_changed (take checked_size block) j v (omega (arith, length-take checked_size block)) (λ x. new (x ∙ get_or-take checked_size block j 0 h)) (sym e ∙ was)))

  changed_check : (i : ℕ) → j ≡ checked_size + i → i < 4 → is_checked (set block j v) ≡ false
  unfolding is_checked
  changed_check i e h =
      let tail = drop checked_size block in
      rw (take-set-le checked_size block j v (omega arith)) (rw e (rw drop-set-add (ne_eqb _ _ (λ x.
      number_changed 4 tail i v (omega (arith, length-drop checked_size block)) (bytes_drop checked_size block each)
      (bytes_set tail i v (bytes_drop checked_size block each) small) h (λ y. new (y ∙ get_or-drop checked_size block i 0 ∙ ap (λ k. get_or block k 0) (sym e))) (x ∙ sym was)))))

  pub block_changed : j < block_size → (n used : ℕ) → block_fault n used (set block j v) ≡ some 63
  block_changed h n used = by (dec_lt j checked_size)
    where
      by : Dec (j < checked_size) → block_fault n used (set block j v) ≡ some 63
      by (yes lt) = ap (λ t. fault_by t (is_formed n used (take checked_size (set block j v)))) (changed_front lt)
      by (no ge) = ap (λ t. fault_by t (is_formed n used (take checked_size (set block j v)))) (changed_check (j - checked_size) (omega arith) (omega arith))

pub sound_checked : (n used : ℕ) (block : List ℕ) → block_fault n used block ≡ none → little_endian 4 (drop checked_size block) ≡ check_of (take checked_size block)
sound_checked n used block e = is_checked_lem block (sound_both (is_checked block) (is_formed n used (take checked_size block)) e).0
