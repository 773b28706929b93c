-- Numbers in the bytes of a block.
-- Assumes nothing.
use Rattle.std.specs.Prelude.{ℕ, zero, suc, ◌+◌, ◌-◌, ◌*◌, ◌/◌, ◌%◌, ◌<◌, ◌≤◌, ◌≡◌, List, [], ◌∷◌, ◌++◌, false, ◌&&◌, length, get_or, take, drop, set, replicate}
use Rattle.std.proofs.Common.{sym, ap, ◌∙◌, append-nil, append_assoc, arith, eq-eqb, ne_eqb, length-drop, length-append, length-set, take-append-drop, drop_of_length-le, get_or-take, length-take-le, drop-drop, take_at, drop_at}
use Rattle.std.proofs.Math.Path.{ap₂}
use Rattle.std.proofs.Math.Dec.{eqb}
use Rattle.std.proofs.lemmas.List.{length-replicate, replicate-append-replicate}
use Rattle.std.proofs.Math.Seq.{take-nil, take-length, paste}
use Rattle.cells.specs.Cells.{le_at, put_at, cell, put_cell}
use Rattle.rules.specs.Answers.{little_endian, bytes_of}
use Rattle.buffers.specs.Laws.Buffers.{number_at}
use Rattle.lent.specs.Laws.Bytes.{put_behind, byte_step}
use Rattle.rules.specs.Images.{payload_size, head_size, checked_size, block_size, edition, front_of, block_of, check_of, is_formed, all_zero}
use Rattle.blocks.specs.Laws.Sums.{length_bytes}
use Rattle.blocks.specs.Laws.Blocks.{length_front}

-- a part of a front
drop_take : (m n : ℕ) (l : List ℕ) → drop m (take n l) ≡ take (n - m) (drop m l)
drop_take zero n l = let e : n ≡ n - 0 = omega arith in ap (λ k. take k l) e
drop_take (suc m) zero l = let e : 0 ≡ zero - suc m = omega arith in ap (λ k. take k (drop (suc m) l)) e
drop_take (suc m) (suc n) [] = sym (take-nil (suc n - suc m))
drop_take (suc m) (suc n) (x ∷ l) = let e : n - m ≡ suc n - suc m = omega arith in drop_take m n l ∙ ap (λ k. take k (drop m l)) e

-- a count within a front
count_read : (block : List ℕ) → cell 2 block 1 ≡ little_endian 2 (drop 2 (take checked_size block))
unfolding le_at
count_read block =
    sym (ap₂ (λ x y. x + 256 * (y + 256 * 0)) (get_or-take checked_size block 2 0 (omega arith)) (get_or-take checked_size block 3 0 (omega arith)))
    ∙ number_at 2 (take checked_size block) 2

-- the tests of 64, in their order
module _ (block : List ℕ) (n used : ℕ) where
  abbrev padding : List ℕ
  padding = take (checked_size - (head_size + used)) (drop (head_size + used) block)

  tests : is_formed n used (take checked_size block) ≡ (eqb (get_or block 0 0) n && (eqb (get_or block 1 0) edition && (eqb (cell 2 block 1) used && all_zero padding)))
  unfolding is_formed
  tests =
      ap₂ (λ x y. eqb x n && (eqb y edition && (eqb (little_endian 2 (drop 2 (take checked_size block))) used && all_zero (drop (head_size + used) (take checked_size block)))))
      (get_or-take checked_size block 0 0 (omega arith)) (get_or-take checked_size block 1 0 (omega arith))
      ∙ ap₂ (λ x y. eqb (get_or block 0 0) n && (eqb (get_or block 1 0) edition && (eqb x used && all_zero y)))
      (sym (count_read block)) (drop_take (head_size + used) checked_size block)

  pub other_number : (get_or block 0 0 ≡ n → ⊥) → false ≡ is_formed n used (take checked_size block)
  other_number h = sym (tests ∙ ap (λ t. t && (eqb (get_or block 1 0) edition && (eqb (cell 2 block 1) used && all_zero padding))) (ne_eqb _ _ h))

  pub other_edition : get_or block 0 0 ≡ n → (get_or block 1 0 ≡ edition → ⊥) → false ≡ is_formed n used (take checked_size block)
  other_edition a h = sym (tests ∙ ap₂ (λ t u. t && (u && (eqb (cell 2 block 1) used && all_zero padding))) (eq-eqb _ _ a) (ne_eqb _ _ h))

  pub other_count : get_or block 0 0 ≡ n → get_or block 1 0 ≡ edition → (cell 2 block 1 ≡ used → ⊥) → false ≡ is_formed n used (take checked_size block)
  other_count a b h =
      sym (tests ∙ ap₂ (λ t u. t && (u && (eqb (cell 2 block 1) used && all_zero padding))) (eq-eqb _ _ a) (eq-eqb _ _ b) ∙ ap (λ t. t && all_zero padding) (ne_eqb _ _ h))

  pub by_padding : get_or block 0 0 ≡ n → get_or block 1 0 ≡ edition → cell 2 block 1 ≡ used → all_zero padding ≡ is_formed n used (take checked_size block)
  by_padding a b c =
      sym (tests ∙ ap₂ (λ t u. t && (u && (eqb (cell 2 block 1) used && all_zero padding))) (eq-eqb _ _ a) (eq-eqb _ _ b) ∙ ap (λ t. t && all_zero padding) (eq-eqb _ _ c))

-- a check that is read in two halves
halves_read : (b : List ℕ) (o : ℕ) → le_at 2 b o + 65536 * le_at 2 b (o + 2) ≡ le_at 4 b o
unfolding le_at
halves_read b o =
    let e : o + 2 ≡ o + 1 + 1 = omega arith in
    let e' : o + 2 + 1 ≡ o + 1 + 1 + 1 = omega arith in
    let x = ap (λ i. get_or b i 0) e in
    let y = ap (λ i. get_or b i 0) e' in
    omega arith

pub check_read : (block : List ℕ) → cell 2 block 254 + 65536 * cell 2 block 255 ≡ little_endian 4 (drop checked_size block)
check_read block = halves_read block checked_size ∙ number_at 4 block checked_size

-- a check that is written in two halves
halves_written : (v : ℕ) → v < 4294967296 → bytes_of 2 (v % 65536) ++ bytes_of 2 (v / 65536 % 65536) ≡ bytes_of 4 v
unfolding bytes_of
halves_written v h =
    let low = v % 65536 in
    let high = v / 65536 in
    let s₀ = byte_step v low (256 * high) (omega arith) in
    let s₁ = byte_step (v / 256) (low / 256) high s₀.1 in
    let rest : v / 256 / 256 ≡ high = s₁.1 ∙ omega arith in
    let whole : high % 65536 ≡ high = omega arith in
    rw (whole, rest, s₀.0, s₁.0)

pub check_written : (block b₁ b₂ : List ℕ) (v : ℕ) → (length block ≡ block_size) × (v < 4294967296) → b₁ ≡ put_cell 2 block 254 (v % 65536) → b₂ ≡ put_cell 2 b₁ 255 (v / 65536 % 65536)
    → b₂ ≡ take checked_size block ++ bytes_of 4 v
check_written block b₁ b₂ v h e₁ e₂ =
    let front = take checked_size block in
    let tail = drop checked_size block in
    let long : length front ≡ checked_size = length-take-le checked_size block (omega arith) in
    let rest : length tail ≡ 4 = length-drop checked_size block ∙ omega arith in
    let low = bytes_of 2 (v % 65536) in
    let high = bytes_of 2 (v / 65536 % 65536) in
    let f₁ : b₁ ≡ front ++ (low ++ drop 2 tail) =
    e₁ ∙ ap (λ b. put_at 2 b checked_size (v % 65536)) (sym (take-append-drop checked_size block)) ∙ put_behind 2 front tail checked_size (v % 65536) (sym long) (omega arith) in
    let f₂ : b₂ ≡ (front ++ low) ++ (high ++ drop 2 (drop 2 tail)) =
    e₂ ∙ ap (λ b. put_at 2 b 510 (v / 65536 % 65536)) (f₁ ∙ sym (append_assoc front low (drop 2 tail)))
    ∙ put_behind 2 (front ++ low) (drop 2 tail) 510 (v / 65536 % 65536) (omega (arith, length-append front low, length_bytes 2 (v % 65536))) (omega (arith, length-drop 2 tail)) in
    let over : drop 2 (drop 2 tail) ≡ [] = drop_of_length-le (drop 2 tail) {i = 2} (omega (arith, length-drop 2 tail)) in
    f₂ ∙ ap (λ l. (front ++ low) ++ (high ++ l)) over ∙ ap (λ l. (front ++ low) ++ l) (append-nil high) ∙ append_assoc front low high
    ∙ ap (λ l. front ++ l) (halves_written v h.1)

-- the head of a block of zeros
pub head_put : (n used : ℕ) (block b₁ b₂ : List ℕ) → length block ≡ block_size → b₁ ≡ replicate (length block) 0
    → b₂ ≡ put_cell 2 (set (set b₁ 0 n) 1 edition) 1 used → b₂ ≡ n ∷ edition ∷ (bytes_of 2 used ++ replicate checked_size 0)
unfolding put_at bytes_of
head_put n used block b₁ b₂ l e₁ e₂ = e₂ ∙ ap (λ b. put_cell 2 (set (set b 0 n) 1 edition) 1 used) (e₁ ∙ ap (λ k. replicate k 0) l)

abbrev pub nulls : ℕ → List ℕ
nulls n = replicate n 0

drop_nulls : (m n : ℕ) → drop m (nulls n) ≡ nulls (n - m)
drop_nulls zero n = let e : n ≡ n - 0 = omega arith in ap nulls e
drop_nulls (suc m) zero = let e : 0 ≡ zero - suc m = omega arith in ap nulls e
drop_nulls (suc m) (suc n) = let e : n - m ≡ suc n - suc m = omega arith in drop_nulls m n ∙ ap nulls e

regroup : (a b c d : List ℕ) → (a ++ b) ++ (c ++ d) ≡ (a ++ (b ++ c)) ++ d
regroup a b c d = simp append_assoc

-- a payload behind the head
pub front_put : (n : ℕ) (part b₁ b₂ : List ℕ) → length part ≤ payload_size → b₁ ≡ n ∷ edition ∷ (bytes_of 2 (length part) ++ nulls checked_size)
    → b₂ ≡ paste b₁ head_size part (length part) → b₂ ≡ front_of n part ++ nulls 4
unfolding front_of
front_put n part b₁ b₂ fits e₁ e₂ =
    let count = bytes_of 2 (length part) in
    let head = n ∷ edition ∷ count in
    let rest = nulls checked_size in
    let zeros = nulls (payload_size - length part) in
    let long : length head ≡ head_size = ap (λ k. suc (suc k)) (length_bytes 2 (length part)) in
    let before : take head_size b₁ ≡ head = ap (take head_size) e₁ ∙ take_at head rest head_size long in
    let left : checked_size - length part ≡ payload_size - length part + 4 = omega arith in
    let behind : drop (head_size + length part) b₁ ≡ zeros ++ nulls 4 =
    sym (drop-drop (length part) head_size b₁) ∙ ap (λ l. drop (length part) l) (ap (drop head_size) e₁ ∙ drop_at head rest head_size long)
    ∙ drop_nulls (length part) checked_size ∙ ap nulls left ∙ sym (replicate-append-replicate (payload_size - length part) 4 0) in
    e₂ ∙ ap₂ (λ x y. (x ++ y) ++ drop (head_size + length part) b₁) before (take-length part) ∙ ap (λ l. (head ++ part) ++ l) behind
    ∙ ap (λ l. n ∷ edition ∷ l) (regroup count part zeros (nulls 4))

-- the check behind its front
pub block_put : (n sum : ℕ) (part b₁ b₂ : List ℕ) → length part ≤ payload_size → b₁ ≡ front_of n part ++ nulls 4 → sum ≡ check_of (take checked_size b₁)
    → b₂ ≡ take checked_size b₁ ++ bytes_of 4 sum → b₂ ≡ block_of n part
unfolding block_of
block_put n sum part b₁ b₂ fits e₁ e₂ e₃ =
    let front : take checked_size b₁ ≡ front_of n part = ap (take checked_size) e₁ ∙ take_at (front_of n part) (nulls 4) checked_size (length_front n part fits) in
    e₃ ∙ ap₂ (λ x y. x ++ bytes_of 4 y) front (e₂ ∙ ap check_of front)

pub length_fronted : (n : ℕ) (part b : List ℕ) → length part ≤ payload_size → b ≡ front_of n part ++ nulls 4 → length b ≡ block_size
length_fronted n part b fits e = ap length e ∙ length-append (front_of n part) (nulls 4) ∙ ap (λ k. k + 4) (length_front n part fits)

pub length_headed : (n used : ℕ) (b : List ℕ) → b ≡ n ∷ edition ∷ (bytes_of 2 used ++ nulls checked_size) → length b ≡ block_size
length_headed n used b e = ap length e ∙ ap (λ k. suc (suc k)) (length-append (bytes_of 2 used) (nulls checked_size) ∙ ap (λ k. k + checked_size) (length_bytes 2 used))

pub head_room : (n : ℕ) (block b : List ℕ) → length block ≡ block_size → b ≡ nulls (length block) → 4 ≤ length (set (set b 0 n) 1 edition)
head_room n block b l e = simp length-set (omega (arith, ap length e, length-replicate {A = ℕ} (length block) 0))
