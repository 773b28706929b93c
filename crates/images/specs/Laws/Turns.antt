-- What the loops over blocks keep, and how a turn keeps it.
-- Assumes nothing.
use Prim.Native.Nat.{ℕ, suc, ◌+◌, ◌-◌, ◌*◌, ◌<◌, ◌≤◌, min}
use Rattle.std.specs.Prelude.{◌≡◌, true, false, List, [], ◌++◌, length, take}
use Rattle.std.proofs.Common.{sym, ◌∙◌, append-nil, append_assoc, length-append, length-take, length-drop, drop_of_length-le, length-take-le, take_all, take_at, drop-drop}
use Rattle.std.proofs.Math.Path.{ap, ap₂}
use Rattle.std.proofs.Math.Option.{Option, none, some}
use native.Mathlib.Omega.{arith}
use Rattle.std.proofs.Math.Decide.{dec_lt}
use borrow.Rule.Slice.PartMut.{put_mid, post_of, same_len_mid}
use Rattle.std.proofs.Math.ListN.{drop}
use Rattle.std.proofs.Math.Seq.{take-length, paste}
use Rattle.std.proofs.lemmas.List.Edits.{take-paste, length-paste}
use Rattle.rules.specs.Faults.Fault.{Fault, fault}
use Rattle.rules.specs.Images.{payload_size, head_size, checked_size, block_size, block_of, blocks_from, blocks_for, image_size_of, image_of, is_checked, is_formed, fault_by, block_fault, or_fault, blocks_fault, image_fault, held_from, held_in}
use Rattle.blocks.specs.Laws.Blocks.{length_block}

-- so many blocks of an image, i of them passed
pub record Passed (size blocks : ℕ) (image : List ℕ) (i : ℕ) : Type 0 where
  pub within : i ≤ blocks
  pub counted : blocks ≡ blocks_for size
  pub few : blocks ≤ 66
  pub long : length image ≡ block_size * blocks
  pub needed : i < blocks → payload_size * i < size
  pub enough : size ≤ payload_size * blocks

passed : (size blocks : ℕ) (image : List ℕ) (i : ℕ) → size ≤ 32768 → length image ≡ image_size_of size → blocks ≡ blocks_for size → i ≤ blocks → Passed size blocks image i
unfolding blocks_for
passed size blocks image i small l e h = record {
  within = h;
  counted = e;
  few = omega arith;
  long = l ∙ ap (λ k. block_size * k) (sym e);
  needed = λ lt. omega arith;
  enough = omega arith;
}

next : {size blocks : ℕ} {image : List ℕ} {i : ℕ} → Passed size blocks image i → i < blocks → Passed size blocks image (i + 1)
unfolding blocks_for
next v h = record {
  within = omega arith;
  counted = v.counted;
  few = v.few;
  long = v.long;
  needed = λ lt. omega (arith, v.counted);
  enough = v.enough;
}

-- n elements from a on, as a part of a slice has them
abbrev pub middle : ℕ → ℕ → List ℕ → List ℕ
middle a n l = take (a + n - a) (drop a l)

middle_is : (a n : ℕ) (l : List ℕ) → middle a n l ≡ take n (drop a l)
middle_is a n l = let e : a + n - a ≡ n = omega arith in ap (λ k. take k (drop a l)) e

-- the block i
abbrev pub block_at : List ℕ → ℕ → List ℕ
block_at image i = middle (block_size * i) block_size image

abbrev pub used_at : ℕ → ℕ → ℕ
used_at size i = min payload_size (size - payload_size * i)

-- i blocks are judged
pub record Judging (size blocks : ℕ) (image : List ℕ) (i : ℕ) : Type 0 where
  pub passes : Passed size blocks image i
  pub is : blocks_fault i (blocks - i) (size - payload_size * i) (drop (block_size * i) image) ≡ image_fault size image

pub none_judged : {size blocks : ℕ} {image : List ℕ} → (size ≤ 32768) × (length image ≡ image_size_of size) → blocks ≡ blocks_for size → Judging size blocks image 0
none_judged {size} {blocks} {image} h e =
    let k : blocks - 0 ≡ blocks_for size = omega arith in
    let s : size - payload_size * 0 ≡ size = omega arith in
    record { passes = passed size blocks image 0 h.0 h.1 e (omega arith); is = ap₂ (λ x y. blocks_fault 0 x y image) k s }

turn_fault : {size blocks : ℕ} {image : List ℕ} {i : ℕ} → Judging size blocks image i → i < blocks
    → or_fault (block_fault i (used_at size i) (block_at image i)) (block_size * i)
    (blocks_fault (i + 1) (blocks - (i + 1)) (size - payload_size * (i + 1)) (drop (block_size * (i + 1)) image)) ≡ image_fault size image
unfolding blocks_fault
turn_fault {size} {blocks} {image} {i} v h =
    let left : blocks - i ≡ suc (blocks - (i + 1)) = omega arith in
    let less : size - payload_size * (i + 1) ≡ size - payload_size * i - payload_size = omega arith in
    let more : block_size * i + block_size ≡ block_size * (i + 1) = omega arith in
    ap (λ b. or_fault (block_fault i (used_at size i) b) (block_size * i) (blocks_fault (i + 1) (blocks - (i + 1)) (size - payload_size * (i + 1)) (drop (block_size * (i + 1)) image)))
    (middle_is (block_size * i) block_size image)
    ∙ ap₂ (λ x y. or_fault (block_fault i (used_at size i) (take block_size (drop (block_size * i) image))) (block_size * i) (blocks_fault (i + 1) (blocks - (i + 1)) x y)) less
    (ap (λ k. drop k image) (sym more) ∙ sym (drop-drop block_size (block_size * i) image))
    ∙ sym (ap (λ k. blocks_fault i k (size - payload_size * i) (drop (block_size * i) image)) left) ∙ v.is

module _ {size blocks : ℕ} {image : List ℕ} {i : ℕ} (v : Judging size blocks image i) (h : i < blocks) where
  abbrev rest : Option Fault
  rest = blocks_fault (i + 1) (blocks - (i + 1)) (size - payload_size * (i + 1)) (drop (block_size * (i + 1)) image)

  pub unchecked : is_checked (block_at image i) ≡ false → some (fault 63 (block_size * i)) ≡ image_fault size image
  unchecked e =
      sym (ap (λ t. or_fault (fault_by t (is_formed i (used_at size i) (take checked_size (block_at image i)))) (block_size * i) rest) e) ∙ turn_fault v h

  pub unformed : is_checked (block_at image i) ≡ true → (used : ℕ) → used ≡ used_at size i → is_formed i used (take checked_size (block_at image i)) ≡ false
      → some (fault 64 (block_size * i)) ≡ image_fault size image
  unformed e used u f₀ = let f = rw u at f₀ in sym (ap₂ (λ t u. or_fault (fault_by t u) (block_size * i) rest) e f) ∙ turn_fault v h

  pub more_judged : is_checked (block_at image i) ≡ true → (used : ℕ) → used ≡ used_at size i → is_formed i used (take checked_size (block_at image i)) ≡ true
      → Judging size blocks image (i + 1)
  more_judged e used u f₀ = let f = rw u at f₀ in record { passes = next v.passes h; is = sym (ap₂ (λ t u. or_fault (fault_by t u) (block_size * i) rest) e f) ∙ turn_fault v h }

pub all_judged : {size blocks : ℕ} {image : List ℕ} {i : ℕ} → Judging size blocks image i → blocks ≤ i → none ≡ image_fault size image
unfolding blocks_fault
all_judged {size} {blocks} {image} {i} v h =
    let over : blocks - i ≡ 0 = omega arith in
    sym (ap (λ k. blocks_fault i k (size - payload_size * i) (drop (block_size * i) image)) over) ∙ v.is

-- i blocks are read
pub record Reading (size blocks : ℕ) (image now : List ℕ) (i : ℕ) : Type 0 where
  pub passes : Passed size blocks image i
  pub sized : length now ≡ size
  pub is : take (payload_size * i) now ++ held_from (blocks - i) (size - payload_size * i) (drop (block_size * i) image) ≡ held_in size image

pub none_read : {size blocks : ℕ} {image before : List ℕ} → (length before ≤ 32768) × (length image ≡ image_size_of (length before)) → size ≡ length before → blocks ≡ blocks_for size
    → Reading size blocks image before 0
none_read {size} {blocks} {image} {before} h s e =
    let k : blocks - 0 ≡ blocks_for size = omega arith in
    let z : size - payload_size * 0 ≡ size = omega arith in
    record {
      passes = passed size blocks image 0 (omega (arith, h.0)) (h.1 ∙ ap image_size_of (sym s)) e (omega arith);
      sized = sym s;
      is = ap₂ (λ x y. held_from x y image) k z;
    }

-- the payload of block i
abbrev payload_at : ℕ → List ℕ → ℕ → List ℕ
payload_at size image i = take (used_at size i) (drop (block_size * i + head_size) image)

length_payload : {size blocks : ℕ} {image : List ℕ} {i : ℕ} → Passed size blocks image i → i < blocks → length (payload_at size image i) ≡ used_at size i
length_payload {size} {blocks} {image} {i} v h =
    length-take-le (used_at size i) (drop (block_size * i + head_size) image) (omega (arith, v.long, length-drop (block_size * i + head_size) image))

-- what is pasted last
paste_last : (before part : List ℕ) (at room : ℕ) → at + length part ≤ length before → length part ≤ room → (length part < room → at + length part ≡ length before)
    → take (at + room) (paste before at part (length part)) ≡ take at before ++ part
paste_last before part at room fits short last = by (dec_lt (length part) room)
  where
    by : Dec (length part < room) → take (at + room) (paste before at part (length part)) ≡ take at before ++ part
    by (no full) =
        let e : room ≡ length part = omega arith in
        ap (λ r. take (at + r) (paste before at part (length part))) e
        ∙ take-paste before at part (length part) (omega arith) (omega arith) ∙ ap (λ l. take at before ++ l) (take-length part)
    by (yes less) =
        let over : drop (at + length part) before ≡ [] = drop_of_length-le before {i = at + length part} (omega (arith, last less)) in
        let whole : paste before at part (length part) ≡ take at before ++ part =
        ap₂ (λ x y. (take at before ++ x) ++ y) (take-length part) over ∙ append-nil (take at before ++ part) in
        ap (take (at + room)) whole
        ∙ take_all (at + room) (take at before ++ part) (omega (arith, length-append (take at before) part, length-take at before))

turn_read : {size blocks : ℕ} {image now : List ℕ} {i : ℕ} → Reading size blocks image now i → i < blocks
    → Reading size blocks image (paste now (payload_size * i) (payload_at size image i) (length (payload_at size image i))) (i + 1)
unfolding held_from
turn_read {size} {blocks} {image} {now} {i} v h =
    let part = payload_at size image i in
    let at = payload_size * i in
    let p = v.passes in
    let long : length part ≡ used_at size i = length_payload p h in
    let needed = p.needed h in
    let left : blocks - i ≡ suc (blocks - (i + 1)) = omega arith in
    let less : size - payload_size * (i + 1) ≡ size - at - payload_size = omega arith in
    let more : block_size * i + block_size ≡ block_size * (i + 1) = omega arith in
    let next_at : payload_size * (i + 1) ≡ at + payload_size = omega arith in
    let rest = held_from (blocks - (i + 1)) (size - payload_size * (i + 1)) (drop (block_size * (i + 1)) image) in
    let turn : held_from (blocks - i) (size - at) (drop (block_size * i) image) ≡ part ++ rest =
    ap (λ k. held_from k (size - at) (drop (block_size * i) image)) left
    ∙ ap₂ (λ x y. take (used_at size i) x ++ y) (drop-drop head_size (block_size * i) image)
    (ap₂ (held_from (blocks - (i + 1))) (sym less) (drop-drop block_size (block_size * i) image ∙ ap (λ k. drop k image) more)) in
    record {
      passes = next p h;
      sized = length_pasted now part at (omega (arith, long, v.sized)) ∙ v.sized;
      is = ap (λ x. x ++ rest) (ap (λ k. take k (paste now at part (length part))) next_at
          ∙ paste_last now part at payload_size (omega (arith, long, v.sized)) (omega (arith, long)) (λ lt. omega (arith, long, v.sized)))
          ∙ append_assoc (take at now) part rest ∙ ap (λ l. take at now ++ l) (sym turn) ∙ v.is;
    }
  where
    length_pasted : (before part : List ℕ) (at : ℕ) → at + length part ≤ length before → length (paste before at part (length part)) ≡ length before
    length_pasted before part at fits = length-paste before at part (length part) fits (omega arith)

module _ {size blocks : ℕ} {image now : List ℕ} {i : ℕ} (v : Reading size blocks image now i) (h : i < blocks) (used : ℕ) (u : used ≡ used_at size i) where
  payload_part : middle (block_size * i + head_size) used image ≡ payload_at size image i
  payload_part = middle_is (block_size * i + head_size) used image ∙ ap (λ k. take k (drop (block_size * i + head_size) image)) u

  pub payload_room : payload_size * i + length (middle (block_size * i + head_size) used image) ≤ length now
  payload_room = omega (arith, ap length payload_part, length_payload v.passes h, v.passes.needed h, v.sized)

  pub more_read : (after : List ℕ) → after ≡ paste now (payload_size * i) (middle (block_size * i + head_size) used image) (length (middle (block_size * i + head_size) used image))
      → Reading size blocks image after (i + 1)
  more_read after e = let e' = rw payload_part at e in rw e' (turn_read v h)

pub all_read : {size blocks : ℕ} {image now : List ℕ} {i : ℕ} → Reading size blocks image now i → blocks ≤ i → now ≡ held_in size image
unfolding held_from
all_read {size} {blocks} {image} {now} {i} v h =
    let over : blocks - i ≡ 0 = omega arith in
    sym (take_all (payload_size * i) now (omega (arith, v.sized, v.passes.enough, v.passes.within)))
    ∙ sym (append-nil (take (payload_size * i) now))
    ∙ sym (ap (λ k. take (payload_size * i) now ++ held_from k (size - payload_size * i) (drop (block_size * i) image)) over) ∙ v.is

-- i blocks are written
pub record Writing (size blocks : ℕ) (carriers now : List ℕ) (i : ℕ) : Type 0 where
  pub passes : Passed size blocks now i
  pub sized : length carriers ≡ size
  pub is : take (block_size * i) now ++ blocks_from i (blocks - i) (drop (payload_size * i) carriers) ≡ image_of carriers

pub none_written : {size blocks : ℕ} {carriers before : List ℕ} → (length carriers ≤ 32768) × (length before ≡ image_size_of (length carriers)) → size ≡ length carriers
    → blocks ≡ blocks_for size → Writing size blocks carriers before 0
unfolding image_of
none_written {size} {blocks} {carriers} {before} h s e =
    let k : blocks - 0 ≡ blocks_for (length carriers) = (omega arith) ∙ e ∙ ap blocks_for s in
    record {
      passes = passed size blocks before 0 (omega (arith, h.0)) (h.1 ∙ ap image_size_of (sym s)) e (omega arith);
      sized = sym s;
      is = ap (λ x. blocks_from 0 x carriers) k;
    }

take_min : (n : ℕ) (l : List ℕ) → take (min n (length l)) l ≡ take n l
take_min n l = by (dec_lt n (length l))
  where
    by : Dec (n < length l) → take (min n (length l)) l ≡ take n l
    by (yes lt) = let e : min n (length l) ≡ n = omega arith in ap (λ k. take k l) e
    by (no ge) = let e : min n (length l) ≡ length l = omega arith in ap (λ k. take k l) e ∙ take_all (length l) l (omega arith) ∙ sym (take_all n l (omega arith))

module _ {size blocks : ℕ} {carriers now : List ℕ} {i : ℕ} (v : Writing size blocks carriers now i) (h : i < blocks) (used : ℕ) (u : used ≡ used_at size i) where
  abbrev at : ℕ
  at = block_size * i

  abbrev part : List ℕ
  part = middle (payload_size * i) used carriers

  pub part_is : part ≡ take payload_size (drop (payload_size * i) carriers)
  part_is =
      let e : used ≡ min payload_size (length (drop (payload_size * i) carriers)) = omega (arith, length-drop (payload_size * i) carriers, v.sized) in
      middle_is (payload_size * i) used carriers ∙ ap (λ k. take k (drop (payload_size * i) carriers)) e ∙ take_min payload_size (drop (payload_size * i) carriers)

  pub part_short : length part ≤ payload_size
  part_short = omega (arith, ap length part_is, length-take payload_size (drop (payload_size * i) carriers))

  pub block_whole : length (middle at block_size now) ≡ block_size
  block_whole = ap length (middle_is at block_size now) ∙ length-take-le block_size (drop at now) (omega (arith, length-drop at now, v.passes.long))

  turn_written : blocks_from i (blocks - i) (drop (payload_size * i) carriers) ≡ block_of i part ++ blocks_from (i + 1) (blocks - (i + 1)) (drop (payload_size * (i + 1)) carriers)
  unfolding blocks_from
  turn_written =
      let left : blocks - i ≡ suc (blocks - (i + 1)) = omega arith in
      let more : payload_size * i + payload_size ≡ payload_size * (i + 1) = omega arith in
      ap (λ k. blocks_from i k (drop (payload_size * i) carriers)) left
      ∙ ap₂ (λ x y. block_of i x ++ blocks_from (i + 1) (blocks - (i + 1)) y) (sym part_is)
      (drop-drop payload_size (payload_size * i) carriers ∙ ap (λ k. drop k carriers) more)

  module _ (new : List ℕ) (e : new ≡ block_of i part) where
    abbrev after : List ℕ
    after = put_mid at (at + block_size - at) now new

    long : length new ≡ block_size
    long = ap length e ∙ length_block i part part_short

    same : length after ≡ length now
    same = same_len_mid at (at + block_size - at) now new (long ∙ sym block_whole)

    front : take (block_size * (i + 1)) after ≡ take at now ++ new
    front =
        let f : length (take at now ++ new) ≡ block_size * (i + 1) =
        omega (arith, length-append (take at now) new, length-take at now, long, v.passes.long) in
        ap (take (block_size * (i + 1))) (sym (append_assoc (take at now) new (post_of at (at + block_size - at) now)))
        ∙ take_at (take at now ++ new) (post_of at (at + block_size - at) now) (block_size * (i + 1)) f

    pub more_written : Writing size blocks carriers after (i + 1)
    more_written =
        let p = next v.passes h in
        let rest = blocks_from (i + 1) (blocks - (i + 1)) (drop (payload_size * (i + 1)) carriers) in
        record {
          passes = record { within = p.within; counted = p.counted; few = p.few; long = same ∙ p.long; needed = p.needed; enough = p.enough };
          sized = v.sized;
          is = ap (λ l. l ++ rest) (front ∙ ap (λ b. take at now ++ b) e) ∙ append_assoc (take at now) (block_of i part) rest
              ∙ ap (λ l. take at now ++ l) (sym turn_written) ∙ v.is;
        }

pub all_written : {size blocks : ℕ} {carriers now : List ℕ} {i : ℕ} → Writing size blocks carriers now i → blocks ≤ i → now ≡ image_of carriers
unfolding blocks_from
all_written {size} {blocks} {carriers} {now} {i} v h =
    let over : blocks - i ≡ 0 = omega arith in
    sym (take_all (block_size * i) now (omega (arith, v.passes.long, v.passes.within)))
    ∙ sym (append-nil (take (block_size * i) now))
    ∙ sym (ap (λ k. take (block_size * i) now ++ blocks_from i k (drop (payload_size * i) carriers)) over) ∙ v.is
