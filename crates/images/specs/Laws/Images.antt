-- Laws of images: storing then loading gives the same bytes, an image that is not refused is the image of what it holds, and one changed byte is
-- refused with 63 at its block.
-- Assumes nothing.
use Rattle.std.specs.Prelude.{ℕ, zero, suc, ◌+◌, ◌-◌, ◌*◌, ◌/◌, ◌<◌, ◌≤◌, min, ◌≡◌, refl, List, [], ◌∷◌, ◌++◌, length, get_or, take, drop, set}
use Rattle.std.proofs.Math.Path.{sym, ap}
use Rattle.std.proofs.Common.{ap₂, ◌∙◌, append-nil, arith, length-append, length-take, length-drop, take-append-drop, drop_of_length-le, length-take-le, take_all, take_at, drop_at, get_or-take, get_or-drop}
use Rattle.std.proofs.Math.Option.{Option, none, some}
use Rattle.std.proofs.Math.Decide.{dec_lt}
use Rattle.std.proofs.lemmas.List.{take-append-le, drop-append-le, take-set-le, drop-set-add}
use Rattle.std.proofs.Math.Seq.{take-set-lt}
use Rattle.rules.specs.Faults.Fault.{Fault, fault}
use Rattle.rules.specs.Images.{payload_size, head_size, block_size, block_of, blocks_from, blocks_for, image_size_of, image_of, block_fault, or_fault, blocks_fault, image_fault, held_from, held_in}
use Rattle.blocks.specs.Laws.Sums.{Bytes}
use Rattle.blocks.specs.Laws.Blocks.{bytes_take, bytes_drop, length_block, payload_of_block, block_sound, sound_block, payload_within, block_changed, sound_checked}

-- the blocks have room for the bytes
pub blocks_enough : (size : ℕ) → size ≤ payload_size * blocks_for size
unfolding blocks_for
blocks_enough size = omega arith

short_part : (bytes : List ℕ) → length (take payload_size bytes) ≤ payload_size
short_part bytes = omega (arith, length-take payload_size bytes)

pub length_blocks : (n k : ℕ) (bytes : List ℕ) → length (blocks_from n k bytes) ≡ block_size * k
unfolding blocks_from
length_blocks n zero bytes = refl
length_blocks n (suc k) bytes =
    length-append (block_of n (take payload_size bytes)) (blocks_from (n + 1) k (drop payload_size bytes))
    ∙ ap₂ ◌+◌ (length_block n (take payload_size bytes) (short_part bytes)) (length_blocks (n + 1) k (drop payload_size bytes)) ∙ omega arith

pub length_image : (carriers : List ℕ) → length (image_of carriers) ≡ image_size_of (length carriers)
unfolding image_of
length_image carriers = length_blocks 0 (blocks_for (length carriers)) carriers

-- the first of some blocks
module _ (n : ℕ) (bytes more : List ℕ) where
  abbrev part : List ℕ
  part = take payload_size bytes

  first_block : take block_size (block_of n part ++ more) ≡ block_of n part
  first_block = take_at (block_of n part) more block_size (length_block n part (short_part bytes))

  behind_block : drop block_size (block_of n part ++ more) ≡ more
  behind_block = drop_at (block_of n part) more block_size (length_block n part (short_part bytes))

  first_held : take (min payload_size (length bytes)) (drop head_size (block_of n part ++ more)) ≡ part
  first_held =
      let long = length_block n part (short_part bytes) in
      let e : take (length part) (drop head_size (block_of n part ++ more)) ≡ part =
      ap (take (length part)) (drop-append-le head_size (block_of n part) more (omega arith))
      ∙ take-append-le (length part) (drop head_size (block_of n part)) more (omega (arith, length-drop head_size (block_of n part), short_part bytes))
      ∙ payload_of_block n part (short_part bytes) in
      ap (λ u. take u (drop head_size (block_of n part ++ more))) (sym (length-take payload_size bytes)) ∙ e

-- the image of bytes is not refused, and holds them
pub blocks_sound : (n k : ℕ) (bytes : List ℕ) → length bytes ≤ payload_size * k → n + k ≤ 256 → Bytes bytes
    → blocks_fault n k (length bytes) (blocks_from n k bytes) ≡ none
unfolding blocks_fault blocks_from
blocks_sound n zero bytes fits small each = refl
blocks_sound n (suc k) bytes fits small each =
    let p = take payload_size bytes in
    let more = blocks_from (n + 1) k (drop payload_size bytes) in
    let first : block_fault n (min payload_size (length bytes)) (take block_size (block_of n p ++ more)) ≡ none =
    ap₂ (block_fault n) (sym (length-take payload_size bytes)) (first_block n bytes more)
    ∙ block_sound n p (short_part bytes) (omega arith) (bytes_take payload_size bytes each) in
    let rest : blocks_fault (n + 1) k (length bytes - payload_size) (drop block_size (block_of n p ++ more)) ≡ none =
    ap₂ (blocks_fault (n + 1) k) (sym (length-drop payload_size bytes)) (behind_block n bytes more)
    ∙ blocks_sound (n + 1) k (drop payload_size bytes) (omega (arith, length-drop payload_size bytes)) (omega arith) (bytes_drop payload_size bytes each) in
    ap₂ (λ f r. or_fault f (block_size * n) r) first rest

pub blocks_hold : (n k : ℕ) (bytes : List ℕ) → length bytes ≤ payload_size * k → held_from k (length bytes) (blocks_from n k bytes) ≡ bytes
unfolding held_from blocks_from
blocks_hold n zero [] fits = refl
blocks_hold n zero (b ∷ bytes) fits = absurd (omega arith)
blocks_hold n (suc k) bytes fits =
    let more = blocks_from (n + 1) k (drop payload_size bytes) in
    let rest : held_from k (length bytes - payload_size) (drop block_size (block_of n (take payload_size bytes) ++ more)) ≡ drop payload_size bytes =
    ap₂ (held_from k) (sym (length-drop payload_size bytes)) (behind_block n bytes more)
    ∙ blocks_hold (n + 1) k (drop payload_size bytes) (omega (arith, length-drop payload_size bytes)) in
    ap₂ ◌++◌ (first_held n bytes more) rest ∙ take-append-drop payload_size bytes

-- how much an image holds
held_none : (k : ℕ) (image : List ℕ) → held_from k 0 image ≡ []
unfolding held_from
held_none zero image = refl
held_none (suc k) image = held_none k (drop block_size image)

pub length_held : (k size : ℕ) (image : List ℕ) → size ≤ payload_size * k → block_size * k ≤ length image → length (held_from k size image) ≡ size
unfolding held_from
length_held zero size image fits long = omega arith
length_held (suc k) size image fits long =
    let part = take (min payload_size size) (drop head_size image) in
    let rest = length_held k (size - payload_size) (drop block_size image) (omega arith) (omega (arith, length-drop block_size image)) in
    omega (arith, length-append part (held_from k (size - payload_size) (drop block_size image)), rest, length-take (min payload_size size) (drop head_size image), length-drop head_size image)

-- the payload of the first block, and what is behind it
module _ (k size : ℕ) (rest part : List ℕ) (long : length part ≡ min payload_size size) where
  abbrev behind : List ℕ
  behind = held_from k (size - payload_size) rest

  part_first : (take payload_size (part ++ behind) ≡ part) × (drop payload_size (part ++ behind) ≡ behind)
  part_first = by (dec_lt size payload_size)
    where
      by : Dec (size < payload_size) → (take payload_size (part ++ behind) ≡ part) × (drop payload_size (part ++ behind) ≡ behind)
      by (no full) = (take_at part behind payload_size (omega arith), drop_at part behind payload_size (omega arith))
      by (yes short) =
          let over : size - payload_size ≡ 0 = omega arith in
          let empty : behind ≡ [] = ap (λ s. held_from k s rest) over ∙ held_none k rest in
          let whole : part ++ behind ≡ part = ap (λ l. part ++ l) empty ∙ append-nil part in (
            ap (take payload_size) whole ∙ take_all payload_size part (omega arith),
            ap (drop payload_size) whole ∙ drop_of_length-le part {i = payload_size} (omega arith) ∙ sym empty,
          )

both_none : (a : Option ℕ) (place : ℕ) (r : Option Fault) → or_fault a place r ≡ none → (a ≡ none) × (r ≡ none)
both_none none place r e = (refl, e)
both_none (some m) place r e = let z : ◌≡◌ {A = ℕ} 0 1 = cc in absurd (omega arith)

-- an image that is not refused is that of what it holds
pub sound_blocks : (n k size : ℕ) (image : List ℕ) → length image ≡ block_size * k → size ≤ payload_size * k → Bytes image
    → blocks_fault n k size image ≡ none → image ≡ blocks_from n k (held_from k size image)
unfolding blocks_fault blocks_from held_from
sound_blocks n zero size [] l fits each e = refl
sound_blocks n zero size (b ∷ image) l fits each e = absurd (omega arith)
sound_blocks n (suc k) size image l fits each e =
    let used = min payload_size size in
    let block = take block_size image in
    let rest = drop block_size image in
    let p = take used (drop head_size image) in
    let long : length p ≡ used = length-take-le used (drop head_size image) (omega (arith, length-drop head_size image)) in
    let both = both_none (block_fault n used block) (block_size * n) (blocks_fault (n + 1) k (size - payload_size) rest) e in
    let first : block ≡ block_of n p =
    sound_block n used block (length-take-le block_size image (omega arith)) (omega arith) (bytes_take block_size image each) both.0
    ∙ ap (block_of n) (payload_within block_size used image (omega arith) (omega arith)) in
    let more : rest ≡ blocks_from (n + 1) k (held_from k (size - payload_size) rest) =
    sound_blocks (n + 1) k (size - payload_size) rest (omega (arith, length-drop block_size image)) (omega arith) (bytes_drop block_size image each) both.1 in
    let apart = part_first k size rest p long in
    sym (take-append-drop block_size image)
    ∙ ap₂ ◌++◌ (first ∙ ap (block_of n) (sym apart.0)) (more ∙ ap (blocks_from (n + 1) k) (sym apart.1))

-- one changed byte
pub blocks_changed : (n k size : ℕ) (image : List ℕ) (j v : ℕ) → length image ≡ block_size * k → Bytes image → blocks_fault n k size image ≡ none
    → j < block_size * k → v < 256 → (v ≡ get_or image j 0 → ⊥) → blocks_fault n k size (set image j v) ≡ some (fault 63 (block_size * (n + j / block_size)))
unfolding blocks_fault
blocks_changed n zero size image j v l each e h small new = absurd (omega arith)
blocks_changed n (suc k) size image j v l each e h small new =
    let both = both_none (block_fault n (min payload_size size) (take block_size image)) (block_size * n) (blocks_fault (n + 1) k (size - payload_size) (drop block_size image)) e in
    by both.0 (dec_lt j block_size) (λ i at. blocks_changed (n + 1) k (size - payload_size) (drop block_size image) i v (omega (arith, length-drop block_size image))
    (bytes_drop block_size image each) both.1 (omega arith) small (λ x. new (x ∙ get_or-drop block_size image i 0 ∙ ap (λ y. get_or image y 0) (sym at))))
  where
    used : ℕ
    used = min payload_size size

    by : block_fault n used (take block_size image) ≡ none → Dec (j < block_size)
        → ((i : ℕ) → j ≡ block_size + i → blocks_fault (n + 1) k (size - payload_size) (set (drop block_size image) i v) ≡ some (fault 63 (block_size * (n + 1 + i / block_size))))
        → or_fault (block_fault n used (take block_size (set image j v))) (block_size * n) (blocks_fault (n + 1) k (size - payload_size) (drop block_size (set image j v)))
        ≡ some (fault 63 (block_size * (n + j / block_size)))
    by sound (yes lt) rest =
        let place : n ≡ n + j / block_size = omega arith in
        let here : block_fault n used (take block_size (set image j v)) ≡ some 63 =
        ap (block_fault n used) (take-set-lt block_size image j v lt)
        ∙ block_changed (take block_size image) j v (length-take-le block_size image (omega arith)) (bytes_take block_size image each) small
        (λ x. new (x ∙ get_or-take block_size image j 0 lt)) (sound_checked n used (take block_size image) sound) lt n used in
        ap (λ f. or_fault f (block_size * n) (blocks_fault (n + 1) k (size - payload_size) (drop block_size (set image j v)))) here
        ∙ ap (λ b. some (fault 63 (block_size * b))) place
    by sound (no ge) rest =
        let i = j - block_size in
        let at : j ≡ block_size + i = omega arith in
        let place : n + 1 + i / block_size ≡ n + j / block_size = omega arith in
        let behind : drop block_size (set image j v) ≡ set (drop block_size image) i v = ap (λ x. drop block_size (set image x v)) at ∙ drop-set-add block_size image i v in
        ap₂ (λ f r. or_fault f (block_size * n) r) (ap (block_fault n used) (take-set-le block_size image j v (omega arith)) ∙ sound)
        (ap (blocks_fault (n + 1) k (size - payload_size)) behind ∙ rest i at)
        ∙ ap (λ b. some (fault 63 (block_size * b))) place

-- a block that is refused is one of them
pub blocks_near : (n k size : ℕ) (image : List ℕ) (f : Fault) → blocks_fault n k size image ≡ some f → f.place < block_size * (n + k)
unfolding blocks_fault
blocks_near n zero size image f e = let z : ◌≡◌ {A = ℕ} 0 1 = cc in absurd (omega arith)
blocks_near n (suc k) size image f e =
    by (block_fault n (min payload_size size) (take block_size image)) e (λ e'. blocks_near (n + 1) k (size - payload_size) (drop block_size image) f e')
  where
    by : (b : Option ℕ) → or_fault b (block_size * n) (blocks_fault (n + 1) k (size - payload_size) (drop block_size image)) ≡ some f
        → (blocks_fault (n + 1) k (size - payload_size) (drop block_size image) ≡ some f → f.place < block_size * (n + 1 + k)) → f.place < block_size * (n + suc k)
    by none e' rest = let r = rest e' in omega arith
    by (some m) e' rest = let p : block_size * n ≡ f.place = cc in omega arith

-- the whole image
pub image_sound : (carriers : List ℕ) → Bytes carriers → blocks_for (length carriers) ≤ 256 → image_fault (length carriers) (image_of carriers) ≡ none
unfolding image_of
image_sound carriers each few = blocks_sound 0 (blocks_for (length carriers)) carriers (blocks_enough (length carriers)) (omega arith) each

pub image_holds : (carriers : List ℕ) → held_in (length carriers) (image_of carriers) ≡ carriers
unfolding image_of
image_holds carriers = blocks_hold 0 (blocks_for (length carriers)) carriers (blocks_enough (length carriers))

module _ (size : ℕ) (image : List ℕ) (l : length image ≡ image_size_of size) where
  pub length_held_in : length (held_in size image) ≡ size
  length_held_in = length_held (blocks_for size) size image (blocks_enough size) (omega arith)

  pub image_of_held : Bytes image → image_fault size image ≡ none → image_of (held_in size image) ≡ image
  unfolding image_of
  image_of_held each e =
      ap (λ s. blocks_from 0 (blocks_for s) (held_in size image)) length_held_in
      ∙ sym (sound_blocks 0 (blocks_for size) size image l (blocks_enough size) each e)

  pub image_changed : (j v : ℕ) → Bytes image → image_fault size image ≡ none → j < length image → v < 256 → (v ≡ get_or image j 0 → ⊥)
      → image_fault size (set image j v) ≡ some (fault 63 (block_size * (j / block_size)))
  image_changed j v each e h small new =
      let at : 0 + j / block_size ≡ j / block_size = omega arith in
      blocks_changed 0 (blocks_for size) size image j v l each e (omega arith) small new ∙ ap (λ b. some (fault 63 (block_size * b))) at
