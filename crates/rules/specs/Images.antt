-- Stored carriers: "an image of 512-byte blocks, each with its own check", from carriers to bytes; and why an image is refused.
use Rattle.std.specs.Prelude.{ℕ, zero, suc, ◌+◌, ◌-◌, ◌*◌, ◌/◌, min, Bool, true, false, ◌&&◌, List, [], ◌∷◌, ◌++◌, eqb, length, get_or, take, drop, replicate}
use Rattle.std.proofs.Math.Option.{Option, none, some}
use Rattle.rules.specs.Faults.Fault.{Fault, fault}
use Rattle.rules.specs.Answers.{little_endian, bytes_of}

-- the bytes of a block; those that its check sums up; those in front of its payload; and the payload
abbrev pub block_size : ℕ
block_size = 512

abbrev pub checked_size : ℕ
checked_size = 508

abbrev pub head_size : ℕ
head_size = 4

abbrev pub payload_size : ℕ
payload_size = 504

-- "byte 1 is edition 1"
abbrev pub edition : ℕ
edition = 1

-- "the sum .. of byte times (position + 1)", of bytes whose first has the position p
unfoldable pub weighed : ℕ → List ℕ → ℕ
weighed p [] = 0
weighed p (b ∷ bs) = b * (p + 1) + weighed (p + 1) bs

abbrev pub check_of : List ℕ → ℕ
check_of bytes = weighed 0 bytes

-- bytes 0 to 507 of the block of number n: "unused payload is zero"
unfoldable pub front_of : ℕ → List ℕ → List ℕ
front_of n payload = n ∷ edition ∷ (bytes_of 2 (length payload) ++ (payload ++ replicate (payload_size - length payload) 0))

unfoldable pub block_of : ℕ → List ℕ → List ℕ
block_of n payload = front_of n payload ++ bytes_of 4 (check_of (front_of n payload))

-- k blocks from number n on: "every block but the last is full"
unfoldable pub blocks_from : ℕ → ℕ → List ℕ → List ℕ
blocks_from n zero bytes = []
blocks_from n (suc k) bytes = block_of n (take payload_size bytes) ++ blocks_from (n + 1) k (drop payload_size bytes)

-- the blocks that so many bytes need: "no words means no blocks"
unfoldable pub blocks_for : ℕ → ℕ
blocks_for size = (size + 503) / payload_size

abbrev pub image_size_of : ℕ → ℕ
image_size_of size = block_size * blocks_for size

-- the image of a carrier buffer
unfoldable pub image_of : List ℕ → List ℕ
image_of carriers = blocks_from 0 (blocks_for (length carriers)) carriers

-- 63: the check of a block
unfoldable pub is_checked : List ℕ → Bool
is_checked block = eqb (little_endian 4 (drop checked_size block)) (check_of (take checked_size block))

-- 64: "number, edition, used count or padding"
unfoldable pub all_zero : List ℕ → Bool
all_zero [] = true
all_zero (b ∷ bs) = eqb b 0 && all_zero bs

unfoldable pub is_formed : ℕ → ℕ → List ℕ → Bool
is_formed n used front =
    eqb (get_or front 0 0) n && (eqb (get_or front 1 0) edition && (eqb (little_endian 2 (drop 2 front)) used && all_zero (drop (head_size + used) front)))

-- what a block is refused with, "lowest number" first
abbrev pub fault_by : Bool → Bool → Option ℕ
fault_by false formed = some 63
fault_by true false = some 64
fault_by true true = none

abbrev pub block_fault : ℕ → ℕ → List ℕ → Option ℕ
block_fault n used block = fault_by (is_checked block) (is_formed n used (take checked_size block))

abbrev pub or_fault : Option ℕ → ℕ → Option Fault → Option Fault
or_fault (some m) place rest = some (fault m place)
or_fault none place rest = rest

-- k blocks from number n on that hold so many bytes: "lowest block first", "place the block's offset"
unfoldable pub blocks_fault : ℕ → ℕ → ℕ → List ℕ → Option Fault
blocks_fault n zero size image = none
blocks_fault n (suc k) size image =
    or_fault (block_fault n (min payload_size size) (take block_size image)) (block_size * n)
    (blocks_fault (n + 1) k (size - payload_size) (drop block_size image))

abbrev pub image_fault : ℕ → List ℕ → Option Fault
image_fault size image = blocks_fault 0 (blocks_for size) size image

-- the carriers that an image holds
unfoldable pub held_from : ℕ → ℕ → List ℕ → List ℕ
held_from zero size image = []
held_from (suc k) size image = take (min payload_size size) (drop head_size image) ++ held_from k (size - payload_size) (drop block_size image)

abbrev pub held_in : ℕ → List ℕ → List ℕ
held_in size image = held_from (blocks_for size) size image
