-- STORED CARRIERS, as theorems about the public calls. `StoreCall` and `LoadCall` (Calls/Keep.antt of the crate `rules`) are the contracts of `isps_store` and
-- `isps_load` in src/lib.rt, which have no hypotheses. `n` is the number that a call returns, and `left` what it leaves in the buffer that it may write.
use Rattle.std.specs.Prelude.{ℕ, ◌*◌, ◌/◌, ◌<◌, ◌≡◌, List, length, get_or, set}
use Rattle.rules.specs.Answers.{refused_numbers}
use Rattle.rules.specs.Images.{block_size, image_of}
use Rattle.rules.specs.Calls.Memory.{Memory, Enough, settled}
use Rattle.rules.specs.Calls.Keep.{StoreCall, LoadCall}
use Rattle.isps.specs.Laws.Keeping as keeping

-- every element is a byte, as it is in every buffer that a C program can lend
abbrev pub Bytes : List ℕ → Type 0
Bytes buffer = (i : ℕ) → get_or buffer i 0 < 256

-- Number, answer, work memory and the written buffer are settled: two results that a contract allows are the same.
pub store_settled : (text carriers image : List ℕ) {left left' : List ℕ} {n n' : ℕ} {before after after' : Memory} → StoreCall text carriers image before after left n
    → StoreCall text carriers image before after' left' n' → (n ≡ n') × (after ≡ after') × (left ≡ left')
store_settled text carriers image = keeping.one_keep

pub load_settled : (text image carriers : List ℕ) {left left' : List ℕ} {n n' : ℕ} {before after after' : Memory} → LoadCall text image carriers before after left n
    → LoadCall text image carriers before after' left' n' → (n ≡ n') × (after ≡ after') × (left ≡ left')
load_settled text image carriers = keeping.one_keep

-- "A refusal changes neither buffer": the one that is read is never written, and the other is left as it was.
pub store_refused : (text carriers image : List ℕ) {left : List ℕ} {n : ℕ} {before after : Memory} → StoreCall text carriers image before after left n → (n ≡ 0 → ⊥)
    → left ≡ image
store_refused text carriers image = keeping.refused_keeps

pub load_refused : (text image carriers : List ℕ) {left : List ℕ} {n : ℕ} {before after : Memory} → LoadCall text image carriers before after left n → (n ≡ 0 → ⊥)
    → left ≡ carriers
load_refused text image carriers = keeping.refused_keeps

-- A Store that returned 0.
module _ (text carriers image stored : List ℕ) {before after : Memory} (call : StoreCall text carriers image before after stored 0) where
  -- "Each carrier buffer has one image", whatever the text.
  pub stored_image : stored ≡ image_of carriers
  stored_image = keeping.stored_image text carriers image stored call

  -- "Writing then reading gives the same carriers": into any carrier buffer of that length, with any memory that is enough.
  pub stored_loads : Bytes carriers → (target : List ℕ) {left : List ℕ} {n : ℕ} {before' after' : Memory} → LoadCall text stored target before' after' left n
      → Enough before' → length target ≡ length carriers → (n ≡ 0) × (left ≡ carriers)
  stored_loads each = keeping.stored_loads text carriers image stored call each

-- A Load that returned 0.
module _ (text image target carriers : List ℕ) (each : Bytes image) {before after : Memory} (call : LoadCall text image target before after carriers 0) where
  -- No other bytes load as these carriers.
  pub loaded_image : image ≡ image_of carriers
  loaded_image = keeping.loaded_image text image target carriers each call

  -- Reading then writing gives the same image.
  pub loaded_stores : (image' : List ℕ) {left : List ℕ} {n : ℕ} {before' after' : Memory} → StoreCall text carriers image' before' after' left n
      → Enough before' → length image' ≡ length image → (n ≡ 0) × (left ≡ image)
  loaded_stores = keeping.loaded_stores text image target carriers each call

  -- "Any single changed byte in a block is refused": with the byte at any one offset j changed to v, 63 at its block.
  pub changed_byte : (j v : ℕ) → j < length image → v < 256 → (v ≡ get_or image j 0 → ⊥) → (target' : List ℕ) {left : List ℕ} {n : ℕ} {before' after' : Memory}
      → LoadCall text (set image j v) target' before' after' left n → Enough before' → length target' ≡ length target
      → (n ≡ 63) × (left ≡ target') × (after' ≡ settled (refused_numbers text 63 (block_size * (j / block_size))) before')
  changed_byte = keeping.changed_byte text image target carriers each call
