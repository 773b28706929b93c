-- The contracts of Store and Load settle what they speak of; from a returned 0 to the bytes that were kept, and back.
-- Assumes nothing.
use Rattle.std.specs.Prelude.{ℕ, zero, suc, ◌+◌, ◌-◌, ◌*◌, ◌/◌, ◌<◌, ◌≤◌, min, ◌≡◌, refl, Bool, true, false, List, eqb, length, get_or, take, drop, set}
use Rattle.std.proofs.Common.{sym, ap, ◌∙◌, subst, arith}
use Rattle.std.proofs.Math.Option.{Option, none, some}
use Rattle.rules.specs.Limits.{longest_text}
use Rattle.rules.specs.Declarations.{Table, total_words}
use Rattle.rules.specs.Faults.Fault.{Fault}
use Rattle.rules.specs.Answers.{words_from, word_lengths, long_word, refused_numbers}
use Rattle.rules.specs.Images.{block_size, payload_size, checked_size, is_checked, is_formed, fault_by, or_fault, blocks_fault, blocks_for, image_size_of, image_of}
use Rattle.rules.specs.Keeping.{Kept, declined, kept, refused_or, fault_unless, at61, carriers_size, fault60, fault61, fault62, storing, loading, Keeps, not_accepted, kept_by, kept_in}
use Rattle.rules.specs.Calls.Memory.{Memory, Enough, settled}
use Rattle.rules.specs.Calls.Keep.{KeepCall, StoreCall, LoadCall, short_memory, long_text, answer, kept_number, kept_numbers}
use Rattle.laws.specs.Refusals.Numbered.{checks_numbered}
use Rattle.blocks.specs.Laws.Sums.{Bytes}
use Rattle.images.specs.Laws.Kept as law

-- one result
pub one_keep : {text target left left' : List ℕ} {call : Table → Kept} {n n' : ℕ} {before after after' : Memory} → KeepCall text call target before after left n
    → KeepCall text call target before after' left' n' → (n ≡ n') × (after ≡ after') × (left ≡ left')
one_keep (short_memory s e a c) (short_memory s' e' a' c') = (e ∙ sym e', a ∙ sym a', c ∙ sym c')
one_keep (short_memory s e a c) (long_text m l e' a' c') = absurd (s m)
one_keep (short_memory s e a c) (answer x m l k e' a' c') = absurd (s m)
one_keep (long_text m l e a c) (short_memory s e' a' c') = absurd (s m)
one_keep (long_text m l e a c) (long_text m' l' e' a' c') = (e ∙ sym e', a ∙ sym a', c ∙ sym c')
one_keep (long_text m l e a c) (answer x m' l' k e' a' c') = absurd (omega arith)
one_keep (answer x m l k e a c) (short_memory s e' a' c') = absurd (s m)
one_keep (answer x m l k e a c) (long_text m' l' e' a' c') = absurd (omega arith)
one_keep {text} {target} {before = before} (answer x m l k e a c) (answer x' m' l' k' e' a' c') =
    let same : x ≡ x' = law.one_kept k k' in
    (e ∙ ap kept_number same ∙ sym e', a ∙ ap (λ y. settled (kept_numbers text y) before) same ∙ sym a', c ∙ ap (kept_in target) same ∙ sym c')

-- a refusal
refused_by : (target left : List ℕ) (n : ℕ) (k : Kept) → n ≡ kept_number k → left ≡ kept_in target k → (n ≡ 0 → ⊥) → left ≡ target
refused_by target left n (declined m p) e c not = c
refused_by target left n (kept bytes) e c not = absurd (not e)

pub refused_keeps : {text target left : List ℕ} {call : Table → Kept} {n : ℕ} {before after : Memory} → KeepCall text call target before after left n → (n ≡ 0 → ⊥)
    → left ≡ target
refused_keeps (short_memory s e a c) not = c
refused_keeps (long_text m l e a c) not = c
refused_keeps {target = target} {left} {n = n} (answer k m l h e a c) not = refused_by target left n k e c not

-- every refusal has a number that is not 0
abbrev Numbered : Kept → Type 0
Numbered (declined m p) = 0 < m
Numbered (kept bytes) = Unit {0}

or_numbered : (f : Option Fault) (k : Kept) → ((g : Fault) → f ≡ some g → 0 < g.number) → Numbered k → Numbered (refused_or f k)
or_numbered none k h r = r
or_numbered (some g) k h r = h g refl

unless_numbered : (t : Bool) (m p : ℕ) → 0 < m → (g : Fault) → fault_unless t m p ≡ some g → 0 < g.number
unless_numbered true m p h g e = let z : ◌≡◌ {A = ℕ} 0 1 = cc in absurd (omega arith)
unless_numbered false m p h g e = let x : m ≡ g.number = cc in omega arith

at61_numbered : (o : Option ℕ) (g : Fault) → at61 o ≡ some g → 0 < g.number
at61_numbered none g e = let z : ◌≡◌ {A = ℕ} 0 1 = cc in absurd (omega arith)
at61_numbered (some o) g e = let x : 61 ≡ g.number = cc in omega arith

blocks_numbered : (n k size : ℕ) (image : List ℕ) (g : Fault) → blocks_fault n k size image ≡ some g → 0 < g.number
unfolding blocks_fault
blocks_numbered n zero size image g e = let z : ◌≡◌ {A = ℕ} 0 1 = cc in absurd (omega arith)
blocks_numbered n (suc k) size image g e =
    let block = take block_size image in
    by (is_checked block) (is_formed n (min payload_size size) (take checked_size block)) e (blocks_numbered (n + 1) k (size - payload_size) (drop block_size image) g)
  where
    by : (a b : Bool) → or_fault (fault_by a b) (block_size * n) (blocks_fault (n + 1) k (size - payload_size) (drop block_size image)) ≡ some g
        → (blocks_fault (n + 1) k (size - payload_size) (drop block_size image) ≡ some g → 0 < g.number) → 0 < g.number
    by false b e' rest = let x : 63 ≡ g.number = cc in omega arith
    by true false e' rest = let x : 64 ≡ g.number = cc in omega arith
    by true true e' rest = rest e'

module _ (ds : Table) (carriers : List ℕ) where
  numbered_60 : (g : Fault) → fault60 ds carriers ≡ some g → 0 < g.number
  unfolding fault60
  numbered_60 g e = unless_numbered (eqb (length carriers) (carriers_size ds)) 60 0 (omega arith) g e

  numbered_61 : (g : Fault) → fault61 ds carriers ≡ some g → 0 < g.number
  unfolding fault61
  numbered_61 g e = at61_numbered (long_word 0 (word_lengths ds) (words_from (total_words ds) carriers)) g e

numbered_62 : (ds : Table) (image : List ℕ) (g : Fault) → fault62 ds image ≡ some g → 0 < g.number
unfolding fault62
numbered_62 ds image g e = unless_numbered (eqb (length image) (image_size_of (carriers_size ds))) 62 0 (omega arith) g e

storing_numbered : (carriers image : List ℕ) (ds : Table) → Numbered (storing carriers image ds)
unfolding storing
storing_numbered carriers image ds =
    or_numbered _ _ (numbered_60 ds carriers) (or_numbered _ _ (numbered_61 ds carriers) (or_numbered _ _ (numbered_62 ds image) tt))

loading_numbered : (image carriers : List ℕ) (ds : Table) → Numbered (loading image carriers ds)
unfolding loading
loading_numbered image carriers ds =
    or_numbered _ _ (numbered_60 ds carriers)
    (or_numbered _ _ (numbered_62 ds image)
    (or_numbered _ _ (blocks_numbered 0 (blocks_for (carriers_size ds)) (carriers_size ds) image)
    (or_numbered _ _ (numbered_61 ds _) tt)))

keeps_numbered : {text : List ℕ} {call : Table → Kept} {k : Kept} → ((ds : Table) → Numbered (call ds)) → Keeps text call k → Numbered k
keeps_numbered h (not_accepted c) = checks_numbered c
keeps_numbered h (kept_by d f c) = h _

-- a call that returns 0
record Kept-by (text : List ℕ) (call : Table → Kept) (left : List ℕ) : Type 0 where
  pub short : length text ≤ longest_text
  pub keeps : Keeps text call (kept left)

zero_by : {text left : List ℕ} {call : Table → Kept} (target : List ℕ) (k : Kept) → Numbered k → Keeps text call k → 0 ≡ kept_number k → left ≡ kept_in target k
    → Keeps text call (kept left)
zero_by target (declined m p) h r e c = absurd (omega arith)
zero_by {text} {call = call} target (kept bytes) h r e c = subst (λ b. Keeps text call (kept b)) (sym c) r

returned_0 : {text target left : List ℕ} {call : Table → Kept} {before after : Memory} → ((ds : Table) → Numbered (call ds)) → KeepCall text call target before after left 0
    → Kept-by text call left
returned_0 h (short_memory s e a c) = absurd (omega arith)
returned_0 h (long_text m l e a c) = absurd (omega arith)
returned_0 {target = target} h (answer k m l r e a c) = record { short = l; keeps = zero_by target k (keeps_numbered h r) r e c }

-- a call whose answer is known
record Answered (text : List ℕ) (k : Kept) (target : List ℕ) (before after : Memory) (left : List ℕ) (n : ℕ) : Type 0 where
  pub number : n ≡ kept_number k
  pub memory_is : after ≡ settled (kept_numbers text k) before
  pub left_is : left ≡ kept_in target k

answered_by : {text target left : List ℕ} {call : Table → Kept} {k : Kept} {n : ℕ} {before after : Memory} → KeepCall text call target before after left n → Enough before
    → length text ≤ longest_text → Keeps text call k → Answered text k target before after left n
answered_by (short_memory s e a c) enough short r = absurd (s enough)
answered_by (long_text m l e a c) enough short r = absurd (omega arith)
answered_by {text} {target} {before = before} (answer k m l h e a c) enough short r =
    let same = law.one_kept h r in
    record { number = e ∙ ap kept_number same; memory_is = a ∙ ap (λ y. settled (kept_numbers text y) before) same; left_is = c ∙ ap (kept_in target) same }

-- Store
module _ (text carriers image stored : List ℕ) {before after : Memory} (call : StoreCall text carriers image before after stored 0) where
  by_store : Kept-by text (storing carriers image) stored
  by_store = returned_0 (storing_numbered carriers image) call

  pub stored_image : stored ≡ image_of carriers
  stored_image = law.stored_image text carriers image stored by_store.keeps

  pub stored_loads : Bytes carriers → (target : List ℕ) {left : List ℕ} {n : ℕ} {before' after' : Memory} → LoadCall text stored target before' after' left n
      → Enough before' → length target ≡ length carriers → (n ≡ 0) × (left ≡ carriers)
  stored_loads each target next enough same =
      let r = answered_by next enough by_store.short (law.stored_loads text carriers image stored target each same by_store.keeps) in
      (r.number, r.left_is)

-- Load
module _ (text image target carriers : List ℕ) (each : Bytes image) {before after : Memory} (call : LoadCall text image target before after carriers 0) where
  by_load : Kept-by text (loading image target) carriers
  by_load = returned_0 (loading_numbered image target) call

  pub loaded_image : image ≡ image_of carriers
  loaded_image = sym (law.loaded_image text image target carriers each by_load.keeps)

  pub loaded_stores : (image' : List ℕ) {left : List ℕ} {n : ℕ} {before' after' : Memory} → StoreCall text carriers image' before' after' left n
      → Enough before' → length image' ≡ length image → (n ≡ 0) × (left ≡ image)
  loaded_stores image' next enough same =
      let r = answered_by next enough by_load.short (law.loaded_stores text image target carriers each by_load.keeps image' same) in
      (r.number, r.left_is)

  pub changed_byte : (j v : ℕ) → j < length image → v < 256 → (v ≡ get_or image j 0 → ⊥) → (target' : List ℕ) {left : List ℕ} {n : ℕ} {before' after' : Memory}
      → LoadCall text (set image j v) target' before' after' left n → Enough before' → length target' ≡ length target
      → (n ≡ 63) × (left ≡ target') × (after' ≡ settled (refused_numbers text 63 (block_size * (j / block_size))) before')
  changed_byte j v inside small new target' next enough same =
      let r = answered_by next enough by_load.short (law.changed_byte text image target carriers each by_load.keeps target' j v inside small new same) in
      (r.number, r.left_is, r.memory_is)
