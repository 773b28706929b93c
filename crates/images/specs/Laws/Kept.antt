-- Laws of what Store and Load may answer: it is one; storing then loading, loading then storing; an image that loads; one changed byte.
-- Assumes nothing.
use Rattle.std.specs.Prelude.{ℕ, ◌*◌, ◌/◌, ◌<◌, ◌≤◌, ◌≡◌, refl, Bool, true, false, List, length, get_or}
use Rattle.std.proofs.Common.{sym, ◌∙◌, subst, arith, length-set}
use Rattle.std.proofs.Math.Path.{ap, ap₂}
use Rattle.std.proofs.Math.Option.{Option, none, some}
use borrow.Author.Tests.{eqb-true, eq-eqb}
use Rattle.std.proofs.Math.ListN.{set}
use Rattle.rules.specs.Text.Scan.{scan}
use Rattle.rules.specs.Grammar.Trees.{Description, flatten}
use Rattle.rules.specs.Declarations.{Table, declarations, total_words}
use Rattle.rules.specs.Faults.Fault.{Fault}
use Rattle.rules.specs.Answers.{accepted, refused, Checks}
use Rattle.rules.specs.Images.{block_size, blocks_for, image_size_of, image_of, image_fault, held_in}
use Rattle.rules.specs.Keeping.{Kept, declined, kept, refused_or, fault_unless, carriers_size, fault60, fault61, fault62, storing, loading, Keeps, not_accepted, kept_by}
use Rattle.laws_grammar.specs.Answers.{one_verdict, accepted_iff_lawful, description_of, description_of_lem}
use Rattle.laws_accepted.proofs.Accepted.Declared.{accepted_declares, few_words}
use Rattle.blocks.specs.Laws.Sums.{Bytes}
use Rattle.images.specs.Laws.Images.{length_image, image_sound, image_holds, length_held_in, image_of_held, image_changed}

-- a text has one description
one_description : (text : List ℕ) (d e : Description) → flatten d ≡ (scan text).tokens → flatten e ≡ (scan text).tokens → d ≡ e
one_description text d e x y = let both : some d ≡ some e = sym (description_of_lem d) ∙ ap description_of (x ∙ sym y) ∙ description_of_lem e in cc

pub one_kept : {text : List ℕ} {call : Table → Kept} {x y : Kept} → Keeps text call x → Keeps text call y → x ≡ y
one_kept {text} (not_accepted {m = m} {p = p} c) (not_accepted {m = m'} {p = p'} c') = let e : refused m p ≡ refused m' p' = one_verdict text c c' in cc
one_kept {text} (not_accepted {m = m} {p = p} c) (kept_by {n = n} {w = w} d f c') = let e : refused m p ≡ accepted n w = one_verdict text c c' in let z : ◌≡◌ {A = ℕ} 0 1 = cc in absurd (omega arith)
one_kept {text} (kept_by {n = n} {w = w} d f c) (not_accepted {m = m} {p = p} c') = let e : accepted n w ≡ refused m p = one_verdict text c c' in let z : ◌≡◌ {A = ℕ} 0 1 = cc in absurd (omega arith)
one_kept {text} {call} (kept_by d f c) (kept_by d' f' c') = ap (λ x. call (declarations x)) (one_description text d d' f f')

-- what was read where bytes were kept
record Read (text : List ℕ) (call : Table → Kept) (left : List ℕ) : Type 0 where
  pub description : Description
  pub declared : ℕ
  pub words : ℕ
  pub stands : flatten description ≡ (scan text).tokens
  pub checks : Checks text (accepted declared words)
  pub is : call (declarations description) ≡ kept left

read_by : {text : List ℕ} {call : Table → Kept} {x : Kept} {left : List ℕ} → Keeps text call x → x ≡ kept left → Read text call left
read_by (not_accepted c) e = let z : ◌≡◌ {A = ℕ} 0 1 = cc in absurd (omega arith)
read_by (kept_by {n = n} {w = w} d f c) e = record { description = d; declared = n; words = w; stands = f; checks = c; is = e }

-- no fault stood before what was kept
past : (f : Option Fault) (k : Kept) (b : List ℕ) → refused_or f k ≡ kept b → (f ≡ none) × (k ≡ kept b)
past none k b e = (refl, e)
past (some f) k b e = let z : ◌≡◌ {A = ℕ} 0 1 = cc in absurd (omega arith)

so : (t : Bool) (m p : ℕ) → fault_unless t m p ≡ none → t ≡ true
so true m p e = refl
so false m p e = let z : ◌≡◌ {A = ℕ} 0 1 = cc in absurd (omega arith)

record StoredAs (ds : Table) (carriers left : List ℕ) : Type 0 where
  pub long : length carriers ≡ carriers_size ds
  pub fine : fault61 ds carriers ≡ none
  pub is : left ≡ image_of carriers

record LoadedAs (ds : Table) (image carriers left : List ℕ) : Type 0 where
  pub long : length carriers ≡ carriers_size ds
  pub sized : length image ≡ image_size_of (carriers_size ds)
  pub sound : image_fault (carriers_size ds) image ≡ none
  pub fine : fault61 ds left ≡ none
  pub is : left ≡ held_in (carriers_size ds) image

module _ (ds : Table) where
  is_60 : (carriers : List ℕ) → fault60 ds carriers ≡ none → length carriers ≡ carriers_size ds
  unfolding fault60
  is_60 carriers e = eqb-true _ _ (so _ 60 0 e)

  fine_60 : (carriers : List ℕ) → length carriers ≡ carriers_size ds → fault60 ds carriers ≡ none
  unfolding fault60
  fine_60 carriers e = ap (λ t. fault_unless t 60 0) (eq-eqb _ _ e)

  is_62 : (image : List ℕ) → fault62 ds image ≡ none → length image ≡ image_size_of (carriers_size ds)
  unfolding fault62
  is_62 image e = eqb-true _ _ (so _ 62 0 e)

  fine_62 : (image : List ℕ) → length image ≡ image_size_of (carriers_size ds) → fault62 ds image ≡ none
  unfolding fault62
  fine_62 image e = ap (λ t. fault_unless t 62 0) (eq-eqb _ _ e)

  stored_is : (carriers image left : List ℕ) → storing carriers image ds ≡ kept left → StoredAs ds carriers left
  unfolding storing
  stored_is carriers image left e =
      let a = past (fault60 ds carriers) _ left e in
      let b = past (fault61 ds carriers) _ left a.1 in
      let c = past (fault62 ds image) _ left b.1 in
      let same : kept (image_of carriers) ≡ kept left = c.1 in
      let l : left ≡ image_of carriers = cc in
      record { long = is_60 carriers a.0; fine = b.0; is = l }

  loaded_is : (image carriers left : List ℕ) → loading image carriers ds ≡ kept left → LoadedAs ds image carriers left
  unfolding loading
  loaded_is image carriers left e =
      let a = past (fault60 ds carriers) _ left e in
      let b = past (fault62 ds image) _ left a.1 in
      let c = past (image_fault (carriers_size ds) image) _ left b.1 in
      let f = past (fault61 ds (held_in (carriers_size ds) image)) _ left c.1 in
      let same : kept (held_in (carriers_size ds) image) ≡ kept left = f.1 in
      let l : left ≡ held_in (carriers_size ds) image = cc in
      record { long = is_60 carriers a.0; sized = is_62 image b.0; sound = c.0; fine = ap (fault61 ds) l ∙ f.0; is = l }

  loads_back : (carriers target : List ℕ) → blocks_for (carriers_size ds) ≤ 256 → Bytes carriers → length carriers ≡ carriers_size ds → length target ≡ carriers_size ds
      → fault61 ds carriers ≡ none → loading (image_of carriers) target ds ≡ kept carriers
  unfolding loading
  loads_back carriers target few each l t fine =
      let image = image_of carriers in
      let size = carriers_size ds in
      let held : held_in size image ≡ carriers = ap (λ s. held_in s image) (sym l) ∙ image_holds carriers in
      let sound : image_fault size image ≡ none = ap (λ s. image_fault s image) (sym l) ∙ image_sound carriers each (subst (λ s. blocks_for s ≤ 256) (sym l) few) in
      let rest = refused_or (fault61 ds (held_in size image)) (kept (held_in size image)) in
      ap₂ (λ x y. refused_or x (refused_or y (refused_or (image_fault size image) rest))) (fine_60 target t) (fine_62 image (length_image carriers ∙ ap image_size_of l))
      ∙ ap (λ x. refused_or x rest) sound ∙ ap (λ c. refused_or (fault61 ds c) (kept c)) held ∙ ap (λ x. refused_or x (kept carriers)) fine

  stores_back : (carriers image : List ℕ) → length carriers ≡ carriers_size ds → fault61 ds carriers ≡ none → length image ≡ image_size_of (carriers_size ds)
      → storing carriers image ds ≡ kept (image_of carriers)
  unfolding storing
  stores_back carriers image l fine sized =
      ap₂ (λ x y. refused_or x (refused_or y (refused_or (fault62 ds image) (kept (image_of carriers))))) (fine_60 carriers l) fine
      ∙ ap (λ x. refused_or x (kept (image_of carriers))) (fine_62 image sized)

  changed_refused : (image target : List ℕ) (j v : ℕ) → length image ≡ image_size_of (carriers_size ds) → image_fault (carriers_size ds) image ≡ none → length target ≡ carriers_size ds
      → Bytes image → j < length image → v < 256 → (v ≡ get_or image j 0 → ⊥) → loading (set image j v) target ds ≡ declined 63 (block_size * (j / block_size))
  unfolding loading
  changed_refused image target j v l sound t each h small new =
      let other = set image j v in
      let size = carriers_size ds in
      let rest = refused_or (fault61 ds (held_in size other)) (kept (held_in size other)) in
      ap₂ (λ x y. refused_or x (refused_or y (refused_or (image_fault size other) rest))) (fine_60 target t) (fine_62 other (length-set image j v ∙ l))
      ∙ ap (λ x. refused_or x rest) (image_changed size image l j v each sound h small new)

-- an accepted text has at most 4,096 words, so at most 66 blocks
few_blocks : {text : List ℕ} {n w : ℕ} (d : Description) → flatten d ≡ (scan text).tokens → Checks text (accepted n w) → blocks_for (carriers_size (declarations d)) ≤ 256
unfolding blocks_for
few_blocks {text} {n} {w} d f c =
    let l = (accepted_iff_lawful text n w).0 c in
    let same : l.description ≡ d = one_description text l.description d l.stands f in
    let few : total_words (declarations l.description) ≤ 4096 = few_words (accepted_declares l.description n w l.faultless) in
    let words : total_words (declarations d) ≤ 4096 = subst (λ x. total_words (declarations x) ≤ 4096) same few in
    omega arith

-- what Store has written
pub stored_image : (text carriers image stored : List ℕ) → Keeps text (storing carriers image) (kept stored) → stored ≡ image_of carriers
stored_image text carriers image stored k = let r = read_by k refl in (stored_is (declarations r.description) carriers image stored r.is).is

-- Store, then Load
pub stored_loads : (text carriers image stored target : List ℕ) → Bytes carriers → length target ≡ length carriers → Keeps text (storing carriers image) (kept stored)
    → Keeps text (loading stored target) (kept carriers)
stored_loads text carriers image stored target each same k =
    let r = read_by k refl in
    let d = r.description in
    let is = stored_is (declarations d) carriers image stored r.is in
    let back : loading stored target (declarations d) ≡ kept carriers =
    ap (λ b. loading b target (declarations d)) is.is
    ∙ loads_back (declarations d) carriers target (few_blocks d r.stands r.checks) each is.long (same ∙ is.long) is.fine in
    subst (Keeps text (loading stored target)) back (kept_by d r.stands r.checks)

-- an image that loads
module _ (text image target got : List ℕ) (each : Bytes image) (k : Keeps text (loading image target) (kept got)) where
  pub loaded_image : image_of got ≡ image
  loaded_image =
      let r = read_by k refl in
      let ds = declarations r.description in
      let is = loaded_is ds image target got r.is in
      ap image_of is.is ∙ image_of_held (carriers_size ds) image is.sized each is.sound

  pub loaded_stores : (image' : List ℕ) → length image' ≡ length image → Keeps text (storing got image') (kept image)
  loaded_stores image' same =
      let r = read_by k refl in
      let ds = declarations r.description in
      let is = loaded_is ds image target got r.is in
      let long = ap length is.is ∙ length_held_in (carriers_size ds) image is.sized in
      subst (Keeps text (storing got image')) (stores_back ds got image' long is.fine (same ∙ is.sized) ∙ ap kept loaded_image)
      (kept_by r.description r.stands r.checks)

  pub changed_byte : (target' : List ℕ) (j v : ℕ) → j < length image → v < 256 → (v ≡ get_or image j 0 → ⊥) → length target' ≡ length target
      → Keeps text (loading (set image j v) target') (declined 63 (block_size * (j / block_size)))
  changed_byte target' j v h small new same =
      let r = read_by k refl in
      let ds = declarations r.description in
      let is = loaded_is ds image target got r.is in
      subst (Keeps text (loading (set image j v) target')) (changed_refused ds image target' j v is.sized is.sound (same ∙ is.long) each h small new)
      (kept_by r.description r.stands r.checks)
