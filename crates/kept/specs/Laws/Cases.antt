-- The cases of Store and Load, from what start and judge found.
-- Assumes nothing.
use Rattle.std.specs.Prelude.{ℕ, ◌*◌, ◌<◌, ◌≤◌, refl, Bool, List, eqb, length, ⊤, Ok, Err}
use Rattle.std.proofs.Math.Path.{◌≡◌, ap, ap₂}
use Rattle.std.proofs.Common.{sym, ◌∙◌, subst, arith, eq-eqb, ne_eqb}
use Rattle.std.proofs.Math.Bool.{true, false}
use Rattle.std.proofs.Math.Option.{Option, none, some}
use Rattle.rules.specs.Declarations.{Table, total_words}
use Rattle.rules.specs.Steps.Runs.{run}
use Rattle.rules.specs.Faults.Fault.{fault}
use Rattle.rules.specs.Faults.Whole.{main_name}
use Rattle.rules.specs.Answers.{Result, result_of, start_or61, run_on, words_from, word_lengths, long_word}
use Rattle.rules.specs.Answers.{refusal as not_run}
use Rattle.rules.specs.Images.{image_size_of, image_of, blocks_for, image_fault, held_in}
use Rattle.rules.specs.Keeping.{Kept, declined, kept, refused_or, fault_unless, at61, carriers_size, fault60, fault61, fault62, storing, loading, kept_in}
use Rattle.starts.specs.Starts.{Starts, Begins, Declines}
use Rattle.laws_accepted.proofs.Accepted.Declared.{declares, few_words}
use Rattle.table.specs.Ready.{Scene, table_of}
use Rattle.rules.specs.Refusals.{refusal_at, OrRefused}
use Rattle.rules.specs.declared.refusals.Refusal.{Refusal}
use Rattle.images.specs.Judged.{fault_of}
use Rattle.images.specs.Laws.Images.{length_held_in, blocks_near}
use Rattle.kept.specs.Kept.{Keeping, Written, wrong_length, written, Taken}

-- a refusal, and bytes that are written
declined_as : (x : Kept) (target : List ℕ) (r : Refusal) → x ≡ declined r.number r.place → r.place < 65536 → Keeping x target target (Err r)
declined_as x target r e near = record { is = sym e; left_is = sym (ap (kept_in target) e); near = near }

done_as : (x : Kept) (target left : List ℕ) → x ≡ kept left → Keeping x target left (Ok tt)
done_as x target left e = record { is = sym e; left_is = sym (ap (kept_in target) e); near = tt }

keeping_same : {x y : Kept} {target left : List ℕ} {r : OrRefused ⊤} → Keeping x target left r → y ≡ x → Keeping y target left r
keeping_same {target = target} k e = record { is = k.is ∙ sym e; left_is = k.left_is ∙ sym (ap (kept_in target) e); near = k.near }

-- 60 and 61 as a run has them
module _ (ds : Table) (carriers : List ℕ) where
  abbrev long : Option ℕ
  long = long_word 0 (word_lengths ds) (words_from (total_words ds) carriers)

  abbrev result : Result
  result = result_of (run ds (main_name ds) 0 (words_from (total_words ds) carriers))

  run_refused : {m p : ℕ} → Declines ds carriers m p → (k : Kept)
      → (refused_or (fault60 ds carriers) (refused_or (fault61 ds carriers) k) ≡ declined m p) × p < 65536
  unfolding run_on fault60 fault61
  run_refused {m} {p} d k = by (eqb (length carriers) (8 * total_words ds)) long (d.refuses 0)
    where
      by : (t : Bool) (o : Option ℕ) → elim t [ false ↦ not_run 60 0 | true ↦ start_or61 o result ] ≡ not_run m p
          → (refused_or (fault_unless t 60 0) (refused_or (at61 o) k) ≡ declined m p) × p < 65536
      by false o e =
          let x : 60 ≡ m = cc in
          let y : 0 ≡ p = cc in
          (ap₂ declined x y, omega arith)
      by true none e = let z : ◌≡◌ {A = ℕ} 0 1 = cc in absurd (omega arith)
      by true (some o) e =
          let x : 61 ≡ m = cc in
          let y : o ≡ p = cc in
          (ap₂ declined x y, omega (arith, d.near))

  run_begun : Begins ds carriers → (fault60 ds carriers ≡ none) × (fault61 ds carriers ≡ none)
  unfolding run_on fault60 fault61
  run_begun b = by (eqb (length carriers) (8 * total_words ds)) long (b.runs 0)
    where
      by : (t : Bool) (o : Option ℕ) → elim t [ false ↦ not_run 60 0 | true ↦ start_or61 o result ] ≡ result
          → (fault_unless t 60 0 ≡ none) × (at61 o ≡ none)
      by false o e = let z : ◌≡◌ {A = ℕ} 0 1 = cc in absurd (omega arith)
      by true none e = (refl, refl)
      by true (some o) e = let z : ◌≡◌ {A = ℕ} 0 1 = cc in absurd (omega arith)

  long_60 : length carriers ≡ carriers_size ds → fault60 ds carriers ≡ none
  unfolding fault60
  long_60 e = ap (λ t. fault_unless t 60 0) (eq-eqb _ _ e)

  other_60 : (length carriers ≡ carriers_size ds → ⊥) → fault60 ds carriers ≡ some (fault 60 0)
  unfolding fault60
  other_60 h = ap (λ t. fault_unless t 60 0) (ne_eqb _ _ h)

long_62 : (ds : Table) (image : List ℕ) → length image ≡ image_size_of (carriers_size ds) → fault62 ds image ≡ none
unfolding fault62
long_62 ds image e = ap (λ t. fault_unless t 62 0) (eq-eqb _ _ e)

other_62 : (ds : Table) (image : List ℕ) → (length image ≡ image_size_of (carriers_size ds) → ⊥) → fault62 ds image ≡ some (fault 62 0)
unfolding fault62
other_62 ds image h = ap (λ t. fault_unless t 62 0) (ne_eqb _ _ h)

few_blocks : (size : ℕ) → size ≤ 32768 → blocks_for size ≤ 66
unfolding blocks_for
few_blocks size h = omega arith

-- Store
module _ (ds : Table) (carriers image : List ℕ) where
  pub store_declined : {r : Refusal} → Declines ds carriers r.number r.place → Keeping (storing carriers image ds) image image (Err r)
  unfolding storing
  store_declined {r} d =
      let known = run_refused ds carriers d (refused_or (fault62 ds image) (kept (image_of carriers))) in
      declined_as _ image r known.0 known.1

  begun : Begins ds carriers → storing carriers image ds ≡ refused_or (fault62 ds image) (kept (image_of carriers))
  unfolding storing
  begun b =
      let r = run_begun ds carriers b in
      ap₂ (λ x y. refused_or x (refused_or y (refused_or (fault62 ds image) (kept (image_of carriers))))) r.0 r.1

  pub store_begun : {left : List ℕ} {r : OrRefused ⊤} → Begins ds carriers → Written carriers image left r → Keeping (storing carriers image ds) image left r
  store_begun b (wrong_length h e) =
      let same = begun b ∙ ap (λ x. refused_or x (kept (image_of carriers))) (other_62 ds image (λ x. h (x ∙ ap image_size_of (sym b.long)))) in
      subst (λ l. Keeping (storing carriers image ds) image l (Err (refusal_at 62 0))) (sym e) (declined_as _ image (refusal_at 62 0) same (omega arith))
  store_begun b (written l e) =
      let same = begun b ∙ ap (λ x. refused_or x (kept (image_of carriers))) (long_62 ds image (l ∙ ap image_size_of b.long)) in
      subst (λ l. Keeping (storing carriers image ds) image l (Ok tt)) (sym e) (done_as _ image (image_of carriers) same)

-- Load
module _ (ds : Table) (image carriers : List ℕ) where
  abbrev held : List ℕ
  held = held_in (carriers_size ds) image

  abbrev behind_64 : Kept
  behind_64 = refused_or (fault61 ds held) (kept held)

  abbrev behind_62 : Kept
  behind_62 = refused_or (image_fault (carriers_size ds) image) behind_64

  pub load_60 : (length carriers ≡ carriers_size ds → ⊥) → Keeping (loading image carriers ds) carriers carriers (Err (refusal_at 60 0))
  unfolding loading
  load_60 h = declined_as _ carriers (refusal_at 60 0) (ap (λ x. refused_or x (refused_or (fault62 ds image) behind_62)) (other_60 ds carriers h)) (omega arith)

  pub load_62 : length carriers ≡ carriers_size ds → (length image ≡ image_size_of (carriers_size ds) → ⊥) → Keeping (loading image carriers ds) carriers carriers (Err (refusal_at 62 0))
  unfolding loading
  load_62 l h = declined_as _ carriers (refusal_at 62 0) (ap₂ (λ x y. refused_or x (refused_or y behind_62)) (long_60 ds carriers l) (other_62 ds image h)) (omega arith)

  sized : length carriers ≡ carriers_size ds → length image ≡ image_size_of (carriers_size ds) → loading image carriers ds ≡ behind_62
  unfolding loading
  sized l h = ap₂ (λ x y. refused_or x (refused_or y behind_62)) (long_60 ds carriers l) (long_62 ds image h)

  pub load_block : {r : Refusal} → carriers_size ds ≤ 32768 → length carriers ≡ carriers_size ds → length image ≡ image_size_of (carriers_size ds)
      → some (fault r.number r.place) ≡ image_fault (carriers_size ds) image → Keeping (loading image carriers ds) carriers carriers (Err r)
  load_block {r} small l h e =
      let near = blocks_near 0 (blocks_for (carriers_size ds)) (carriers_size ds) image (fault r.number r.place) (sym e) in
      let few = few_blocks (carriers_size ds) small in
      declined_as _ carriers r (sized l h ∙ ap (λ x. refused_or x behind_64) (sym e)) (omega (arith, near, few))

  pub load_sound : {left : List ℕ} {r : OrRefused ⊤} → length carriers ≡ carriers_size ds → length image ≡ image_size_of (carriers_size ds)
      → none ≡ image_fault (carriers_size ds) image → Taken ds image carriers left r → Keeping (loading image carriers ds) carriers left r
  load_sound l h e t =
      keeping_same t.taken (sized l h ∙ ap (λ x. refused_or x behind_64) (sym e)
      ∙ ap (λ s. refused_or (fault61 ds (held_in s image)) (kept (held_in s image))) (sym l))

  module _ (l : length carriers ≡ carriers_size ds) (h : length image ≡ image_size_of (length carriers)) where
    pub taken_declined : {r : Refusal} → Declines ds (held_in (length carriers) image) r.number r.place → Taken ds image carriers carriers (Err r)
    taken_declined {r} d =
        let words = held_in (length carriers) image in
        let known = run_refused ds words d (kept words) in
        let long = long_60 ds words (length_held_in (length carriers) image h ∙ l) in
        record { taken = declined_as _ carriers r (sym (ap (λ x. refused_or x (refused_or (fault61 ds words) (kept words))) long) ∙ known.0) known.1 }

    pub taken_done : {left : List ℕ} → Begins ds (held_in (length carriers) image) → left ≡ held_in (length carriers) image → Taken ds image carriers left (Ok tt)
    taken_done {left} b e =
        let words = held_in (length carriers) image in
        record { taken = done_as _ carriers left (ap (λ x. refused_or x (kept words)) (run_begun ds words b).1 ∙ ap kept (sym e)) }

pub small_carriers : {records values decls carriers : List ℕ} {m : ℕ} (v : Scene records values decls m) → Begins (table_of v) carriers → length carriers ≤ 32768
small_carriers v b = omega (arith, b.long, few_words (declares v.description v.ready.lawful))

pub same_held : {ds : Table} (image : List ℕ) {k n : ℕ} {s : OrRefused ⊤} → Starts ds (held_in k image) s → k ≡ n → Starts ds (held_in n image) s
same_held {ds} image {s = s} h e = subst (λ k. Starts ds (held_in k image) s) e h

pub judged_refused : {j : OrRefused ⊤} (image : List ℕ) {r : Refusal} {k size : ℕ} → fault_of j ≡ image_fault k image → j ≡ Err r → k ≡ size
    → some (fault r.number r.place) ≡ image_fault size image
judged_refused image h e q = sym (ap fault_of e) ∙ h ∙ ap (λ s. image_fault s image) q

pub judged_fine : {j : OrRefused ⊤} (image : List ℕ) {k size : ℕ} → fault_of j ≡ image_fault k image → j ≡ Ok tt → k ≡ size → none ≡ image_fault size image
judged_fine image h e q = sym (ap fault_of e) ∙ h ∙ ap (λ s. image_fault s image) q
