-- Laws of parts that are stored and told: what a turn of the loop adds.
-- Assumes nothing.
use Rattle.std.specs.Prelude.{ℕ, zero, suc, ◌+◌, ◌-◌, ◌*◌, ◌<◌, ◌≤◌, ◌≡◌, get_or}
use Rattle.std.proofs.Math.Path.{refl, sym, ap, ap₂}
use Rattle.std.proofs.Common.{◌∙◌, subst, arith, length-append}
use mathlib.Core.List.{List, [], ◌∷◌, ◌++◌, append_assoc, append-nil}
use Rattle.std.proofs.Math.ListN.{length}
use Rattle.cells.specs.Cells as bytes
use Rattle.cells.specs.Cells.{cells}
use Rattle.cells.proofs.Laws.{cells_get}
use Rattle.rules.specs.Values.{cut}
use Rattle.rules.specs.Limits.{most_words}
use Rattle.rules.specs.Declarations.{total_words}
use Rattle.rules.specs.Steps.Evaluation.{Carriers, Field}
use Rattle.rules.specs.Stores.{Entry, entry, entries_of}
use Rattle.values.specs.Laws.Cuts.{pieces, cut_pieces}
use Rattle.traces.specs.Cited.Events.{stores}
use Rattle.operands.specs.Cells.{cell_first, cell_bits}
use Rattle.evaluation.specs.Stores.{sizes, Put, StoresAt}
use Rattle.evaluation.specs.Laws.Stores.{Storing, storing, stored_all, next_field, packed, turn_writes, stored_turn}
use Rattle.listed.specs.declared.entries.Entry as code
use Rattle.listed.specs.Named.{entry_of}
use Rattle.matching.specs.Matching.{Matching, told, told_all, told_part}
use Rattle.matching.specs.Room.{matching_in, Sound, Stands}
use Rattle.noting.specs.Laws.Parts.{part_told}
use Rattle.matching.specs.Laws.Matched.{told_from}
use Rattle.storing.specs.Parts.{PartPut, told_at, Tells, StoresTold}

pub part_put : {before after : List ℕ} {word low size x y : ℕ} → y ≡ x → Put before after word low size y → Put before after word low size x
part_put {before} {after} {word} {low} {size} e p = subst (Put before after word low size) e p

pub part_small : {before after : List ℕ} {f rest x place : ℕ} {r : code.Entry} → PartPut before after f rest x place r → 8 * cell_first f + 8 ≤ length before
    → length before ≤ 8 * most_words → (entry_of r).word < most_words
part_small p h k = omega (arith, p.word)

pub told_first : (y : Entry) (z : Matching) {l : List Entry} {room : List ℕ} {k : ℕ} → k ≡ 0 → Stands l room (told (stores y []) z) → Stands l room (told_at k y z)
told_first y z e w = rw e w

pub told_next : (y : Entry) (z : Matching) {l : List Entry} {room : List ℕ} {k : ℕ} → (k ≡ 0 → ⊥) → Stands l room (told_part y z) → Stands l room (told_at k y z)
told_next y z {k = zero} n w = absurd (n refl)
told_next y z {k = suc k} n w = w

-- a part more is told
tells_more : {l : List Entry} (room : List ℕ) {room' room'' : List ℕ} (es : List Entry) (y : Entry) → Tells l room room' es
    → Stands l room'' (told_at (length es) y (matching_in l room')) → Tells l room room'' (es ++ y ∷ [])
unfolding told_all
tells_more room [] y t w = told_from (told (stores y [])) t w
tells_more {l} room (e ∷ es) y t w =
    let u = told_from (told_part y) t w in
    record { sound = u.sound; is = u.is ∙ part_told e es y (matching_in l room) }

module _ {carriers scratch : List ℕ} {count bits : ℕ} (v : StoresAt carriers scratch count bits) (place x : ℕ) where
  abbrev words : List ℕ → Carriers
  words b = cells 8 (total_words v.table) b

  abbrev all_entries : List Entry
  all_entries = entries_of place (words carriers) v.fields (cut (sizes v.fields) x)

  -- of the fields that are left
  abbrev entries_left : {now : List ℕ} {k rest : ℕ} → Storing v x now k rest → List Entry
  entries_left {now} {k} {rest} s = entries_of place (words now) s.left (pieces (sizes s.left) rest x)

  first_entries : entries_left (storing v x) ≡ all_entries
  unfolding storing
  first_entries =
      ap (entries_of place (words carriers) v.fields) (ap (λ n. pieces (sizes v.fields) n x) v.total_bits ∙ cut_pieces (sizes v.fields) x)

  -- a part is stored
  module _ {now : List ℕ} {k rest : ℕ} (s : Storing v x now k rest) (h : k < count) {c : ℕ} (e : c ≡ bytes.cell 8 scratch k) {after : List ℕ} {y : code.Entry}
      (p : PartPut now after c rest x place y) where
    is_entry : entry_of y ≡ entry place (cell_first c) (bytes.cell 8 after (cell_first c))
    is_entry = ap₂ (λ a b. entry a b y.value) p.place p.word ∙ ap (entry place (cell_first c)) p.value

    turn_entries : entries_left s ≡ entry_of y ∷ entries_left (stored_turn v x s h e p.put)
    unfolding entries_of pieces stored_turn
    turn_entries =
        let n = next_field v x s h in
        let w = n.field_next.word in
        let m = n.field_next.size in
        let is_c = packed v x s h e in
        ap (λ fs. entries_of place (words now) fs (pieces (sizes fs) rest x)) n.are
        ∙ ap (λ u. entry place w (get_or u w 0) ∷ entries_of place u n.more (pieces (sizes n.more) (rest - m) x)) (sym (turn_writes v x s h e p.put))
        ∙ ap₂ (λ (a : Entry) z. a ∷ entries_of place (words after) n.more (pieces (sizes n.more) z x))
        (ap (entry place w) (cells_get 8 (total_words v.table) after w n.inside.word)
        ∙ ap (λ i. entry place i (bytes.cell 8 after i)) (sym is_c.word)
        ∙ sym is_entry)
        (ap (λ z. rest - z) (sym is_c.size))

  -- on the way: k parts are stored, and told as those of one transfer
  module _ (l : List Entry) (room : List ℕ) where
    pub record Telling (room' now : List ℕ) (k rest : ℕ) : Type 0 where
      pub stored : Storing v x now k rest
      pub done : List Entry
      pub counts : length done ≡ k
      pub tells : Tells l room room' done
      pub same : done ++ entries_left stored ≡ all_entries

    pub telling : Sound l room → Telling room carriers 0 bits
    unfolding told_all
    telling h = record { stored = storing v x; done = []; counts = refl; tells = record { sound = h; is = refl }; same = first_entries }

    module _ {room' now : List ℕ} {k rest : ℕ} (t : Telling room' now k rest) where
      pub told_turn : {c : ℕ} {after room'' : List ℕ} {y : code.Entry} → k < count → c ≡ bytes.cell 8 scratch k → PartPut now after c rest x place y
          → Stands l room'' (told_at k (entry_of y) (matching_in l room')) → Telling room'' after (k + 1) (rest - cell_bits c)
      told_turn {y = y} h e p w =
          let s = stored_turn v x t.stored h e p.put in
          record {
            stored = s;
            done = t.done ++ entry_of y ∷ [];
            counts = length-append t.done (entry_of y ∷ []) ∙ ap (λ n. n + 1) t.counts;
            tells = tells_more room t.done (entry_of y) t.tells (rw t.counts w);
            same =
                append_assoc t.done (entry_of y ∷ []) (entries_left s)
                ∙ ap (λ es. t.done ++ es) (sym (turn_entries t.stored h e p))
                ∙ t.same;
          }

      none_left : count ≤ k → entries_left t.stored ≡ []
      unfolding entries_of
      none_left h = go t.stored.left t.stored.counts
        where
          go : (fs : List Field) → k + length fs ≡ count → entries_of place (words now) fs (pieces (sizes fs) rest x) ≡ []
          go [] c = refl
          go (f ∷ fs) c = absurd (omega arith)

      pub all_told : count ≤ k → StoresTold v x place now l room room'
      all_told h = (
        stored_all v x t.stored h,
        subst (Tells l room room') (sym (append-nil t.done) ∙ ap (λ es. t.done ++ es) (sym (none_left h)) ∙ t.same) t.tells,
      )
