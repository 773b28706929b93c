-- The places of listed declarations increase, so their faults do; and what `fault30` keeps from turn to turn.
-- Assumes nothing.
use Prim.Native.Nat.{ℕ, zero, suc, ◌+◌, ◌*◌, ◌<◌, ◌≤◌}
use mathlib.Core.Path.{◌≡◌, refl, sym, ap, ◌∙◌}
use mathlib.Core.Bool.{Bool, true, false}
use mathlib.Core.List.{List, [], ◌∷◌, map}
use mathlib.Core.Option.{some, none-ne-some, some-injective}
use native.Mathlib.Omega.{arith}
use native.Mathlib.Nat.{suc-add}
use native.Mathlib.Numerals.{add-one}
use borrow.Author.Tests.{ltb-false}
use lib.Dec.{ltb}
use lib.ListN.{length, take, drop, get_elem?, drop_of_length-le, length-map}
use Rattle.cells.specs.Cells.{cell}
use Rattle.rules.specs.Text.Tokens.{Token}
use Rattle.rules.specs.Grammar.Trees.{Declaration}
use Rattle.rules.specs.Declarations.{Word, Declared, Table, declared_of, words_of}
use Rattle.rules.specs.Faults.Fault.{fault}
use Rattle.rules.specs.Limits.{longest_text, most_words}
use Rattle.rules.specs.Faults.Declared.{large_bits, large_words, is_known, bad_mapping, twice, large, too_many, mappings, faults30}
use Rattle.table.specs.Laws.Kth.{table_from}
use Rattle.records.specs.Holds.{place_cell, token_at}
use Rattle.table.specs.Declarations.{declaration_list}
use Rattle.table.specs.Views.{View}
use Rattle.table.specs.Laws.Views.{name_token}
use Rattle.table.specs.Lookups.{nth}
use Rattle.keys.specs.Keys.{key, no_key, least_key, least_by}
use Rattle.declare.specs.Faults.{known_behind, is_large, is_too_many, number_or, own_number}
use Rattle.declare.specs.Laws.Faults.{faults_from}
use Rattle.declare.specs.Laws.Earliest.{Within, none_within, also_within, passed_on, first_fault}
use Rattle.declare.specs.Laws.Lawful.{both_false}
use Rattle.declare.specs.Listed.{Listed, outer_of, table_of, known_of, Chosen, chosen_of, SmallView}
use Rattle.declare.proofs.Gathering.{element_within}
use Rattle.declare.proofs.Choosing.{chosen_view}
use Rattle.declare.proofs.Targets.{chosen_at}

within_of : (first last : ℕ) (ds : Table) → ((k : ℕ) (d : Declared) → get_elem? ds k ≡ some d → (first ≤ d.name.place) × (d.name.place ≤ last))
    → Within first last ds
within_of first last [] f = none_within
within_of first last (d ∷ ds) f = let b = f 0 d refl in also_within b.0 b.1 (within_of first last ds (λ k x e. f (suc k) x e))

drop_element : {A : Type 0} (n : ℕ) (l : List A) (k : ℕ) → get_elem? (drop n l) k ≡ get_elem? l (n + k)
drop_element zero l k = ap (get_elem? l) (omega arith)
drop_element (suc n) [] k = refl
drop_element (suc n) (a ∷ l) k = drop_element n l k ∙ sym (ap (get_elem? (a ∷ l)) (suc-add n k))

element_of_map : (l : List Declaration) (k : ℕ) (d : Declared) → get_elem? (map declared_of l) k ≡ some d → (x : Declaration) × (get_elem? l k ≡ some x) × (declared_of x ≡ d)
element_of_map [] k d e = absurd (none-ne-some d e)
element_of_map (x ∷ l) zero d e = (x, refl, some-injective (declared_of x) d e)
element_of_map (x ∷ l) (suc k) d e = element_of_map l k d e

module _ {text records values decls : List ℕ} {m : ℕ} (v : Listed text records values decls m) where
  -- the name of the k-th declaration
  pub record Placed (k : ℕ) (d : Declared) : Type 0 where
    pub below : k < m
    pub within : cell 2 decls k < length v.tokens
    pub place : (token_at v.tokens (cell 2 decls k)).info.place ≡ d.name.place
    pub cell_place : place_cell records (cell 2 decls k) ≡ d.name.place
    pub small : d.name.place ≤ longest_text

  pub placed : (k : ℕ) (d : Declaration) → get_elem? (declaration_list v.description) k ≡ some d → Placed k (declared_of d)
  placed k d e =
      let n = name_token (v.hold.each k d e) in
      let p = ap (λ (t : Token). t.info.place) n.1 in
      let entry = v.holds.entry (cell 2 decls k) n.0 in
      record {
        below = omega (arith, element_within (declaration_list v.description) k d e, v.count);
        within = n.0;
        place = p;
        cell_place = entry.place ∙ p;
        small = omega (arith, entry.inside, v.holds.short, p);
      }

  pub all_within : Within 0 longest_text (table_of v)
  all_within = within_of 0 longest_text (table_of v) (λ k d e. by k d (element_of_map (declaration_list v.description) k d e))
    where
      by : (k : ℕ) (d : Declared) → (x : Declaration) × (get_elem? (declaration_list v.description) k ≡ some x) × (declared_of x ≡ d)
          → (0 ≤ d.name.place) × (d.name.place ≤ longest_text)
      by k d (x, f, q) = (omega arith, omega (arith, (placed k x f).small, ap (λ (y : Declared). y.name.place) q))

  pub later_within : (k : ℕ) (d : Declaration) → get_elem? (declaration_list v.description) k ≡ some d
      → Within ((declared_of d).name.place + 1) longest_text (drop (suc k) (table_of v))
  later_within k d e =
      within_of ((declared_of d).name.place + 1) longest_text (drop (suc k) (table_of v))
      (λ j x q. by j x (element_of_map (declaration_list v.description) (suc k + j) x (sym (drop_element (suc k) (table_of v) j) ∙ q)))
    where
      by : (j : ℕ) (x : Declared) → (y : Declaration) × (get_elem? (declaration_list v.description) (suc k + j) ≡ some y) × (declared_of y ≡ x)
          → ((declared_of d).name.place + 1 ≤ x.name.place) × (x.name.place ≤ longest_text)
      by j x (y, f, q) =
          let a = placed k d e in
          let b = placed (suc k + j) y f in
          let up : cell 2 decls k < cell 2 decls (suc k + j) = v.increasing.rises k (suc k + j) (omega arith) b.below in
          let less = v.holds.increasing (cell 2 decls k) (cell 2 decls (suc k + j)) up b.within in
          let same = ap (λ (z : Declared). z.name.place) q in
          (omega (arith, less, a.place, b.place, same), omega (arith, b.small, same))

-- the names before the next
known_next : (known : List Word) (k : ℕ) (ds : Table) (d : Declared) (rest : Table) → drop k ds ≡ d ∷ rest
    → d.name.word ∷ known_behind known (take k ds) ≡ known_behind known (take (suc k) ds)
unfolding known_behind
known_next known zero [] d rest e = absurd (omega (arith, ap length e))
known_next known (suc k) [] d rest e = absurd (omega (arith, ap length e))
known_next known zero (x ∷ ds) d rest e = ap (λ (l : Table). known_behind known (take 1 l)) (sym e)
known_next known (suc k) (x ∷ ds) d rest e = known_next (x.name.word ∷ known) k ds d rest e

-- no fault: none of the tests holds
no_number : (a b c d : Bool) → number_or a 30 (number_or b 31 (number_or c 32 (number_or d 33 0))) ≡ 0 → (b ≡ false) × (c ≡ false)
no_number true b c d e = absurd (omega arith)
no_number false true c d e = absurd (omega arith)
no_number false false true d e = absurd (omega arith)
no_number false false false d e = (refl, refl)

number_small : (a b c d : Bool) → number_or a 30 (number_or b 31 (number_or c 32 (number_or d 33 0))) < 128
number_small true b c d = omega arith
number_small false true c d = omega arith
number_small false false true d = omega arith
number_small false false false true = omega arith
number_small false false false false = omega arith

own_small : (outer : Word) (all : Table) (known : List Word) (n w : ℕ) (d : Declared) → own_number outer all known n w d < 128
unfolding own_number
own_small outer all known n w d = number_small (is_known d.name.word known) (is_large d) (is_too_many n w d) (bad_mapping outer all d d.target)

module _ (outer : Word) (all : Table) (known : List Word) (n w : ℕ) (d : Declared) (none_of : own_number outer all known n w d ≡ 0) where
  tests : (is_large d ≡ false) × (is_too_many n w d ≡ false)
  unfolding own_number
  tests = no_number (is_known d.name.word known) (is_large d) (is_too_many n w d) (bad_mapping outer all d d.target) none_of

  pub still_room : w + words_of d ≤ most_words
  still_room = ltb-false most_words (w + words_of d) (both_false (ltb 256 (n + 1)) (ltb most_words (w + words_of d)) tests.1).1

  pub not_large : is_large d ≡ false
  not_large = tests.0

-- `fault30` behind k declarations with so many words, none of which has a fault
pub record Judged (text records values decls : List ℕ) (m words k : ℕ) : Type 0 where
  pub within : k ≤ m
  pub room : words ≤ most_words
  pub left : (v : Listed text records values decls m)
      → faults_from (outer_of v) (table_of v) (known_of v k) k words (drop k (table_of v)) ≡ faults30 (outer_of v) (table_of v)

pub none_judged : {text records values decls : List ℕ} {m : ℕ} → Judged text records values decls m 0 0
unfolding faults_from faults30 known_behind
none_judged = record { within = omega arith; room = omega arith; left = λ v. refl }

module _ {text records values decls : List ℕ} {m words k : ℕ} (j : Judged text records values decls m words k) where
  pub all_judged : m ≤ k → (v : Listed text records values decls m) → no_key ≡ least_key (faults30 (outer_of v) (table_of v))
  unfolding faults_from twice large too_many mappings least_by
  all_judged h v =
      let over : drop k (table_of v) ≡ [] = drop_of_length-le (table_of v) {i = k} (omega (arith, v.count, length-map (declaration_list v.description) declared_of)) in
      ap (λ (l : Table). least_key (faults_from (outer_of v) (table_of v) (known_of v k) k words l)) (sym over) ∙ ap least_key (j.left v)

  module _ (l : k < m) where
    next : (v : Listed text records values decls m) → drop k (table_of v) ≡ chosen_of (chosen_at v l) ∷ drop (suc k) (table_of v)
    next v = table_from (declaration_list v.description) k (nth (declaration_list v.description) k (omega (arith, v.count)))

    module _ {r p : ℕ} (place : p ≡ cell 2 decls k) (own : (v : Chosen text records values decls m k)
        → r ≡ own_number (outer_of v.listed) (table_of v.listed) (known_of v.listed k) k words (chosen_of v)) where
      -- the declaration's place
      module _ (v : Listed text records values decls m) where
        abbrev this : Chosen text records values decls m k
        this = chosen_at v l

        here : Placed v k (chosen_of this)
        here = placed v k this.declaration this.found

        pub record_room : 8 * p + 8 ≤ length records
        record_room = omega (arith, here.within, v.holds.record_room, place)

        pub key_small : {q : ℕ} → q ≡ place_cell records p → (r < 128) × (q ≤ 32768)
        key_small e = (
          omega (arith, own this, own_small (outer_of v) (table_of v) (known_of v k) k words (chosen_of this)),
          omega (arith, e, ap (place_cell records) place, here.cell_place, here.small),
        )

      pub first_found : {q x : ℕ} → (r ≡ 0 → ⊥) → q ≡ place_cell records p → x ≡ key (fault r q) → (v : Listed text records values decls m)
          → x ≡ least_key (faults30 (outer_of v) (table_of v))
      first_found {q} {x} f e is v =
          let c = this v in
          let at : q ≡ (chosen_of c).name.place = e ∙ ap (place_cell records) place ∙ (here v).cell_place in
          let some_number : 0 < own_number (outer_of v) (table_of v) (known_of v k) k words (chosen_of c) = rw (sym (own c)) (omega arith) in
          is ∙ rw (at, own c)
          (sym (first_fault (outer_of v) (table_of v) (known_of v k) k words (chosen_of c) (drop (suc k) (table_of v)) some_number (here v).small
          (later_within v k c.declaration c.found)))
          ∙ ap (λ (t : Table). least_key (faults_from (outer_of v) (table_of v) (known_of v k) k words t)) (sym (next v))
          ∙ ap least_key (j.left v)

      module _ (zero_number : r ≡ 0) where
        nothing_wrong : (v : Listed text records values decls m) → own_number (outer_of v) (table_of v) (known_of v k) k words (chosen_of (this v)) ≡ 0
        nothing_wrong v = sym (own (this v)) ∙ zero_number

        pub small_now : Listed text records values decls m → SmallView records values p
        small_now v =
            let d = chosen_of (this v) in
            record {
              view = chosen_view (this v) place;
              small = (both_false (large_bits d.bits) (large_words d.words) (not_large (outer_of v) (table_of v) (known_of v k) k words d (nothing_wrong v))).1;
            }

        pub judged_more : {w : ℕ} → ((v : View records values p) → w ≡ words_of (declared_of v.declaration)) → Listed text records values decls m
            → Judged text records values decls m (words + w) (k + 1)
        judged_more {w} adds v₀ = record {
          within = omega arith;
          room = omega (arith, adds (chosen_view (this v₀) place), still_room (outer_of v₀) (table_of v₀) (known_of v₀ k) k words (chosen_of (this v₀)) (nothing_wrong v₀));
          left = λ v.
              let d = chosen_of (this v) in
              let rest = drop (suc k) (table_of v) in
              let from = faults_from (outer_of v) (table_of v) in
              ap (λ (n : ℕ). from (known_of v n) (k + 1) (words + w) (drop n (table_of v))) (add-one k)
              ∙ ap (λ (known : List Word). from known (k + 1) (words + w) rest) (sym (known_next (outer_of v ∷ []) k (table_of v) d rest (next v)))
              ∙ ap (λ (x : ℕ). from (d.name.word ∷ known_of v k) (k + 1) (words + x) rest) (adds (chosen_view (this v) place))
              ∙ sym (passed_on (outer_of v) (table_of v) (known_of v k) k words d rest (nothing_wrong v))
              ∙ ap (from (known_of v k) k words) (sym (next v))
              ∙ j.left v;
        }
