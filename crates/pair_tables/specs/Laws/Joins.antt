-- Laws of the pass that joins two descriptions, as the code goes.
-- Assumes nothing.
use Rattle.std.specs.Prelude.{ℕ, zero, suc, ◌+◌, ◌*◌, ◌<◌, ◌≤◌, min, ◌≡◌, refl, Bool, true, false, List, [], ◌∷◌, length}
use Rattle.std.proofs.Common.{sym, ap, ◌∙◌, subst, arith, add-one}
use Rattle.std.proofs.Math.Option.{some}
use Rattle.std.proofs.Math.ListN.{get_elem?}
use Rattle.cells.specs.Cells.{cell, put_cell}
use Rattle.cells.proofs.Laws.{long_put}
use Rattle.rules.specs.Declarations.{Declared, Table, declared_of, outer_name, words_of, total_words}
use Rattle.rules.specs.Limits.{longest_text, most_words}
use Rattle.rules.specs.Pair.{shared_with, clashes, faults80}
use Rattle.records.specs.Holds.{place_cell}
use Rattle.table.specs.Views.{View}
use Rattle.table.specs.Kth.{kth, kth_found}
use Rattle.table.specs.Laws.Kth.{table_length, kth_next}
use Rattle.declare.specs.Laws.Lawful.{lawful_words}
use Rattle.places.specs.Bases.{FirstsHold}
use Rattle.pairs.specs.Laws.Sharing.{found, first_fits}
use Rattle.keys.specs.Keys.{no_key, key as key_of, Smalls, none_small, also_small}
use Rattle.keys.specs.Laws.Keys.{smalls_append}
use Rattle.rules.specs.Faults.Fault.{fault, when}
use Rattle.pair_tables.specs.Standing.{Stands, declared_by, DeclaredIn, view_of}
use Rattle.pair_tables.specs.Meeting.{Meets, shared_by}
use Rattle.pair_tables.specs.Joining.{Reaches, first_by, first_or, adds_by, key_by, free_by, Joining, Joins}
use Rattle.pair_tables.specs.Laws.Standing.{kth_in, place_in, place_near}
use Rattle.pair_tables.specs.Laws.Joining.{none_joined, joined_more, words_so, joint_words, unshared_few, all_joined}
use Rattle.pair_tables.specs.declared.meeting.Met.{Met}
use Rattle.pair_tables.specs.declared.meeting.Met.TheVariants.{Own, Clashing, Shared}

-- the first word of a shared declaration
pub reached : (starts : List ℕ) (x : Met) {i : ℕ} → Reaches starts x → x ≡ Shared i → 2 * i + 2 ≤ length starts
reached starts x h e = subst (Reaches starts) e h

pub first_shared : (starts : List ℕ) {x : Met} {i r : ℕ} (free : ℕ) → x ≡ Shared i → r ≡ cell 2 starts i → r ≡ first_by starts x free
first_shared starts free e q = q ∙ ap (λ (y : Met). first_by starts y free) (sym e)

-- the least key with a clash, and the words that are taken
pub key_clashing : {x : Met} {r this : ℕ} (key place : ℕ) → x ≡ Clashing → this ≡ key_of (fault 80 place) → r ≡ min key this → r ≡ key_by place x key
key_clashing key place e is q = q ∙ ap (min key) is ∙ ap (λ (y : Met). key_by place y key) (sym e)

module _ {x : Met} (free words : ℕ) where
  pub taken_own : x ≡ Own → free + words ≡ free_by x free words
  taken_own e = ap (λ (y : Met). free_by y free words) (sym e)

  pub taken_clashing : x ≡ Clashing → free + words ≡ free_by x free words
  taken_clashing e = ap (λ (y : Met). free_by y free words) (sym e)

-- a shared declaration is one of the first text's
there_below : (ds : Table) (k : ℕ) (d : Declared) → get_elem? ds k ≡ some d → k < length ds
there_below [] k d e = absurd (let z : ◌≡◌ {A = ℕ} 0 1 = cc in omega arith)
there_below (x ∷ ds) zero d e = omega arith
there_below (x ∷ ds) (suc k) d e = omega (arith, there_below ds k d e)

module _ {first : Table} (d : Declared) {starts : List ℕ} {m : ℕ} (hold : FirstsHold starts first m) (count : length first ≡ m) where
  shared_below : (i : ℕ) → shared_with first d ≡ some i → i < m
  shared_below i e = let f = found first d i e in omega (arith, there_below first i f.carrier f.declared, count)

  reaches : (x : Met) → Meets first d x → Reaches starts x
  reaches Own h = tt
  reaches Clashing h = tt
  reaches (Shared i) h = omega (arith, hold.room, shared_below i h.shares)

  first_is : (free : ℕ) (x : Met) → Meets first d x → first_by starts x free ≡ first_or first (shared_by x) free
  first_is free Own h = refl
  first_is free Clashing h = refl
  first_is free (Shared i) h = hold.each i (shared_below i h.shares)

first_small : (first : Table) (d : Declared) (free : ℕ) (x : Met) → Meets first d x → total_words first ≤ most_words → free ≤ 2 * most_words
    → first_or first (shared_by x) free < 65536
first_small first d free Own h l room = omega arith
first_small first d free Clashing h l room = omega arith
first_small first d free (Shared i) h l room =
    let f = found first d i h.shares in omega (arith, first_fits first i f.carrier f.declared)

taken_is : (x : Met) (free words : ℕ) → free_by x free words ≡ free + adds_by (shared_by x) words
taken_is Own free words = refl
taken_is Clashing free words = refl
taken_is (Shared i) free words = omega arith

key_small : (place : ℕ) (x : Met) (key : ℕ) → key ≤ no_key → key_by place x key ≤ no_key
key_small place Own key l = l
key_small place Clashing key l = omega arith
key_small place (Shared i) key l = l

few_words : {text records values decls : List ℕ} {m : ℕ} (v : Stands text records values decls m) → total_words (declared_by v) ≤ most_words
few_words v = lawful_words (outer_name v.description).word (declared_by v) v.ready.lawful

module _ {text₀ records₀ values₀ decls₀ text₁ records₁ values₁ decls₁ : List ℕ} {m₀ m₁ : ℕ} where
  pub none_joining : (before : List ℕ) {words : ℕ} → ((v : Stands text₀ records₀ values₀ decls₀ m₀) → words ≡ total_words (declared_by v))
      → Stands text₀ records₀ values₀ decls₀ m₀
      → Joining text₀ records₀ values₀ decls₀ m₀ text₁ records₁ values₁ decls₁ m₁ before before no_key words 0
  none_joining before {words} is v = record {
    within = omega arith;
    long = refl;
    small = omega arith;
    room = omega (arith, is v, few_words v);
    joined = λ v w. rw (is v) (none_joined (declared_by v) (declared_by w) before);
  }

  module _ {before firsts : List ℕ} {key free k : ℕ}
      (s : Joining text₀ records₀ values₀ decls₀ m₀ text₁ records₁ values₁ decls₁ m₁ before firsts key free k) where
    pub all_joining : m₁ ≤ k → (v : Stands text₀ records₀ values₀ decls₀ m₀) (w : Stands text₁ records₁ values₁ decls₁ m₁)
        → Joins (declared_by v) (declared_by w) firsts key free
    all_joining l v w =
        let h = s.joined v w in
        let done = all_joined h (omega (arith, table_length w.ready)) s.small in
        record { cells = λ j b. h.cells j (omega (arith, table_length w.ready)); keys = done.0; words = done.1; few = s.room }

    module _ {q : ℕ} {x : Met} (l : k < m₁) (e : q ≡ cell 2 decls₁ k)
        (meets : (v : Stands text₀ records₀ values₀ decls₀ m₀) (w : DeclaredIn text₁ records₁ values₁ q) → Meets (declared_by v) (declared_of w.declaration) x)
        {starts : List ℕ} (hold : (v : Stands text₀ records₀ values₀ decls₀ m₀) → FirstsHold starts (declared_by v) m₀) where
      pub to_reach : Stands text₀ records₀ values₀ decls₀ m₀ → Stands text₁ records₁ values₁ decls₁ m₁ → Reaches starts x × (free < 65536)
      to_reach v w =
          (reaches (declared_of (kth w.ready l).declaration) (hold v) (table_length v.ready) x (meets v (kth_in w l e)), omega (arith, s.room))

      module _ (v : Stands text₀ records₀ values₀ decls₀ m₀) (w : Stands text₁ records₁ values₁ decls₁ m₁) where
        met : Meets (declared_by v) (declared_of (kth w.ready l).declaration) x
        met = meets v (kth_in w l e)

        few_behind : free + adds_by (shared_by x) (words_of (declared_of (kth w.ready l).declaration)) ≤ 2 * most_words
        few_behind =
            omega (
              arith,
              words_so (s.joined v w) (kth_next w.ready l) met,
              joint_words (declared_by v) (declared_by w),
              unshared_few (declared_by v) (declared_by w),
              few_words v,
              few_words w,
            )

      joining_on : {after : List ℕ} {f place words : ℕ} → Stands text₀ records₀ values₀ decls₀ m₀ → Stands text₁ records₁ values₁ decls₁ m₁
          → 2 * m₁ ≤ length before → f ≡ first_by starts x free → after ≡ put_cell 2 firsts k f
          → place ≡ place_cell records₁ q → ((v : View records₁ values₁ q) → words ≡ words_of (declared_of v.declaration))
          → Joining text₀ records₀ values₀ decls₀ m₀ text₁ records₁ values₁ decls₁ m₁ before after (key_by place x key) (free + adds_by (shared_by x) words)
          (k + 1)
      joining_on {after} {f} {place} {words} v₀ w₀ room is put at adds = record {
        within = omega arith;
        long = ap length put ∙ long_put 2 firsts k f ∙ s.long;
        small = key_small place x key s.small;
        room = rw (adds (view_of (kth_in w₀ l e))) (few_behind v₀ w₀);
        joined = λ v w.
            let d = declared_of (kth w.ready l).declaration in
            let first_so = is ∙ first_is d (hold v) (table_length v.ready) free x (met v w) in
            let near = place_near (kth_in w l e) in
            let placed = place_in (kth_in w l e) in
            rw (add-one, at, placed, adds (view_of (kth_in w l e)))
            (joined_more (s.joined v w) (kth_next w.ready l) (met v w) put first_so (omega (arith, s.long))
            (omega (arith, first_so, first_small (declared_by v) d free x (met v w) (few_words v) s.room)) (omega (arith, placed, near)));
      }

      pub joining_more : {after : List ℕ} {f place words key' free' : ℕ} → Stands text₀ records₀ values₀ decls₀ m₀ → Stands text₁ records₁ values₁ decls₁ m₁
          → 2 * m₁ ≤ length before → f ≡ first_by starts x free → after ≡ put_cell 2 firsts k f → place ≡ place_cell records₁ q → key' ≡ key_by place x key
          → ((v : View records₁ values₁ q) → words ≡ words_of (declared_of v.declaration)) → free' ≡ free_by x free words
          → Joining text₀ records₀ values₀ decls₀ m₀ text₁ records₁ values₁ decls₁ m₁ before after key' free' (k + 1)
      joining_more {words = words} v w room is put at key_is adds free_is = rw (key_is, free_is ∙ taken_is x free words) (joining_on v w room is put at adds)

-- every 80 is small
smalls_80 : (first second : Table) → ((k : ℕ) (d : Declared) → get_elem? second k ≡ some d → d.name.place ≤ longest_text) → Smalls (faults80 first second)
unfolding faults80
smalls_80 first [] h = none_small
smalls_80 first (d ∷ ds) h = smalls_append (by (clashes first d)) (smalls_80 first ds (λ k. h (suc k)))
  where
    by : (b : Bool) → Smalls (when b 80 d.name.place)
    by true = also_small {f = fault 80 d.name.place} (record { number = omega arith; place = h 0 d refl }) none_small
    by false = none_small

pub stands_small : {text records values decls : List ℕ} {m : ℕ} (first : Table) (w : Stands text records values decls m)
    → Smalls (faults80 first (declared_by w))
stands_small {m = m} first w = smalls_80 first (declared_by w) near
  where
    near : (k : ℕ) (d : Declared) → get_elem? (declared_by w) k ≡ some d → d.name.place ≤ longest_text
    near k d e =
        let l : k < m = omega (arith, there_below (declared_by w) k d e, table_length w.ready) in
        let x = kth_in w l refl in
        let is : declared_of x.declaration ≡ d = cc (kth_found w.ready l, e) in
        omega (arith, place_near x, place_in x, ap (λ (y : Declared). y.name.place) is)
