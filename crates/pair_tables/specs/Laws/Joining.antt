-- Laws of the joint table: one declaration of the second text more.
-- Assumes nothing.
use Rattle.std.specs.Prelude.{ℕ, suc, ◌+◌, ◌*◌, ◌<◌, ◌≤◌, min, ◌≡◌, refl, Bool, List, [], ◌∷◌, ◌++◌, length, get_or, drop}
use Rattle.std.proofs.Common.{sym, ap, ◌∙◌, drop_of_length-le, drop-drop, get_or-drop}
use Rattle.std.proofs.Math.Bool.{true, false}
use Rattle.std.proofs.Math.Option.{Option, none, some}
use native.Mathlib.Omega.{arith}
use Rattle.std.proofs.Math.Decide.{dec_lt}
use Rattle.cells.specs.Cells.{cell, put_cell}
use Rattle.cells.proofs.Laws.{cell_same, cell_other}
use Rattle.rules.specs.Declarations.{Declared, Table, words_of, total_words}
use Rattle.rules.specs.Limits.{longest_text}
use Rattle.rules.specs.Faults.Fault.{fault, when}
use Rattle.rules.specs.Pair.{shared_with, faults80, unshared, joint, first_words}
use Rattle.keys.specs.Keys.{no_key, key as key_of, least_by, least_key}
use Rattle.keys.specs.Laws.Keys.{least_append, least_bounded, fault_key, no_fault_key}
use Rattle.pairs.specs.Laws.Sharing.{total_append}
use Rattle.pair_tables.specs.Meeting.{Meets, shared_by}
use Rattle.pair_tables.specs.Joining.{first_or, adds_by, key_by, Joined}
use Rattle.pair_tables.specs.declared.meeting.Met.{Met}
use Rattle.pair_tables.specs.declared.meeting.Met.TheVariants.{Own, Clashing, Shared}

pub unshared_few : (first ds : Table) → total_words (unshared first ds) ≤ total_words ds
unfolding unshared total_words
unshared_few first [] = omega arith
unshared_few first (d ∷ ds) = by (shared_with first d) (unshared_few first ds)
  where
    by : (o : Option ℕ) → total_words (unshared first ds) ≤ total_words ds
        → total_words (elim o [ none ↦ d ∷ unshared first ds | some i ↦ unshared first ds ]) ≤ words_of d + total_words ds
    by none h = omega arith
    by (some i) h = omega arith

pub joint_words : (first second : Table) → total_words (joint first second) ≡ total_words first + total_words (unshared first second)
joint_words first second = total_append first (unshared first second)

-- a declaration and those behind it, by what it shares or meets
module _ (first : Table) (d : Declared) (ds : Table) where
  pub firsts_on : (free : ℕ) (o : Option ℕ) → shared_with first d ≡ o
      → first_words first free (d ∷ ds) ≡ first_or first o free ∷ first_words first (free + adds_by o (words_of d)) ds
  unfolding first_words
  firsts_on free none e = rw (first_words, e)
  firsts_on free (some i) e = let z : free + 0 ≡ free = omega arith in rw (first_words, e, z)

  pub words_on : (free : ℕ) (o : Option ℕ) → shared_with first d ≡ o
      → free + total_words (unshared first (d ∷ ds)) ≡ free + adds_by o (words_of d) + total_words (unshared first ds)
  unfolding unshared total_words
  words_on free none e = rw (unshared, e) (omega arith)
  words_on free (some i) e = rw (unshared, e) (omega arith)

  keys_so : (b : Bool) → d.name.place ≤ longest_text
      → least_key (when b 80 d.name.place ++ faults80 first ds)
      ≡ min (elim b [ true ↦ key_of (fault 80 d.name.place) | false ↦ no_key ]) (least_key (faults80 first ds))
  keys_so true near =
      least_append key_of (when true 80 d.name.place) (faults80 first ds)
      ∙ ap (λ (k : ℕ). min k (least_key (faults80 first ds))) (fault_key 80 d.name.place (omega arith) near)
  keys_so false near =
      least_append key_of (when false 80 d.name.place) (faults80 first ds)
      ∙ ap (λ (k : ℕ). min k (least_key (faults80 first ds))) (no_fault_key 80 d.name.place)

  keys_on : (k : ℕ) (r : Met) → Meets first d r → d.name.place ≤ longest_text
      → min k (least_key (faults80 first (d ∷ ds))) ≡ min (key_by d.name.place r k) (least_key (faults80 first ds))
  unfolding faults80
  keys_on k Own m near = rw (faults80, m.clash) (omega (arith, keys_so false near, least_bounded key_of (faults80 first ds)))
  keys_on k Clashing m near = rw (faults80, m.clash) (omega (arith, keys_so true near))
  keys_on k (Shared i) m near = rw (faults80, m.clash) (omega (arith, keys_so false near, least_bounded key_of (faults80 first ds)))

-- a list from k on has an element and those behind it
module _ (l : List ℕ) (k x : ℕ) (xs : List ℕ) (e : drop k l ≡ x ∷ xs) where
  pub element_at : get_or l k 0 ≡ x
  element_at = let n : k + 0 ≡ k = omega arith in ap (λ (i : ℕ). get_or l i 0) (sym n) ∙ sym (get_or-drop k l 0 0) ∙ ap (λ (z : List ℕ). get_or z 0 0) e

  pub elements_behind : drop (suc k) l ≡ xs
  elements_behind = let n : k + 1 ≡ suc k = omega arith in ap (λ (i : ℕ). drop i l) (sym n) ∙ sym (drop-drop 1 k l) ∙ ap (drop 1) e

module _ (first second : Table) (firsts : List ℕ) where
  pub none_joined : Joined first second firsts no_key (total_words first) 0
  none_joined = record {
    cells = λ j l. absurd (omega arith);
    rest = refl;
    keys = omega (arith, least_bounded key_of (faults80 first second));
    words = sym (joint_words first second);
  }

-- one more
module _ {first second : Table} {firsts : List ℕ} {key free k : ℕ} (s : Joined first second firsts key free k) {d : Declared} {r : Met}
    (next : drop k second ≡ d ∷ drop (suc k) second) (m : Meets first d r) where
  opened : drop k (first_words first (total_words first) second)
      ≡ first_or first (shared_by r) free ∷ first_words first (free + adds_by (shared_by r) (words_of d)) (drop (suc k) second)
  opened = s.rest ∙ ap (first_words first free) next ∙ firsts_on first d (drop (suc k) second) free (shared_by r) m.shares

  pub first_so : get_or (first_words first (total_words first) second) k 0 ≡ first_or first (shared_by r) free
  first_so =
      element_at (first_words first (total_words first) second) k (first_or first (shared_by r) free)
      (first_words first (free + adds_by (shared_by r) (words_of d)) (drop (suc k) second)) opened

  pub words_so : free + adds_by (shared_by r) (words_of d) + total_words (unshared first (drop (suc k) second)) ≡ total_words (joint first second)
  words_so =
      sym (words_on first d (drop (suc k) second) free (shared_by r) m.shares)
      ∙ ap (λ (ds : Table). free + total_words (unshared first ds)) (sym next) ∙ s.words

  pub joined_more : {after : List ℕ} {f : ℕ} → after ≡ put_cell 2 firsts k f → f ≡ first_or first (shared_by r) free → 2 * k + 2 ≤ length firsts → f < 65536
      → d.name.place ≤ longest_text → Joined first second after (key_by d.name.place r key) (free + adds_by (shared_by r) (words_of d)) (suc k)
  joined_more {after} {f} put is room fits near = record {
    cells = λ j l. by j (dec_lt j k) l;
    rest =
        elements_behind (first_words first (total_words first) second) k (first_or first (shared_by r) free)
        (first_words first (free + adds_by (shared_by r) (words_of d)) (drop (suc k) second)) opened;
    keys =
        sym (keys_on first d (drop (suc k) second) key r m near)
        ∙ ap (λ (ds : Table). min key (least_key (faults80 first ds))) (sym next) ∙ s.keys;
    words = words_so;
  }
    where
      by : (j : ℕ) → Dec (j < k) → j < suc k → cell 2 after j ≡ get_or (first_words first (total_words first) second) j 0
      by j (yes h) l = ap (λ (b : List ℕ). cell 2 b j) put ∙ cell_other 2 firsts k f j (λ e. omega arith) ∙ s.cells j h
      by j (no h) l =
          let e : j ≡ k = omega arith in
          rw e (ap (λ (b : List ℕ). cell 2 b k) put ∙ cell_same 2 firsts k f room (omega (arith, fits)) ∙ is ∙ sym first_so)

-- all
pub all_joined : {first second : Table} {firsts : List ℕ} {key free k : ℕ} → Joined first second firsts key free k → length second ≤ k → key ≤ no_key
    → (key ≡ least_key (faults80 first second)) × (free ≡ total_words (joint first second))
unfolding faults80 unshared total_words least_by
all_joined {first} {second} {key = key} {free} s l small =
    let past = drop_of_length-le second l in (
      omega (arith, s.keys, ap (λ (ds : Table). least_key (faults80 first ds)) past),
      omega (arith, s.words, ap (λ (ds : Table). total_words (unshared first ds)) past),
    )
