-- Laws of the search for the first text's storage under a name of the second.
-- Assumes nothing.
use Rattle.std.specs.Prelude.{ℕ, suc, ◌+◌, ◌<◌, ◌≤◌, ◌≡◌, refl, Bool, true, false, not, ◌&&◌, List, [], ◌∷◌, drop}
use Rattle.std.proofs.Common.{sym, ap₂, ◌∙◌, arith, add-one, drop_of_length-le}
use Rattle.std.proofs.Math.Path.{ap}
use Rattle.std.proofs.Math.Bool.{and-false}
use borrow.Author.Tests.{not-true, not-false}
use Rattle.std.proofs.Math.ListN.{length}
use Rattle.cells.specs.Cells.{cell}
use Rattle.rules.specs.Text.Scan.{same_bytes}
use Rattle.rules.specs.Declarations.{Declared, Table, declared_of}
use Rattle.rules.specs.Pair.{is_storage_of, same_storage}
use Rattle.table.specs.Views.{View}
use Rattle.table.specs.Laws.Kth.{table_length, kth_next}
use Rattle.pair_tables.specs.Words.{NameIn, word_in}
use Rattle.pair_tables.specs.Standing.{Stands, declared_by, DeclaredIn, view_of}
use Rattle.pair_tables.specs.Meeting.{namesake}
use Rattle.pair_tables.specs.Seeking.{Seeking}
use Rattle.pair_tables.specs.Laws.Standing.{kth_in, name_in, word_in_lem}

-- one declaration of the first text: by the words of both names, and by whether it is storage
module _ {text₀ records₀ values₀ text₁ records₁ : List ℕ} {p q : ℕ} {b : Bool}
    (same : (v : NameIn text₀ records₀ p) (w : NameIn text₁ records₁ q) → b ≡ same_bytes (word_in v) (word_in w))
    (values : List ℕ) (v : DeclaredIn text₀ records₀ values₀ p) (w : DeclaredIn text₁ records₁ values q)
    (stored : is_storage_of (declared_of w.declaration) ≡ true) where
  named : b ≡ same_bytes (declared_of v.declaration).name.word (declared_of w.declaration).name.word
  named = same (name_in v) (name_in w) ∙ ap₂ same_bytes (word_in_lem v) (word_in_lem w)

  by_storage : same_storage (declared_of v.declaration) (declared_of w.declaration) ≡ (is_storage_of (declared_of v.declaration) && b)
  by_storage =
      ap
      (λ (x : Bool).
      is_storage_of (declared_of v.declaration) && (x && same_bytes (declared_of v.declaration).name.word (declared_of w.declaration).name.word))
      stored
      ∙ ap (λ (x : Bool). is_storage_of (declared_of v.declaration) && x) (sym named)

  pub other_name : not b ≡ true → false ≡ same_storage (declared_of v.declaration) (declared_of w.declaration)
  other_name n =
      sym (by_storage ∙ ap (λ (x : Bool). is_storage_of (declared_of v.declaration) && x) (not-true b n) ∙ and-false (is_storage_of (declared_of v.declaration)))

  and_true : (x : Bool) → (x && true) ≡ x
  and_true true = refl
  and_true false = refl

  pub same_name : {r : Bool} → not b ≡ false → ((v : View records₀ values₀ p) → r ≡ is_storage_of (declared_of v.declaration))
      → r ≡ same_storage (declared_of v.declaration) (declared_of w.declaration)
  same_name n is =
      is (view_of v)
      ∙ sym (by_storage ∙ ap (λ (x : Bool). is_storage_of (declared_of v.declaration) && x) (not-false b n) ∙ and_true (is_storage_of (declared_of v.declaration)))

abbrev here_or : Bool → ℕ → ℕ
here_or b behind = elim b [ true ↦ 0 | false ↦ suc behind ]

-- what is no storage has no namesake
no_namesake : (first : Table) (d : Declared) → is_storage_of d ≡ false → length first ≡ namesake first d
unfolding namesake
no_namesake [] d e = refl
no_namesake (c ∷ first) d e =
    let other : same_storage c d ≡ false
    = ap (λ (x : Bool). is_storage_of c && (x && same_bytes c.name.word d.name.word)) e ∙ and-false (is_storage_of c) in
    rw (namesake, other) (ap suc (no_namesake first d e))

module _ {text₀ records₀ values₀ decls₀ text₁ records₁ values₁ : List ℕ} {m₀ q : ℕ} where
  pub never_sought : {b : Bool} → ((w : View records₁ values₁ q) → b ≡ is_storage_of (declared_of w.declaration)) → not b ≡ true
      → (v : Stands text₀ records₀ values₀ decls₀ m₀) (w : DeclaredIn text₁ records₁ values₁ q) → m₀ ≡ namesake (declared_by v) (declared_of w.declaration)
  never_sought {b} is n v w =
      sym (table_length v.ready) ∙ no_namesake (declared_by v) (declared_of w.declaration) (sym (is (view_of w)) ∙ not-true b n)

  pub none_sought : Seeking text₀ records₀ values₀ decls₀ m₀ text₁ records₁ values₁ q 0
  none_sought = record { within = omega arith; left = λ v w. omega arith }

  module _ {k : ℕ} (s : Seeking text₀ records₀ values₀ decls₀ m₀ text₁ records₁ values₁ q k) where
    pub all_sought : m₀ ≤ k → (v : Stands text₀ records₀ values₀ decls₀ m₀) (w : DeclaredIn text₁ records₁ values₁ q)
        → m₀ ≡ namesake (declared_by v) (declared_of w.declaration)
    unfolding namesake
    all_sought l v w =
        let past : length (declared_by v) ≤ k = omega (arith, table_length v.ready) in
        let none_left = ap (λ (ds : Table). namesake ds (declared_of w.declaration)) (drop_of_length-le (declared_by v) past) in
        omega (arith, s.left v w, none_left, s.within)

    module _ {p : ℕ} {b r : Bool} (l : k < m₀) (e : p ≡ cell 2 decls₀ k) (is : (w : View records₁ values₁ q) → r ≡ is_storage_of (declared_of w.declaration))
        (stored : not r ≡ false)
        (same : (values : List ℕ) (v : DeclaredIn text₀ records₀ values₀ p) (w : DeclaredIn text₁ records₁ values q)
        → is_storage_of (declared_of w.declaration) ≡ true → b ≡ same_storage (declared_of v.declaration) (declared_of w.declaration)) where
      -- the k-th, and those behind it
      opened : (v : Stands text₀ records₀ values₀ decls₀ m₀) (w : DeclaredIn text₁ records₁ values₁ q)
          → namesake (drop k (declared_by v)) (declared_of w.declaration)
          ≡ here_or b (namesake (drop (suc k) (declared_by v)) (declared_of w.declaration))
      unfolding namesake
      opened v w =
          let here = same values₁ (kth_in v l e) w (sym (is (view_of w)) ∙ not-false r stored) in
          rw (kth_next v.ready l, namesake, ← here)

      opened_as : (v : Stands text₀ records₀ values₀ decls₀ m₀) (w : DeclaredIn text₁ records₁ values₁ q) {t : Bool} → b ≡ t
          → namesake (drop k (declared_by v)) (declared_of w.declaration) ≡ here_or t (namesake (drop (suc k) (declared_by v)) (declared_of w.declaration))
      opened_as v w e = opened v w ∙ ap (λ (x : Bool). here_or x (namesake (drop (suc k) (declared_by v)) (declared_of w.declaration))) e

      pub sought_here : b ≡ true → (v : Stands text₀ records₀ values₀ decls₀ m₀) (w : DeclaredIn text₁ records₁ values₁ q)
          → k ≡ namesake (declared_by v) (declared_of w.declaration)
      sought_here y v w = omega (arith, s.left v w, opened_as v w y)

      pub sought_more : b ≡ false → Seeking text₀ records₀ values₀ decls₀ m₀ text₁ records₁ values₁ q (k + 1)
      sought_more n = record { within = omega arith; left = λ v w. rw add-one (omega (arith, s.left v w, opened_as v w n)) }
