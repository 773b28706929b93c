-- Laws of the least number of one declaration's faults: the tests in their order.
-- Assumes nothing.
use Prim.Native.Nat.{ℕ, ◌+◌, ◌<◌, ◌≤◌}
use mathlib.Core.Path.{◌≡◌, sym, ap, ◌∙◌}
use mathlib.Core.Bool.{Bool, true, false}
use mathlib.Core.List.{List}
use native.Mathlib.Omega.{arith}
use borrow.Author.Tests.{lt-ltb, le-ltb}
use lib.Dec.{ltb}
use Rattle.cells.specs.Cells.{cell}
use Rattle.rules.specs.Declarations.{declared_of, words_of}
use Rattle.rules.specs.Faults.Declared.{is_known, bad_mapping}
use Rattle.rules.specs.Limits.{most_words}
use Rattle.table.specs.Views.{View}
use Rattle.declare.specs.Faults.{is_large, is_too_many, number_or, own_number}
use Rattle.declare.specs.Listed.{outer_of, table_of, known_of, Chosen, chosen_of}
use Rattle.declare.proofs.Choosing.{chosen_view}

module _ (text records values decls : List ℕ) (m k words : ℕ) {p : ℕ} (place : p ≡ cell 2 decls k) where
  abbrev Own : ℕ → Type 0
  Own r = (v : Chosen text records values decls m k) → r ≡ own_number (outer_of v.listed) (table_of v.listed) (known_of v.listed k) k words (chosen_of v)

  module _ {a : Bool} (known : (values : List ℕ) (m : ℕ) (v : Chosen text records values decls m k)
      → a ≡ is_known (chosen_of v).name.word (known_of v.listed k)) where
    pub twice_declared : a ≡ true → Own 30
    unfolding own_number
    twice_declared y v = rw (own_number, sym (known values m v) ∙ y)

    module _ {b : Bool} (once : a ≡ false) (large : (v : View records values p) → b ≡ is_large (declared_of v.declaration)) where
      pub too_large : b ≡ true → Own 31
      unfolding own_number
      too_large y v = rw (own_number, sym (known values m v) ∙ once, sym (large (chosen_view v place)) ∙ y)

      module _ (not_large : b ≡ false) where
        among_many : {c : Bool} → ((v : Chosen text records values decls m k) → is_too_many k words (chosen_of v) ≡ c)
            → (v : Chosen text records values decls m k)
            → own_number (outer_of v.listed) (table_of v.listed) (known_of v.listed k) k words (chosen_of v)
            ≡ number_or c 32 (number_or (bad_mapping (outer_of v.listed) (table_of v.listed) (chosen_of v) (chosen_of v).target) 33 0)
        unfolding own_number
        among_many many v = rw (own_number, sym (known values m v) ∙ once, sym (large (chosen_view v place)) ∙ not_large, many v)

        pub one_too_many : 256 ≤ k → Own 32
        one_too_many h v = sym (among_many {c = true} (λ x. rw (lt-ltb 256 (k + 1) (omega arith))) v)

        module _ {w : ℕ} (few : k < 256) (adds : (v : View records values p) → w ≡ words_of (declared_of v.declaration)) where
          total : (v : Chosen text records values decls m k) → is_too_many k words (chosen_of v) ≡ ltb most_words (words + w)
          total v = rw (le-ltb 256 (k + 1) (omega arith), sym (adds (chosen_view v place)))

          pub too_many_words : 4096 < words + w → Own 32
          too_many_words h v = sym (among_many (λ x. total x ∙ lt-ltb 4096 (words + w) h) v)

          module _ {d : Bool} (room : words + w ≤ 4096)
              (mapping : (v : Chosen text records values decls m k) → d ≡ bad_mapping (outer_of v.listed) (table_of v.listed) (chosen_of v) (chosen_of v).target) where
            last_test : (v : Chosen text records values decls m k)
                → own_number (outer_of v.listed) (table_of v.listed) (known_of v.listed k) k words (chosen_of v) ≡ number_or d 33 0
            last_test v = among_many (λ x. total x ∙ le-ltb 4096 (words + w) room) v ∙ ap (λ (y : Bool). number_or y 33 0) (sym (mapping v))

            pub mapped_wrong : d ≡ true → Own 33
            mapped_wrong y v = sym (last_test v ∙ rw y)

            pub faultless : d ≡ false → Own 0
            faultless y v = sym (last_test v ∙ rw y)
