-- Laws of the first text's storage under a name: where no name is declared twice it decides alone what is shared and what clashes.
-- Assumes nothing.
use Prim.Native.Nat.{ℕ, suc, ◌+◌, ◌<◌, ◌≤◌}
use Rattle.std.specs.Prelude.{◌≡◌, Bool, ◌&&◌, ◌||◌, length}
use Rattle.std.proofs.Math.Path.{refl, ap}
use Rattle.std.proofs.Common.{sym, ap₂, ◌∙◌, true≢false, arith, add-zero}
use Rattle.std.proofs.Math.Bool.{true, false, not}
use mathlib.Core.List.{List, [], ◌∷◌}
use Rattle.std.proofs.Math.Option.{Option, none, some}
use Rattle.std.proofs.Math.ListN.{get_elem?}
use Rattle.rules.specs.Text.Scan.{same_bytes}
use Rattle.rules.specs.Declarations.{Word, Declared, Table}
use Rattle.rules.specs.Faults.Fault.{when}
use Rattle.rules.specs.Faults.Declared.{is_known, twice}
use Rattle.rules.specs.Pair.{same_shape, same_storage, shared_from, shared_with, clashes}
use Rattle.laws_orders.proofs.Orders.Tests.{impossible, or_left, or_right}
use Rattle.laws_accepted.proofs.Accepted.Faultless.{both_empty, when_empty}
use Rattle.laws_accepted.proofs.Accepted.Named.{same_itself}
use Rattle.pairs.specs.Laws.Exact.{storage_exactly}
use Rattle.cells.specs.Cells.{cell}
use Rattle.rules.specs.Declarations.{declared_of, outer_name}
use Rattle.table.specs.Views.{View}
use Rattle.table.specs.Kth.{kth_found}
use Rattle.table.specs.Laws.Kth.{table_length, kth_view}
use Rattle.pair_tables.specs.Standing.{Stands, declared_by, DeclaredIn, view_of}
use Rattle.pair_tables.specs.Meeting.{namesake, Meets}
use Rattle.pair_tables.specs.Laws.Standing.{stands_once}
use Rattle.pair_tables.specs.declared.meeting.Met.TheVariants.{Own, Clashing, Shared}

module _ (d : Declared) where
  -- of the first one's tests, with what is found behind it
  abbrev shared_at : ℕ → Bool → Bool → Option ℕ → Option ℕ
  shared_at o named same behind = elim (named && same) [ true ↦ some o | false ↦ behind ]

  abbrev clashes_at : Bool → Bool → Bool → Bool
  clashes_at named same behind = (named && not same) || behind

  -- none of them is storage under the name
  pub none_named : (o : ℕ) (first : Table) → length first ≤ namesake first d → (shared_from o first d ≡ none) × (clashes first d ≡ false)
  unfolding shared_from clashes namesake
  none_named o [] l = (refl, refl)
  none_named o (c ∷ first) l = by (same_storage c d) l (none_named (suc o) first)
    where
      by :
          (b : Bool) → suc (length first) ≤ elim b [ true ↦ 0 | false ↦ suc (namesake first d) ]
          → (length first ≤ namesake first d → (shared_from (suc o) first d ≡ none) × (clashes first d ≡ false))
          → (shared_at o b (same_shape c d) (shared_from (suc o) first d) ≡ none) × (clashes_at b (same_shape c d) (clashes first d) ≡ false)
      by true h ih = absurd (omega arith)
      by false h ih = ih (omega arith)

  one_name : (c : Declared) → same_storage c d ≡ true → c.name.word ≡ d.name.word
  one_name c e = ((storage_exactly c d).0 e).name

  -- a name that is known is declared no more
  behind_it : (known : List Word) (o : ℕ) (first : Table) → twice known first ≡ [] → is_known d.name.word known ≡ true
      → (shared_from o first d ≡ none) × (clashes first d ≡ false)
  unfolding shared_from clashes twice is_known
  behind_it known o [] t k = (refl, refl)
  behind_it known o (c ∷ first) t k =
      let z = both_empty (when (is_known c.name.word known) 30 c.name.place) (twice (c.name.word ∷ known) first) t in
      let new : is_known c.name.word known ≡ false = when_empty _ 30 c.name.place z.0 in
      by (same_storage c d) refl new
      (behind_it (c.name.word ∷ known) (suc o) first z.1 (or_right (same_bytes c.name.word d.name.word) (is_known d.name.word known) k))
    where
      by :
          (b : Bool) → same_storage c d ≡ b → is_known c.name.word known ≡ false → (shared_from (suc o) first d ≡ none) × (clashes first d ≡ false)
          → (shared_at o b (same_shape c d) (shared_from (suc o) first d) ≡ none) × (clashes_at b (same_shape c d) (clashes first d) ≡ false)
      by true q new ih = absurd (true≢false (sym k ∙ ap (λ n. is_known n known) (sym (one_name c q)) ∙ new))
      by false q new ih = ih

  abbrev shared_if : Bool → ℕ → Option ℕ
  shared_if b i = elim b [ true ↦ some i | false ↦ none ]

  abbrev number_at : Bool → ℕ → ℕ
  number_at b behind = elim b [ true ↦ 0 | false ↦ suc behind ]

  -- the one that is decides
  pub one_named : (known : List Word) (o : ℕ) (first : Table) (c : Declared) → twice known first ≡ [] → get_elem? first (namesake first d) ≡ some c
      → (shared_from o first d ≡ shared_if (same_shape c d) (o + namesake first d)) × (clashes first d ≡ not (same_shape c d))
  unfolding shared_from clashes twice is_known namesake
  one_named known o [] c t e = impossible (cc)
  one_named known o (x ∷ first) c t e =
      let z = both_empty (when (is_known x.name.word known) 30 x.name.place) (twice (x.name.word ∷ known) first) t in
      by (same_storage x d) refl e z.1 (one_named (x.name.word ∷ known) (suc o) first c z.1)
    where
      shape :
          (s : Bool) → (shared_from (suc o) first d ≡ none) × (clashes first d ≡ false)
          → (shared_at o true s (shared_from (suc o) first d) ≡ shared_if s (o + 0)) × (clashes_at true s (clashes first d) ≡ not s)
      shape true n = (ap some (sym (add-zero o)), n.1)
      shape false n = (n.0, refl)

      by :
          (b : Bool) → same_storage x d ≡ b → get_elem? (x ∷ first) (number_at b (namesake first d)) ≡ some c → twice (x.name.word ∷ known) first ≡ []
          → (get_elem? first (namesake first d) ≡ some c
          → (shared_from (suc o) first d ≡ shared_if (same_shape c d) (suc o + namesake first d)) × (clashes first d ≡ not (same_shape c d)))
          → (shared_at o b (same_shape x d) (shared_from (suc o) first d) ≡ shared_if (same_shape c d) (o + number_at b (namesake first d)))
          × (clashes_at b (same_shape x d) (clashes first d) ≡ not (same_shape c d))
      by true q f t ih =
          let is : x ≡ c = cc (f) in
          let name : same_bytes x.name.word d.name.word ≡ true =
          ap (same_bytes x.name.word) (sym (one_name x q)) ∙ same_itself x.name.word in
          let None-more = behind_it (x.name.word ∷ known) (suc o) first t (or_left (same_bytes x.name.word d.name.word) _ name) in
          rw (← is) (shape (same_shape x d) None-more)
      by false q f t ih =
          let h = ih f in
          let n : suc o + namesake first d ≡ o + suc (namesake first d) = omega arith in
          (h.0 ∙ ap (shared_if (same_shape c d)) n, h.1)

-- by the number that is found in the table
module _ {text₀ records₀ values₀ decls₀ text₁ records₁ values₁ : List ℕ} {m₀ q i : ℕ}
    (is : (v : Stands text₀ records₀ values₀ decls₀ m₀) (w : DeclaredIn text₁ records₁ values₁ q) → i ≡ namesake (declared_by v) (declared_of w.declaration))
  where
    pub meets_none : m₀ ≤ i → (v : Stands text₀ records₀ values₀ decls₀ m₀) (w : DeclaredIn text₁ records₁ values₁ q)
        → Meets (declared_by v) (declared_of w.declaration) Own
    meets_none l v w =
        let h = none_named (declared_of w.declaration) 0 (declared_by v) (omega (arith, is v w, table_length v.ready)) in
        record { shares = h.0; clash = h.1 }

    module _ {p : ℕ} {b : Bool} (l : i < m₀) (e : p ≡ cell 2 decls₀ i)
        (shape : (v : View records₀ values₀ p) (w : View records₁ values₁ q) → b ≡ same_shape (declared_of v.declaration) (declared_of w.declaration))
        (v : Stands text₀ records₀ values₀ decls₀ m₀) (w : DeclaredIn text₁ records₁ values₁ q) where
      decided : (shared_with (declared_by v) (declared_of w.declaration) ≡ shared_if (declared_of w.declaration) b i)
          × (clashes (declared_by v) (declared_of w.declaration) ≡ not b)
      decided =
          let d = declared_of w.declaration in
          let found = ap (λ (k : ℕ). get_elem? (declared_by v) k) (sym (is v w)) ∙ kth_found v.ready l in
          let h = one_named d ((outer_name v.description).word ∷ []) 0 (declared_by v) _ (stands_once v) found in
          let n : 0 + namesake (declared_by v) d ≡ i = omega (arith, is v w) in
          let s = sym (shape (kth_view v.ready l e) (view_of w)) in
          (h.0 ∙ ap₂ (shared_if d) s n, h.1 ∙ ap not s)

      pub meets_shared : b ≡ true → Meets (declared_by v) (declared_of w.declaration) (Shared i)
      meets_shared y = record { shares = decided.0 ∙ ap (λ (x : Bool). shared_if (declared_of w.declaration) x i) y; clash = decided.1 ∙ ap not y }

      pub meets_clash : b ≡ false → Meets (declared_by v) (declared_of w.declaration) Clashing
      meets_clash n = record { shares = decided.0 ∙ ap (λ (x : Bool). shared_if (declared_of w.declaration) x i) n; clash = decided.1 ∙ ap not n }
