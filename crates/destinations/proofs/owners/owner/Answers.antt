-- `destinations::owners::owner` meets its contract: the name is not declared, is a mapping, has no bits, or is storage itself.
-- Assumes nothing.
use borrow.Author.Rules.{rules}
use native.Mathlib.Omega.{arith}
use mathlib.Core.Path.{◌≡◌, refl, sym, ap, ◌∙◌}
use mathlib.Core.Bool.{Bool, true, false}
use mathlib.Core.List.{List, [], ◌∷◌}
use mathlib.Core.Option.{Option, none, some}
use Prim.Native.Nat.{ℕ, ◌+◌, ◌*◌, ◌<◌, ◌≤◌}
use lib.ListN.{length}
use Rattle.cells.specs.Cells.{cell}
use Rattle.rules.specs.Declarations.{Target, declared_of}
use Rattle.table.specs.Meaning.{outer_only}
use Rattle.table.specs.Laws.Positions.{record_within}
use Rattle.table.specs.Views.{View, TargetStands, TargetAt}
use Rattle.table.specs.Laws.Views.{no_target, target_here}
use Rattle.std.specs.Prelude.{Some, None}
use Rattle.table.specs.Shown.{shown_bits}
use Rattle.table.specs.declared.views.Names.{Names}
use Rattle.accesses.specs.Laws.Lookups.{view_of, numbered}
use Rattle.accesses.specs.Names.{is_missing}
use Rattle.accesses.specs.Laws.Names.{missing_bits, present_bits}
use Rattle.destinations.specs.Owners.{NameHere, Owns}
use Rattle.destinations.specs.Laws.Owners.{owner_none, owner_found, owner_bitless, owner_own, owner_storage, owner_under}
use Rattle.records.specs.Holds.{inside_cell}
use Rattle.destinations.proofs.owners.owner.Goals as goal

module _ {records values decls : List ℕ} {i : ℕ} where
  undeclared : (k : ℕ) → k ≡ inside_cell records i → outer_only ≤ k → (v : NameHere records values decls i) → Owns v None
  undeclared k e h v = record { are = owner_none v (rw e at h); small = tt }

  module _ {k : ℕ} (e : k ≡ inside_cell records i) (h : k < outer_only) where
    cell_room : NameHere records values decls i → 2 * k + 2 ≤ length decls
    cell_room v = (owner_found v e h).room

    small : NameHere records values decls i → k < 256
    small v = (owner_found v e h).small

    module _ {d : ℕ} (ed : d ≡ cell 2 decls k) where
      abbrev view : NameHere records values decls i → View records values d
      view v = view_of v.scene ed (owner_found v e h)

      some_view : NameHere records values decls i → (values : List ℕ) × View records values d
      some_view v = (values, view v)

      module _ {r : ℕ} (f : (values : List ℕ) (u : View records values d) → TargetAt u.tokens (Some r) (declared_of u.declaration).target) where
        target : (v : NameHere records values decls i)
            → (t : Target) × ((declared_of (owner_found v e h).declaration).target ≡ some t) × TargetStands v.scene.tokens r t
        target v = target_here v.scene.tokens (declared_of (owner_found v e h).declaration).target (f values (view v))

        target_room : NameHere records values decls i → 8 * r + 8 ≤ length records
        target_room v = record_within v.scene.ready.holds r (target v).2.within

        module _ {n : ℕ} (en : n ≡ inside_cell records r) where
          under : (v : NameHere records values decls i) → (n ≡ (owner_storage v e h (target v).1).number) × (n < 256)
          under v =
              let t = target v in
              let s = owner_storage v e h t.1 in
              let q = numbered v.scene r t.0.name t.2.within t.2.name s.number s.numbers in
              (en ∙ q.0, (let l = q.1 in let m = q.0 in omega arith))

          under_small : NameHere records values decls i → n < 256
          under_small v = (under v).1

          mapping : (v : NameHere records values decls i) → Owns v (Some n)
          mapping v = record { are = ap (λ x. x ∷ []) (under v).0 ∙ owner_under v e h (target v).1; small = (under v).1 }

      module _ (f : (values : List ℕ) (u : View records values d) → TargetAt u.tokens None (declared_of u.declaration).target) {own : Names} (eo : (u : View records values d) → own ≡ shown_bits (declared_of u.declaration).bits) {m : Bool} (em : m ≡ is_missing own) where
        untargeted : (v : NameHere records values decls i) → (declared_of (owner_found v e h).declaration).target ≡ none
        untargeted v = no_target v.scene.tokens None (declared_of (owner_found v e h).declaration).target (f values (view v)) refl

        missing : (v : NameHere records values decls i) → m ≡ is_missing (shown_bits (declared_of (owner_found v e h).declaration).bits)
        missing v = em ∙ ap is_missing (eo (view v))

        bitless : m ≡ true → (v : NameHere records values decls i) → Owns v None
        bitless t v = record { are = owner_bitless v e h (untargeted v) (missing_bits _ (sym (missing v) ∙ t)); small = tt }

        storage : m ≡ false → (v : NameHere records values decls i) → Owns v (Some k)
        storage t v = let b = present_bits _ (sym (missing v) ∙ t) in record { are = owner_own v e h (untargeted v) b.0 b.1; small = small v }

pub returns-then-number-ge-OUTER_ONLY : goal.returns-then-number-ge-OUTER_ONLY
returns-then-number-ge-OUTER_ONLY c = search (rules, undeclared)

pub get16-d-requires : goal.get16-d-requires
get16-d-requires c = search (rules, cell_room)

pub target_of-requires : goal.target_of-requires
target_of-requires c = some_view c.inside16_at-number.ensures c.if-number-ge-OUTER_ONLY.false c.get16-d.ensures c.requires

pub inside16_at-requires : goal.inside16_at-requires
inside16_at-requires c = target_room c.inside16_at-number.ensures c.if-number-ge-OUTER_ONLY.false c.get16-d.ensures c.in-Some.ensures c.requires

pub overflow_cast-result : goal.overflow_cast-result
overflow_cast-result c = record { fits = omega (arith, under_small c.inside16_at-number.ensures c.if-number-ge-OUTER_ONLY.false c.get16-d.ensures c.in-Some.ensures c.inside16_at.ensures c.requires) }

pub returns-in-Some : goal.returns-in-Some
returns-in-Some c = mapping c.inside16_at-number.ensures c.if-number-ge-OUTER_ONLY.false c.get16-d.ensures c.in-Some.ensures c.inside16_at.ensures

pub bits_of-requires : goal.bits_of-requires
bits_of-requires c = view c.inside16_at-number.ensures c.if-number-ge-OUTER_ONLY.false c.get16-d.ensures c.requires

pub returns-then-is_missing : goal.returns-then-is_missing
returns-then-is_missing c = bitless c.inside16_at-number.ensures c.if-number-ge-OUTER_ONLY.false c.get16-d.ensures c.in_default.ensures c.bits_of.ensures c.is_missing.ensures c.if-is_missing.true

pub overflow_cast-result-2 : goal.overflow_cast-result-2
overflow_cast-result-2 c = record { fits = omega (arith, small c.inside16_at-number.ensures c.if-number-ge-OUTER_ONLY.false c.requires) }

pub returns : goal.returns
returns c = storage c.inside16_at-number.ensures c.if-number-ge-OUTER_ONLY.false c.get16-d.ensures c.in_default.ensures c.bits_of.ensures c.is_missing.ensures c.if-is_missing.false
