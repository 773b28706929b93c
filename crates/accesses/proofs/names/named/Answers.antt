-- `accesses::names::named` meets its contract: by what the name's cell says, and by the declaration of that number.
-- Assumes nothing.
use borrow.Author.Rules.{rules}
use native.Mathlib.Omega.{arith}
use mathlib.Core.Path.{◌≡◌, sym, ◌∙◌}
use mathlib.Core.Bool.{Bool}
use mathlib.Core.List.{List}
use mathlib.Core.Option.{Option}
use Prim.Native.Nat.{ℕ, ◌+◌, ◌*◌, ◌<◌, ◌≤◌}
use lib.ListN.{length}
use Rattle.cells.specs.Cells.{cell}
use Rattle.rules.specs.Grammar.Trees.{Bits}
use Rattle.rules.specs.Grammar.Precedence.{Index}
use Rattle.rules.specs.Declarations.{Names as Span-of, BitNames, declared_of, main_names}
use Rattle.rules.specs.Faults.Fault.{fault}
use Rattle.rules.specs.Faults.Bodies.{access_judged}
use Rattle.records.specs.Holds.{place_cell, inside_cell}
use Rattle.keys.specs.Keys.{key}
use Rattle.table.specs.Meaning.{unknown_name, outer_only}
use Rattle.table.specs.Bits.{BitsView, bits_size}
use Rattle.table.specs.Laws.Bits.{bits_within}
use Rattle.table.specs.Views.{View}
use Rattle.table.specs.Shown.{shown_words, shown_bits}
use Rattle.table.specs.declared.views.Names.{Names}
use Rattle.weighing.specs.Weights.{Weighs}
use Rattle.accesses.specs.Lengths.{Short}
use Rattle.accesses.specs.Laws.Lengths.{shown_short}
use Rattle.accesses.specs.Laws.Lookups.{Found, view_of, short_bits}
use Rattle.accesses.specs.Names.{NamedAt, NamedAnswer, Shows, has_index}
use Rattle.accesses.specs.Laws.Names.{bits_view, name_room, name_place, place_fits, named_answer, named_unknown, named_outer, name_found, found_judged}
use Rattle.accesses.proofs.names.named.Goals as goal

-- whatever stands there, the answer is that of the name
abbrev All : List ℕ → List ℕ → List ℕ → ℕ → ℕ → Bool → ℕ → ℕ → ℕ → Type 0
All records values decls i p t k n q = (v : NamedAt records values decls i p) → NamedAnswer v t (record { key = k; bits = n; next = q })

module _ {records values decls : List ℕ} {i p : ℕ} where
  bits_at : NamedAt records values decls i p → (values : List ℕ) × BitsView records values p
  bits_at v = (values, bits_view v)

  module _ {s : ℕ} (es : (values : List ℕ) (u : BitsView records values p) → s ≡ bits_size u.bits) where
    next_fits : NamedAt records values decls i p → p + s < 8192
    next_fits v = omega (arith, es values (bits_view v), bits_within (bits_view v), v.scene.ready.holds.few)

  module _ {place : ℕ} (ep : place ≡ place_cell records i) where
    place_known : (v : NamedAt records values decls i p) → place ≡ v.name.place
    place_known v = ep ∙ name_place v

    place_small : NamedAt records values decls i p → place ≤ 32768
    place_small v = omega (arith, place_known v, place_fits v)

  -- the declaration
  module _ {meaning : ℕ} (em : meaning ≡ inside_cell records i) (nu : meaning ≡ unknown_name → ⊥) (no : meaning ≡ outer_only → ⊥) where
    abbrev found : (v : NamedAt records values decls i p) → Found v.scene meaning
    found v = name_found v meaning em nu no

    cell_room : NamedAt records values decls i p → 2 * meaning + 2 ≤ length decls
    cell_room v = (found v).room

    module _ {d : ℕ} (ed : d ≡ cell 2 decls meaning) where
      abbrev view : NamedAt records values decls i p → View records values d
      view v = view_of v.scene ed (found v)

      module _ {own : Names} (eo : (u : View records values d) → own ≡ shown_bits (declared_of u.declaration).bits) where
        short : NamedAt records values decls i p → Short own
        short v = rw (eo (view v)) (shown_short (declared_of (found v).declaration).bits (short_bits v.scene (found v)))

  -- the answers
  module _ (t : Bool) (s : ℕ) (es : (values : List ℕ) (u : BitsView records values p) → s ≡ bits_size u.bits)
      (place : ℕ) (ep : place ≡ place_cell records i) (meaning : ℕ) (em : meaning ≡ inside_cell records i) where
    unknown : meaning ≡ unknown_name → (k : ℕ) → k ≡ key (fault 40 place) → All records values decls i p t k 0 (p + s)
    unknown h k e v = named_answer v (λ x _. rw (e, place_known ep v) (named_unknown v x (sym em ∙ h))) (es values (bits_view v))

    outer : meaning ≡ outer_only → (k : ℕ) → k ≡ key (fault 41 place) → All records values decls i p t k 0 (p + s)
    outer h k e v = named_answer v (λ x _. rw (e, place_known ep v) (named_outer v x (sym em ∙ h))) (es values (bits_view v))

    module _ (nu : meaning ≡ unknown_name → ⊥) (no : meaning ≡ outer_only → ⊥) (d : ℕ) (ed : d ≡ cell 2 decls meaning) (words own given : Names)
        (ew : (u : View records values d) → words ≡ shown_words (declared_of u.declaration).words)
        (eo : (u : View records values d) → own ≡ shown_bits (declared_of u.declaration).bits)
        (eg : (u : BitsView records values p) → given ≡ shown_bits (main_names u.bits)) (k n : ℕ)
        (f : (w : Option Span-of) (b : Option BitNames) (x : Index) (g : Bits) → Shows words own given t w b x g → Weighs k n (access_judged place w b x g)) where
      by_declaration : (v : NamedAt records values decls i p) (x : Index) → t ≡ has_index x → let e = declared_of (found em nu no v).declaration in
          Weighs k n (access_judged place e.words e.bits x v.bits)
      by_declaration v x h =
          f (declared_of (found em nu no v).declaration).words (declared_of (found em nu no v).declaration).bits x v.bits (record {
            words_shown = ew (view em nu no ed v);
            own_shown = eo (view em nu no ed v);
            given_shown = eg (bits_view v);
            index_shown = h;
          })

      declared : All records values decls i p t k n (p + s)
      declared v =
          named_answer v (λ x h. rw (found_judged v meaning em nu no x) (rw (place_known ep v) at (by_declaration v x h))) (es values (bits_view v))

pub bits_size-requires : goal.bits_size-requires
bits_size-requires c = search (rules, bits_at)

pub overflow_add-next : goal.overflow_add-next
overflow_add-next c = record { fits = omega (arith, next_fits c.bits_size.ensures c.requires) }

pub place_at-place-requires : goal.place_at-place-requires
place_at-place-requires c = search (rules, name_room)

pub inside16_at-meaning-requires : goal.inside16_at-meaning-requires
inside16_at-meaning-requires c = search (rules, name_room)

pub fault_key-requires : goal.fault_key-requires
fault_key-requires c = search (rules, place_small)

pub returns-then-meaning : goal.returns-then-meaning
returns-then-meaning c = search (rules, unknown)

pub fault_key-requires-then-meaning-2 : goal.fault_key-requires-then-meaning-2
fault_key-requires-then-meaning-2 c = search (rules, place_small)

pub returns-then-meaning-2 : goal.returns-then-meaning-2
returns-then-meaning-2 c = search (rules, outer)

pub get16-d-requires : goal.get16-d-requires
get16-d-requires c = search (rules, cell_room)

pub words_of-words-requires : goal.words_of-words-requires
words_of-words-requires c = view c.inside16_at-meaning.ensures c.if-meaning.false c.if-meaning-2.false c.get16-d.ensures c.requires

pub bits_of-own-requires : goal.bits_of-own-requires
bits_of-own-requires c = view c.inside16_at-meaning.ensures c.if-meaning.false c.if-meaning-2.false c.get16-d.ensures c.requires

pub names_at-given-requires : goal.names_at-given-requires
names_at-given-requires c = search (rules, bits_view)

pub declared_weight-weight-requires : goal.declared_weight-weight-requires
declared_weight-weight-requires c = search (rules, short, place_small)

pub returns : goal.returns
returns c = declared _ _ c.bits_size.ensures _ c.place_at-place.ensures _ c.inside16_at-meaning.ensures c.if-meaning.false c.if-meaning-2.false _ c.get16-d.ensures _ _ _ c.words_of-words.ensures c.bits_of-own.ensures c.names_at-given.ensures _ _ c.declared_weight-weight.ensures
