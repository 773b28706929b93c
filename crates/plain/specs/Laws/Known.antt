-- Known names: declared ones, the outer name, and labels. Their least faults as keys.
-- Assumes nothing.
use Rattle.std.specs.Prelude.{ℕ, suc, ◌+◌, ◌*◌, ◌<◌, ◌≤◌, ◌≡◌, refl, Bool, true, false, ◌||◌, List, [], ◌∷◌, ◌++◌, length}
use Rattle.std.proofs.Common.{sym, ap, ◌∙◌, arith}
use Rattle.std.proofs.Math.Bool.{or_assoc, or-true, or-false}
use Rattle.std.proofs.Math.Option.{Option, none, some}
use Rattle.std.proofs.Math.Decide.{ℕ_discrete}
use Rattle.rules.specs.Text.Tokens.{Kind, Name, tk}
use Rattle.rules.specs.Text.Scan.{same_bytes}
use Rattle.rules.specs.Limits.{longest_text}
use Rattle.rules.specs.Grammar.Trees.{Tokens}
use Rattle.rules.specs.Declarations.{Word, Table, number_from, number_of}
use Rattle.rules.specs.Faults.Fault.{fault, when}
use Rattle.rules.specs.Faults.Declared.{is_known}
use Rattle.rules.specs.Faults.Bodies.{declared_names}
use Rattle.keys.specs.Laws.Keys.{fault_key, no_fault_key}
use Rattle.records.specs.Holds.{token_at, place_cell, inside_cell}
use Rattle.keys.specs.Keys.{key, no_key, least_key}
use Rattle.table.specs.Meaning.{outer_only, unknown_name}
use Rattle.table.specs.Laws.Positions.{record_within}
use Rattle.records.specs.Words.{NameAt, word_at}
use Rattle.stacks.specs.Stacks.{stacked_words, NameView}
use Rattle.accesses.specs.Laws.Lookups.{undeclared, declared}
use Rattle.plain.specs.Stage.{Stage, outer_of, table_of}
use Rattle.plain.specs.Laws.Stage.{scene_of, name_view}
use Rattle.plain.specs.Labels.{known_names, LabelView, label_fault}

pub known_append : (w : Word) (xs ys : List Word) → is_known w (xs ++ ys) ≡ is_known w xs || is_known w ys
unfolding is_known
known_append w [] ys = refl
known_append w (x ∷ xs) ys = ap (◌||◌ (same_bytes x w)) (known_append w xs ys) ∙ sym (or_assoc (same_bytes x w) (is_known w xs) (is_known w ys))

abbrev has : Option ℕ → Bool
has none = false
has (some k) = true

has_if : (b : Bool) (i : ℕ) (n : Option ℕ) (o : Bool) → b || (has n || o) ≡ has (elim b [ true ↦ some i | false ↦ n ]) || o
has_if true i n o = refl
has_if false i n o = refl

known_declared : (outer : Word) (all : Table) (w : Word) (i : ℕ) (ds : Table) → is_known w (declared_names outer all ds) ≡ has (number_from i w ds) || same_bytes outer w
unfolding is_known declared_names number_from
known_declared outer all w i [] = or-false (same_bytes outer w)
known_declared outer all w i (d ∷ ds) =
    ap (◌||◌ (same_bytes d.name.word w)) (known_declared outer all w (suc i) ds) ∙ has_if (same_bytes d.name.word w) i (number_from (suc i) w ds) (same_bytes outer w)

-- where a token stands
module _ {text records values decls : List ℕ} (s : Stage text records values decls) {i : ℕ} (l : i < length s.tokens) where
  pub token_room : 8 * i + 8 ≤ length records
  token_room = record_within s.ready.holds i l

  pub token_place : place_cell records i ≡ (token_at s.tokens i).info.place
  token_place = (s.ready.holds.entry i l).place

  pub place_small : (token_at s.tokens i).info.place ≤ longest_text
  place_small = omega (arith, (s.ready.holds.entry i l).inside, s.ready.holds.short)

pub name_here : {ts : Tokens} {i : ℕ} → NameAt ts i → token_at ts i ≡ tk Name (token_at ts i).info
name_here {ts} {i} n = ap (λ (x : Kind). tk x (token_at ts i).info) n.kind

-- what a name's cell says of it
module _ {text records values decls : List ℕ} (s : Stage text records values decls) {i k : ℕ} (n : NameAt s.tokens i) (e : k ≡ inside_cell records i) where
  abbrev word : Word
  word = word_at s.tokens i

  by_number : is_known word (known_names s) ≡ has (number_of (table_of s) word) || same_bytes (outer_of s) word
  unfolding number_of
  by_number = known_declared (outer_of s) (table_of s) word 0 (table_of s)

  pub known_meaning : (k ≡ unknown_name → ⊥) → is_known word (known_names s) ≡ true
  known_meaning u = go (ℕ_discrete k outer_only)
    where
      go : Dec (k ≡ outer_only) → is_known word (known_names s) ≡ true
      go (yes o) =
          let q = undeclared (scene_of s) i _ n.within (name_here n) true (sym e ∙ o) in
          by_number ∙ rw (q.0, q.1) refl
      go (no o) = by_number ∙ rw (declared (scene_of s) i _ n.within (name_here n) k e u o).0 refl

  pub unknown_meaning : k ≡ unknown_name → is_known word (known_names s) ≡ false
  unknown_meaning u =
      let q = undeclared (scene_of s) i _ n.within (name_here n) false (sym e ∙ u) in
      by_number ∙ rw (q.0, q.1) refl

-- ONE LABEL
module _ {text records values decls room : List ℕ} {count i : ℕ} (v : LabelView text records values decls room count i) where
  abbrev place : ℕ
  place = (token_at v.stage.tokens i).info.place

  abbrev stacked_known : Bool
  stacked_known = is_known (word_at v.stage.tokens i) (stacked_words v.stage.tokens room count)

  pub label_place : place_cell records i ≤ longest_text
  label_place = omega (arith, token_place v.stage v.name.within, place_small v.stage v.name.within)

  abbrev pub label_name : NameView records room count i
  label_name = name_view v.stage v.stacked v.name v.large

  module _ {p k : ℕ} (is_place : p ≡ place_cell records i) (is_meaning : k ≡ inside_cell records i) where
    faulty : {r : ℕ} → is_known (word_at v.stage.tokens i) (stacked_words v.stage.tokens room count ++ known_names v.stage) ≡ true → r ≡ key (fault 44 p)
        → r ≡ least_key (label_fault v)
    faulty e f =
        f ∙ ap (λ q. key (fault 44 q)) (is_place ∙ token_place v.stage v.name.within)
        ∙ sym (ap (λ b. least_key (when b 44 place)) e ∙ fault_key 44 place (omega arith) (place_small v.stage v.name.within))

    pub label_known : {r : ℕ} → (k ≡ unknown_name → ⊥) → r ≡ key (fault 44 p) → r ≡ least_key (label_fault v)
    label_known u f =
        faulty
        (known_append (word_at v.stage.tokens i) (stacked_words v.stage.tokens room count) (known_names v.stage)
        ∙ ap (◌||◌ stacked_known) (known_meaning v.stage v.name is_meaning u) ∙ or-true stacked_known) f

    pub label_repeated : {r : ℕ} → true ≡ stacked_known → r ≡ key (fault 44 p) → r ≡ least_key (label_fault v)
    label_repeated e f =
        faulty
        (known_append (word_at v.stage.tokens i) (stacked_words v.stage.tokens room count) (known_names v.stage)
        ∙ ap (λ b. b || is_known (word_at v.stage.tokens i) (known_names v.stage)) (sym e)) f

    pub label_new : k ≡ unknown_name → false ≡ stacked_known → no_key ≡ least_key (label_fault v)
    label_new u e =
        sym (ap (λ b. least_key (when b 44 place))
        (known_append (word_at v.stage.tokens i) (stacked_words v.stage.tokens room count) (known_names v.stage)
        ∙ ap (λ b. b || is_known (word_at v.stage.tokens i) (known_names v.stage)) (sym e) ∙ unknown_meaning v.stage v.name is_meaning u)
        ∙ no_fault_key 44 place)
