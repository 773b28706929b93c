-- Laws of the search for MAIN among the declarations.
-- Assumes nothing.
use Rattle.std.specs.Prelude.{ℕ, zero, suc, ◌+◌, ◌*◌, ◌<◌, ◌≤◌, ◌≡◌, Bool, true, Option as Found, is_some}
use Rattle.std.proofs.Math.Path.{refl, sym, ap}
use Rattle.std.proofs.Common.{◌∙◌, subst, arith, drop_of_length-le}
use Rattle.std.proofs.Math.Bool.{false}
use mathlib.Core.List.{List, [], ◌∷◌, ◌++◌}
use Rattle.std.proofs.Math.Option.{Option, none, some, none-ne-some}
use Rattle.std.proofs.Math.Decide.{dec_lt}
use Rattle.std.proofs.Math.Numerals.{add-one}
use Rattle.std.proofs.Math.ListN.{length, drop, get_elem?}
use Rattle.cells.specs.Cells.{cell}
use Rattle.rules.specs.Text.Tokens.{Info, Token, Name, kind_no}
use Rattle.rules.specs.Text.Scan.{same_bytes}
use Rattle.rules.specs.Declarations.{Declared, declared_of, Table, number_from, number_of}
use Rattle.rules.specs.Faults.Whole.{mains, main_name, chains, groups_faults, faults50}
use Rattle.laws_orders.proofs.Orders.Tests.{impossible}
use Rattle.laws_accepted.proofs.Accepted.Faultless.{both_empty}
use Rattle.laws_accepted.proofs.Accepted.Named.{same_itself}
use Rattle.records.specs.Holds.{kind_byte, inside_cell}
use Rattle.records.specs.Words.{word_at}
use Rattle.table.specs.Views.{View, MainAt}
use Rattle.table.specs.Laws.Views.{no_main, a_main}
use Rattle.reading.specs.Reading.{Reading, table_of}
use Rattle.reading.specs.Meanings.{declares}
use Rattle.reading.specs.Laws.Reading.{kinded}
use Rattle.reading.specs.Laws.Meanings.{view, table_size_lem, means_number, means_nothing}
use Rattle.chains.specs.Laws.Least.{name_there}
use Rattle.naming.specs.Laws.Names.{split_at}

-- a declared name has a number
has_number : (i : ℕ) (ds : Table) (k : ℕ) (d : Declared) → get_elem? ds k ≡ some d → number_from i d.name.word ds ≡ none → ⊥
unfolding number_from
has_number i [] k d e h = absurd (none-ne-some d e)
has_number i (x ∷ ds) zero d e h =
    let q : x ≡ d = cc in
    let same : same_bytes x.name.word d.name.word ≡ true = ap (λ (y : Declared). same_bytes y.name.word d.name.word) q ∙ same_itself d.name.word in
    none-ne-some i (sym h ∙ rw (number_from, same))
has_number i (x ∷ ds) (suc k) d e h = by (same_bytes x.name.word d.name.word) (has_number (suc i) ds k d e) h
  where
    by : (b : Bool) → (number_from (suc i) d.name.word ds ≡ none → ⊥) → ◌≡◌ {A = Option ℕ} (elim b [ true ↦ some i | false ↦ number_from (suc i) d.name.word ds ]) none → ⊥
    by true rest q = none-ne-some i (sym q)
    by false rest q = rest q

-- MAIN is none of the first k declarations
pub record Searching (records decls : List ℕ) (m n k : ℕ) : Type 0 where
  pub within : k ≤ m
  pub named : (v : Reading records decls m n) → main_name (drop k (table_of v)) ≡ main_name (table_of v)
  pub missed : (v : Reading records decls m n) → mains false (drop k (table_of v)) ≡ mains false (table_of v)

pub none_searched : (records decls : List ℕ) (m n : ℕ) → Searching records decls m n 0
none_searched records decls m n = record { within = omega arith; named = λ v. refl; missed = λ v. refl }

module _ {records decls : List ℕ} {m n k : ℕ} (s : Searching records decls m n k) where
  pub main_exists : m ≤ k → (v : Reading records decls m n) → faults50 (table_of v) ≡ [] → ⊥
  unfolding faults50 mains
  main_exists l v e =
      let ds = table_of v in
      let past : length ds ≤ k = omega (arith, table_size_lem v) in
      let none_left : mains false [] ≡ [] =
      sym (ap (mains false) (drop_of_length-le ds past)) ∙ (s.missed v ∙ (both_empty (mains false ds) (chains ds ds ++ groups_faults ds ds) e).0) in
      impossible (cc)

  module _ (l : k < m) where
    pub cell_room : Reading records decls m n → 2 * k + 2 ≤ length decls
    cell_room v = omega (arith, v.ready.declared.room, v.ready.count)

    module _ {p : ℕ} (e : p ≡ cell 2 decls k) where
      pub name_room : Reading records decls m n → 8 * p + 8 ≤ length records
      name_room v = omega (arith, (name_there l e v).0, v.ready.holds.record_room)

      module _ (r : Found ℕ) (is : (values : List ℕ) (w : View records values p) → MainAt w.tokens r (declared_of w.declaration).mainly) where
        here : (v : Reading records decls m n) → MainAt v.tokens r (declared_of (declares v k l).declaration).mainly
        here v = subst (λ (p : ℕ). (values : List ℕ) (w : View records values p) → MainAt w.tokens r (declared_of w.declaration).mainly) e is v.values (view v k l)

        abbrev d : Reading records decls m n → Declared
        d v = declared_of (declares v k l).declaration

        split : (v : Reading records decls m n) → drop k (table_of v) ≡ d v ∷ drop (suc k) (table_of v)
        split v = split_at (table_of v) k (d v) (declares v k l).found

        pub search_on : is_some r ≡ false → Searching records decls m n (k + 1)
        unfolding main_name mains
        search_on z = record {
          within = omega arith;
          named = λ v. rw add-one (sym (rw (split v, main_name, not_main v)) ∙ s.named v);
          missed = λ v. rw add-one (sym (rw (split v, mains, not_main v)) ∙ s.missed v);
        }
          where
            not_main : (v : Reading records decls m n) → (d v).mainly ≡ none
            not_main v = no_main v.tokens r (d v).mainly (here v) z

        pub searched : is_some r ≡ true → {x : ℕ} → x ≡ inside_cell records p → (v : Reading records decls m n) → number_of (table_of v) (main_name (table_of v)) ≡ some x
        unfolding main_name number_of
        searched nz {x} q v =
            ap (number_of (table_of v)) (sym (s.named v) ∙ (ap main_name (split v) ∙ (first ∙ sym spelled))) ∙ by (dec_lt x m)
          where
            first : main_name (d v ∷ drop (suc k) (table_of v)) ≡ (d v).name.word
            first = rw (main_name, (a_main v.tokens r (d v).mainly (here v) nz).1)

            spelled : word_at v.tokens p ≡ (d v).name.word
            spelled = ap (λ (t : Token). t.info.word) (name_there l e v).1

            inside : p < n
            inside = omega (arith, (name_there l e v).0, v.count)

            kind : kind_byte records p ≡ kind_no Name
            kind = (kinded v).kind p inside ∙ ap (λ (t : Token). kind_no t.kind) (name_there l e v).1

            by : Dec (x < m) → number_of (table_of v) (word_at v.tokens p) ≡ some x
            by (yes h) = means_number v p x inside kind q h
            by (no h) =
                absurd (has_number 0 (table_of v) k (d v) (declares v k l).found
                (sym (ap (number_of (table_of v)) spelled) ∙ means_nothing v p x inside kind q (omega arith)))
