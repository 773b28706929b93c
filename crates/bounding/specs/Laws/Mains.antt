-- Laws of MAIN's name and its count.
use Rattle.std.specs.Prelude.{ℕ, zero, suc, ◌<◌, ◌≤◌, ◌≡◌, refl, List, [], ◌∷◌, map, length}
use Rattle.std.proofs.Common.{sym, ap, ◌∙◌, subst, arith}
use Rattle.std.proofs.Math.Option.{Option, none, some, none-ne-some, some-injective}
use Rattle.std.proofs.Math.ListN.{get_elem?}
use Rattle.cells.specs.Cells.{cell}
use Rattle.rules.specs.Text.Tokens.{Info, Token, kind_no, Name}
use Rattle.rules.specs.Grammar.Trees.{Declaration}
use Rattle.rules.specs.Limits.{longest_chain}
use Rattle.rules.specs.Declarations.{Word, declared_of, number_of, body_of, body_number}
use Rattle.rules.specs.Faults.Whole.{main_name}
use Rattle.bounds.specs.Cited.Counts.{endless, count_down}
use Rattle.bounds.proofs.WalkLaws.{cut_low, count_none}
use Rattle.records.specs.Holds.{kind_byte}
use Rattle.records.specs.Words.{word_at}
use Rattle.table.specs.Declarations.{declaration_list, all_declared}
use Rattle.table.specs.Lookups.{nth}
use Rattle.table.specs.Views.{MainAt}
use Rattle.table.specs.Laws.Views.{name_token}
use Rattle.links.specs.Mains.{MainIn, MainNamed}
use Rattle.links.specs.Laws.Mains.{Searching, view_at}
use Rattle.reading.specs.Reading.{Reading, table_of}
use Rattle.reading.specs.Laws.Names.{number_bound}
use Rattle.reading.specs.Laws.Meanings.{table_size_lem}
use Rattle.counting.specs.Holding.{enough}
use Rattle.reading.specs.Indexes.{number_or, index_of}
use Rattle.walking.specs.Walking.{table_size}
use Rattle.bounding.specs.Filling.{Ready, count_in, ShortFrom, Blank, Fillable, Fills}
use Rattle.bounding.specs.Mains.{Longest}
use Rattle.bounding.specs.Laws.Knowing.{no_chains}

-- a description as the search for MAIN reads it
abbrev pub main_in : {records decls : List ℕ} {m n : ℕ} → Ready records decls m n → MainIn records decls m
main_in x =
    let v = x.reading in
    record {
      text = v.text;
      values = v.values;
      tokens = v.tokens;
      description = v.description;
      holds = v.ready.holds;
      declared = v.ready.declared;
      count = v.ready.count;
      of50 = x.whole;
    }

-- the table is blank
pub to_fill : {records decls table new room : List ℕ} {m n : ℕ} → Ready records decls m n → table_size ≤ length table → enough ≤ length room → Blank table new
    → Fillable records decls new room m n
unfolding body_of body_number
to_fill {records} {decls} {new = new} {m = m} {n} x h s b = record {
  ready = x;
  right = λ v. record { counts = λ w a. by v w a (number_of (table_of v.reading) w) refl };
  last = λ z. let e = b.last in omega arith;
  table_room = omega (arith, b.size);
  space = s;
}
  where
    by : (v : Ready records decls m n) (w : Word) → (count_in v new w ≡ 0 → ⊥) → (o : Option ℕ) → number_of (table_of v.reading) w ≡ o
        → cell 8 new (number_or o) ≡ count_down (table_of v.reading) longest_chain w
    by v w a none e = b.last ∙ count_none (table_of v.reading) 15 w (ap (body_number (table_of v.reading)) e)
    by v w a (some j) e =
        let small = number_bound (table_of v.reading) j w e in
        absurd (a (ap (λ o. cell 8 new (number_or o)) e ∙ b.clear j (omega (arith, table_size_lem v.reading, v.reading.ready.few))))

-- MAIN is filled in
module _ {records decls table room : List ℕ} {m n name : ℕ} (x : Fillable records decls table room m n) (found : (v : MainIn records decls m) → MainNamed v name) where
  pub main_within : name < n
  main_within = omega (arith, (found (main_in x.ready)).within, x.ready.reading.count)

  pub main_kind : kind_byte records name ≡ kind_no Name
  main_kind = (found (main_in x.ready)).kind

  pub main_short : (v : Ready records decls m n) → ShortFrom v name 16
  main_short v = no_chains (table_of v.reading) v.whole (word_at v.reading.tokens name)

  module _ {new : List ℕ} {k c : ℕ} (f : Fills records decls table new m n name)
      (index : (decls : List ℕ) (n : ℕ) (v : Reading records decls m n) → name < n → kind_byte records name ≡ kind_no Name → k ≡ index_of (table_of v) (word_at v.tokens name))
      (at : c ≡ cell 8 new k) where
    counted : (v : Ready records decls m n) → c ≡ count_down (table_of v.reading) longest_chain (main_name (table_of v.reading))
    counted v =
        let w = word_at v.reading.tokens name in
        at
        ∙ (ap (cell 8 new) (index decls n v.reading main_within main_kind)
        ∙ ((f.grows.right v).counts w (f.done v).there ∙ ap (count_down (table_of v.reading) longest_chain) (found (main_in v)).named))

    pub the_longest : Longest records decls m n c
    the_longest = record { low = subst (λ q. q ≤ endless) (sym (counted x.ready)) (cut_low _ _); is = counted }
