-- Laws of `declare`: from its four parts to its answer.
-- Assumes nothing.
use Prim.Native.Nat.{ℕ, ◌/◌, ◌%◌, ◌≤◌}
use mathlib.Core.Path.{◌≡◌, sym, ap, ◌∙◌}
use mathlib.Core.List.{List, map}
use native.Mathlib.Omega.{arith}
use lib.ListN.{length, length-map}
use Rattle.rules.specs.Grammar.Trees.{Tokens, Declaration}
use Rattle.rules.specs.Limits.{deepest}
use Rattle.rules.specs.Declarations.{declared_of, outer_name, declarations}
use Rattle.rules.specs.Faults.Declared.{faults30}
use Rattle.laws_grammar.specs.Cited.Nesting.{nest}
use Rattle.table.specs.Declarations.{declaration_list, all_declared}
use Rattle.keys.specs.Keys.{no_key, least_key, Smalls}
use Rattle.keys.specs.Laws.Keys.{by_place, no_fault, place_first, place_near}
use Rattle.records.specs.Kept.{Kept}
use Rattle.records.specs.Laws.Kept.{holds_kept}
use Rattle.table.specs.Meaning.{MeaningHolds}
use Rattle.records.specs.Words.{word_at}
use Rattle.records.specs.Holds.{Tabled}
use Rattle.spelling.specs.Spelled.{Spelled}
use Rattle.declare.specs.Finding.{Described, Found}
use Rattle.declare.specs.Laws.Earliest.{faults_small}
use Rattle.declare.specs.Laws.Lawful.{lawful_count}
use Rattle.declare.specs.Listed.{Listed, outer_of, table_of}
use Rattle.resolving.specs.Resolving.{Lists, InsideOnly, MeantTo}
use Rattle.declare.specs.Told.{Least, ReadySpelled}
use Rattle.declare.proofs.Choosing.{outer_stands, outer_reads}
use Rattle.resolving.specs.Laws.Marking.{spelled_still}
use Rattle.declare.proofs.Places.{all_within}

module _ {text old values : List ℕ} {n : ℕ} where
  abbrev pub tabled : Described text old values n → Tabled text old n
  tabled v = record { values = values; tokens = v.tokens; holds = v.holds; count = v.count }

  -- spelled, the table has the description still
  module _ {records : List ℕ} (kept : Kept old records 0 n) (spelled : (v : Tabled text old n) → Spelled records v.tokens) where
    abbrev pub described : Described text old values n → Described text records values n
    described v = record { tokens = v.tokens; holds = holds_kept kept v.holds; count = v.count; description = v.description; reads = v.reads }

    module _ {before decls : List ℕ} {m : ℕ}
        (found : (text values : List ℕ) (n : ℕ) (v : Described text records values n) → Found v.tokens (declaration_list v.description) before decls m) where
      abbrev pub lists : (v : Described text old values n) → Lists records decls v.tokens (declaration_list v.description)
      lists v = record {
        table = record { text = text; values = values; holds = holds_kept kept v.holds; spelled = spelled (tabled v) };
        outer = outer_stands v.description v.tokens v.reads;
        hold = (found text values n (described v)).hold;
      }

      pub to_mean : Described text old values n
          → ((ts : Tokens) × (list : List Declaration) × Lists records decls ts list × (m ≡ length list) × (n ≡ length ts))
      to_mean v = (v.tokens, declaration_list v.description, lists v, (found text values n (described v)).count, v.count)

      -- the names have their meanings
      module _ {now : List ℕ} (only : InsideOnly records now)
          (means : (ts : Tokens) (list : List Declaration) → Lists records decls ts list → m ≡ length list → n ≡ length ts → MeantTo now ts (word_at ts 0) list n) where
        pub all_mean : (v : Described text old values n)
            → MeaningHolds now v.tokens (outer_name v.description).word (map declared_of (declaration_list v.description))
        all_mean v =
            let m = means v.tokens (declaration_list v.description) (lists v) (found text values n (described v)).count v.count in
            rw (sym (outer_reads v.description v.tokens v.reads)) record { means = λ i l q. m.means i (omega (arith, v.count)) record { within = l; kind = q } }

        abbrev pub listed : Described text old values n → Listed text now values decls m
        listed v = record {
          tokens = v.tokens;
          holds = holds_kept only.kept (holds_kept kept v.holds);
          description = v.description;
          reads = v.reads;
          hold = (found text values n (described v)).hold;
          count = (found text values n (described v)).count;
          increasing = (found text values n (described v)).increasing;
          means = all_mean v;
        }

        module _ {k : ℕ} (judged : (v : Listed text now values decls m) → k ≡ least_key (faults30 (outer_of v) (table_of v))) where
          module _ (v : Described text old values n) where
            small : Smalls (faults30 (outer_name v.description).word (declarations v.description))
            small = rw (all_declared v.description) (faults_small (outer_of (listed v)) (table_of (listed v)) (all_within (listed v)))

            key_is : k ≡ least_key (faults30 (outer_name v.description).word (declarations v.description))
            key_is = rw (all_declared v.description) (judged (listed v))

          pub refused : {number place : ℕ} → (k ≡ no_key → ⊥) → (number ≡ k % 128) × (place ≡ k / 128) → (v : Described text old values n) → nest v.description ≤ deepest
              → Least v.description number place
          refused f e v _ = rw (e.0, e.1) record { is = place_first _ k (small v) (key_is v) f; near = place_near _ k (small v) (key_is v) f }

          pub ready : k ≡ no_key → (v : Described text old values n) → nest v.description ≤ deepest
              → ReadySpelled text now values decls v.tokens v.description m
          ready z v shallow =
              let d = v.description in
              let l = listed v in
              let lawful = no_fault by_place (faults30 (outer_name d).word (declarations d)) (small v) (sym (key_is v) ∙ z) in
              record {
                ready = record {
                  holds = l.holds;
                  stands = v.reads;
                  shallow = shallow;
                  declared = l.hold;
                  count = l.count;
                  few = omega (arith, lawful_count (outer_name d).word (declarations d) lawful, l.count, ap length (all_declared d), length-map (declaration_list d) declared_of);
                  means = rw (all_declared d) l.means;
                  lawful = lawful;
                };
                spelled = spelled_still only (spelled (tabled v));
              }
