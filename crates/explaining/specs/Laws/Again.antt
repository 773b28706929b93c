-- Laws of reading a sound text again, and of the race that it is refused for.
use Rattle.std.specs.Prelude.{ℕ, ◌+◌, ◌*◌, ◌<◌, ◌≤◌, min, ◌≡◌, refl, false, List, length, Result, Ok, Err}
use Rattle.std.proofs.Common.{sym, ap, ◌∙◌, arith}
use Rattle.std.proofs.Math.Option.{some, none-ne-some}
use Rattle.std.proofs.Math.Decide.{dec_lt}
use Rattle.rules.specs.Limits.{longest_text, deepest, longest_chain}
use Rattle.rules.specs.Text.Scan.{scan}
use Rattle.rules.specs.Grammar.Trees.{Description, flatten}
use Rattle.rules.specs.Declarations.{Word, Table, declarations}
use Rattle.rules.specs.Whole.Sets.{chain_over}
use Rattle.rules.specs.Faults.Fault.{fault, by_place_of, by_number_of, least}
use Rattle.rules.specs.Faults.Whole.{mains, chains, faults50}
use Rattle.rules.specs.Answers.{refused, Checks}
use Rattle.laws_grammar.specs.Cited.Nesting.{nest}
use Rattle.laws_grammar.specs.Grammar.Exact.{unique}
use Rattle.laws_grammar.specs.Grammar.Nesting.{shallow_nest}
use Rattle.laws_orders.proofs.Orders.Tests.{impossible}
use Rattle.text.specs.Table.{record_cells, value_cells, write_cells, ended_at, scanned_of}
use Rattle.rules.specs.declared.refusals.Refusal.{Refusal}
use Rattle.keys.specs.Keys.{no_key, number_key, least_number_key}
use Rattle.keys.specs.Laws.Keys.{by_number, least_key_lem, least_bounded}
use Rattle.declare.specs.Finding.{Described}
use Rattle.declare.specs.Told.{Told}
use Rattle.reading.specs.Reading.{Reading, table_of}
use Rattle.whole.specs.Written.{Written}
use Rattle.whole.specs.Laws.Between.{below, mains_are, chains_are, faults_small}
use Rattle.whole.specs.Laws.Whole.{short_chains, told_first}
use Rattle.reader.specs.Parsed.{Written as ScanWritten}
use Rattle.reader.specs.Laws.Parsed.{written_holds}
use Rattle.reader.specs.Laws.Read.{standing_of}
use Rattle.reasons.specs.Laws.Whole.{whole_refused}
use Rattle.explaining.specs.Again.{Sound, Rescanned, Reread, Rereads}

-- a text that is refused for its whole is sound
pub sound : {text : List ℕ} {m p : ℕ} → 50 ≤ m → Checks text (refused m p) → Sound text
sound h c =
    let w = whole_refused h refl c in
    record { description = w.description; readable = w.readable; stands = w.stands; shallow = w.shallow; passed = w.of30 }

-- its scan is fine
module _ {text : List ℕ} (d : Sound text) {s : Result ℕ Refusal} (is : s ≡ scanned_of (scan text)) where
  fine_scan : s ≡ Ok (length (scan text).tokens)
  fine_scan = is ∙ ap (ended_at (length (scan text).tokens)) d.readable

  pub no_refusal : {r : Refusal} → s ≡ Err r → ⊥
  no_refusal {r} e = let x : Err r ≡ Ok (length (scan text).tokens) = sym e ∙ fine_scan in impossible (cc)

  pub rescanned : (a b : List ℕ) {records values : List ℕ} {n : ℕ} → length text ≤ longest_text → 65536 ≤ length a → 65536 ≤ length b
      → records ≡ write_cells 8 a 0 (record_cells (scan text).tokens) → values ≡ write_cells 8 b 0 (value_cells 0 (scan text).tokens) → s ≡ Ok n
      → Rescanned text records values n
  rescanned a b {records} {values} {n} short room_a room_b is_a is_b e =
      let w : ScanWritten text records values = record { before_a = a; before_b = b; short = short; room_a = room_a; room_b = room_b; is_a = is_a; is_b = is_b } in
      let x : Ok n ≡ Ok (length (scan text).tokens) = sym e ∙ fine_scan in
      record { sound = d; holds = written_holds w; count = cc }

-- its declarations have no fault
module _ {text records values : List ℕ} {n : ℕ} (r : Rescanned text records values n) where
  abbrev pub described : Described text records values n
  described = record { tokens = (scan text).tokens; holds = r.holds; count = r.count; description = r.sound.description; reads = r.sound.stands }

  pub nested : nest r.sound.description ≤ deepest
  nested = shallow_nest r.sound.description r.sound.shallow

  pub redeclared : (records' decls : List ℕ) (q : Result ℕ Refusal) → Told text records' values decls (scan text).tokens r.sound.description q
      → Rereads text records' decls (standing_of n q)
  unfolding least
  redeclared records' decls (Err f) h =
      none-ne-some (fault f.number f.place) (ap (least by_place_of) (sym r.sound.passed) ∙ h.is)
  redeclared records' decls (Ok m) h =
      record {
        reading = record { text = text; values = values; tokens = (scan text).tokens; description = r.sound.description; ready = h.ready; count = r.count };
        stands = r.sound.stands;
      }

-- a text refused with 53, in the table
-- a description in the table that is refused with 53
pub record RacedAt (records decls : List ℕ) (m n place : ℕ) : Type 0 where
  pub reading : Reading records decls m n
  pub refused : least by_number_of (faults50 (table_of reading)) ≡ some (fault 53 place)

pub raced_at : {text records decls : List ℕ} {m n p : ℕ} → Checks text (refused 53 p) → (r : Reread text records decls m n) → RacedAt records decls m n p
raced_at c r =
    let w = whole_refused (omega arith) refl c in
    let same : w.description ≡ r.reading.description = unique w.description r.reading.description (w.stands ∙ sym r.stands) in
    record { reading = r.reading; refused = ap (λ (d : Description). least by_number_of (faults50 (declarations d))) (sym same) ∙ w.least_50 }

-- 50 and 51 are not refused where 53 is
module _ {records decls : List ℕ} {m n a b first : ℕ} (of50 : (v : Reading records decls m n) → a ≡ least_number_key (mains false (table_of v)))
    (of51 : (v : Reading records decls m n) → b ≡ least_number_key (chains (table_of v) (table_of v))) (is : first ≡ min a b) where
  pub no_chains : first ≡ no_key → (v : Reading records decls m n) (w : Word) → chain_over (table_of v) longest_chain w ≡ false
  no_chains e v w = short_chains of50 of51 is e v w

  pub not_before : {p : ℕ} → (first ≡ no_key → ⊥) → RacedAt records decls m n p → ⊥
  not_before {p} ne r =
      let v = r.reading in
      let x : Written v.text records decls m n = record { values = v.values; tokens = v.tokens; description = v.description; ready = v.ready; count = v.count } in
      let key : least_number_key (faults50 (table_of v)) ≡ number_key (fault 53 p) = least_key_lem by_number (faults50 (table_of v)) (fault 53 p) (faults_small v) r.refused in
      let e : first ≡ least_number_key (faults50 (table_of v)) = told_first of50 of51 is ne x in
      by (dec_lt a no_key) (of50 v) (of51 v) (e ∙ key)
    where
      by : Dec (a < no_key) → a ≡ least_number_key (mains false (table_of r.reading)) → b ≡ least_number_key (chains (table_of r.reading) (table_of r.reading))
          → first ≡ number_key (fault 53 p) → ⊥
      by (yes l) ea eb q =
          let s : least_number_key (mains false (table_of r.reading)) < 50 * 65536 + 65536 = below {low = 50} {high = 50} (λ z. omega (arith, ea)) (mains_are r.reading) in
          omega (arith, ea)
      by (no l) ea eb q =
          let z = least_bounded number_key (mains false (table_of r.reading)) in
          let s : least_number_key (chains (table_of r.reading) (table_of r.reading)) < 51 * 65536 + 65536 =
          below {low = 51} {high = 51} (λ y. ne (omega (arith, ea, eb))) (chains_are r.reading) in
          omega (arith, ea, eb, z)

-- for every description that stands in the text
pub for_all : {A : Type 0} (f : Table → A) {text records decls : List ℕ} {m n : ℕ} {said : A} (r : Reread text records decls m n) → said ≡ f (table_of r.reading)
    → (d : Description) → flatten d ≡ (scan text).tokens → said ≡ f (declarations d)
for_all f r e d s = e ∙ ap (λ (x : Description). f (declarations x)) (unique r.reading.description d (r.stands ∙ sym s))
