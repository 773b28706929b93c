-- The k-th of listed declarations: where its name stands, and whether its word is one of those before it.
-- Assumes nothing.
use Prim.Native.Nat.{ℕ, zero, suc, ◌+◌, ◌*◌, ◌<◌, ◌≤◌}
use mathlib.Core.Path.{◌≡◌, refl, sym, ap, ◌∙◌}
use mathlib.Core.Bool.{Bool, true, false, ◌||◌, or-true, or-false}
use mathlib.Core.List.{List, [], ◌∷◌}
use mathlib.Core.Option.{Option, none, some, none-ne-some, some-injective}
use native.Mathlib.Omega.{arith}
use borrow.Author.Tests.{lt-ltb, le-ltb}
use lib.Dec.{ltb}
use lib.ListN.{length, take}
use Rattle.cells.specs.Cells.{cell}
use Rattle.rules.specs.Text.Tokens.{Name, Token, tk}
use Rattle.rules.specs.Text.Scan.{same_bytes}
use Rattle.rules.specs.Grammar.Trees.{Tokens, Declaration, Description, description, flatten}
use Rattle.rules.specs.Declarations.{Word, Table, outer_name, number_from, number_of}
use Rattle.rules.specs.Faults.Declared.{is_known}
use Rattle.rules.specs.Limits.{most_tokens}
use Rattle.records.specs.Holds.{token_at, inside_cell}
use Rattle.table.specs.Declarations.{DeclaredAt, declaration_list}
use Rattle.records.specs.Words.{NameAt, word_at, TwoNames, same_words}
use Rattle.table.specs.Views.{View}
use Rattle.table.specs.Laws.Views.{name_token}
use Rattle.table.specs.Meaning.{outer_only, unknown_name, meaning_by, meaning_of}
use Rattle.declare.specs.Faults.{known_behind}
use Rattle.declare.specs.Listed.{Listed, outer_of, table_of, known_of, Chosen, chosen_of}
use Rattle.declare.proofs.Gathering.{element_within}

-- the first token is the outer name
first_token : (x : Description) (ts : Tokens) → flatten x ≡ ts → token_at ts 0 ≡ tk Name (outer_name x)
first_token (description n e b h d ds) ts r = ap (λ (l : Tokens). token_at l 0) (sym r)

some_token : (x : Description) (ts : Tokens) → flatten x ≡ ts → 0 < length ts
some_token (description n e b h d ds) ts r = omega (arith, ap length r)

module _ (x : Description) (ts : Tokens) (reads : flatten x ≡ ts) where
  pub outer_stands : NameAt ts 0
  outer_stands = record { within = some_token x ts reads; kind = ap (λ (t : Token). t.kind) (first_token x ts reads) }

  pub outer_reads : word_at ts 0 ≡ (outer_name x).word
  outer_reads = ap (λ (t : Token). t.info.word) (first_token x ts reads)

module _ {text records values decls : List ℕ} {m : ℕ} (v : Listed text records values decls m) where
  pub outer_word : word_at v.tokens 0 ≡ outer_of v
  outer_word = outer_reads v.description v.tokens v.reads

  abbrev pub outer_and : {i : ℕ} → NameAt v.tokens i → TwoNames text records 0 i
  outer_and n = record { values = values; tokens = v.tokens; holds = v.holds; first = outer_stands v.description v.tokens v.reads; second = n }

-- a name is known behind declarations if one of them has it, or if it was known before
abbrev found : Option ℕ → Bool
found none = false
found (some i) = true

known_found : (n : Word) (i : ℕ) (known : List Word) (ds : Table) → is_known n (known_behind known ds) ≡ (found (number_from i n ds) || is_known n known)
unfolding known_behind number_from is_known
known_found n i known [] = refl
known_found n i known (d ∷ ds) = known_found n (suc i) (d.name.word ∷ known) ds ∙ by (same_bytes d.name.word n)
  where
    by : (b : Bool) → (found (number_from (suc i) n ds) || (b || is_known n known))
        ≡ (found (elim b [ true ↦ some i | false ↦ number_from (suc i) n ds ]) || is_known n known)
    by true = or-true (found (number_from (suc i) n ds))
    by false = refl

pub number_below : (n : Word) (i j : ℕ) (ds : Table) → number_from i n ds ≡ some j → j < i + length ds
unfolding number_from
number_below n i j [] e = absurd (none-ne-some j e)
number_below n i j (d ∷ ds) e = by (same_bytes d.name.word n) e (number_below n (suc i) j ds)
  where
    by : (b : Bool) → elim b [ true ↦ some i | false ↦ number_from (suc i) n ds ] ≡ some j → (number_from (suc i) n ds ≡ some j → j < suc i + length ds)
        → j < i + suc (length ds)
    by true q f = let z : i ≡ j = some-injective i j q in omega arith
    by false q f = omega (arith, f q)

number_above : (n : Word) (i j : ℕ) (ds : Table) → number_from i n ds ≡ some j → i ≤ j
unfolding number_from
number_above n i j [] e = absurd (none-ne-some j e)
number_above n i j (d ∷ ds) e = by (same_bytes d.name.word n) e (number_above n (suc i) j ds)
  where
    by : (b : Bool) → elim b [ true ↦ some i | false ↦ number_from (suc i) n ds ] ≡ some j → (number_from (suc i) n ds ≡ some j → suc i ≤ j) → i ≤ j
    by true q f = let z : i ≡ j = some-injective i j q in omega arith
    by false q f = omega (arith, f q)

-- a number below k
abbrev found_below_of : ℕ → Option ℕ → Bool
found_below_of k none = false
found_below_of k (some j) = ltb j k

none_below : (k : ℕ) (o : Option ℕ) → ((j : ℕ) → o ≡ some j → k ≤ j) → found_below_of k o ≡ false
none_below k none h = refl
none_below k (some j) h = le-ltb j k (h j refl)

-- what is found among the first k is found below k
found_below : (n : Word) (i k : ℕ) (ds : Table) → found (number_from i n (take k ds)) ≡ found_below_of (i + k) (number_from i n ds)
unfolding number_from
found_below n i zero [] = refl
found_below n i (suc k) [] = refl
found_below n i zero (d ∷ ds) = sym (none_below (i + 0) (number_from i n (d ∷ ds)) (λ j e. omega (arith, number_above n i j (d ∷ ds) e)))
found_below n i (suc k) (d ∷ ds) = by (same_bytes d.name.word n) (found_below n (suc i) k ds)
  where
    by : (b : Bool) → found (number_from (suc i) n (take k ds)) ≡ found_below_of (suc i + k) (number_from (suc i) n ds)
        → found (elim b [ true ↦ some i | false ↦ number_from (suc i) n (take k ds) ]) ≡ found_below_of (i + suc k) (elim b [ true ↦ some i | false ↦ number_from (suc i) n ds ])
    by true h = sym (lt-ltb i (i + suc k) (omega arith))
    by false h = h ∙ ap (λ (x : ℕ). found_below_of x (number_from (suc i) n ds)) (omega arith)

-- a meaning below k is that of a declaration
meaning_below : (k : ℕ) (o : Option ℕ) (b : Bool) → k ≤ most_tokens → ltb (meaning_by o b) k ≡ found_below_of k o
meaning_below k (some j) b h = refl
meaning_below k none true h = le-ltb outer_only k (omega arith)
meaning_below k none false h = le-ltb unknown_name k (omega arith)

module _ {text records values decls : List ℕ} {m k : ℕ} (v : Chosen text records values decls m k) where
  list : List Declaration
  list = declaration_list v.listed.description

  pub chosen_within : k < m
  unfolding list
  chosen_within = omega (arith, element_within list k v.declaration v.found, v.listed.count)

  pub chosen_room : 2 * k + 2 ≤ length decls
  unfolding list
  chosen_room = omega (arith, chosen_within, v.listed.count, v.listed.hold.room)

  module _ {p : ℕ} (e : p ≡ cell 2 decls k) where
    pub chosen_stands : DeclaredAt v.listed.tokens p v.declaration
    chosen_stands = rw e (v.listed.hold.each k v.declaration v.found)

    abbrev pub chosen_view : View records values p
    chosen_view = record { text = text; tokens = v.listed.tokens; holds = v.listed.holds; declaration = v.declaration; stands = chosen_stands }

    pub name_at : NameAt v.listed.tokens p
    name_at = let n = name_token chosen_stands in record { within = n.0; kind = ap (λ (t : Token). t.kind) n.1 }

    word_at_lem : word_at v.listed.tokens p ≡ (chosen_of v).name.word
    word_at_lem = ap (λ (t : Token). t.info.word) (name_token chosen_stands).1

    abbrev pub chosen_two : TwoNames text records 0 p
    chosen_two = outer_and v.listed name_at

    pub chosen_record : 8 * p + 8 ≤ length records
    chosen_record = omega (arith, name_at.within, v.listed.holds.record_room)

    -- the meaning of the name, against those before it
    before_found : ltb (inside_cell records p) k ≡ found (number_from 0 (chosen_of v).name.word (take k (table_of v.listed)))
    unfolding meaning_of number_of
    before_found =
        let n = (chosen_of v).name.word in
        let all = table_of v.listed in
        let means : inside_cell records p ≡ meaning_of (outer_of v.listed) all n
        = v.listed.means.means p name_at.within name_at.kind ∙ ap (meaning_of (outer_of v.listed) all) word_at_lem in
        ap (λ (x : ℕ). ltb x k) means
        ∙ meaning_below k (number_from 0 n all) (same_bytes (outer_of v.listed) n) (omega (arith, chosen_within, v.listed.count, v.listed.hold.few))
        ∙ (ap (λ (x : ℕ). found_below_of x (number_from 0 n all)) (omega arith) ∙ sym (found_below n 0 k all))

    known_is : is_known (chosen_of v).name.word (known_of v.listed k) ≡ (ltb (inside_cell records p) k || same_words chosen_two)
    unfolding is_known
    known_is =
        known_found (chosen_of v).name.word 0 (outer_of v.listed ∷ []) (take k (table_of v.listed))
        ∙ ap (λ (b : Bool). b || (same_bytes (outer_of v.listed) (chosen_of v).name.word || false)) (sym before_found)
        ∙ ap (λ (b : Bool). ltb (inside_cell records p) k || b)
        (or-false (same_bytes (outer_of v.listed) (chosen_of v).name.word)
        ∙ ap (λ (w : Word). same_bytes w (chosen_of v).name.word) (sym (outer_word v.listed))
        ∙ ap (same_bytes (word_at v.listed.tokens 0)) (sym word_at_lem))

-- what `declared_before` finds
module _ (text records decls : List ℕ) (k p : ℕ) (e : p ≡ cell 2 decls k) {a : Bool} (outer : (w : TwoNames text records 0 p) → a ≡ same_words w) where
  pub outer_has_it : a ≡ true → (values : List ℕ) (m : ℕ) (v : Chosen text records values decls m k)
      → a ≡ is_known (chosen_of v).name.word (known_of v.listed k)
  outer_has_it y values m v = y ∙ rw (known_is v e, sym (outer (chosen_two v e)) ∙ y) (sym (or-true (ltb (inside_cell records p) k)))

  pub another_has_it : {r : ℕ} → a ≡ false → r ≡ inside_cell records p → (values : List ℕ) (m : ℕ)
      (v : Chosen text records values decls m k) → ltb r k ≡ is_known (chosen_of v).name.word (known_of v.listed k)
  another_has_it y f values m v =
      rw (known_is v e, sym (outer (chosen_two v e)) ∙ y) (ap (λ (x : ℕ). ltb x k) f ∙ sym (or-false (ltb (inside_cell records p) k)))
