-- The buffers that a scan has written hold its tokens, as the reader sees the table.
use Prim.Native.Nat.{ℕ, zero, suc, ◌+◌, ◌*◌, ◌/◌, ◌%◌, ◌<◌, ◌≤◌}
use Rattle.std.specs.Prelude.{◌≡◌, refl, Bool, true, false, ◌||◌, eqb, length, get_or, set}
use Rattle.std.proofs.Common.{sym, ap, ◌∙◌, add-zero, add-one, eq-eqb, ne_eqb, length-set, get_or-set_same}
use mathlib.Core.List.{List, [], ◌∷◌, map}
use native.Mathlib.Omega.{arith}
use Rattle.std.proofs.lemmas.List.{length-map}
use Rattle.cells.specs.Cells.{le_at, put_at, put_cell}
use Rattle.cells.proofs.Laws.{length_put, get_or_put_below, cells_get}
use Rattle.laws_grammar.specs.Grammar.Kinds.{kind_at_kind_no}
use Rattle.rules.specs.Text.Tokens.{Kind, kind_no, Name, Const, Masked, Token, tk}
use Rattle.rules.specs.Text.Scan.{scan, plain_info}
use Rattle.rules.specs.Limits.{longest_text}
use Rattle.laws_grammar.specs.Cited.Kinds.{kind_at}
use Rattle.text.specs.Table.{record_of, record_cells, value_by, value_cells, write_cells}
use Rattle.text.specs.Laws.Writes.{length_written, before_written}
use Rattle.text.specs.Laws.Callers.{Stands, few_tokens, token_stands, places_rise, values_held}
use Rattle.records.specs.Holds.{place_cell, value_cell_of, token_at, size_of, ValueHolds, Entry, Holds}
use Rattle.reader.specs.Laws.Scanned.{Numbered, token_meant}

-- the bytes of a cell that was put, the lowest first
abbrev pub byte_of : ℕ → ℕ → ℕ
byte_of zero v = v % 256
byte_of (suc k) v = byte_of k (v / 256)

byte_put : (w : ℕ) (b : List ℕ) (o v k : ℕ) → k < w → o + w ≤ length b → get_or (put_at w b o v) (o + k) 0 ≡ byte_of k v
unfolding put_at
byte_put zero b o v k h room = absurd (omega arith)
byte_put (suc w) b o v zero h room =
    rw add-zero (get_or_put_below w (set b o (v % 256)) (o + 1) (v / 256) o (omega arith) ∙ get_or-set_same b o (v % 256) 0 (omega arith))
byte_put (suc w) b o v (suc k) h room =
    let next : o + suc k ≡ o + 1 + k = omega arith in
    rw next (byte_put w (set b o (v % 256)) (o + 1) (v / 256) k (omega arith) (rw length-set (omega arith)))

-- the byte k of the cell i among those written from the cell j on
byte_written : (vs b : List ℕ) (j i k : ℕ) → i < length vs → k < 8 → 8 * (j + length vs) ≤ length b
    → get_or (write_cells 8 b j vs) (8 * (j + i) + k) 0 ≡ byte_of k (get_or vs i 0)
unfolding write_cells
byte_written [] b j i k h l room = absurd (omega arith)
byte_written (v ∷ vs) b j zero k h l room =
    rw add-zero (before_written 8 (put_cell 8 b j v) (j + 1) vs (8 * j + k) (omega arith) ∙ byte_put 8 b (8 * j) v k l (omega arith))
byte_written (v ∷ vs) b j (suc i) k h l room =
    let next : j + suc i ≡ j + 1 + i = omega arith in
    rw next (byte_written vs (put_cell 8 b j v) (j + 1) i k (omega arith) l (rw length_put (omega arith)))

-- a record's parts are its bytes
module _ {high : ℕ} (t : Token) (is : Stands 0 high t) (short : high ≤ 32768) where
  kind_byte : byte_of 0 (record_of t) ≡ kind_no t.kind
  kind_byte = omega (arith, is.kind, is.size)

  size_byte : byte_of 1 (record_of t) ≡ size_of t.info
  size_byte = omega (arith, is.kind, is.size)

  place_bytes : byte_of 2 (record_of t) + 256 * byte_of 3 (record_of t) ≡ t.info.place
  place_bytes = omega (arith, is.kind, is.size, is.before)

-- the value cells: a constant's value, and behind a constant with `?` its free bits
abbrev is_constant : ℕ → Bool
is_constant k = eqb k 1 || eqb k 2

module _ (d : Token) where
  value_here : (ts : List Token) (before i : ℕ) → i < length ts → is_constant (kind_no (get_or ts i d).kind) ≡ true
      → get_or (value_cells before ts) i 0 ≡ (get_or ts i d).info.value
  unfolding value_cells value_by
  value_here [] before i h e = absurd (omega arith)
  value_here (t ∷ ts) before zero h e = rw (value_by, e)
  value_here (t ∷ ts) before (suc i) h e = value_here ts t.info.free i (omega arith) e

  before_first : (ts : List Token) (before : ℕ) → 0 < length ts → is_constant (kind_no (get_or ts 0 d).kind) ≡ false → get_or (value_cells before ts) 0 0 ≡ before
  unfolding value_cells value_by
  before_first [] before h e = absurd (omega arith)
  before_first (t ∷ ts) before h e = rw (value_by, e)

  free_behind : (ts : List Token) (before i : ℕ) → i + 1 < length ts → is_constant (kind_no (get_or ts (suc i) d).kind) ≡ false
      → get_or (value_cells before ts) (suc i) 0 ≡ (get_or ts i d).info.free
  unfolding value_cells
  free_behind [] before i h e = absurd (omega arith)
  free_behind (t ∷ ts) before zero h e = before_first ts t.info.free (omega arith) e
  free_behind (t ∷ ts) before (suc i) h e = free_behind ts t.info.free i (omega arith) e

is_1 : (k : ℕ) → k ≡ 1 → is_constant k ≡ true
is_1 k e = rw (eq-eqb k 1 e)

or_true : (a : Bool) → a || true ≡ true
or_true true = refl
or_true false = refl

is_2 : (k : ℕ) → k ≡ 2 → is_constant k ≡ true
is_2 k e = rw (eq-eqb k 2 e) (or_true (eqb k 1))

is_none : (k : Kind) → (k ≡ Const → ⊥) → (k ≡ Masked → ⊥) → is_constant (kind_no k) ≡ false
is_none k a b =
    rw (
      ne_eqb (kind_no k) 1 (λ e. a (sym (kind_at_kind_no k) ∙ ap kind_at e)),
      ne_eqb (kind_no k) 2 (λ e. b (sym (kind_at_kind_no k) ∙ ap kind_at e)),
    )

module _ (text a b : List ℕ) (short : length text ≤ longest_text) (room_a : 65536 ≤ length a) (room_b : 65536 ≤ length b) where
  abbrev ts : List Token
  ts = (scan text).tokens

  abbrev records : List ℕ
  records = write_cells 8 a 0 (record_cells ts)

  abbrev values : List ℕ
  values = write_cells 8 b 0 (value_cells 0 ts)

  cell_of : (i : ℕ) → i < length ts → get_or (record_cells ts) i 0 ≡ record_of (token_at ts i)
  cell_of i h = map_at ts i h
    where
      map_at : (l : List Token) (j : ℕ) → j < length l → get_or (map record_of l) j 0 ≡ record_of (token_at l j)
      map_at [] j q = absurd (omega arith)
      map_at (t ∷ l) zero q = refl
      map_at (t ∷ l) (suc j) q = map_at l j (omega arith)

  byte_at : (i k : ℕ) → i < length ts → k < 8 → get_or records (8 * i + k) 0 ≡ byte_of k (record_of (token_at ts i))
  byte_at i k h l =
      let start : 0 + i ≡ i = omega arith in
      rw start at
      (byte_written (record_cells ts) a 0 i k (rw length-map h) l (rw length-map (omega (arith, few_tokens text))) ∙ ap (byte_of k) (cell_of i h))

  value_cell : (i : ℕ) → i < length ts → value_cell_of values i ≡ get_or (value_cells 0 ts) i 0
  value_cell i h = sym (cells_get 8 (length ts) values i h) ∙ ap (λ l. get_or l i 0) (values_held text b room_b)

  place_at : (j : ℕ) → j < length ts → place_cell records j ≡ (token_at ts j).info.place
  unfolding le_at
  place_at j q =
      let third : 8 * j + 2 + 1 ≡ 8 * j + 3 = omega arith in
      rw third
      (omega (arith, byte_at j 2 q (omega arith), byte_at j 3 q (omega arith), place_bytes (token_at ts j) (token_stands text (tk Name (plain_info 0)) j q) short))

  holds : (j : ℕ) → j < length ts → Numbered (token_at ts j).info → is_constant (kind_no (token_at ts j).kind) ≡ true → ValueHolds values j (token_at ts j).info
  holds j q n e =
      record {
        value = value_cell j q ∙ value_here (tk Name (plain_info 0)) ts 0 j q e;
        fits = omega (arith, n.together);
        some_bits = n.some_bits;
        few_bits = n.few_bits;
        wordless = n.wordless;
      }

  free_at : (j : ℕ) → j + 1 < length ts → is_constant (kind_no (token_at ts (j + 1)).kind) ≡ false → value_cell_of values (j + 1) ≡ (token_at ts j).info.free
  free_at j q e = value_cell (j + 1) q ∙ rw add-one (free_behind (tk Name (plain_info 0)) ts 0 j q (rw add-one at e))

  entry : (i : ℕ) → i < length ts → Entry text records values ts i
  entry i h =
      let is = token_stands text (tk Name (plain_info 0)) i h in
      let meant = token_meant text (tk Name (plain_info 0)) i h in
      let first : 8 * i + 0 ≡ 8 * i = add-zero (8 * i) in
      record {
        kind = rw first at (byte_at i 0 h (omega arith) ∙ kind_byte (token_at ts i) is short);
        size = byte_at i 1 h (omega arith) ∙ size_byte (token_at ts i) is short;
        small = is.size;
        place = place_at i h;
        inside = is.before;
        word = meant.word;
        constant = λ e. holds i h (meant.constant (ap kind_no e)) (is_1 _ (ap kind_no e));
        masked = λ e. holds i h (meant.masked (ap kind_no e)) (is_2 _ (ap kind_no e));
        free_fits = λ e. (meant.masked (ap kind_no e)).together;
        free = λ e l x y. free_at i l (is_none _ x y);
      }

  -- TABLED: the scan's tokens stand in the table
  pub tabled : Holds text records values ts
  tabled =
      record {
        short = short;
        few = few_tokens text;
        record_room = rw length_written (omega (arith, few_tokens text));
        value_room = rw length_written (omega (arith, few_tokens text));
        entry = entry;
        increasing = λ i j l h. places_rise text (tk Name (plain_info 0)) i j l h;
      }
