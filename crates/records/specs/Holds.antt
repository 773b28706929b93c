-- The token table: for each token a record of 8 bytes and a cell of 8 bytes for its value. A record has its kind's number, its size, its place in two
-- bytes, and two bytes each that lead inside (from a name to its declaration, from an instruction into it) and behind: a link.
use Rattle.std.specs.Prelude.{ℕ, ◌+◌, ◌*◌, ◌^◌, ◌<◌, ◌≤◌, ◌≡◌, List, [], map, length, get_or, take, drop}
use Rattle.cells.specs.Cells.{le_at}
use Rattle.rules.specs.Text.Bytes.{fold}
use Rattle.rules.specs.Text.Tokens.{Name, Const, Masked, kind_no, Info, Token, tk}
use Rattle.rules.specs.Text.Scan.{plain_info}
use Rattle.rules.specs.Limits.{longest_text, most_tokens}
use Rattle.rules.specs.Grammar.Trees.{Tokens}

-- a number that no kind has, nor will have
abbrev pub no_kind : ℕ
no_kind = 255

abbrev pub kind_byte : List ℕ → ℕ → ℕ
kind_byte records i = get_or records (8 * i) 0

abbrev pub size_byte : List ℕ → ℕ → ℕ
size_byte records i = get_or records (8 * i + 1) 0

abbrev pub place_cell : List ℕ → ℕ → ℕ
place_cell records i = le_at 2 records (8 * i + 2)

abbrev pub inside_cell : List ℕ → ℕ → ℕ
inside_cell records i = le_at 2 records (8 * i + 4)

abbrev pub link_cell : List ℕ → ℕ → ℕ
link_cell records i = le_at 2 records (8 * i + 6)

abbrev pub value_cell_of : List ℕ → ℕ → ℕ
value_cell_of values i = le_at 8 values (8 * i)

-- the token i; past the end a blank one
abbrev pub token_at : Tokens → ℕ → Token
token_at ts i = get_or ts i (tk Name (plain_info 0))

-- a word's length in bytes, a constant's in bits, 0 for a mark
abbrev pub size_of : Info → ℕ
size_of i = length i.word + i.bits

-- n bytes of a text from p on, with letters folded
abbrev pub folded_at : List ℕ → ℕ → ℕ → List ℕ
folded_at text p n = map fold (take n (drop p text))

-- a name's word stands in the text
pub record WordHolds (text : List ℕ) (x : Info) : Type 0 where
  pub folded : x.word ≡ folded_at text x.place (size_of x)
  pub inside : x.place + size_of x ≤ length text

-- a constant's value stands in the cell i
pub record ValueHolds (values : List ℕ) (i : ℕ) (x : Info) : Type 0 where
  pub value : value_cell_of values i ≡ x.value
  pub fits : x.value < 2 ^ 64
  pub some_bits : 1 ≤ x.bits
  pub few_bits : x.bits ≤ 64
  pub wordless : x.word ≡ []

-- What the table has for the token i. The bits that the `?` of a constant leave free stand in the next cell, unless that is a constant's own.
pub record Entry (text records values : List ℕ) (ts : Tokens) (i : ℕ) : Type 0 where
  pub kind : kind_byte records i ≡ kind_no (token_at ts i).kind
  pub size : size_byte records i ≡ size_of (token_at ts i).info
  pub small : size_of (token_at ts i).info ≤ 64
  pub place : place_cell records i ≡ (token_at ts i).info.place
  pub inside : (token_at ts i).info.place < length text
  pub word : (token_at ts i).kind ≡ Name → WordHolds text (token_at ts i).info
  pub constant : (token_at ts i).kind ≡ Const → ValueHolds values i (token_at ts i).info
  pub masked : (token_at ts i).kind ≡ Masked → ValueHolds values i (token_at ts i).info
  pub free_fits : (token_at ts i).kind ≡ Masked → (token_at ts i).info.value + (token_at ts i).info.free < 2 ^ 64
  pub free : (token_at ts i).kind ≡ Masked → i + 1 < length ts → ((token_at ts (i + 1)).kind ≡ Const → ⊥) → ((token_at ts (i + 1)).kind ≡ Masked → ⊥)
      → value_cell_of values (i + 1) ≡ (token_at ts i).info.free

pub record Holds (text records values : List ℕ) (ts : Tokens) : Type 0 where
  pub short : length text ≤ longest_text
  pub few : length ts ≤ most_tokens
  pub record_room : 8 * length ts ≤ length records
  pub value_room : 8 * length ts ≤ length values
  pub entry : (i : ℕ) → i < length ts → Entry text records values ts i
  pub increasing : (i j : ℕ) → i < j → j < length ts → (token_at ts i).info.place < (token_at ts j).info.place

-- n tokens in the table of a text
pub record Tabled (text records : List ℕ) (n : ℕ) : Type 0 where
  pub values : List ℕ
  pub tokens : Tokens
  pub holds : Holds text records values tokens
  pub count : n ≡ length tokens
