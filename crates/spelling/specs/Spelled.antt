-- How names are spelled: each name's link has the number of a name with the same word, one for all names of that word. So words are compared as numbers.
use Rattle.std.specs.Prelude.{ℕ, ◌*◌, ◌≤◌, ◌≡◌, Bool, List, eqb, length}
use Rattle.rules.specs.Text.Scan.{same_bytes}
use Rattle.rules.specs.Grammar.Trees.{Tokens}
use Rattle.records.specs.Holds.{link_cell}
use Rattle.records.specs.Words.{NameAt, word_at}

pub record Spelled (records : List ℕ) (ts : Tokens) : Type 0 where
  pub name : (i : ℕ) → NameAt ts i → NameAt ts (link_cell records i)
  pub word : (i : ℕ) → NameAt ts i → word_at ts (link_cell records i) ≡ word_at ts i
  pub same : (i j : ℕ) → NameAt ts i → NameAt ts j → eqb (link_cell records i) (link_cell records j) ≡ same_bytes (word_at ts i) (word_at ts j)

-- names are the tokens i and j of a table in which names are spelled
pub record TwoSpelled (records : List ℕ) (i j : ℕ) : Type 0 where
  pub tokens : Tokens
  pub room : 8 * length tokens ≤ length records
  pub spelled : Spelled records tokens
  pub first : NameAt tokens i
  pub second : NameAt tokens j

abbrev pub spelled_alike : {records : List ℕ} {i j : ℕ} → TwoSpelled records i j → Bool
spelled_alike {records} {i} {j} v = same_bytes (word_at v.tokens i) (word_at v.tokens j)
