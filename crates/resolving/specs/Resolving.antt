-- How names take their meanings: the spelling of a word, which is the first name that has it, takes what the word means, and then every name takes it from there.
use Rattle.std.specs.Prelude.{ℕ, ◌<◌, ◌≡◌, List, map, drop}
use Rattle.rules.specs.Text.Scan.{same_bytes}
use Rattle.rules.specs.Grammar.Trees.{Tokens, Declaration}
use Rattle.rules.specs.Declarations.{Word, declared_of, number_from}
use Rattle.rules.specs.Limits.{most_tokens}
use Rattle.records.specs.Holds.{Holds, inside_cell, link_cell}
use Rattle.records.specs.Kept.{Kept}
use Rattle.table.specs.Lookups.{DeclsHold}
use Rattle.table.specs.Meaning.{unknown_name, meaning_by, meaning_of}
use Rattle.records.specs.Words.{NameAt, word_at}
use Rattle.spelling.specs.Spelled.{Spelled}

-- a table of tokens whose names are spelled
pub record SpelledIn (records : List ℕ) (ts : Tokens) : Type 0 where
  pub text : List ℕ
  pub values : List ℕ
  pub holds : Holds text records values ts
  pub spelled : Spelled records ts

-- behind the outer name declarations are listed
pub record Lists (records decls : List ℕ) (ts : Tokens) (list : List Declaration) : Type 0 where
  pub table : SpelledIn records ts
  pub outer : NameAt ts 0
  pub hold : DeclsHold decls ts list

-- nothing is written but inside cells
pub record InsideOnly (old now : List ℕ) : Type 0 where
  pub kept : Kept old now 0 most_tokens
  pub link : (t : ℕ) → link_cell now t ≡ link_cell old t

-- the tokens before n lead to no declaration
pub record Forgotten (records : List ℕ) (n : ℕ) : Type 0 where
  pub unknown : (t : ℕ) → t < n → inside_cell records t ≡ unknown_name

-- each spelling has what its word means by the declarations from the k-th on
pub record MarkedFrom (records : List ℕ) (ts : Tokens) (outer : Word) (list : List Declaration) (k : ℕ) : Type 0 where
  pub marked : (j : ℕ) → NameAt ts j
      → inside_cell records (link_cell records j) ≡ meaning_by (number_from k (word_at ts j) (map declared_of (drop k list))) (same_bytes outer (word_at ts j))

-- the names before the token i have their meanings
pub record MeantTo (records : List ℕ) (ts : Tokens) (outer : Word) (list : List Declaration) (i : ℕ) : Type 0 where
  pub means : (j : ℕ) → j < i → NameAt ts j → inside_cell records j ≡ meaning_of outer (map declared_of list) (word_at ts j)
