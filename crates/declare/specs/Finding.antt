-- Where the declarations of a description stand in a table.
use Rattle.std.specs.Prelude.{ℕ, ◌-◌, ◌*◌, ◌<◌, ◌≡◌, List, [], length, drop}
use Rattle.cells.specs.Cells.{cell}
use Rattle.rules.specs.Text.Tokens.{MAIN}
use Rattle.rules.specs.Grammar.Trees.{Tokens, Heading, heading_tokens, Declaration, declaration_tokens, Declarations, declarations_tokens, Description, flatten}
use Rattle.records.specs.Holds.{token_at, Holds}
use Rattle.table.specs.Declarations.{name_tokens, LedBy}
use Rattle.table.specs.Lookups.{DeclsHold}

-- a description stands in a table of n tokens
pub record Described (text records values : List ℕ) (n : ℕ) : Type 0 where
  pub tokens : Tokens
  pub holds : Holds text records values tokens
  pub count : n ≡ length tokens
  pub description : Description
  pub reads : flatten description ≡ tokens

-- a declaration begins with the token i, perhaps with a heading or MAIN, and others follow
pub record Begins (ts : Tokens) (i : ℕ) (h : Heading) (d : Declaration) (ds : Declarations) : Type 0 where
  pub past : 2 < i
  pub led : (token_at ts (i - 1)).kind ≡ MAIN → ⊥
  pub reads : drop i ts ≡ heading_tokens h (declaration_tokens d (declarations_tokens ds []))

-- its name is the token p
pub record Named (ts : Tokens) (p : ℕ) (d : Declaration) (ds : Declarations) : Type 0 where
  pub past : 2 < p
  pub led : LedBy (token_at ts (p - 1)) d
  pub reads : drop p ts ≡ name_tokens d (declarations_tokens ds [])

-- behind it the others stand from the token e on
pub record Follow (ts : Tokens) (e : ℕ) (ds : Declarations) : Type 0 where
  pub reads : drop e ts ≡ declarations_tokens ds []

-- so it is in a table
pub record Beginning (records : List ℕ) (i : ℕ) : Type 0 where
  pub text : List ℕ
  pub values : List ℕ
  pub tokens : Tokens
  pub holds : Holds text records values tokens
  pub heading : Heading
  pub declaration : Declaration
  pub following : Declarations
  pub begins : Begins tokens i heading declaration following

pub record Naming (records : List ℕ) (p : ℕ) : Type 0 where
  pub text : List ℕ
  pub values : List ℕ
  pub tokens : Tokens
  pub holds : Holds text records values tokens
  pub declaration : Declaration
  pub following : Declarations
  pub named : Named tokens p declaration following

-- the first m cells increase
pub record Increasing (decls : List ℕ) (m : ℕ) : Type 0 where
  pub rises : (j k : ℕ) → j < k → k < m → cell 2 decls j < cell 2 decls k

-- the m declarations of a list are found, in their order, and nothing else is written
pub record Found (ts : Tokens) (list : List Declaration) (before after : List ℕ) (m : ℕ) : Type 0 where
  pub count : m ≡ length list
  pub hold : DeclsHold after ts list
  pub increasing : Increasing after m
  pub beyond : drop (2 * m) after ≡ drop (2 * m) before
