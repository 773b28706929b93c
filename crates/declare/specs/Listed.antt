-- The declarations of a description in a table, listed by the numbers of their names, when the names have their meanings.
use Rattle.std.specs.Prelude.{ℕ, ◌≡◌, false, List, [], ◌∷◌, map, length, take}
use Rattle.std.proofs.Math.Option.{some}
use Rattle.std.proofs.Math.ListN.{get_elem?}
use Rattle.rules.specs.Grammar.Trees.{Tokens, Declaration, Description, flatten}
use Rattle.rules.specs.Declarations.{Word, Declared, Table, declared_of, outer_name}
use Rattle.rules.specs.Faults.Declared.{large_words}
use Rattle.records.specs.Holds.{Holds}
use Rattle.table.specs.Declarations.{declaration_list}
use Rattle.table.specs.Lookups.{DeclsHold}
use Rattle.table.specs.Meaning.{MeaningHolds}
use Rattle.table.specs.Views.{View}
use Rattle.declare.specs.Finding.{Increasing}
use Rattle.declare.specs.Faults.{known_behind}

pub record Listed (text records values decls : List ℕ) (m : ℕ) : Type 0 where
  pub tokens : Tokens
  pub holds : Holds text records values tokens
  pub description : Description
  pub reads : flatten description ≡ tokens
  pub hold : DeclsHold decls tokens (declaration_list description)
  pub count : m ≡ length (declaration_list description)
  pub increasing : Increasing decls m
  pub means : MeaningHolds records tokens (outer_name description).word (map declared_of (declaration_list description))

module _ {text records values decls : List ℕ} {m : ℕ} (v : Listed text records values decls m) where
  abbrev pub outer_of : Word
  outer_of = (outer_name v.description).word

  abbrev pub table_of : Table
  table_of = map declared_of (declaration_list v.description)

  -- the names before the k-th
  abbrev pub known_of : ℕ → List Word
  known_of k = known_behind (outer_of ∷ []) (take k table_of)

-- the k-th of them
pub record Chosen (text records values decls : List ℕ) (m k : ℕ) : Type 0 where
  pub listed : Listed text records values decls m
  pub declaration : Declaration
  pub found : get_elem? (declaration_list listed.description) k ≡ some declaration

abbrev pub chosen_of : {text records values decls : List ℕ} {m k : ℕ} → Chosen text records values decls m k → Declared
chosen_of v = declared_of v.declaration

-- a declaration whose names of words are small
pub record SmallView (records values : List ℕ) (p : ℕ) : Type 0 where
  pub view : View records values p
  pub small : large_words (declared_of view.declaration).words ≡ false
