-- The code of a table whose bodies stand at given tokens.
use Rattle.std.specs.Prelude.{ℕ, suc, List, [], ◌∷◌, ◌++◌}
use Rattle.std.proofs.Math.Option.{Option, none, some}
use Rattle.std.proofs.Math.ListN.{get_elem?}
use Rattle.rules.specs.Grammar.Trees.{Action}
use Rattle.rules.specs.Declarations.{Word, Declared, Table, number_of}
use Rattle.laws_orders.specs.Cited.Flat.{exit, Code, outer, bind}
use Rattle.laws_code.specs.Cited.Code.{Numbered, first_of, code_at}
use Rattle.laws_code.specs.Cited.Numbers.{fetch}

-- a body whose BEGIN is token i; its own name is its outermost label
abbrev pub body_code : Word → ℕ → Option Action → List Numbered
body_code n i none = []
body_code n i (some a) = code_at (bind n (first_of i a) exit outer) i exit a

-- the bodies of a table, where declaration number i has its body at token `starts i`
unfoldable pub table_code : (ℕ → ℕ) → Table → List Numbered
table_code starts [] = []
table_code starts (d ∷ ds) = body_code d.name.word (starts 0) d.body ++ table_code (λ i. starts (suc i)) ds

-- where the body of a name begins; a body that is not there is a number that no token has
module _ (ds : Table) (starts : ℕ → ℕ) (nowhere : ℕ) where
  abbrev pub first_in : ℕ → Option Action → ℕ
  first_in i none = nowhere
  first_in i (some a) = first_of i a

  abbrev pub first_at : ℕ → Option Declared → ℕ
  first_at i none = nowhere
  first_at i (some d) = first_in i d.body

  abbrev pub first_number : Option ℕ → ℕ
  first_number none = nowhere
  first_number (some i) = first_at (starts i) (get_elem? ds i)

  abbrev pub code_of : Code
  code_of = record { instr = fetch (table_code starts ds); first = λ n. first_number (number_of ds n) }
