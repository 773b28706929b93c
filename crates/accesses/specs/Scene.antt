-- The tables of an accepted declaration part, and the answer for what stands in them at a token.
use Rattle.std.specs.Prelude.{ℕ, ◌<◌, ◌≡◌, List, drop}
use Rattle.rules.specs.Grammar.Trees.{Tokens, Description}
use Rattle.rules.specs.Declarations.{Word, Table, declarations, outer_name}
use Rattle.rules.specs.Faults.Bodies.{Judged}
use Rattle.table.specs.Ready.{Ready}
use Rattle.weighing.specs.Weights.{Weighs}
use Rattle.accesses.specs.declared.Judged.{Judged as Answer}

-- a description whose declarations are passed
pub record Scene (records values decls : List ℕ) : Type 0 where
  pub text : List ℕ
  pub tokens : Tokens
  pub description : Description
  pub count : ℕ
  pub ready : Ready text records values decls tokens description count

abbrev pub outer_of : {records values decls : List ℕ} → Scene records values decls → Word
outer_of s = (outer_name s.description).word

abbrev pub table_of : {records values decls : List ℕ} → Scene records values decls → Table
table_of s = declarations s.description

-- the answer for what is judged j and stands from i on, with `rest` behind it
pub record Answers (tokens rest : Tokens) (i : ℕ) (j : Judged) (r : Answer) : Type 0 where
  pub weighs : Weighs r.key r.bits j
  pub past : i < r.next
  pub behind : drop r.next tokens ≡ rest
