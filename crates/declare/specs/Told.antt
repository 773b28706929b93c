-- What `declare` answers, as document 01 has it.
use Rattle.std.specs.Prelude.{ℕ, ◌≤◌, ◌≡◌, List, Result, Ok, Err}
use Rattle.std.proofs.Math.Option.{some}
use Rattle.rules.specs.Limits.{longest_text}
use Rattle.rules.specs.Grammar.Trees.{Tokens, Description}
use Rattle.rules.specs.Declarations.{declarations, outer_name}
use Rattle.rules.specs.Faults.Fault.{fault, by_place_of, least}
use Rattle.rules.specs.Faults.Declared.{faults30}
use Rattle.table.specs.Ready.{Ready}
use Rattle.spelling.specs.Spelled.{Spelled}
use Rattle.rules.specs.declared.refusals.Refusal.{Refusal}

-- the least fault of the 30s
pub record Least (d : Description) (number place : ℕ) : Type 0 where
  pub is : least by_place_of (faults30 (outer_name d).word (declarations d)) ≡ some (fault number place)
  pub near : place ≤ longest_text

-- the table is ready with m declarations, and its names are spelled
pub record ReadySpelled (text records values decls : List ℕ) (ts : Tokens) (d : Description) (m : ℕ) : Type 0 where
  pub ready : Ready text records values decls ts d m
  pub spelled : Spelled records ts

-- no fault; or the least fault
abbrev pub Told : List ℕ → List ℕ → List ℕ → List ℕ → Tokens → Description → Result ℕ Refusal → Type 0
Told text records values decls ts d (Ok m) = ReadySpelled text records values decls ts d m
Told text records values decls ts d (Err r) = Least d r.number r.place
