-- A text that is read leaves a table that is ready.
-- Assumes nothing.
use Prim.Native.Nat.{ℕ}
use mathlib.Core.Path.{◌≡◌, subst}
use mathlib.Core.List.{List}
use Rattle.rules.specs.Grammar.Trees.{Tokens, Description}
use Rattle.rules.specs.Text.Scan.{scan}
use Rattle.table.specs.Ready.{Ready}
use Rattle.reader.specs.Read.{Reads}
use Rattle.reader.specs.declared.declaring.Standing.{Standing}
use Rattle.std.specs.Prelude.{Result, Ok}
use Rattle.rules.specs.declared.refusals.Refusal.{Refusal}

pub ready_there : (text records values decls : List ℕ) {r : Result Standing Refusal} {s : Standing} → r ≡ Ok s → Reads text records values decls r
    → (ts : Tokens) × (d : Description) × Ready text records values decls ts d s.declarations
ready_there text records values decls e h =
    let r = subst (Reads text records values decls) e h in
    ((scan text).tokens, r.description, r.ready)
