-- What the passes up to the declarations come to: a refusal that Check may give, or a table that is ready for the bodies.
use Rattle.std.specs.Prelude.{ℕ, List, Result, Ok, Err}
use Rattle.accepted.specs.Accepted.{Declares}
use Rattle.reader.specs.Parsed.{Refuses}
use Rattle.reader.specs.declared.declaring.Standing.{Standing}
use Rattle.rules.specs.declared.refusals.Refusal.{Refusal}

abbrev pub Reads : List ℕ → List ℕ → List ℕ → List ℕ → Result Standing Refusal → Type 0
Reads text records values decls (Err r) = Refuses text r.number r.place
Reads text records values decls (Ok s) = Declares text records values decls s.declarations s.tokens
