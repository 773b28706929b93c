-- What all passes come to: a refusal that Check may give, or a description without faults that stands in the table.
use Rattle.std.specs.Prelude.{ℕ, List, Result, Ok, Err}
use Rattle.accepted.specs.Accepted.{Accepts}
use Rattle.reader.specs.Parsed.{Refuses}
use Rattle.reader.specs.declared.judging.Accepted.{Accepted}
use Rattle.rules.specs.declared.refusals.Refusal.{Refusal}

pub data Judges (text records values decls : List ℕ) : Result Accepted Refusal → Type 0 where
  refuses : {r : Refusal} → Refuses text r.number r.place → Judges text records values decls (Err r)
  accepts : {a : Accepted} → Accepts text records values decls a.declarations a.words a.tokens → Judges text records values decls (Ok a)
