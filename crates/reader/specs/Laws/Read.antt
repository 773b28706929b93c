-- Laws of the pass over the declarations: what it needs, and what it tells.
use Rattle.std.specs.Prelude.{ℕ, ◌≡◌, List, length, Result, Ok, Err}
use Rattle.std.proofs.Math.Path.{ap}
use Rattle.std.proofs.Common.{subst}
use Rattle.std.proofs.Math.Option.{some}
use Rattle.rules.specs.Text.Scan.{scan}
use Rattle.rules.specs.Grammar.Trees.{Description}
use Rattle.rules.specs.Declarations.{declarations, outer_name, total_words}
use Rattle.rules.specs.Faults.Fault.{fault, by_place_of, by_number_of, least}
use Rattle.rules.specs.Faults.Declared.{faults30}
use Rattle.rules.specs.Faults.Bodies.{faults40}
use Rattle.rules.specs.Faults.Whole.{faults50}
use Rattle.rules.specs.Answers.{accepted, refused, or_else, judgement, Checks, judged}
use Rattle.declare.specs.Finding.{Described}
use Rattle.declare.specs.Told.{Told}
use Rattle.rules.specs.declared.refusals.Refusal.{Refusal}
use Rattle.reader.specs.Parsed.{Stands}
use Rattle.reader.specs.declared.declaring.Standing.{Standing}
use Rattle.reader.specs.Read.{Reads}

abbrev pub standing_of : ℕ → Result ℕ Refusal → Result Standing Refusal
standing_of n (Err r) = Err r
standing_of n (Ok m) = Ok (record { declarations = m; tokens = n })

-- what stands is described
abbrev pub described : {text records values : List ℕ} {n : ℕ} → Stands text records values n → Described text records values n
described {text} s = record { tokens = (scan text).tokens; holds = s.holds; count = s.count; description = s.description; reads = s.reads }

-- a fault of the 30s is the judgement
module _ {text records values : List ℕ} {n : ℕ} (s : Stands text records values n) where
  verdict : Checks text (judgement s.description)
  verdict = judged s.description s.short s.readable s.reads s.shallow

  first_30 : (d : Description) (m p : ℕ) → least by_place_of (faults30 (outer_name d).word (declarations d)) ≡ some (fault m p) → judgement d ≡ refused m p
  unfolding judgement
  first_30 d m p e =
      let ds = declarations d in
      ap (λ o. or_else o (or_else (least by_place_of (faults40 (outer_name d).word ds ds)) (or_else (least by_number_of (faults50 ds)) (accepted (length ds) (total_words ds))))) e

  -- what the declarations' pass tells is what Check may answer, or the table is ready
  pub told : (records' decls : List ℕ) (q : Result ℕ Refusal) → Told text records' values decls (scan text).tokens s.description q
      → Reads text records' values decls (standing_of n q)
  told records' decls (Err r) h = record { checks = subst (Checks text) (first_30 s.description r.number r.place h.is) verdict; near = h.near }
  told records' decls (Ok m) h = record { description = s.description; reads = s.reads; verdict = verdict; ready = h.ready; spelled = h.spelled; count = s.count }
