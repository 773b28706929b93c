-- A refusal that Check may give has a number that is not 0.
use Rattle.std.specs.Prelude.{ℕ, ◌<◌, ◌≡◌, refl, List}
use Rattle.std.proofs.Common.{subst, arith}
use Rattle.std.proofs.Math.Option.{Option, none, some}
use Rattle.rules.specs.Grammar.Trees.{Description}
use Rattle.rules.specs.Declarations.{declarations, outer_name}
use Rattle.rules.specs.Faults.Fault.{Fault, by_place_of, by_number_of, least}
use Rattle.rules.specs.Faults.Declared.{faults30}
use Rattle.rules.specs.Faults.Bodies.{faults40}
use Rattle.rules.specs.Faults.Whole.{faults50}
use Rattle.rules.specs.Answers.{Verdict, accepted, refused, or_else, judgement, Checks, too_long, unreadable, no_description, too_deep, judged}
use Rattle.laws.specs.Refusals.Scanned.{From10, scanned_from}
use Rattle.laws.specs.Refusals.Faults.{least_from_lem, from_30, from_40, from_50}

abbrev pub Numbered : Verdict → Type 0
Numbered (accepted n w) = Unit {0}
Numbered (refused m p) = 0 < m

or_else_numbered : (o : Option Fault) (v : Verdict) → ((f : Fault) → o ≡ some f → 0 < f.number) → Numbered v → Numbered (or_else o v)
or_else_numbered none v h k = k
or_else_numbered (some f) v h k = h f refl

judgement_numbered : (d : Description) → Numbered (judgement d)
unfolding judgement
judgement_numbered d =
    let ds = declarations d in
    let outer = (outer_name d).word in
    or_else_numbered (least by_place_of (faults30 outer ds)) _ (λ f e. omega (arith, least_from_lem 30 by_place_of (faults30 outer ds) (from_30 outer ds) e))
    (or_else_numbered (least by_place_of (faults40 outer ds ds)) _ (λ f e. omega (arith, least_from_lem 40 by_place_of (faults40 outer ds ds) (from_40 outer ds ds) e))
    (or_else_numbered (least by_number_of (faults50 ds)) _ (λ f e. omega (arith, least_from_lem 50 by_number_of (faults50 ds) (from_50 ds) e)) tt))

pub checks_numbered : {text : List ℕ} {v : Verdict} → Checks text v → Numbered v
checks_numbered (too_long h) = omega arith
checks_numbered {text} (unreadable short q) = let h = subst From10 q (scanned_from text) in omega (arith, h)
checks_numbered (no_description short q r) = omega arith
checks_numbered (too_deep short q r) = omega arith
checks_numbered (judged d short q e shallow) = judgement_numbered d
