-- The whole answer of Store and Load, from what the reader found.
-- Assumes nothing.
use Rattle.std.specs.Prelude.{ℕ, refl, List, ⊤, Err}
use Rattle.std.proofs.Common.{arith}
use Rattle.rules.specs.Text.Scan.{scan}
use Rattle.rules.specs.Declarations.{Table, declarations}
use Rattle.rules.specs.Keeping.{Kept, declined, not_accepted, kept_by}
use Rattle.table.specs.Ready.{Scene}
use Rattle.reader.specs.Parsed.{Refuses}
use Rattle.accepted.specs.Accepted.{Accepts}
use Rattle.kept.specs.Kept.{Keeping, Answered}
use Rattle.rules.specs.Refusals.{OrRefused}
use Rattle.rules.specs.declared.refusals.Refusal.{Refusal}

pub refused_answer : {text : List ℕ} {call : Table → Kept} {target : List ℕ} {r : Refusal} → Refuses text r.number r.place → Answered text call target target (Err r)
refused_answer {target = target} {r} h = record {
  result = declined r.number r.place;
  keeps = not_accepted h.checks;
  keeping = record { is = refl; left_is = refl; near = omega (arith, h.near) };
}

pub kept_answer : {text records values decls : List ℕ} {m words n : ℕ} {call : Table → Kept} {target left : List ℕ} {r : OrRefused ⊤} (v : Accepts text records values decls m words n)
    → Keeping (call (declarations v.lawful.declares.description)) target left r → Answered text call target left r
kept_answer {call = call} v k = record { result = call (declarations v.lawful.declares.description); keeps = kept_by _ v.lawful.declares.reads v.verdict; keeping = k }

abbrev pub standing : {text records values decls : List ℕ} {m words n : ℕ} → Accepts text records values decls m words n → Scene records values decls m
standing {text} v = record { text = text; tokens = (scan text).tokens; description = v.lawful.declares.description; ready = v.lawful.declares.ready }
