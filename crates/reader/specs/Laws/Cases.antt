-- What is known of a text that is judged, by its case.
-- Assumes nothing.
use Rattle.std.specs.Prelude.{ℕ, ◌≡◌, List, Result, Ok, Err}
use Rattle.std.proofs.Common.{subst, arith}
use Rattle.reader.specs.Parsed.{Refuses}
use Rattle.reader.specs.Judged.{Judges, refuses, accepts}
use Rattle.accepted.specs.Accepted.{Accepts}
use Rattle.reader.specs.declared.judging.Accepted.{Accepted}
use Rattle.rules.specs.declared.refusals.Refusal.{Refusal}

pub refuses_by : {text records values decls : List ℕ} {v : Result Accepted Refusal} {r : Refusal} → Judges text records values decls v → v ≡ Err r
    → Refuses text r.number r.place
refuses_by {text} {r = r} (refuses {r = q} h) e = let x : q ≡ r = cc in subst (λ (z : Refusal). Refuses text z.number z.place) x h
refuses_by (accepts h) e = let z : ◌≡◌ {A = ℕ} 0 1 = cc in absurd (omega arith)

pub accepts_by : {text records values decls : List ℕ} {v : Result Accepted Refusal} {a : Accepted} → Judges text records values decls v → v ≡ Ok a
    → Accepts text records values decls a.declarations a.words a.tokens
accepts_by (refuses h) e = let z : ◌≡◌ {A = ℕ} 0 1 = cc in absurd (omega arith)
accepts_by {text} {records} {values} {decls} {a = a} (accepts {a = b} h) e =
    let x : b ≡ a = cc in subst (λ (z : Accepted). Accepts text records values decls z.declarations z.words z.tokens) x h
