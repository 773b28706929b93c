-- What is known of carriers, by the case of the answer.
-- Assumes nothing.
use Rattle.std.specs.Prelude.{ℕ, ◌≡◌, List, ⊤, Ok, Err}
use Rattle.std.proofs.Common.{subst, arith}
use Rattle.rules.specs.Declarations.{Table}
use Rattle.rules.specs.Refusals.{OrRefused}
use Rattle.rules.specs.declared.refusals.Refusal.{Refusal}
use Rattle.starts.specs.Starts.{Starts, begins, declines, Begins, Declines}

pub declines_by : {ds : Table} {buffer : List ℕ} {s : OrRefused ⊤} {r : Refusal} → Starts ds buffer s → s ≡ Err r → Declines ds buffer r.number r.place
declines_by (begins h) e = let z : ◌≡◌ {A = ℕ} 0 1 = cc in absurd (omega arith)
declines_by {ds} {buffer} {r = r} (declines {r = q} h) e = let x : q ≡ r = cc in subst (λ (z : Refusal). Declines ds buffer z.number z.place) x h

pub begins_by : {ds : Table} {buffer : List ℕ} {s : OrRefused ⊤} → Starts ds buffer s → s ≡ Ok tt → Begins ds buffer
begins_by (begins h) e = h
begins_by (declines h) e = let z : ◌≡◌ {A = ℕ} 0 1 = cc in absurd (omega arith)
