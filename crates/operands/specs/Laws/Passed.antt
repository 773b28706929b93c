-- What holds of an error holds of a result that passes it on.
-- Assumes nothing.
use Rattle.std.specs.Prelude.{◌≡◌, Result, Ok, Err, IsErrAnd}
use Rattle.std.proofs.Common.{sym, subst}

pub passed : {A E : Type 0} (P : Result A E → Type 0) (r : Result A E) {e : E} → IsErrAnd r (λ y. y ≡ e) → P (Err e) → P r
passed P (Ok x) h p = absurd h
passed P (Err y) h p = subst (λ e. P (Err e)) (sym h) p
