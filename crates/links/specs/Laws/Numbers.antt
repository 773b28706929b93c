-- Where no name is declared twice, each declaration is the first of its name.
-- Assumes nothing.
use Rattle.std.specs.Prelude.{ℕ, zero, suc, ◌+◌, ◌≡◌, Bool, true, false, List, [], ◌∷◌, ◌++◌}
use Rattle.std.proofs.Common.{sym, ap, ◌∙◌, subst, arith}
use Rattle.std.proofs.Math.Option.{some}
use Rattle.std.proofs.Math.ListN.{get_elem?}
use Rattle.rules.specs.Text.Scan.{same_bytes}
use Rattle.rules.specs.Declarations.{Word, Declared, Table, number_from, number_of}
use Rattle.rules.specs.Faults.Fault.{when}
use Rattle.rules.specs.Faults.Declared.{is_known, twice, large, too_many, mappings, faults30}
use Rattle.laws_orders.proofs.Orders.Tests.{impossible, or_neither}
use Rattle.laws_accepted.proofs.Accepted.Faultless.{both_empty, when_empty}
use Rattle.laws_accepted.proofs.Accepted.Named.{same_itself}

not_known : (known : List Word) (ds : Table) (k : ℕ) (e : Declared) → twice known ds ≡ [] → get_elem? ds k ≡ some e → is_known e.name.word known ≡ false
unfolding twice is_known
not_known known [] k e t h = impossible (cc)
not_known known (x ∷ ds) zero e t h =
    let q : x ≡ e = cc in
    let b = both_empty (when (is_known x.name.word known) 30 x.name.place) (twice (x.name.word ∷ known) ds) t in
    subst (λ (y : Declared). is_known y.name.word known ≡ false) q (when_empty _ 30 x.name.place b.0)
not_known known (x ∷ ds) (suc k) e t h =
    let b = both_empty (when (is_known x.name.word known) 30 x.name.place) (twice (x.name.word ∷ known) ds) t in
    (or_neither (same_bytes x.name.word e.name.word) (is_known e.name.word known) (not_known (x.name.word ∷ known) ds k e b.1 h)).1

number_from_lem : (known : List Word) (ds : Table) (i k : ℕ) (e : Declared) → twice known ds ≡ [] → get_elem? ds k ≡ some e
    → number_from i e.name.word ds ≡ some (i + k)
unfolding twice is_known number_from
number_from_lem known [] i k e t h = impossible (cc)
number_from_lem known (x ∷ ds) i zero e t h =
    let q : x ≡ e = cc in
    let none_more : i + 0 ≡ i = omega arith in
    let same : same_bytes x.name.word e.name.word ≡ true = subst (λ (y : Declared). same_bytes x.name.word y.name.word ≡ true) q (same_itself x.name.word) in
    ap (λ (b : Bool). elim b [ true ↦ some i | false ↦ number_from (suc i) e.name.word ds ]) same ∙ ap some (sym none_more)
number_from_lem known (x ∷ ds) i (suc k) e t h =
    let b = both_empty (when (is_known x.name.word known) 30 x.name.place) (twice (x.name.word ∷ known) ds) t in
    let u = not_known (x.name.word ∷ known) ds k e b.1 h in
    let other = (or_neither (same_bytes x.name.word e.name.word) (is_known e.name.word known) u).0 in
    let shift : suc i + k ≡ i + suc k = omega arith in
    ap (λ (b : Bool). elim b [ true ↦ some i | false ↦ number_from (suc i) e.name.word ds ]) other
    ∙ (number_from_lem (x.name.word ∷ known) ds (suc i) k e b.1 h ∙ ap some shift)

pub own_number : (out : Word) (ds : Table) (k : ℕ) (e : Declared) → faults30 out ds ≡ [] → get_elem? ds k ≡ some e → number_of ds e.name.word ≡ some k
unfolding faults30 number_of
own_number out ds k e f h =
    number_from_lem (out ∷ []) ds 0 k e (both_empty (twice (out ∷ []) ds) (large ds ++ (too_many 0 0 ds ++ mappings out ds ds)) f).0 h ∙ ap some (omega arith)
