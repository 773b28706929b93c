-- The bound of a description, by MAIN's count.
use Rattle.std.specs.Prelude.{ℕ, min, ◌≡◌, refl, Bool, true, false, leb}
use Rattle.std.proofs.Common.{ap, ◌∙◌, arith, leb-true, leb-false, eq-eqb, ne_eqb}
use Rattle.rules.specs.Limits.{longest_chain, most_steps}
use Rattle.rules.specs.Declarations.{Table}
use Rattle.rules.specs.Faults.Whole.{main_name}
use Rattle.rules.specs.Bound.{cost_of, turns_from, bound_if, bound_of}
use Rattle.bounds.specs.Cited.Counts.{bound_when, bound_by_of, endless, cut, count_down}

bound_by : (t f : Bool) (n : ℕ) → leb n most_steps ≡ f → bound_by_of (cut t n) ≡ bound_if t f n
unfolding cut
bound_by true f n e = ap (λ b. bound_when b endless) (eq-eqb endless endless refl)
bound_by false false n e = let l = leb-false n most_steps e in ap (λ b. bound_when b (min n endless)) (eq-eqb (min n endless) endless (omega arith))
bound_by false true n e =
    let l = leb-true n most_steps e in
    let same : min n endless ≡ n = omega arith in
    ap bound_by_of same ∙ ap (λ b. bound_when b n) (ne_eqb n endless (λ z. omega arith))

pub bound_counted : (ds : Table) → bound_by_of (count_down ds longest_chain (main_name ds)) ≡ bound_of ds
unfolding bound_of
bound_counted ds = bound_by (turns_from ds (main_name ds)) (leb (cost_of ds (main_name ds)) most_steps) (cost_of ds (main_name ds)) refl
