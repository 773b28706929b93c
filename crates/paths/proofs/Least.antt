-- The lowest place as a number that is kept on the way.
use Rattle.std.specs.Prelude.{ℕ, min, ◌≤◌, ◌<◌, ◌≡◌, cond, ltb}
use Rattle.std.proofs.Common.{sym, ◌∙◌, ap, lt-ltb, le-ltb}
use mathlib.Core.List.{List, [], ◌∷◌, ◌++◌}
use native.Mathlib.Omega.{arith}
use Rattle.rules.specs.Paths.{passes, fails}
use Rattle.paths.specs.Cited.Least.{least}
use Rattle.paths.specs.Cited.Early.{lowest, verdict}

module _ (M : ℕ) where
  pub least_under : (ps : List ℕ) → least M ps ≤ M
  least_under [] = omega arith
  least_under (p ∷ ps) = omega (arith, least_under ps)

  pub least_append : (xs ys : List ℕ) → least M (xs ++ ys) ≡ min (least M xs) (least M ys)
  least_append [] ys = omega (arith, least_under ys)
  least_append (x ∷ xs) ys = ap (min x) (least_append xs ys) ∙ omega arith

  lowest_is : (p : ℕ) (ps : List ℕ) → p ≤ M → lowest p ps ≡ min p (least M ps)
  unfolding lowest
  lowest_is p [] h = omega arith
  lowest_is p (q ∷ qs) h = lowest_is (min p q) qs (omega arith) ∙ omega arith

  abbrev pub Under : List ℕ → Type 0
  Under [] = Unit {0}
  Under (p ∷ ps) = (p < M) × Under ps

  pub verdict_is : (ps : List ℕ) → Under ps → verdict ps ≡ cond (ltb (least M ps) M) (fails 92 (least M ps)) passes
  verdict_is [] h = ap (λ b. cond b (fails 92 M) passes) (sym (le-ltb M M (omega arith)))
  verdict_is (p ∷ ps) h =
      let q : p < M = h.0 in
      let l : ℕ = min p (least M ps) in
      ap (fails 92) (lowest_is p ps (omega arith)) ∙ ap (λ b. cond b (fails 92 l) passes) (sym (lt-ltb l M (omega arith)))
