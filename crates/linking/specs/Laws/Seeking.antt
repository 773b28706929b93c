-- A transfer's first part, by where its word is found.
-- Assumes nothing.
use Prim.Native.Nat.{ℕ, zero, suc, ◌≤◌, ◌<◌}
use Rattle.std.specs.Prelude.{◌≡◌, length, get_or}
use Rattle.std.proofs.Math.Path.{refl, ap}
use Rattle.std.proofs.Common.{◌∙◌, arith, eq-eqb, ne_eqb}
use Rattle.std.proofs.Math.Bool.{cond}
use mathlib.Core.List.{[], ◌∷◌}
use Rattle.std.proofs.Math.Option.{Option, none, some}
use Rattle.rules.specs.Stores.{Entry}
use Rattle.traces.specs.Cited.Marking.{Pos, at, never, lower, Cells, marked, behind, fit, here, put}
use Rattle.matching.specs.Matching.{fit_at}
use Rattle.linking.specs.Seeking.{OfWord, Sought}

module _ (x : Entry) where
  abbrev Passing : ℕ → Cells → Type 0
  Passing r cs = (k : ℕ) → k < r → OfWord x.word (get_or cs k none) → ⊥

  -- the entry in front is not the one
  put_behind : (f : Pos) (c : Option Entry) (cs : Cells) → (OfWord x.word c → ⊥) → put x [] f (c ∷ cs) ≡ behind c (put x [] (lower f) cs)
  unfolding put
  put_behind f none cs h = refl
  put_behind f (some y) cs h = ap (λ b. cond b (here x [] f (some y ∷ cs)) (behind (some y) (put x [] (lower f) cs))) (ne_eqb y.word x.word h)

  -- the entry in front is the one
  put_here : (f : Pos) (c : Option Entry) (cs : Cells) → OfWord x.word c → put x [] f (c ∷ cs) ≡ here x [] f (c ∷ cs)
  unfolding put
  put_here f none cs h = absurd h
  put_here f (some y) cs h = ap (λ b. cond b (here x [] f (some y ∷ cs)) (behind (some y) (put x [] (lower f) cs))) (eq-eqb y.word x.word h)

  missing : (f : Pos) (cs : Cells) → Passing (length cs) cs → put x [] f cs ≡ marked cs never never
  unfolding put
  missing f [] h = refl
  missing f (c ∷ cs) h =
      put_behind f c cs (h 0 (omega arith)) ∙ ap (behind c) (missing (lower f) cs (λ k l. h (suc k) (omega arith)))

  abbrev pub Early : Pos → ℕ → Type 0
  Early (at n) r = r < n
  Early never r = Unit {0}

  abbrev pub InTime : Pos → ℕ → Type 0
  InTime (at n) r = n ≤ r
  InTime never r = ⊥

  early_lower : (f : Pos) (r : ℕ) → Early f (suc r) → Early (lower f) r
  early_lower (at zero) r h = absurd (omega arith)
  early_lower (at (suc n)) r h = omega arith
  early_lower never r h = tt

  in_time_lower : (f : Pos) (r : ℕ) → InTime f (suc r) → InTime (lower f) r
  in_time_lower (at zero) r h = omega arith
  in_time_lower (at (suc n)) r h = omega arith
  in_time_lower never r h = h

  here_early : (f : Pos) (cs : Cells) → Early f 0 → here x [] f cs ≡ marked cs never (at 0)
  here_early (at zero) cs h = absurd (omega arith)
  here_early (at (suc n)) cs h = refl
  here_early never cs h = refl

  here_in_time : (f : Pos) (cs : Cells) → InTime f 0 → here x [] f cs ≡ fit (x ∷ []) cs
  here_in_time (at zero) cs h = refl
  here_in_time (at (suc n)) cs h = absurd (omega arith)
  here_in_time never cs h = absurd h

  early : (f : Pos) (cs : Cells) (r : ℕ) → r < length cs → Passing r cs → OfWord x.word (get_or cs r none) → Early f r → put x [] f cs ≡ marked cs never (at r)
  early f [] r l p o t = absurd (omega arith)
  early f (c ∷ cs) zero l p o t = put_here f c cs o ∙ here_early f (c ∷ cs) t
  early f (c ∷ cs) (suc r) l p o t =
      put_behind f c cs (p 0 (omega arith)) ∙ ap (behind c) (early (lower f) cs r (omega arith) (λ k h. p (suc k) (omega arith)) o (early_lower f r t))

  in_time : (f : Pos) (cs : Cells) (r : ℕ) → r < length cs → Passing r cs → OfWord x.word (get_or cs r none) → InTime f r → put x [] f cs ≡ fit_at r x cs
  unfolding fit_at
  in_time f [] r l p o t = absurd (omega arith)
  in_time f (c ∷ cs) zero l p o t = put_here f c cs o ∙ here_in_time f (c ∷ cs) t
  in_time f (c ∷ cs) (suc r) l p o t =
      put_behind f c cs (p 0 (omega arith)) ∙ ap (behind c) (in_time (lower f) cs r (omega arith) (λ k h. p (suc k) (omega arith)) o (in_time_lower f r t))

  -- no entry; one that comes too early; one that may be
  module _ (f : Pos) {cs : Cells} {r : ℕ} (s : Sought x.word cs r) where
    pub put_missing : length cs ≤ r → put x [] f cs ≡ marked cs never never
    put_missing h = missing f cs (λ k l. s.passed k (omega arith))

    pub put_early : r < length cs → Early f r → put x [] f cs ≡ marked cs never (at r)
    put_early l = early f cs r l s.passed (s.found l)

    pub put_in_time : r < length cs → InTime f r → put x [] f cs ≡ fit_at r x cs
    put_in_time l = in_time f cs r l s.passed (s.found l)
