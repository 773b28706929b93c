-- Tokens that are written in front of others, each a step of one who reads them: from a depth, by its kind, to a depth.
use Rattle.std.specs.Prelude.{ℕ, ◌≡◌, refl, ◌∷◌}
use Rattle.std.proofs.Common.{◌∙◌}
use Rattle.rules.specs.Text.Tokens.{Kind, Info, tk}
use Rattle.rules.specs.Grammar.Trees.{Tokens}

pub data Written (Step : ℕ → Kind → ℕ → Type 0) : ℕ → (Tokens → Tokens) → ℕ → Type 0 where
  nothing : {m : ℕ} → Written Step m (λ ts. ts) m
  token : {l m n : ℕ} {k : Kind} {f : Tokens → Tokens} → Step l k m → (i : Info) → Written Step m f n → Written Step l (λ ts. tk k i ∷ f ts) n

module _ {Step : ℕ → Kind → ℕ → Type 0} where
  pub then : {l m n : ℕ} {f g : Tokens → Tokens} → Written Step l f m → Written Step m g n → Written Step l (λ ts. f (g ts)) n
  then nothing v = v
  then (token s i w) v = token s i (then w v)

  pub alone : {l m : ℕ} {k : Kind} → Step l k m → (i : Info) → Written Step l (λ ts. tk k i ∷ ts) m
  alone s i = token s i nothing

  -- a reader whom no step changes is not changed by all of them
  pub all_equal : {A : Type 0} {m n : ℕ} {f : Tokens → Tokens} (run : ℕ → Tokens → A)
      → ((l m : ℕ) (k : Kind) → Step l k m → (i : Info) (ts : Tokens) → run l (tk k i ∷ ts) ≡ run m ts) → Written Step m f n → (ts : Tokens) → run m (f ts) ≡ run n ts
  all_equal run step nothing ts = refl
  all_equal run step (token {l} {m} {k = k} {f} s i w) ts = step l m k s i (f ts) ∙ all_equal run step w ts

-- the depth that does not change
abbrev pub level : ℕ → ℕ
level m = m
