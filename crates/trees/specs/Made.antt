-- Tokens whose kinds pass a test, and what writes such tokens.
use Rattle.std.specs.Prelude.{ℕ, ◌≡◌, refl, Bool, true, [], ◌∷◌, ◌++◌}
use Rattle.std.proofs.Common.{sym, ap, ◌∙◌, append_assoc}
use Rattle.rules.specs.Text.Tokens.{Kind, kind_no, Info, Token, tk}
use Rattle.rules.specs.Grammar.Trees.{Tokens}
use Rattle.trees.specs.Written.{Written, nothing, token}

pub data All (q : ℕ → Bool) : Tokens → Type 0 where
  all_none : All q []
  all_more : {t : Token} {ts : Tokens} → q (kind_no t.kind) ≡ true → All q ts → All q (t ∷ ts)

-- f writes such tokens
pub record Made (q : ℕ → Bool) (f : Tokens → Tokens) : Type 0 where
  pub tokens : Tokens
  pub kinds : All q tokens
  pub writes : (ts : Tokens) → f ts ≡ tokens ++ ts

pub token_made : {q : ℕ → Bool} {f : Tokens → Tokens} (k : Kind) (i : Info) → q (kind_no k) ≡ true → Made q f → Made q (λ ts. tk k i ∷ f ts)
token_made k i e m = record { tokens = tk k i ∷ m.tokens; kinds = all_more e m.kinds; writes = λ ts. ap (λ (l : Tokens). tk k i ∷ l) (m.writes ts) }

all_append : {q : ℕ → Bool} {xs ys : Tokens} → All q xs → All q ys → All q (xs ++ ys)
all_append all_none b = b
all_append (all_more e a) b = all_more e (all_append a b)

pub then_made : {q : ℕ → Bool} {f g : Tokens → Tokens} → Made q f → Made q g → Made q (λ ts. f (g ts))
then_made {g} m n =
    record {
      tokens = m.tokens ++ n.tokens;
      kinds = all_append m.kinds n.kinds;
      writes = λ ts. m.writes (g ts) ∙ (ap (λ (l : Tokens). m.tokens ++ l) (n.writes ts) ∙ sym (append_assoc m.tokens n.tokens ts));
    }

pub made : {Step : ℕ → Kind → ℕ → Type 0} {m n : ℕ} {f : Tokens → Tokens} (q : ℕ → Bool) → ((l m : ℕ) (k : Kind) → Step l k m → q (kind_no k) ≡ true)
    → Written Step m f n → Made q f
made q step nothing = record { tokens = []; kinds = all_none; writes = λ ts. refl }
made q step (token {l} {m} {k = k} s i w) = token_made k i (step l m k s) (made q step w)
