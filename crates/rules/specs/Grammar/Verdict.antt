-- What document 01 asks of the answer to the tokens (rows 20 and 21), said of tokens and trees alone.
use Rattle.std.specs.Prelude.{◌≡◌, Bool, true, false, ◌||◌, [], ◌∷◌, ◌++◌, ℕ, zero, suc, ◌≤◌, ◌<◌, T, length, take, get_or}
use Rattle.rules.specs.Limits.{deepest}
use Rattle.rules.specs.Text.Tokens.{Kind, Info, tk, Name, same, BEGIN, END, LPar, RPar, LBra, RBra}
use Rattle.rules.specs.Grammar.Trees.{Tokens, Description, flatten}

abbrev pub any_info : Info
any_info = record { place = 0; word = []; value = 0; free = 0; bits = 0 }

-- BEGIN, `(` and `[` open; END, `)` and `]` close
unfoldable pub opens : Kind → Bool
opens k = same BEGIN k || (same LPar k || same LBra k)

unfoldable pub closes : Kind → Bool
closes k = same END k || (same RPar k || same RBra k)

-- how many are open behind a token, of d before it
abbrev pub down : ℕ → ℕ
down zero = zero
down (suc d) = d

unfoldable pub counted_by : Bool → Bool → ℕ → ℕ
counted_by true c d = suc d
counted_by false true d = down d
counted_by false false d = d

unfoldable pub count : ℕ → Kind → ℕ
count d k = counted_by (opens k) (closes k) d

unfoldable pub opened : ℕ → Tokens → ℕ
opened d [] = d
opened d (t ∷ ts) = opened (count d t.kind) ts

-- the tokens are a description's
abbrev pub IsDescription : Tokens → Type 0
IsDescription ts = (d : Description) × flatten d ≡ ts

-- the tokens begin a description
abbrev pub Begins : Tokens → Type 0
Begins ps = (d : Description) × (rest : Tokens) × flatten d ≡ ps ++ rest

-- token k is an opener, and as many brackets as may be are open before it
pub record Crowded (ts : Tokens) (k : ℕ) : Type 0 where
  pub there : k < length ts
  pub opener : T (opens (get_or ts k (tk Name any_info)).kind)
  pub full : deepest ≤ opened 0 (take k ts)

-- 20 at token k, or at the end of the text: the tokens before it begin a description, and with it they do not; at the end, they are none
pub record Refused20 (ts : Tokens) (k : ℕ) : Type 0 where
  pub there : k ≤ length ts
  pub begins : Begins (take k ts)
  pub stops : k < length ts → ¬ Begins (take (suc k) ts)
  pub short : k ≡ length ts → ¬ IsDescription ts
  pub shallow : (j : ℕ) → j < k → ¬ Crowded ts j

-- 21 at token k: the first opener too many, and the tokens up to it begin a description
pub record Refused21 (ts : Tokens) (k : ℕ) : Type 0 where
  pub crowded : Crowded ts k
  pub begins : Begins (take (suc k) ts)
  pub shallow : (j : ℕ) → j < k → ¬ Crowded ts j
