-- A declaration in a token list, by where its name stands, and the declarations of a description.
-- Assumes nothing.
use Rattle.std.specs.Prelude.{ℕ, ◌-◌, ◌<◌, ◌≡◌, refl, List, [], ◌∷◌, map, drop}
use Rattle.std.proofs.Common.{ap}
use Rattle.rules.specs.Text.Tokens.{Name, Becomes, BEGIN, MAIN, Token, tk}
use Rattle.rules.specs.Grammar.Trees.{Tokens, action_tokens, members_tokens}
use Rattle.rules.specs.Grammar.Trees.{form_tokens, main_bits_tokens, Declaration, plain, main}
use Rattle.rules.specs.Grammar.Trees.{Declarations, declared_all, declared_also, declarations_tokens, Description, description}
use Rattle.rules.specs.Declarations.{declared_of, rest_of, declarations}
use Rattle.records.specs.Holds.{token_at}

-- a declaration from its name on
abbrev pub name_tokens : Declaration → Tokens → Tokens
name_tokens (plain n f) ts = tk Name n ∷ form_tokens f ts
name_tokens (main k n o e b a m) ts = tk Name n ∷ main_bits_tokens o (tk Becomes e ∷ tk BEGIN b ∷ action_tokens a (members_tokens m ts))

-- the token before the name: MAIN, or any other
abbrev pub LedBy : Token → Declaration → Type 0
LedBy t (plain n f) = t.kind ≡ MAIN → ⊥
LedBy t (main k n o e b a m) = t ≡ tk MAIN k

-- The name of d is the token i: three tokens at least begin the description, and the other declarations up to its END follow.
pub record DeclaredAt (ts : Tokens) (i : ℕ) (d : Declaration) : Type 0 where
  pub past : 2 < i
  pub led : LedBy (token_at ts (i - 1)) d
  pub following : Declarations
  pub reads : drop i ts ≡ name_tokens d (declarations_tokens following [])

-- the declarations of a description in their order
unfoldable pub following_list : Declarations → List Declaration
following_list (declared_all e) = []
following_list (declared_also c h d ds) = d ∷ following_list ds

abbrev pub declaration_list : Description → List Declaration
declaration_list (description n e b h d ds) = d ∷ following_list ds

following_declared : (ds : Declarations) → rest_of ds ≡ map declared_of (following_list ds)
unfolding rest_of following_list
following_declared (declared_all e) = refl
following_declared (declared_also c h d ds) = ap (λ l. declared_of d ∷ l) (following_declared ds)

pub all_declared : (d : Description) → declarations d ≡ map declared_of (declaration_list d)
unfolding declarations
all_declared (description n e b h d ds) = ap (λ l. declared_of d ∷ l) (following_declared ds)
