-- Where the declarations of a description end among its tokens.
use Rattle.std.specs.Prelude.{ℕ, zero, suc, ◌+◌}
use Rattle.rules.specs.Grammar.Trees.{declaration_tokens, heading_tokens, Declarations, declared_all, declared_also, Description, description}
use Rattle.laws_code.specs.Cited.Code.{size}

-- where the first k declarations end
unfoldable pub rest_ends : ℕ → ℕ → Declarations → ℕ
rest_ends zero i ds = i
rest_ends (suc k) i (declared_all e) = i
rest_ends (suc k) i (declared_also c h d ds) = rest_ends k (suc i + size (heading_tokens h) + size (declaration_tokens d)) ds

unfoldable pub ends : ℕ → Description → ℕ
ends zero d = 3
ends (suc k) (description n e b h d ds) = rest_ends k (3 + size (heading_tokens h) + size (declaration_tokens d)) ds
