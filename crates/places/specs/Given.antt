-- The names of an access's bits, by the tokens at fixed distances.
use Rattle.std.specs.Prelude.{ℕ, ◌≡◌, drop}
use Rattle.rules.specs.Grammar.Trees.{Tokens, Bits, bits_tokens}
use Rattle.rules.specs.Declarations.{main_names}
use Rattle.table.specs.Bits.{access_bits}
use Rattle.table.specs.Shown.{shown_bits}
use Rattle.table.specs.declared.views.Names.{Names}
use Rattle.promise.specs.Accesses.{EndsAccess}

-- where the bits of an access stand from p on, these are their names
abbrev pub GivenNames : Tokens → ℕ → Names → Type 0
GivenNames ts p r = (b : Bits) (rest : Tokens) → drop p ts ≡ bits_tokens b rest → EndsAccess rest → r ≡ shown_bits (main_names (access_bits b))
