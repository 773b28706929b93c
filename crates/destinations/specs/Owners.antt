-- The storage carrier of a name: by its declaration, and for a mapping by that of its target, which 33 lets be storage alone.
use Rattle.std.specs.Prelude.{Option, Some, None, ℕ, ◌<◌, ◌≡◌, List, [], ◌∷◌, length}
use Rattle.rules.specs.Text.Tokens.{Name, Info, tk}
use Rattle.rules.specs.Declarations.{reach}
use Rattle.rules.specs.Whole.Sets.{owner_in}
use Rattle.records.specs.Holds.{token_at}
use Rattle.accesses.specs.Scene.{Scene, table_of}

-- a name is the token i
pub record NameHere (records values decls : List ℕ) (i : ℕ) : Type 0 where
  pub scene : Scene records values decls
  pub name : Info
  pub within : i < length scene.tokens
  pub here : token_at scene.tokens i ≡ tk Name name

abbrev pub owners : Option ℕ → List ℕ
owners (Some k) = k ∷ []
owners None = []

-- a carrier's number is that of one of at most 256 declarations
abbrev pub Numbered : Option ℕ → Type 0
Numbered (Some k) = k < 256
Numbered None = Unit {0}

-- as the rules have them: none or one
abbrev pub owners_of : {records values decls : List ℕ} {i : ℕ} → NameHere records values decls i → List ℕ
owners_of v = owner_in (reach (table_of v.scene) v.name.word)

pub record Owns {records values decls : List ℕ} {i : ℕ} (v : NameHere records values decls i) (r : Option ℕ) : Type 0 where
  pub are : owners r ≡ owners_of v
  pub small : Numbered r
