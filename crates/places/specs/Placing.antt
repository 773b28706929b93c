-- The places of accesses in the value cells of their names.
use Rattle.std.specs.Prelude.{ℕ, ◌<◌, ◌≡◌, List, [], ◌∷◌, length, drop}
use Rattle.std.proofs.Math.Option.{some}
use Rattle.rules.specs.Text.Tokens.{Name, Info, tk}
use Rattle.rules.specs.Grammar.Trees.{Tokens, Bits, bits_tokens, Subscript, subscript_tokens, Description}
use Rattle.rules.specs.Grammar.Precedence.{index_of}
use Rattle.rules.specs.Declarations.{Word, Table, declarations, outer_name, Reach, reach}
use Rattle.rules.specs.Faults.Bodies.{judge_access}
use Rattle.records.specs.Holds.{value_cell_of}
use Rattle.records.specs.Words.{NameAt}
use Rattle.table.specs.Ready.{Ready, Scene, outer_of, table_of}
use Rattle.promise.specs.Accesses.{access_cell, EndsAccess, AccessesHold}
use Rattle.places.specs.Bases.{FirstsHold}

-- the bits of an access stand behind its subscript
abbrev pub BehindIndex : Tokens → ℕ → ℕ → Type 0
BehindIndex ts p r = (s : Subscript) (b : Bits) (rest : Tokens) → drop p ts ≡ subscript_tokens s (bits_tokens b rest) → EndsAccess rest → drop r ts ≡ bits_tokens b rest

-- c is the place of the access that stands at q, if one does
abbrev pub PlaceAt : Tokens → Word → Table → ℕ → ℕ → Type 0
PlaceAt ts outer ds q c =
    (x : Info) (s : Subscript) (b : Bits) (rest : Tokens) (r : Reach) → drop q ts ≡ tk Name x ∷ subscript_tokens s (bits_tokens b rest) → EndsAccess rest
    → (judge_access outer ds x (index_of s) b).faults ≡ [] → reach ds x.word ≡ some r → c ≡ access_cell r b

-- a description of n tokens and m declarations
pub record Described (records values decls : List ℕ) (n m : ℕ) : Type 0 where
  pub scene : Scene records values decls m
  pub count : n ≡ length scene.tokens

pub record Placing (records values decls firsts : List ℕ) (n m : ℕ) : Type 0 where
  pub scene : Scene records values decls m
  pub count : n ≡ length scene.tokens
  pub hold : FirstsHold firsts (table_of scene) m

pub record NameIn (records values decls firsts : List ℕ) (n m i : ℕ) : Type 0 where
  pub placing : Placing records values decls firsts n m
  pub name : NameAt placing.scene.tokens i

abbrev pub PlacedBy : {records values decls firsts : List ℕ} {n m i : ℕ} → NameIn records values decls firsts n m i → ℕ → Type 0
PlacedBy {i = i} v c = PlaceAt v.placing.scene.tokens (outer_of v.placing.scene) (table_of v.placing.scene) i c

-- the names before the token i have their places
pub record Upto (text records values decls : List ℕ) (ts : Tokens) (d : Description) (m i : ℕ) : Type 0 where
  pub ready : Ready text records values decls ts d m
  pub done : (q : ℕ) → q < i → PlaceAt ts (outer_name d).word (declarations d) q (value_cell_of values q)

abbrev pub PlacedIn : {records values decls firsts : List ℕ} {n m : ℕ} → Placing records values decls firsts n m → List ℕ → ℕ → Type 0
PlacedIn {records} {decls = decls} {m = m} v now i = Upto v.scene.text records now decls v.scene.tokens v.scene.description m i

-- all have them
pub record AllPlaced {records values decls : List ℕ} {n m : ℕ} (v : Described records values decls n m) (now : List ℕ) : Type 0 where
  pub ready : Ready v.scene.text records now decls v.scene.tokens v.scene.description m
  pub accesses : AccessesHold now v.scene.tokens (outer_of v.scene) (table_of v.scene)
