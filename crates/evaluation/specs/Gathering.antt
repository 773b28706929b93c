-- Gathering the fields of a joined destination, before any store.
use Rattle.std.specs.Prelude.{ℕ, ◌≤◌, ◌≡◌, List, ◌∷◌, length, drop, Result, Ok, Err}
use Rattle.rules.specs.Text.Tokens.{Equals, Info, tk}
use Rattle.rules.specs.Grammar.Trees.{Tokens, Joined, joined_tokens}
use Rattle.rules.specs.Values.{total}
use Rattle.rules.specs.Limits.{most_bits, deepest}
use Rattle.rules.specs.Steps.Actions.{Access, joined_accesses}
use Rattle.rules.specs.Steps.Evaluation.{gives, faulty, Field, evaluate_access, evaluate_accesses}
use Rattle.laws_grammar.specs.Cited.Nesting.{joined_nest}
use Rattle.laws_accepted.specs.Cited.Destinations.{SizedDestination}
use Rattle.operands.specs.declared.accesses.Outside.{Outside}
use Rattle.evaluation.specs.declared.transfers.Fields.{Fields}
use Rattle.operands.specs.Scene.{Scene, words_of}
use Rattle.evaluation.specs.Stores.{sizes, Kept, AllWithin}

abbrev pub field_at : ℕ → ℕ → ℕ → Field
field_at w l n = record { word = w; low = l; size = n }

-- A sound destination up to the `=` at `end`: its first access comes to a field, and the others stand from the token p on.
pub record GatherAt (records values carriers : List ℕ) (word low size p end : ℕ) : Type 0 where
  pub scene : Scene records values carriers
  pub first : Access
  pub more : Joined
  pub equals : Info
  pub rest : Tokens
  pub reads : drop p scene.tokens ≡ joined_tokens more (tk Equals equals ∷ rest)
  pub behind : drop end scene.tokens ≡ tk Equals equals ∷ rest
  pub shallow : joined_nest more ≤ deepest
  pub sized : SizedDestination scene.outer scene.table (first ∷ joined_accesses more)
  pub comes : evaluate_access scene.table (words_of scene) first ≡ gives (field_at word low size)

-- the fields of all accesses, in the scratch
pub record Gathers {records values carriers : List ℕ} {word low size p end : ℕ} (v : GatherAt records values carriers word low size p end) (scratch : List ℕ)
    (count bits : ℕ) : Type 0 where
  pub fields : List Field
  pub comes : evaluate_accesses v.scene.table (words_of v.scene) (v.first ∷ joined_accesses v.more) ≡ gives fields
  pub counts : count ≡ length fields
  pub total_bits : bits ≡ total (sizes fields)
  pub many : count ≤ bits
  pub short : bits ≤ most_bits
  pub kept : Kept scratch 0 fields
  pub within : AllWithin v.scene.table fields

abbrev pub GatherAnswer : {records values carriers : List ℕ} {word low size p end : ℕ} → GatherAt records values carriers word low size p end → List ℕ → Result Fields Outside → Type 0
GatherAnswer v scratch (Ok f) = Gathers v scratch f.count f.bits
GatherAnswer v scratch (Err o) = evaluate_accesses v.scene.table (words_of v.scene) (v.first ∷ joined_accesses v.more) ≡ faulty 70 o.place
