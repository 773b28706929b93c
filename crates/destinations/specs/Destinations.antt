-- A destination that stands in the table, its faults, and what is answered of it.
use Rattle.std.specs.Prelude.{Option, Some, None, ℕ, ◌<◌, ◌≤◌, max, ◌≡◌, Bool, false, List, ◌∷◌, ◌++◌, drop}
use Rattle.rules.specs.Text.Tokens.{Name, Equals, Info, tk}
use Rattle.rules.specs.Grammar.Trees.{Tokens, Bits, bits_tokens, Subscript, subscript_tokens, Joined, joined_tokens}
use Rattle.rules.specs.Declarations.{reach}
use Rattle.rules.specs.Faults.Fault.{Fault}
use Rattle.rules.specs.Faults.Bodies.{judge_destination, judge_joined, stored_twice}
use Rattle.rules.specs.Whole.Sets.{owner_in}
use Rattle.laws_grammar.specs.Cited.Nesting.{subscript_nest, joined_nest}
use Rattle.keys.specs.Keys.{least_key, Smalls}
use Rattle.destinations.specs.declared.Checked.{Checked}
use Rattle.accesses.specs.Scene.{Scene, outer_of, table_of}
use Rattle.destinations.specs.Carriers.{holds, added}

-- a destination from the token i on, up to `=`
pub record DestinationAt (records values decls : List ℕ) (i depth : ℕ) : Type 0 where
  pub scene : Scene records values decls
  pub name : Info
  pub subscript : Subscript
  pub bits : Bits
  pub joined : Joined
  pub equals : Info
  pub rest : Tokens
  pub reads : drop i scene.tokens ≡ tk Name name ∷ subscript_tokens subscript (bits_tokens bits (joined_tokens joined (tk Equals equals ∷ rest)))
  pub shallow : max (subscript_nest subscript) (joined_nest joined) ≤ depth

module _ {records values decls : List ℕ} {i depth : ℕ} (v : DestinationAt records values decls i depth) where
  -- its faults, as a transfer has them
  abbrev pub destination_faults : List Fault
  destination_faults =
      judge_joined (outer_of v.scene) (table_of v.scene) (judge_destination (outer_of v.scene) (table_of v.scene) v.name v.subscript v.bits) v.joined
      ++ stored_twice (outer_of v.scene) (table_of v.scene) (owner_in (reach (table_of v.scene) v.name.word)) v.joined

  pub record DestinationAnswer (r : Checked) : Type 0 where
    pub key : r.key ≡ least_key destination_faults
    pub smalls : Smalls destination_faults
    pub past : i < r.next
    pub behind : drop r.next v.scene.tokens ≡ tk Equals v.equals ∷ v.rest

-- the set of those stored to
abbrev pub repeats : List ℕ → Option ℕ → Bool
repeats w (Some k) = holds w k
repeats w None = false

abbrev pub stored : List ℕ → Option ℕ → List ℕ
stored w (Some k) = added w k
stored w None = w
