-- An action in the tables, under the names around it: what is judged, and the answer.
use Rattle.std.specs.Prelude.{ℕ, ◌*◌, ◌<◌, ◌≤◌, ◌≡◌, List, ◌∷◌, length, drop}
use Rattle.rules.specs.Text.Tokens.{Kind, Semi, NEXT, END, Comma, Info, Token}
use Rattle.rules.specs.Grammar.Trees.{Tokens, Operand, Tail}
use Rattle.rules.specs.Grammar.Trees.{Members, Alternatives, Action, block, labelled, if_then, decode, repeat, leave, restart, activate, stop, no_op, transfer, action_tokens}
use Rattle.rules.specs.Limits.{deepest}
use Rattle.rules.specs.Faults.Fault.{Fault}
use Rattle.rules.specs.Faults.Bodies.{action_faults}
use Rattle.laws_grammar.specs.Cited.Nesting.{action_nest}
use Rattle.keys.specs.Keys.{least_key}
use Rattle.stacks.specs.Stacks.{stacked_words, Stacked}
use Rattle.room.specs.Bodies.{index_end}
use Rattle.plain.specs.declared.Walked.{Walked}
use Rattle.plain.specs.Stage.{Stage, outer_of, table_of}

-- what follows an action
pub data EndsAction : Kind → Type 0 where
  by_semi : EndsAction Semi
  by_next : EndsAction NEXT
  by_end : EndsAction END
  by_comma : EndsAction Comma

-- an action stands from i on, nested at most `depth` deep, under `count` names
pub record ActionView (text records values decls room : List ℕ) (i count depth : ℕ) : Type 0 where
  pub stage : Stage text records values decls
  pub action : Action
  pub next : Token
  pub rest : Tokens
  pub reads : drop i stage.tokens ≡ action_tokens action (next ∷ rest)
  pub ends : EndsAction next.kind
  pub shallow : action_nest action ≤ depth
  pub bounded : depth ≤ deepest
  pub stacked : Stacked records stage.tokens room count
  pub low : count ≤ i
  pub large : 2 * index_end ≤ length room

-- the faults of actions under the names of a stack
module _ {text records values decls : List ℕ} (s : Stage text records values decls) where
  abbrev pub faults_under : List ℕ → ℕ → Action → List Fault
  faults_under room count a = action_faults (outer_of s) (table_of s) (stacked_words s.tokens room count) a

module _ {text records values decls room : List ℕ} {i count depth : ℕ} (v : ActionView text records values decls room i count depth) where
  pub record ActionAnswer (r : Walked) : Type 0 where
    pub key : r.key ≡ least_key (faults_under v.stage room count v.action)
    pub past : i < r.next
    pub behind : drop r.next v.stage.tokens ≡ v.next ∷ v.rest

-- an action with nothing inside it
abbrev pub Simple : Action → Type 0
Simple (block b a m) = ⊥
Simple (labelled n b a) = ⊥
Simple (if_then i o t w a) = ⊥
Simple (decode i o t w b v) = ⊥
Simple (repeat i a) = ⊥
Simple (leave i n) = Unit {0}
Simple (restart i n) = Unit {0}
Simple (activate n l r) = Unit {0}
Simple (stop i l r) = Unit {0}
Simple (no_op i l r) = Unit {0}
Simple (transfer n s b j e o t) = Unit {0}

-- a block, and a DECODE
abbrev pub IsBlock : Action → Type 0
IsBlock a = (b : Info) × (x : Action) × (m : Members) × (a ≡ block b x m)

abbrev pub IsDecode : Action → Type 0
IsDecode a = (x : Info) × (o : Operand) × (t : Tail) × (w : Info) × (b : Info) × (c : Alternatives) × (a ≡ decode x o t w b c)
