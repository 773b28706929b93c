-- Labels, IF and REPEAT in front of an action: their links, and what is left when they are passed.
use Rattle.std.specs.Prelude.{ℕ, ◌+◌, ◌≤◌, ◌≡◌, Bool, true, false, List, drop}
use Rattle.rules.specs.Text.Tokens.{Info}
use Rattle.rules.specs.Grammar.Trees.{Tokens, Operand, Tail, Action, block, labelled, if_then, decode, repeat, leave, restart, activate, stop, no_op, transfer, action_tokens}
use Rattle.laws_code.specs.Cited.Code.{action_size, first_of, behind_test}
use Rattle.records.specs.Holds.{inside_cell, link_cell}
use Rattle.ways.specs.Seeking.{Ground, Stands}
use Rattle.records.specs.Kept.{Kept}
use Rattle.ways.specs.Linked.{Linked, Same}
use Rattle.ways.specs.Stack.{LabelsKept}
use Rattle.ways.specs.Standing.{ActionAt}

abbrev pub prefixed : Action → Bool
prefixed (block b a m) = false
prefixed (labelled n b a) = true
prefixed (if_then x o t w a) = true
prefixed (decode x o t w b v) = false
prefixed (repeat x a) = true
prefixed (leave x n) = false
prefixed (restart x n) = false
prefixed (activate n l r) = false
prefixed (stop x l r) = false
prefixed (no_op x l r) = false
prefixed (transfer n s b j e o t) = false

-- IF at i
pub record TestAt (g : Ground) (records : List ℕ) (i : ℕ) : Type 0 where
  pub holds : Stands g records
  pub keyword : Info
  pub operand : Operand
  pub tail : Tail
  pub arrow_info : Info
  pub action : Action
  pub rest : Tokens
  pub reads : drop i g.tokens ≡ action_tokens (if_then keyword operand tail arrow_info action) rest

pub record TestPut {g : Ground} {records : List ℕ} {i : ℕ} (v : TestAt g records i) (now : List ℕ) (link r first : ℕ) : Type 0 where
  pub kept : Kept records now i (i + 1)
  pub to : r ≡ behind_test i v.operand v.tail
  pub reads : drop r g.tokens ≡ action_tokens v.action v.rest
  pub first_is : first ≡ first_of r v.action
  pub inside_is : inside_cell now i ≡ first_of r v.action
  pub link_is : link_cell now i ≡ link

-- REPEAT at i
pub record TurnAt (g : Ground) (records : List ℕ) (i : ℕ) : Type 0 where
  pub holds : Stands g records
  pub keyword : Info
  pub action : Action
  pub rest : Tokens
  pub reads : drop i g.tokens ≡ action_tokens (repeat keyword action) rest

pub record TurnPut {g : Ground} {records : List ℕ} {i : ℕ} (v : TurnAt g records i) (now : List ℕ) (first : ℕ) : Type 0 where
  pub kept : Kept records now i (i + 1)
  pub first_is : first ≡ first_of (i + 1) v.action
  pub link_is : link_cell now i ≡ first_of (i + 1) v.action

-- behind some of them: what is left of the action, and that its links make those of the whole
pub record Prefixed {g : Ground} {records labels : List ℕ} {i link count first depth : ℕ} (v : ActionAt g records labels i link count first depth)
    (records' labels' : List ℕ) (i' link' count' first' : ℕ) : Type 0 where
  pub now : ActionAt g records' labels' i' link' count' first' depth
  pub size_left : i' + action_size now.action ≡ i + action_size v.action
  pub onward : i ≤ i'
  pub kept : Kept records records' i i'
  pub stack : LabelsKept labels labels' count
  pub fewer : count ≤ count'
  pub whole : (later : List ℕ) → Same records' later i i' → Linked later g.outer g.table now.around i' now.behind now.action
      → Linked later g.outer g.table v.around i v.behind v.action

pub record Bared {g : Ground} {records labels : List ℕ} {i link count first depth : ℕ} (v : ActionAt g records labels i link count first depth)
    (records' labels' : List ℕ) (i' link' count' first' : ℕ) : Type 0 where
  pub passed : Prefixed v records' labels' i' link' count' first'
  pub bare : prefixed passed.now.action ≡ false
