-- The alternatives of a DECODE one by one, from a separator on: what stands there, and what is done.
use Rattle.std.specs.Prelude.{ℕ, ◌+◌, ◌<◌, ◌≤◌, ◌≡◌, List, length, drop, Option, Some, None}
use Rattle.rules.specs.Grammar.Trees.{Tokens}
use Rattle.laws_grammar.specs.Cited.Nesting.{action_nest}
use Rattle.laws_code.specs.Cited.Code.{size}
use Rattle.ways.specs.Seeking.{Ground}
use Rattle.records.specs.Kept.{Kept}
use Rattle.ways.specs.Linked.{Same}
use Rattle.ways.specs.Stack.{LabelsKept}
use Rattle.links.specs.Setting.{Setting}
use Rattle.ways.specs.Turns.{more_nest, Turn, turn_tokens, TurnLinked}

-- an alternative stands behind the separator p, with those behind it; control goes behind the DECODE by the link
pub record TurnsAt (g : Ground) (records labels : List ℕ) (p link count depth : ℕ) : Type 0 where
  pub setting : Setting g records labels p link count
  pub turn : Turn
  pub rest : Tokens
  pub below : p < length g.tokens
  pub reads : drop (p + 1) g.tokens ≡ turn_tokens turn rest
  pub action_shallow : action_nest turn.action < depth
  pub more_shallow : more_nest turn.more < depth

-- what stands behind the DECODE begins there
abbrev pub stop_of : {g : Ground} {records labels : List ℕ} {p link count depth : ℕ} → TurnsAt g records labels p link count depth → ℕ
stop_of {p = p} v = p + 1 + size (turn_tokens v.turn)

-- the links of all of them are written, and nothing else
pub record TurnsDone {g : Ground} {records labels : List ℕ} {p link count depth : ℕ} (v : TurnsAt g records labels p link count depth) (now after : List ℕ) : Type 0 where
  pub linked : TurnLinked now g.outer g.table v.setting.around p v.setting.behind v.turn
  pub kept : Kept records now p (stop_of v)
  pub stack : LabelsKept labels after count

-- some are passed: the rest stands at p', and its links make those of all
pub record TurnsLeft {g : Ground} {records labels : List ℕ} {p link count depth : ℕ} (v : TurnsAt g records labels p link count depth) (records' labels' : List ℕ) (p' : ℕ)
    : Type 0 where
  pub now : TurnsAt g records' labels' p' link count depth
  pub onward : p ≤ p'
  pub same_rest : length now.rest ≡ length v.rest
  pub kept : Kept records records' p p'
  pub stack : LabelsKept labels labels' count
  pub whole : (later : List ℕ) → Same records' later p p'
      → TurnLinked later g.outer g.table now.setting.around p' now.setting.behind now.turn
      → TurnLinked later g.outer g.table v.setting.around p v.setting.behind v.turn

-- one of them, and the separator behind it, if there is one
pub record TurnAnswer {g : Ground} {records labels : List ℕ} {p link count depth : ℕ} (v : TurnsAt g records labels p link count depth) (records' labels' : List ℕ) (next : Option ℕ)
    : Type 0 where
  pub done : next ≡ None → TurnsDone v records' labels'
  pub left : (p' : ℕ) → next ≡ Some p' → TurnsLeft v records' labels' p'
  pub further_on : (p' : ℕ) → next ≡ Some p' → p < p'
