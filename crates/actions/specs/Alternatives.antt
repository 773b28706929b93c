-- The alternatives of a DECODE in the tables, under the names around them.
use Rattle.std.specs.Prelude.{ℕ, ◌+◌, ◌*◌, ◌<◌, ◌≤◌, ◌≡◌, Bool, ◌||◌, List, ◌∷◌, ◌++◌, eqb, length, drop}
use Rattle.rules.specs.Text.Tokens.{Token, Const, Masked, LBra, OTHERWISE, kind_no}
use Rattle.rules.specs.Grammar.Trees.{Tokens, Action, Counted, Selected, Alternatives, counted, selected, alternatives_tokens}
use Rattle.rules.specs.Limits.{most_bits, deepest}
use Rattle.rules.specs.Faults.Fault.{Fault}
use Rattle.rules.specs.Faults.Bodies.{alternatives_faults, inside_faults}
use Rattle.laws_grammar.specs.Cited.Nesting.{alternatives_nest}
use Rattle.keys.specs.Keys.{least_key}
use Rattle.stacks.specs.Stacks.{stacked_words, Stacked}
use Rattle.room.specs.Bodies.{index_end}
use Rattle.plain.specs.declared.Walked.{Walked}
use Rattle.plain.specs.Stage.{Stage, outer_of, table_of}

-- the kinds that begin a selector: a constant, a constant with `?`, `[`, OTHERWISE
abbrev pub is_selector : ℕ → Bool
is_selector k = ((eqb k (kind_no Const) || eqb k (kind_no Masked)) || eqb k (kind_no LBra)) || eqb k (kind_no OTHERWISE)

abbrev pub IsCounted : Alternatives → Type 0
IsCounted v = (a : Action) × (c : Counted) × (v ≡ counted a c)

abbrev pub IsSelected : Alternatives → Type 0
IsSelected v = (s : Selected) × (v ≡ selected s)

-- alternatives stand from i on, for a test of this length
pub record ChoicesView (text records values decls room : List ℕ) (i count depth bits : ℕ) : Type 0 where
  pub stage : Stage text records values decls
  pub alternatives : Alternatives
  pub next : Token
  pub rest : Tokens
  pub reads : drop i stage.tokens ≡ alternatives_tokens alternatives (next ∷ rest)
  pub shallow : alternatives_nest alternatives ≤ depth
  pub bounded : depth + 1 ≤ deepest
  pub stacked : Stacked records stage.tokens room count
  pub low : count ≤ i
  pub large : 2 * index_end ≤ length room
  pub few : bits ≤ most_bits

module _ {text records values decls room : List ℕ} {i count depth bits : ℕ} (v : ChoicesView text records values decls room i count depth bits) where
  abbrev pub choices_faults : List Fault
  choices_faults = alternatives_faults bits v.alternatives
      ++ inside_faults (outer_of v.stage) (table_of v.stage) (stacked_words v.stage.tokens room count) v.alternatives

  pub record ChoicesAnswer (r : Walked) : Type 0 where
    pub key : r.key ≡ least_key choices_faults
    pub past : i < r.next
    pub behind : drop r.next v.stage.tokens ≡ v.next ∷ v.rest
