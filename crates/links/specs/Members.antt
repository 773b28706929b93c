-- The members of a block one by one, from a member on: what stands there, and what is done.
use Rattle.std.specs.Prelude.{ℕ, ◌+◌, ◌<◌, ◌≤◌, ◌≡◌, List, length, drop, Option, Some, None}
use Rattle.rules.specs.Grammar.Trees.{Tokens, Action, action_tokens, Members, members_tokens}
use Rattle.rules.specs.Declarations.{Word, Table}
use Rattle.laws_grammar.specs.Cited.Nesting.{action_nest, members_nest}
use Rattle.laws_orders.specs.Cited.Flat.{Link, Labels}
use Rattle.laws_code.specs.Cited.Code.{size, action_size, first_of, behind}
use Rattle.ways.specs.Seeking.{Ground}
use Rattle.records.specs.Kept.{Kept}
use Rattle.ways.specs.Linked.{Linked, MembersLinked, Same}
use Rattle.ways.specs.Stack.{LabelsKept}
use Rattle.ways.specs.declared.prefixes.Start.{Start}
use Rattle.links.specs.Setting.{Setting}

abbrev pub RunLinked : List ℕ → Word → Table → Labels → ℕ → Link → Action → Members → Type 0
RunLinked records o ds ρ i k a m = Linked records o ds ρ i (behind (i + action_size a) k m) a × MembersLinked records o ds ρ (i + action_size a) k m

-- a member stands at `at`, with those behind it; control goes behind the block by the link
pub record MembersAt (g : Ground) (records labels : List ℕ) (at link count first depth : ℕ) : Type 0 where
  pub setting : Setting g records labels at link count
  pub action : Action
  pub members : Members
  pub rest : Tokens
  pub reads : drop at g.tokens ≡ action_tokens action (members_tokens members rest)
  pub begins : first ≡ first_of at action
  pub action_shallow : action_nest action < depth
  pub members_shallow : members_nest members < depth

-- what stands behind the block begins there
abbrev pub end_of : {g : Ground} {records labels : List ℕ} {i link count first depth : ℕ} → MembersAt g records labels i link count first depth → ℕ
end_of {i = i} v = i + (action_size v.action + size (members_tokens v.members))

-- the links of all of them are written, and nothing else
pub record MembersDone {g : Ground} {records labels : List ℕ} {i link count first depth : ℕ} (v : MembersAt g records labels i link count first depth) (now after : List ℕ)
    : Type 0 where
  pub linked : RunLinked now g.outer g.table v.setting.around i v.setting.behind v.action v.members
  pub kept : Kept records now i (end_of v)
  pub stack : LabelsKept labels after count

-- some are passed: the rest stands at i', and its links make those of all
pub record MembersLeft {g : Ground} {records labels : List ℕ} {i link count first depth : ℕ} (v : MembersAt g records labels i link count first depth)
    (records' labels' : List ℕ) (i' first' : ℕ) : Type 0 where
  pub now : MembersAt g records' labels' i' link count first' depth
  pub onward : i ≤ i'
  pub same_rest : length now.rest ≡ length v.rest
  pub kept : Kept records records' i i'
  pub stack : LabelsKept labels labels' count
  pub whole : (later : List ℕ) → Same records' later i i'
      → RunLinked later g.outer g.table now.setting.around i' now.setting.behind now.action now.members
      → RunLinked later g.outer g.table v.setting.around i v.setting.behind v.action v.members

-- one of them, and the one behind it, if there is one
pub record MemberAnswer {g : Ground} {records labels : List ℕ} {i link count first depth : ℕ} (v : MembersAt g records labels i link count first depth)
    (records' labels' : List ℕ) (next : Option Start) : Type 0 where
  pub done : next ≡ None → MembersDone v records' labels'
  pub left : (s : Start) → next ≡ Some s → MembersLeft v records' labels' s.at s.first
  pub further_on : (s : Start) → next ≡ Some s → i < s.at
