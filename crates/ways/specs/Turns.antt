-- The alternatives of a DECODE one by one: what stands behind a separator, with or without selectors.
use Rattle.std.specs.Prelude.{ℕ, suc, ◌+◌, ◌<◌, ◌≡◌, Bool, List, [], ◌∷◌, length, drop}
use Rattle.rules.specs.Text.Tokens.{kind_no, Info, tk, Const, Masked, LBra, Becomes, END, OTHERWISE}
use Rattle.rules.specs.Grammar.Trees.{Tokens, Selector, selector_tokens, Action, action_tokens, Counted, counted_tokens, SelectedMore, selected_more_tokens}
use Rattle.rules.specs.Whole.Sets.{member}
use Rattle.rules.specs.Declarations.{Word, Table}
use Rattle.laws_grammar.specs.Cited.Nesting.{counted_nest, selected_more_nest}
use Rattle.laws_orders.specs.Cited.Flat.{Link, Labels}
use Rattle.laws_code.specs.Cited.Code.{action_size, selector_size, first_of}
use Rattle.records.specs.Holds.{inside_cell, link_cell}
use Rattle.ways.specs.Seeking.{Ground, Stands}
use Rattle.records.specs.Kept.{Kept}
use Rattle.ways.specs.Linked.{Linked, CountedLinked, MoreLinked, Separates}

-- what stands before the action: nothing, a selector and `:=`, or OTHERWISE and `:=`
pub data Lead : Type 0 where
  no_lead : Lead
  chosen : Selector → Info → Lead
  other : Info → Info → Lead

abbrev pub lead_tokens : Lead → Tokens → Tokens
lead_tokens no_lead ts = ts
lead_tokens (chosen s b) ts = selector_tokens s (tk Becomes b ∷ ts)
lead_tokens (other x b) ts = tk OTHERWISE x ∷ tk Becomes b ∷ ts

-- where the action begins, behind the separator p
abbrev pub lead_end : ℕ → Lead → ℕ
lead_end p no_lead = suc p
lead_end p (chosen s b) = suc (suc p + selector_size s)
lead_end p (other x b) = suc (suc (suc p))

-- what stands behind the action
pub data More : Type 0 where
  counting : Counted → More
  selecting : SelectedMore → More
  last : Info → More

abbrev pub more_tokens : More → Tokens → Tokens
more_tokens (counting c) ts = counted_tokens c ts
more_tokens (selecting m) ts = selected_more_tokens m ts
more_tokens (last e) ts = tk END e ∷ ts

abbrev pub more_nest : More → ℕ
more_nest (counting c) = counted_nest c
more_nest (selecting m) = selected_more_nest m
more_nest (last e) = 0

pub record Turn : Type 0 where
  pub lead : Lead
  pub action : Action
  pub more : More

abbrev pub turn_tokens : Turn → Tokens → Tokens
turn_tokens t ts = lead_tokens t.lead (action_tokens t.action (more_tokens t.more ts))

-- the links of what stands behind a separator
module _ (records : List ℕ) (outermost : Word) (ds : Table) where
  abbrev pub LaterLinked : Labels → ℕ → Link → More → Type 0
  LaterLinked ρ p k (counting c) = CountedLinked records outermost ds ρ p k c
  LaterLinked ρ p k (selecting m) = MoreLinked records outermost ds ρ p k m
  LaterLinked ρ p k (last e) = Unit {0}

  abbrev pub TurnLinked : Labels → ℕ → Link → Turn → Type 0
  TurnLinked ρ p k t =
      let j = lead_end p t.lead in
      Separates records outermost ds p (first_of j t.action) (j + action_size t.action)
      × Linked records outermost ds ρ j k t.action × LaterLinked ρ (j + action_size t.action) k t.more

-- an alternative stands behind the separator p
pub record AlternativeAt (g : Ground) (records : List ℕ) (p : ℕ) : Type 0 where
  pub holds : Stands g records
  pub turn : Turn
  pub rest : Tokens
  pub below : p < length g.tokens
  pub reads : drop (p + 1) g.tokens ≡ turn_tokens turn rest

-- its extent, with the links of the separator
pub record Extends {g : Ground} {records : List ℕ} {p : ℕ} (v : AlternativeAt g records p) (now : List ℕ) (from end first : ℕ) : Type 0 where
  pub kept : Kept records now p (p + 1)
  pub from_is : from ≡ lead_end p v.turn.lead
  pub end_is : end ≡ from + action_size v.turn.action
  pub first_is : first ≡ first_of from v.turn.action
  pub reads_action : drop from g.tokens ≡ action_tokens v.turn.action (more_tokens v.turn.more v.rest)
  pub reads_end : drop end g.tokens ≡ more_tokens v.turn.more v.rest
  pub inside_is : inside_cell now p ≡ first_of from v.turn.action
  pub link_is : link_cell now p ≡ end

-- the first token behind a separator tells whether a selector stands there
unfoldable pub selects : ℕ → Bool
selects k = member k (kind_no Const ∷ kind_no Masked ∷ kind_no LBra ∷ kind_no OTHERWISE ∷ [])

-- where the action of an alternative begins
pub record Behind-lead {g : Ground} {records : List ℕ} {p : ℕ} (v : AlternativeAt g records p) (r : ℕ) : Type 0 where
  pub is : r ≡ lead_end p v.turn.lead
  pub reads : drop r g.tokens ≡ action_tokens v.turn.action (more_tokens v.turn.more v.rest)
