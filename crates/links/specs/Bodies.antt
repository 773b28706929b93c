-- The bodies one after the other: what is known of each before it is linked, and what of those before it.
use Rattle.std.specs.Prelude.{ℕ, ◌+◌, ◌*◌, ◌<◌, ◌≤◌, ◌≡◌, true, List, ◌∷◌, length, drop}
use Rattle.std.proofs.Math.Option.{some}
use Rattle.std.proofs.Math.ListN.{get_elem?}
use Rattle.rules.specs.Text.Tokens.{Token}
use Rattle.rules.specs.Grammar.Trees.{Tokens, Action, action_tokens, Declaration, Description}
use Rattle.rules.specs.Limits.{deepest}
use Rattle.laws_grammar.specs.Cited.Nesting.{action_nest}
use Rattle.laws_orders.specs.Cited.Flat.{exit, outer, bind}
use Rattle.laws_code.specs.Cited.Code.{action_size, first_of}
use Rattle.records.specs.Holds.{link_cell}
use Rattle.records.specs.Words.{NameAt, word_at}
use Rattle.table.specs.Declarations.{declaration_list}
use Rattle.table.specs.Ready.{Ready}
use Rattle.table.specs.Scans.{no as kind_of, separates}
use Rattle.spelling.specs.Spelled.{Spelled}
use Rattle.ways.specs.Seeking.{Ground, Stands}
use Rattle.records.specs.Kept.{Kept}
use Rattle.ways.specs.Linked.{Linked}
use Rattle.room.specs.Links.{hints_end}
use Rattle.ways.specs.Standing.{Meant}
use Rattle.links.specs.Layout.{ends}
use Rattle.links.specs.Links.{DeclarationLinked}

-- a body stands in the table, its name before it
pub record BodyIn (g : Ground) (text records labels : List ℕ) (name start : ℕ) : Type 0 where
  pub same_text : g.text ≡ text
  pub holds : Stands g records
  pub room : 2 * hints_end ≤ length labels
  pub named : NameAt g.tokens name
  pub past : name < start
  pub far : 2 ≤ start
  pub action : Action
  pub next : Token
  pub rest : Tokens
  pub reads : drop start g.tokens ≡ action_tokens action (next ∷ rest)
  pub ends : separates (kind_of next) ≡ true
  pub means : Meant g records name
  pub shallow : action_nest action ≤ deepest

pub record BodyDone {g : Ground} {text records labels : List ℕ} {name start : ℕ} (v : BodyIn g text records labels name start) (now : List ℕ) : Type 0 where
  pub first : link_cell now name ≡ first_of start v.action
  pub linked : Linked now g.outer g.table (bind (word_at g.tokens name) (first_of start v.action) exit outer) start exit v.action
  pub kept : Kept records now name (start + action_size v.action)

-- the bodies of the first k declarations are linked, and nothing behind these is changed
pub record Partly (before now decls : List ℕ) (d : Description) (k : ℕ) : Type 0 where
  pub kept : Kept before now 0 (ends k d)
  pub each : (j : ℕ) (x : Declaration) → get_elem? (declaration_list d) j ≡ some x → j < k → DeclarationLinked now decls d j x

pub record PartlyAt (text records decls labels : List ℕ) (k : ℕ) : Type 0 where
  pub before : List ℕ
  pub values : List ℕ
  pub tokens : Tokens
  pub description : Description
  pub count : ℕ
  pub ready : Ready text before values decls tokens description count
  pub spelled : Spelled before tokens
  pub so_far : Partly before records decls description k
  pub more : k < count
  pub space : 2 * hints_end ≤ length labels
