-- An action that stands in the table, with the labels around it and the link behind it.
use Rattle.std.specs.Prelude.{ℕ, ◌+◌, ◌*◌, ◌<◌, ◌≤◌, ◌≡◌, true, List, ◌∷◌, length, drop}
use Rattle.rules.specs.Text.Tokens.{Name, Token}
use Rattle.rules.specs.Grammar.Trees.{Tokens, Action, action_tokens}
use Rattle.laws_grammar.specs.Cited.Nesting.{action_nest}
use Rattle.laws_orders.specs.Cited.Flat.{Link, Labels}
use Rattle.laws_code.specs.Cited.Code.{action_size, first_of}
use Rattle.records.specs.Holds.{token_at, inside_cell, link_cell}
use Rattle.records.specs.Words.{word_at}
use Rattle.table.specs.Meaning.{meaning_of}
use Rattle.promise.specs.Instructions.{link_no}
use Rattle.table.specs.Scans.{no, separates}
use Rattle.ways.specs.Seeking.{Ground, Stands}
use Rattle.records.specs.Kept.{Kept}
use Rattle.ways.specs.Linked.{Linked}
use Rattle.ways.specs.Stack.{LabelsHold, LabelsKept}
use Rattle.room.specs.Links.{hints_end}

-- the names from the token i on have their meanings and their spellings
abbrev pub Meant : Ground → List ℕ → ℕ → Type 0
Meant g records i =
    (t : ℕ) → i ≤ t → t < length g.tokens → (token_at g.tokens t).kind ≡ Name
    → (inside_cell records t ≡ meaning_of g.outer g.table (word_at g.tokens t)) × (link_cell records t ≡ g.spelling t)

pub record ActionAt (g : Ground) (records labels : List ℕ) (at link count first depth : ℕ) : Type 0 where
  pub holds : Stands g records
  pub around : Labels
  pub held : LabelsHold labels g count around
  pub room : 2 * hints_end ≤ length labels
  pub few : 2 * count ≤ at
  pub behind : Link
  pub link_is : link ≡ link_no behind
  pub link_fits : link < 65536
  pub action : Action
  pub next : Token
  pub rest : Tokens
  pub reads : drop at g.tokens ≡ action_tokens action (next ∷ rest)
  pub ends : separates (no next) ≡ true
  pub begins : first ≡ first_of at action
  pub means : Meant g records at
  pub shallow : action_nest action ≤ depth

-- its links are written, and nothing else
pub record Done {g : Ground} {records labels : List ℕ} {at link count first depth : ℕ} (v : ActionAt g records labels at link count first depth) (now after : List ℕ) : Type 0 where
  pub linked : Linked now g.outer g.table v.around at v.behind v.action
  pub kept : Kept records now at (at + action_size v.action)
  pub stack : LabelsKept labels after count
