-- A block and a DECODE that stand in the table, behind the prefixes of an action.
use Rattle.std.specs.Prelude.{ℕ, ◌≡◌, List}
use Rattle.rules.specs.Text.Tokens.{BEGIN, DECODE}
use Rattle.laws_grammar.specs.Cited.Heads.{head_kind}
use Rattle.ways.specs.Seeking.{Ground}
use Rattle.ways.specs.Standing.{ActionAt}

pub record BlockAt (g : Ground) (text records labels : List ℕ) (i link count first depth : ℕ) : Type 0 where
  pub view : ActionAt g records labels i link count first depth
  pub same_text : g.text ≡ text
  pub is_block : head_kind view.action ≡ BEGIN

pub record ChoiceAt (g : Ground) (text records labels : List ℕ) (i link count first depth : ℕ) : Type 0 where
  pub view : ActionAt g records labels i link count first depth
  pub same_text : g.text ≡ text
  pub is_choice : head_kind view.action ≡ DECODE
