-- Actions with no action inside: jumps, activations, STOP, NO.OP and transfers.
use Rattle.std.specs.Prelude.{ℕ, ◌≡◌, false, List}
use Rattle.rules.specs.Text.Tokens.{Name, BEGIN, DECODE}
use Rattle.laws_grammar.specs.Cited.Heads.{head_kind}
use Rattle.ways.specs.Seeking.{Ground}
use Rattle.ways.specs.Standing.{ActionAt}
use Rattle.ways.specs.Prefixes.{prefixed}

-- it begins with a name, and that is no label
abbrev pub Named : {g : Ground} {records labels : List ℕ} {i link count first depth : ℕ} → ActionAt g records labels i link count first depth → Type 0
Named v = (head_kind v.action ≡ Name) × (prefixed v.action ≡ false)

pub record LeafAt (g : Ground) (text records labels : List ℕ) (i link count first depth : ℕ) : Type 0 where
  pub view : ActionAt g records labels i link count first depth
  pub same_text : g.text ≡ text
  pub bare : prefixed view.action ≡ false
  pub no_block : head_kind view.action ≡ BEGIN → ⊥
  pub no_choice : head_kind view.action ≡ DECODE → ⊥
