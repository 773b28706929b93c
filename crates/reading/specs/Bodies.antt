-- The body of a declaration in the table, and what it activates.
use Rattle.std.specs.Prelude.{ℕ, ◌<◌, ◌≡◌, List, drop, Option as Found, Some, None}
use Rattle.std.proofs.Math.Option.{none, some}
use Rattle.rules.specs.Text.Tokens.{Info}
use Rattle.rules.specs.Grammar.Trees.{Tokens, Action, block, action_tokens, Members}
use Rattle.rules.specs.Declarations.{Table, body_number}
use Rattle.rules.specs.Steps.Actions.{Act}
use Rattle.rules.specs.Steps.Runs.{act_or}
use Rattle.reading.specs.Reading.{Reading, table_of}

-- what the declaration of the number k does when it is activated
abbrev pub act_at : Table → ℕ → Act
act_at ds k = act_or (body_number ds (some k))

-- a body is a block
pub record Block (a : Action) : Type 0 where
  pub opens : Info
  pub first : Action
  pub others : Members
  pub is : a ≡ block opens first others

-- the body of the declaration k stands from b on
pub record Body {records decls : List ℕ} {m n : ℕ} (v : Reading records decls m n) (k : ℕ) (b : Found ℕ) : Type 0 where
  pub missing : b ≡ None → body_number (table_of v) (some k) ≡ none
  pub past : {s : ℕ} → b ≡ Some s → 0 < s
  pub there : {s : ℕ} → b ≡ Some s → (a : Action) × (body_number (table_of v) (some k) ≡ some a) × Block a × ((rest : Tokens) × (drop s v.tokens ≡ action_tokens a rest))
