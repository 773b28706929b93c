-- Trees at positions of a token list: `Stands f T i j` says that the tokens of T from i up to j are those that f writes.
-- For a tree, f is its tokens function: `ActionAt T i a j` is `Stands (action_tokens a) T i j`.
use Rattle.std.specs.Prelude.{◌≡◌, [], ℕ, ◌+◌, ◌≤◌, length, drop}
use Rattle.rules.specs.Grammar.Trees.{Tokens, Action, action_tokens}

-- the tokens of T from i up to j are those that f writes
pub record Stands (f : Tokens → Tokens) (T : Tokens) (i j : ℕ) : Type 0 where
  pub size : j ≡ i + length (f [])
  pub ends : j ≤ length T
  pub reads : drop i T ≡ f (drop j T)

abbrev pub ActionAt : Tokens → ℕ → Action → ℕ → Type 0
ActionAt T i a j = Stands (action_tokens a) T i j
