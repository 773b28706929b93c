-- The third buffer while words are looked up: a cell of two bytes for each head, then two for the children of each token.
use Rattle.std.specs.Prelude.{ℕ, ◌+◌, ◌*◌}
use Rattle.rules.specs.Limits.{most_tokens}

abbrev pub heads : ℕ
heads = 256

-- the bytes that are needed
abbrev pub room_size : ℕ
room_size = 2 * (heads + 2 * most_tokens)
