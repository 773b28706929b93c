-- Where the bodies of a description stand among its tokens, and the code of the whole.
use Rattle.std.specs.Prelude.{ℕ, zero, suc, ◌+◌, length}
use Rattle.rules.specs.Grammar.Trees.{own_bits_tokens, body, mapped, carrier, given, words, with_bits, bare_body, main_bits_tokens, Declaration, plain, main, declaration_tokens, heading_tokens, Declarations, declared_all, declared_also, Description, description, flatten}
use Rattle.rules.specs.Declarations.{declarations}
use Rattle.laws_orders.specs.Cited.Flat.{Code}
use Rattle.laws_code.specs.Cited.Code.{size}
use Rattle.laws_code.specs.Cited.Bodies.{code_of}

-- the BEGIN of the body of a declaration whose first token is i; where it has none, i
unfoldable pub body_start : ℕ → Declaration → ℕ
body_start i (plain n (words l f c t r b o)) = i
body_start i (plain n (with_bits l o carrier)) = i
body_start i (plain n (with_bits l o (given e (body b a m)))) = suc (suc (suc i) + size (own_bits_tokens o))
body_start i (plain n (with_bits l o (given e (mapped t b c r)))) = i
body_start i (plain n (bare_body e b a m)) = suc (suc i)
body_start i (main x n o e b a m) = suc (suc (suc i) + size (main_bits_tokens o))

-- the same of each declaration behind `,` and its heading, by their numbers
unfoldable pub rest_starts : ℕ → Declarations → ℕ → ℕ
rest_starts i (declared_all e) n = i
rest_starts i (declared_also c h d ds) zero = body_start (suc i + size (heading_tokens h)) d
rest_starts i (declared_also c h d ds) (suc n) = rest_starts (suc i + size (heading_tokens h) + size (declaration_tokens d)) ds n

-- the outer name, `:=` and BEGIN stand before the first
unfoldable pub body_starts : Description → ℕ → ℕ
body_starts (description n e b h d ds) zero = body_start (3 + size (heading_tokens h)) d
body_starts (description n e b h d ds) (suc i) = rest_starts (3 + size (heading_tokens h) + size (declaration_tokens d)) ds i

-- the code of a description; the number behind its last token is that of no body
abbrev pub description_code : Description → Code
description_code d = code_of (declarations d) (body_starts d) (length (flatten d))
