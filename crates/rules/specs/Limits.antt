-- Every limit of document 01, named once, with the number of the refusal that guards it.
use Rattle.std.specs.Prelude.{ℕ}

-- 2: bytes of a text
abbrev pub longest_text : ℕ
longest_text = 32768

-- 11: bytes of a name
abbrev pub longest_name : ℕ
longest_name = 32

-- 12, 31 and 43: bits of a constant, of a declaration, of a value
abbrev pub most_bits : ℕ
most_bits = 64

-- 13: tokens
abbrev pub most_tokens : ℕ
most_tokens = 8192

-- 21: open brackets
abbrev pub deepest : ℕ
deepest = 32

-- 31: a bit or word name
abbrev pub largest_name : ℕ
largest_name = 4095

-- 32: declarations, and words in total
abbrev pub most_declarations : ℕ
most_declarations = 256

abbrev pub most_words : ℕ
most_words = 4096

-- 45: alternatives of a DECODE
abbrev pub most_alternatives : ℕ
most_alternatives = 64

-- 51: bodies in a chain of activations
abbrev pub longest_chain : ℕ
longest_chain = 16

-- steps that a budget can hold
abbrev pub most_steps : ℕ
most_steps = 4294967295
