-- The sentence of a refusal number. Document 02, No. 2: "Every refusal number has its own sentence, grouped by tens."
use Rattle.std.specs.Prelude.{ℕ, zero, suc, ◌/◌, true, false, List, [], ◌∷◌, eqb}
use Prim.Native.String.{String}
use Rattle.rules.specs.Text.Bytes.{bytes}

pub record Sentence : Type 0 where
  pub number : ℕ
  pub says : List ℕ

abbrev pub say : ℕ → String → Sentence
say n s = record { number = n; says = bytes s }

-- what is said of a number, nothing if it is not listed
unfoldable pub among : List Sentence → ℕ → List ℕ
among [] n = []
among (s ∷ ss) n = elim (eqb n s.number) [ true ↦ s.says | false ↦ among ss n ]

-- the call
unfoldable pub call_sentences : List Sentence
call_sentences =
    say 1 "the memory that is lent is too short: each of the three work buffers takes 65,536 bytes, the answer 32, the reason 96"
    ∷ say 2 "the text has more than 32,768 bytes; shorten its comments, or divide the description"
    ∷ []

-- bytes and tokens
unfoldable pub token_sentences : List Sentence
token_sentences =
    say 10 "this byte or mark does not belong to the notation; take it out or replace it (a comment has only tabs, line ends and printable ASCII)"
    ∷ say 11 "this name has more than 32 bytes; shorten it wherever it stands"
    ∷ say 12 "this constant is malformed or has over 64 bits; check its digits (' binary, # octal, \" hexadecimal, else decimal without ?) and what follows them"
    ∷ say 13 "this is token 8,193, and a text has at most 8,192; shorten the description, or divide it"
    ∷ []

-- the grammar
unfoldable pub grammar_sentences : List Sentence
grammar_sentences =
    say 20 "a description cannot go on like this; add what is missing before this point, or take out what stands here"
    ∷ say 21 "BEGIN, ( and [ are open more than 32 deep here; move the inner part into a body of its own, or work it out in a transfer before"
    ∷ []

-- declarations
unfoldable pub declaration_sentences : List Sentence
declaration_sentences =
    say 30 "this name is declared already, or is the name of the description; choose another one"
    ∷ say 31 "this declaration has more than 64 bits, or a bit or word name above 4,095; make it shorter, or number it lower"
    ∷ say 32 "this is declaration 257, or it brings the words of all carriers above 4,096; take declarations out, or make an array smaller"
    ∷ say 33 "this mapping does not fit; its target must be declared, no array and no mapping, and have the named bits, as many and the same way round"
    ∷ []

-- bodies
unfoldable pub body_sentences : List Sentence
body_sentences =
    say 40 "this name is not declared; declare it, or correct its spelling"
    ∷ say 41 "this name is not used as it is declared; an array takes a subscript [ ] and nothing else does, only bits are read or written, only a body takes ( )"
    ∷ say 42 "these bits are not among the declared ones, or run the other way round; name them as the declaration has them"
    ∷ say 43 "more than 64 bits come together at this operator; take shorter operands, or join fewer of them"
    ∷ say 44 "this label is in the body already or is a declared name, or this LEAVE or RESTART aims at no label around it nor at its body; choose another name"
    ∷ say 45 "this alternative is the 65th, has a selector that the tested bits cannot hold, or overlaps one before it; correct its selector"
    ∷ say 46 "this carrier is stored twice by one transfer, perhaps through a mapping; store it once, or make two transfers"
    ∷ []

-- the whole description
unfoldable pub whole_sentences : List Sentence
whole_sentences =
    say 50 "MAIN must stand before one body, the one that a run starts with; add it where it is missing, or take this second one out"
    ∷ say 51 "activations that start with this body come back to a body that is still active, or go more than 16 bodies deep; take one activation out"
    ∷ say 52 "a member may not end what those beside it still do; aim LEAVE and RESTART inside the member, and put NEXT instead of ; before what comes to STOP()"
    ∷ say 53 "this member and an earlier one go on at the same time, and one writes what the other uses, itself or in a body; put NEXT between them instead of ;"
    ∷ []

-- carriers
unfoldable pub carrier_sentences : List Sentence
carrier_sentences =
    say 60 "the carriers do not have 8 bytes for each word of the description; lend just as many"
    ∷ say 61 "this word of the carriers has a bit set above its declared length; clear it"
    ∷ []

-- those of a ten
unfoldable pub ten : ℕ → List Sentence
ten zero = call_sentences
ten (suc zero) = token_sentences
ten (suc (suc zero)) = grammar_sentences
ten (suc (suc (suc zero))) = declaration_sentences
ten (suc (suc (suc (suc zero)))) = body_sentences
ten (suc (suc (suc (suc (suc zero))))) = whole_sentences
ten (suc (suc (suc (suc (suc (suc zero)))))) = carrier_sentences
ten (suc (suc (suc (suc (suc (suc (suc more))))))) = []

unfoldable pub sentence : ℕ → List ℕ
sentence n = among (ten (n / 10)) n
