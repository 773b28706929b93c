-- Declarations, storage and carriers.
use Rattle.std.specs.Prelude.{ℕ, zero, suc, ◌+◌, ◌-◌, min, max, true, false, ◌&&◌, List, [], ◌∷◌, leb}
use Rattle.std.proofs.Math.Option.{Option, none, some}
use Rattle.std.proofs.Math.ListN.{get_elem?}
use Rattle.rules.specs.Text.Tokens.{Info}
use Rattle.rules.specs.Text.Scan.{same_bytes}
use Rattle.rules.specs.Grammar.Trees.{BitsEnd, bit, upto, Bits, all_bits, bits, OwnBits, unnamed, named, Action, block, body, mapped, Given, carrier, given}
use Rattle.rules.specs.Grammar.Trees.{words, with_bits, bare_body, MainBits, bitless, main_bits, Declaration, plain, main, Declarations, declared_all, declared_also, Description, description}

-- a name, as its bytes
abbrev pub Word : Type 0
Word = List ℕ

-- names of bits or words from left to right, either way round; `<5>` is from 5 to 5
pub record Names : Type 0 where
  pub left : ℕ
  pub right : ℕ

abbrev pub names : ℕ → ℕ → Names
names l r = record { left = l; right = r }

unfoldable pub how_many : Names → ℕ
how_many s = max s.left s.right - min s.left s.right + 1

-- how far a name stands from the left one; none if it is outside
unfoldable pub from_left : Names → ℕ → Option ℕ
from_left s n =
    elim (leb (min s.left s.right) n && leb n (max s.left s.right))
    [ true ↦ elim (leb s.left s.right) [ true ↦ some (n - s.left) | false ↦ some (s.left - n) ] | false ↦ none ]

-- how far it stands from the right one: the bit's weight
unfoldable pub from_right : Names → ℕ → ℕ
from_right s n = elim (leb s.left s.right) [ true ↦ s.right - n | false ↦ n - s.right ]

-- the bits of a declaration: one without a name, or named ones
pub data BitNames : Type 0 where
  one_unnamed : BitNames
  these : Names → BitNames

unfoldable pub bit_count : BitNames → ℕ
bit_count one_unnamed = 1
bit_count (these s) = how_many s

-- what a mapping lies on
pub record Target : Type 0 where
  pub name : Info
  pub bits : Names

pub record Declared : Type 0 where
  pub name : Info
  pub mainly : Option Info
  pub words : Option Names
  pub bits : Option BitNames
  pub target : Option Target
  pub body : Option Action

abbrev pub names_of : Info → BitsEnd → Names
names_of n (bit g) = names n.value n.value
names_of n (upto c m g) = names n.value m.value

abbrev pub own_names : OwnBits → BitNames
own_names (unnamed g) = one_unnamed
own_names (named n e) = these (names_of n e)

abbrev pub carrier_with : Info → Option Names → BitNames → Declared
carrier_with n w b = record { name = n; mainly = none; words = w; bits = some b; target = none; body = none }

abbrev pub body_with : Info → Option Info → Option BitNames → Action → Declared
body_with n i b a = record { name = n; mainly = i; words = none; bits = b; target = none; body = some a }

abbrev pub mapping_on : Info → BitNames → Target → Declared
mapping_on n b t = record { name = n; mainly = none; words = none; bits = some b; target = some t; body = none }

abbrev pub given_bits : Info → BitNames → Given → Declared
given_bits n b carrier = carrier_with n none b
given_bits n b (given e (body g a m)) = body_with n none (some b) (block g a m)
given_bits n b (given e (mapped t l c r)) = mapping_on n b (record { name = t; bits = names_of c r })

abbrev pub main_names : MainBits → Option BitNames
main_names bitless = none
main_names (main_bits l o) = some (own_names o)

abbrev pub declared_of : Declaration → Declared
declared_of (plain n (words l f c t r b o)) = carrier_with n (some (names f.value t.value)) (own_names o)
declared_of (plain n (with_bits l o g)) = given_bits n (own_names o) g
declared_of (plain n (bare_body e g a m)) = body_with n none none (block g a m)
declared_of (main i n o e g a m) = body_with n (some i) (main_names o) (block g a m)

abbrev pub Table : Type 0
Table = List Declared

unfoldable pub rest_of : Declarations → Table
rest_of (declared_all e) = []
rest_of (declared_also c h d ds) = declared_of d ∷ rest_of ds

-- the declarations in their order, and the outer name
unfoldable pub declarations : Description → Table
declarations (description n e b h d ds) = declared_of d ∷ rest_of ds

abbrev pub outer_name : Description → Info
outer_name (description n e b h d ds) = n

-- the number of the first declaration of a name
unfoldable pub number_from : ℕ → Word → Table → Option ℕ
number_from i n [] = none
number_from i n (d ∷ ds) = elim (same_bytes d.name.word n) [ true ↦ some i | false ↦ number_from (suc i) n ds ]

unfoldable pub number_of : Table → Word → Option ℕ
number_of ds n = number_from 0 n ds

-- Storage: carriers, and bodies with bits of their own. "A mapping adds no word."
unfoldable pub storage_words : Option Target → Option BitNames → Option Names → ℕ
storage_words (some t) b w = 0
storage_words none none w = 0
storage_words none (some b) none = 1
storage_words none (some b) (some s) = how_many s

abbrev pub words_of : Declared → ℕ
words_of d = storage_words d.target d.bits d.words

unfoldable pub total_words : Table → ℕ
total_words [] = 0
total_words (d ∷ ds) = words_of d + total_words ds

-- "Words lie in declaration order": the words of those before number i
unfoldable pub first_word : Table → ℕ → ℕ
first_word [] i = 0
first_word (d ∷ ds) zero = 0
first_word (d ∷ ds) (suc i) = words_of d + first_word ds i

-- What a name in an access reaches: the storage carrier of this number, whose words begin there and have these names; in each of them as many bits
-- from `low` up, with these names.
pub record Reach : Type 0 where
  pub owner : ℕ
  pub first : ℕ
  pub words : Option Names
  pub low : ℕ
  pub bits : BitNames

unfoldable pub reach_storage : Table → ℕ → Declared → Option BitNames → Option Reach
reach_storage ds i d none = none
reach_storage ds i d (some b) = some (record { owner = i; first = first_word ds i; words = d.words; low = 0; bits = b })

-- where bits lie among the declared ones: how far the last of them stands from the right
unfoldable pub low_bit : BitNames → Names → ℕ
low_bit one_unnamed s = 0
low_bit (these b) s = from_right b s.right

-- the bits b of a mapping that lies on the bits s of a declaration, which is storage itself
unfoldable pub reach_on : Table → BitNames → Names → ℕ → Option Target → Option BitNames → Option Reach
reach_on ds b s i (some t) c = none
reach_on ds b s i none none = none
reach_on ds b s i none (some c) = some (record { owner = i; first = first_word ds i; words = none; low = low_bit c s; bits = b })

unfoldable pub reach_under : Table → BitNames → Names → Option ℕ → Option Reach
reach_under ds b s none = none
reach_under ds b s (some i) = elim (get_elem? ds i) [ none ↦ none | some d ↦ reach_on ds b s i d.target d.bits ]

unfoldable pub reach_of : Table → ℕ → Declared → Option Target → Option Reach
reach_of ds i d none = reach_storage ds i d d.bits
reach_of ds i d (some t) = elim d.bits [ none ↦ none | some b ↦ reach_under ds b t.bits (number_of ds t.name.word) ]

unfoldable pub reach_number : Table → Option ℕ → Option Reach
reach_number ds none = none
reach_number ds (some i) = elim (get_elem? ds i) [ none ↦ none | some d ↦ reach_of ds i d d.target ]

-- a mapping reaches the carrier under it
unfoldable pub reach : Table → Word → Option Reach
reach ds n = reach_number ds (number_of ds n)

-- the body of a name
unfoldable pub body_number : Table → Option ℕ → Option Action
body_number ds none = none
body_number ds (some i) = elim (get_elem? ds i) [ none ↦ none | some d ↦ d.body ]

unfoldable pub body_of : Table → Word → Option Action
body_of ds n = body_number ds (number_of ds n)

-- the bits of an access: all that the name reaches, or the named ones
unfoldable pub access_low : Reach → Bits → ℕ
access_low r all_bits = r.low
access_low r (bits l n e) = r.low + low_bit r.bits (names_of n e)

unfoldable pub access_bits : Reach → Bits → ℕ
access_bits r all_bits = bit_count r.bits
access_bits r (bits l n e) = how_many (names_of n e)
