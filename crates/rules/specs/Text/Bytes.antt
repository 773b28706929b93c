-- Bytes and their classes. "A fixed table gives each of the 256 byte values its class. Allowed: 9, 10, 13 and 32 to 126."
use Rattle.std.specs.Prelude.{ℕ, ◌-◌, Bool, true, false, ◌&&◌, ◌||◌, not, List, [], ◌∷◌, leb, eqb}
use Prim.Native.Char.{code}
use Prim.Native.String.{String, [] as no-character, ◌∷◌ as ◌then◌}

-- the bytes of a text that is written out, as "NO.OP"
abbrev pub bytes : String → List ℕ
bytes no-character = []
bytes (c then s) = code c ∷ bytes s

-- what a byte can be: not allowed; a blank; `!`; part of a name; the prefix of a constant; `?`; the start of a mark; allowed, and none of these
pub data Class : Type 0 where
  forbidden blank exclamation letter digit dot prefix query mark other : Class

abbrev pub class_no : Class → ℕ
class_no forbidden = 0
class_no blank = 1
class_no exclamation = 2
class_no letter = 3
class_no digit = 4
class_no dot = 5
class_no prefix = 6
class_no query = 7
class_no mark = 8
class_no other = 9

-- the bytes from one to another are of a class
pub record Span : Type 0 where
  pub first : ℕ
  pub last : ℕ
  pub class : Class

abbrev range : ℕ → ℕ → Class → Span
range f l c = record { first = f; last = l; class = c }

abbrev pub ranges : List Span
ranges =
    range 9 10 blank ∷ range 13 13 blank ∷ range 32 32 blank
    -- !    "            #            $ to &        '
    ∷ range 33 33 exclamation ∷ range 34 35 prefix ∷ range 36 38 other ∷ range 39 39 prefix
    -- ( ) * + , -      .                /
    ∷ range 40 45 mark ∷ range 46 46 dot ∷ range 47 47 other
    -- 0 to 9            : ; < = >         ?                 @
    ∷ range 48 57 digit ∷ range 58 62 mark ∷ range 63 63 query ∷ range 64 64 mark
    -- A to Z             [                 \                  ]                 ^ _ and the backquote
    ∷ range 65 90 letter ∷ range 91 91 mark ∷ range 92 92 other ∷ range 93 93 mark ∷ range 94 96 other
    -- a to z              { | } ~
    ∷ range 97 122 letter ∷ range 123 126 other ∷ []

unfoldable pub class_in : List Span → ℕ → Class
class_in [] b = forbidden
class_in (r ∷ rs) b = elim (leb r.first b && leb b r.last) [ true ↦ r.class | false ↦ class_in rs b ]

unfoldable pub class_of : ℕ → Class
class_of b = class_in ranges b

abbrev pub is_class : Class → Class → Bool
is_class c d = eqb (class_no c) (class_no d)

-- a name goes on with letters, digits and dots
unfoldable pub in_name : ℕ → Bool
in_name b = is_class (class_of b) letter || (is_class (class_of b) digit || is_class (class_of b) dot)

-- what stands directly behind a constant's digits and is one of these makes it malformed, so all of them are taken together
unfoldable pub in_constant : ℕ → Bool
in_constant b = in_name b || is_class (class_of b) query

-- a comment goes up to byte 10, the end of text, or a byte that is not allowed
unfoldable pub in_comment : ℕ → Bool
in_comment b = not (is_class (class_of b) forbidden) && not (eqb b 10)

-- "Letters fold to upper case."
unfoldable pub fold : ℕ → ℕ
fold b = elim (leb 97 b && leb b 122) [ true ↦ b - 32 | false ↦ b ]

-- the longest run of bytes that a test holds of
unfoldable pub leading : (ℕ → Bool) → List ℕ → List ℕ
leading p [] = []
leading p (b ∷ bs) = elim (p b) [ true ↦ b ∷ leading p bs | false ↦ [] ]
