-- The tokens: names, constants, marks and keywords. The grammar looks at a token's kind alone; what else a token holds is its info.
use Rattle.std.specs.Prelude.{Bool, List, [], ◌∷◌, ℕ, eqb}
use Rattle.rules.specs.Text.Bytes.{bytes}

-- name, constant, constant with `?`; the 16 marks; the 23 keywords
pub data Kind : Type 0 where
  Name Const Masked : Kind
  LPar RPar LBra RBra Less Greater Comma Semi Colon Becomes Equals Arrow At Plus Minus Stars : Kind
  BEGIN END NEXT IF DECODE OTHERWISE REPEAT LEAVE RESTART MAIN STOP NO-OP : Kind
  NOT AND EQV OR XOR EQL NEQ LSS LEQ GTR GEQ : Kind

-- where a token stands in the text; a word's bytes, folded; a constant's value with 0 for each `?`, the bits that its `?` leave free, its length
pub record Info : Type 0 where
  pub place : ℕ
  pub word : List ℕ
  pub value : ℕ
  pub free : ℕ
  pub bits : ℕ

pub record Token : Type 0 where
  pub kind : Kind
  pub info : Info

abbrev pub tk : Kind → Info → Token
tk k i = record { kind = k; info = i }

-- a keyword or a mark, as it is written
pub record Spelling : Type 0 where
  pub written : List ℕ
  pub kind : Kind

abbrev spelling : List ℕ → Kind → Spelling
spelling w k = record { written = w; kind = k }

abbrev pub keywords : List Spelling
keywords =
    spelling (bytes "BEGIN") BEGIN ∷ spelling (bytes "END") END ∷ spelling (bytes "NEXT") NEXT ∷ spelling (bytes "IF") IF
    ∷ spelling (bytes "DECODE") DECODE ∷ spelling (bytes "OTHERWISE") OTHERWISE ∷ spelling (bytes "REPEAT") REPEAT
    ∷ spelling (bytes "LEAVE") LEAVE ∷ spelling (bytes "RESTART") RESTART ∷ spelling (bytes "MAIN") MAIN ∷ spelling (bytes "STOP") STOP
    ∷ spelling (bytes "NO.OP") NO-OP ∷ spelling (bytes "NOT") NOT ∷ spelling (bytes "AND") AND ∷ spelling (bytes "EQV") EQV
    ∷ spelling (bytes "OR") OR ∷ spelling (bytes "XOR") XOR ∷ spelling (bytes "EQL") EQL ∷ spelling (bytes "NEQ") NEQ
    ∷ spelling (bytes "LSS") LSS ∷ spelling (bytes "LEQ") LEQ ∷ spelling (bytes "GTR") GTR ∷ spelling (bytes "GEQ") GEQ ∷ []

-- "Marks: .., longest first": those of two bytes stand before those of one
abbrev pub marks : List Spelling
marks =
    spelling (bytes ":=") Becomes ∷ spelling (bytes "=>") Arrow ∷ spelling (bytes "**") Stars
    ∷ spelling (bytes "(") LPar ∷ spelling (bytes ")") RPar ∷ spelling (bytes "[") LBra ∷ spelling (bytes "]") RBra
    ∷ spelling (bytes "<") Less ∷ spelling (bytes ">") Greater ∷ spelling (bytes ",") Comma ∷ spelling (bytes ";") Semi
    ∷ spelling (bytes ":") Colon ∷ spelling (bytes "=") Equals ∷ spelling (bytes "@") At ∷ spelling (bytes "+") Plus
    ∷ spelling (bytes "-") Minus ∷ []

-- the number of each kind
abbrev pub kind_no : Kind → ℕ
kind_no Name = 0
kind_no Const = 1
kind_no Masked = 2
kind_no LPar = 3
kind_no RPar = 4
kind_no LBra = 5
kind_no RBra = 6
kind_no Less = 7
kind_no Greater = 8
kind_no Comma = 9
kind_no Semi = 10
kind_no Colon = 11
kind_no Becomes = 12
kind_no Equals = 13
kind_no Arrow = 14
kind_no At = 15
kind_no Plus = 16
kind_no Minus = 17
kind_no Stars = 18
kind_no BEGIN = 19
kind_no END = 20
kind_no NEXT = 21
kind_no IF = 22
kind_no DECODE = 23
kind_no OTHERWISE = 24
kind_no REPEAT = 25
kind_no LEAVE = 26
kind_no RESTART = 27
kind_no MAIN = 28
kind_no STOP = 29
kind_no NO-OP = 30
kind_no NOT = 31
kind_no AND = 32
kind_no EQV = 33
kind_no OR = 34
kind_no XOR = 35
kind_no EQL = 36
kind_no NEQ = 37
kind_no LSS = 38
kind_no LEQ = 39
kind_no GTR = 40
kind_no GEQ = 41

-- whether two kinds are one, by their numbers
abbrev pub same : Kind → Kind → Bool
same a b = eqb (kind_no a) (kind_no b)

-- the operators that stand between two operands
pub data Op : Type 0 where
  join plus minus eql neq lss leq gtr geq and eqv or xor : Op

abbrev pub op_kind : Op → Kind
op_kind join = At
op_kind plus = Plus
op_kind minus = Minus
op_kind eql = EQL
op_kind neq = NEQ
op_kind lss = LSS
op_kind leq = LEQ
op_kind gtr = GTR
op_kind geq = GEQ
op_kind and = AND
op_kind eqv = EQV
op_kind or = OR
op_kind xor = XOR
