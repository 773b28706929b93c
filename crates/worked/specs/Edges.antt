-- Texts on both sides of each limit: the longest that passes, and one that passes it by one. The answers come from hand and from an implementation that
-- shares nothing with this project.
use Rattle.std.specs.Prelude.{ℕ, zero, suc, ◌+◌, ◌/◌, ◌%◌, List, [], ◌∷◌, ◌++◌, replicate}
use Rattle.rules.specs.Text.Bytes.{bytes}

-- a text with the numbers of Check's answer
pub record Text : Type 0 where
  pub text : List ℕ
  pub numbers : List ℕ

abbrev pub refuses_bytes : List ℕ → ℕ → ℕ → Text
refuses_bytes t m p = record { text = t; numbers = 4 ∷ m ∷ p ∷ [] }

abbrev pub accepts_bytes : List ℕ → ℕ → ℕ → Text
accepts_bytes t n w = record { text = t; numbers = 0 ∷ n ∷ w ∷ [] }

-- some bytes n times
unfoldable pub times : ℕ → List ℕ → List ℕ
times zero bs = []
times (suc n) bs = bs ++ times n bs

abbrev opening : List ℕ
opening = bytes "N := BEGIN "

abbrev idle : List ℕ
idle = bytes "MAIN GO := BEGIN NO.OP() END END"

abbrev long_name : ℕ → List ℕ
long_name n = replicate n 65 ++ (bytes " := BEGIN " ++ idle)

abbrev long_constant : ℕ → List ℕ
long_constant n = opening ++ (bytes "A<>, MAIN GO := BEGIN A = '" ++ (replicate n 49 ++ bytes " END END"))

-- BEGIN stands open twice around the parentheses
abbrev nested : ℕ → List ℕ
nested n = opening ++ (bytes "A<3:0>, MAIN GO := BEGIN A = " ++ (replicate n 40 ++ (bytes "A" ++ (replicate n 41 ++ bytes " END END"))))

-- carriers XAA, XAB, .., XPP, n of them from number i on
unfoldable pub carriers : ℕ → ℕ → List ℕ
carriers zero i = []
carriers (suc n) i = 88 ∷ (65 + i / 16) ∷ (65 + i % 16) ∷ (bytes "<>, " ++ carriers n (suc i))

-- one alternative more than n
abbrev alternatives : ℕ → List ℕ
alternatives n = opening ++ (bytes "A<6:0>, MAIN GO := BEGIN DECODE A => BEGIN " ++ (times n (bytes "NO.OP(), ") ++ bytes "NO.OP() END END END"))

-- bodies CA, CB, .., n of them from number i on, each of which activates the next, and the body that the last of them activates
unfoldable pub chain : ℕ → ℕ → List ℕ
chain zero i = 67 ∷ (65 + i) ∷ bytes " := BEGIN NO.OP() END, "
chain (suc n) i = 67 ∷ (65 + i) ∷ (bytes " := BEGIN C" ++ ((66 + i) ∷ (bytes "() END, " ++ chain n (suc i))))

abbrev pub edges : List Text
edges =
    -- 32 and 33 bytes of a name
    accepts_bytes (long_name 32) 1 0
    ∷ refuses_bytes (long_name 33) 11 0
    -- 64 and 65 bits: of a constant, of a declaration, of a value
    ∷ accepts_bytes (long_constant 64) 2 1
    ∷ refuses_bytes (long_constant 65) 12 37
    ∷ accepts_bytes (opening ++ (bytes "A<63:0>, " ++ idle)) 2 1
    ∷ refuses_bytes (opening ++ (bytes "A<64:0>, " ++ idle)) 31 11
    ∷ accepts_bytes (opening ++ bytes "A<62:0>, MAIN GO := BEGIN A = A @ '1 END END") 2 1
    ∷ refuses_bytes (opening ++ bytes "A<63:0>, MAIN GO := BEGIN A = A @ '1 END END") 43 43
    -- 32 and 33 open
    ∷ accepts_bytes (nested 30) 2 1
    ∷ refuses_bytes (nested 31) 21 70
    -- a bit named 4,095 and one named 4,096
    ∷ accepts_bytes (opening ++ (bytes "A<4095>, " ++ idle)) 2 1
    ∷ refuses_bytes (opening ++ (bytes "A<4096>, " ++ idle)) 31 11
    -- 256 and 257 declarations; 4,096 and 4,097 words
    ∷ accepts_bytes (opening ++ (carriers 255 0 ++ idle)) 256 255
    ∷ refuses_bytes (opening ++ (carriers 256 0 ++ idle)) 32 1808
    ∷ accepts_bytes (opening ++ (bytes "M[0:4095]<>, " ++ idle)) 2 4096
    ∷ refuses_bytes (opening ++ (bytes "M[0:4095]<>, A<>, " ++ idle)) 32 24
    -- 64 and 65 alternatives
    ∷ accepts_bytes (alternatives 63) 2 1
    ∷ refuses_bytes (alternatives 64) 45 630
    -- 16 and 17 bodies in a chain
    ∷ accepts_bytes (opening ++ (chain 15 0 ++ idle)) 17 0
    ∷ refuses_bytes (opening ++ (chain 16 0 ++ idle)) 51 11 ∷ []
