-- The kinds of tokens in the order of their numbers, and the kind that has a number.
use Rattle.std.specs.Prelude.{ℕ, List, [], ◌∷◌, get_or}
use Rattle.rules.specs.Text.Tokens.{Kind}
use Rattle.rules.specs.Text.Tokens.{Name, Const, Masked, LPar, RPar, LBra, RBra, Less, Greater, Comma, Semi, Colon, Becomes, Equals, Arrow, At, Plus, Minus, Stars}
use Rattle.rules.specs.Text.Tokens.{BEGIN, END, NEXT, IF, DECODE, OTHERWISE, REPEAT, LEAVE, RESTART, MAIN, STOP, NO-OP, NOT, AND, EQV, OR, XOR, EQL, NEQ, LSS, LEQ, GTR, GEQ}

abbrev pub kinds : List Kind
kinds =
    Name ∷ Const ∷ Masked ∷ LPar ∷ RPar ∷ LBra ∷ RBra ∷ Less ∷ Greater ∷ Comma ∷ Semi ∷ Colon ∷ Becomes ∷ Equals ∷ Arrow ∷ At ∷ Plus ∷ Minus ∷ Stars
    ∷ BEGIN ∷ END ∷ NEXT ∷ IF ∷ DECODE ∷ OTHERWISE ∷ REPEAT ∷ LEAVE ∷ RESTART ∷ MAIN ∷ STOP ∷ NO-OP
    ∷ NOT ∷ AND ∷ EQV ∷ OR ∷ XOR ∷ EQL ∷ NEQ ∷ LSS ∷ LEQ ∷ GTR ∷ GEQ ∷ []

abbrev pub kind_at : ℕ → Kind
kind_at n = get_or kinds n Name
