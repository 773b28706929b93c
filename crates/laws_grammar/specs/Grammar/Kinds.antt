-- A kind is known by its number.
use Rattle.std.specs.Prelude.{◌≡◌, refl, T}
use Rattle.std.proofs.Common.{sym, ap, ◌∙◌, eqb→eq}
use Rattle.rules.specs.Text.Tokens.{Kind, kind_no, same}
use Rattle.rules.specs.Text.Tokens.{Name, Const, Masked, LPar, RPar, LBra, RBra, Less, Greater, Comma, Semi, Colon, Becomes, Equals, Arrow, At, Plus, Minus, Stars}
use Rattle.rules.specs.Text.Tokens.{BEGIN, END, NEXT, IF, DECODE, OTHERWISE, REPEAT, LEAVE, RESTART, MAIN, STOP, NO-OP, NOT, AND, EQV, OR, XOR, EQL, NEQ, LSS, LEQ, GTR, GEQ}
use Rattle.laws_grammar.specs.Cited.Kinds.{kind_at}

pub kind_at_kind_no : (k : Kind) → kind_at (kind_no k) ≡ k
kind_at_kind_no Name = refl
kind_at_kind_no Const = refl
kind_at_kind_no Masked = refl
kind_at_kind_no LPar = refl
kind_at_kind_no RPar = refl
kind_at_kind_no LBra = refl
kind_at_kind_no RBra = refl
kind_at_kind_no Less = refl
kind_at_kind_no Greater = refl
kind_at_kind_no Comma = refl
kind_at_kind_no Semi = refl
kind_at_kind_no Colon = refl
kind_at_kind_no Becomes = refl
kind_at_kind_no Equals = refl
kind_at_kind_no Arrow = refl
kind_at_kind_no At = refl
kind_at_kind_no Plus = refl
kind_at_kind_no Minus = refl
kind_at_kind_no Stars = refl
kind_at_kind_no BEGIN = refl
kind_at_kind_no END = refl
kind_at_kind_no NEXT = refl
kind_at_kind_no IF = refl
kind_at_kind_no DECODE = refl
kind_at_kind_no OTHERWISE = refl
kind_at_kind_no REPEAT = refl
kind_at_kind_no LEAVE = refl
kind_at_kind_no RESTART = refl
kind_at_kind_no MAIN = refl
kind_at_kind_no STOP = refl
kind_at_kind_no NO-OP = refl
kind_at_kind_no NOT = refl
kind_at_kind_no AND = refl
kind_at_kind_no EQV = refl
kind_at_kind_no OR = refl
kind_at_kind_no XOR = refl
kind_at_kind_no EQL = refl
kind_at_kind_no NEQ = refl
kind_at_kind_no LSS = refl
kind_at_kind_no LEQ = refl
kind_at_kind_no GTR = refl
kind_at_kind_no GEQ = refl

pub same_eq : (a b : Kind) → T (same a b) → a ≡ b
same_eq a b t = sym (kind_at_kind_no a) ∙ ap kind_at (eqb→eq (kind_no a) (kind_no b) t) ∙ kind_at_kind_no b
