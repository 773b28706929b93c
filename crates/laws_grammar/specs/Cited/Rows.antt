-- The recogniser: a stack of states, one for each open bracket, the innermost first. Each token makes one move of the first state.
use Rattle.std.specs.Prelude.{Bool, true, false, List, [], ◌∷◌, ◌++◌, ℕ, suc, leb, length}
use Rattle.std.proofs.Math.Option.{Option, none, some}
use Rattle.rules.specs.Text.Tokens.{Kind, same, Name, Const, Masked, LPar, RPar, LBra, RBra, Less, Greater, Comma, Semi, Colon, Becomes, Equals, Arrow, At, Plus, Minus, Stars, BEGIN, END, NEXT, IF, DECODE, OTHERWISE, REPEAT, LEAVE, RESTART, MAIN, STOP, NO-OP, NOT, AND, EQV, OR, XOR, EQL, NEQ, LSS, LEQ, GTR, GEQ}
use Rattle.rules.specs.Grammar.Trees.{Tokens}
use Rattle.laws_grammar.specs.Cited.Answer.{Answer, accepted, refused20, refused21}
use Rattle.rules.specs.Limits.{deepest}

-- where an action stands: in a block, in an alternative without selector, with one, behind OTHERWISE
pub data Site : Type 0 where
  in_block in_counted in_selected in_last : Site

-- what an expression is for
pub data Use : Type 0 where
  test choose value : Site → Use
  in_parens in_subscript : Use

-- what an access belongs to: an expression, a destination, a mapping
pub data Part : Type 0 where
  of_expression : Use → Part
  of_destination : Site → Part
  of_mapping : Part

-- whose own bits: of a carrier with words, of a plain name, of MAIN's body
pub data Owner : Type 0 where
  of_words of_name of_main : Owner

-- a state says what comes next
pub data State : Type 0 where
  title title_becomes title_begin : State
  declaration heading_name heading_close declarator declarator_rest : State
  first_word word_colon second_word words_close words_bits : State
  own_bits own_bits_more own_bits_second own_bits_close own_bits_done : Owner → State
  body_or_mapping body_begin mapping_bits main_name main_rest declaration_done : State
  action action_name jump_target call_open destination action_done alternatives_begin : Site → State
  call_close first_alternative selector : State
  selector_rest selector_second selector_becomes otherwise_becomes : State
  list_item list_item_rest list_item_second list_rest : State
  operand : Use → State
  access_rest access_bits_lem bits_first bits_more bits_second bits_close part_done : Part → State

-- `go s`: s is next. `open s t`: a bracket opens; s is next inside it, and t behind it. `shut`: a bracket closes.
pub data Move : Type 0 where
  go : State → Move
  open_to : State → State → Move
  shut : Move

pub record Rule : Type 0 where
  pub on : Kind
  pub move : Move

infix 68 ◌⇒◌
abbrev pub ◌⇒◌ : Kind → Move → Rule
k ⇒ m = record { on = k; move = m }

abbrev pub Row : Type 0
Row = List Rule

abbrev pub declaration_done_row : Row
declaration_done_row = Comma ⇒ go declaration ∷ END ⇒ shut ∷ []

abbrev pub declarator_row : Row
declarator_row = Name ⇒ go declarator_rest ∷ MAIN ⇒ go main_name ∷ []

-- behind a declaration's own bits
abbrev pub own_bits_done_row : Owner → Row
own_bits_done_row of_words = declaration_done_row
own_bits_done_row of_name = Becomes ⇒ go body_or_mapping ∷ declaration_done_row
own_bits_done_row of_main = Becomes ⇒ go body_begin ∷ []

abbrev pub action_row : Site → Row
action_row c =
    BEGIN ⇒ open_to (action in_block) (action_done c)
    ∷ Name ⇒ go (action_name c)
    ∷ IF ⇒ go (operand (test c))
    ∷ DECODE ⇒ go (operand (choose c))
    ∷ REPEAT ⇒ go (action c)
    ∷ LEAVE ⇒ go (jump_target c)
    ∷ RESTART ⇒ go (jump_target c)
    ∷ STOP ⇒ go (call_open c)
    ∷ NO-OP ⇒ go (call_open c)
    ∷ []

abbrev pub action_done_row : Site → Row
action_done_row in_block = Semi ⇒ go (action in_block) ∷ NEXT ⇒ go (action in_block) ∷ END ⇒ shut ∷ []
action_done_row in_counted = Comma ⇒ go (action in_counted) ∷ END ⇒ shut ∷ []
action_done_row in_selected = Comma ⇒ go selector ∷ END ⇒ shut ∷ []
action_done_row in_last = END ⇒ shut ∷ []

abbrev pub selector_row : Row
selector_row =
    Const ⇒ go selector_rest
    ∷ Masked ⇒ go selector_rest
    ∷ LBra ⇒ open_to list_item selector_becomes
    ∷ OTHERWISE ⇒ go otherwise_becomes
    ∷ []

-- behind an expression, by what it is for
abbrev pub use_done_row : Use → Row
use_done_row (test c) = Arrow ⇒ go (action c) ∷ []
use_done_row (choose c) = Arrow ⇒ go (alternatives_begin c) ∷ []
use_done_row (value c) = action_done_row c
use_done_row in_parens = RPar ⇒ shut ∷ []
use_done_row in_subscript = RBra ⇒ shut ∷ []

abbrev pub operators_row : Use → Row
operators_row u =
    At ⇒ go (operand u)
    ∷ Plus ⇒ go (operand u)
    ∷ Minus ⇒ go (operand u)
    ∷ EQL ⇒ go (operand u)
    ∷ NEQ ⇒ go (operand u)
    ∷ LSS ⇒ go (operand u)
    ∷ LEQ ⇒ go (operand u)
    ∷ GTR ⇒ go (operand u)
    ∷ GEQ ⇒ go (operand u)
    ∷ AND ⇒ go (operand u)
    ∷ EQV ⇒ go (operand u)
    ∷ OR ⇒ go (operand u)
    ∷ XOR ⇒ go (operand u)
    ∷ []

-- behind an access
abbrev pub part_done_row : Part → Row
part_done_row (of_expression u) = operators_row u ++ use_done_row u
part_done_row (of_destination c) = At ⇒ go (destination c) ∷ Equals ⇒ go (operand (value c)) ∷ []
part_done_row of_mapping = declaration_done_row

abbrev pub access_bits_row : Part → Row
access_bits_row q = Less ⇒ go (bits_first q) ∷ part_done_row q

abbrev pub access_rest_row : Part → Row
access_rest_row q = LBra ⇒ open_to (operand in_subscript) (access_bits_lem q) ∷ access_bits_row q

abbrev pub row : State → Row
row title = Name ⇒ go title_becomes ∷ []
row title_becomes = Becomes ⇒ go title_begin ∷ []
row title_begin = BEGIN ⇒ go declaration ∷ []
row declaration = Stars ⇒ go heading_name ∷ declarator_row
row heading_name = Name ⇒ go heading_close ∷ []
row heading_close = Stars ⇒ go declarator ∷ []
row declarator = declarator_row
row declarator_rest = LBra ⇒ open_to first_word words_bits ∷ Less ⇒ go (own_bits of_name) ∷ Becomes ⇒ go body_begin ∷ []
row first_word = Const ⇒ go word_colon ∷ []
row word_colon = Colon ⇒ go second_word ∷ []
row second_word = Const ⇒ go words_close ∷ []
row words_close = RBra ⇒ shut ∷ []
row words_bits = Less ⇒ go (own_bits of_words) ∷ []
row (own_bits w) = Greater ⇒ go (own_bits_done w) ∷ Const ⇒ go (own_bits_more w) ∷ []
row (own_bits_more w) = Greater ⇒ go (own_bits_done w) ∷ Colon ⇒ go (own_bits_second w) ∷ []
row (own_bits_second w) = Const ⇒ go (own_bits_close w) ∷ []
row (own_bits_close w) = Greater ⇒ go (own_bits_done w) ∷ []
row (own_bits_done w) = own_bits_done_row w
row body_or_mapping = BEGIN ⇒ open_to (action in_block) declaration_done ∷ Name ⇒ go mapping_bits ∷ []
row body_begin = BEGIN ⇒ open_to (action in_block) declaration_done ∷ []
row mapping_bits = Less ⇒ go (bits_first of_mapping) ∷ []
row main_name = Name ⇒ go main_rest ∷ []
row main_rest = Less ⇒ go (own_bits of_main) ∷ Becomes ⇒ go body_begin ∷ []
row declaration_done = declaration_done_row
row (action c) = action_row c
row (action_name c) =
    Becomes ⇒ go (action c)
    ∷ LPar ⇒ open_to call_close (action_done c)
    ∷ access_rest_row (of_destination c)
row (jump_target c) = Name ⇒ go (action_done c) ∷ []
row (call_open c) = LPar ⇒ open_to call_close (action_done c) ∷ []
row (destination c) = Name ⇒ go (access_rest (of_destination c)) ∷ []
row (action_done c) = action_done_row c
row (alternatives_begin c) = BEGIN ⇒ open_to first_alternative (action_done c) ∷ []
row call_close = RPar ⇒ shut ∷ []
row first_alternative = selector_row ++ action_row in_counted
row selector = selector_row
row selector_rest = Colon ⇒ go selector_second ∷ Becomes ⇒ go (action in_selected) ∷ []
row selector_second = Const ⇒ go selector_becomes ∷ Masked ⇒ go selector_becomes ∷ []
row selector_becomes = Becomes ⇒ go (action in_selected) ∷ []
row otherwise_becomes = Becomes ⇒ go (action in_last) ∷ []
row list_item = Const ⇒ go list_item_rest ∷ Masked ⇒ go list_item_rest ∷ []
row list_item_rest = Colon ⇒ go list_item_second ∷ Comma ⇒ go list_item ∷ RBra ⇒ shut ∷ []
row list_item_second = Const ⇒ go list_rest ∷ Masked ⇒ go list_rest ∷ []
row list_rest = Comma ⇒ go list_item ∷ RBra ⇒ shut ∷ []
row (operand u) =
    Const ⇒ go (part_done (of_expression u))
    ∷ Name ⇒ go (access_rest (of_expression u))
    ∷ LPar ⇒ open_to (operand in_parens) (part_done (of_expression u))
    ∷ NOT ⇒ go (operand u)
    ∷ []
row (access_rest q) = access_rest_row q
row (access_bits_lem q) = access_bits_row q
row (bits_first q) = Const ⇒ go (bits_more q) ∷ []
row (bits_more q) = Greater ⇒ go (part_done q) ∷ Colon ⇒ go (bits_second q) ∷ []
row (bits_second q) = Const ⇒ go (bits_close q) ∷ []
row (bits_close q) = Greater ⇒ go (part_done q) ∷ []
row (part_done q) = part_done_row q

abbrev pub Stack : Type 0
Stack = List State

-- the stack behind a move of its first state, over the rest σ
abbrev pub after : Move → Stack → Stack
after (go s) σ = s ∷ σ
after (open_to s t) σ = s ∷ t ∷ σ
after shut σ = σ

abbrev pub first : {A : Type 0} → Bool → A → Option A → Option A
first true a o = some a
first false a o = o

-- the move that a row has for a kind
unfoldable pub lookup : Row → Kind → Option Move
lookup [] k = none
lookup (r ∷ rs) k = first (same r.on k) r.move (lookup rs k)

-- whether a move opens a bracket too many: d are open, and 32 may be
unfoldable pub too_deep : ℕ → Move → Bool
too_deep d (go s) = false
too_deep d (open_to s t) = leb deepest d
too_deep d shut = false

-- one token, number i, with `next` for what comes behind it
unfoldable pub judge : Stack → ℕ → (Stack → Answer) → State → Option Move → Answer
judge σ i next s none = refused20 i
judge σ i next s (some m) = elim (too_deep (suc (length σ)) m) [ true ↦ refused21 i | false ↦ next (after m σ) ]

unfoldable pub run : Tokens → ℕ → Stack → Answer
run [] i [] = accepted
run [] i (s ∷ σ) = refused20 i
run (t ∷ ts) i [] = refused20 i
run (t ∷ ts) i (s ∷ σ) = judge σ i (run ts (suc i)) s (lookup (row s) t.kind)

unfoldable pub recognise : Tokens → Answer
recognise ts = run ts 0 (title ∷ [])
