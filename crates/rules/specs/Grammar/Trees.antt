-- The syntax trees of document 01, with a token's info at each leaf, and the tokens that each stands for.
-- A tree's tokens are written in front of the tokens that follow it: `action_tokens a ts` is the tokens of a, then ts.
use Rattle.std.specs.Prelude.{List, [], ◌∷◌}
use Rattle.rules.specs.Text.Tokens.{Info, Token, tk, Op, op_kind}
use Rattle.rules.specs.Text.Tokens.{Name, Const, Masked, LPar, RPar, LBra, RBra, Less, Greater, Comma, Semi, Colon, Becomes, Equals, Arrow, At, Stars}
use Rattle.rules.specs.Text.Tokens.{BEGIN, END, NEXT, IF, DECODE, OTHERWISE, REPEAT, LEAVE, RESTART, MAIN, STOP, NO-OP, NOT}

abbrev pub Tokens : Type 0
Tokens = List Token

-- `n>` or `n:n>` behind its first constant
pub data BitsEnd : Type 0 where
  bit : Info → BitsEnd
  upto : Info → Info → Info → BitsEnd

abbrev pub bits_end_tokens : BitsEnd → Tokens → Tokens
bits_end_tokens (bit g) ts = tk Greater g ∷ ts
bits_end_tokens (upto c n g) ts = tk Colon c ∷ tk Const n ∷ tk Greater g ∷ ts

-- the bits of an access: none, `<n>` or `<n:n>`
pub data Bits : Type 0 where
  all_bits : Bits
  bits : Info → Info → BitsEnd → Bits

abbrev pub bits_tokens : Bits → Tokens → Tokens
bits_tokens all_bits ts = ts
bits_tokens (bits l n e) ts = tk Less l ∷ tk Const n ∷ bits_end_tokens e ts

-- An expression is an operand and a tail: a chain `operand op operand op ..`. How its operators bind is in Precedence.antt.
mutual
  pub data Operand : Type 0 where
    constant : Info → Operand
    access : Info → Subscript → Bits → Operand
    parens : Info → Operand → Tail → Info → Operand
    negated : Info → Operand → Operand

  pub data Tail : Type 0 where
    no_more : Tail
    with_op : Op → Info → Operand → Tail → Tail

  pub data Subscript : Type 0 where
    no_subscript : Subscript
    subscript : Info → Operand → Tail → Info → Subscript

abbrev mutual
  pub operand_tokens : Operand → Tokens → Tokens
  operand_tokens (constant i) ts = tk Const i ∷ ts
  operand_tokens (access i s b) ts = tk Name i ∷ subscript_tokens s (bits_tokens b ts)
  operand_tokens (parens l o t r) ts = tk LPar l ∷ operand_tokens o (tail_tokens t (tk RPar r ∷ ts))
  operand_tokens (negated i o) ts = tk NOT i ∷ operand_tokens o ts

  pub tail_tokens : Tail → Tokens → Tokens
  tail_tokens no_more ts = ts
  tail_tokens (with_op op i o t) ts = tk (op_kind op) i ∷ operand_tokens o (tail_tokens t ts)

  pub subscript_tokens : Subscript → Tokens → Tokens
  subscript_tokens no_subscript ts = ts
  subscript_tokens (subscript l o t r) ts = tk LBra l ∷ operand_tokens o (tail_tokens t (tk RBra r ∷ ts))

-- the further accesses of a destination
pub data Joined : Type 0 where
  alone : Joined
  joined : Info → Info → Subscript → Bits → Joined → Joined

abbrev pub joined_tokens : Joined → Tokens → Tokens
joined_tokens alone ts = ts
joined_tokens (joined a n s b j) ts = tk At a ∷ tk Name n ∷ subscript_tokens s (bits_tokens b (joined_tokens j ts))

-- a selector: a constant, a range, or a bracketed list of these
pub data Literal : Type 0 where
  exact masked : Info → Literal

abbrev pub literal_tokens : Literal → Tokens → Tokens
literal_tokens (exact i) ts = tk Const i ∷ ts
literal_tokens (masked i) ts = tk Masked i ∷ ts

pub data Range : Type 0 where
  single : Range
  to : Info → Literal → Range

abbrev pub range_tokens : Range → Tokens → Tokens
range_tokens single ts = ts
range_tokens (to c l) ts = tk Colon c ∷ literal_tokens l ts

pub data Items : Type 0 where
  close : Info → Items
  item : Info → Literal → Range → Items → Items

abbrev pub items_tokens : Items → Tokens → Tokens
items_tokens (close r) ts = tk RBra r ∷ ts
items_tokens (item c l r is) ts = tk Comma c ∷ literal_tokens l (range_tokens r (items_tokens is ts))

pub data Selector : Type 0 where
  one_of : Literal → Range → Selector
  any_of : Info → Literal → Range → Items → Selector

abbrev pub selector_tokens : Selector → Tokens → Tokens
selector_tokens (one_of l r) ts = literal_tokens l (range_tokens r ts)
selector_tokens (any_of b l r is) ts = tk LBra b ∷ literal_tokens l (range_tokens r (items_tokens is ts))

-- A block is BEGIN, an action, and its members: what follows the action up to END.
mutual
  pub data Action : Type 0 where
    block : Info → Action → Members → Action
    labelled : Info → Info → Action → Action
    if_then : Info → Operand → Tail → Info → Action → Action
    decode : Info → Operand → Tail → Info → Info → Alternatives → Action
    repeat : Info → Action → Action
    leave : Info → Info → Action
    restart : Info → Info → Action
    activate : Info → Info → Info → Action
    stop : Info → Info → Info → Action
    no_op : Info → Info → Info → Action
    transfer : Info → Subscript → Bits → Joined → Info → Operand → Tail → Action

  pub data Members : Type 0 where
    end : Info → Members
    also : Info → Action → Members → Members
    next : Info → Action → Members → Members

  pub data Alternatives : Type 0 where
    counted : Action → Counted → Alternatives
    selected : Selected → Alternatives

  pub data Counted : Type 0 where
    counted_end : Info → Counted
    counted_more : Info → Action → Counted → Counted

  pub data Selected : Type 0 where
    select : Selector → Info → Action → SelectedMore → Selected
    otherwise : Info → Info → Action → Info → Selected

  pub data SelectedMore : Type 0 where
    selected_end : Info → SelectedMore
    selected_more : Info → Selected → SelectedMore

abbrev mutual
  pub action_tokens : Action → Tokens → Tokens
  action_tokens (block b a m) ts = tk BEGIN b ∷ action_tokens a (members_tokens m ts)
  action_tokens (labelled n b a) ts = tk Name n ∷ tk Becomes b ∷ action_tokens a ts
  action_tokens (if_then i o t w a) ts = tk IF i ∷ operand_tokens o (tail_tokens t (tk Arrow w ∷ action_tokens a ts))
  action_tokens (decode i o t w b v) ts = tk DECODE i ∷ operand_tokens o (tail_tokens t (tk Arrow w ∷ tk BEGIN b ∷ alternatives_tokens v ts))
  action_tokens (repeat i a) ts = tk REPEAT i ∷ action_tokens a ts
  action_tokens (leave i n) ts = tk LEAVE i ∷ tk Name n ∷ ts
  action_tokens (restart i n) ts = tk RESTART i ∷ tk Name n ∷ ts
  action_tokens (activate n l r) ts = tk Name n ∷ tk LPar l ∷ tk RPar r ∷ ts
  action_tokens (stop i l r) ts = tk STOP i ∷ tk LPar l ∷ tk RPar r ∷ ts
  action_tokens (no_op i l r) ts = tk NO-OP i ∷ tk LPar l ∷ tk RPar r ∷ ts
  action_tokens (transfer n s b j e o t) ts =
      tk Name n ∷ subscript_tokens s (bits_tokens b (joined_tokens j (tk Equals e ∷ operand_tokens o (tail_tokens t ts))))

  pub members_tokens : Members → Tokens → Tokens
  members_tokens (end i) ts = tk END i ∷ ts
  members_tokens (also i a m) ts = tk Semi i ∷ action_tokens a (members_tokens m ts)
  members_tokens (next i a m) ts = tk NEXT i ∷ action_tokens a (members_tokens m ts)

  pub alternatives_tokens : Alternatives → Tokens → Tokens
  alternatives_tokens (counted a c) ts = action_tokens a (counted_tokens c ts)
  alternatives_tokens (selected s) ts = selected_tokens s ts

  pub counted_tokens : Counted → Tokens → Tokens
  counted_tokens (counted_end i) ts = tk END i ∷ ts
  counted_tokens (counted_more i a c) ts = tk Comma i ∷ action_tokens a (counted_tokens c ts)

  pub selected_tokens : Selected → Tokens → Tokens
  selected_tokens (select s b a m) ts = selector_tokens s (tk Becomes b ∷ action_tokens a (selected_more_tokens m ts))
  selected_tokens (otherwise i b a e) ts = tk OTHERWISE i ∷ tk Becomes b ∷ action_tokens a (tk END e ∷ ts)

  pub selected_more_tokens : SelectedMore → Tokens → Tokens
  selected_more_tokens (selected_end i) ts = tk END i ∷ ts
  selected_more_tokens (selected_more i s) ts = tk Comma i ∷ selected_tokens s ts

-- a declaration's own bits behind `<`: `>`, `n>` or `n:n>`
pub data OwnBits : Type 0 where
  unnamed : Info → OwnBits
  named : Info → BitsEnd → OwnBits

abbrev pub own_bits_tokens : OwnBits → Tokens → Tokens
own_bits_tokens (unnamed g) ts = tk Greater g ∷ ts
own_bits_tokens (named n e) ts = tk Const n ∷ bits_end_tokens e ts

-- what stands behind `name bits :=`: a body, or a mapping's target with its bits
pub data Meaning : Type 0 where
  body : Info → Action → Members → Meaning
  mapped : Info → Info → Info → BitsEnd → Meaning

abbrev pub meaning_tokens : Meaning → Tokens → Tokens
meaning_tokens (body b a m) ts = tk BEGIN b ∷ action_tokens a (members_tokens m ts)
meaning_tokens (mapped n l c e) ts = tk Name n ∷ tk Less l ∷ tk Const c ∷ bits_end_tokens e ts

-- what stands behind `name bits`
pub data Given : Type 0 where
  carrier : Given
  given : Info → Meaning → Given

abbrev pub given_tokens : Given → Tokens → Tokens
given_tokens carrier ts = ts
given_tokens (given b m) ts = tk Becomes b ∷ meaning_tokens m ts

-- what stands behind a declared name: `[n:n]` and bits; bits, and perhaps a body or a mapping; a body without bits
pub data Form : Type 0 where
  words : Info → Info → Info → Info → Info → Info → OwnBits → Form
  with_bits : Info → OwnBits → Given → Form
  bare_body : Info → Info → Action → Members → Form

abbrev pub form_tokens : Form → Tokens → Tokens
form_tokens (words l m c n r b o) ts = tk LBra l ∷ tk Const m ∷ tk Colon c ∷ tk Const n ∷ tk RBra r ∷ tk Less b ∷ own_bits_tokens o ts
form_tokens (with_bits l o g) ts = tk Less l ∷ own_bits_tokens o (given_tokens g ts)
form_tokens (bare_body e b a m) ts = tk Becomes e ∷ tk BEGIN b ∷ action_tokens a (members_tokens m ts)

pub data MainBits : Type 0 where
  bitless : MainBits
  main_bits : Info → OwnBits → MainBits

abbrev pub main_bits_tokens : MainBits → Tokens → Tokens
main_bits_tokens bitless ts = ts
main_bits_tokens (main_bits l o) ts = tk Less l ∷ own_bits_tokens o ts

pub data Declaration : Type 0 where
  plain : Info → Form → Declaration
  main : Info → Info → MainBits → Info → Info → Action → Members → Declaration

abbrev pub declaration_tokens : Declaration → Tokens → Tokens
declaration_tokens (plain n f) ts = tk Name n ∷ form_tokens f ts
declaration_tokens (main i n o e b a m) ts = tk MAIN i ∷ tk Name n ∷ main_bits_tokens o (tk Becomes e ∷ tk BEGIN b ∷ action_tokens a (members_tokens m ts))

-- `** name **`
pub data Heading : Type 0 where
  no_heading : Heading
  heading : Info → Info → Info → Heading

abbrev pub heading_tokens : Heading → Tokens → Tokens
heading_tokens no_heading ts = ts
heading_tokens (heading l n r) ts = tk Stars l ∷ tk Name n ∷ tk Stars r ∷ ts

pub data Declarations : Type 0 where
  declared_all : Info → Declarations
  declared_also : Info → Heading → Declaration → Declarations → Declarations

abbrev pub declarations_tokens : Declarations → Tokens → Tokens
declarations_tokens (declared_all e) ts = tk END e ∷ ts
declarations_tokens (declared_also c h d ds) ts = tk Comma c ∷ heading_tokens h (declaration_tokens d (declarations_tokens ds ts))

pub data Description : Type 0 where
  description : Info → Info → Info → Heading → Declaration → Declarations → Description

abbrev pub description_tokens : Description → Tokens → Tokens
description_tokens (description n e b h d ds) ts =
    tk Name n ∷ tk Becomes e ∷ tk BEGIN b ∷ heading_tokens h (declaration_tokens d (declarations_tokens ds ts))

-- the tokens of a description
abbrev pub flatten : Description → Tokens
flatten d = description_tokens d []
