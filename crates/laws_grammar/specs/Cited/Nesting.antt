-- How deep a tree nests its brackets.
use Rattle.std.specs.Prelude.{ℕ, suc, max}
use Rattle.rules.specs.Grammar.Trees.{Operand, constant, access, parens, negated, Tail, no_more, with_op, Subscript, no_subscript, subscript, Joined, alone, joined, Selector, one_of, any_of, Action, block, labelled, if_then, decode, repeat, leave, restart, activate, stop, no_op, transfer, Members, end, also, next, Alternatives, counted, selected, Counted, counted_end, counted_more, Selected, select, otherwise, SelectedMore, selected_end, selected_more, Meaning, body, mapped, Given, carrier, given, Form, words, with_bits, bare_body, Declaration, plain, main, Declarations, declared_all, declared_also, Description, description}

abbrev mutual
  pub operand_nest : Operand → ℕ
  operand_nest (constant i) = 0
  operand_nest (access i s b) = subscript_nest s
  operand_nest (parens l o t r) = suc (max (operand_nest o) (tail_nest t))
  operand_nest (negated i o) = operand_nest o

  pub tail_nest : Tail → ℕ
  tail_nest no_more = 0
  tail_nest (with_op op i o t) = max (operand_nest o) (tail_nest t)

  pub subscript_nest : Subscript → ℕ
  subscript_nest no_subscript = 0
  subscript_nest (subscript l o t r) = suc (max (operand_nest o) (tail_nest t))

abbrev pub joined_nest : Joined → ℕ
joined_nest alone = 0
joined_nest (joined a n s b j) = max (subscript_nest s) (joined_nest j)

abbrev pub selector_nest : Selector → ℕ
selector_nest (one_of l r) = 0
selector_nest (any_of b l r v) = 1

abbrev mutual
  pub action_nest : Action → ℕ
  action_nest (block b a m) = suc (max (action_nest a) (members_nest m))
  action_nest (labelled n b a) = action_nest a
  action_nest (if_then i o t w a) = max (operand_nest o) (max (tail_nest t) (action_nest a))
  action_nest (decode i o t w b v) = max (operand_nest o) (max (tail_nest t) (suc (alternatives_nest v)))
  action_nest (repeat i a) = action_nest a
  action_nest (leave i n) = 0
  action_nest (restart i n) = 0
  action_nest (activate n l r) = 1
  action_nest (stop i l r) = 1
  action_nest (no_op i l r) = 1
  action_nest (transfer n s b j e o t) = max (subscript_nest s) (max (joined_nest j) (max (operand_nest o) (tail_nest t)))

  pub members_nest : Members → ℕ
  members_nest (end i) = 0
  members_nest (also i a m) = max (action_nest a) (members_nest m)
  members_nest (next i a m) = max (action_nest a) (members_nest m)

  pub alternatives_nest : Alternatives → ℕ
  alternatives_nest (counted a c) = max (action_nest a) (counted_nest c)
  alternatives_nest (selected s) = selected_nest s

  pub counted_nest : Counted → ℕ
  counted_nest (counted_end i) = 0
  counted_nest (counted_more i a c) = max (action_nest a) (counted_nest c)

  pub selected_nest : Selected → ℕ
  selected_nest (select s b a m) = max (selector_nest s) (max (action_nest a) (selected_more_nest m))
  selected_nest (otherwise i b a e) = action_nest a

  pub selected_more_nest : SelectedMore → ℕ
  selected_more_nest (selected_end i) = 0
  selected_more_nest (selected_more i s) = selected_nest s

abbrev pub meaning_nest : Meaning → ℕ
meaning_nest (body b a m) = suc (max (action_nest a) (members_nest m))
meaning_nest (mapped n l c e) = 0

abbrev pub given_nest : Given → ℕ
given_nest carrier = 0
given_nest (given b m) = meaning_nest m

abbrev pub form_nest : Form → ℕ
form_nest (words l m c n r b o) = 1
form_nest (with_bits l o g) = given_nest g
form_nest (bare_body e b a m) = suc (max (action_nest a) (members_nest m))

abbrev pub declaration_nest : Declaration → ℕ
declaration_nest (plain n f) = form_nest f
declaration_nest (main i n o e b a m) = suc (max (action_nest a) (members_nest m))

abbrev pub declarations_nest : Declarations → ℕ
declarations_nest (declared_all e) = 0
declarations_nest (declared_also c h d ds) = max (declaration_nest d) (declarations_nest ds)

abbrev pub nest : Description → ℕ
nest (description n e b h d ds) = suc (max (declaration_nest d) (declarations_nest ds))
