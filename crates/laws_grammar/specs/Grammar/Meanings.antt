-- What each state of the recogniser stands for: a pair of a type of trees, what may still come up to the bracket's end, and their tokens.
-- And the rows once more, each rule with the tree that it builds from its token and from the trees of the states that it leads to.
use Rattle.std.specs.Prelude.{◌≡◌, refl, List, [], ◌∷◌, ◌++◌}
use Rattle.std.proofs.Common.{◌∙◌}
use Rattle.rules.specs.Text.Tokens.{Kind, Info, tk}
use Rattle.rules.specs.Text.Tokens.{Op, op_kind, join, plus, minus, eql, neq, lss, leq, gtr, geq, and, eqv, or, xor}
use Rattle.rules.specs.Text.Tokens.{Name, Const, Masked, LPar, RPar, LBra, RBra, Less, Greater, Comma, Semi, Colon, Becomes, Equals, Arrow, At, Stars}
use Rattle.rules.specs.Text.Tokens.{BEGIN, END, NEXT, IF, DECODE, OTHERWISE, REPEAT, LEAVE, RESTART, MAIN, STOP, NO-OP, NOT}
use Rattle.rules.specs.Grammar.Trees.{Tokens, BitsEnd, bit, upto, bits_end_tokens, Bits, all_bits, bits, bits_tokens}
use Rattle.rules.specs.Grammar.Trees.{Operand, constant, access, parens, negated, operand_tokens, Tail, no_more, with_op, tail_tokens, Subscript, no_subscript, subscript, subscript_tokens}
use Rattle.rules.specs.Grammar.Trees.{Joined, alone, joined, joined_tokens, Literal, exact, masked, literal_tokens, Range, single, to, range_tokens, Items, close, item, items_tokens}
use Rattle.rules.specs.Grammar.Trees.{one_of, any_of, Action, block, labelled, if_then, decode, repeat, leave, restart, activate, stop, no_op, transfer, action_tokens}
use Rattle.rules.specs.Grammar.Trees.{Members, end, also, next, members_tokens, Alternatives, counted, selected, alternatives_tokens, Counted, counted_end, counted_more, counted_tokens}
use Rattle.rules.specs.Grammar.Trees.{Selected, select, otherwise, selected_tokens, SelectedMore, selected_end, selected_more, selected_more_tokens}
use Rattle.rules.specs.Grammar.Trees.{OwnBits, unnamed, named, own_bits_tokens, Meaning, body, mapped, meaning_tokens, Given, carrier, given, given_tokens, Form, words, with_bits, bare_body, form_tokens}
use Rattle.rules.specs.Grammar.Trees.{MainBits, bitless, main_bits, main_bits_tokens, Declaration, plain, main, declaration_tokens, Heading, no_heading, heading, heading_tokens}
use Rattle.rules.specs.Grammar.Trees.{Declarations, declared_all, declared_also, declarations_tokens, Description, description, description_tokens}
use Rattle.laws_grammar.specs.Cited.Rows.{Site, in_block, in_counted, in_selected, in_last, Use, test, choose, value, in_parens, in_subscript}
use Rattle.laws_grammar.specs.Cited.Rows.{Part, of_expression, of_destination, of_mapping, Owner, of_words, of_name, of_main}
use Rattle.laws_grammar.specs.Cited.Rows.{State, title, title_becomes, title_begin, declaration, heading_name, heading_close, declarator, declarator_rest}
use Rattle.laws_grammar.specs.Cited.Rows.{first_word, word_colon, second_word, words_close, words_bits, own_bits, own_bits_more, own_bits_second, own_bits_close, own_bits_done}
use Rattle.laws_grammar.specs.Cited.Rows.{body_or_mapping, body_begin, mapping_bits, main_name, main_rest, declaration_done}
use Rattle.laws_grammar.specs.Cited.Rows.{action, action_name, jump_target, call_open, destination, action_done, alternatives_begin, call_close, first_alternative, selector}
use Rattle.laws_grammar.specs.Cited.Rows.{selector_rest, selector_second, selector_becomes, otherwise_becomes, list_item, list_item_rest, list_item_second, list_rest}
use Rattle.laws_grammar.specs.Cited.Rows.{operand, access_rest, access_bits_lem, bits_first, bits_more, bits_second, bits_close, part_done}
use Rattle.laws_grammar.specs.Cited.Rows.{Move, go, open_to, shut, Stack}

-- a type of trees, and the tokens of each in front of what follows
pub record Lang : Type 1 where
  pub tree : Type 0
  pub tokens : tree → Tokens → Tokens

abbrev pub tok : Kind → Lang
tok k = record { tree = Info; tokens = λ i ts. tk k i ∷ ts }

infixr 60 ◌⊗◌
abbrev pub ◌⊗◌ : Lang → Lang → Lang
A ⊗ B = record { tree = A.tree × B.tree; tokens = λ p ts. A.tokens p.0 (B.tokens p.1 ts) }

abbrev pub empty : Lang
empty = record { tree = Unit {0}; tokens = λ _ ts. ts }

abbrev pub bits_end_l : Lang
bits_end_l = record { tree = BitsEnd; tokens = bits_end_tokens }

abbrev pub bits_l : Lang
bits_l = record { tree = Bits; tokens = bits_tokens }

abbrev pub operand_l : Lang
operand_l = record { tree = Operand; tokens = operand_tokens }

abbrev pub tail_l : Lang
tail_l = record { tree = Tail; tokens = tail_tokens }

abbrev pub subscript_l : Lang
subscript_l = record { tree = Subscript; tokens = subscript_tokens }

abbrev pub joined_l : Lang
joined_l = record { tree = Joined; tokens = joined_tokens }

abbrev pub literal_l : Lang
literal_l = record { tree = Literal; tokens = literal_tokens }

abbrev pub range_l : Lang
range_l = record { tree = Range; tokens = range_tokens }

abbrev pub items_l : Lang
items_l = record { tree = Items; tokens = items_tokens }

abbrev pub action_l : Lang
action_l = record { tree = Action; tokens = action_tokens }

abbrev pub members_l : Lang
members_l = record { tree = Members; tokens = members_tokens }

abbrev pub alternatives_l : Lang
alternatives_l = record { tree = Alternatives; tokens = alternatives_tokens }

abbrev pub counted_l : Lang
counted_l = record { tree = Counted; tokens = counted_tokens }

abbrev pub selected_l : Lang
selected_l = record { tree = Selected; tokens = selected_tokens }

abbrev pub selected_more_l : Lang
selected_more_l = record { tree = SelectedMore; tokens = selected_more_tokens }

abbrev pub own_bits_l : Lang
own_bits_l = record { tree = OwnBits; tokens = own_bits_tokens }

abbrev pub meaning_l : Lang
meaning_l = record { tree = Meaning; tokens = meaning_tokens }

abbrev pub given_l : Lang
given_l = record { tree = Given; tokens = given_tokens }

abbrev pub form_l : Lang
form_l = record { tree = Form; tokens = form_tokens }

abbrev pub main_bits_l : Lang
main_bits_l = record { tree = MainBits; tokens = main_bits_tokens }

abbrev pub declaration_l : Lang
declaration_l = record { tree = Declaration; tokens = declaration_tokens }

abbrev pub heading_l : Lang
heading_l = record { tree = Heading; tokens = heading_tokens }

abbrev pub declarations_l : Lang
declarations_l = record { tree = Declarations; tokens = declarations_tokens }

abbrev pub description_l : Lang
description_l = record { tree = Description; tokens = description_tokens }

-- an action behind the name that it begins with
pub data Named : Type 0 where
  n_label : Info → Action → Named
  n_call : Info → Info → Named
  n_store : Subscript → Bits → Joined → Info → Operand → Tail → Named

abbrev pub named_tokens : Named → Tokens → Tokens
named_tokens (n_label b a) ts = tk Becomes b ∷ action_tokens a ts
named_tokens (n_call l r) ts = tk LPar l ∷ tk RPar r ∷ ts
named_tokens (n_store s b j e o t) ts = subscript_tokens s (bits_tokens b (joined_tokens j (tk Equals e ∷ operand_tokens o (tail_tokens t ts))))

abbrev pub named_l : Lang
named_l = record { tree = Named; tokens = named_tokens }

abbrev pub with_name : Info → Named → Action
with_name n (n_label b a) = labelled n b a
with_name n (n_call l r) = activate n l r
with_name n (n_store s b j e o t) = transfer n s b j e o t

pub with_name_tokens : (n : Info) (x : Named) (ts : Tokens) → action_tokens (with_name n x) ts ≡ tk Name n ∷ named_tokens x ts
with_name_tokens n (n_label b a) ts = refl
with_name_tokens n (n_call l r) ts = refl
with_name_tokens n (n_store s b j e o t) ts = refl

-- what follows an action, an expression, an access
abbrev pub done_l : Site → Lang
done_l in_block = members_l
done_l in_counted = counted_l
done_l in_selected = selected_more_l
done_l in_last = tok END

abbrev pub use_l : Use → Lang
use_l (test c) = tok Arrow ⊗ action_l ⊗ done_l c
use_l (choose c) = tok Arrow ⊗ tok BEGIN ⊗ alternatives_l ⊗ done_l c
use_l (value c) = done_l c
use_l in_parens = tok RPar
use_l in_subscript = tok RBra

abbrev pub part_l : Part → Lang
part_l (of_expression u) = tail_l ⊗ use_l u
part_l (of_destination c) = joined_l ⊗ tok Equals ⊗ operand_l ⊗ tail_l ⊗ done_l c
part_l of_mapping = declarations_l

abbrev pub body_l : Lang
body_l = tok BEGIN ⊗ action_l ⊗ members_l ⊗ declarations_l

abbrev pub owner_l : Owner → Lang
owner_l of_words = declarations_l
owner_l of_name = given_l ⊗ declarations_l
owner_l of_main = tok Becomes ⊗ body_l

abbrev pub becomes_l : Lang
becomes_l = tok Becomes ⊗ action_l ⊗ selected_more_l

abbrev pub meaning : State → Lang
meaning title = description_l
meaning title_becomes = tok Becomes ⊗ tok BEGIN ⊗ heading_l ⊗ declaration_l ⊗ declarations_l
meaning title_begin = tok BEGIN ⊗ heading_l ⊗ declaration_l ⊗ declarations_l
meaning declaration = heading_l ⊗ declaration_l ⊗ declarations_l
meaning heading_name = tok Name ⊗ tok Stars ⊗ declaration_l ⊗ declarations_l
meaning heading_close = tok Stars ⊗ declaration_l ⊗ declarations_l
meaning declarator = declaration_l ⊗ declarations_l
meaning declarator_rest = form_l ⊗ declarations_l
meaning first_word = tok Const ⊗ tok Colon ⊗ tok Const ⊗ tok RBra
meaning word_colon = tok Colon ⊗ tok Const ⊗ tok RBra
meaning second_word = tok Const ⊗ tok RBra
meaning words_close = tok RBra
meaning words_bits = tok Less ⊗ own_bits_l ⊗ declarations_l
meaning (own_bits w) = own_bits_l ⊗ owner_l w
meaning (own_bits_more w) = bits_end_l ⊗ owner_l w
meaning (own_bits_second w) = tok Const ⊗ tok Greater ⊗ owner_l w
meaning (own_bits_close w) = tok Greater ⊗ owner_l w
meaning (own_bits_done w) = owner_l w
meaning body_or_mapping = meaning_l ⊗ declarations_l
meaning body_begin = body_l
meaning mapping_bits = tok Less ⊗ tok Const ⊗ bits_end_l ⊗ declarations_l
meaning main_name = tok Name ⊗ main_bits_l ⊗ tok Becomes ⊗ body_l
meaning main_rest = main_bits_l ⊗ tok Becomes ⊗ body_l
meaning declaration_done = declarations_l
meaning (action c) = action_l ⊗ done_l c
meaning (action_name c) = named_l ⊗ done_l c
meaning (jump_target c) = tok Name ⊗ done_l c
meaning (call_open c) = tok LPar ⊗ tok RPar ⊗ done_l c
meaning (destination c) = tok Name ⊗ subscript_l ⊗ bits_l ⊗ part_l (of_destination c)
meaning (action_done c) = done_l c
meaning (alternatives_begin c) = tok BEGIN ⊗ alternatives_l ⊗ done_l c
meaning call_close = tok RPar
meaning first_alternative = alternatives_l
meaning selector = selected_l
meaning selector_rest = range_l ⊗ becomes_l
meaning selector_second = literal_l ⊗ becomes_l
meaning selector_becomes = becomes_l
meaning otherwise_becomes = tok Becomes ⊗ action_l ⊗ tok END
meaning list_item = literal_l ⊗ range_l ⊗ items_l
meaning list_item_rest = range_l ⊗ items_l
meaning list_item_second = literal_l ⊗ items_l
meaning list_rest = items_l
meaning (operand u) = operand_l ⊗ tail_l ⊗ use_l u
meaning (access_rest q) = subscript_l ⊗ bits_l ⊗ part_l q
meaning (access_bits_lem q) = bits_l ⊗ part_l q
meaning (bits_first q) = tok Const ⊗ bits_end_l ⊗ part_l q
meaning (bits_more q) = bits_end_l ⊗ part_l q
meaning (bits_second q) = tok Const ⊗ tok Greater ⊗ part_l q
meaning (bits_close q) = tok Greater ⊗ part_l q
meaning (part_done q) = part_l q

abbrev pub move_l : Move → Lang
move_l (go s) = meaning s
move_l (open_to s t) = meaning s ⊗ meaning t
move_l shut = empty

abbrev pub stack_l : Stack → Lang
stack_l [] = empty
stack_l (s ∷ σ) = meaning s ⊗ stack_l σ

-- A rule of a state with meaning M, and the tree that it builds.
pub record Step (M : Lang) : Type 0 where
  pub on : Kind
  pub move : Move
  pub build : Info → (move_l move).tree → M.tree
  pub law : (i : Info) (r : (move_l move).tree) (ts : Tokens) → M.tokens (build i r) ts ≡ tk on i ∷ (move_l move).tokens r ts

-- the steps of one meaning are those of another whose trees hold its own
abbrev pub lift1 : {M N : Lang} (f : M.tree → N.tree) → ((x : M.tree) (ts : Tokens) → N.tokens (f x) ts ≡ M.tokens x ts) → Step M → Step N
lift1 f h e = record { on = e.on; move = e.move; build = λ i r. f (e.build i r); law = λ i r ts. h (e.build i r) ts ∙ e.law i r ts }

abbrev pub lift : {M N : Lang} (f : M.tree → N.tree) → ((x : M.tree) (ts : Tokens) → N.tokens (f x) ts ≡ M.tokens x ts) → List (Step M) → List (Step N)
lift f h [] = []
lift f h (e ∷ es) = lift1 f h e ∷ lift f h es

abbrev pub Steps : Lang → Type 0
Steps M = List (Step M)

abbrev pub declaration_done_steps : Steps declarations_l
declaration_done_steps =
    record { on = Comma; move = go declaration; build = λ i r. declared_also i r.0 r.1.0 r.1.1; law = λ i r ts. refl }
    ∷ record { on = END; move = shut; build = λ i r. declared_all i; law = λ i r ts. refl }
    ∷ []

abbrev pub declarator_steps : Steps (declaration_l ⊗ declarations_l)
declarator_steps =
    record { on = Name; move = go declarator_rest; build = λ i r. (plain i r.0, r.1); law = λ i r ts. refl }
    ∷ record {
      on = MAIN;
      move = go main_name;
      law = λ i r ts. refl;
      build = λ i r. (main i r.0 r.1.0 r.1.1.0 r.1.1.1.0 r.1.1.1.1.0 r.1.1.1.1.1.0, r.1.1.1.1.1.1);
    }
    ∷ []

abbrev pub own_bits_done_steps : (w : Owner) → Steps (owner_l w)
own_bits_done_steps of_words = lift (λ r. r) (λ r ts. refl) declaration_done_steps
own_bits_done_steps of_name =
    record { on = Becomes; move = go body_or_mapping; build = λ i r. (given i r.0, r.1); law = λ i r ts. refl }
    ∷ lift (λ r. (carrier, r)) (λ r ts. refl) declaration_done_steps
own_bits_done_steps of_main = record { on = Becomes; move = go body_begin; build = λ i r. (i, r); law = λ i r ts. refl } ∷ []

abbrev pub action_steps : (c : Site) → Steps (action_l ⊗ done_l c)
action_steps c =
    record { on = BEGIN; move = open_to (action in_block) (action_done c); build = λ i r. (block i r.0.0 r.0.1, r.1); law = λ i r ts. refl }
    ∷ record { on = Name; move = go (action_name c); build = λ i r. (with_name i r.0, r.1); law = λ i r ts. with_name_tokens i r.0 ((done_l c).tokens r.1 ts) }
    ∷ record { on = IF; move = go (operand (test c)); build = λ i r. (if_then i r.0 r.1.0 r.1.1.0 r.1.1.1.0, r.1.1.1.1); law = λ i r ts. refl }
    ∷ record {
      on = DECODE;
      move = go (operand (choose c));
      law = λ i r ts. refl;
      build = λ i r. (decode i r.0 r.1.0 r.1.1.0 r.1.1.1.0 r.1.1.1.1.0, r.1.1.1.1.1);
    }
    ∷ record { on = REPEAT; move = go (action c); build = λ i r. (repeat i r.0, r.1); law = λ i r ts. refl }
    ∷ record { on = LEAVE; move = go (jump_target c); build = λ i r. (leave i r.0, r.1); law = λ i r ts. refl }
    ∷ record { on = RESTART; move = go (jump_target c); build = λ i r. (restart i r.0, r.1); law = λ i r ts. refl }
    ∷ record { on = STOP; move = go (call_open c); build = λ i r. (stop i r.0 r.1.0, r.1.1); law = λ i r ts. refl }
    ∷ record { on = NO-OP; move = go (call_open c); build = λ i r. (no_op i r.0 r.1.0, r.1.1); law = λ i r ts. refl }
    ∷ []

abbrev pub action_done_steps : (c : Site) → Steps (done_l c)
action_done_steps in_block =
    record { on = Semi; move = go (action in_block); build = λ i r. also i r.0 r.1; law = λ i r ts. refl }
    ∷ record { on = NEXT; move = go (action in_block); build = λ i r. next i r.0 r.1; law = λ i r ts. refl }
    ∷ record { on = END; move = shut; build = λ i r. end i; law = λ i r ts. refl }
    ∷ []
action_done_steps in_counted =
    record { on = Comma; move = go (action in_counted); build = λ i r. counted_more i r.0 r.1; law = λ i r ts. refl }
    ∷ record { on = END; move = shut; build = λ i r. counted_end i; law = λ i r ts. refl }
    ∷ []
action_done_steps in_selected =
    record { on = Comma; move = go selector; build = λ i r. selected_more i r; law = λ i r ts. refl }
    ∷ record { on = END; move = shut; build = λ i r. selected_end i; law = λ i r ts. refl }
    ∷ []
action_done_steps in_last = record { on = END; move = shut; build = λ i r. i; law = λ i r ts. refl } ∷ []

abbrev pub selector_steps : Steps selected_l
selector_steps =
    record { on = Const; move = go selector_rest; build = λ i r. select (one_of (exact i) r.0) r.1.0 r.1.1.0 r.1.1.1; law = λ i r ts. refl }
    ∷ record { on = Masked; move = go selector_rest; build = λ i r. select (one_of (masked i) r.0) r.1.0 r.1.1.0 r.1.1.1; law = λ i r ts. refl }
    ∷ record {
      on = LBra;
      move = open_to list_item selector_becomes;
      law = λ i r ts. refl;
      build = λ i r. select (any_of i r.0.0 r.0.1.0 r.0.1.1) r.1.0 r.1.1.0 r.1.1.1;
    }
    ∷ record { on = OTHERWISE; move = go otherwise_becomes; build = λ i r. otherwise i r.0 r.1.0 r.1.1; law = λ i r ts. refl }
    ∷ []

abbrev pub becomes_steps : Steps becomes_l
becomes_steps = record { on = Becomes; move = go (action in_selected); build = λ i r. (i, r); law = λ i r ts. refl } ∷ []

abbrev pub list_rest_steps : Steps items_l
list_rest_steps =
    record { on = Comma; move = go list_item; build = λ i r. item i r.0 r.1.0 r.1.1; law = λ i r ts. refl }
    ∷ record { on = RBra; move = shut; build = λ i r. close i; law = λ i r ts. refl }
    ∷ []

abbrev pub use_done_steps : (u : Use) → Steps (use_l u)
use_done_steps (test c) = record { on = Arrow; move = go (action c); build = λ i r. (i, r); law = λ i r ts. refl } ∷ []
use_done_steps (choose c) = record { on = Arrow; move = go (alternatives_begin c); build = λ i r. (i, r); law = λ i r ts. refl } ∷ []
use_done_steps (value c) = action_done_steps c
use_done_steps in_parens = record { on = RPar; move = shut; build = λ i r. i; law = λ i r ts. refl } ∷ []
use_done_steps in_subscript = record { on = RBra; move = shut; build = λ i r. i; law = λ i r ts. refl } ∷ []

abbrev pub operator_step : (u : Use) → Op → Step (tail_l ⊗ use_l u)
operator_step u o = record { on = op_kind o; move = go (operand u); build = λ i r. (with_op o i r.0 r.1.0, r.1.1); law = λ i r ts. refl }

abbrev pub operators_steps : (u : Use) → Steps (tail_l ⊗ use_l u)
operators_steps u =
    operator_step u join
    ∷ operator_step u plus
    ∷ operator_step u minus
    ∷ operator_step u eql
    ∷ operator_step u neq
    ∷ operator_step u lss
    ∷ operator_step u leq
    ∷ operator_step u gtr
    ∷ operator_step u geq
    ∷ operator_step u and
    ∷ operator_step u eqv
    ∷ operator_step u or
    ∷ operator_step u xor
    ∷ []

abbrev pub part_done_steps : (q : Part) → Steps (part_l q)
part_done_steps (of_expression u) = operators_steps u ++ lift (λ r. (no_more, r)) (λ r ts. refl) (use_done_steps u)
part_done_steps (of_destination c) =
    record { on = At; move = go (destination c); build = λ i r. (joined i r.0 r.1.0 r.1.1.0 r.1.1.1.0, r.1.1.1.1); law = λ i r ts. refl }
    ∷ record { on = Equals; move = go (operand (value c)); build = λ i r. (alone, (i, r)); law = λ i r ts. refl }
    ∷ []
part_done_steps of_mapping = lift (λ r. r) (λ r ts. refl) declaration_done_steps

abbrev pub access_bits_steps : (q : Part) → Steps (bits_l ⊗ part_l q)
access_bits_steps q =
    record { on = Less; move = go (bits_first q); build = λ i r. (bits i r.0 r.1.0, r.1.1); law = λ i r ts. refl }
    ∷ lift (λ r. (all_bits, r)) (λ r ts. refl) (part_done_steps q)

abbrev pub access_rest_steps : (q : Part) → Steps (subscript_l ⊗ bits_l ⊗ part_l q)
access_rest_steps q =
    record {
      on = LBra;
      move = open_to (operand in_subscript) (access_bits_lem q);
      law = λ i r ts. refl;
      build = λ i r. (subscript i r.0.0 r.0.1.0 r.0.1.1, r.1);
    }
    ∷ lift (λ r. (no_subscript, r)) (λ r ts. refl) (access_bits_steps q)

-- a destination behind its first name is a store
abbrev pub stored : (c : Site) → (meaning (access_rest (of_destination c))).tree → (meaning (action_name c)).tree
stored c r = (n_store r.0 r.1.0 r.1.1.0 r.1.1.1.0 r.1.1.1.1.0 r.1.1.1.1.1.0, r.1.1.1.1.1.1)

abbrev pub steps : (s : State) → Steps (meaning s)
steps title =
    record { on = Name; move = go title_becomes; build = λ i r. description i r.0 r.1.0 r.1.1.0 r.1.1.1.0 r.1.1.1.1; law = λ i r ts. refl } ∷ []
steps title_becomes = record { on = Becomes; move = go title_begin; build = λ i r. (i, r); law = λ i r ts. refl } ∷ []
steps title_begin = record { on = BEGIN; move = go declaration; build = λ i r. (i, r); law = λ i r ts. refl } ∷ []
steps declaration =
    record { on = Stars; move = go heading_name; build = λ i r. (heading i r.0 r.1.0, r.1.1); law = λ i r ts. refl }
    ∷ lift (λ r. (no_heading, r)) (λ r ts. refl) declarator_steps
steps heading_name = record { on = Name; move = go heading_close; build = λ i r. (i, r); law = λ i r ts. refl } ∷ []
steps heading_close = record { on = Stars; move = go declarator; build = λ i r. (i, r); law = λ i r ts. refl } ∷ []
steps declarator = declarator_steps
steps declarator_rest =
    record {
      on = LBra;
      move = open_to first_word words_bits;
      law = λ i r ts. refl;
      build = λ i r. (words i r.0.0 r.0.1.0 r.0.1.1.0 r.0.1.1.1 r.1.0 r.1.1.0, r.1.1.1);
    }
    ∷ record { on = Less; move = go (own_bits of_name); build = λ i r. (with_bits i r.0 r.1.0, r.1.1); law = λ i r ts. refl }
    ∷ record { on = Becomes; move = go body_begin; build = λ i r. (bare_body i r.0 r.1.0 r.1.1.0, r.1.1.1); law = λ i r ts. refl }
    ∷ []
steps first_word = record { on = Const; move = go word_colon; build = λ i r. (i, r); law = λ i r ts. refl } ∷ []
steps word_colon = record { on = Colon; move = go second_word; build = λ i r. (i, r); law = λ i r ts. refl } ∷ []
steps second_word = record { on = Const; move = go words_close; build = λ i r. (i, r); law = λ i r ts. refl } ∷ []
steps words_close = record { on = RBra; move = shut; build = λ i r. i; law = λ i r ts. refl } ∷ []
steps words_bits = record { on = Less; move = go (own_bits of_words); build = λ i r. (i, r); law = λ i r ts. refl } ∷ []
steps (own_bits w) =
    record { on = Greater; move = go (own_bits_done w); build = λ i r. (unnamed i, r); law = λ i r ts. refl }
    ∷ record { on = Const; move = go (own_bits_more w); build = λ i r. (named i r.0, r.1); law = λ i r ts. refl }
    ∷ []
steps (own_bits_more w) =
    record { on = Greater; move = go (own_bits_done w); build = λ i r. (bit i, r); law = λ i r ts. refl }
    ∷ record { on = Colon; move = go (own_bits_second w); build = λ i r. (upto i r.0 r.1.0, r.1.1); law = λ i r ts. refl }
    ∷ []
steps (own_bits_second w) = record { on = Const; move = go (own_bits_close w); build = λ i r. (i, r); law = λ i r ts. refl } ∷ []
steps (own_bits_close w) = record { on = Greater; move = go (own_bits_done w); build = λ i r. (i, r); law = λ i r ts. refl } ∷ []
steps (own_bits_done w) = own_bits_done_steps w
steps body_or_mapping =
    record { on = BEGIN; move = open_to (action in_block) declaration_done; build = λ i r. (body i r.0.0 r.0.1, r.1); law = λ i r ts. refl }
    ∷ record { on = Name; move = go mapping_bits; build = λ i r. (mapped i r.0 r.1.0 r.1.1.0, r.1.1.1); law = λ i r ts. refl }
    ∷ []
steps body_begin =
    record { on = BEGIN; move = open_to (action in_block) declaration_done; build = λ i r. (i, (r.0.0, (r.0.1, r.1))); law = λ i r ts. refl } ∷ []
steps mapping_bits = record { on = Less; move = go (bits_first of_mapping); build = λ i r. (i, r); law = λ i r ts. refl } ∷ []
steps main_name = record { on = Name; move = go main_rest; build = λ i r. (i, r); law = λ i r ts. refl } ∷ []
steps main_rest =
    record { on = Less; move = go (own_bits of_main); build = λ i r. (main_bits i r.0, r.1); law = λ i r ts. refl }
    ∷ lift (λ r. (bitless, r)) (λ r ts. refl) (own_bits_done_steps of_main)
steps declaration_done = declaration_done_steps
steps (action c) = action_steps c
steps (action_name c) =
    record { on = Becomes; move = go (action c); build = λ i r. (n_label i r.0, r.1); law = λ i r ts. refl }
    ∷ record { on = LPar; move = open_to call_close (action_done c); build = λ i r. (n_call i r.0, r.1); law = λ i r ts. refl }
    ∷ lift (stored c) (λ r ts. refl) (access_rest_steps (of_destination c))
steps (jump_target c) = record { on = Name; move = go (action_done c); build = λ i r. (i, r); law = λ i r ts. refl } ∷ []
steps (call_open c) = record { on = LPar; move = open_to call_close (action_done c); build = λ i r. (i, r); law = λ i r ts. refl } ∷ []
steps (destination c) = record { on = Name; move = go (access_rest (of_destination c)); build = λ i r. (i, r); law = λ i r ts. refl } ∷ []
steps (action_done c) = action_done_steps c
steps (alternatives_begin c) = record { on = BEGIN; move = open_to first_alternative (action_done c); build = λ i r. (i, r); law = λ i r ts. refl } ∷ []
steps call_close = record { on = RPar; move = shut; build = λ i r. i; law = λ i r ts. refl } ∷ []
steps first_alternative =
    lift selected (λ r ts. refl) selector_steps ++ lift (λ r. counted r.0 r.1) (λ r ts. refl) (action_steps in_counted)
steps selector = selector_steps
steps selector_rest =
    record { on = Colon; move = go selector_second; build = λ i r. (to i r.0, r.1); law = λ i r ts. refl }
    ∷ lift (λ r. (single, r)) (λ r ts. refl) becomes_steps
steps selector_second =
    record { on = Const; move = go selector_becomes; build = λ i r. (exact i, r); law = λ i r ts. refl }
    ∷ record { on = Masked; move = go selector_becomes; build = λ i r. (masked i, r); law = λ i r ts. refl }
    ∷ []
steps selector_becomes = becomes_steps
steps otherwise_becomes = record { on = Becomes; move = go (action in_last); build = λ i r. (i, r); law = λ i r ts. refl } ∷ []
steps list_item =
    record { on = Const; move = go list_item_rest; build = λ i r. (exact i, r); law = λ i r ts. refl }
    ∷ record { on = Masked; move = go list_item_rest; build = λ i r. (masked i, r); law = λ i r ts. refl }
    ∷ []
steps list_item_rest =
    record { on = Colon; move = go list_item_second; build = λ i r. (to i r.0, r.1); law = λ i r ts. refl }
    ∷ lift (λ r. (single, r)) (λ r ts. refl) list_rest_steps
steps list_item_second =
    record { on = Const; move = go list_rest; build = λ i r. (exact i, r); law = λ i r ts. refl }
    ∷ record { on = Masked; move = go list_rest; build = λ i r. (masked i, r); law = λ i r ts. refl }
    ∷ []
steps list_rest = list_rest_steps
steps (operand u) =
    record { on = Const; move = go (part_done (of_expression u)); build = λ i r. (constant i, r); law = λ i r ts. refl }
    ∷ record { on = Name; move = go (access_rest (of_expression u)); build = λ i r. (access i r.0 r.1.0, r.1.1); law = λ i r ts. refl }
    ∷ record {
      on = LPar;
      move = open_to (operand in_parens) (part_done (of_expression u));
      law = λ i r ts. refl;
      build = λ i r. (parens i r.0.0 r.0.1.0 r.0.1.1, r.1);
    }
    ∷ record { on = NOT; move = go (operand u); build = λ i r. (negated i r.0, r.1); law = λ i r ts. refl }
    ∷ []
steps (access_rest q) = access_rest_steps q
steps (access_bits_lem q) = access_bits_steps q
steps (bits_first q) = record { on = Const; move = go (bits_more q); build = λ i r. (i, r); law = λ i r ts. refl } ∷ []
steps (bits_more q) =
    record { on = Greater; move = go (part_done q); build = λ i r. (bit i, r); law = λ i r ts. refl }
    ∷ record { on = Colon; move = go (bits_second q); build = λ i r. (upto i r.0 r.1.0, r.1.1); law = λ i r ts. refl }
    ∷ []
steps (bits_second q) = record { on = Const; move = go (bits_close q); build = λ i r. (i, r); law = λ i r ts. refl } ∷ []
steps (bits_close q) = record { on = Greater; move = go (part_done q); build = λ i r. (i, r); law = λ i r ts. refl } ∷ []
steps (part_done q) = part_done_steps q
