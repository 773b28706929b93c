-- A tree for each state: every state can be brought to its end.
use Rattle.std.specs.Prelude.{List, [], ◌∷◌}
use Rattle.rules.specs.Grammar.Trees.{bit, all_bits}
use Rattle.rules.specs.Grammar.Trees.{constant, no_more, no_subscript}
use Rattle.rules.specs.Grammar.Trees.{alone, exact, single, close}
use Rattle.rules.specs.Grammar.Trees.{Action, stop}
use Rattle.rules.specs.Grammar.Trees.{end, Alternatives, counted, counted_end}
use Rattle.rules.specs.Grammar.Trees.{otherwise, selected_end}
use Rattle.rules.specs.Grammar.Trees.{unnamed, mapped, carrier, Form, with_bits}
use Rattle.rules.specs.Grammar.Trees.{bitless, Declaration, plain, no_heading}
use Rattle.rules.specs.Grammar.Trees.{declared_all, description}
use Rattle.laws_grammar.specs.Cited.Rows.{Site, in_block, in_counted, in_selected, in_last, Use, test, choose, value, in_parens, in_subscript}
use Rattle.laws_grammar.specs.Cited.Rows.{Part, of_expression, of_destination, of_mapping, Owner, of_words, of_name, of_main}
use Rattle.laws_grammar.specs.Cited.Rows.{State, title, title_becomes, title_begin, declaration, heading_name, heading_close, declarator, declarator_rest}
use Rattle.laws_grammar.specs.Cited.Rows.{first_word, word_colon, second_word, words_close, words_bits, own_bits, own_bits_more, own_bits_second, own_bits_close, own_bits_done}
use Rattle.laws_grammar.specs.Cited.Rows.{body_or_mapping, body_begin, mapping_bits, main_name, main_rest, declaration_done}
use Rattle.laws_grammar.specs.Cited.Rows.{action, action_name, jump_target, call_open, destination, action_done, alternatives_begin, call_close, first_alternative, selector}
use Rattle.laws_grammar.specs.Cited.Rows.{selector_rest, selector_second, selector_becomes, otherwise_becomes, list_item, list_item_rest, list_item_second, list_rest}
use Rattle.laws_grammar.specs.Cited.Rows.{operand, access_rest, access_bits_lem, bits_first, bits_more, bits_second, bits_close, part_done}
use Rattle.rules.specs.Grammar.Verdict.{any_info}
use Rattle.laws_grammar.specs.Grammar.Meanings.{meaning, stack_l, done_l, use_l, part_l, owner_l, body_l, becomes_l, n_call}

an_action : Action
an_action = stop any_info any_info any_info

a_body : body_l.tree
a_body = (any_info, (an_action, (end any_info, declared_all any_info)))

a_becomes : becomes_l.tree
a_becomes = (any_info, (an_action, selected_end any_info))

a_form : Form
a_form = with_bits any_info (unnamed any_info) carrier

a_declaration : Declaration
a_declaration = plain any_info a_form

sample_done : (c : Site) → (done_l c).tree
sample_done in_block = end any_info
sample_done in_counted = counted_end any_info
sample_done in_selected = selected_end any_info
sample_done in_last = any_info

some_alternatives : Alternatives
some_alternatives = counted an_action (counted_end any_info)

sample_use : (u : Use) → (use_l u).tree
sample_use (test c) = (any_info, (an_action, sample_done c))
sample_use (choose c) = (any_info, (any_info, (some_alternatives, sample_done c)))
sample_use (value c) = sample_done c
sample_use in_parens = any_info
sample_use in_subscript = any_info

sample_part : (q : Part) → (part_l q).tree
sample_part (of_expression u) = (no_more, sample_use u)
sample_part (of_destination c) = (alone, (any_info, (constant any_info, (no_more, sample_done c))))
sample_part of_mapping = declared_all any_info

sample_owner : (w : Owner) → (owner_l w).tree
sample_owner of_words = declared_all any_info
sample_owner of_name = (carrier, declared_all any_info)
sample_owner of_main = (any_info, a_body)

pub sample : (s : State) → (meaning s).tree
sample title = description any_info any_info any_info no_heading a_declaration (declared_all any_info)
sample title_becomes = (any_info, (any_info, (no_heading, (a_declaration, declared_all any_info))))
sample title_begin = (any_info, (no_heading, (a_declaration, declared_all any_info)))
sample declaration = (no_heading, (a_declaration, declared_all any_info))
sample heading_name = (any_info, (any_info, (a_declaration, declared_all any_info)))
sample heading_close = (any_info, (a_declaration, declared_all any_info))
sample declarator = (a_declaration, declared_all any_info)
sample declarator_rest = (a_form, declared_all any_info)
sample first_word = (any_info, (any_info, (any_info, any_info)))
sample word_colon = (any_info, (any_info, any_info))
sample second_word = (any_info, any_info)
sample words_close = any_info
sample words_bits = (any_info, (unnamed any_info, declared_all any_info))
sample (own_bits w) = (unnamed any_info, sample_owner w)
sample (own_bits_more w) = (bit any_info, sample_owner w)
sample (own_bits_second w) = (any_info, (any_info, sample_owner w))
sample (own_bits_close w) = (any_info, sample_owner w)
sample (own_bits_done w) = sample_owner w
sample body_or_mapping = (mapped any_info any_info any_info (bit any_info), declared_all any_info)
sample body_begin = a_body
sample mapping_bits = (any_info, (any_info, (bit any_info, declared_all any_info)))
sample main_name = (any_info, (bitless, (any_info, a_body)))
sample main_rest = (bitless, (any_info, a_body))
sample declaration_done = declared_all any_info
sample (action c) = (an_action, sample_done c)
sample (action_name c) = (n_call any_info any_info, sample_done c)
sample (jump_target c) = (any_info, sample_done c)
sample (call_open c) = (any_info, (any_info, sample_done c))
sample (destination c) = (any_info, (no_subscript, (all_bits, sample_part (of_destination c))))
sample (action_done c) = sample_done c
sample (alternatives_begin c) = (any_info, (some_alternatives, sample_done c))
sample call_close = any_info
sample first_alternative = some_alternatives
sample selector = otherwise any_info any_info an_action any_info
sample selector_rest = (single, a_becomes)
sample selector_second = (exact any_info, a_becomes)
sample selector_becomes = a_becomes
sample otherwise_becomes = (any_info, (an_action, any_info))
sample list_item = (exact any_info, (single, close any_info))
sample list_item_rest = (single, close any_info)
sample list_item_second = (exact any_info, close any_info)
sample list_rest = close any_info
sample (operand u) = (constant any_info, (no_more, sample_use u))
sample (access_rest q) = (no_subscript, (all_bits, sample_part q))
sample (access_bits_lem q) = (all_bits, sample_part q)
sample (bits_first q) = (any_info, (bit any_info, sample_part q))
sample (bits_more q) = (bit any_info, sample_part q)
sample (bits_second q) = (any_info, (any_info, sample_part q))
sample (bits_close q) = (any_info, sample_part q)
sample (part_done q) = sample_part q

pub samples : (γ : List State) → (stack_l γ).tree
samples [] = tt
samples (s ∷ σ) = (sample s, samples σ)
