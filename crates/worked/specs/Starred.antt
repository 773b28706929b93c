-- The starred lines of document 01, one table under one statement: lines 1 and 9 by Check, lines 4, 8 and 10 by Run, the others from the text that they show.
use Rattle.std.specs.Prelude.{ℕ, Bool, true, ◌&&◌, List, [], ◌∷◌, ◌++◌, T, get_or, replicate}
use Prim.Native.String.{String}
use Rattle.std.proofs.Math.Option.{Option, none, some}
use Rattle.rules.specs.Text.Bytes.{bytes}
use Rattle.rules.specs.Steps.Runs.{done, halted, paused, faulted}
use Rattle.rules.specs.Answers.{Result, refusal, ended}
use Rattle.rules.specs.Text.Tokens.{Token, tk, Name}
use Rattle.rules.specs.Grammar.Verdict.{any_info}
use Rattle.rules.specs.Grammar.Trees.{masked, to}
use Rattle.rules.specs.Values.{Value}
use Rattle.worked.specs.Worked.{short_verdict}
use Rattle.rules.specs.Selectors.{Item, pattern, between}
use Rattle.rules.specs.Answers.{judgement, place_of, little_endian, words_from, bytes_of, buffer_of, word_lengths, long_word, run_on}
use Rattle.rules.specs.Declarations.{how_many, from_left, from_right, bit_count, rest_of, declarations, number_from, number_of, storage_words, total_words}
use Rattle.rules.specs.Declarations.{first_word, reach_storage, low_bit, reach_on, reach_under, reach_of, reach_number, reach, body_number, body_of}
use Rattle.rules.specs.Declarations.{access_low, access_bits}
use Rattle.rules.specs.Faults.Bodies.{judge_name, judge_access, judge, judge_factor, judge_index, faults_in, judge_joined, stored_twice}
use Rattle.rules.specs.Faults.Bodies.{patterns_meet, reaches, items_meet, meets_any, some_meet_of, past, counted_faults, selected_faults, more_faults}
use Rattle.rules.specs.Faults.Bodies.{alternatives_faults, labels, member_labels, alternative_labels, counted_labels, selected_labels, more_labels}
use Rattle.rules.specs.Faults.Bodies.{label_faults, action_faults, members_faults, inside_faults, inside_counted, inside_selected, inside_more}
use Rattle.rules.specs.Faults.Bodies.{declared_names, faults40}
use Rattle.rules.specs.Faults.Declared.{is_known, twice, large, too_many, among, inside, bad_mapping, mappings, faults30}
use Rattle.rules.specs.Faults.Fault.{least_from, least}
use Rattle.rules.specs.Faults.Whole.{mains, main_name, chains, races_any, group_faults, members_of, alternatives_groups, counted_groups, selected_groups}
use Rattle.rules.specs.Faults.Whole.{more_groups, groups_faults, faults50}
use Rattle.rules.specs.Grammar.Precedence.{insert_by, insert, inserts, arrange, factor_of, links_of, index_of, expr_of}
use Rattle.rules.specs.Grammar.Verdict.{opens, closes, counted_by, count, opened}
use Rattle.rules.specs.Selectors.{item_of, agree, matches, highest, items_of, selector_items, any_matches, takes}
use Rattle.rules.specs.Steps.Actions.{access, joined_accesses, act_of, groups, alts_of, counted_alts, selected_alts, more_alts}
use Rattle.rules.specs.Steps.Control.{start, leftmost, work_i, choose, next_i}
use Rattle.rules.specs.Steps.Evaluation.{Outcome, gives, faulty, then, word_or70, word_of, field_in, field_of, evaluate, evaluate_factor, evaluate_index, evaluate_access}
use Rattle.rules.specs.Steps.Evaluation.{evaluate_accesses, store_all, transferred}
use Rattle.rules.specs.Steps.Runs.{body_act, begin, run_from, run}
use Rattle.rules.specs.Text.Bytes.{class_in, class_of, in_name, in_constant, in_comment, fold, leading as run_Bytes}
use Rattle.rules.specs.Text.Constants.{digit_bits, digit_value, is_digit_of, is_based_digit, all, any, value_from, free_digit, free_from, bits_from}
use Rattle.rules.specs.Text.Constants.{decimal_bits, decimal, based}
use Rattle.rules.specs.Text.Scan.{same_bytes, word_kind, mark_at, word_lexeme, constant_lexeme, mark_lexeme, lexeme_by, lexeme, scan_from, scan}
use Rattle.rules.specs.Values.{op_bits, bitwise, op_number, operate, not_number, inverse, field, with_field, total, cut}
use Rattle.rules.specs.Whole.Sets.{owner, reads_of, factor_reads, index_reads_of, subscript_reads, stores, sets_of, sets_i, sets_alts, body_sets, touched, member}
use Rattle.rules.specs.Whole.Sets.{member, meet, race, stops_in, stops_i, stops_alts, body_stops, may_stop, calls_in, calls_i, calls_alts, any_name}
use Rattle.rules.specs.Whole.Sets.{chain_over}
use Rattle.laws_grammar.specs.Answers.{description_of, check, runs}
use Rattle.laws_grammar.specs.Grammar.Meanings.{stack_l}
use Rattle.laws_grammar.specs.Cited.Rows.{operand, in_parens, lookup, too_deep, judge as judge_Rows, run as run_Rows, recognise}
use Rattle.laws_grammar.specs.Grammar.Reading.{find, split, put, act, read}
use Rattle.std.proofs.Math.Decide.{dec_lt}

-- the numbers of a run, with the carrier bytes
abbrev result_bytes : Result → List ℕ
result_bytes (refusal m p) = 4 ∷ m ∷ p ∷ []
result_bytes (ended done n b) = 0 ∷ n ∷ b
result_bytes (ended halted n b) = 1 ∷ n ∷ b
result_bytes (ended paused n b) = 2 ∷ n ∷ b
result_bytes (ended (faulted m p) n b) = 3 ∷ m ∷ p ∷ n ∷ b

-- the length and the number that a text of an expression comes to: it is scanned, read up to a closing parenthesis, and evaluated
abbrev value_numbers : Outcome Value → List ℕ
value_numbers (gives v) = v.bits ∷ v.number ∷ []
value_numbers (faulty m p) = []

abbrev evaluated : Option (stack_l (operand in_parens ∷ [])).tree → List ℕ
evaluated none = []
evaluated (some x) = value_numbers (evaluate [] [] (expr_of x.0.0 x.0.1.0))

abbrev value_in : String → List ℕ
value_in t = evaluated (read (scan (bytes t ++ bytes ")")).tokens (operand in_parens ∷ []))

abbrev item_numbers : Item → List ℕ
item_numbers (pattern v f) = v ∷ f ∷ []
item_numbers (between l h) = l ∷ h ∷ []

-- the range that a text of two constants and a colon stands for
abbrev range_in : List Token → List ℕ
range_in ts = item_numbers (item_of (masked (get_or ts 0 (tk Name any_info)).info) (to any_info (masked (get_or ts 2 (tk Name any_info)).info)))

-- a carrier word below 256, as its eight bytes
abbrev word : ℕ → List ℕ
word n = n ∷ replicate 7 0

abbrev loop : String
loop = "N := BEGIN A<3:0>, MAIN GO := BEGIN LP := REPEAT BEGIN A = A + '1 NEXT IF A EQL '1010 => LEAVE LP END END END"

pub record Line : Type 0 where
  pub number : ℕ
  pub computed : List ℕ
  pub says : List ℕ

abbrev line : ℕ → List ℕ → List ℕ → Line
line n c s = record { number = n; computed = c; says = s }

-- each line of document 01 with what the definitions compute and what it says
abbrev pub lines : List Line
lines =
    line 1 (short_verdict (check (bytes ""))) (4 ∷ 20 ∷ 0 ∷ [])
    ∷ line 2 (range_in (scan (bytes "'0?11?0 : '?11?0?")).tokens) (12 ∷ 61 ∷ [])
    ∷ line 3 (range_in (scan (bytes "'1? : '0?")).tokens) (0 ∷ 3 ∷ [])
    ∷ line 4 (result_bytes (runs (bytes "N := BEGIN A<3:0>, MAIN GO := BEGIN A = A + '1 END END") (word 15) 9)) (0 ∷ 1 ∷ word 0)
    ∷ line 5 (value_in "'0000 - '0001") (5 ∷ 31 ∷ [])
    ∷ line 6 (value_in "NOT '0101") (4 ∷ 10 ∷ [])
    ∷ line 7 (value_in "'01 @ '1") (3 ∷ 3 ∷ [])
    ∷ line 8 (result_bytes (runs (bytes "N := BEGIN A<3:0>, B<3:0>, MAIN GO := BEGIN A@B = '10010110 END END") (replicate 16 0) 9)) (0 ∷ 1 ∷ (word 9 ++ word 6))
    ∷ line 9 (short_verdict (check (bytes "N := BEGIN A<3:0>, B<3:0>, MAIN GO := BEGIN A = B; B = A END END"))) (4 ∷ 53 ∷ 51 ∷ [])
    ∷ line 10 (result_bytes (runs (bytes loop) (word 0) 31)) (0 ∷ 31 ∷ word 10)
    ∷ line 10 (result_bytes (runs (bytes loop) (word 0) 30)) (2 ∷ 30 ∷ word 10) ∷ []

unfoldable pub all_so : List Line → Bool
all_so [] = true
all_so (l ∷ ls) = same_bytes l.computed l.says && all_so ls

pub starred : T (all_so lines)
unfolding judgement place_of little_endian words_from bytes_of buffer_of word_lengths long_word run_on how_many from_left from_right bit_count rest_of
    declarations number_from number_of storage_words total_words first_word reach_storage low_bit reach_on reach_under reach_of reach_number reach body_number
    body_of access_low access_bits judge_name judge_access judge judge_factor judge_index faults_in judge_joined stored_twice patterns_meet reaches
    items_meet meets_any some_meet_of past counted_faults selected_faults more_faults alternatives_faults labels member_labels alternative_labels counted_labels
    selected_labels more_labels label_faults action_faults members_faults inside_faults inside_counted inside_selected inside_more declared_names faults40
    is_known twice large too_many among inside bad_mapping mappings faults30 least_from least mains main_name chains races_any group_faults members_of
    alternatives_groups counted_groups selected_groups more_groups groups_faults faults50 insert_by insert inserts arrange factor_of
    links_of index_of expr_of opens closes counted_by count opened item_of agree matches highest items_of selector_items any_matches takes access
    joined_accesses act_of groups alts_of counted_alts selected_alts more_alts start leftmost work_i choose next_i then word_or70 word_of field_in field_of
    evaluate evaluate_factor evaluate_index evaluate_access evaluate_accesses store_all transferred body_act begin run_from run class_in class_of in_name
    in_constant in_comment fold run_Bytes digit_bits digit_value is_digit_of is_based_digit all any value_from free_digit free_from bits_from decimal_bits decimal
    based same_bytes word_kind mark_at word_lexeme constant_lexeme mark_lexeme lexeme_by lexeme scan_from scan op_bits bitwise op_number operate not_number
    inverse field with_field total cut owner reads_of factor_reads index_reads_of subscript_reads stores sets_of sets_i sets_alts body_sets touched member meet
    race stops_in stops_i stops_alts body_stops may_stop calls_in calls_i calls_alts any_name chain_over description_of check
    runs lookup too_deep judge_Rows run_Rows recognise find split put act read dec_lt all_so
starred = tt
