-- Short texts with a test and an output, worked out by the definitions: 0 0 where it passes, else the number and the place.
use Rattle.std.specs.Prelude.{ℕ, ◌≡◌, refl, Bool, true, ◌&&◌, List, [], ◌∷◌, ◌++◌, T}
use Prim.Native.String.{String}
use Rattle.rules.specs.Text.Bytes.{bytes, class_in, class_of, in_name, in_constant, in_comment, fold, leading as run_Bytes}
use Rattle.rules.specs.Answers.{judgement, place_of, little_endian, words_from, bytes_of, buffer_of, word_lengths, long_word, run_on}
use Rattle.rules.specs.Declarations.{how_many, from_left, from_right, bit_count, rest_of, declarations, number_from, number_of, storage_words, total_words}
use Rattle.rules.specs.Declarations.{first_word, reach_storage, low_bit, reach_on, reach_under, reach_of, reach_number, reach, body_number, body_of, access_low, access_bits}
use Rattle.rules.specs.Faults.Bodies.{judge_name, judge_access, judge, judge_factor, judge_index, faults_in, judge_joined, stored_twice}
use Rattle.rules.specs.Faults.Bodies.{patterns_meet, reaches, items_meet, meets_any, some_meet_of, past, counted_faults, selected_faults, more_faults}
use Rattle.rules.specs.Faults.Bodies.{alternatives_faults, labels, member_labels, alternative_labels, counted_labels, selected_labels, more_labels}
use Rattle.rules.specs.Faults.Bodies.{label_faults, action_faults, members_faults, inside_faults, inside_counted, inside_selected, inside_more, declared_names, faults40}
use Rattle.rules.specs.Faults.Declared.{is_known, twice, large, too_many, among, inside, bad_mapping, mappings, faults30}
use Rattle.rules.specs.Faults.Fault.{least_from, least}
use Rattle.rules.specs.Faults.Whole.{mains, main_name, chains, races_any, group_faults, members_of, alternatives_groups, counted_groups, selected_groups}
use Rattle.rules.specs.Faults.Whole.{more_groups, groups_faults, faults50}
use Rattle.laws_grammar.specs.Grammar.Blocks.{also_before, groups_of}
use Rattle.rules.specs.Grammar.Precedence.{insert_by, insert, inserts, arrange, factor_of, links_of, index_of, expr_of}
use Rattle.rules.specs.Grammar.Verdict.{opens, closes, counted_by, count, opened}
use Rattle.rules.specs.Selectors.{item_of, agree, matches, highest, items_of, selector_items, any_matches, takes}
use Rattle.rules.specs.Steps.Actions.{access, joined_accesses, act_of, groups, alts_of, counted_alts, selected_alts, more_alts}
use Rattle.rules.specs.Steps.Control.{start, leftmost, work_i, choose, next_i}
use Rattle.rules.specs.Steps.Evaluation.{then, word_or70, word_of, field_in, field_of, evaluate, evaluate_factor, evaluate_index, evaluate_access}
use Rattle.rules.specs.Steps.Evaluation.{evaluate_accesses, store_all, transferred}
use Rattle.rules.specs.Steps.Runs.{body_act, begin, run_from, run}
use Rattle.rules.specs.Text.Constants.{digit_bits, digit_value, is_digit_of, is_based_digit, all, any, value_from, free_digit, free_from, bits_from, decimal_bits, decimal, based}
use Rattle.rules.specs.Text.Scan.{same_bytes, word_kind, mark_at, word_lexeme, constant_lexeme, mark_lexeme, lexeme_by, lexeme, scan_from, scan}
use Rattle.rules.specs.Values.{op_bits, bitwise, op_number, operate, not_number, inverse, field, with_field, total, cut}
use Rattle.rules.specs.Whole.Sets.{owner, reads_of, factor_reads, index_reads_of, subscript_reads, stores, sets_of, sets_i, sets_alts, body_sets, touched, member}
use Rattle.rules.specs.Whole.Sets.{member, meet, race, stops_in, stops_i, stops_alts, body_stops, may_stop, calls_in, calls_i, calls_alts, any_name, chain_over}
use Rattle.laws_orders.proofs.Orders.Orderly.{without, jumps_out, jumps_i, jumps_alts}
use Rattle.laws_grammar.specs.Answers.{description_of, check, runs}
use Rattle.laws_grammar.specs.Cited.Rows.{lookup, too_deep, judge as judge_Rows, run as run_Rows, recognise}
use Rattle.laws_grammar.specs.Grammar.Reading.{find, split, put, act, read}
use Rattle.std.proofs.Math.Decide.{dec_lt}
use Rattle.rules.specs.Paths.{storage_of, Profile, fails, passes}
use Rattle.paths.specs.Cited.Early.{early, early_i, early_alts, body_early, early_places, lowest, profile}
use Rattle.paths.proofs.Texts.{answer}

abbrev pub numbers : Profile → List ℕ
numbers passes = 0 ∷ 0 ∷ []
numbers (fails m p) = m ∷ p ∷ []

pub record Case : Type 0 where
  pub test : String
  pub output : String
  pub main : String
  pub number : ℕ
  pub place : ℕ

abbrev pub case : String → String → String → ℕ → ℕ → Case
case t o m n p = record { test = t; output = o; main = m; number = n; place = p }

-- the declarations that all of them share: 89 bytes before MAIN's actions
abbrev pub front : List ℕ
front = bytes "N:=BEGIN A<3:0>,B<>:=A<0>,C<>,T:=BEGIN IF C=>NO.OP() END,U:=BEGIN T() END,MAIN GO:=BEGIN "

abbrev pub back : List ℕ
back = bytes " END END"

abbrev pub cases : List Case
cases =
    case "T" "A" "T() NEXT A = '1" 0 0
    ∷ case "t" "a" "T() NEXT A = '1" 0 0
    ∷ case "X" "A" "T() NEXT A = '1" 90 0
    ∷ case "C" "X" "T() NEXT A = '1" 90 0
    ∷ case "T" "B" "T() NEXT A = '1" 91 0
    ∷ case "T" "T" "T() NEXT A = '1" 91 0
    ∷ case "T" "A" "T(); A = '1" 92 94
    ∷ case "T" "A" "T(); B = '1" 92 94
    ∷ case "T" "A" "T(); C @ B = '11" 53 94
    ∷ case "T" "A" "C @ B = '11 NEXT T()" 92 89
    ∷ case "T" "A" "U() NEXT A = '1" 0 0
    ∷ case "U" "A" "T() NEXT A = '1" 92 98
    ∷ case "GO" "A" "T() NEXT A = '1" 92 98
    ∷ case "T" "A" "IF C => T() NEXT A = '1" 92 106
    ∷ case "T" "A" "DECODE C => BEGIN T(), STOP() END NEXT A = '1" 0 0
    ∷ case "T" "A" "DECODE C => BEGIN T(), NO.OP() END NEXT A = '1" 92 129
    ∷ case "T" "A" "REPEAT T() NEXT A = '1" 0 0
    ∷ case "T" "A" "L := REPEAT BEGIN IF C => LEAVE L NEXT T() END NEXT A = '1" 92 141
    ∷ case "T" "A" "L := REPEAT BEGIN T() NEXT IF C => LEAVE L END NEXT A = '1" 0 0
    ∷ case "T" "A" "L := BEGIN IF C => RESTART L NEXT T() END NEXT A = '1" 0 0
    ∷ case "T" "A" "IF C => STOP() NEXT T() NEXT A = '1" 0 0
    ∷ case "T" "A" "BEGIN NO.OP(); T() END NEXT A = '1" 0 0
    ∷ case "T" "A" "BEGIN NO.OP(); C = '1 END NEXT A = '1 NEXT A = '0" 92 120
    ∷ case "T" "A" "IF C => LEAVE GO NEXT T() NEXT A = '1" 0 0
    ∷ []

unfoldable pub all_agree : List Case → Bool
all_agree [] = true
all_agree (c ∷ cs) =
    same_bytes (numbers (answer (front ++ (bytes c.main ++ back)) (bytes c.test) (bytes c.output))) (c.number ∷ c.place ∷ []) && all_agree cs

pub cases_agree_lem : T (all_agree cases)
unfolding judgement place_of little_endian words_from bytes_of buffer_of word_lengths long_word run_on how_many from_left from_right bit_count rest_of
    declarations number_from number_of storage_words total_words first_word reach_storage low_bit reach_on reach_under reach_of reach_number reach body_number
    body_of access_low access_bits judge_name judge_access judge judge_factor judge_index faults_in judge_joined stored_twice patterns_meet reaches
    items_meet meets_any some_meet_of past counted_faults selected_faults more_faults alternatives_faults labels member_labels alternative_labels counted_labels
    selected_labels more_labels label_faults action_faults members_faults inside_faults inside_counted inside_selected inside_more declared_names faults40
    is_known twice large too_many among inside bad_mapping mappings faults30 least_from least mains main_name chains races_any group_faults members_of
    alternatives_groups counted_groups selected_groups more_groups groups_faults faults50 also_before groups_of insert_by insert inserts arrange factor_of
    links_of index_of expr_of opens closes counted_by count opened item_of agree matches highest items_of selector_items any_matches takes access
    joined_accesses act_of groups alts_of counted_alts selected_alts more_alts start leftmost work_i choose next_i then word_or70 word_of field_in field_of
    evaluate evaluate_factor evaluate_index evaluate_access evaluate_accesses store_all transferred body_act begin run_from run class_in class_of in_name
    in_constant in_comment fold run_Bytes digit_bits digit_value is_digit_of is_based_digit all any value_from free_digit free_from bits_from decimal_bits decimal
    based same_bytes word_kind mark_at word_lexeme constant_lexeme mark_lexeme lexeme_by lexeme scan_from scan op_bits bitwise op_number operate not_number
    inverse field with_field total cut owner reads_of factor_reads index_reads_of subscript_reads stores sets_of sets_i sets_alts body_sets touched member meet
    race stops_in stops_i stops_alts body_stops may_stop calls_in calls_i calls_alts any_name chain_over without jumps_out jumps_i jumps_alts description_of check
    runs lookup too_deep judge_Rows run_Rows recognise find split put act read dec_lt early early_i early_alts body_early early_places lowest storage_of profile answer all_agree
cases_agree_lem = tt

-- DECODE takes any of its alternatives. No number leads to this OTHERWISE, for a pattern of 64 free bits takes them all; a path goes there all the same.
pub takes_all : (x : ℕ) → agree 64 0 18446744073709551615 x ≡ true
unfolding agree
takes_all x = refl

unfoldable pub whole_answer : String → String → String → List ℕ
whole_answer t a o = numbers (answer (bytes t) (bytes a) (bytes o))

pub any_alternative : T (same_bytes (whole_answer "N := BEGIN A<63:0>, C<>, T := BEGIN NO.OP() END, MAIN GO := BEGIN DECODE A => BEGIN \"???????????????? := T(), OTHERWISE := NO.OP() END NEXT C = '1 END END" "T" "C") (92 ∷ 140 ∷ []))
unfolding judgement place_of little_endian words_from bytes_of buffer_of word_lengths long_word run_on how_many from_left from_right bit_count rest_of
    declarations number_from number_of storage_words total_words first_word reach_storage low_bit reach_on reach_under reach_of reach_number reach body_number
    body_of access_low access_bits judge_name judge_access judge judge_factor judge_index faults_in judge_joined stored_twice patterns_meet reaches
    items_meet meets_any some_meet_of past counted_faults selected_faults more_faults alternatives_faults labels member_labels alternative_labels counted_labels
    selected_labels more_labels label_faults action_faults members_faults inside_faults inside_counted inside_selected inside_more declared_names faults40
    is_known twice large too_many among inside bad_mapping mappings faults30 least_from least mains main_name chains races_any group_faults members_of
    alternatives_groups counted_groups selected_groups more_groups groups_faults faults50 also_before groups_of insert_by insert inserts arrange factor_of
    links_of index_of expr_of opens closes counted_by count opened item_of agree matches highest items_of selector_items any_matches takes access
    joined_accesses act_of groups alts_of counted_alts selected_alts more_alts start leftmost work_i choose next_i then word_or70 word_of field_in field_of
    evaluate evaluate_factor evaluate_index evaluate_access evaluate_accesses store_all transferred body_act begin run_from run class_in class_of in_name
    in_constant in_comment fold run_Bytes digit_bits digit_value is_digit_of is_based_digit all any value_from free_digit free_from bits_from decimal_bits decimal
    based same_bytes word_kind mark_at word_lexeme constant_lexeme mark_lexeme lexeme_by lexeme scan_from scan op_bits bitwise op_number operate not_number
    inverse field with_field total cut owner reads_of factor_reads index_reads_of subscript_reads stores sets_of sets_i sets_alts body_sets touched member meet
    race stops_in stops_i stops_alts body_stops may_stop calls_in calls_i calls_alts any_name chain_over without jumps_out jumps_i jumps_alts description_of check
    runs lookup too_deep judge_Rows run_Rows recognise find split put act read dec_lt early early_i early_alts body_early early_places lowest storage_of profile answer all_agree whole_answer
any_alternative = tt
