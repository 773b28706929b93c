-- Short texts of every kind of answer, worked out by the definitions. The answers come from hand and from an implementation that shares nothing with
-- this project.
use Rattle.std.specs.Prelude.{ℕ, ◌*◌, Bool, true, ◌&&◌, List, [], ◌∷◌, ◌++◌, T, replicate}
use Prim.Native.String.{String}
use Rattle.rules.specs.Text.Bytes.{bytes}
use Rattle.worked.specs.Edges.{Text, refuses_bytes, accepts_bytes, times, carriers, chain, edges}
use Rattle.rules.specs.Steps.Runs.{done, halted, paused, faulted}
use Rattle.rules.specs.Answers.{Verdict, accepted, refused, Result, refusal, ended}
use Rattle.rules.specs.Answers.{judgement, place_of, little_endian, words_from, bytes_of, buffer_of, word_lengths, long_word, run_on}
use Rattle.rules.specs.Declarations.{how_many, from_left, from_right, bit_count, rest_of, declarations, number_from, number_of, storage_words, total_words}
use Rattle.rules.specs.Declarations.{first_word, reach_storage, low_bit, reach_on, reach_under, reach_of, reach_number, reach, body_number, body_of}
use Rattle.rules.specs.Declarations.{access_low, access_bits}
use Rattle.rules.specs.Faults.Bodies.{judge_name, judge_access, judge, judge_factor, judge_index, faults_in, judge_joined, stored_twice}
use Rattle.rules.specs.Faults.Bodies.{patterns_meet, reaches, items_meet, meets_any, some_meet_of, past, counted_faults, selected_faults, more_faults}
use Rattle.rules.specs.Faults.Bodies.{alternatives_faults, labels, member_labels, alternative_labels, counted_labels, selected_labels, more_labels}
use Rattle.rules.specs.Faults.Bodies.{label_faults, action_faults, members_faults, inside_faults, inside_counted, inside_selected, inside_more}
use Rattle.rules.specs.Faults.Bodies.{declared_names, faults40}
use Rattle.rules.specs.Faults.Declared.{is_known, twice, large, too_many, among, inside, bad_mapping, mappings, faults30}
use Rattle.rules.specs.Faults.Fault.{least_from, least}
use Rattle.rules.specs.Faults.Whole.{mains, main_name, chains, races_any, group_faults, members_of, alternatives_groups, counted_groups, selected_groups}
use Rattle.rules.specs.Faults.Whole.{more_groups, groups_faults, faults50}
use Rattle.rules.specs.Grammar.Precedence.{insert_by, insert, inserts, arrange, factor_of, links_of, index_of, expr_of}
use Rattle.rules.specs.Grammar.Verdict.{opens, closes, counted_by, count, opened}
use Rattle.rules.specs.Selectors.{item_of, agree, matches, highest, items_of, selector_items, any_matches, takes}
use Rattle.rules.specs.Steps.Actions.{access, joined_accesses, act_of, groups, alts_of, counted_alts, selected_alts, more_alts}
use Rattle.rules.specs.Steps.Control.{start, leftmost, work_i, choose, next_i}
use Rattle.rules.specs.Steps.Evaluation.{then, word_or70, word_of, field_in, field_of, evaluate, evaluate_factor, evaluate_index, evaluate_access}
use Rattle.rules.specs.Steps.Evaluation.{evaluate_accesses, store_all, transferred}
use Rattle.rules.specs.Steps.Runs.{body_act, begin, run_from, run}
use Rattle.rules.specs.Text.Bytes.{class_in, class_of, in_name, in_constant, in_comment, fold, leading as run_Bytes}
use Rattle.rules.specs.Text.Constants.{digit_bits, digit_value, is_digit_of, is_based_digit, all, any, value_from, free_digit, free_from, bits_from}
use Rattle.rules.specs.Text.Constants.{decimal_bits, decimal, based}
use Rattle.rules.specs.Text.Scan.{same_bytes, word_kind, mark_at, word_lexeme, constant_lexeme, mark_lexeme, lexeme_by, lexeme, scan_from, scan}
use Rattle.rules.specs.Values.{op_bits, bitwise, op_number, operate, not_number, inverse, field, with_field, total, cut}
use Rattle.rules.specs.Whole.Sets.{owner, reads_of, factor_reads, index_reads_of, subscript_reads, stores, sets_of, sets_i, sets_alts, body_sets, touched, member}
use Rattle.rules.specs.Whole.Sets.{member, meet, race, stops_in, stops_i, stops_alts, body_stops, may_stop, calls_in, calls_i, calls_alts, any_name}
use Rattle.rules.specs.Whole.Sets.{chain_over}
use Rattle.laws_grammar.specs.Answers.{description_of, check, runs}
use Rattle.laws_grammar.specs.Cited.Rows.{lookup, too_deep, judge as judge_Rows, run as run_Rows, recognise}
use Rattle.laws_grammar.specs.Grammar.Reading.{find, split, put, act, read}
use Rattle.std.proofs.Math.Decide.{dec_lt}

-- a verdict, and a result  its carriers, as numbers to compare
abbrev pub short_verdict : Verdict → List ℕ
short_verdict (accepted n w) = 0 ∷ n ∷ w ∷ []
short_verdict (refused m p) = 4 ∷ m ∷ p ∷ []

abbrev short_result : Result → List ℕ
short_result (refusal m p) = 4 ∷ m ∷ p ∷ []
short_result (ended done n b) = 0 ∷ n ∷ []
short_result (ended halted n b) = 1 ∷ n ∷ []
short_result (ended paused n b) = 2 ∷ n ∷ []
short_result (ended (faulted m p) n b) = 3 ∷ m ∷ p ∷ n ∷ []

-- a text with the numbers of Run's answer, from so many bytes of zero and with a budget
pub record Start : Type 0 where
  pub text : String
  pub zeros : ℕ
  pub budget : ℕ
  pub numbers : List ℕ

abbrev refuses : String → ℕ → ℕ → Text
refuses t m p = refuses_bytes (bytes t) m p

abbrev accepts : String → ℕ → ℕ → Text
accepts t n w = accepts_bytes (bytes t) n w

abbrev starts : String → ℕ → ℕ → List ℕ → Start
starts t z b ns = record { text = t; zeros = z; budget = b; numbers = ns }

abbrev pub texts : List Text
texts =
    refuses "a $" 10 2
    ∷ refuses "*! 1?A.!<" 10 0
    ∷ refuses "N := BEGIN A<#8" 12 13
    ∷ refuses "; \"\t+\nAb" 12 2
    ∷ refuses "AAAAAAAAAAAAAAAAAAAAAAAAAAAAAAAAA := BEGIN MAIN GO := BEGIN NO.OP() END END" 11 0
    ∷ refuses "" 20 0
    ∷ refuses " \n\t\r " 20 5
    ∷ refuses "N" 20 1
    ∷ refuses "N := BEGIN MAIN A<3>, B<0> END" 20 20
    ∷ refuses "N := BEGIN A<3:0>, MAIN GO := BEGIN A = '? END END" 20 40
    ∷ refuses "N := BEGIN A<3:0>, MAIN GO := BEGIN A = (((((((((((((((((((((((((((((((BEGIN END END" 21 70
    ∷ refuses "N := BEGIN N<3:0>, MAIN GO := BEGIN NO.OP() END END" 30 11
    ∷ refuses "N := BEGIN A<1>, A<1>, B<0> := X<0>, MAIN GO := BEGIN NO.OP() END END" 30 17
    ∷ refuses "N := BEGIN A<4096:4096>, MAIN GO := BEGIN A = 1 END END" 31 11
    ∷ refuses "N := BEGIN M[0:2047]<7:0>, K[2048:0]<>, MAIN GO := BEGIN M[2047] = 1 END END" 32 27
    ∷ refuses "N := BEGIN B<0> := N<0>, N<3:0>, MAIN GO := BEGIN B = 1 END END" 33 11
    ∷ refuses "N := BEGIN A<>, B<> := A<0>, MAIN GO := BEGIN B = 1 END END" 33 16
    ∷ refuses "N := BEGIN W<63:0>, MAIN GO := BEGIN W = W @ (U EQL '1) END END" 40 46
    ∷ refuses "N := BEGIN A<3:0>, MAIN GO := BEGIN A[0] = 1 END END" 41 36
    ∷ refuses "N := BEGIN A<3:0>, MAIN GO := BEGIN N() END END" 41 36
    ∷ refuses "N := BEGIN A<2:7>, MAIN GO := BEGIN A<3:2> = 3 END END" 42 36
    ∷ refuses "N := BEGIN W<63:0>, MAIN GO := BEGIN W = W @ (W @ W) END END" 43 48
    ∷ refuses "N := BEGIN A<63:0>, MAIN GO := BEGIN A @ A = 1 END END" 43 39
    ∷ refuses "N := BEGIN A<3:0>, MAIN GO := BEGIN GO := A = 1 END END" 44 36
    ∷ refuses "N := BEGIN A<3:0>, MAIN GO := BEGIN LEAVE A END END" 44 36
    ∷ refuses "N := BEGIN A<2:0>, MAIN GO := BEGIN DECODE A => BEGIN '???? := NO.OP() END END END" 45 54
    ∷ refuses "N := BEGIN A<2:0>, MAIN GO := BEGIN DECODE A => BEGIN 3:1 := NO.OP(), 2 := NO.OP() END END END" 45 70
    ∷ refuses "N := BEGIN A<3:0>, B<0> := A<0>, MAIN GO := BEGIN A<3:2> @ B = 1 END END" 46 59
    ∷ refuses "N := BEGIN A<3:0> END" 50 0
    ∷ refuses "N := BEGIN MAIN P := BEGIN P() END, MAIN GO := BEGIN GO() END END" 50 36
    ∷ refuses "N := BEGIN MAIN C0 := BEGIN C1() END, C1 := BEGIN C1() END END" 51 16
    ∷ refuses "N := BEGIN A<3:0>, MAIN GO := BEGIN A = 1; STOP() END END" 52 43
    ∷ refuses "N := BEGIN A<3:0>, MAIN GO := BEGIN L := BEGIN A = 1; LEAVE L END END END" 52 54
    ∷ refuses "N := BEGIN A<3:0>, M[0:15]<3:0>, MAIN GO := BEGIN A = 1; M[A] = 1 END END" 53 57
    ∷ refuses "N := BEGIN A<3:0>, P := BEGIN A = 1 END, MAIN GO := BEGIN P(); P() END END" 53 63
    ∷ accepts "N := BEGIN MAIN C0 := BEGIN NO.OP() END END" 1 0
    ∷ accepts "N := BEGIN M[0:3]<7:0>, A<7:0>, MAIN GO := BEGIN A = M['11] NEXT A = M['100] END END" 3 5
    ∷ accepts "N := BEGIN A<2:0>, MAIN GO := BEGIN DECODE A => BEGIN '1?1 := NO.OP(), 6 := NO.OP(), 4 := NO.OP() END END END" 2 1 ∷ []

abbrev pub beginnings : List Start
beginnings =
    starts "N := BEGIN MAIN C0 := BEGIN NO.OP() END END" 0 1000 (0 ∷ 1 ∷ [])
    ∷ starts "N := BEGIN MAIN C0 := BEGIN NO.OP() END END" 0 0 (2 ∷ 0 ∷ [])
    ∷ starts "N := BEGIN MAIN C0 := BEGIN C1() END, C1 := BEGIN STOP() END END" 0 1000 (1 ∷ 2 ∷ [])
    ∷ starts "N := BEGIN MAIN C0 := BEGIN C1() END, C1 := BEGIN STOP() END END" 0 1 (2 ∷ 1 ∷ [])
    ∷ starts "N := BEGIN MAIN GO := BEGIN REPEAT NO.OP() END END" 0 100 (2 ∷ 100 ∷ [])
    ∷ starts "N := BEGIN A<3:0>, M[0:3]<3:0>, K[0:3]<3:0>, MAIN GO := BEGIN M[9] = K[8] END END" 72 9 (3 ∷ 70 ∷ 69 ∷ 0 ∷ [])
    ∷ starts "N := BEGIN A<3:0>, M[0:3]<3:0>, K[0:3]<3:0>, MAIN GO := BEGIN A = M[K[7]] + K[6] END END" 72 9 (3 ∷ 70 ∷ 68 ∷ 0 ∷ [])
    ∷ starts "N := BEGIN A<1:0>, MAIN GO := BEGIN A = 2 NEXT DECODE A => BEGIN STOP(), STOP() END END END" 8 1000 (3 ∷ 71 ∷ 47 ∷ 1 ∷ [])
    ∷ starts "N := BEGIN A<1:0>, MAIN GO := BEGIN A = 2 END END" 7 1000 (4 ∷ 60 ∷ 0 ∷ [])
    ∷ starts "N := BEGIN A<1:0>, MAIN GO := BEGIN A = 2 END END" 16 1000 (4 ∷ 60 ∷ 0 ∷ [])
    ∷ starts "N := BEGIN A<1:0>, MAIN GO := BEGIN A = END END" 8 1000 (4 ∷ 20 ∷ 40 ∷ []) ∷ []

unfoldable pub checks_agree : List Text → Bool
checks_agree [] = true
checks_agree (t ∷ ts) = same_bytes (short_verdict (check t.text)) t.numbers && checks_agree ts

unfoldable pub runs_agree : List Start → Bool
runs_agree [] = true
runs_agree (t ∷ ts) = same_bytes (short_result (runs (bytes t.text) (replicate t.zeros 0) t.budget)) t.numbers && runs_agree ts

-- every one of them is as it says
pub checks_agree_lem : T (checks_agree (edges ++ texts))
unfolding judgement place_of little_endian words_from bytes_of buffer_of word_lengths long_word run_on how_many from_left from_right bit_count rest_of
    declarations number_from number_of storage_words total_words first_word reach_storage low_bit reach_on reach_under reach_of reach_number reach body_number
    body_of access_low access_bits judge_name judge_access judge judge_factor judge_index faults_in judge_joined stored_twice patterns_meet reaches
    items_meet meets_any some_meet_of past counted_faults selected_faults more_faults alternatives_faults labels member_labels alternative_labels counted_labels
    selected_labels more_labels label_faults action_faults members_faults inside_faults inside_counted inside_selected inside_more declared_names faults40
    is_known twice large too_many among inside bad_mapping mappings faults30 least_from least mains main_name chains races_any group_faults members_of
    alternatives_groups counted_groups selected_groups more_groups groups_faults faults50 insert_by insert inserts arrange factor_of
    links_of index_of expr_of opens closes counted_by count opened item_of agree matches highest items_of selector_items any_matches takes access
    joined_accesses act_of groups alts_of counted_alts selected_alts more_alts start leftmost work_i choose next_i then word_or70 word_of field_in field_of
    evaluate evaluate_factor evaluate_index evaluate_access evaluate_accesses store_all transferred body_act begin run_from run class_in class_of in_name
    in_constant in_comment fold run_Bytes digit_bits digit_value is_digit_of is_based_digit all any value_from free_digit free_from bits_from decimal_bits decimal
    based same_bytes word_kind mark_at word_lexeme constant_lexeme mark_lexeme lexeme_by lexeme scan_from scan op_bits bitwise op_number operate not_number
    inverse field with_field total cut owner reads_of factor_reads index_reads_of subscript_reads stores sets_of sets_i sets_alts body_sets touched member meet
    race stops_in stops_i stops_alts body_stops may_stop calls_in calls_i calls_alts any_name chain_over description_of check
    runs lookup too_deep judge_Rows run_Rows recognise find split put act read dec_lt checks_agree times carriers chain
checks_agree_lem = tt

pub runs_agree_lem : T (runs_agree beginnings)
unfolding judgement place_of little_endian words_from bytes_of buffer_of word_lengths long_word run_on how_many from_left from_right bit_count rest_of
    declarations number_from number_of storage_words total_words first_word reach_storage low_bit reach_on reach_under reach_of reach_number reach body_number
    body_of access_low access_bits judge_name judge_access judge judge_factor judge_index faults_in judge_joined stored_twice patterns_meet reaches
    items_meet meets_any some_meet_of past counted_faults selected_faults more_faults alternatives_faults labels member_labels alternative_labels counted_labels
    selected_labels more_labels label_faults action_faults members_faults inside_faults inside_counted inside_selected inside_more declared_names faults40
    is_known twice large too_many among inside bad_mapping mappings faults30 least_from least mains main_name chains races_any group_faults members_of
    alternatives_groups counted_groups selected_groups more_groups groups_faults faults50 insert_by insert inserts arrange factor_of
    links_of index_of expr_of opens closes counted_by count opened item_of agree matches highest items_of selector_items any_matches takes access
    joined_accesses act_of groups alts_of counted_alts selected_alts more_alts start leftmost work_i choose next_i then word_or70 word_of field_in field_of
    evaluate evaluate_factor evaluate_index evaluate_access evaluate_accesses store_all transferred body_act begin run_from run class_in class_of in_name
    in_constant in_comment fold run_Bytes digit_bits digit_value is_digit_of is_based_digit all any value_from free_digit free_from bits_from decimal_bits decimal
    based same_bytes word_kind mark_at word_lexeme constant_lexeme mark_lexeme lexeme_by lexeme scan_from scan op_bits bitwise op_number operate not_number
    inverse field with_field total cut owner reads_of factor_reads index_reads_of subscript_reads stores sets_of sets_i sets_alts body_sets touched member meet
    race stops_in stops_i stops_alts body_stops may_stop calls_in calls_i calls_alts any_name chain_over description_of check
    runs lookup too_deep judge_Rows run_Rows recognise find split put act read dec_lt runs_agree
runs_agree_lem = tt
