-- Two short texts beside each other, worked out by the definitions from the bytes: every kind of answer to two texts. The answers come from hand.
use Rattle.std.specs.Prelude.{ℕ, Bool, true, ◌&&◌, List, [], ◌∷◌, ◌++◌, T, get_or, replicate}
use Prim.Native.String.{String}
use Rattle.rules.specs.Text.Bytes.{bytes}
use Rattle.rules.specs.Answers.{judgement, place_of, little_endian, words_from, bytes_of, buffer_of, word_lengths, long_word}
use Rattle.rules.specs.Declarations.{how_many, from_left, from_right, bit_count, rest_of, declarations, number_from, number_of, storage_words, total_words}
use Rattle.rules.specs.Declarations.{first_word, reach_storage, low_bit, reach_on, reach_under, reach_of, reach_number, reach, body_number, body_of}
use Rattle.rules.specs.Declarations.{access_low, access_bits}
use Rattle.rules.specs.Faults.Bodies.{judge_name, judge_access, judge, judge_factor, judge_index, faults_in, judge_joined, stored_twice}
use Rattle.rules.specs.Faults.Bodies.{patterns_meet, reaches, items_meet, meets_any, some_meet_of, past, counted_faults, selected_faults, more_faults}
use Rattle.rules.specs.Faults.Bodies.{alternatives_faults, labels, member_labels, alternative_labels, counted_labels, selected_labels, more_labels}
use Rattle.rules.specs.Faults.Bodies.{label_faults, action_faults, members_faults, inside_faults, inside_counted, inside_selected, inside_more}
use Rattle.rules.specs.Faults.Bodies.{declared_names, faults40}
use Rattle.rules.specs.Faults.Declared.{is_known, twice, large, too_many, among, inside, bad_mapping, mappings, faults30}
use Rattle.rules.specs.Faults.Fault.{least_from, least}
use Rattle.rules.specs.Faults.Whole.{mains, main_name, chains, races_any, group_faults, members_of, alternatives_groups, counted_groups, selected_groups}
use Rattle.rules.specs.Faults.Whole.{more_groups, groups_faults, faults50}
use Rattle.rules.specs.Grammar.Precedence.{insert_by, insert, inserts, arrange, factor_of, links_of, index_of, expr_of}
use Rattle.rules.specs.Grammar.Verdict.{opens, closes, counted_by, count, opened}
use Rattle.rules.specs.Selectors.{item_of, agree, matches, highest, items_of, selector_items, any_matches, takes}
use Rattle.rules.specs.Steps.Actions.{access, joined_accesses, act_of, groups, alts_of, counted_alts, selected_alts, more_alts}
use Rattle.rules.specs.Steps.Control.{start, leftmost, work_i, choose, next_i}
use Rattle.rules.specs.Steps.Evaluation.{then, word_or70, word_of, field_in, field_of, evaluate, evaluate_factor, evaluate_index, evaluate_access}
use Rattle.rules.specs.Steps.Evaluation.{evaluate_accesses, store_all, transferred}
use Rattle.rules.specs.Steps.Runs.{body_act, begin, run_from, run}
use Rattle.rules.specs.Text.Bytes.{class_in, class_of, in_name, in_constant, in_comment, fold, leading as run_Bytes}
use Rattle.rules.specs.Text.Constants.{digit_bits, digit_value, is_digit_of, is_based_digit, all, any, value_from, free_digit, free_from, bits_from}
use Rattle.rules.specs.Text.Constants.{decimal_bits, decimal, based}
use Rattle.rules.specs.Text.Scan.{same_bytes, word_kind, mark_at, word_lexeme, constant_lexeme, mark_lexeme, lexeme_by, lexeme, scan_from, scan}
use Rattle.rules.specs.Values.{op_bits, bitwise, op_number, operate, not_number, field, with_field, total, cut}
use Rattle.rules.specs.Whole.Sets.{owner, reads_of, factor_reads, index_reads_of, subscript_reads, stores, sets_of, sets_i, sets_alts, body_sets, touched, member}
use Rattle.rules.specs.Whole.Sets.{member, meet, race, stops_in, stops_i, stops_alts, body_stops, may_stop, calls_in, calls_i, calls_alts, any_name}
use Rattle.rules.specs.Whole.Sets.{chain_over}
use Rattle.laws_grammar.specs.Answers.{description_of, check}
use Rattle.laws_grammar.specs.Cited.Rows.{lookup, too_deep, judge as judge_Rows, run as run_Rows, recognise}
use Rattle.laws_grammar.specs.Grammar.Reading.{find, split, put, act, read}
use Rattle.std.proofs.Math.Decide.{dec_lt}
use Rattle.rules.specs.Keeping.{fault60, fault61}
use Rattle.rules.specs.Positions.{position_of, further, behind}
use Rattle.rules.specs.Pair.{shared_from, clashes, faults80, fault81, unshared, fault32, up_from, first_words, words_at, seen, put_back, own_run, turn_run, turns_taken, total_of, pair_on}
use Rattle.rules.specs.Calls.Pair.{pair_numbers, table_left}
use Rattle.pairs.specs.Laws.Answers.{pairing}

-- a carrier word below 256, as its eight bytes
abbrev word : ℕ → List ℕ
word n = n ∷ replicate 7 0

abbrev words : List ℕ → List ℕ
words [] = []
words (n ∷ ns) = word n ++ words ns

-- the source counts and adds up into R; the host moves R on into its own M[1]: the table is A, R, M[0], M[1], and the host sees its words 2, 3 and 1
abbrev source : List ℕ
source = bytes "S := BEGIN A<3:0>, R<7:0>, MAIN GO := BEGIN A = A + '1 NEXT R = R + A END END"

abbrev host : List ℕ
host = bytes "H := BEGIN\nM[0:1]<3:0>, R<7:0>,\nMAIN GO := BEGIN M['1] = M['1] + R<3:0> NEXT R = '0 END END"

-- R as a body with bits, between two of the host's own; a word name that is not there behind one step
abbrev other : List ℕ
other = bytes "H := BEGIN T<>, R<7:0> := BEGIN NO.OP() END, M[0:1]<>,\nMAIN GO := BEGIN R = R + '1 NEXT M['10] = '1 END END"

-- declarations, and a MAIN that does nothing
abbrev idle : String → List ℕ
idle ds = bytes "N := BEGIN " ++ (bytes ds ++ bytes ", MAIN GO := BEGIN NO.OP() END END")

-- two texts, carrier words, turns and a budget; the eight numbers of the answer, and the words behind it
pub record Case : Type 0 where
  pub texts : List (List ℕ)
  pub carriers : List ℕ
  pub turns : List ℕ
  pub budget : ℕ
  pub numbers : List ℕ
  pub left : List ℕ

abbrev case : List ℕ → List ℕ → List ℕ → List ℕ → ℕ → List ℕ → List ℕ → Case
case t u s ts b ns l = record { texts = t ∷ u ∷ []; carriers = words s; turns = ts; budget = b; numbers = ns; left = words l }

abbrev pub cases : List Case
cases =
    -- turns 0 1 0: Done on side 0 after six steps
    case source host (0 ∷ 0 ∷ 0 ∷ 0 ∷ []) (0 ∷ 1 ∷ 0 ∷ []) 6 (0 ∷ 0 ∷ 0 ∷ 6 ∷ 0 ∷ 0 ∷ 0 ∷ 0 ∷ []) (2 ∷ 2 ∷ 0 ∷ 1 ∷ [])
    -- one budget for all: the third turn pauses behind its first step; the second does where nothing is left for it
    ∷ case source host (0 ∷ 0 ∷ 0 ∷ 0 ∷ []) (0 ∷ 1 ∷ 0 ∷ []) 5 (2 ∷ 0 ∷ 0 ∷ 5 ∷ 0 ∷ 0 ∷ 0 ∷ 0 ∷ []) (2 ∷ 0 ∷ 0 ∷ 1 ∷ [])
    ∷ case source host (0 ∷ 0 ∷ 0 ∷ 0 ∷ []) (0 ∷ 1 ∷ 0 ∷ []) 2 (2 ∷ 0 ∷ 0 ∷ 2 ∷ 1 ∷ 0 ∷ 0 ∷ 0 ∷ []) (1 ∷ 1 ∷ 0 ∷ 0 ∷ [])
    -- no turns; with no budget too
    ∷ case source host (1 ∷ 2 ∷ 3 ∷ 4 ∷ []) [] 0 (0 ∷ 0 ∷ 0 ∷ 0 ∷ 0 ∷ 0 ∷ 0 ∷ 0 ∷ []) (1 ∷ 2 ∷ 3 ∷ 4 ∷ [])
    -- a fault of the second side, counted in its text, ends everything: A, R, then T, M[0], M[1]
    ∷ case source other (0 ∷ 0 ∷ 0 ∷ 0 ∷ 0 ∷ []) (0 ∷ 1 ∷ 0 ∷ []) 9 (3 ∷ 70 ∷ 88 ∷ 3 ∷ 1 ∷ 0 ∷ 2 ∷ 34 ∷ []) (1 ∷ 2 ∷ 0 ∷ 0 ∷ 0 ∷ [])
    -- refusals: of the first text, of the second, 80 in the second, 81 at its offset, 60, 61
    ∷ case (bytes "S") [] [] [] 9 (4 ∷ 20 ∷ 1 ∷ 0 ∷ 0 ∷ 0 ∷ 1 ∷ 2 ∷ []) []
    ∷ case source (bytes "H := \nH") [] [] 9 (4 ∷ 20 ∷ 6 ∷ 0 ∷ 1 ∷ 0 ∷ 2 ∷ 1 ∷ []) []
    ∷ case source (bytes "H := BEGIN A<3:0>,\nR<0:7>, MAIN GO := BEGIN R = '0 END END") [] (2 ∷ []) 9 (4 ∷ 80 ∷ 19 ∷ 0 ∷ 1 ∷ 0 ∷ 2 ∷ 1 ∷ []) []
    ∷ case source host [] (0 ∷ 1 ∷ 2 ∷ 3 ∷ []) 9 (4 ∷ 81 ∷ 2 ∷ 0 ∷ 0 ∷ 0 ∷ 1 ∷ 1 ∷ []) []
    ∷ case source host (0 ∷ 0 ∷ 0 ∷ []) (0 ∷ []) 9 (4 ∷ 60 ∷ 0 ∷ 0 ∷ 0 ∷ 0 ∷ 1 ∷ 1 ∷ []) (0 ∷ 0 ∷ 0 ∷ [])
    ∷ case source host (0 ∷ 255 ∷ 0 ∷ 16 ∷ []) (0 ∷ []) 9 (4 ∷ 61 ∷ 24 ∷ 0 ∷ 0 ∷ 0 ∷ 1 ∷ 1 ∷ []) (0 ∷ 255 ∷ 0 ∷ 16 ∷ [])
    -- 4,096 words that are shared, and one word more
    ∷ case (idle "M[0:4095]<>") (idle "M[0:4095]<>") [] [] 9 (4 ∷ 60 ∷ 0 ∷ 0 ∷ 0 ∷ 0 ∷ 1 ∷ 1 ∷ []) []
    ∷ case (idle "M[0:4095]<>") (idle "A<>") [] [] 9 (4 ∷ 32 ∷ 0 ∷ 0 ∷ 0 ∷ 0 ∷ 1 ∷ 1 ∷ []) []
    -- `<5>` and `<5:5>` are shared; `<>` and `<0>` clash, and so do no words and `[0:0]`; a mapping does not clash, and adds no word
    ∷ case (idle "A<5>") (idle "A<5:5>") (1 ∷ []) [] 9 (0 ∷ 0 ∷ 0 ∷ 0 ∷ 0 ∷ 0 ∷ 0 ∷ 0 ∷ []) (1 ∷ [])
    ∷ case (idle "A<>") (idle "A<0>") [] [] 9 (4 ∷ 80 ∷ 11 ∷ 0 ∷ 1 ∷ 0 ∷ 1 ∷ 12 ∷ []) []
    ∷ case (idle "A<>") (idle "B<>, A[0:0]<>") [] [] 9 (4 ∷ 80 ∷ 16 ∷ 0 ∷ 1 ∷ 0 ∷ 1 ∷ 17 ∷ []) []
    ∷ case (idle "A<3:0>") (idle "B<3:0>, A<1:0> := B<1:0>") (7 ∷ 9 ∷ []) [] 9 (0 ∷ 0 ∷ 0 ∷ 0 ∷ 0 ∷ 0 ∷ 0 ∷ 0 ∷ []) (7 ∷ 9 ∷ []) ∷ []

abbrev text : ℕ → Case → List ℕ
text i c = get_or c.texts i []

unfoldable pub so : Case → Bool
so c =
    let x = pairing (text 0 c) (text 1 c) c.carriers c.turns c.budget in
    same_bytes (pair_numbers (text 0 c) (text 1 c) x) c.numbers && same_bytes (table_left c.carriers x) c.left

unfoldable pub all_so : List Case → Bool
all_so [] = true
all_so (c ∷ cs) = so c && all_so cs

pub worked_out : T (all_so cases)
unfolding judgement place_of little_endian words_from bytes_of buffer_of word_lengths long_word how_many from_left from_right bit_count rest_of
    declarations number_from number_of storage_words total_words first_word reach_storage low_bit reach_on reach_under reach_of reach_number reach body_number
    body_of access_low access_bits judge_name judge_access judge judge_factor judge_index faults_in judge_joined stored_twice patterns_meet reaches
    items_meet meets_any some_meet_of past counted_faults selected_faults more_faults alternatives_faults labels member_labels alternative_labels counted_labels
    selected_labels more_labels label_faults action_faults members_faults inside_faults inside_counted inside_selected inside_more declared_names faults40
    is_known twice large too_many among inside bad_mapping mappings faults30 least_from least mains main_name chains races_any group_faults members_of
    alternatives_groups counted_groups selected_groups more_groups groups_faults faults50 insert_by insert inserts arrange factor_of
    links_of index_of expr_of opens closes counted_by count opened item_of agree matches highest items_of selector_items any_matches takes access
    joined_accesses act_of groups alts_of counted_alts selected_alts more_alts start leftmost work_i choose next_i then word_or70 word_of field_in field_of
    evaluate evaluate_factor evaluate_index evaluate_access evaluate_accesses store_all transferred body_act begin run_from run class_in class_of in_name
    in_constant in_comment fold run_Bytes digit_bits digit_value is_digit_of is_based_digit all any value_from free_digit free_from bits_from decimal_bits decimal
    based same_bytes word_kind mark_at word_lexeme constant_lexeme mark_lexeme lexeme_by lexeme scan_from scan op_bits bitwise op_number operate not_number
    field with_field total cut owner reads_of factor_reads index_reads_of subscript_reads stores sets_of sets_i sets_alts body_sets touched member meet
    race stops_in stops_i stops_alts body_stops may_stop calls_in calls_i calls_alts any_name chain_over description_of check
    lookup too_deep judge_Rows run_Rows recognise find split put act read dec_lt
    pairing pair_on shared_from clashes faults80 fault81 unshared fault32 up_from first_words words_at seen put_back own_run turn_run turns_taken total_of fault60 fault61
    position_of further behind so all_so
worked_out = tt
