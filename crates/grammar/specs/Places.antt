-- Where the row of each state begins in the table of src/rows.rt. No row begins at 0.
-- Written by tools/grammar_table.py.
use Rattle.std.specs.Prelude.{[], ◌∷◌, ℕ, ◌+◌, get_or}
use Rattle.laws_grammar.specs.Cited.Rows.{Site, Use, Part, Owner, State}
use Rattle.laws_grammar.specs.Cited.Rows.{in_block, in_counted, in_selected, in_last, test, choose, value, in_parens, in_subscript, of_expression}
use Rattle.laws_grammar.specs.Cited.Rows.{of_destination, of_mapping, of_words, of_name, of_main, title, title_becomes, title_begin, declaration, heading_name}
use Rattle.laws_grammar.specs.Cited.Rows.{heading_close, declarator, declarator_rest, first_word, word_colon, second_word, words_close, words_bits, own_bits, own_bits_more}
use Rattle.laws_grammar.specs.Cited.Rows.{own_bits_second, own_bits_close, own_bits_done, body_or_mapping, body_begin, mapping_bits, main_name, main_rest, declaration_done, action}
use Rattle.laws_grammar.specs.Cited.Rows.{action_name, jump_target, call_open, destination, action_done, alternatives_begin, call_close, first_alternative, selector, selector_rest}
use Rattle.laws_grammar.specs.Cited.Rows.{selector_second, selector_becomes, otherwise_becomes, list_item, list_item_rest, list_item_second, list_rest, operand, access_rest, access_bits_lem}
use Rattle.laws_grammar.specs.Cited.Rows.{bits_first, bits_more, bits_second, bits_close, part_done}

abbrev site_no : Site → ℕ
site_no in_block = 0
site_no in_counted = 1
site_no in_selected = 2
site_no in_last = 3

abbrev use_no : Use → ℕ
use_no (test x) = 0 + site_no x
use_no (choose x) = 4 + site_no x
use_no (value x) = 8 + site_no x
use_no in_parens = 12
use_no in_subscript = 13

abbrev part_no : Part → ℕ
part_no (of_expression x) = 0 + use_no x
part_no (of_destination x) = 14 + site_no x
part_no of_mapping = 18

abbrev owner_no : Owner → ℕ
owner_no of_words = 0
owner_no of_name = 1
owner_no of_main = 2

abbrev pub place : State → ℕ
place title = 10
place title_becomes = 8
place title_begin = 26
place declaration = 44
place heading_name = 11
place heading_close = 5
place declarator = 64
place declarator_rest = 223
place first_word = 89
place word_colon = 94
place second_word = 128
place words_close = 136
place words_bits = 156
place (own_bits x) = get_or (101 ∷ 209 ∷ 277 ∷ []) (owner_no x) 0
place (own_bits_more x) = get_or (57 ∷ 168 ∷ 218 ∷ []) (owner_no x) 0
place (own_bits_second x) = get_or (196 ∷ 212 ∷ 246 ∷ []) (owner_no x) 0
place (own_bits_close x) = get_or (256 ∷ 258 ∷ 290 ∷ []) (owner_no x) 0
place (own_bits_done x) = get_or (119 ∷ 203 ∷ 250 ∷ []) (owner_no x) 0
place body_or_mapping = 9
place body_begin = 293
place mapping_bits = 307
place main_name = 316
place main_rest = 81
place declaration_done = 126
place (action x) = get_or (894 ∷ 906 ∷ 915 ∷ 927 ∷ []) (site_no x) 0
place (action_name x) = get_or (482 ∷ 562 ∷ 960 ∷ 998 ∷ []) (site_no x) 0
place (jump_target x) = get_or (328 ∷ 335 ∷ 348 ∷ 364 ∷ []) (site_no x) 0
place (call_open x) = get_or (363 ∷ 373 ∷ 377 ∷ 381 ∷ []) (site_no x) 0
place (destination x) = get_or (399 ∷ 401 ∷ 405 ∷ 436 ∷ []) (site_no x) 0
place (action_done x) = get_or (4 ∷ 157 ∷ 205 ∷ 438 ∷ []) (site_no x) 0
place (alternatives_begin x) = get_or (418 ∷ 452 ∷ 465 ∷ 481 ∷ []) (site_no x) 0
place call_close = 455
place first_alternative = 874
place selector = 2
place selector_rest = 285
place selector_second = 345
place selector_becomes = 490
place otherwise_becomes = 507
place list_item = 413
place list_item_rest = 356
place list_item_second = 420
place list_rest = 121
place (operand x) = get_or (12 ∷ 60 ∷ 66 ∷ 70 ∷ 103 ∷ 107 ∷ 140 ∷ 144 ∷ 164 ∷ 372 ∷ 378 ∷ 382 ∷ 417 ∷ 439 ∷ []) (use_no x) 0
place (access_rest x) = get_or (167 ∷ 204 ∷ 217 ∷ 254 ∷ 267 ∷ 304 ∷ 317 ∷ 354 ∷ 79 ∷ 116 ∷ 153 ∷ 391 ∷ 1 ∷ 428 ∷ 260 ∷ 310 ∷ 397 ∷ 483 ∷ 117 ∷ []) (part_no x) 0
place (access_bits_lem x) = get_or (592 ∷ 627 ∷ 638 ∷ 673 ∷ 684 ∷ 719 ∷ 730 ∷ 765 ∷ 511 ∷ 546 ∷ 581 ∷ 776 ∷ 15 ∷ 440 ∷ 14 ∷ 492 ∷ 522 ∷ 523 ∷ 78 ∷ []) (part_no x) 0
place (bits_first x) = get_or (532 ∷ 533 ∷ 538 ∷ 539 ∷ 540 ∷ 541 ∷ 553 ∷ 555 ∷ 556 ∷ 557 ∷ 558 ∷ 559 ∷ 563 ∷ 567 ∷ 569 ∷ 570 ∷ 571 ∷ 572 ∷ 575 ∷ []) (part_no x) 0
place (bits_more x) = get_or (252 ∷ 268 ∷ 269 ∷ 302 ∷ 318 ∷ 319 ∷ 352 ∷ 366 ∷ 389 ∷ 408 ∷ 430 ∷ 441 ∷ 442 ∷ 443 ∷ 475 ∷ 493 ∷ 495 ∷ 512 ∷ 514 ∷ []) (part_no x) 0
place (bits_second x) = get_or (588 ∷ 590 ∷ 591 ∷ 593 ∷ 594 ∷ 599 ∷ 601 ∷ 602 ∷ 603 ∷ 604 ∷ 609 ∷ 610 ∷ 611 ∷ 622 ∷ 634 ∷ 635 ∷ 636 ∷ 637 ∷ 639 ∷ []) (part_no x) 0
place (bits_close x) = get_or (516 ∷ 585 ∷ 631 ∷ 640 ∷ 641 ∷ 642 ∷ 643 ∷ 648 ∷ 649 ∷ 650 ∷ 661 ∷ 674 ∷ 675 ∷ 676 ∷ 677 ∷ 678 ∷ 685 ∷ 686 ∷ 687 ∷ []) (part_no x) 0
place (part_done x) = get_or (944 ∷ 954 ∷ 982 ∷ 992 ∷ 1020 ∷ 1030 ∷ 1058 ∷ 1068 ∷ 851 ∷ 809 ∷ 819 ∷ 1095 ∷ 42 ∷ 476 ∷ 146 ∷ 165 ∷ 183 ∷ 233 ∷ 207 ∷ []) (part_no x) 0
