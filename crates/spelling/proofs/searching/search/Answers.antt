-- `spelling::searching::search` meets its contract: the nodes that are passed have other words, and each stands behind the one before it.
-- Assumes nothing.
use borrow.Author.Rules.{rules}
use native.Mathlib.Omega.{arith}
use Rattle.spelling.proofs.Walks.{in_text, begins, ends_empty, both_names, ends_same, goes_on, closer, record_inside, cell_inside, depth_small}
use Rattle.spelling.proofs.searching.search.Goals as goal

pub place_at-p-requires : goal.place_at-p-requires
place_at-p-requires c = search (rules, record_inside)

pub size_at-n-requires : goal.size_at-n-requires
size_at-n-requires c = search (rules, record_inside)

pub hash_of-c-requires : goal.hash_of-c-requires
hash_of-c-requires c = search (rules, in_text)

pub loop-i-init : goal.loop-i-init
loop-i-init c = search (rules, begins)

pub get16-x-requires : goal.get16-x-requires
get16-x-requires c = search (rules, cell_inside)

pub returns-then-x : goal.returns-then-x
returns-then-x c = search (rules, ends_empty)

pub same_word-requires : goal.same_word-requires
same_word-requires c = search (rules, both_names)

pub returns-then-same_word : goal.returns-then-same_word
returns-then-same_word c = search (rules, ends_same)

pub bit_of-requires : goal.bit_of-requires
bit_of-requires c = search (rules, in_text)

pub overflow_add-depth : goal.overflow_add-depth
overflow_add-depth c = omega (arith, depth_small c.requires.seeking c.loop-i.invariant)

pub loop-i-smaller : goal.loop-i-smaller
loop-i-smaller c = search (rules, closer)

pub loop-i-preserved : goal.loop-i-preserved
loop-i-preserved c = search (rules, goes_on)
