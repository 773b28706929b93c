-- `declare::faults::bad_mapping` meets its contract: the declaration that the target means is judged.
-- Assumes nothing.
use borrow.Author.Rules.{rules}
use Rattle.declare.proofs.Choosing.{chosen_room, chosen_view}
use Rattle.declare.proofs.Targets.{no_mapping, target_and_outer, target_record, outer_target, unknown_target, target_room, both_views, judged_target}
use Rattle.declare.proofs.faults.bad_mapping.Goals as goal

pub get16-p-requires : goal.get16-p-requires
get16-p-requires c = search (rules, chosen_room)

pub target_of-requires : goal.target_of-requires
target_of-requires c = (_, chosen_view c.requires c.get16-p.ensures)

pub returns-in_default : goal.returns-in_default
returns-in_default c = no_mapping _ _ _ _ _ _ c.get16-p.ensures c.in_default.ensures

pub same_word-requires : goal.same_word-requires
same_word-requires c = target_and_outer _ _ _ _ _ _ c.get16-p.ensures c.in-Some.ensures c.requires

pub returns-then-same_word : goal.returns-then-same_word
returns-then-same_word c =
    outer_target _ _ _ _ _ _ c.get16-p.ensures c.in-Some.ensures c.same_word.ensures
    c.if-same_word.true

pub inside_at-j-requires : goal.inside_at-j-requires
inside_at-j-requires c = target_record _ _ _ _ _ _ c.get16-p.ensures c.in-Some.ensures c.requires

pub returns-then-m-j : goal.returns-then-m-j
returns-then-m-j c =
    unknown_target _ _ _ _ _ _ c.get16-p.ensures c.in-Some.ensures
    c.same_word.ensures c.inside_at-j.ensures c.if-same_word.false c.if-m-j.true

pub get16-q-requires : goal.get16-q-requires
get16-q-requires c =
    target_room _ _ _ _ _ _ c.get16-p.ensures c.in-Some.ensures c.same_word.ensures
    c.inside_at-j.ensures c.if-same_word.false c.if-m-j.false c.requires

pub good_target-requires : goal.good_target-requires
good_target-requires c =
    both_views _ _ _ _ _ _ c.get16-p.ensures c.in-Some.ensures c.same_word.ensures
    c.inside_at-j.ensures c.if-same_word.false c.if-m-j.false c.get16-q.ensures
    c.requires

pub returns : goal.returns
returns c =
    judged_target _ _ _ _ _ _ c.get16-p.ensures c.in-Some.ensures
    c.same_word.ensures c.inside_at-j.ensures c.if-same_word.false
    c.if-m-j.false c.get16-q.ensures c.good_target.ensures
