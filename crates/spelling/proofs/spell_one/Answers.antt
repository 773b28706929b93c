-- `spelling::spell_one` meets its contract: a name is spelled, and any other token is passed.
-- Assumes nothing.
use borrow.Author.Rules.{rules}
use Rattle.spelling.proofs.Steps.{children_inside, token_inside, seeking, spelled_name, spelled_other}
use Rattle.spelling.proofs.spell_one.Goals as goal

pub clear_children-requires : goal.clear_children-requires
clear_children-requires c = search (rules, children_inside)

pub kind_at-requires : goal.kind_at-requires
kind_at-requires c = search (rules, token_inside)

pub spell_name-requires : goal.spell_name-requires
spell_name-requires c = record { seeking = seeking c.requires.spelling c.clear_children.ensures c.kind_at.ensures c.if-kind_at-eq-NAME.true; room_size_in_bounds = search rules }

pub returns-then-kind_at-eq-NAME : goal.returns-then-kind_at-eq-NAME
returns-then-kind_at-eq-NAME c = let r = spelled_name c.clear_children.ensures c.kind_at.ensures c.if-kind_at-eq-NAME.true (c.spell_name.ensures.kept, c.spell_name.ensures.spelled_to) in record { kept = r.0; spelled_to = r.1 }

pub returns-else-kind_at-eq-NAME : goal.returns-else-kind_at-eq-NAME
returns-else-kind_at-eq-NAME c = let r = spelled_other c.clear_children.ensures c.kind_at.ensures c.if-kind_at-eq-NAME.false in record { kept = r.0; spelled_to = r.1 }
