-- `scopes::labels::jump_key` meets its contract.
use Rattle.std.proofs.lemmas.Bool.{not_from_true}
use borrow.Author.Rules.{rules}
use borrow.Author.Tests.{not-true, not-false}
use Rattle.scopes.specs.Laws.Labels.{by_kinds, jump_place, not_jumping, no_target, free_to_jump, known_enough, to_seek, aimed_inside, aimed_outside}
use Rattle.scopes.proofs.labels.jump_key.Goals as goal

pub returns-then-not-jumps : goal.returns-then-not-jumps
returns-then-not-jumps c = search (rules, not_jumping, not-true)

pub kind_of-requires : goal.kind_of-requires
kind_of-requires c = search (rules, by_kinds)

pub returns-then-kind_of-ne-NAME : goal.returns-then-kind_of-ne-NAME
returns-then-kind_of-ne-NAME c =
    no_target _ _ _ _ c.requires.1.1.0
    c.requires.1.1.1 c.jumps.ensures
    (not-false _ (not_from_true _ c.if-not-jumps.false)) c.kind_of.ensures c.if-kind_of-ne-NAME.true

pub returns-then-top-base : goal.returns-then-top-base
returns-then-top-base c =
    free_to_jump _ _ _ _ c.requires.1.1.0
    c.requires.1.1.1 c.jumps.ensures
    (not-false _ (not_from_true _ c.if-not-jumps.false)) c.kind_of.ensures c.if-kind_of-ne-NAME.false c.if-top-base.true

pub number_key-own-requires : goal.number_key-own-requires
number_key-own-requires c = search (rules, jump_place)

pub returns-then-known-own : goal.returns-then-known-own
returns-then-known-own c =
    known_enough _ _ _ _ c.requires.1.1.0
    c.requires.1.1.1 c.jumps.ensures
    c.place_at.ensures c.number_key-own.ensures c.if-known-own.true

pub among-requires : goal.among-requires
among-requires c =
    to_seek _ c.kind_of.ensures c.if-kind_of-ne-NAME.false c.requires.0
    c.requires.1.0 c.if-top-base.false

pub returns-then-among : goal.returns-then-among
returns-then-among c =
    aimed_inside _ _ _ _ c.requires.1.1.0
    c.requires.1.1.1 c.jumps.ensures
    (not-false _ (not_from_true _ c.if-not-jumps.false)) c.kind_of.ensures c.if-kind_of-ne-NAME.false c.if-top-base.false c.among.ensures c.if-among.true

pub returns : goal.returns
returns c =
    aimed_outside _ _ _ _ c.requires.1.1.0
    c.requires.1.1.1 c.jumps.ensures
    (not-false _ (not_from_true _ c.if-not-jumps.false)) c.kind_of.ensures c.if-kind_of-ne-NAME.false c.if-top-base.false c.among.ensures c.if-among.false
    c.place_at.ensures c.number_key-own.ensures
