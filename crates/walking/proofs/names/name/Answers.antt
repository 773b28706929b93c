-- `walking::names::name` meets its contract.
use borrow.Author.Rules.{rules}
use Rattle.walking.specs.Laws.Acting.{acting_kinds, name_elsewhere, name_rests, name_activates}
use Rattle.walking.proofs.names.name.Goals as goal

pub returns-then-mode-ne0 : goal.returns-then-mode-ne0
returns-then-mode-ne0 c = search (rules, name_elsewhere)

pub kind_of-requires : goal.kind_of-requires
kind_of-requires c = search (rules, acting_kinds)

pub returns-then-kind_of-ne-LPAR : goal.returns-then-kind_of-ne-LPAR
returns-then-kind_of-ne-LPAR c = name_rests c.requires.0.1 c.if-mode-ne0.false c.kind_of.ensures c.if-kind_of-ne-LPAR.true

pub returns : goal.returns
returns c = name_activates c.requires.0.1 c.if-mode-ne0.false c.kind_of.ensures c.if-kind_of-ne-LPAR.false c.activate.ensures
