-- `profiling::names::name` meets its contract.
use borrow.Author.Rules.{rules}
use Rattle.profiling.specs.Laws.Acting.{acting_kinds, name_activates, name_elsewhere, name_labels, name_rests, name_stores, place_fits}
use Rattle.profiling.proofs.names.name.Goals as goal

pub returns-then-mode-ne0 : goal.returns-then-mode-ne0
returns-then-mode-ne0 c = search (rules, name_elsewhere)

pub kind_of-next-requires : goal.kind_of-next-requires
kind_of-next-requires c = search (rules, acting_kinds)

pub returns-then-next-eq-BECOMES : goal.returns-then-next-eq-BECOMES
returns-then-next-eq-BECOMES c = search (rules, name_labels)

pub returns-then-next-eq-LPAR : goal.returns-then-next-eq-LPAR
returns-then-next-eq-LPAR c = search (rules, name_activates)

pub destine-requires : goal.destine-requires
destine-requires c = search (rules, place_fits)

pub returns-then-stores : goal.returns-then-stores
returns-then-stores c = name_stores c.requires.0 c.requires.1 c.if-mode-ne0.false c.kind_of-next.ensures c.if-next-eq-BECOMES.false c.if-next-eq-LPAR.false c.stores.ensures c.if-stores.true c.place_at-place.ensures c.hits.ensures c.destine.ensures

pub returns : goal.returns
returns c = search (rules, name_rests)
