-- `gathering::touches::named` meets its contract.
use borrow.Author.Rules.{rules}
use mathlib.Core.Path.{refl}
use Rattle.reading.specs.Laws.Reading.{kinded}
use Rattle.gathering.specs.Laws.Shown.{reading_carrier, calling, writing_carrier, naming}
use Rattle.gathering.proofs.touches.named.Goals as goal

pub returns-then-mode-ne0 : goal.returns-then-mode-ne0
returns-then-mode-ne0 c = reading_carrier c.requires.1.0 refl c.requires.1.1.0 c.if-mode-ne0.true c.carried.ensures c.reading.ensures.0 c.reading.ensures.1.0 c.reading.ensures.1.1

pub kind_of-next-requires : goal.kind_of-next-requires
kind_of-next-requires c = search (rules, kinded)

pub returns-then-next-eq-LPAR : goal.returns-then-next-eq-LPAR
returns-then-next-eq-LPAR c = calling c.requires.1.0 refl c.requires.1.1.0 c.if-mode-ne0.false c.kind_of-next.ensures c.if-next-eq-LPAR.true c.called.ensures c.joined.ensures.0 c.joined.ensures.1.0 c.joined.ensures.1.1

pub returns-then-stores : goal.returns-then-stores
returns-then-stores c = writing_carrier c.requires.1.0 refl c.requires.1.1.0 c.if-mode-ne0.false c.kind_of-next.ensures c.if-next-eq-LPAR.false c.stores.ensures c.if-stores.true c.carried-then-stores.ensures c.writing.ensures.1.0 c.writing.ensures.0 c.writing.ensures.1.1

pub returns : goal.returns
returns c = naming c.requires.1.0 refl c.requires.1.1.0 c.if-mode-ne0.false c.kind_of-next.ensures c.if-next-eq-LPAR.false c.stores.ensures c.if-stores.false
