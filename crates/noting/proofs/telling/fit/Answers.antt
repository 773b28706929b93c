-- `noting::telling::fit` meets its contract: what stands at the entry decides.
-- Assumes nothing.
use Rattle.std.proofs.lemmas.Bool.{not_from_false, not_from_true}
use native.Mathlib.Omega.{arith}
use mathlib.Core.Path.{sym, ◌∙◌}
use borrow.Author.Tests.{not-true, not-false}
use Rattle.listed.specs.Named.{entry_of}
use Rattle.noting.specs.Laws.Telling.{fits_past, fits_taken, fits_other, fits_same}
use Rattle.noting.proofs.telling.fit.Goals as goal

pub returns-then-count-i : goal.returns-then-count-i
returns-then-count-i c =
    fits_past c.requires (entry_of c.args.x) c.args.i (omega arith) c.put16.ensures

pub returns-then-get16-ne0 : goal.returns-then-get16-ne0
returns-then-get16-ne0 c =
    fits_taken c.requires (entry_of c.args.x) c.args.i (omega arith) c.get16.ensures c.if-get16-ne0.true (c.spoil.ensures _ c.requires)

pub returns-then-not-is_same : goal.returns-then-not-is_same
returns-then-not-is_same c =
    fits_other c.requires (entry_of c.args.x) c.args.i (omega arith) c.get16.ensures c.if-get16-ne0.false c.entry_at.ensures
    (sym (not-true _ (not_from_false _ c.if-not-is_same.true)) ∙ c.is_same.ensures) (c.spoil-then-not-is_same.ensures _ c.requires)

pub returns : goal.returns
returns c =
    fits_same c.requires (entry_of c.args.x) c.args.i (omega arith) c.get16.ensures c.if-get16-ne0.false c.entry_at.ensures
    (sym (not-false _ (not_from_true _ c.if-not-is_same.false)) ∙ c.is_same.ensures) c.put16-2.ensures c.put16-3.ensures
