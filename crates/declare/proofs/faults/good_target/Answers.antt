-- `declare::faults::good_target` meets its contract, test by test.
-- Assumes nothing.
use mathlib.Core.Path.{sym, ◌∙◌}
use Rattle.std.proofs.lemmas.Bool.{not_from_true}
use borrow.Author.Rules.{rules}
use Rattle.declare.proofs.Judging.{words_spoil, mapping_spoils, fits_on}
use Rattle.declare.proofs.faults.good_target.Goals as goal

pub returns-then-not-is_missing : goal.returns-then-not-is_missing
returns-then-not-is_missing c = search (rules, words_spoil)

pub returns-then-is_some : goal.returns-then-is_some
returns-then-is_some c =
    mapping_spoils _ _ _ _ c.words_of.ensures c.is_missing.ensures c.target_of.result (not_from_true _ c.if-not-is_missing.false) c.target_of.ensures
    (sym c.is_some.ensures ∙ c.if-is_some.true)

pub returns : goal.returns
returns c =
    fits_on _ _ _ _ c.words_of.ensures c.is_missing.ensures c.target_of.result
    (not_from_true _ c.if-not-is_missing.false) c.target_of.ensures (sym c.is_some.ensures ∙ c.if-is_some.false) c.bits_of.ensures
    c.bits_of-2.ensures c.target_bits.ensures c.fits.ensures
