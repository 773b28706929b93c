-- `table::views::bits_of` meets its contract: the bits stand behind the words.
-- Assumes nothing.
use native.Mathlib.Omega.{arith}
use mathlib.Core.Path.{sym, ap, ◌∙◌}
use Rattle.table.specs.Shown.{shown_bits}
use Rattle.table.specs.Laws.Views.{given_within, bits_view, bits_part_lem}
use Rattle.table.proofs.views.bits_of.Goals as goal

pub overflow_add-i : goal.overflow_add-i
overflow_add-i c = omega (arith, given_within c.requires)

pub overflow_add-i-2 : goal.overflow_add-i-2
overflow_add-i-2 c = let v = c.requires in omega (arith, given_within v, c.words_size-size.ensures _ v)

pub names_at-requires : goal.names_at-requires
names_at-requires c = let v = c.requires in bits_view v _ (omega (arith, c.words_size-size.ensures _ v))

pub returns : goal.returns
returns c = λ v. c.names_at.ensures (bits_view v _ (omega (arith, c.words_size-size.ensures _ v))) ∙ ap shown_bits (sym (bits_part_lem v.declaration))
