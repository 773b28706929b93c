-- `kept::stores::write_image` meets its contract.
-- Assumes nothing.
use mathlib.Core.Path.{refl, sym, ◌∙◌}
use Rattle.kept.specs.Kept.{wrong_length, written}
use Rattle.kept.proofs.stores.write_image.Goals as goal

pub returns-then-image-image_size : goal.returns-then-image-image_size
returns-then-image-image_size c = wrong_length (λ e. c.if-image-image_size.true (e ∙ sym c.image_size.ensures)) refl

pub returns : goal.returns
returns c = written (c.if-image-image_size.false ∙ c.image_size.ensures) c.write.ensures
