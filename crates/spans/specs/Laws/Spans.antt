-- Laws of names of words and bits: what the code finds of them is what the tests of the 30s say.
-- Assumes nothing.
use Rattle.std.specs.Prelude.{◌≡◌, refl}
use Rattle.std.proofs.Math.Bool.{and-false}
use Rattle.std.proofs.Math.Option.{Option, none, some}
use Rattle.rules.specs.Declarations.{Names as Span-of, BitNames, one_unnamed, these, bit_count, Target, storage_words}
use Rattle.rules.specs.Faults.Declared.{large_bits, large_words, inside, fits}
use Rattle.table.specs.Shown.{shown_words, shown_bits, shown_target}
use Rattle.spans.specs.Spans.{far_shown, large_shown, fits_shown, storage_shown}

pub far_shown_lem : (o : Option Span-of) → far_shown (shown_words o) ≡ large_words o
far_shown_lem none = refl
far_shown_lem (some s) = refl

pub large_shown_lem : (o : Option BitNames) → large_shown (shown_bits o) ≡ large_bits o
large_shown_lem none = refl
large_shown_lem (some one_unnamed) = refl
large_shown_lem (some (these s)) = refl

pub fits_shown_lem : (c b : Option BitNames) (t : Target) → fits_shown (shown_bits c) (shown_bits b) (shown_target (some t)) ≡ fits c b t.bits
unfolding bit_count inside
fits_shown_lem none none t = refl
fits_shown_lem none (some one_unnamed) t = refl
fits_shown_lem none (some (these x)) t = refl
fits_shown_lem (some one_unnamed) none t = refl
fits_shown_lem (some one_unnamed) (some one_unnamed) t = refl
fits_shown_lem (some one_unnamed) (some (these x)) t = refl
fits_shown_lem (some (these s)) none t = and-false (inside (these s) t.bits)
fits_shown_lem (some (these s)) (some one_unnamed) t = refl
fits_shown_lem (some (these s)) (some (these x)) t = refl

pub storage_shown_lem : (b : Option BitNames) (w : Option Span-of) → storage_shown (shown_bits b) (shown_words w) ≡ storage_words none b w
unfolding storage_words
storage_shown_lem none w = refl
storage_shown_lem (some one_unnamed) none = refl
storage_shown_lem (some one_unnamed) (some s) = refl
storage_shown_lem (some (these b)) none = refl
storage_shown_lem (some (these b)) (some s) = refl
