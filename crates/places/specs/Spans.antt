-- Names of bits as the code hands them about: what is said of the bits that they show.
use Rattle.std.specs.Prelude.{ℕ, ◌≤◌, ◌≡◌}
use Rattle.std.proofs.Math.Option.{some}
use Rattle.rules.specs.Declarations.{BitNames, bit_count, low_bit, Names as Span-of}
use Rattle.rules.specs.Limits.{most_words}
use Rattle.table.specs.Shown.{shown_bits}
use Rattle.table.specs.declared.views.Names.{Names}

-- n is how many bits there are
abbrev pub ManyIn : Names → ℕ → Type 0
ManyIn own n = (b : BitNames) → own ≡ shown_bits (some b) → bit_count b ≤ most_words → n ≡ bit_count b

-- d is the weight of the last of some bits
abbrev pub LowIn : Names → ℕ → ℕ → Type 0
LowIn own right d = (b : BitNames) (s : Span-of) → own ≡ shown_bits (some b) → right ≡ s.right → d ≡ low_bit b s
