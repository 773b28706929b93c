-- `table::views::given_at` meets its contract: a `:=` stands behind the words and the bits, or a `,` or END.
-- Assumes nothing.
use native.Mathlib.Omega.{arith}
use mathlib.Core.Path.{◌≡◌}
use mathlib.Core.List.{List}
use Prim.Native.Nat.{ℕ, ◌+◌}
use Rattle.table.specs.Bits.{BitsView, bits_size}
use Rattle.table.specs.Views.{View, words_size_of}
use Rattle.table.specs.Laws.Views.{bits_part}
use Rattle.table.specs.Laws.Views.{bits_view, given_within, given_some, given_none}
use Rattle.table.proofs.views.given_at.Goals as goal

-- where the tokens of the words and of the bits end
behind_bits : {records values : List ℕ} {i w b : ℕ} (v : View records values i) → w ≡ words_size_of v.declaration
    → ((values : List ℕ) (u : BitsView records values (i + 1 + w)) → b ≡ bits_size u.bits)
    → i + 1 + w + b ≡ i + 1 + words_size_of v.declaration + bits_size (bits_part v.declaration)
behind_bits v e f = omega (arith, f _ (bits_view v _ (omega arith)))

pub overflow_add-p : goal.overflow_add-p
overflow_add-p c = omega (arith, given_within c.requires.1)

pub overflow_add-p-2 : goal.overflow_add-p-2
overflow_add-p-2 c = let v = c.requires.1 in omega (arith, given_within v, c.words_size.ensures _ v)

pub bits_size-requires : goal.bits_size-requires
bits_size-requires c = let v = c.requires.1 in (_, bits_view v _ (omega (arith, c.words_size.ensures _ v)))

pub overflow_add-q : goal.overflow_add-q
overflow_add-q c = let v = c.requires.1 in omega (arith, given_within v, behind_bits v (c.words_size.ensures _ v) c.bits_size.ensures)

pub kind_at-requires : goal.kind_at-requires
kind_at-requires c = let v = c.requires.1 in omega (arith, given_within v, behind_bits v (c.words_size.ensures _ v) c.bits_size.ensures)

pub overflow_add-result : goal.overflow_add-result
overflow_add-result c =
    let v = c.requires.1 in
    omega (arith, given_within v, behind_bits v (c.words_size.ensures _ v) c.bits_size.ensures)

pub returns-then-kind_at-eq-BECOMES : goal.returns-then-kind_at-eq-BECOMES
returns-then-kind_at-eq-BECOMES c = λ values v. given_some v (behind_bits v (c.words_size.ensures _ v) c.bits_size.ensures) c.kind_at.ensures c.if-kind_at-eq-BECOMES.true

pub returns : goal.returns
returns c = λ values v. given_none v (behind_bits v (c.words_size.ensures _ v) c.bits_size.ensures) c.kind_at.ensures c.if-kind_at-eq-BECOMES.false
