-- Entries written to the bytes of a list.
-- Assumes nothing.
use Rattle.std.specs.Prelude.{ℕ, ◌+◌, ◌*◌, ◌/◌, ◌%◌, ◌≡◌, refl, List}
use Rattle.std.proofs.Common.{sym, arith}
use Rattle.cells.specs.Cells.{put_at, put_cell}
use Rattle.listed.specs.declared.entries.Entry.{Entry}
use Rattle.entries.specs.Entries.{put_entry}

-- what lies 256 and more higher changes the lowest byte in nothing
same_byte : (x l k : ℕ) → x ≡ l + 256 * k → x % 256 ≡ l % 256
same_byte x l k e = omega arith

byte_less : (x l k : ℕ) → x ≡ l + 256 * k → x / 256 ≡ l / 256 + k
byte_less x l k e = omega arith

-- a number of 32 bits is written as two of 16
pub halves_put : (b b₁ b₂ : List ℕ) (i v : ℕ) → b₁ ≡ put_cell 2 b (2 * i) (v % 65536) → b₂ ≡ put_cell 2 b₁ (2 * i + 1) (v / 65536) → b₂ ≡ put_cell 4 b i v
unfolding put_at
halves_put b b₁ b₂ i v e₁ e₂ =
    let e : 2 * (2 * i) ≡ 4 * i = omega arith in
    let f : 2 * (2 * i + 1) ≡ 4 * i + 1 + 1 = omega arith in
    let v₀ : v % 65536 % 256 ≡ v % 256 = omega arith in
    let v₁ : v % 65536 / 256 % 256 ≡ v / 256 % 256 =
    sym (same_byte (v / 256) (v % 65536 / 256) (v / 65536) (byte_less v (v % 65536) (256 * (v / 65536)) (omega arith))) in
    let v₂ : v / 65536 ≡ v / 256 / 256 = omega arith in
    rw (e₂, e₁, e, f, v₀, v₁, v₂) refl

-- an entry is written cell by cell
pub cells_put_entry : (b b₁ b₂ b₃ : List ℕ) (i : ℕ) (e : Entry) → b₁ ≡ put_cell 4 b (4 * i) e.place → b₂ ≡ put_cell 4 b₁ (4 * i + 1) e.word
    → b₃ ≡ put_cell 8 b₂ (2 * i + 1) e.value → b₃ ≡ put_entry b i e
unfolding put_entry
cells_put_entry b b₁ b₂ b₃ i e e₁ e₂ e₃ = rw (e₃, e₂, e₁) refl
