-- Entries that were written to the bytes of a list are read back.
-- Assumes nothing.
use Rattle.std.specs.Prelude.{ℕ, ◌+◌, ◌*◌, ◌<◌, ◌≤◌, ◌^◌, ◌≡◌, List, length, get_or}
use Rattle.std.proofs.Common.{sym, ◌∙◌, arith}
use Rattle.cells.specs.Cells.{cell, put_cell}
use Rattle.cells.proofs.Laws.{length_put, le_put_same, le_put_below}
use Rattle.rules.specs.Stores.{entry}
use Rattle.rules.specs.Entries.{entries_from}
use Rattle.listed.specs.declared.entries.Entry.{Entry}
use Rattle.listed.specs.Named.{entry_of}
use Rattle.listed.specs.Laws.Entries.{entry_read}
use Rattle.entries.specs.Entries.{put_entry}

-- The entry i that was written is the entry i of the bytes.
pub entry_put : (n : ℕ) (b : List ℕ) (i : ℕ) (e : Entry) → i < n → 16 * i + 16 ≤ length b → e.place < 256 ^ 4 → e.word < 256 ^ 4 → e.value < 256 ^ 8
    → entry_of e ≡ get_or (entries_from n (put_entry b i e)) i (entry 0 0 0)
unfolding put_entry
entry_put n b i e h room p w v =
    let o₁ = 4 * (4 * i) in
    let o₂ = 4 * (4 * i + 1) in
    let o₃ = 8 * (2 * i + 1) in
    let b₁ = put_cell 4 b (4 * i) e.place in
    let b₂ = put_cell 4 b₁ (4 * i + 1) e.word in
    let b₃ = put_cell 8 b₂ (2 * i + 1) e.value in
    let l₁ : length b₁ ≡ length b = length_put 4 b o₁ e.place in
    let l₂ : length b₂ ≡ length b = length_put 4 b₁ o₂ e.word ∙ l₁ in
    let place_is : cell 4 b₃ (4 * i) ≡ e.place =
    le_put_below 4 8 b₂ o₃ e.value o₁ (omega arith) ∙ le_put_below 4 4 b₁ o₂ e.word o₁ (omega arith) ∙ le_put_same 4 b o₁ e.place (omega arith) p in
    let word_is : cell 4 b₃ (4 * i + 1) ≡ e.word =
    le_put_below 4 8 b₂ o₃ e.value o₂ (omega arith) ∙ le_put_same 4 b₁ o₂ e.word (omega (arith, l₁)) w in
    let value_is : cell 8 b₃ (2 * i + 1) ≡ e.value = le_put_same 8 b₂ o₃ e.value (omega (arith, l₂)) v in
    entry_read n b₃ i e.place e.word e.value h (sym place_is) (sym word_is) (sym value_is)
