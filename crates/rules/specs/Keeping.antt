-- Store and Load: what they may answer to a text and two buffers, a carrier buffer and an image.
use Rattle.std.specs.Prelude.{ℕ, ◌*◌, ◌≡◌, Bool, true, false, List, eqb, length}
use Rattle.std.proofs.Math.Option.{Option, none, some}
use Rattle.rules.specs.Text.Scan.{scan}
use Rattle.rules.specs.Grammar.Trees.{Description, flatten}
use Rattle.rules.specs.Declarations.{Table, declarations, total_words}
use Rattle.rules.specs.Faults.Fault.{Fault, fault}
use Rattle.rules.specs.Answers.{accepted, refused, Checks, words_from, word_lengths, long_word}
use Rattle.rules.specs.Images.{image_size_of, image_of, image_fault, held_in}

-- refused, with a number and a place; or the bytes that the buffer to be written takes
pub data Kept : Type 0 where
  declined : ℕ → ℕ → Kept
  kept : List ℕ → Kept

abbrev pub refused_or : Option Fault → Kept → Kept
refused_or none k = k
refused_or (some f) k = declined f.number f.place

abbrev pub fault_unless : Bool → ℕ → ℕ → Option Fault
fault_unless true m p = none
fault_unless false m p = some (fault m p)

abbrev pub at61 : Option ℕ → Option Fault
at61 none = none
at61 (some o) = some (fault 61 o)

-- the bytes of all carriers
abbrev pub carriers_size : Table → ℕ
carriers_size ds = 8 * total_words ds

-- 60: "carriers not 8 bytes a word"; 61: "a carrier bit above its length set"; 62: "image length not the blocks that the words need"
unfoldable pub fault60 : Table → List ℕ → Option Fault
fault60 ds carriers = fault_unless (eqb (length carriers) (carriers_size ds)) 60 0

unfoldable pub fault61 : Table → List ℕ → Option Fault
fault61 ds carriers = at61 (long_word 0 (word_lengths ds) (words_from (total_words ds) carriers))

unfoldable pub fault62 : Table → List ℕ → Option Fault
fault62 ds image = fault_unless (eqb (length image) (image_size_of (carriers_size ds))) 62 0

-- Store: "60, when writing 61, then 62"
unfoldable pub storing : List ℕ → List ℕ → Table → Kept
storing carriers image ds =
    refused_or (fault60 ds carriers)
    (refused_or (fault61 ds carriers)
    (refused_or (fault62 ds image) (kept (image_of carriers))))

-- Load: 60, 62, "when reading then 63 .. 64 .. then 61"
unfoldable pub loading : List ℕ → List ℕ → Table → Kept
loading image carriers ds =
    let held = held_in (carriers_size ds) image in
    refused_or (fault60 ds carriers)
    (refused_or (fault62 ds image)
    (refused_or (image_fault (carriers_size ds) image)
    (refused_or (fault61 ds held) (kept held))))

-- "Refusals: the text's own", then those of the call
pub data Keeps (text : List ℕ) (call : Table → Kept) : Kept → Type 0 where
  not_accepted : {m p : ℕ} → Checks text (refused m p) → Keeps text call (declined m p)
  kept_by : {n w : ℕ} (d : Description) → flatten d ≡ (scan text).tokens → Checks text (accepted n w) → Keeps text call (call (declarations d))

-- "a refusal changes neither buffer"
abbrev pub kept_in : List ℕ → Kept → List ℕ
kept_in target (declined m p) = target
kept_in target (kept bytes) = bytes
