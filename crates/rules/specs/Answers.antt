-- The answers of Check and Run as numbers, and which of them a text, its carriers and a budget may be given. "Order: by tens, 1 and 2 first, then 10s
-- to 60s." Row 1 speaks of work memory and is said where the calls are.
use Rattle.std.specs.Prelude.{ℕ, zero, suc, ◌+◌, ◌*◌, ◌/◌, ◌%◌, ◌^◌, ◌≤◌, ◌<◌, ◌≡◌, true, false, List, [], ◌∷◌, leb, eqb, length, drop, replicate, ◌++◌}
use Rattle.std.proofs.Math.Option.{Option, none, some}
use Rattle.rules.specs.Text.Scan.{scan, fine, refuse}
use Rattle.rules.specs.Limits.{longest_text}
use Rattle.rules.specs.Grammar.Trees.{Tokens, Description, flatten}
use Rattle.rules.specs.Grammar.Verdict.{Crowded, Refused20, Refused21}
use Rattle.rules.specs.Declarations.{Table, BitNames, bit_count, declarations, outer_name, total_words, words_of}
use Rattle.rules.specs.Steps.Evaluation.{Carriers}
use Rattle.rules.specs.Steps.Runs.{Run, Ending, done, halted, paused, faulted, run}
use Rattle.rules.specs.Faults.Fault.{Fault, by_place_of, by_number_of, least}
use Rattle.rules.specs.Faults.Declared.{faults30}
use Rattle.rules.specs.Faults.Bodies.{faults40}
use Rattle.rules.specs.Faults.Whole.{faults50, main_name}
use Rattle.rules.specs.Positions.{position_of}

-- Check: accepted, with the numbers of declarations and of words; or refused, with a number and a place
pub data Verdict : Type 0 where
  accepted : ℕ → ℕ → Verdict
  refused : ℕ → ℕ → Verdict

abbrev pub or_else : Option Fault → Verdict → Verdict
or_else none v = v
or_else (some f) v = refused f.number f.place

-- a description, by its faults: of the 30s, of the 40s, of the 50s
unfoldable pub judgement : Description → Verdict
judgement d =
    let ds = declarations d in
    let outer = (outer_name d).word in
    or_else (least by_place_of (faults30 outer ds))
    (or_else (least by_place_of (faults40 outer ds ds))
    (or_else (least by_number_of (faults50 ds)) (accepted (length ds) (total_words ds))))

-- the place of token k; "the end of text counts as its length"
unfoldable pub place_of : List ℕ → Tokens → ℕ → ℕ
place_of text [] k = length text
place_of text (t ∷ ts) zero = t.info.place
place_of text (t ∷ ts) (suc k) = place_of text ts k

-- what Check may answer to a text
pub data Checks (text : List ℕ) : Verdict → Type 0 where
  too_long : longest_text < length text → Checks text (refused 2 0)
  unreadable : {m p : ℕ} → length text ≤ longest_text → (scan text).end ≡ refuse m p → Checks text (refused m p)
  no_description : {k : ℕ} → length text ≤ longest_text → (scan text).end ≡ fine → Refused20 (scan text).tokens k
      → Checks text (refused 20 (place_of text (scan text).tokens k))
  too_deep : {k : ℕ} → length text ≤ longest_text → (scan text).end ≡ fine → Refused21 (scan text).tokens k
      → Checks text (refused 21 (place_of text (scan text).tokens k))
  judged : (d : Description) → length text ≤ longest_text → (scan text).end ≡ fine → flatten d ≡ (scan text).tokens
      → ((j : ℕ) → ¬ Crowded (flatten d) j) → Checks text (judgement d)

-- a text that the rules allow: a description without faults stands in it, of n declarations and w words
pub record Lawful (text : List ℕ) (n w : ℕ) : Type 0 where
  pub description : Description
  pub short : length text ≤ longest_text
  pub readable : (scan text).end ≡ fine
  pub stands : flatten description ≡ (scan text).tokens
  pub shallow : (j : ℕ) → ¬ Crowded (flatten description) j
  pub faultless : judgement description ≡ accepted n w

-- "Words lie in declaration order, left name first, 8 bytes each, little-endian": n words of a byte buffer, and back
unfoldable pub little_endian : ℕ → List ℕ → ℕ
little_endian zero bs = 0
little_endian (suc n) [] = 0
little_endian (suc n) (b ∷ bs) = b + 256 * little_endian n bs

unfoldable pub words_from : ℕ → List ℕ → Carriers
words_from zero bs = []
words_from (suc n) bs = little_endian 8 bs ∷ words_from n (drop 8 bs)

unfoldable pub bytes_of : ℕ → ℕ → List ℕ
bytes_of zero w = []
bytes_of (suc n) w = w % 256 ∷ bytes_of n (w / 256)

unfoldable pub buffer_of : Carriers → List ℕ
buffer_of [] = []
buffer_of (w ∷ ws) = bytes_of 8 w ++ buffer_of ws

-- the length of each word, in their order
abbrev pub length_of : Option BitNames → ℕ
length_of none = 0
length_of (some b) = bit_count b

unfoldable pub word_lengths : Table → List ℕ
word_lengths [] = []
word_lengths (d ∷ ds) = replicate (words_of d) (length_of d.bits) ++ word_lengths ds

-- 61: "a carrier bit above its length set", at the offset of the first such word
unfoldable pub long_word : ℕ → List ℕ → Carriers → Option ℕ
long_word o [] ws = none
long_word o (n ∷ ns) [] = none
long_word o (n ∷ ns) (w ∷ ws) = elim (leb (2 ^ n) w) [ true ↦ some o | false ↦ long_word (o + 8) ns ws ]

-- Run: refused, or an ending with the steps and the carrier bytes
pub data Result : Type 0 where
  refusal : ℕ → ℕ → Result
  ended : Ending → ℕ → List ℕ → Result

abbrev pub result_of : Run → Result
result_of r = ended r.ending r.steps (buffer_of r.carriers)

abbrev pub start_or61 : Option ℕ → Result → Result
start_or61 none r = r
start_or61 (some o) r = refusal 61 o

-- the run of an accepted description from a carrier buffer
unfoldable pub run_on : Table → List ℕ → ℕ → Result
run_on ds buffer budget =
    elim (eqb (length buffer) (8 * total_words ds)) [
      | false ↦ refusal 60 0
      | true ↦ let ws = words_from (total_words ds) buffer in
          start_or61 (long_word 0 (word_lengths ds) ws) (result_of (run ds (main_name ds) budget ws))
    ]

-- what Run may answer to a text, a carrier buffer and a budget
pub data Runs (text buffer : List ℕ) (budget : ℕ) : Result → Type 0 where
  not_accepted : {m p : ℕ} → Checks text (refused m p) → Runs text buffer budget (refusal m p)
  ran : {n w : ℕ} (d : Description) → flatten d ≡ (scan text).tokens → Checks text (accepted n w)
      → Runs text buffer budget (run_on (declarations d) buffer budget)

-- The answer to a text as eight numbers: ending, number, place, steps, declarations, words, line and column. Endings: 0 Done or accepted, 1 Stopped,
-- 2 Paused, 3 Fault, 4 refused. "Every refusal gives 0 for steps and counts"; Done, Stopped and Paused have number 0 and place 0. "Each refusal and
-- fault should also carry a line and a column"; all else has 0 and 0.
abbrev pub refused_numbers : List ℕ → ℕ → ℕ → List ℕ
refused_numbers text m p = 4 ∷ m ∷ p ∷ 0 ∷ 0 ∷ 0 ∷ (position_of text m p).line ∷ (position_of text m p).column ∷ []

abbrev pub verdict_numbers : List ℕ → Verdict → List ℕ
verdict_numbers text (accepted n w) = 0 ∷ 0 ∷ 0 ∷ 0 ∷ n ∷ w ∷ 0 ∷ 0 ∷ []
verdict_numbers text (refused m p) = refused_numbers text m p

abbrev pub ran_numbers : List ℕ → Ending → ℕ → List ℕ
ran_numbers text done n = 0 ∷ 0 ∷ 0 ∷ n ∷ 0 ∷ 0 ∷ 0 ∷ 0 ∷ []
ran_numbers text halted n = 1 ∷ 0 ∷ 0 ∷ n ∷ 0 ∷ 0 ∷ 0 ∷ 0 ∷ []
ran_numbers text paused n = 2 ∷ 0 ∷ 0 ∷ n ∷ 0 ∷ 0 ∷ 0 ∷ 0 ∷ []
ran_numbers text (faulted m p) n = 3 ∷ m ∷ p ∷ n ∷ 0 ∷ 0 ∷ (position_of text m p).line ∷ (position_of text m p).column ∷ []

abbrev pub result_numbers : List ℕ → Result → List ℕ
result_numbers text (refusal m p) = refused_numbers text m p
result_numbers text (ended e n b) = ran_numbers text e n
