-- What `judge` answers: whether the turns of two descriptions begin from a carrier buffer, whatever the budget.
use Rattle.std.specs.Prelude.{ℕ, ◌*◌, ◌<◌, ◌≤◌, ◌≡◌, List, length, get_or, ⊤, Result, Ok, Err}
use Rattle.std.proofs.Math.Option.{none}
use Rattle.cells.specs.Cells.{cell}
use Rattle.rules.specs.Declarations.{Table, total_words}
use Rattle.rules.specs.Limits.{most_words}
use Rattle.rules.specs.Answers.{words_from}
use Rattle.rules.specs.Keeping.{fault60, fault61}
use Rattle.rules.specs.Pair.{fault81, fault32, joint, first_words, side_of, turns_taken, total_of, no_turns, Paired, turned_down, or_down, paired_as, pair_on}
use Rattle.rules.specs.Refusals.{refusal_at, OrRefused}
use Rattle.rules.specs.declared.refusals.Refusal.{Refusal}
use Rattle.pair_tables.specs.declared.judging.PairRefusal.{PairRefusal}

-- the carriers are the words of the joint table, none with a bit above its length
pub record Carriers (first second : Table) (buffer : List ℕ) : Type 0 where
  pub few : total_words (joint first second) ≤ most_words
  pub long : length buffer ≡ 8 * total_words (joint first second)
  pub fit : fault61 (joint first second) buffer ≡ none

-- they are not, or there are too many words: with the number and the place, whatever the turns come to
pub record Uncarried (first second : Table) (buffer : List ℕ) (number place : ℕ) : Type 0 where
  pub refuses : (x : Paired)
      → or_down 0 (fault32 (joint first second)) (or_down 0 (fault60 (joint first second) buffer) (or_down 0 (fault61 (joint first second) buffer) x))
      ≡ turned_down 0 number place
  pub near : place ≤ 8 * most_words

pub data Carries (first second : Table) (buffer : List ℕ) : OrRefused ⊤ → Type 0 where
  carried : Carriers first second buffer → Carries first second buffer (Ok tt)
  uncarried : {r : Refusal} → Uncarried first second buffer r.number r.place → Carries first second buffer (Err r)

-- the answer is that of the turns from the buffer's words, and the first words of the second text's declarations in the table are known
pub record Begins (first second : Table) (firsts buffer turns : List ℕ) : Type 0 where
  pub carriers : Carriers first second buffer
  pub firsts_at : (k : ℕ) → k < length second → cell 2 firsts k ≡ get_or (first_words first (total_words first) second) k 0
  pub sides : fault81 0 turns ≡ none
  pub pairs : (budget : ℕ) → pair_on first second buffer turns budget
      ≡ paired_as (total_of (no_turns (words_from (total_words (joint first second)) buffer))
      (turns_taken (side_of first second) turns budget (words_from (total_words (joint first second)) buffer)))

-- the answer is a refusal, whatever the budget; only the place of 81 can be large
pub record Declines (first second : Table) (buffer turns : List ℕ) (side number place : ℕ) : Type 0 where
  pub refuses : (budget : ℕ) → pair_on first second buffer turns budget ≡ turned_down side number place
  pub near : (number ≡ 81 → ⊥) → place ≤ 8 * most_words

pub data Judges (first second : Table) (firsts buffer turns : List ℕ) : Result ⊤ PairRefusal → Type 0 where
  begins : Begins first second firsts buffer turns → Judges first second firsts buffer turns (Ok tt)
  declines : {r : PairRefusal} → Declines first second buffer turns r.side r.refusal.number r.refusal.place → Judges first second firsts buffer turns (Err r)
