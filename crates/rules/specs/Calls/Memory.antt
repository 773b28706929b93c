-- What is lent to a call besides text and carriers, and how it is left.
use Rattle.std.specs.Prelude.{ℕ, ◌≤◌, List, [], ◌∷◌, ◌++◌, length, drop, replicate}
use Rattle.rules.specs.Answers.{bytes_of}

-- the published size of a buffer of work memory, and the bytes of an answer
abbrev pub work_size : ℕ
work_size = 65536

abbrev pub answer_size : ℕ
answer_size = 32

-- three buffers of work memory, and the one for the answer
pub record Memory : Type 0 where
  pub work_a : List ℕ
  pub work_b : List ℕ
  pub work_c : List ℕ
  pub answer : List ℕ

abbrev pub memory : List ℕ → List ℕ → List ℕ → List ℕ → Memory
memory a b c x = record { work_a = a; work_b = b; work_c = c; answer = x }

-- none is "shorter than published"
pub record Enough (m : Memory) : Type 0 where
  pub work_a : work_size ≤ length m.work_a
  pub work_b : work_size ≤ length m.work_b
  pub work_c : work_size ≤ length m.work_c
  pub answer : answer_size ≤ length m.answer

-- "Work memory is all zero afterwards": over the whole length that was lent
abbrev pub zeros : List ℕ → List ℕ
zeros b = replicate (length b) 0

-- numbers of 32 bits, each as four bytes, the lowest first
unfoldable pub number_bytes : List ℕ → List ℕ
number_bytes [] = []
number_bytes (n ∷ ns) = bytes_of 4 n ++ number_bytes ns

-- the answer's eight numbers stand in front of what was there
unfoldable pub answered : List ℕ → List ℕ → List ℕ
answered ns before = number_bytes ns ++ drop answer_size before

-- how a call that answers with these numbers leaves the memory
abbrev pub settled : List ℕ → Memory → Memory
settled ns m = memory (zeros m.work_a) (zeros m.work_b) (zeros m.work_c) (answered ns m.answer)
