-- `pairing::memory::unread_pair` meets its contract: each test in its turn.
-- Assumes nothing.
use native.Mathlib.Omega.{arith}
use Rattle.lent.specs.Laws.Measured.{fits}
use Rattle.pairing.specs.Unread.{short_memory}
use Rattle.pairing.specs.Laws.Unread.{unread_first, unread_second, both_read}
use Rattle.pairing.proofs.memory.unread_pair.Goals as goal

pub returns-then-d-lt-WORK_SIZE : goal.returns-then-d-lt-WORK_SIZE
returns-then-d-lt-WORK_SIZE c = short_memory (λ m. omega (arith, m.work_d))

pub returns-then-e-lt-WORK_SIZE : goal.returns-then-e-lt-WORK_SIZE
returns-then-e-lt-WORK_SIZE c = short_memory (λ m. omega (arith, m.work_e))

pub returns-then-f-lt-WORK_SIZE : goal.returns-then-f-lt-WORK_SIZE
returns-then-f-lt-WORK_SIZE c = short_memory (λ m. omega (arith, m.work_f))

pub returns-in-Some : goal.returns-in-Some
returns-in-Some c = unread_first (omega arith) (omega arith) (omega arith) c.unread.ensures c.in-Some.is

pub returns-then-second-gt-LONGEST_TEXT : goal.returns-then-second-gt-LONGEST_TEXT
returns-then-second-gt-LONGEST_TEXT c = unread_second (omega arith) (omega arith) (omega arith) (fits c.unread.ensures c.in_default.is) c.if-second-gt-LONGEST_TEXT.true

pub returns : goal.returns
returns c = both_read (omega arith) (omega arith) (omega arith) (fits c.unread.ensures c.in_default.is) c.if-second-gt-LONGEST_TEXT.false
