-- `ways::labels::aim` meets its contract: from the innermost label outwards.
-- Assumes nothing.
use borrow.Author.Rules.{rules}
use native.Mathlib.Omega.{arith}
use Rattle.ways.specs.Laws.Stack.{ended, entry_room, some_names, found, passed}
use Rattle.ways.proofs.labels.aim.Goals as goal

pub lookable-j-requires : goal.lookable-j-requires
lookable-j-requires c = let (g, v) = c.requires.0 in (_, g, v)

pub loop-j-init : goal.loop-j-init
loop-j-init c = c.lookable-j.ensures _

pub overflow_mul-j : goal.overflow_mul-j
overflow_mul-j c = omega (arith, entry_room c.loop-j.invariant c.loop-j-test.true c.requires.0)

pub get16-p-requires : goal.get16-p-requires
get16-p-requires c = omega (arith, entry_room c.loop-j.invariant c.loop-j-test.true c.requires.0)

pub same_word-requires : goal.same_word-requires
same_word-requires c = some_names c.loop-j.invariant c.loop-j-test.true c.get16-p.ensures c.requires.0

pub overflow_mul-j-then-same_word : goal.overflow_mul-j-then-same_word
overflow_mul-j-then-same_word c = omega (arith, entry_room c.loop-j.invariant c.loop-j-test.true c.requires.0)

pub overflow_add-j : goal.overflow_add-j
overflow_add-j c = omega (arith, entry_room c.loop-j.invariant c.loop-j-test.true c.requires.0, c.requires.2)

pub get16-requires : goal.get16-requires
get16-requires c = omega (arith, entry_room c.loop-j.invariant c.loop-j-test.true c.requires.0, c.requires.2)

pub returns-then-same_word : goal.returns-then-same_word
returns-then-same_word c = (
  found c.loop-j.invariant c.loop-j-test.true c.get16-p.ensures c.same_word.ensures c.if-same_word.true c.requires.1 c.requires.2
      c.get16.ensures,
  omega (arith, c.get16.type_inv),
)

pub loop-j-preserved : goal.loop-j-preserved
loop-j-preserved c = passed c.loop-j.invariant c.loop-j-test.true c.get16-p.ensures c.same_word.ensures c.if-same_word.false

pub returns : goal.returns
returns c = (ended c.loop-j.invariant c.loop-j-test.false _, search rules)
