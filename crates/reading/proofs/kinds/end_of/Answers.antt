-- `reading::kinds::end_of` meets its contract: what is left to read comes to the same place.
use borrow.Author.Rules.{rules}
use native.Mathlib.Omega.{arith}
use mathlib.Core.Path.{sym, ◌∙◌}
use Prim.Native.Nat.{◌≤◌}
use Rattle.reading.specs.Laws.Reading.{no_more}
use Rattle.reading.specs.Laws.Ends.{found_end, seek_on, seek_ended}
use Rattle.reading.proofs.kinds.end_of.Goals as goal

pub returns-then-halts : goal.returns-then-halts
returns-then-halts c = search (rules, found_end)

pub loop-i-preserved : goal.loop-i-preserved
loop-i-preserved c = search (rules, seek_on)

pub returns : goal.returns
returns c =
    let inv = c.loop-i.invariant in
    let past : c.args.n ≤ c.max.result = omega arith in
    (omega arith, λ v. no_more v c.max.result past ∙ (sym (no_more v c.loop-i.i c.loop-i-test.false) ∙ seek_ended inv c.loop-i-test.false v))
