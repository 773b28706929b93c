-- `gathering::touches::passed` meets its contract: what is heard so far and what is left to hear stay the events of the action, and what is left comes to the same end.
use borrow.Author.Rules.{rules}
use native.Mathlib.Omega.{arith}
use mathlib.Core.Path.{sym, ap, ◌∙◌}
use mathlib.Core.List.{List}
use Prim.Native.Nat.{ℕ, ◌≤◌}
use Rattle.reading.specs.Behind.{behind, ComesTo}
use Rattle.reading.specs.Laws.Reading.{kinded, no_more}
use Rattle.reading.specs.Laws.Ends.{seek_from, comes_to_nothing}
use Rattle.gathering.specs.Laws.Shown.{listen, heard_all}
use Rattle.gathering.specs.Laws.Steps.{pass_name, pass_stop, pass_mark, heard_before, comes_before, heard_with, comes_with}
use Rattle.gathering.proofs.touches.passed.Goals as goal

-- past the last token every place comes to the same
past_all : {records : List ℕ} {n from i e : ℕ} → ComesTo records n from i → n ≤ i → n ≤ e → from ≤ e → ComesTo records n from e
past_all {i = i} {e = e} t h p q = record { past = q; same = λ v. ap (behind 0) (no_more v e p ∙ sym (no_more v i h)) ∙ t.same v }

pub loop-at-init : goal.loop-at-init
loop-at-init c = search (rules, listen, seek_from, kinded)

pub loop-at-preserved-then-kind-eq-NAME : goal.loop-at-preserved-then-kind-eq-NAME
loop-at-preserved-then-kind-eq-NAME c = search (rules, pass_name)

pub loop-at-preserved-then-kind-eq-STOP : goal.loop-at-preserved-then-kind-eq-STOP
loop-at-preserved-then-kind-eq-STOP c = search (rules, pass_stop)

pub returns-then-next : goal.returns-then-next
returns-then-next c = search (rules, heard_before, comes_before)

pub returns-then-next-2 : goal.returns-then-next-2
returns-then-next-2 c = search (rules, heard_with, comes_with)

pub loop-at-preserved : goal.loop-at-preserved
loop-at-preserved c = search (rules, pass_mark)

pub returns : goal.returns
returns c =
    let here : ComesTo c.args.records.now c.args.n c.args.from c.loop-at.at = search (rules, comes_to_nothing) in
    (search (rules, heard_all), past_all here c.loop-at-test.false (omega arith) (omega arith))
