-- `grammar::walk` meets its contract: each arm of the loop is a turn of the rows' recogniser.
-- Assumes nothing.
use borrow.Author.Rules.{rules}
use mathlib.Core.Path.{◌≡◌, refl, subst}
use Rattle.grammar.specs.declared.Next.{Next}
use Rattle.grammar.proofs.Turns.{state_here, Turn, stuck, gone_on, gone_in, gone_out, crowded, behind, done, short, begun}
use Rattle.grammar.proofs.walk.Goals.{After-moved-next}
use Rattle.grammar.proofs.walk.Goals as goal

abbrev Here : After-moved-next → Next → Type 0
Here c next = Turn c.args.records.now c.args.n c.loop-at.stack c.loop-at.states c.loop-at.at c.kind_of.result next

turn : (c : After-moved-next) {next : Next} → c.moved-next.result ≡ next → Here c next
turn c is =
    subst (Here c) is
    (record {
      reached = c.loop-at.invariant;
      more = search rules;
      some_state = search rules;
      byte = c.kind_of.ensures;
      moves = c.moved-next.ensures;
    })

pub loop-at-init : goal.loop-at-init
loop-at-init c = begun _ _ _ refl refl

pub returns-then-states-eq0 : goal.returns-then-states-eq0
returns-then-states-eq0 c = behind c.loop-at.invariant (search rules) (search rules)

pub moved-next-requires : goal.moved-next-requires
moved-next-requires c =
    let small = c.requires.records.small c.loop-at.at c.loop-at-test.true in
    record { ruled = c.requires.ruled; s_value = state_here c.loop-at.invariant (search rules); kind_lt_kind_count = search rules }

pub returns-in-Nowhere : goal.returns-in-Nowhere
returns-in-Nowhere c = stuck (turn (goal.at.returns-in-Nowhere c).After-moved-next c.in-Nowhere.is)

pub loop-at-preserved-in-On : goal.loop-at-preserved-in-On
loop-at-preserved-in-On c = gone_on (turn (goal.at.loop-at-preserved-in-On c).After-moved-next c.in-On.is)

pub returns-then-states-eq-DEEPEST : goal.returns-then-states-eq-DEEPEST
returns-then-states-eq-DEEPEST c = crowded (turn (goal.at.returns-then-states-eq-DEEPEST c).After-moved-next c.in-Into.is) (search rules)

pub loop-at-preserved-in-Into : goal.loop-at-preserved-in-Into
loop-at-preserved-in-Into c = gone_in (turn (goal.at.loop-at-preserved-in-Into c).After-moved-next c.in-Into.is) (search rules)

pub loop-at-preserved : goal.loop-at-preserved
loop-at-preserved c = gone_out (turn (goal.at.loop-at-preserved c).After-moved-next c.in-Out.is)

pub returns-then-states-ne0 : goal.returns-then-states-ne0
returns-then-states-ne0 c = short c.loop-at.invariant (search rules) (search rules)

pub returns : goal.returns
returns c = done c.loop-at.invariant (search rules) (search rules)
