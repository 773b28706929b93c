-- Labels, IFs and REPEATs in front of an action: what is left behind them, and what they come to.
use Rattle.std.specs.Prelude.{ℕ, ◌≤◌, min, ◌≡◌, List, ◌∷◌, drop}
use Rattle.rules.specs.Grammar.Trees.{Action, block, labelled, if_then, decode, repeat, leave, restart, activate, stop, no_op, transfer, action_tokens}
use Rattle.laws_grammar.specs.Cited.Nesting.{action_nest}
use Rattle.keys.specs.Keys.{least_key}
use Rattle.stacks.specs.Stacks.{Stacked}
use Rattle.plain.specs.declared.prefixes.Prefixed.{Prefixed}
use Rattle.plain.specs.Actions.{ActionView, faults_under}

-- no label, IF or REPEAT
abbrev pub Bare : Action → Type 0
Bare (block b a m) = Unit {0}
Bare (labelled n b a) = ⊥
Bare (if_then i o t w a) = ⊥
Bare (decode i o t w b v) = Unit {0}
Bare (repeat i a) = ⊥
Bare (leave i n) = Unit {0}
Bare (restart i n) = Unit {0}
Bare (activate n l r) = Unit {0}
Bare (stop i l r) = Unit {0}
Bare (no_op i l r) = Unit {0}
Bare (transfer n s b j e o t) = Unit {0}

module _ {text records values decls room₀ : List ℕ} {i count₀ depth : ℕ} (v : ActionView text records values decls room₀ i count₀ depth) where
  -- an action is left from `at` on, under `count` names; with the faults found so far it has those of the whole
  pub record Ahead (room : List ℕ) (k at count : ℕ) : Type 0 where
    pub action : Action
    pub reads : drop at v.stage.tokens ≡ action_tokens action (v.next ∷ v.rest)
    pub shallow : action_nest action ≤ depth
    pub stacked : Stacked records v.stage.tokens room count
    pub low : count ≤ at
    pub more : count₀ ≤ count
    pub past : i ≤ at
    pub same_key : min k (least_key (faults_under v.stage room count action)) ≡ least_key (faults_under v.stage room₀ count₀ v.action)

  pub record PrefixAnswer (room : List ℕ) (r : Prefixed) : Type 0 where
    pub ahead : Ahead room r.key r.at r.count
    pub bare : Bare ahead.action
