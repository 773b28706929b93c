-- What a body costs, as one walk of its tree from left to right, as code can take it: a count that goes up with each step and stays at `endless` once it has
-- come there, which REPEAT and RESTART do at once. Alternatives all begin with the count in front of them; the greatest count behind them goes on.
use Rattle.std.specs.Prelude.{ℕ, ◌+◌, max}
use Rattle.rules.specs.Grammar.Trees.{Action, block, labelled, if_then, decode, repeat, leave, restart, activate, stop, no_op, transfer, Members, end, also, next}
use Rattle.rules.specs.Grammar.Trees.{Alternatives, counted, selected, Counted, counted_end, counted_more, Selected, select, otherwise, SelectedMore, selected_end, selected_more}
use Rattle.rules.specs.Declarations.{Word}
use Rattle.bounds.specs.Cited.Counts.{endless, up}

-- with the count of each body
module _ (counts : Word → ℕ) where
  -- from the count x on; inside a block or behind a first alternative, with the greatest count so far
  unfoldable mutual
    pub walk : Action → ℕ → ℕ
    walk (block i a m) x = walk_members m x (walk a x)
    walk (labelled n i a) x = walk a x
    walk (if_then i o t h a) x = walk a (up x 1)
    walk (decode i o t h g v) x = walk_alternatives v (up x 1) (up x 1)
    walk (repeat i a) x = walk a endless
    walk (leave i n) x = up x 1
    walk (restart i n) x = endless
    walk (activate n l r) x = up x (1 + counts n.word)
    walk (stop i l r) x = up x 1
    walk (no_op i l r) x = up x 1
    walk (transfer n s f j e o t) x = up x 1

    pub walk_members : Members → ℕ → ℕ → ℕ
    walk_members (end i) best x = max best x
    walk_members (also i a m) best x = walk_members m best (walk a x)
    walk_members (next i a m) best x = walk_members m best (walk a x)

    pub walk_alternatives : Alternatives → ℕ → ℕ → ℕ
    walk_alternatives (counted a c) base best = walk_counted c base best (walk a base)
    walk_alternatives (selected s) base best = walk_selected s base best

    pub walk_counted : Counted → ℕ → ℕ → ℕ → ℕ
    walk_counted (counted_end i) base best x = max best x
    walk_counted (counted_more i a c) base best x = walk_counted c base (max best x) (walk a base)

    pub walk_selected : Selected → ℕ → ℕ → ℕ
    walk_selected (select s i a m) base best = walk_more m base best (walk a base)
    walk_selected (otherwise i h a e) base best = max best (walk a base)

    pub walk_more : SelectedMore → ℕ → ℕ → ℕ → ℕ
    walk_more (selected_end i) base best x = max best x
    walk_more (selected_more i s) base best x = walk_selected s base (max best x)
