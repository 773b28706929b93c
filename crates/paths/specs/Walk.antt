-- The analysis as one walk of a body's tree from left to right, as code can take it. Each open block has a flag for the end of its present member, by its
-- depth. An action is given the number of the flag at its end; a label's end, or an IF's, is that of what it stands in. Where control is (`b`) and comes to
-- an end, the flag is set. Flag 0 is idle: nobody asks whether a turn of a REPEAT ends.
use Rattle.std.specs.Prelude.{ℕ, suc, Bool, true, cond, ◌&&◌, List, [], ◌∷◌}
use Rattle.rules.specs.Grammar.Trees.{Action, block, labelled, if_then, decode, repeat, leave, restart, activate, stop, no_op, transfer, Members, end, also, next}
use Rattle.rules.specs.Grammar.Trees.{Alternatives, counted, selected, Counted, counted_end, counted_more, Selected, select, otherwise, SelectedMore, selected_end, selected_more}
use Rattle.rules.specs.Declarations.{Word, Table}
use Rattle.rules.specs.Steps.Actions.{access, joined_accesses}
use Rattle.paths.specs.Cited.Marks.{Marks, unmarked, Slot, slot, marked, cleared, added, flag_of, marked_at}
use Rattle.paths.specs.Cited.Early.{Report, activation, written}

-- with what is known of the bodies
module _ (ds : Table) (test : Word) (output : ℕ) (known : Word → Report) where
  -- inside the labels ls, with the flags from d on free, and the flag k at the end
  unfoldable mutual
    pub walk : Action → List Slot → ℕ → ℕ → Bool → Marks → Marks
    walk (block i a m) ls d k b w = walk_members m ls d k b true (walk a ls (suc d) d b (cleared d w))
    walk (labelled n i a) ls d k b w = walk a (slot n.word k ∷ ls) d k b w
    walk (if_then i o t h a) ls d k b w = walk a ls d k b (marked k b w)
    walk (decode i o t h g v) ls d k b w = walk_alternatives v ls d k b w
    walk (repeat i a) ls d k b w = walk a ls d 0 b w
    walk (leave i n) ls d k b w = marked_at (flag_of ls n.word) b w
    walk (restart i n) ls d k b w = w
    walk (activate n l r) ls d k b w =
        let x = activation test n.word (known n.word) in marked k (b && x.ends) (added (cond b x.places []) w)
    walk (stop i l r) ls d k b w = w
    walk (no_op i l r) ls d k b w = marked k b w
    walk (transfer n s f j e o t) ls d k b w = marked k b (added (cond b (written ds output (access n s f ∷ joined_accesses j)) []) w)

    -- what follows a member of a group that control comes to if b; so far all of the group's members have come to their ends if c
    pub walk_members : Members → List Slot → ℕ → ℕ → Bool → Bool → Marks → Marks
    walk_members (end i) ls d k b c w = marked k (c && w.flags d) w
    walk_members (also i a m) ls d k b c w = walk_members m ls d k b (c && w.flags d) (walk a ls (suc d) d b (cleared d w))
    walk_members (next i a m) ls d k b c w =
        let f = c && w.flags d in walk_members m ls d k f true (walk a ls (suc d) d f (cleared d w))

    pub walk_alternatives : Alternatives → List Slot → ℕ → ℕ → Bool → Marks → Marks
    walk_alternatives (counted a c) ls d k b w = walk_counted c ls d k b (walk a ls d k b w)
    walk_alternatives (selected s) ls d k b w = walk_selected s ls d k b w

    pub walk_counted : Counted → List Slot → ℕ → ℕ → Bool → Marks → Marks
    walk_counted (counted_end i) ls d k b w = w
    walk_counted (counted_more i a c) ls d k b w = walk_counted c ls d k b (walk a ls d k b w)

    pub walk_selected : Selected → List Slot → ℕ → ℕ → Bool → Marks → Marks
    walk_selected (select s i a m) ls d k b w = walk_more m ls d k b (walk a ls d k b w)
    walk_selected (otherwise i h a e) ls d k b w = walk a ls d k b w

    pub walk_more : SelectedMore → List Slot → ℕ → ℕ → Bool → Marks → Marks
    walk_more (selected_end i) ls d k b w = w
    walk_more (selected_more i s) ls d k b w = walk_selected s ls d k b w

  -- a body, with its own name as the outermost label: flag 1 tells whether its end is reached
  unfoldable pub walk_body : Action → Word → Marks
  walk_body a n = walk a (slot n 1 ∷ []) 2 1 true unmarked
