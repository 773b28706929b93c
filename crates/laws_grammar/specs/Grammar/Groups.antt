-- The two ways to write a block, as groups and as an action with its members, have the same tokens and are inverse.
use Rattle.std.specs.Prelude.{◌≡◌, refl, ◌∷◌}
use Rattle.std.proofs.Common.{ap, ◌∙◌}
use Rattle.rules.specs.Text.Tokens.{Info, tk, Semi, NEXT}
use Rattle.rules.specs.Grammar.Trees.{Tokens, Action, action_tokens, Members, end, also, next, members_tokens}
use Rattle.laws_grammar.specs.Grammar.Blocks.{Group, lone, with_also, Groups, last_group, next_group, groups_tokens, also_before, groups_of}

also_before_tokens : (a : Action) (i : Info) (gs : Groups) (ts : Tokens) → groups_tokens (also_before a i gs) ts ≡ action_tokens a (tk Semi i ∷ groups_tokens gs ts)
unfolding also_before
also_before_tokens a i (last_group g e) ts = refl
also_before_tokens a i (next_group g j gs) ts = refl

pub groups_tokens_lem : (a : Action) (m : Members) (ts : Tokens) → groups_tokens (groups_of a m) ts ≡ action_tokens a (members_tokens m ts)
unfolding groups_of
groups_tokens_lem a (end e) ts = refl
groups_tokens_lem a (also i b m) ts = also_before_tokens a i (groups_of b m) ts ∙ ap (λ (l : Tokens). action_tokens a (tk Semi i ∷ l)) (groups_tokens_lem b m ts)
groups_tokens_lem a (next i b m) ts = ap (λ (l : Tokens). action_tokens a (tk NEXT i ∷ l)) (groups_tokens_lem b m ts)

-- and back
abbrev Block : Type 0
Block = Action × Members

unfoldable pub onto : Group → Members → Action × Members
onto (lone a) m = (a, m)
onto (with_also a i g) m = (a, also i (onto g m).0 (onto g m).1)

unfoldable pub block_of : Groups → Action × Members
block_of (last_group g e) = onto g (end e)
block_of (next_group g i gs) = onto g (next i (block_of gs).0 (block_of gs).1)

block_also_before : (a : Action) (i : Info) (gs : Groups) → ◌≡◌ {A = Block} (block_of (also_before a i gs)) (a, also i (block_of gs).0 (block_of gs).1)
unfolding also_before block_of onto
block_also_before a i (last_group g e) = refl
block_also_before a i (next_group g j gs) = refl

pub block_groups : (a : Action) (m : Members) → ◌≡◌ {A = Action × Members} (block_of (groups_of a m)) (a, m)
unfolding groups_of block_of onto
block_groups a (end e) = refl
block_groups a (also i b m) = block_also_before a i (groups_of b m) ∙ ap {A = Block} {B = Block} (λ x. (a, also i x.0 x.1)) (block_groups b m)
block_groups a (next i b m) = ap {A = Block} {B = Block} (λ x. (a, next i x.0 x.1)) (block_groups b m)

groups_onto_end : (g : Group) (e : Info) → groups_of (onto g (end e)).0 (onto g (end e)).1 ≡ last_group g e
unfolding groups_of onto also_before
groups_onto_end (lone a) e = refl
groups_onto_end (with_also a i g) e = ap (also_before a i) (groups_onto_end g e)

groups_onto_next : (g : Group) (i : Info) (b : Action) (m : Members) → groups_of (onto g (next i b m)).0 (onto g (next i b m)).1 ≡ next_group g i (groups_of b m)
unfolding groups_of onto also_before
groups_onto_next (lone a) i b m = refl
groups_onto_next (with_also a j g) i b m = ap (also_before a j) (groups_onto_next g i b m)

pub groups_block : (gs : Groups) → groups_of (block_of gs).0 (block_of gs).1 ≡ gs
unfolding block_of
groups_block (last_group g e) = groups_onto_end g e
groups_block (next_group g i gs) = groups_onto_next g i (block_of gs).0 (block_of gs).1 ∙ ap (next_group g i) (groups_block gs)
