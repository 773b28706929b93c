-- A block as document 01 words it: "BEGIN, groups split by NEXT, END; a group is one or more actions, its members, split by `;`". It is another way
-- to write the action and the members of a block, with the same tokens.
use Rattle.std.specs.Prelude.{◌∷◌}
use Rattle.rules.specs.Text.Tokens.{Info, tk, Semi, NEXT, END}
use Rattle.rules.specs.Grammar.Trees.{Tokens, Action, action_tokens, Members, end, also, next}

pub data Group : Type 0 where
  lone : Action → Group
  with_also : Action → Info → Group → Group

pub data Groups : Type 0 where
  last_group : Group → Info → Groups
  next_group : Group → Info → Groups → Groups

abbrev pub group_tokens : Group → Tokens → Tokens
group_tokens (lone a) ts = action_tokens a ts
group_tokens (with_also a i g) ts = action_tokens a (tk Semi i ∷ group_tokens g ts)

abbrev pub groups_tokens : Groups → Tokens → Tokens
groups_tokens (last_group g e) ts = group_tokens g (tk END e ∷ ts)
groups_tokens (next_group g i gs) ts = group_tokens g (tk NEXT i ∷ groups_tokens gs ts)

unfoldable pub also_before : Action → Info → Groups → Groups
also_before a i (last_group g e) = last_group (with_also a i g) e
also_before a i (next_group g j gs) = next_group (with_also a i g) j gs

unfoldable pub groups_of : Action → Members → Groups
groups_of a (end e) = last_group (lone a) e
groups_of a (also i b m) = also_before a i (groups_of b m)
groups_of a (next i b m) = next_group (lone a) i (groups_of b m)
