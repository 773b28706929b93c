-- `members::member_of` meets its contract: an instruction with a rank is a member itself.
-- Assumes nothing.
use borrow.Author.Rules.{rules}
use Rattle.members.specs.Laws.Cells.{member_around, member_itself}
use Rattle.members.proofs.member_of.Goals as goal

pub returns-then-rank_at-eq0 : goal.returns-then-rank_at-eq0
returns-then-rank_at-eq0 c = member_around _ _ _ c.rank_at.ensures (search rules) c.up_at.ensures

pub returns : goal.returns
returns c = member_itself _ _ _ _ c.rank_at.ensures (λ h. search rules)
