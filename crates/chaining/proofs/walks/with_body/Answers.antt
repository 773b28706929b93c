-- `chaining::walks::with_body` meets its contract.
use borrow.Author.Rules.{rules}
use Rattle.chaining.specs.Laws.Numbers.{listed_more}
use Rattle.chaining.specs.Laws.Walks.{with_place}
use Rattle.chaining.proofs.walks.with_body.Goals as goal

pub returns : goal.returns
returns c = λ v places e a. with_place places v c.requires.1.0 (c.name_place-place.ensures.1 v) (listed_more _ places _ c.name_place-place.result e a (search rules))
