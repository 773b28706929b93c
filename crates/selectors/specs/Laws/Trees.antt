-- The selectors of a tree in the table: its items stand where the tokens of the tree do.
-- Assumes nothing.
use Rattle.std.specs.Prelude.{ℕ, ◌+◌, ◌≡◌, refl, [], ◌∷◌, drop}
use Rattle.std.proofs.Common.{ap, arith}
use Rattle.rules.specs.Text.Tokens.{RBra, Comma, Becomes, OTHERWISE, Info, Token, tk, kind_no}
use Rattle.rules.specs.Grammar.Trees.{Tokens, Literal, literal_tokens, Range, range_tokens, Items, close, item, items_tokens, Selector, one_of, any_of, selector_tokens}
use Rattle.rules.specs.Selectors.{item_of, items_of, selector_items}
use Rattle.table.specs.Laws.Positions.{here}
use Rattle.patterns.specs.Stands.{by_comma, by_close, by_becomes, item_size, ItemAt, ItemsFrom, last_item, more_items, ItemsAt, no_items, in_brackets, one_item}
use Rattle.patterns.specs.Laws.Tokens.{item_behind}

list_from : (ts : Tokens) (q : ℕ) (l : Literal) (r : Range) (is : Items) (rest : Tokens) → drop q ts ≡ literal_tokens l (range_tokens r (items_tokens is rest))
    → ItemsFrom ts q (item_of l r ∷ items_of is)
unfolding items_of
list_from ts q l r (close x) rest e =
    last_item (record { next = tk RBra x; rest = rest; reads = e; ends = by_close }) (λ z. omega (arith, ap kind_no z))
list_from ts q l r (item c m s is) rest e =
    let here : ItemAt ts q l r =
    record { next = tk Comma c; rest = literal_tokens m (range_tokens s (items_tokens is rest)); reads = e; ends = by_comma } in
    more_items here refl (list_from ts (q + item_size r + 1) m s is rest (item_behind r here).behind)

-- a selector, with `:=` behind it
pub selector_at : (ts : Tokens) (p : ℕ) (s : Selector) (b : Info) (rest : Tokens) → drop p ts ≡ selector_tokens s (tk Becomes b ∷ rest) → ItemsAt ts p (selector_items s)
unfolding selector_items
selector_at ts p (one_of l r) b rest e =
    one_item (last_item (record { next = tk Becomes b; rest = rest; reads = e; ends = by_becomes }) (λ z. omega (arith, ap kind_no z)))
selector_at ts p (any_of x l r is) b rest e =
    let bracket = here ts p _ _ e in
    in_brackets bracket.within (ap (λ (t : Token). t.kind) bracket.token) (list_from ts (p + 1) l r is (tk Becomes b ∷ rest) bracket.behind)

pub otherwise_at : (ts : Tokens) (p : ℕ) (i : Info) (rest : Tokens) → drop p ts ≡ tk OTHERWISE i ∷ rest → ItemsAt ts p []
otherwise_at ts p i rest e = let first = here ts p _ _ e in no_items first.within (ap (λ (t : Token). t.kind) first.token)
