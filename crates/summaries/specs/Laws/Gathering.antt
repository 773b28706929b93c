-- How a walk over items in the table gathers what is told of them.
-- Assumes nothing.
use Rattle.std.specs.Prelude.{ℕ, ◌+◌, ◌^◌, ◌<◌, ◌≡◌, refl, Bool, true, false, List, [], ◌∷◌, ◌++◌, ltb}
use Rattle.std.proofs.Common.{sym, ap, ◌∙◌, append_assoc, append-nil, arith, ltb-true, ltb-false}
use Rattle.rules.specs.Text.Tokens.{Comma, kind_no}
use Rattle.rules.specs.Grammar.Trees.{Literal, Range, single, to}
use Rattle.rules.specs.Selectors.{Item, between, lowest, highest_digits, item_of, highest}
use Rattle.records.specs.Holds.{kind_byte}
use Rattle.patterns.specs.declared.items.Item as code
use Rattle.summaries.specs.declared.Summary.{Summary}
use Rattle.patterns.specs.Items.{meant}
use Rattle.patterns.specs.Stands.{ItemView, ItemRead, ItemsView}
use Rattle.summaries.specs.Summaries.{Bounded, Joins, Tells}
use Rattle.patterns.specs.Laws.Lists.{Rest, all_left, ahead, in_front, none_left, tail_left}
use Rattle.summaries.specs.Laws.Summaries.{starts, joins}

-- a range of two constants, by whether it falls
abbrev range_item : Literal → Literal → Bool → Item
range_item l m falls = elim falls [ true ↦ between (lowest m) (highest_digits l) | false ↦ between (lowest l) (highest_digits m) ]

-- an item that is read has its bounds in order
item_bounded : (l : Literal) (r : Range) → highest (item_of l r) < 2 ^ 64 → Bounded (item_of l r)
unfolding item_of highest
item_bounded l single h = h
item_bounded l (to c m) h = by (ltb (lowest m) (lowest l)) refl h
  where
    by : (x : Bool) → ltb (lowest m) (lowest l) ≡ x → highest (range_item l m x) < 2 ^ 64 → Bounded (range_item l m x)
    by true e s = (omega (arith, ltb-true (lowest m) (lowest l) e), s)
    by false e s = (omega (arith, ltb-false (lowest m) (lowest l) e), s)

pub read_bounded : {records values : List ℕ} {at next : ℕ} {item : code.Item} (u : ItemView records values at) → ItemRead u.literal u.range at item next → Bounded (meant item)
read_bounded u read = rw read.is_item (item_bounded u.literal u.range read.fits)

-- the items passed, of which the summary tells, and those left
pub record Gathered {records values : List ℕ} {q : ℕ} (v : ItemsView records values q) (at : ℕ) (s : Summary) : Type 0 where
  pub rest : Rest v at
  pub passed : List Item
  pub whole : passed ++ rest.left ≡ v.items
  pub tells : Tells passed s

pub none_gathered : {records values : List ℕ} {q : ℕ} (v : ItemsView records values q) {is : List Item} {s : Summary} → Tells is s → Gathered v q s
none_gathered v t = record { rest = all_left v; passed = []; whole = refl; tells = starts t }

module _ {records values : List ℕ} {q at : ℕ} {v : ItemsView records values q} {s : Summary} (g : Gathered v at s) {next : ℕ} {item : code.Item}
    (read : (u : ItemView records values at) → ItemRead u.literal u.range at item next) {t r : Summary} (one : Tells (meant item ∷ []) t) (joined : Joins s t r) where
  abbrev with_item : List Item
  with_item = g.passed ++ (meant item ∷ [])

  with_tail : with_item ++ (ahead g.rest).tail ≡ v.items
  with_tail = append_assoc g.passed (meant item ∷ []) (ahead g.rest).tail ∙ ap (◌++◌ g.passed) (sym (in_front g.rest read)) ∙ g.whole

  tells_more : Tells with_item r
  tells_more = joins g.passed (meant item ∷ []) s t r joined g.tells one

  module _ {k : ℕ} (is_kind : k ≡ kind_byte records next) where
    pub gathers_on : k ≡ kind_no Comma → Gathered v (next + 1) r
    gathers_on e =
        let on = tail_left g.rest read is_kind e in
        record { rest = on.0; passed = with_item; whole = ap (◌++◌ with_item) on.1 ∙ with_tail; tells = tells_more }

    pub all_gathered : (k ≡ kind_no Comma → ⊥) → Tells v.items r
    all_gathered n =
        let whole : with_item ≡ v.items = sym (append-nil with_item) ∙ ap (◌++◌ with_item) (sym (none_left g.rest read is_kind n)) ∙ with_tail in
        rw whole at tells_more
