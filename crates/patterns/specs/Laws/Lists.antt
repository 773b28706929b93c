-- Whether some item of a list passes a test: how a walk over the list in the table goes on.
-- Assumes nothing.
use Rattle.std.specs.Prelude.{ℕ, ◌+◌, ◌*◌, ◌^◌, ◌<◌, ◌≤◌, ◌≡◌, refl, Bool, true, false, ◌||◌, List, [], ◌∷◌, leb, length}
use Rattle.std.proofs.Math.Path.{sym, ap}
use Rattle.std.proofs.Common.{◌∙◌, arith}
use Rattle.rules.specs.Text.Tokens.{Kind, Comma, kind_no}
use Rattle.rules.specs.Grammar.Trees.{Tokens, Literal, Range, single, to}
use Rattle.rules.specs.Selectors.{Item, item_of, highest}
use Rattle.rules.specs.Faults.Bodies.{items_meet, meets_any, some_meet_of, past}
use Rattle.laws_grammar.specs.Cited.Kinds.{kind_at}
use Rattle.laws_grammar.specs.Grammar.Kinds.{kind_at_kind_no}
use Rattle.records.specs.Holds.{kind_byte}
use Rattle.table.specs.Laws.Positions.{record_within, kind_here}
use Rattle.patterns.specs.declared.items.Item as code
use Rattle.patterns.specs.Items.{meant}
use Rattle.patterns.specs.Stands.{item_size, ItemAt, ItemView, ItemRead, ItemsFrom, last_item, more_items, ItemsView, TwoLists}
use Rattle.patterns.specs.Laws.Tokens.{item_behind}

-- whether some item passes
unfoldable pub some : (Item → Bool) → List Item → Bool
some test [] = false
some test (i ∷ is) = test i || some test is

pub some_meets : (i : Item) (js : List Item) → some (items_meet i) js ≡ meets_any i js
unfolding some meets_any
some_meets i [] = refl
some_meets i (j ∷ js) = ap (◌||◌ (items_meet i j)) (some_meets i js)

pub some_meet_lem : (js is : List Item) → some (λ i. meets_any i js) is ≡ some_meet_of is js
unfolding some some_meet_of
some_meet_lem js [] = refl
some_meet_lem js (i ∷ is) = ap (◌||◌ (meets_any i js)) (some_meet_lem js is)

pub some_past : (n : ℕ) (is : List Item) → some (λ i. leb (2 ^ n) (highest i)) is ≡ past n is
unfolding some past
some_past n [] = refl
some_past n (i ∷ is) = ap (◌||◌ (leb (2 ^ n) (highest i))) (some_past n is)

-- the first item, and whether others follow
pub data Others (ts : Tokens) (at : ℕ) (k : Kind) : List Item → Type 0 where
  none_follow : (k ≡ Comma → ⊥) → Others ts at k []
  some_follow : {is : List Item} → k ≡ Comma → ItemsFrom ts at is → Others ts at k is

pub record Front (ts : Tokens) (at : ℕ) (left : List Item) : Type 0 where
  pub literal : Literal
  pub range : Range
  pub stands : ItemAt ts at literal range
  pub tail : List Item
  pub is : left ≡ item_of literal range ∷ tail
  pub others : Others ts (at + item_size range + 1) stands.next.kind tail

pub front : {ts : Tokens} {at : ℕ} {left : List Item} → ItemsFrom ts at left → Front ts at left
front (last_item {l = l} {r = r} s n) = record { literal = l; range = r; stands = s; tail = []; is = refl; others = none_follow n }
front (more_items {l = l} {r = r} {is = is} s e more) = record { literal = l; range = r; stands = s; tail = is; is = refl; others = some_follow e more }

size_positive : {at : ℕ} (r : Range) → at < at + item_size r
size_positive single = omega arith
size_positive (to c l) = omega arith

-- A WALK: the items that are left
pub record Rest {records values : List ℕ} {q : ℕ} (v : ItemsView records values q) (at : ℕ) : Type 0 where
  pub left : List Item
  pub stand : ItemsFrom v.tokens at left

abbrev pub all_left : {records values : List ℕ} {q : ℕ} (v : ItemsView records values q) → Rest v q
all_left v = record { left = v.items; stand = v.stand }

module _ {records values : List ℕ} {q at : ℕ} {v : ItemsView records values q} (l : Rest v at) where
  abbrev pub ahead : Front v.tokens at l.left
  ahead = front l.stand

  abbrev pub item_view : ItemView records values at
  item_view = record { tokens = v.tokens; held = v.held; literal = ahead.literal; range = ahead.range; stands = ahead.stands }

  module _ {next : ℕ} {item : code.Item} (read : (u : ItemView records values at) → ItemRead u.literal u.range at item next) where
    abbrev seen : ItemRead ahead.literal ahead.range at item next
    seen = read item_view

    next_within : next < length v.tokens
    next_within = rw seen.is_next (item_behind ahead.range ahead.stands).within

    next_kind : kind_byte records next ≡ kind_no ahead.stands.next.kind
    next_kind = kind_here v.held.holds next ahead.stands.next next_within (rw seen.is_next (item_behind ahead.range ahead.stands).token)

    pub in_front : l.left ≡ meant item ∷ ahead.tail
    in_front = ahead.is ∙ ap (λ i. i ∷ ahead.tail) (sym seen.is_item)

    pub next_room : 8 * next + 8 ≤ length records
    next_room = record_within v.held.holds next next_within

    pub item_fits : highest (meant item) < 2 ^ 64
    item_fits = rw seen.is_item seen.fits

    pub walks_on : (at < next) × (next < length records)
    walks_on = (rw seen.is_next (size_positive ahead.range), omega (arith, next_room))

    module _ {k : ℕ} (is_kind : k ≡ kind_byte records next) where
      pub none_left : (k ≡ kind_no Comma → ⊥) → ahead.tail ≡ []
      none_left n = go ahead.others
        where
          go : {is : List Item} → Others v.tokens (at + item_size ahead.range + 1) ahead.stands.next.kind is → is ≡ []
          go (none_follow _) = refl
          go (some_follow e _) = absurd (n (is_kind ∙ next_kind ∙ ap kind_no e))

      pub tail_left : k ≡ kind_no Comma → (r : Rest v (next + 1)) × (r.left ≡ ahead.tail)
      tail_left e = go ahead.others
        where
          go : {is : List Item} → Others v.tokens (at + item_size ahead.range + 1) ahead.stands.next.kind is → (r : Rest v (next + 1)) × (r.left ≡ is)
          go (none_follow n) = absurd (n (sym (kind_at_kind_no _) ∙ ap kind_at (sym next_kind ∙ sym is_kind ∙ e)))
          go {is} (some_follow _ more) = (record { left = is; stand = rw seen.is_next more }, refl)

-- A SEARCH: the answer is that of the items left
pub record Left (test : Item → Bool) {records values : List ℕ} {q : ℕ} (v : ItemsView records values q) (at : ℕ) : Type 0 where
  pub rest : Rest v at
  pub same : some test rest.left ≡ some test v.items

pub walk_starts : (test : Item → Bool) {records values : List ℕ} {q : ℕ} (v : ItemsView records values q) → Left test v q
walk_starts test v = record { rest = all_left v; same = refl }

module _ {test : Item → Bool} {records values : List ℕ} {q at : ℕ} {v : ItemsView records values q} (l : Left test v at) {next : ℕ} {item : code.Item}
    (read : (u : ItemView records values at) → ItemRead u.literal u.range at item next) {r : Bool} (answer : r ≡ test (meant item)) where
  abbrev behind : List Item
  behind = (ahead l.rest).tail

  -- the answer by the item in front and those behind it
  by_front : some test v.items ≡ r || some test behind
  unfolding some
  by_front = sym l.same ∙ ap (some test) (in_front l.rest read) ∙ ap (λ b. b || some test behind) (sym answer)

  pub walk_finds : r ≡ true → true ≡ some test v.items
  walk_finds t = sym (by_front ∙ ap (λ b. b || some test behind) t)

  module _ {k : ℕ} (is_kind : k ≡ kind_byte records next) (f : r ≡ false) where
    passed : some test v.items ≡ some test behind
    passed = by_front ∙ ap (λ b. b || some test behind) f

    pub walk_ends : (k ≡ kind_no Comma → ⊥) → false ≡ some test v.items
    unfolding some
    walk_ends n = sym (passed ∙ ap (some test) (none_left l.rest read is_kind n))

    pub walk_goes_on : k ≡ kind_no Comma → Left test v (next + 1)
    walk_goes_on e =
        let on = tail_left l.rest read is_kind e in
        record { rest = on.0; same = ap (some test) on.1 ∙ sym passed }

-- one of two lists
module _ {records values : List ℕ} {p q : ℕ} (v : TwoLists records values p q) where
  abbrev pub first_list : ItemsView records values p
  first_list = record { tokens = v.tokens; held = v.held; items = v.first; stand = v.first_stand }

  abbrev pub second_list : ItemsView records values q
  second_list = record { tokens = v.tokens; held = v.held; items = v.second; stand = v.second_stand }
