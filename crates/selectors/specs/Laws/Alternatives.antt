-- Where the items of an alternative begin, and the search for an overlap.
-- Assumes nothing.
use Rattle.std.specs.Prelude.{Option, Some, None, ℕ, zero, suc, ◌+◌, ◌*◌, ◌<◌, ◌≤◌, ◌≡◌, refl, Bool, true, false, ◌||◌, List, [], ◌∷◌, ◌++◌, length}
use Rattle.std.proofs.Common.{sym, ap, ap₂, ◌∙◌, add-one, arith}
use Rattle.std.proofs.Math.Bool.{or-true, or_assoc}
use Rattle.std.proofs.Math.Decide.{dec_lt}
use Rattle.cells.specs.Cells.{cell}
use Rattle.rules.specs.Text.Tokens.{kind_no, OTHERWISE, LBra}
use Rattle.rules.specs.Grammar.Trees.{Tokens, Literal, exact, masked}
use Rattle.rules.specs.Selectors.{Item}
use Rattle.rules.specs.Faults.Bodies.{items_meet, meets_any, some_meet_of, past}
use Rattle.records.specs.Holds.{kind_byte}
use Rattle.table.specs.Laws.Positions.{record_within, kind_here}
use Rattle.patterns.specs.Stands.{Held, ItemsFrom, ItemsView, TwoLists, ItemsAt, no_items, in_brackets, one_item, AlternativeView, TwoAlternatives}
use Rattle.selectors.specs.Overlaps.{Begin, AlternativesView, earlier_items, overlaps, FirstOverlap}
use Rattle.patterns.specs.Laws.Tokens.{item_first, literal_token, first_here}
use Rattle.patterns.specs.Laws.Lists.{front}

-- WHERE ITEMS BEGIN, by the kind of the alternative's first token
pub data SeenItems (records : List ℕ) (ts : Tokens) (p : ℕ) (is : List Item) : Type 0 where
  otherwise_seen : kind_byte records p ≡ kind_no OTHERWISE → is ≡ [] → SeenItems records ts p is
  brackets_seen : kind_byte records p ≡ kind_no LBra → ItemsFrom ts (p + 1) is → SeenItems records ts p is
  item_seen : (kind_byte records p ≡ kind_no OTHERWISE → ⊥) → (kind_byte records p ≡ kind_no LBra → ⊥) → ItemsFrom ts p is → SeenItems records ts p is

literal_kind : (l : Literal) → kind_no (literal_token l).kind ≤ 2
literal_kind (exact i) = omega arith
literal_kind (masked i) = omega arith

module _ {records values : List ℕ} {ts : Tokens} (h : Held records values ts) {p : ℕ} where
  item_within : {is : List Item} → ItemsFrom ts p is → p < length ts
  item_within f = let x = front f in (first_here h (item_first x.range x.stands)).within

  item_kind : {is : List Item} → ItemsFrom ts p is → kind_byte records p ≤ 2
  item_kind f =
      let x = front f in
      let y = first_here h (item_first x.range x.stands) in
      rw (kind_here h.holds p _ y.within y.token) (literal_kind x.literal)

  pub items_within : {is : List Item} → ItemsAt ts p is → p < length ts
  items_within (no_items w _) = w
  items_within (in_brackets w _ _) = w
  items_within (one_item f) = item_within f

  pub see_items : {is : List Item} → ItemsAt ts p is → SeenItems records ts p is
  see_items (no_items w k) = otherwise_seen ((h.holds.entry p w).kind ∙ ap kind_no k) refl
  see_items (in_brackets w k f) = brackets_seen ((h.holds.entry p w).kind ∙ ap kind_no k) f
  see_items (one_item f) = item_seen (λ e. omega (arith, item_kind f)) (λ e. omega (arith, item_kind f)) f

module _ {records : List ℕ} {ts : Tokens} {p k : ℕ} {is : List Item} (is_kind : k ≡ kind_byte records p) where
  pub begins_nowhere : SeenItems records ts p is → k ≡ kind_no OTHERWISE → Begin ts is None
  begins_nowhere (otherwise_seen _ e) _ = e
  begins_nowhere (brackets_seen b _) e = absurd (omega arith)
  begins_nowhere (item_seen n _ _) e = absurd (n (sym is_kind ∙ e))

  pub begins_inside : SeenItems records ts p is → k ≡ kind_no LBra → Begin ts is (Some (p + 1))
  begins_inside (otherwise_seen o _) e = absurd (omega arith)
  begins_inside (brackets_seen _ f) _ = f
  begins_inside (item_seen _ n _) e = absurd (n (sym is_kind ∙ e))

  pub begins_there : SeenItems records ts p is → (k ≡ kind_no OTHERWISE → ⊥) → (k ≡ kind_no LBra → ⊥) → Begin ts is (Some p)
  begins_there (otherwise_seen o _) n m = absurd (n (is_kind ∙ o))
  begins_there (brackets_seen b _) n m = absurd (m (is_kind ∙ b))
  begins_there (item_seen _ _ f) n m = f

-- what a call learns of where they begin
pub from : {ts : Tokens} {is : List Item} {q : ℕ} (x : Option ℕ) → x ≡ Some q → Begin ts is x → ItemsFrom ts q is
from {ts} {is} x e b = rw e at b

nowhere : (ts : Tokens) {is : List Item} (x : Option ℕ) → x ≡ None → Begin ts is x → is ≡ []
nowhere ts x e b = rw e at b

abbrev pub Begins : List ℕ → ℕ → Option ℕ → Type 0
Begins records p x = (values : List ℕ) (v : AlternativeView records values p) → Begin v.tokens v.items x

module _ {records values : List ℕ} {p : ℕ} (v : AlternativeView records values p) where
  pub alternative_room : 8 * p + 8 ≤ length records
  alternative_room = record_within v.held.holds p (items_within v.held v.stand)

  pub alternative_seen : SeenItems records v.tokens p v.items
  alternative_seen = see_items v.held v.stand

  abbrev pub items_from : {q : ℕ} (x : Option ℕ) → x ≡ Some q → Begins records p x → ItemsView records values q
  items_from x e b = record { tokens = v.tokens; held = v.held; items = v.items; stand = from x e (b values v) }

  pub none_past : (n : ℕ) (x : Option ℕ) → x ≡ None → Begins records p x → false ≡ past n v.items
  unfolding past
  none_past n x e b = rw (nowhere v.tokens x e (b values v), past)

-- TWO ALTERNATIVES
meet_none : (is : List Item) → some_meet_of is [] ≡ false
unfolding some_meet_of meets_any
meet_none [] = refl
meet_none (i ∷ is) = meet_none is

module _ {records values : List ℕ} {p q : ℕ} (v : TwoAlternatives records values p q) where
  abbrev pub one_view : AlternativeView records values p
  one_view = record { tokens = v.tokens; held = v.held; items = v.first; stand = v.first_stand }

  abbrev pub other_view : AlternativeView records values q
  other_view = record { tokens = v.tokens; held = v.held; items = v.second; stand = v.second_stand }

  abbrev pub two_lists : {a b : ℕ} (x y : Option ℕ) → x ≡ Some a → Begins records p x → y ≡ Some b → Begins records q y → TwoLists records values a b
  two_lists x y e f g h = record {
    tokens = v.tokens;
    held = v.held;
    first = v.first;
    first_stand = from x e (f values one_view);
    second = v.second;
    second_stand = from y g (h values other_view);
  }

  pub first_empty : (x : Option ℕ) → x ≡ None → Begins records p x → false ≡ some_meet_of v.first v.second
  unfolding some_meet_of
  first_empty x e b = rw (nowhere v.tokens x e (b values one_view), some_meet_of)

  pub second_empty : (x : Option ℕ) → x ≡ None → Begins records q x → false ≡ some_meet_of v.first v.second
  second_empty x e b = rw (nowhere v.tokens x e (b values other_view)) (sym (meet_none v.first))

-- THE SEARCH
shuffle : (a b c d : Bool) → (a || b) || (c || d) ≡ (a || c) || (b || d)
shuffle true b c d = refl
shuffle false true true d = refl
shuffle false true false d = refl
shuffle false false c d = refl

meets_append : (i : Item) (xs ys : List Item) → meets_any i (xs ++ ys) ≡ meets_any i xs || meets_any i ys
unfolding meets_any
meets_append i [] ys = refl
meets_append i (x ∷ xs) ys = ap (◌||◌ (items_meet i x)) (meets_append i xs ys) ∙ sym (or_assoc (items_meet i x) (meets_any i xs) (meets_any i ys))

meet_append : (is xs ys : List Item) → some_meet_of is (xs ++ ys) ≡ some_meet_of is xs || some_meet_of is ys
unfolding some_meet_of
meet_append [] xs ys = refl
meet_append (i ∷ is) xs ys = ap₂ ◌||◌ (meets_append i xs ys) (meet_append is xs ys) ∙ shuffle (meets_any i xs) (meets_any i ys) (some_meet_of is xs) (some_meet_of is ys)

module _ (items : ℕ → List Item) (is : List Item) where
  -- one more of the earlier alternatives
  meet_next : (k : ℕ) → some_meet_of is (earlier_items items (suc k)) ≡ some_meet_of is (items k) || some_meet_of is (earlier_items items k)
  unfolding earlier_items
  meet_next k = meet_append is (items k) (earlier_items items k)

  meet_earlier : (j k : ℕ) → k < j → some_meet_of is (items k) ≡ true → some_meet_of is (earlier_items items j) ≡ true
  meet_earlier zero k l e = absurd (omega arith)
  meet_earlier (suc j) k l e = by (dec_lt k j) (λ m. meet_earlier j k m e)
    where
      by : Dec (k < j) → (k < j → some_meet_of is (earlier_items items j) ≡ true) → some_meet_of is (earlier_items items (suc j)) ≡ true
      by (yes m) inner = meet_next j ∙ ap (◌||◌ (some_meet_of is (items j))) (inner m) ∙ or-true (some_meet_of is (items j))
      by (no n) _ = let same : j ≡ k = omega arith in meet_next j ∙ ap (λ b. b || some_meet_of is (earlier_items items j)) (ap (λ m. some_meet_of is (items m)) same ∙ e)

abbrev pub NoneBefore : (ℕ → List Item) → ℕ → Type 0
NoneBefore items later = (k : ℕ) → k < later → overlaps items k ≡ false

module _ {records values starts : List ℕ} {count : ℕ} where
  pub start_room : AlternativesView records values starts count → (k : ℕ) → k < count → 2 * k + 2 ≤ length starts
  start_room v k l = omega (arith, v.room)

  abbrev pub one_alternative : (v : AlternativesView records values starts count) {k p : ℕ} → k < count → p ≡ cell 2 starts k → AlternativeView records values p
  one_alternative v {k} l e = record { tokens = v.tokens; held = v.held; items = v.items k; stand = rw e (v.stand k l) }

  abbrev pub pair : (v : AlternativesView records values starts count) {j k p q : ℕ} → j < count → k < count → p ≡ cell 2 starts j → q ≡ cell 2 starts k
      → TwoAlternatives records values p q
  pair v {j} {k} a b e f = record {
    tokens = v.tokens;
    held = v.held;
    first = v.items j;
    first_stand = rw e (v.stand j a);
    second = v.items k;
    second_stand = rw f (v.stand k b);
  }

  module _ (v : AlternativesView records values starts count) {j k : ℕ} (l : j < count) (before : NoneBefore v.items j) where
    pub overlap_found : k < j → some_meet_of (v.items j) (v.items k) ≡ true → FirstOverlap v.items count j
    overlap_found m e = record { within = omega arith; none_before = before; found = λ _. meet_earlier v.items (v.items j) j k m e }

pub no_overlap : (items : ℕ → List Item) {count : ℕ} (later : ℕ) → later ≤ count → count ≤ later → NoneBefore items later → FirstOverlap items count later
no_overlap items later l m before = record { within = l; none_before = before; found = λ h. absurd (omega arith) }

-- one alternative more, or one pair
pub one_more : (items : ℕ → List Item) (later : ℕ) → NoneBefore items later → overlaps items later ≡ false → NoneBefore items (later + 1)
one_more items later before e k l = by (dec_lt k later)
  where
    by : Dec (k < later) → overlaps items k ≡ false
    by (yes m) = before k m
    by (no n) = let same : k ≡ later = omega arith in rw same e

pub no_pair : (is : List Item) (items : ℕ → List Item) → some_meet_of is (earlier_items items 0) ≡ false
unfolding earlier_items
no_pair is items = meet_none is

pub one_pair : (is : List Item) (items : ℕ → List Item) (k : ℕ) → some_meet_of is (items k) ≡ false → some_meet_of is (earlier_items items k) ≡ false
    → some_meet_of is (earlier_items items (k + 1)) ≡ false
one_pair is items k e f = rw add-one (meet_next items is k ∙ rw (e, f) refl)
