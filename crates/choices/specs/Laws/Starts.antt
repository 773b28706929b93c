-- Where alternatives begin: the cells of a level, and the `:=` of a selector.
-- Assumes nothing.
use Rattle.std.specs.Prelude.{ℕ, zero, suc, ◌+◌, ◌-◌, ◌*◌, ◌<◌, ◌≤◌, ◌≡◌, refl, List, [], ◌∷◌, ◌++◌, length, take, drop}
use Rattle.std.proofs.Common.{sym, ap, ap₂, ◌∙◌, arith, length-drop, take_all, get_or-drop}
use Rattle.cells.specs.Cells.{le_at, cell}
use Rattle.rules.specs.Text.Tokens.{Becomes, tk, kind_no}
use Rattle.rules.specs.Limits.{longest_text}
use Rattle.rules.specs.Grammar.Trees.{Tokens}
use Rattle.rules.specs.Faults.Fault.{fault}
use Rattle.laws_grammar.specs.Cited.Kinds.{kind_at}
use Rattle.laws_grammar.specs.Grammar.Kinds.{kind_at_kind_no}
use Rattle.records.specs.Holds.{kind_byte, place_cell}
use Rattle.keys.specs.Keys.{key, no_key}
use Rattle.table.specs.Laws.Positions.{here, kind_here, record_within}
use Rattle.selectors.specs.Overlaps.{AlternativesView, FirstOverlap}
use Rattle.selectors.specs.Laws.Alternatives.{items_within}
use Rattle.room.specs.Bodies.{level_base}
use Rattle.choices.specs.Choices.{start_cell, compared, StartsView, OverlapAnswer, NoBecomes, BehindView, BehindAnswer}

-- A PART OF THE ROOM
le_drop : (w a : ℕ) (b : List ℕ) (o : ℕ) → le_at w (drop a b) o ≡ le_at w b (a + o)
unfolding le_at
le_drop zero a b o = refl
le_drop (suc w) a b o = ap₂ (λ x y. x + 256 * y) (get_or-drop a b o 0) (le_drop w a b (o + 1) ∙ ap (le_at w b) (omega arith))

-- the cells from `base` on
abbrev pub part : List ℕ → ℕ → List ℕ
part room base = take (length room - 2 * base) (drop (2 * base) room)

pub part_all : (room : List ℕ) (base : ℕ) → part room base ≡ drop (2 * base) room
part_all room base = take_all (length room - 2 * base) (drop (2 * base) room) (omega (arith, length-drop (2 * base) room))

pub part_cell : (room : List ℕ) (base k : ℕ) → cell 2 (part room base) k ≡ cell 2 room (base + k)
part_cell room base k = ap (λ b. cell 2 b k) (part_all room base) ∙ le_drop 2 (2 * base) room (2 * k) ∙ ap (le_at 2 room) (omega arith)

-- THE FIRST OVERLAP
module _ {records values room : List ℕ} {depth number : ℕ} (v : StartsView records values room depth number) where
  abbrev pub starts_part : {count : ℕ} → count ≡ compared number → AlternativesView records values (part room (level_base depth)) count
  starts_part {count} e = record {
    tokens = v.tokens;
    held = v.held;
    room = let l = v.large in omega (arith, ap length (part_all room (level_base depth)), length-drop (2 * level_base depth) room);
    items = v.items;
    stand = λ k l. rw (part_cell room (level_base depth) k) (v.stand k (omega arith));
  }

  pub starts_room : {k : ℕ} → k < compared number → 2 * start_cell depth k + 2 ≤ length room
  starts_room l = let h = v.large in omega arith

  module _ {k at : ℕ} (l : k < compared number) (e : at ≡ cell 2 room (start_cell depth k)) where
    start_within : at < length v.tokens
    start_within = rw e (items_within v.held (v.stand k l))

    pub start_room : 8 * at + 8 ≤ length records
    start_room = record_within v.held.holds at start_within

    pub start_place : place_cell records at ≤ longest_text
    start_place = omega (arith, (v.held.holds.entry at start_within).place, (v.held.holds.entry at start_within).inside, v.held.holds.short)

  module _ {count later : ℕ} (is_count : count ≡ compared number) (f : FirstOverlap v.items count later) where
    abbrev first : FirstOverlap v.items (compared number) later
    first = rw is_count at f

    pub no_overlap : later ≡ count → OverlapAnswer v no_key
    no_overlap e = record { later = later; first = first; none = λ z. refl; found = λ l. absurd (omega arith) }

    pub later_less : (later ≡ count → ⊥) → later < compared number
    later_less n = let w = f.within in omega (arith, n)

    pub an_overlap : {at p r : ℕ} → (later ≡ count → ⊥) → at ≡ cell 2 room (start_cell depth later) → p ≡ place_cell records at → r ≡ key (fault 45 p) → OverlapAnswer v r
    an_overlap n a q g = record {
      later = later;
      first = first;
      none = λ z. absurd (n (z ∙ sym is_count));
      found = λ l. g ∙ ap (λ x. key (fault 45 x)) (q ∙ ap (place_cell records) a);
    }

-- BEHIND A SELECTOR
pub record Behind {records : List ℕ} {at : ℕ} (v : BehindView records at) (i : ℕ) : Type 0 where
  pub front : Tokens
  pub reads : drop i v.tokens ≡ front ++ (tk Becomes v.becomes ∷ v.rest)
  pub none : NoBecomes front
  pub past : at ≤ i

pub behind_starts : {records : List ℕ} {at : ℕ} (v : BehindView records at) → Behind v at
behind_starts v = record { front = v.front; reads = v.reads; none = v.none; past = omega arith }

-- the next token: `:=` itself, or another
pub data SeenBehind {records : List ℕ} {at : ℕ} (v : BehindView records at) (i : ℕ) : Type 0 where
  becomes_seen : i < length v.tokens → kind_byte records i ≡ kind_no Becomes → BehindAnswer v (i + 1) → SeenBehind v i
  other_seen : i < length v.tokens → (kind_byte records i ≡ kind_no Becomes → ⊥) → Behind v (i + 1) → SeenBehind v i

pub see_behind : {records : List ℕ} {at i : ℕ} {v : BehindView records at} → Behind v i → SeenBehind v i
see_behind {records} {at} {i} {v} b = go b.front b.reads b.none
  where
    go : (front : Tokens) → drop i v.tokens ≡ front ++ (tk Becomes v.becomes ∷ v.rest) → NoBecomes front → SeenBehind v i
    go [] e n =
        let h = here v.tokens i _ _ e in
        becomes_seen h.within (kind_here v.holds i _ h.within h.token) (record { past = let p = b.past in omega arith; behind = h.behind })
    go (t ∷ ts) e n =
        let h = here v.tokens i _ _ e in
        other_seen h.within (λ z. n.0 (sym (kind_at_kind_no t.kind) ∙ ap kind_at (sym (kind_here v.holds i t h.within h.token) ∙ z)))
        (record { front = ts; reads = h.behind; none = n.1; past = let p = b.past in omega arith })

module _ {records : List ℕ} {at i : ℕ} {v : BehindView records at} where
  pub behind_within : SeenBehind v i → i < length v.tokens
  behind_within (becomes_seen w _ _) = w
  behind_within (other_seen w _ _) = w

  pub behind_room : SeenBehind v i → 8 * i + 8 ≤ length records
  behind_room s = record_within v.holds i (behind_within s)

  pub behind_found : {k : ℕ} → SeenBehind v i → k ≡ kind_byte records i → k ≡ kind_no Becomes → BehindAnswer v (i + 1)
  behind_found (becomes_seen _ _ a) e k = a
  behind_found (other_seen _ n _) e k = absurd (n (sym e ∙ k))

  pub behind_on : {k : ℕ} → SeenBehind v i → k ≡ kind_byte records i → (k ≡ kind_no Becomes → ⊥) → Behind v (i + 1)
  behind_on (becomes_seen _ q _) e k = absurd (k (e ∙ q))
  behind_on (other_seen _ _ b) e k = b
