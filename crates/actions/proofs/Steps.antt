-- The steps of the walk over actions: what each call asks and what each answer gives, from what the code knows there. Each holds for every tree that
-- stands in the table.
-- Assumes nothing.
use native.Mathlib.Omega.{arith}
use mathlib.Core.Path.{◌≡◌}
use mathlib.Core.Bool.{Bool, true, false, ◌||◌}
use mathlib.Core.List.{List, [], ◌∷◌}
use Prim.Native.Nat.{ℕ, ◌+◌, ◌-◌, ◌*◌, ◌<◌, ◌≤◌, min}
use lib.Dec.{leb}
use lib.ListN.{length}
use Rattle.rules.specs.Text.Tokens.{BEGIN, DECODE, END, kind_no}
use Rattle.rules.specs.Selectors.{between}
use Rattle.rules.specs.Faults.Fault.{when}
use Rattle.rules.specs.Faults.Bodies.{past}
use Rattle.records.specs.Holds.{kind_byte, place_cell}
use Rattle.keys.specs.Keys.{no_key, least_key}
use Rattle.stacks.specs.Stacks.{Kept}
use Rattle.stacks.specs.Laws.Kept.{kept_all, kept_then, kept_less}
use Rattle.patterns.specs.Stands.{AlternativeView}
use Rattle.expressions.specs.Expressions.{ExpressionAt, ExpressionAnswer}
use Rattle.accesses.specs.declared.Judged.{Judged as Value}
use Rattle.plain.specs.declared.Walked.{Walked}
use Rattle.plain.specs.declared.prefixes.Prefixed.{Prefixed}
use Rattle.plain.specs.Actions.{ActionView, ActionAnswer, Simple, IsBlock, IsDecode}
use Rattle.room.specs.Bodies.{label_cells, level_base}
use Rattle.choices.specs.Choices.{with_start, StartsView, OverlapAnswer, BehindView, BehindAnswer}
use Rattle.actions.specs.Alternatives.{is_selector, IsCounted, IsSelected, ChoicesView, ChoicesAnswer}
use Rattle.plain.specs.Prefixes.{PrefixAnswer}
use Rattle.plain.specs.Laws.Forms.{action_inside}
use Rattle.actions.specs.Laws.Bare as bare
use Rattle.actions.specs.Laws.Decoded as decoded
use Rattle.actions.specs.Laws.Members as members
use Rattle.actions.specs.Laws.Members.{BlockAhead}
use Rattle.actions.specs.Laws.Counted as counting
use Rattle.actions.specs.Laws.Counted.{CountedAhead}
use Rattle.actions.specs.Laws.Selected as selecting
use Rattle.actions.specs.Laws.Selected.{SelectedAhead}

-- THE LOOPS: what is left, for every tree
pub record InBlock (records values decls room₀ : List ℕ) (i count depth : ℕ) (room : List ℕ) (k at : ℕ) : Type 0 where
  pub kept : Kept records count (level_base depth) room₀ room
  pub left : (text : List ℕ) (v : ActionView text records values decls room₀ i count depth) → IsBlock v.action → BlockAhead v k at

pub record InCounted (records values decls room₀ : List ℕ) (i count depth bits : ℕ) (room : List ℕ) (k number at : ℕ) : Type 0 where
  pub kept : Kept records count (level_base (depth + 1)) room₀ room
  pub left : (text : List ℕ) (v : ChoicesView text records values decls room₀ i count depth bits) (p : IsCounted v.alternatives) → CountedAhead v p k number at

pub record InSelected (records values decls room₀ : List ℕ) (i count depth bits : ℕ) (room : List ℕ) (k number at : ℕ) : Type 0 where
  pub kept : Kept records count (level_base (depth + 1)) room₀ room
  pub left : (text : List ℕ) (v : ChoicesView text records values decls room₀ i count depth bits) (p : IsSelected v.alternatives) → SelectedAhead v p room k number at

-- `action`: what stands in front is passed, and the names are stacked
module _ {text records values decls room₀ room : List ℕ} {i count depth : ℕ} {front : Prefixed}
    (p : Kept records count label_cells room₀ room × ((t : List ℕ) (v : ActionView t records values decls room₀ i count depth) → PrefixAnswer v room front)) where
  pub front_room : ActionView text records values decls room₀ i count depth → 8 * front.at + 8 ≤ length records
  front_room v = bare.bare_room p.0 (p.1 text v)

  pub action_keeps : {room' : List ℕ} → Kept records front.count (level_base depth) room room' → ActionView text records values decls room₀ i count depth
      → Kept records count (level_base depth) room₀ room'
  action_keeps k v = bare.whole_keeps p.0 (p.1 text v) k

  module _ {c : ℕ} (is_kind : c ≡ kind_byte records front.at) where
    abbrev pub block_asked : c ≡ kind_no BEGIN → ActionView text records values decls room₀ i count depth
        → (t : List ℕ) × (w : ActionView t records values decls room front.at front.count depth) × IsBlock w.action
    block_asked e v = (text, bare.bare_view p.0 (p.1 text v), bare.block_behind p.0 (p.1 text v) is_kind e)

    abbrev pub decode_asked : c ≡ kind_no DECODE → ActionView text records values decls room₀ i count depth
        → (t : List ℕ) × (w : ActionView t records values decls room front.at front.count depth) × IsDecode w.action
    decode_asked e v = (text, bare.bare_view p.0 (p.1 text v), bare.decode_behind p.0 (p.1 text v) is_kind e)

    abbrev pub simple_asked : (c ≡ kind_no BEGIN → ⊥) → (c ≡ kind_no DECODE → ⊥) → ActionView text records values decls room₀ i count depth
        → (t : List ℕ) × (w : ActionView t records values decls room front.at front.count depth) × Simple w.action
    simple_asked x y v = (text, bare.bare_view p.0 (p.1 text v), bare.simple_behind p.0 (p.1 text v) is_kind x y)

    module _ {r : Walked} {k : ℕ} (is_key : k ≡ min front.key r.key) (v : ActionView text records values decls room₀ i count depth) where
      pub block_answers : c ≡ kind_no BEGIN
          → ((t : List ℕ) (w : ActionView t records values decls room front.at front.count depth) → IsBlock w.action → ActionAnswer w r)
          → ActionAnswer v (record { key = k; next = r.next })
      block_answers e f = bare.whole_answer p.0 (p.1 text v) (f text (block_asked e v).1 (block_asked e v).2) is_key

      pub decode_answers : c ≡ kind_no DECODE
          → ((t : List ℕ) (w : ActionView t records values decls room front.at front.count depth) → IsDecode w.action → ActionAnswer w r)
          → ActionAnswer v (record { key = k; next = r.next })
      decode_answers e f = bare.whole_answer p.0 (p.1 text v) (f text (decode_asked e v).1 (decode_asked e v).2) is_key

      pub simple_answers : (c ≡ kind_no BEGIN → ⊥) → (c ≡ kind_no DECODE → ⊥)
          → ((t : List ℕ) (w : ActionView t records values decls room front.at front.count depth) → Simple w.action → ActionAnswer w r)
          → ActionAnswer v (record { key = k; next = r.next })
      simple_answers x y f = bare.whole_answer p.0 (p.1 text v) (f text (simple_asked x y v).1 (simple_asked x y v).2) is_key

-- `block`
abbrev BlockAsked : (records values decls room : List ℕ) (i count depth : ℕ) → Type 0
BlockAsked records values decls room i count depth = (text : List ℕ) × (v : ActionView text records values decls room i count depth) × IsBlock v.action

pub block_inside : {records values decls room : List ℕ} {i count depth : ℕ} → BlockAsked records values decls room i count depth → i + 1 < 8192
block_inside a = action_inside a.1

pub block_begun : {records values decls room : List ℕ} {i count depth : ℕ} → InBlock records values decls room i count depth room no_key (i + 1)
block_begun = record { kept = kept_all _ _ _; left = λ text v b. members.block_starts v b }

module _ {records values decls room₀ room : List ℕ} {i count depth k at : ℕ} (h : InBlock records values decls room₀ i count depth room k at) where
  pub block_deep : BlockAsked records values decls room₀ i count depth → 0 < depth
  block_deep a = members.block_deep (h.left a.0 a.1 a.2) h.kept

  pub member_asked : BlockAsked records values decls room₀ i count depth → (t : List ℕ) × ActionView t records values decls room at count (depth - 1)
  member_asked a = (a.0, members.member_view (h.left a.0 a.1 a.2) h.kept)

  module _ {room' : List ℕ} {r : Walked}
      (q : Kept records count (level_base (depth - 1)) room room' × ((t : List ℕ) (w : ActionView t records values decls room at count (depth - 1)) → ActionAnswer w r)) where
    pub member_next : BlockAsked records values decls room₀ i count depth → (r.next < 8192) × (at < r.next) × (8 * r.next + 8 ≤ length records)
    member_next a =
        let b = h.left a.0 a.1 a.2 in
        let w = q.1 _ (members.member_view b h.kept) in
        (members.next_inside b h.kept w, w.past, members.next_room b h.kept w)

    pub block_keeps : Kept records count (level_base depth) room₀ room'
    block_keeps = kept_then h.kept (kept_less q.0 (omega arith) (omega arith))

    module _ {c k' : ℕ} (is_kind : c ≡ kind_byte records r.next) (is_key : k' ≡ min k r.key) where
      pub block_ends : c ≡ kind_no END → (text : List ℕ) (v : ActionView text records values decls room₀ i count depth) → IsBlock v.action
          → ActionAnswer v (record { key = k'; next = r.next + 1 })
      block_ends e text v b = members.block_ends (h.left text v b) h.kept (q.1 _ (members.member_view (h.left text v b) h.kept)) is_kind is_key e

      pub block_again : (c ≡ kind_no END → ⊥) → InBlock records values decls room₀ i count depth room' k' (r.next + 1)
      block_again n = record {
        kept = block_keeps;
        left = λ text v b. members.block_goes_on (h.left text v b) h.kept (q.1 _ (members.member_view (h.left text v b) h.kept)) is_kind is_key n;
      }

-- `decode`
abbrev DecodeAsked : (records values decls room : List ℕ) (i count depth : ℕ) → Type 0
DecodeAsked records values decls room i count depth = (text : List ℕ) × (v : ActionView text records values decls room i count depth) × IsDecode v.action

module _ {records values decls room : List ℕ} {i count depth : ℕ} where
  pub decode_inside : DecodeAsked records values decls room i count depth → i + 1 < 8192
  decode_inside a = action_inside a.1

  pub decode_deep : DecodeAsked records values decls room i count depth → 0 < depth
  decode_deep a = decoded.decode_deep a.1 a.2

  pub test_asked : DecodeAsked records values decls room i count depth → ExpressionAt records values decls (i + 1) depth
  test_asked a = decoded.test_view a.1 a.2

  module _ {value : Value} (f : (w : ExpressionAt records values decls (i + 1) depth) → ExpressionAnswer w value) where
    pub choices_inside : DecodeAsked records values decls room i count depth → value.next + 2 < 8192
    choices_inside a = decoded.choices_inside a.1 a.2 (f (decoded.test_view a.1 a.2))

    pub choices_room : DecodeAsked records values decls room i count depth → 8 * (value.next + 2) + 8 ≤ length records
    choices_room a = decoded.choices_room a.1 a.2 (f (decoded.test_view a.1 a.2))

    module _ {c : ℕ} {t : Bool} (is_kind : c ≡ kind_byte records (value.next + 2)) (is_test : t ≡ is_selector c) where
      abbrev pub selected_asked : t ≡ true → DecodeAsked records values decls room i count depth
          → (t : List ℕ) × (w : ChoicesView t records values decls room (value.next + 2) count (depth - 1) value.bits) × IsSelected w.alternatives
      selected_asked e a =
          let y = f (decoded.test_view a.1 a.2) in
          (a.0, decoded.choices_view a.1 a.2 y, decoded.with_selectors a.1 a.2 y is_kind is_test e)

      abbrev pub counted_asked : t ≡ false → DecodeAsked records values decls room i count depth
          → (t : List ℕ) × (w : ChoicesView t records values decls room (value.next + 2) count (depth - 1) value.bits) × IsCounted w.alternatives
      counted_asked e a =
          let y = f (decoded.test_view a.1 a.2) in
          (a.0, decoded.choices_view a.1 a.2 y, decoded.without_selectors a.1 a.2 y is_kind is_test e)

      module _ {r : Walked} {k : ℕ} (is_key : k ≡ min value.key r.key) {text : List ℕ} (v : ActionView text records values decls room i count depth)
          (d : IsDecode v.action) where
        pub selected_answers : t ≡ true
            → ((t : List ℕ) (w : ChoicesView t records values decls room (value.next + 2) count (depth - 1) value.bits) → IsSelected w.alternatives → ChoicesAnswer w r)
            → ActionAnswer v (record { key = k; next = r.next })
        selected_answers e g = decoded.decode_answer v d (f (decoded.test_view v d)) (g text (selected_asked e (text, v, d)).1 (selected_asked e (text, v, d)).2) is_key

        pub counted_answers : t ≡ false
            → ((t : List ℕ) (w : ChoicesView t records values decls room (value.next + 2) count (depth - 1) value.bits) → IsCounted w.alternatives → ChoicesAnswer w r)
            → ActionAnswer v (record { key = k; next = r.next })
        counted_answers e g = decoded.decode_answer v d (f (decoded.test_view v d)) (g text (counted_asked e (text, v, d)).1 (counted_asked e (text, v, d)).2) is_key

pub decode_keeps : {records values decls room room' : List ℕ} {i count depth : ℕ} → DecodeAsked records values decls room i count depth
    → Kept records count (level_base (depth - 1 + 1)) room room' → Kept records count (level_base depth) room room'
decode_keeps a k = let d = decode_deep a in kept_less k (omega arith) (omega arith)

-- `counted`
abbrev CountedAsked : (records values decls room : List ℕ) (i count depth bits : ℕ) → Type 0
CountedAsked records values decls room i count depth bits = (text : List ℕ) × (v : ChoicesView text records values decls room i count depth bits) × IsCounted v.alternatives

pub counted_begun : {records values decls room : List ℕ} {i count depth bits : ℕ} → InCounted records values decls room i count depth bits room no_key 0 i
counted_begun = record { kept = kept_all _ _ _; left = λ text v p. counting.counted_starts v p }

module _ {records values decls room₀ room : List ℕ} {i count depth bits k number at : ℕ}
    (h : InCounted records values decls room₀ i count depth bits room k number at) where
  pub counted_here : CountedAsked records values decls room₀ i count depth bits → (8 * at + 8 ≤ length records) × (place_cell records at ≤ 32768) × (bits ≤ 64)
  counted_here a = let c = h.left a.0 a.1 a.2 in (counting.counted_room c, counting.counted_place c, a.1.few)

  pub counted_number : CountedAsked records values decls room₀ i count depth bits → number < 8192
  counted_number a = let c = h.left a.0 a.1 a.2 in omega (arith, c.low, counting.counted_inside c)

  pub counted_action : CountedAsked records values decls room₀ i count depth bits → (t : List ℕ) × ActionView t records values decls room at count depth
  counted_action a = (a.0, counting.counted_action (h.left a.0 a.1 a.2) h.kept)

  module _ {room' : List ℕ} {r : Walked} {f : ℕ} (is_fault : f ≡ least_key (when (leb 64 number || past bits (between number number ∷ [])) 45 (place_cell records at)))
      (q : Kept records count (level_base depth) room room' × ((t : List ℕ) (w : ActionView t records values decls room at count depth) → ActionAnswer w r)) where
    pub counted_next : CountedAsked records values decls room₀ i count depth bits → (r.next < 8192) × (at < r.next) × (8 * r.next + 8 ≤ length records)
    counted_next a =
        let c = h.left a.0 a.1 a.2 in
        let w = q.1 _ (counting.counted_action c h.kept) in
        (counting.counted_next_inside c h.kept w is_fault, w.past, counting.counted_next_room c h.kept w is_fault)

    pub counted_keeps : Kept records count (level_base (depth + 1)) room₀ room'
    counted_keeps = kept_then h.kept (kept_less q.0 (omega arith) (omega arith))

    module _ {c k' : ℕ} (is_kind : c ≡ kind_byte records r.next) (is_key : k' ≡ min k (min f r.key)) where
      pub counted_ends : c ≡ kind_no END → (text : List ℕ) (v : ChoicesView text records values decls room₀ i count depth bits) → IsCounted v.alternatives
          → ChoicesAnswer v (record { key = k'; next = r.next + 1 })
      counted_ends e text v p = let w = h.left text v p in counting.counted_ends w h.kept (q.1 _ (counting.counted_action w h.kept)) is_fault is_kind is_key e

      pub counted_again : (c ≡ kind_no END → ⊥) → InCounted records values decls room₀ i count depth bits room' k' (number + 1) (r.next + 1)
      counted_again n = record {
        kept = counted_keeps;
        left = λ text v p. let w = h.left text v p in counting.counted_goes_on w h.kept (q.1 _ (counting.counted_action w h.kept)) is_fault is_kind is_key n;
      }

-- `selected`
abbrev SelectedAsked : (records values decls room : List ℕ) (i count depth bits : ℕ) → Type 0
SelectedAsked records values decls room i count depth bits = (text : List ℕ) × (v : ChoicesView text records values decls room i count depth bits) × IsSelected v.alternatives

pub selected_begun : {records values decls room : List ℕ} {i count depth bits : ℕ} → InSelected records values decls room i count depth bits room no_key 0 i
selected_begun = record { kept = kept_all _ _ _; left = λ text v p. selecting.selected_starts v p }

module _ {records values decls room₀ room : List ℕ} {i count depth bits k number at : ℕ}
    (h : InSelected records values decls room₀ i count depth bits room k number at) where
  pub selected_large : SelectedAsked records values decls room₀ i count depth bits → (2 * level_base (depth + 1) ≤ length room) × (at < 65536)
  selected_large a =
      let c = h.left a.0 a.1 a.2 in (selecting.selected_large c h.kept, let l = selecting.selected_inside c h.kept in omega arith)

  pub selected_here : SelectedAsked records values decls room₀ i count depth bits
      → (8 * at + 8 ≤ length records) × (place_cell records at ≤ 32768) × (bits ≤ 64) × AlternativeView records values at
  selected_here a =
      let c = h.left a.0 a.1 a.2 in
      (selecting.selected_room c h.kept, selecting.selected_place c h.kept, a.1.few, selecting.alternative_view c h.kept)

  pub selected_number : SelectedAsked records values decls room₀ i count depth bits → number < 8192
  selected_number a = let c = h.left a.0 a.1 a.2 in omega (arith, c.low, selecting.selected_inside c h.kept)

  pub selector_asked : SelectedAsked records values decls room₀ i count depth bits → BehindView records at
  selector_asked a = selecting.behind_view (h.left a.0 a.1 a.2) h.kept

  module _ {room₁ : List ℕ} {body : ℕ} (is_room : room₁ ≡ with_start room depth number at) (b : (w : BehindView records at) → BehindAnswer w body) where
    pub selected_action : SelectedAsked records values decls room₀ i count depth bits → (t : List ℕ) × ActionView t records values decls room₁ body count depth
    selected_action a = let c = h.left a.0 a.1 a.2 in (a.0, selecting.selected_action c h.kept is_room (b (selecting.behind_view c h.kept)))

    module _ {room₂ : List ℕ} {r : Walked}
        (q : Kept records count (level_base depth) room₁ room₂ × ((t : List ℕ) (w : ActionView t records values decls room₁ body count depth) → ActionAnswer w r)) where
      -- the answers for one tree
      module _ {text : List ℕ} (v : ChoicesView text records values decls room₀ i count depth bits) (p : IsSelected v.alternatives) where
        abbrev behind : BehindAnswer (selecting.behind_view (h.left text v p) h.kept) body
        behind = b (selecting.behind_view (h.left text v p) h.kept)

        abbrev inside : ActionAnswer (selecting.selected_action (h.left text v p) h.kept is_room behind) r
        inside = q.1 _ (selecting.selected_action (h.left text v p) h.kept is_room behind)

      pub selected_next : SelectedAsked records values decls room₀ i count depth bits → (r.next < 8192) × (at < r.next) × (8 * r.next + 8 ≤ length records)
      selected_next a =
          let c = h.left a.0 a.1 a.2 in
          let y = behind a.1 a.2 in
          let w = inside a.1 a.2 in
          let n = selecting.selected_next_inside c h.kept is_room y q.0 w in
          (n.0, n.1, selecting.selected_next_room c h.kept is_room y q.0 w)

      pub selected_keeps : SelectedAsked records values decls room₀ i count depth bits → Kept records count (level_base (depth + 1)) room₀ room₂
      selected_keeps a = selecting.selected_keeps (h.left a.0 a.1 a.2) h.kept is_room (behind a.1 a.2) q.0 (inside a.1 a.2)

      pub overlap_asked : SelectedAsked records values decls room₀ i count depth bits → StartsView records values room₂ depth (number + 1)
      overlap_asked a = selecting.overlap_view (h.left a.0 a.1 a.2) h.kept is_room (behind a.1 a.2) q.0 (inside a.1 a.2)

      module _ {f c k' : ℕ} (is_fault : (w : AlternativeView records values at) → f ≡ least_key (when (leb 64 number || past bits w.items) 45 (place_cell records at)))
          (is_kind : c ≡ kind_byte records r.next) (is_key : k' ≡ min k (min f r.key)) where
        pub selected_ends : c ≡ kind_no END → {o k'' : ℕ} → ((w : StartsView records values room₂ depth (number + 1)) → OverlapAnswer w o) → k'' ≡ min k' o
            → (text : List ℕ) (v : ChoicesView text records values decls room₀ i count depth bits) → IsSelected v.alternatives
            → ChoicesAnswer v (record { key = k''; next = r.next + 1 })
        selected_ends e o is_last text v p =
            let w = h.left text v p in
            selecting.selected_ends w h.kept is_room (behind v p) q.0 (inside v p) (is_fault (selecting.alternative_view w h.kept)) is_kind is_key e
            (o (selecting.overlap_view w h.kept is_room (behind v p) q.0 (inside v p))) is_last

        pub selected_again : (c ≡ kind_no END → ⊥) → SelectedAsked records values decls room₀ i count depth bits
            → InSelected records values decls room₀ i count depth bits room₂ k' (number + 1) (r.next + 1)
        selected_again n a = record {
          kept = selected_keeps a;
          left = λ text v p.
              let w = h.left text v p in
              selecting.selected_goes_on w h.kept is_room (behind v p) q.0 (inside v p) (is_fault (selecting.alternative_view w h.kept)) is_kind is_key n;
        }
