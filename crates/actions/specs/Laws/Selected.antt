-- Alternatives with selectors as a loop: what is left of them, and what those passed have come to.
-- Assumes nothing.
use Prim.Native.Nat.{ℕ, suc, ◌+◌, ◌*◌, ◌<◌, ◌≤◌, min}
use Rattle.std.specs.Prelude.{◌≡◌, refl, ◌||◌, List, [], ◌∷◌, ◌++◌, leb, length, drop}
use Rattle.std.proofs.Common.{sym, ◌∙◌, subst, arith, length-drop}
use Rattle.std.proofs.Math.Path.{ap, ap₂}
use Rattle.cells.specs.Cells.{cell}
use Rattle.rules.specs.Text.Tokens.{Token, kind_no, END}
use Rattle.rules.specs.Limits.{longest_text}
use Rattle.rules.specs.Grammar.Trees.{Tokens, action_tokens, selected, Selected, selected_tokens}
use Rattle.rules.specs.Faults.Fault.{Fault, fault, when}
use Rattle.rules.specs.Faults.Bodies.{past, alternatives_faults, action_faults, inside_faults}
use Rattle.laws_grammar.specs.Cited.Nesting.{selected_nest}
use Rattle.records.specs.Holds.{kind_byte, place_cell, token_at}
use Rattle.keys.specs.Keys.{key, no_key, least_key}
use Rattle.keys.specs.Laws.Keys.{least_append, least_bounded}
use Rattle.table.specs.Laws.Positions.{here, kind_here, record_within}
use Rattle.stacks.specs.Stacks.{stacked_words, Kept}
use Rattle.stacks.specs.Laws.Kept.{kept_words, kept_stacked, kept_then, kept_less}
use Rattle.patterns.specs.Stands.{ItemsAt, AlternativeView}
use Rattle.selectors.specs.Overlaps.{earlier_items}
use Rattle.selectors.specs.Laws.Alternatives.{items_within}
use Rattle.plain.specs.declared.Walked.{Walked}
use Rattle.plain.specs.Stage.{outer_of, table_of}
use Rattle.plain.specs.Laws.Stage.{held_of}
use Rattle.plain.specs.Actions.{ActionView, ActionAnswer}
use Rattle.room.specs.Bodies.{level_base}
use Rattle.choices.specs.Choices.{start_cell, with_start, compared, StartsView, OverlapAnswer, BehindView, BehindAnswer}
use Rattle.actions.specs.Alternatives.{IsSelected, ChoicesView, choices_faults, ChoicesAnswer}
use Rattle.plain.specs.Laws.Known.{token_room, token_place, place_small}
use Rattle.actions.specs.Laws.Ranges.{range_faults, least_in, next_of_both, last_of_both}
use Rattle.actions.specs.Laws.Compared.{alone, judged_at, all_faults}
use Rattle.actions.specs.Laws.Choices.{Choice, choices_of, choice_at, items_in, place_in, inside_at, choice_now, choice_next, selected_range, inside_range}
use Rattle.actions.specs.Laws.Fronts.{Tail, no_tail, a_tail, tail_ends, Front, front}
use Rattle.actions.specs.Laws.Beginnings.{start_of, Starts, no_starts, starts_kept, start_more, start_kept}

min_swap : (a b c : ℕ) → min (min a b) c ≡ min (min a c) b
min_swap a b c = omega arith

module _ {text records values decls room₀ : List ℕ} {i count depth bits : ℕ} (v : ChoicesView text records values decls room₀ i count depth bits) (p : IsSelected v.alternatives) where
  abbrev all : List Choice
  all = choices_of p.0

  abbrev own : ℕ → List Fault
  own = alone (items_in all) (place_in all) bits

  abbrev inside : ℕ → List Fault
  inside = inside_at all (outer_of v.stage) (table_of v.stage) (stacked_words v.stage.tokens room₀ count)

  abbrev judged : ℕ → List Fault
  judged = judged_at (items_in all) (place_in all) bits

  whole : least_key (choices_faults v) ≡ min (least_in judged 0 (length all)) (least_in inside 0 (length all))
  unfolding alternatives_faults inside_faults earlier_items
  whole =
      let outer = outer_of v.stage in
      let ds = table_of v.stage in
      let ws = stacked_words v.stage.tokens room₀ count in
      ap (λ x. least_key (alternatives_faults bits x ++ inside_faults outer ds ws x)) p.1
      ∙ least_append key (alternatives_faults bits (selected p.0)) (inside_faults outer ds ws (selected p.0))
      ∙ ap₂ min (ap least_key (selected_range all bits 0 p.0 refl)) (ap least_key (inside_range all outer ds ws 0 p.0 refl))

  -- what those by themselves and inside come to
  abbrev total : ℕ
  total = min (least_in own 0 (length all)) (least_in inside 0 (length all))

  pub record SelectedAhead (room : List ℕ) (k number at : ℕ) : Type 0 where
    pub left : Selected
    pub reads : drop at v.stage.tokens ≡ selected_tokens left (v.next ∷ v.rest)
    pub listed : drop number all ≡ choices_of left
    pub shallow : selected_nest left ≤ depth
    pub past : i ≤ at
    pub low : number ≤ at
    pub starts : Starts v.stage.tokens depth all room number at
    pub same_key : min k (min (least_in own number (length (choices_of left))) (least_in inside number (length (choices_of left)))) ≡ total

  pub selected_starts : SelectedAhead room₀ no_key 0 i
  selected_starts = let q = p.1 in record {
    left = p.0;
    reads = rw q at v.reads;
    listed = refl;
    shallow = rw q at v.shallow;
    past = omega arith;
    low = omega arith;
    starts = no_starts v.stage.tokens depth all room₀ i;
    same_key = omega (arith, least_bounded key (range_faults own 0 (length all)), least_bounded key (range_faults inside 0 (length all)));
  }

module _ {text records values decls room₀ room : List ℕ} {i count depth bits k number at : ℕ} {v : ChoicesView text records values decls room₀ i count depth bits}
    {p : IsSelected v.alternatives} (h : SelectedAhead v p room k number at) (kept : Kept records count (level_base (depth + 1)) room₀ room) where
  abbrev ahead : Front h.left (v.next ∷ v.rest)
  ahead = front h.left (v.next ∷ v.rest)

  pub items_now : ItemsAt v.stage.tokens at ahead.first.items
  items_now = ahead.items v.stage.tokens at h.reads

  at_within : at < length v.stage.tokens
  at_within = items_within (held_of v.stage) items_now

  pub selected_inside : at < 8192
  selected_inside = omega (arith, at_within, v.stage.ready.holds.few)

  pub selected_room : 8 * at + 8 ≤ length records
  selected_room = token_room v.stage at_within

  pub selected_place : place_cell records at ≤ longest_text
  selected_place = omega (arith, token_place v.stage at_within, place_small v.stage at_within)

  pub selected_large : 2 * level_base (depth + 1) ≤ length room
  selected_large = let l = v.large in let b = v.bounded in omega (arith, kept.long)

  place_now : (token_at v.stage.tokens at).info.place ≡ ahead.first.place
  place_now = ap (λ (t : Token). t.info.place) (here v.stage.tokens at _ _ (h.reads ∙ ahead.begins.is)).token ∙ ahead.begins.place

  -- the alternative in the list
  listed_now : drop number (all v p) ≡ ahead.first ∷ ahead.more
  listed_now = h.listed ∙ ahead.choices

  abbrev now : choice_at (all v p) number ≡ ahead.first
  now = choice_now (all v p) number ahead.first ahead.more listed_now

  abbrev pub alternative_view : AlternativeView records values at
  alternative_view = record { tokens = v.stage.tokens; held = held_of v.stage; items = ahead.first.items; stand = items_now }

  abbrev pub behind_view : BehindView records at
  behind_view = record {
    text = text;
    values = values;
    tokens = v.stage.tokens;
    holds = v.stage.ready.holds;
    front = ahead.selector;
    becomes = ahead.becomes;
    rest = action_tokens ahead.first.action (ahead.next ∷ ahead.tokens);
    reads = h.reads ∙ ahead.reads;
    none = ahead.none;
  }

  -- with its beginning kept, and its action found
  module _ {room₁ : List ℕ} (is_room : room₁ ≡ with_start room depth number at) {body : ℕ} (b : BehindAnswer behind_view body) where
    pub start_keeps : Kept records count (level_base (depth + 1)) room₀ room₁
    start_keeps =
        let l = v.low in let q = h.past in let m = selected_inside in
        kept_then kept (rw is_room (start_kept room depth number at (omega arith) v.bounded))

    abbrev pub selected_action : ActionView text records values decls room₁ body count depth
    selected_action = record {
      stage = v.stage;
      action = ahead.first.action;
      next = ahead.next;
      rest = ahead.tokens;
      reads = b.behind;
      ends = tail_ends ahead.tail;
      shallow = let n = h.shallow in let m = ahead.shallow in omega arith;
      bounded = let n = v.bounded in omega arith;
      stacked = kept_stacked start_keeps v.stage.tokens v.stacked;
      low = let l = v.low in let q = h.past in let m = b.past in omega arith;
      large = let l = v.large in omega (arith, start_keeps.long);
    }

    module _ {room₂ : List ℕ} {r : Walked} (kept₂ : Kept records count (level_base depth) room₁ room₂) (a : ActionAnswer selected_action r) where
      pub selected_keeps : Kept records count (level_base (depth + 1)) room₀ room₂
      selected_keeps = kept_then start_keeps (kept_less kept₂ (omega arith) (omega arith))

      selected_next : r.next < length v.stage.tokens
      selected_next = (here v.stage.tokens r.next _ _ a.behind).within

      pub selected_next_inside : (r.next < 8192) × (at < r.next)
      selected_next_inside = (omega (arith, selected_next, v.stage.ready.holds.few), let l = a.past in let m = b.past in omega arith)

      pub selected_next_room : 8 * r.next + 8 ≤ length records
      selected_next_room = record_within v.stage.ready.holds r.next selected_next

      pub starts_now : Starts v.stage.tokens depth (all v p) room₂ (number + 1) (r.next + 1)
      starts_now =
          let inside_text = selected_inside in
          let less : at < r.next + 1 = let m = selected_next_inside.1 in omega arith in
          starts_kept v.stage.tokens depth (all v p) {room = with_start room depth number at}
          (λ j l. kept₂.above (start_cell depth j) (omega arith) (let n = v.bounded in omega arith) ∙ ap (λ x. cell 2 x (start_cell depth j)) is_room) (omega arith)
          (start_more v.stage.tokens depth (all v p) h.starts selected_large (omega arith) less
          (subst (λ (c : Choice). ItemsAt v.stage.tokens at c.items) (sym now) items_now) (place_now ∙ sym (ap (λ (c : Choice). c.place) now))
          (omega (arith, place_small v.stage at_within, place_now, ap (λ (c : Choice). c.place) now)))

      -- the comparison, once all have been passed
      abbrev pub overlap_view : StartsView records values room₂ depth (number + 1)
      overlap_view = record {
        tokens = v.stage.tokens;
        held = held_of v.stage;
        large = let l = v.large in let b = v.bounded in omega (arith, selected_keeps.long);
        items = items_in (all v p);
        stand = λ j l. (starts_now.each j l).items;
      }

      start_within : (j : ℕ) → j < compared (number + 1) → start_of v.stage.tokens depth (all v p) room₂ j < length v.stage.tokens
      start_within j l = omega (arith, (starts_now.each j l).before, selected_next)

      places_rise : (j m : ℕ) → j < m → m < compared (number + 1) → place_in (all v p) j < place_in (all v p) m
      places_rise j m l n =
          omega (
            arith,
            (starts_now.each j (omega arith)).place,
            (starts_now.each m n).place,
            v.stage.ready.holds.increasing _ _ (starts_now.rising j m l n) (start_within m n),
          )

      by_overlap : {o : ℕ} → OverlapAnswer overlap_view o → min (least_in (own v p) 0 (number + 1)) o ≡ least_in (judged v p) 0 (number + 1)
      by_overlap x =
          all_faults (items_in (all v p)) (place_in (all v p)) bits (number + 1) starts_now.small places_rise x.first x.none
          (λ l. x.found l ∙ ap (λ q. key (fault 45 q)) (token_place v.stage (start_within x.later l) ∙ (starts_now.each x.later l).place))

      module _ {f : ℕ} (is_fault : f ≡ least_key (when (leb 64 number || past bits ahead.first.items) 45 (place_cell records at))) where
        fault_now : f ≡ least_key (own v p number)
        fault_now =
            is_fault ∙ ap (λ x. least_key (when (leb 64 number || past bits ahead.first.items) 45 x)) (token_place v.stage at_within ∙ place_now)
            ∙ sym (ap (λ (c : Choice). least_key (when (leb 64 number || past bits c.items) 45 c.place)) now)

        key_now : r.key ≡ least_key (inside v p number)
        key_now =
            a.key ∙ ap (λ ws. least_key (action_faults (outer_of v.stage) (table_of v.stage) ws ahead.first.action)) (kept_words start_keeps v.stage.tokens)
            ∙ sym (ap (λ (c : Choice). least_key (action_faults (outer_of v.stage) (table_of v.stage) (stacked_words v.stage.tokens room₀ count) c.action)) now)

        module _ {c k' : ℕ} (is_kind : c ≡ kind_byte records r.next) (is_key : k' ≡ min k (min f r.key)) where
          kind_there : {t : Token} {ts : Tokens} → drop r.next v.stage.tokens ≡ t ∷ ts → c ≡ kind_no t.kind
          kind_there {t} {ts} e = let n = here v.stage.tokens r.next t ts e in is_kind ∙ kind_here v.stage.ready.holds r.next t n.within n.token

          -- the number of alternatives left
          left_length : (cs : List Choice) → ahead.more ≡ cs → length (choices_of h.left) ≡ suc (length cs)
          left_length cs e = ap length ahead.choices ∙ ap (λ l. suc (length l)) e

          pub selected_goes_on : (c ≡ kind_no END → ⊥) → SelectedAhead v p room₂ k' (number + 1) (r.next + 1)
          selected_goes_on n = go ahead.tail
            where
              go : Tail (v.next ∷ v.rest) (selected_nest h.left) ahead.next ahead.tokens ahead.more → SelectedAhead v p room₂ k' (number + 1) (r.next + 1)
              go (no_tail e q _ _) = absurd (n (kind_there a.behind ∙ ap (λ (t : Token). kind_no t.kind) q))
              go (a_tail x s q d m l) = record {
                left = s;
                reads = (here v.stage.tokens r.next _ _ a.behind).behind ∙ d;
                listed = choice_next (all v p) number ahead.first ahead.more listed_now ∙ m;
                shallow = let w = h.shallow in omega arith;
                past = let w = h.past in let u = selected_next_inside.1 in omega arith;
                low = let w = h.low in let u = selected_next_inside.1 in omega arith;
                starts = starts_now;
                same_key =
                    ap (λ z. min z (min (least_in (own v p) (number + 1) (length (choices_of s))) (least_in (inside v p) (number + 1) (length (choices_of s))))) is_key
                    ∙ next_of_both (own v p) (inside v p) k number f r.key fault_now key_now (length (choices_of s))
                    ∙ ap (λ z. min k (min (least_in (own v p) number z) (least_in (inside v p) number z))) (sym (left_length (choices_of s) m))
                    ∙ h.same_key;
              }

          -- all that were compared
          number_of_all : ahead.more ≡ [] → length (all v p) ≡ number + 1
          number_of_all e = omega (arith, length-drop number (all v p), ap length (listed_now ∙ ap (λ cs. ahead.first ∷ cs) e))

          pub selected_ends : c ≡ kind_no END → {o k'' : ℕ} → OverlapAnswer overlap_view o → k'' ≡ min k' o → ChoicesAnswer v (record { key = k''; next = r.next + 1 })
          selected_ends e {o} {k''} x w = go ahead.tail
            where
              key_total : ahead.more ≡ [] → k' ≡ total v p
              key_total m =
                  is_key ∙ last_of_both (own v p) (inside v p) k number f r.key fault_now key_now
                  ∙ ap (λ z. min k (min (least_in (own v p) number z) (least_in (inside v p) number z))) (sym (left_length [] m)) ∙ h.same_key

              go : Tail (v.next ∷ v.rest) (selected_nest h.left) ahead.next ahead.tokens ahead.more → ChoicesAnswer v (record { key = k''; next = r.next + 1 })
              go (no_tail _ _ d m) = record {
                key =
                    w ∙ ap (λ z. min z o) (key_total m) ∙ min_swap (least_in (own v p) 0 (length (all v p))) (least_in (inside v p) 0 (length (all v p))) o
                    ∙ ap (λ z. min z (least_in (inside v p) 0 (length (all v p))))
                    (ap (λ n. min (least_in (own v p) 0 n) o) (number_of_all m) ∙ by_overlap x ∙ ap (λ n. least_in (judged v p) 0 n) (sym (number_of_all m)))
                    ∙ sym (whole v p);
                past = let q = h.past in let u = selected_next_inside.1 in omega arith;
                behind = (here v.stage.tokens r.next _ _ a.behind).behind ∙ d;
              }
              go (a_tail _ _ q _ _ _) = absurd (omega (arith, kind_there a.behind, ap (λ (t : Token). kind_no t.kind) q))
