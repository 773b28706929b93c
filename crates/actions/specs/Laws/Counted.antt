-- Alternatives without selectors as a loop: what is left of them, and what those passed have come to.
-- Assumes nothing.
use Prim.Native.Nat.{ℕ, ◌+◌, ◌*◌, ◌<◌, ◌≤◌, min, max}
use Rattle.std.specs.Prelude.{◌≡◌, ◌||◌, leb, length, drop}
use Rattle.std.proofs.Math.Path.{refl, sym, ap}
use Rattle.std.proofs.Common.{◌∙◌}
use Rattle.std.proofs.Math.Bool.{or-false}
use mathlib.Core.List.{List, [], ◌∷◌, ◌++◌}
use native.Mathlib.Omega.{arith}
use Rattle.rules.specs.Text.Tokens.{Comma, END, Token, tk, kind_no}
use Rattle.rules.specs.Limits.{longest_text}
use Rattle.rules.specs.Grammar.Trees.{Tokens, Action, block, labelled, if_then, decode, repeat, leave, restart, activate, stop, no_op, transfer, action_tokens}
use Rattle.rules.specs.Grammar.Trees.{counted, Counted, counted_end, counted_more, counted_tokens}
use Rattle.rules.specs.Selectors.{between}
use Rattle.rules.specs.Faults.Fault.{Fault, when}
use Rattle.rules.specs.Faults.Bodies.{first_place, past, some_meet_of, meets_any, alternatives_faults, action_faults, inside_faults}
use Rattle.laws_grammar.specs.Grammar.Heads.{head_info, action_head}
use Rattle.laws_grammar.specs.Cited.Nesting.{action_nest, counted_nest}
use Rattle.records.specs.Holds.{kind_byte, place_cell}
use Rattle.keys.specs.Keys.{key, no_key, least_key}
use Rattle.keys.specs.Laws.Keys.{least_append, least_bounded}
use Rattle.table.specs.Laws.Positions.{here, kind_here, record_within}
use Rattle.stacks.specs.Stacks.{stacked_words, Kept}
use Rattle.stacks.specs.Laws.Kept.{kept_words, kept_stacked}
use Rattle.plain.specs.declared.Walked.{Walked}
use Rattle.plain.specs.Stage.{outer_of, table_of}
use Rattle.plain.specs.Actions.{EndsAction, by_end, by_comma, ActionView, ActionAnswer}
use Rattle.room.specs.Bodies.{level_base}
use Rattle.actions.specs.Alternatives.{IsCounted, ChoicesView, choices_faults, ChoicesAnswer}
use Rattle.plain.specs.Laws.Known.{token_room, token_place, place_small}
use Rattle.actions.specs.Laws.Ranges.{range_faults, least_in, next_of_both, last_of_both}
use Rattle.actions.specs.Laws.Choices.{Choice, choice, counted_choices, place_in, inside_at, numbered_at, choice_now, choice_next, counted_range, inside_counted_lem}

-- the place of an action is that of its first token
pub first_place_lem : (a : Action) → first_place a ≡ (head_info a).place
first_place_lem (block b a m) = refl
first_place_lem (labelled n b a) = refl
first_place_lem (if_then i o t w a) = refl
first_place_lem (decode i o t w b v) = refl
first_place_lem (repeat i a) = refl
first_place_lem (leave i n) = refl
first_place_lem (restart i n) = refl
first_place_lem (activate n l r) = refl
first_place_lem (stop i l r) = refl
first_place_lem (no_op i l r) = refl
first_place_lem (transfer n s b j e o t) = refl

-- no alternative overlaps none
numbered_test : (n k p : ℕ) → least_key (when (leb 64 k || (past n (between k k ∷ []) || some_meet_of (between k k ∷ []) [])) 45 p) ≡ least_key (when (leb 64 k || past n (between k k ∷ [])) 45 p)
unfolding some_meet_of meets_any
numbered_test n k p = ap (λ b. least_key (when (leb 64 k || b) 45 p)) (or-false (past n (between k k ∷ [])))

-- what stands behind an alternative
pub record Behind (c : Counted) (rest : Tokens) : Type 0 where
  pub token : Token
  pub tokens : Tokens
  pub is : counted_tokens c rest ≡ token ∷ tokens
  pub ends : EndsAction token.kind

pub behind : (c : Counted) (rest : Tokens) → Behind c rest
behind (counted_end e) rest = record { token = tk END e; tokens = rest; is = refl; ends = by_end }
behind (counted_more x a c) rest = record { token = tk Comma x; tokens = action_tokens a (counted_tokens c rest); is = refl; ends = by_comma }

module _ {text records values decls room₀ : List ℕ} {i count depth bits : ℕ} (v : ChoicesView text records values decls room₀ i count depth bits) (p : IsCounted v.alternatives) where
  abbrev all : List Choice
  all = counted_choices p.0 p.1

  abbrev inside : ℕ → List Fault
  inside = inside_at all (outer_of v.stage) (table_of v.stage) (stacked_words v.stage.tokens room₀ count)

  pub record CountedAhead (k number at : ℕ) : Type 0 where
    pub first : Action
    pub left : Counted
    pub reads : drop at v.stage.tokens ≡ action_tokens first (counted_tokens left (v.next ∷ v.rest))
    pub listed : drop number all ≡ counted_choices first left
    pub shallow : max (action_nest first) (counted_nest left) ≤ depth
    pub past : i ≤ at
    pub low : number ≤ at
    pub same_key : min k (min (least_in (numbered_at all bits) number (length (counted_choices first left))) (least_in inside number (length (counted_choices first left)))) ≡ least_key (choices_faults v)

  pub counted_starts : CountedAhead no_key 0 i
  unfolding alternatives_faults inside_faults
  counted_starts =
      let q = p.2 in
      let outer = outer_of v.stage in
      let ds = table_of v.stage in
      let ws = stacked_words v.stage.tokens room₀ count in
      record {
        first = p.0;
        left = p.1;
        reads = rw q at v.reads;
        listed = refl;
        shallow = rw q at v.shallow;
        past = omega arith;
        low = omega arith;
        same_key =
            omega (
              arith,
              least_bounded key (range_faults inside 0 (length all)),
              least_append key (alternatives_faults bits (counted p.0 p.1)) (inside_faults outer ds ws (counted p.0 p.1)),
              ap least_key (counted_range all bits 0 p.0 p.1 refl),
              ap least_key (inside_counted_lem all outer ds ws 0 p.0 p.1 refl),
              ap (λ x. least_key (alternatives_faults bits x ++ inside_faults outer ds ws x)) q,
            );
      }

module _ {text records values decls room₀ : List ℕ} {i count depth bits k number at : ℕ} {v : ChoicesView text records values decls room₀ i count depth bits}
    {p : IsCounted v.alternatives} (h : CountedAhead v p k number at) where
  abbrev follow : Behind h.left (v.next ∷ v.rest)
  follow = behind h.left (v.next ∷ v.rest)

  at_within : at < length v.stage.tokens
  at_within = (here v.stage.tokens at _ _ (h.reads ∙ action_head h.first (counted_tokens h.left (v.next ∷ v.rest)))).within

  pub counted_inside : at < 8192
  counted_inside = omega (arith, at_within, v.stage.ready.holds.few)

  pub counted_room : 8 * at + 8 ≤ length records
  counted_room = token_room v.stage at_within

  pub counted_place : place_cell records at ≤ longest_text
  counted_place = omega (arith, token_place v.stage at_within, place_small v.stage at_within)

  -- the place of the alternative
  place_now : place_cell records at ≡ first_place h.first
  place_now =
      token_place v.stage at_within
      ∙ ap (λ (t : Token). t.info.place) (here v.stage.tokens at _ _ (h.reads ∙ action_head h.first (counted_tokens h.left (v.next ∷ v.rest)))).token
      ∙ sym (first_place_lem h.first)

  abbrev now : Choice
  now = choice [] (first_place h.first) h.first

  listed_now : (c : Counted) → h.left ≡ c → (cs : List Choice) → counted_choices h.first c ≡ now ∷ cs → drop number (all v p) ≡ now ∷ cs
  listed_now c q cs e = h.listed ∙ ap (counted_choices h.first) q ∙ e

  module _ {room : List ℕ} (kept : Kept records count (level_base (depth + 1)) room₀ room) where
    abbrev pub counted_action : ActionView text records values decls room at count depth
    counted_action = record {
      stage = v.stage;
      action = h.first;
      next = follow.token;
      rest = follow.tokens;
      reads = h.reads ∙ ap (action_tokens h.first) follow.is;
      ends = follow.ends;
      shallow = let n = h.shallow in omega arith;
      bounded = let b = v.bounded in omega arith;
      stacked = kept_stacked kept v.stage.tokens v.stacked;
      low = let l = v.low in let q = h.past in omega arith;
      large = let l = v.large in omega (arith, kept.long);
    }

    module _ {r : Walked} {f : ℕ} (a : ActionAnswer counted_action r)
        (is_fault : f ≡ least_key (when (leb 64 number || past bits (between number number ∷ [])) 45 (place_cell records at))) where
      pub counted_next : r.next < length v.stage.tokens
      counted_next = (here v.stage.tokens r.next _ _ a.behind).within

      pub counted_next_inside : r.next < 8192
      counted_next_inside = omega (arith, counted_next, v.stage.ready.holds.few)

      pub counted_next_room : 8 * r.next + 8 ≤ length records
      counted_next_room = record_within v.stage.ready.holds r.next counted_next

      module _ (cs : List Choice) (e : drop number (all v p) ≡ now ∷ cs) where
        fault_now : f ≡ least_key (numbered_at (all v p) bits number)
        fault_now =
            is_fault
            ∙ ap (λ x. least_key (when (leb 64 number || past bits (between number number ∷ [])) 45 x)) (place_now ∙ sym (ap (λ x. x.place) (choice_now (all v p) number now cs e)))
            ∙ sym (numbered_test bits number (place_in (all v p) number))

        key_now : r.key ≡ least_key (inside v p number)
        key_now =
            a.key ∙ ap (λ ws. least_key (action_faults (outer_of v.stage) (table_of v.stage) ws h.first)) (kept_words kept v.stage.tokens)
            ∙ sym (ap (λ x. least_key (action_faults (outer_of v.stage) (table_of v.stage) (stacked_words v.stage.tokens room₀ count) x.action)) (choice_now (all v p) number now cs e))

      abbrev Reads : Counted → Type 0
      Reads c = drop r.next v.stage.tokens ≡ counted_tokens c (v.next ∷ v.rest)

      kind_there : (c : Counted) (t : Token) (xs : Tokens) → Reads c → counted_tokens c (v.next ∷ v.rest) ≡ t ∷ xs → kind_byte records r.next ≡ kind_no t.kind
      kind_there c t xs e q = let n = here v.stage.tokens r.next t xs (e ∙ q) in kind_here v.stage.ready.holds r.next t n.within n.token

      module _ {c k' : ℕ} (is_kind : c ≡ kind_byte records r.next) (is_key : k' ≡ min k (min f r.key)) where
        pub counted_ends : c ≡ kind_no END → ChoicesAnswer v (record { key = k'; next = r.next + 1 })
        unfolding counted_choices
        counted_ends e = go h.left refl (a.behind ∙ sym follow.is)
          where
            go : (x : Counted) → h.left ≡ x → Reads x → ChoicesAnswer v (record { key = k'; next = r.next + 1 })
            go (counted_end x) q d =
                let listed = listed_now (counted_end x) q [] refl in
                record {
                  key =
                      is_key
                      ∙ last_of_both (numbered_at (all v p) bits) (inside v p) k number f r.key (fault_now [] listed) (key_now [] listed)
                      ∙ ap (λ y. min k (min (least_in (numbered_at (all v p) bits) number (length (counted_choices h.first y))) (least_in (inside v p) number (length (counted_choices h.first y))))) (sym q)
                      ∙ h.same_key;
                  past = let l = a.past in let m = h.past in omega arith;
                  behind = (here v.stage.tokens r.next _ _ d).behind;
                }
            go (counted_more x b y) q d = absurd (omega (arith, kind_there (counted_more x b y) _ _ d refl))

        pub counted_goes_on : (c ≡ kind_no END → ⊥) → CountedAhead v p k' (number + 1) (r.next + 1)
        unfolding counted_choices
        counted_goes_on n = go h.left refl (a.behind ∙ sym follow.is) h.shallow
          where
            go : (x : Counted) → h.left ≡ x → Reads x → max (action_nest h.first) (counted_nest x) ≤ depth → CountedAhead v p k' (number + 1) (r.next + 1)
            go (counted_end x) q d l = absurd (n (is_kind ∙ kind_there (counted_end x) _ _ d refl))
            go (counted_more x b y) q d l =
                let listed = listed_now (counted_more x b y) q (counted_choices b y) refl in
                record {
                  first = b;
                  left = y;
                  reads = (here v.stage.tokens r.next _ _ d).behind;
                  listed = choice_next (all v p) number now (counted_choices b y) listed;
                  shallow = omega arith;
                  past = let l = a.past in let m = h.past in omega arith;
                  low = let l = a.past in let m = h.low in omega arith;
                  same_key =
                      ap (λ z. min z (min (least_in (numbered_at (all v p) bits) (number + 1) (length (counted_choices b y))) (least_in (inside v p) (number + 1) (length (counted_choices b y))))) is_key
                      ∙ next_of_both (numbered_at (all v p) bits) (inside v p) k number f r.key (fault_now (counted_choices b y) listed) (key_now (counted_choices b y) listed) (length (counted_choices b y))
                      ∙ ap (λ z. min k (min (least_in (numbered_at (all v p) bits) number (length (counted_choices h.first z))) (least_in (inside v p) number (length (counted_choices h.first z))))) (sym q)
                      ∙ h.same_key;
                }
