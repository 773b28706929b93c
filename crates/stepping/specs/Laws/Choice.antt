-- Laws of the choice: alternatives are passed until one takes the value or none is left.
-- Assumes nothing.
use Rattle.std.specs.Prelude.{ℕ, zero, suc, ◌+◌, ◌*◌, ◌<◌, ◌≤◌, ◌≡◌, Bool, false, ◌||◌, List, [], ◌∷◌, length, drop, Option, Some, None}
use Rattle.std.proofs.Math.Path.{refl, sym, ap}
use Rattle.std.proofs.Common.{◌∙◌, subst, arith, add-one}
use Rattle.std.proofs.Math.Bool.{true, cond}
use Rattle.std.proofs.Math.Option.{none, some}
use Rattle.std.proofs.Math.Decide.{dec_lt}
use Rattle.std.proofs.Math.Dec.{eqb}
use Rattle.rules.specs.Text.Tokens.{END, kind_no, Const, Masked, LBra, OTHERWISE}
use Rattle.rules.specs.Grammar.Trees.{Tokens, exact, masked, Selector, one_of, any_of, selector_tokens}
use Rattle.rules.specs.Selectors.{Item, matches, any_matches, Case, numbered, listed, otherwise, takes}
use Rattle.laws_grammar.specs.Cited.Kinds.{kind_at}
use Rattle.laws_grammar.specs.Grammar.Kinds.{kind_at_kind_no}
use Rattle.laws_orders.specs.Cited.Flat.{Entries, no_entry, entry, find}
use Rattle.records.specs.Holds.{kind_byte, token_at, inside_cell, link_cell}
use Rattle.table.specs.Laws.Positions.{here, record_within, kind_here}
use Rattle.promise.specs.Instructions.{CaseStands, Numbered, Counted, EntriesStand}
use Rattle.patterns.specs.Stands.{Held, ItemsView, ItemsFrom}
use Rattle.patterns.specs.Laws.Lists as lists
use Rattle.selectors.specs.Laws.Alternatives.{SeenItems, otherwise_seen, brackets_seen, item_seen, see_items}
use Rattle.selectors.specs.Laws.Trees.{selector_at}
use Rattle.stepping.specs.Choice.{CaseView, ChoiceView, place_of}

pub some_matches : (x : ℕ) (is : List Item) → lists.some (λ i. matches i x) is ≡ any_matches is x
unfolding lists.some any_matches
some_matches x [] = refl
some_matches x (i ∷ is) = ap (◌||◌ (matches i x)) (some_matches x is)

-- AN ALTERNATIVE by the kind of the token at q
pub data SeenCase (records : List ℕ) (ts : Tokens) (q number : ℕ) : Case → Type 0 where
  number_seen : {n : ℕ} → (kind_byte records q ≡ kind_no Const → ⊥) → (kind_byte records q ≡ kind_no Masked → ⊥) → (kind_byte records q ≡ kind_no LBra → ⊥) → (kind_byte records q ≡ kind_no OTHERWISE → ⊥) → n ≡ number
      → SeenCase records ts q number (numbered n)
  brackets : {is : List Item} → kind_byte records q ≡ kind_no LBra → ItemsFrom ts (q + 1) is → SeenCase records ts q number (listed is)
  item : {is : List Item} → 1 ≤ kind_byte records q → kind_byte records q ≤ 2 → ItemsFrom ts q is → SeenCase records ts q number (listed is)
  any : kind_byte records q ≡ kind_no OTHERWISE → SeenCase records ts q number otherwise

neither : {k : ℕ} → (k ≡ kind_no Const → ⊥) → (k ≡ kind_no Masked → ⊥) → 1 ≤ k → k ≤ 2 → ⊥
neither {k} a b l m = by (dec_lt k 2)
  where
    by : Dec (k < 2) → ⊥
    by (yes y) = a (omega arith)
    by (no n) = b (omega arith)

-- a selector begins with a constant or `[`
pub data Opens (k : ℕ) : Type 0 where
  by_constant : 1 ≤ k → k ≤ 2 → Opens k
  by_bracket : k ≡ kind_no LBra → Opens k

module _ {records values : List ℕ} {ts : Tokens} (h : Held records values ts) (q : ℕ) where
  opens : (s : Selector) (rest : Tokens) → drop q ts ≡ selector_tokens s rest → Opens (kind_byte records q)
  opens (one_of (exact i) r) rest e =
      let x = here ts q _ _ e in let k = kind_here h.holds q _ x.within x.token in by_constant (omega arith) (omega arith)
  opens (one_of (masked i) r) rest e =
      let x = here ts q _ _ e in let k = kind_here h.holds q _ x.within x.token in by_constant (omega arith) (omega arith)
  opens (any_of b l r is) rest e =
      let x = here ts q _ _ e in by_bracket (kind_here h.holds q _ x.within x.token)

  see_list : (number : ℕ) {is : List Item} → Opens (kind_byte records q) → SeenItems records ts q is → SeenCase records ts q number (listed is)
  see_list number (by_constant a b) (otherwise_seen k _) = absurd (omega arith)
  see_list number (by_bracket a) (otherwise_seen k _) = absurd (omega arith)
  see_list number o (brackets_seen k f) = brackets k f
  see_list number (by_constant a b) (item_seen _ _ f) = item a b f
  see_list number (by_bracket a) (item_seen _ n f) = absurd (n a)

  see_case : (number : ℕ) → q < length ts → (c : Case) → CaseStands ts q c → Numbered number c → SeenCase records ts q number c
  see_case number w (numbered n) s e =
      let is = (h.holds.entry q w).kind in
      let back : (k : ℕ) → kind_byte records q ≡ k → (token_at ts q).kind ≡ kind_at k = λ k z. sym (kind_at_kind_no (token_at ts q).kind) ∙ ap kind_at (sym is ∙ z) in
      number_seen (λ z. s.0 (back 1 z)) (λ z. s.1 (back 2 z)) (λ z. s.2 (back 5 z)) (λ z. s.3 (back 24 z)) e
  see_case number w (listed is) (s, b, rest, e, reads) _ =
      subst (λ is. SeenCase records ts q number (listed is)) (sym e)
      (see_list number (opens s _ reads) (see_items h (selector_at ts q s b rest reads)))
  see_case number w otherwise s _ = any ((h.holds.entry q w).kind ∙ ap kind_no s)

module _ {records values : List ℕ} {q number : ℕ} (v : CaseView records values q number) where
  pub case_room : 8 * q + 8 ≤ length records
  case_room = record_within v.held.holds q v.within

  seen : SeenCase records v.tokens q number v.case
  seen = see_case v.held q number v.within v.case v.stands v.counted

  abbrev items_at : (p : ℕ) (is : List Item) → ItemsFrom v.tokens p is → ItemsView records values p
  items_at p is f = record { tokens = v.tokens; held = v.held; items = is; stand = f }

  module _ {k : ℕ} (is_kind : k ≡ kind_byte records q) where
    pub listed_inside : k ≡ kind_no LBra → ItemsView records values (q + 1)
    listed_inside e = go v.case seen
      where
        go : (c : Case) → SeenCase records v.tokens q number c → ItemsView records values (q + 1)
        go (numbered n) (number_seen _ _ z _ _) = absurd (z (sym is_kind ∙ e))
        go (listed is) (brackets _ f) = items_at (q + 1) is f
        go (listed is) (item a b f) = absurd (omega arith)
        go otherwise (any z) = absurd (omega arith)

    pub listed_there : 1 ≤ k → k ≤ 2 → ItemsView records values q
    listed_there a b = go v.case seen
      where
        go : (c : Case) → SeenCase records v.tokens q number c → ItemsView records values q
        go (numbered n) (number_seen z y _ _ _) = absurd (neither z y (omega arith) (omega arith))
        go (listed is) (brackets z f) = absurd (omega arith)
        go (listed is) (item _ _ f) = items_at q is f
        go otherwise (any z) = absurd (omega arith)

    pub takes_inside : (x : ℕ) {r : Bool} → k ≡ kind_no LBra → ((w : ItemsView records values (q + 1)) → r ≡ any_matches w.items x) → r ≡ takes v.case x
    unfolding takes
    takes_inside x {r} e h = go v.case seen
      where
        go : (c : Case) → SeenCase records v.tokens q number c → r ≡ takes c x
        go (numbered n) (number_seen _ _ z _ _) = absurd (z (sym is_kind ∙ e))
        go (listed is) (brackets _ f) = h (items_at (q + 1) is f)
        go (listed is) (item a b f) = absurd (omega arith)
        go otherwise (any z) = absurd (omega arith)

    pub takes_any : (x : ℕ) → k ≡ kind_no OTHERWISE → true ≡ takes v.case x
    unfolding takes
    takes_any x e = go v.case seen
      where
        go : (c : Case) → SeenCase records v.tokens q number c → true ≡ takes c x
        go (numbered n) (number_seen _ _ _ z _) = absurd (z (sym is_kind ∙ e))
        go (listed is) (brackets z f) = absurd (omega arith)
        go (listed is) (item a b f) = absurd (omega arith)
        go otherwise (any z) = refl

    pub takes_there : (x : ℕ) {r : Bool} → 1 ≤ k → k ≤ 2 → ((w : ItemsView records values q) → r ≡ any_matches w.items x) → r ≡ takes v.case x
    unfolding takes
    takes_there x {r} a b h = go v.case seen
      where
        go : (c : Case) → SeenCase records v.tokens q number c → r ≡ takes c x
        go (numbered n) (number_seen z y _ _ _) = absurd (neither z y (omega arith) (omega arith))
        go (listed is) (brackets z f) = absurd (omega arith)
        go (listed is) (item _ _ f) = h (items_at q is f)
        go otherwise (any z) = absurd (omega arith)

    pub takes_number : (x : ℕ) → (k ≡ kind_no Const → ⊥) → (k ≡ kind_no Masked → ⊥) → (k ≡ kind_no LBra → ⊥) → (k ≡ kind_no OTHERWISE → ⊥) → eqb number x ≡ takes v.case x
    unfolding takes
    takes_number x n₁ n₂ n₅ n₂₄ = go v.case seen
      where
        go : (c : Case) → SeenCase records v.tokens q number c → eqb number x ≡ takes c x
        go (numbered n) (number_seen _ _ _ _ e) = ap (λ n. eqb n x) (sym e)
        go (listed is) (brackets z f) = absurd (n₅ (is_kind ∙ z))
        go (listed is) (item a b f) = absurd (neither n₁ n₂ (omega arith) (omega arith))
        go otherwise (any z) = absurd (n₂₄ (is_kind ∙ z))

-- ALL ALTERNATIVES
pub record Front (records : List ℕ) (ts : Tokens) (p number : ℕ) (t : Entries) : Type 0 where
  pub case : Case
  pub goes : ℕ
  pub tail : Entries
  pub is : t ≡ entry case goes tail
  pub stands : CaseStands ts (p + 1) case
  pub inside : inside_cell records p ≡ goes
  pub ahead : p < link_cell records p
  pub tail_stand : EntriesStand records ts (link_cell records p) tail
  pub counted : Numbered number case
  pub tail_counted : Counted (suc number) tail

ends_within : (ts : Tokens) (p : ℕ) → (token_at ts p).kind ≡ END → p < length ts
ends_within [] p e = absurd (omega (arith, ap kind_no e))
ends_within (t ∷ ts) zero e = omega arith
ends_within (t ∷ ts) (suc p) e = omega (arith, ends_within ts p e)

entries_within : (records : List ℕ) (ts : Tokens) (p : ℕ) (t : Entries) → EntriesStand records ts p t → p < length ts
entries_within records ts p no_entry s = ends_within ts p s
entries_within records ts p (entry c g t) s = s.0

module _ {records values : List ℕ} {p number : ℕ} (v : ChoiceView records values p number) where
  pub choice_room : 8 * p + 8 ≤ length records
  choice_room = record_within v.held.holds p (entries_within records v.tokens p v.entries v.stand)

  module _ {k : ℕ} (is_kind : k ≡ kind_byte records p) where
    kind_there : kind_byte records p ≡ kind_no (token_at v.tokens p).kind
    kind_there = (v.held.holds.entry p (entries_within records v.tokens p v.entries v.stand)).kind

    pub nothing_left : (x : ℕ) → k ≡ kind_no END → find v.entries x ≡ none
    unfolding find
    nothing_left x e = go v.entries v.stand
      where
        go : (t : Entries) → EntriesStand records v.tokens p t → find t x ≡ none
        go no_entry s = refl
        go (entry c g t) s = absurd (s.1.0 (sym (kind_at_kind_no (token_at v.tokens p).kind) ∙ ap kind_at (sym kind_there ∙ sym is_kind ∙ e)))

    pub front : (k ≡ kind_no END → ⊥) → Front records v.tokens p number v.entries
    front n = go v.entries v.stand v.counted
      where
        go : (t : Entries) → EntriesStand records v.tokens p t → Counted number t → Front records v.tokens p number t
        go no_entry s c = absurd (n (is_kind ∙ kind_there ∙ ap kind_no s))
        go (entry c g t) s q = record {
          case = c;
          goes = g;
          tail = t;
          is = refl;
          stands = s.1.1.0;
          inside = s.1.1.1.0;
          ahead = s.1.1.1.1.0;
          tail_stand = s.1.1.1.1.1;
          counted = q.0;
          tail_counted = q.1;
        }

    module _ (n : k ≡ kind_no END → ⊥) where
      abbrev ahead : Front records v.tokens p number v.entries
      ahead = front n

      next_within : link_cell records p < length v.tokens
      next_within = entries_within records v.tokens (link_cell records p) ahead.tail ahead.tail_stand

      pub case_view : CaseView records values (p + 1) number
      case_view = record {
        tokens = v.tokens;
        held = v.held;
        within = omega (arith, next_within, ahead.ahead);
        case = ahead.case;
        stands = ahead.stands;
        counted = ahead.counted;
      }

      pub goes_ahead : (p < link_cell records p) × (link_cell records p < length records)
      goes_ahead = (ahead.ahead, omega (arith, next_within, record_within v.held.holds (link_cell records p) next_within))

      module _ (x : ℕ) {r : Bool} (answer : (u : CaseView records values (p + 1) number) → r ≡ takes u.case x) where
        by_front : find v.entries x ≡ cond r (some ahead.goes) (find ahead.tail x)
        unfolding find case_view
        by_front = ap (λ t. find t x) ahead.is ∙ ap (λ b. cond b (some ahead.goes) (find ahead.tail x)) (sym (answer case_view))

        pub found_here : r ≡ true → Some (inside_cell records p) ≡ place_of (find v.entries x)
        found_here e = ap Some ahead.inside ∙ sym (ap place_of (by_front ∙ ap (λ b. cond b (some ahead.goes) (find ahead.tail x)) e))

        pub passed : r ≡ false → find v.entries x ≡ find ahead.tail x
        passed e = by_front ∙ ap (λ b. cond b (some ahead.goes) (find ahead.tail x)) e

-- THE WALK: the answer is that of the alternatives left
pub record Left (records values : List ℕ) (x : ℕ) (found : Option ℕ) (at number : ℕ) : Type 0 where
  pub rest : ChoiceView records values at number
  pub same : place_of (find rest.entries x) ≡ found

module _ {records values : List ℕ} {x : ℕ} {found : Option ℕ} {at number : ℕ} (l : Left records values x found at number) {k : ℕ} (is_kind : k ≡ kind_byte records at) where
  pub walk_ends : k ≡ kind_no END → None ≡ found
  walk_ends e = sym (ap place_of (nothing_left l.rest is_kind x e)) ∙ l.same

  module _ (n : k ≡ kind_no END → ⊥) {r : Bool} (answer : (u : CaseView records values (at + 1) number) → r ≡ takes u.case x) where
    pub walk_finds : r ≡ true → {g : ℕ} → g ≡ inside_cell records at → Some g ≡ found
    walk_finds e q = ap Some q ∙ found_here l.rest is_kind n x answer e ∙ l.same

    pub walk_goes_on : r ≡ false → {next : ℕ} → next ≡ link_cell records at → Left records values x found next (number + 1)
    walk_goes_on e q =
        let f = front l.rest is_kind n in
        rw (q, add-one) (record {
          rest = record { tokens = l.rest.tokens; held = l.rest.held; entries = f.tail; stand = f.tail_stand; counted = f.tail_counted };
          same = ap place_of (sym (passed l.rest is_kind n x answer e)) ∙ l.same;
        })
