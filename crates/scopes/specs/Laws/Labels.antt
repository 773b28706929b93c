-- Laws of labels: finding one on the stack, jumps, and pushing one.
use Prim.Native.Nat.{ℕ, zero, suc, ◌+◌, ◌-◌, ◌*◌, ◌<◌, ◌≤◌, min}
use Rattle.std.specs.Prelude.{◌≡◌, Bool, ◌||◌, ◌&&◌, drop}
use Rattle.std.proofs.Math.Path.{refl, sym, ap, ap₂}
use Rattle.std.proofs.Common.{◌∙◌, subst}
use Rattle.std.proofs.Math.Bool.{true, false, not}
use mathlib.Core.List.{List, ◌∷◌}
use Rattle.std.proofs.Math.Option.{none, some}
use native.Mathlib.Omega.{arith}
use Rattle.std.proofs.Math.Decide.{dec_lt}
use borrow.Author.Tests.{eq-eqb, ne_eqb}
use Rattle.std.proofs.Math.Dec.{eqb}
use Rattle.std.proofs.Math.ListN.{length}
use Rattle.cells.specs.Cells.{cell, put_cell}
use Rattle.cells.proofs.Laws.{length_put, le_put_same, cell_other}
use Rattle.rules.specs.Text.Tokens.{Name, kind_no}
use Rattle.rules.specs.Text.Scan.{same_bytes}
use Rattle.rules.specs.Grammar.Trees.{Tokens}
use Rattle.rules.specs.Declarations.{Word}
use Rattle.rules.specs.Faults.Fault.{fault, when}
use Rattle.rules.specs.Faults.Declared.{is_known}
use Rattle.rules.specs.Faults.Whole.{Scope, labelled_in, aims_out}
use Rattle.laws_grammar.specs.Cited.Kinds.{kind_at}
use Rattle.laws_grammar.specs.Grammar.Kinds.{kind_at_kind_no}
use Rattle.records.specs.Holds.{kind_byte, place_cell, token_at, Tabled}
use Rattle.records.specs.Words.{NameAt, word_at, TwoNames, same_words}
use Rattle.keys.specs.Keys.{no_key, number_key, least_number_key}
use Rattle.keys.specs.Laws.Keys.{least_none}
use Rattle.reading.specs.Kinds.{next_no}
use Rattle.reading.specs.Reading.{Kinded}
use Rattle.reading.specs.Laws.Reading.{next_token, no_more}
use Rattle.chains.specs.Laws.Least.{when_key}
use Rattle.scopes.specs.Walks.{jumps, labelling, jump_at, next_word}
use Rattle.table.specs.Scans.{no as number}
use Rattle.scopes.specs.Labels.{Labelled, names_from, JumpKey, Scoped, Pushed}

module _ {text records : List ℕ} {n : ℕ} (v : Tabled text records n) where
  abbrev pub by_kinds : Kinded records n
  by_kinds = record {
    tokens = v.tokens;
    count = v.count;
    few = omega (arith, v.count, v.holds.few);
    room = omega (arith, v.count, v.holds.record_room);
    kind = λ i h. (v.holds.entry i (omega (arith, v.count))).kind;
  }

  pub word_at_lem : (i : ℕ) → i < n → kind_byte records i ≡ kind_no Name → NameAt v.tokens i
  word_at_lem i h e = record {
    within = omega (arith, v.count);
    kind = sym (kind_at_kind_no (token_at v.tokens i).kind) ∙ ap kind_at (sym (by_kinds.kind i h) ∙ e);
  }

  abbrev pub two_words : (i j : ℕ) → i < n → kind_byte records i ≡ kind_no Name → j < n → kind_byte records j ≡ kind_no Name → TwoNames text records i j
  two_words i j h e l f = record { values = v.values; tokens = v.tokens; holds = v.holds; first = word_at_lem i h e; second = word_at_lem j l f }

-- a search among the labels, from the top down to j
pub record Seeking (text records labels : List ℕ) (n base top name : ℕ) (j : ℕ) : Type 0 where
  pub low : base ≤ j
  pub high : j ≤ top
  pub worded : Tabled text records n
  pub labelled : Labelled records labels n top
  pub name_in : name < n
  pub is_name : kind_byte records name ≡ kind_no Name
  pub left : (v : Tabled text records n)
      → is_known (word_at v.tokens name) (names_from v.tokens labels base (top - base)) ≡ is_known (word_at v.tokens name)
      (names_from v.tokens labels base (j - base))

module _ {text records labels : List ℕ} {n base top name j : ℕ} (inv : Seeking text records labels n base top name j) where
  pub nowhere_found : j ≤ base → (v : Tabled text records n) → false ≡ is_known (word_at v.tokens name) (names_from v.tokens labels base (top - base))
  unfolding names_from is_known
  nowhere_found h v =
      let e : j - base ≡ 0 = omega arith in
      sym (inv.left v ∙ ap (λ (x : ℕ). is_known (word_at v.tokens name) (names_from v.tokens labels base x)) e)

  module _ (h : base < j) {label : ℕ} (at : label ≡ cell 2 labels (j - 1)) where
    pub both_words : TwoNames text records label name
    both_words =
        let i = inv.labelled.inside (j - 1) (omega (arith, inv.high)) in
        let e = inv.labelled.names (j - 1) (omega (arith, inv.high)) in
        two_words inv.worded label name (rw at i) (rw at e) inv.name_in inv.is_name

    module _ {r : Bool} (same : (w : TwoNames text records label name) → r ≡ same_words w) where
      step : (v : Tabled text records n) → is_known (word_at v.tokens name) (names_from v.tokens labels base (top - base))
          ≡ (r || is_known (word_at v.tokens name) (names_from v.tokens labels base (j - 1 - base)))
      unfolding names_from is_known
      step v =
          let i = inv.labelled.inside (j - 1) (omega (arith, inv.high)) in
          let e = inv.labelled.names (j - 1) (omega (arith, inv.high)) in
          let one : j - base ≡ suc (j - 1 - base) = omega arith in
          let here : base + (j - 1 - base) ≡ j - 1 = omega arith in
          let spelled : same_bytes (word_at v.tokens label) (word_at v.tokens name) ≡ r = sym (same (two_words v label name (rw at i) (rw at e) inv.name_in inv.is_name)) in
          inv.left v ∙ (ap (λ (x : ℕ). is_known (word_at v.tokens name) (names_from v.tokens labels base x)) one
          ∙ ap (λ (b : Bool). b || is_known (word_at v.tokens name) (names_from v.tokens labels base (j - 1 - base)))
          (ap (λ (x : ℕ). same_bytes (word_at v.tokens (cell 2 labels x)) (word_at v.tokens name)) here
          ∙ (ap (λ (x : ℕ). same_bytes (word_at v.tokens x) (word_at v.tokens name)) (sym at) ∙ spelled)))

      pub found_there : r ≡ true → (v : Tabled text records n) → true ≡ is_known (word_at v.tokens name) (names_from v.tokens labels base (top - base))
      found_there t v = sym (step v ∙ rw t)

      pub seek_on : r ≡ false → Seeking text records labels n base top name (j - 1)
      seek_on t = record {
        low = omega arith;
        high = omega (arith, inv.high);
        worded = inv.worded;
        labelled = inv.labelled;
        name_in = inv.name_in;
        is_name = inv.is_name;
        left = λ v. step v ∙ rw t;
      }

pub seek : {text records labels : List ℕ} {n base top name : ℕ} → Tabled text records n → Labelled records labels n top → base ≤ top → name < n
    → kind_byte records name ≡ kind_no Name
    → Seeking text records labels n base top name top
seek w l b h e = record { low = b; high = omega arith; worded = w; labelled = l; name_in = h; is_name = e; left = λ v. refl }

-- the place of the token i is small
pub jump_place : {text records : List ℕ} {n i p : ℕ} → Tabled text records n → i < n → p ≡ place_cell records i → p ≤ 32768
jump_place {i = i} v h e = let y = v.holds.entry i (omega (arith, v.count)) in omega (arith, y.place, y.inside, v.holds.short)

-- the token behind i, if it is a name
module _ {records : List ℕ} {n next : ℕ} (i : ℕ) (behind : (v : Kinded records n) → next ≡ next_no (drop (i + 1) v.tokens)) (name : next ≡ 0) where
  target_in : Kinded records n → i + 1 < n
  target_in v = by (dec_lt (i + 1) n)
    where
      by : Dec (i + 1 < n) → i + 1 < n
      by (yes l) = l
      by (no l) = absurd (let past : n ≤ i + 1 = omega arith in omega (arith, behind v, ap next_no (no_more v (i + 1) past)))

  target_name : (v : Kinded records n) → kind_byte records (i + 1) ≡ kind_no Name
  target_name v = v.kind (i + 1) (target_in v) ∙ (sym (ap next_no (next_token v (i + 1) (target_in v))) ∙ (sym (behind v) ∙ name))

  pub to_seek : {text labels : List ℕ} {base top : ℕ} → Tabled text records n → Labelled records labels n top → base ≤ top
      → Tabled text records n × (Labelled records labels n top × ((base ≤ top) × ((i + 1 < n) × (kind_byte records (i + 1) ≡ kind_no Name))))
  to_seek v l b = (v, (l, (b, (target_in (by_kinds v), target_name (by_kinds v)))))

  target_word : (v : Kinded records n) → next_word (drop (i + 1) v.tokens) ≡ word_at v.tokens (i + 1)
  target_word v = ap next_word (next_token v (i + 1) (target_in v))

unjumped : (known : ℕ) (b : Bool) (place : ℕ) → b ≡ false → min known no_key ≡ min known (least_number_key (when b 52 place))
unjumped known b place e = ap (min known) (sym (ap (λ (x : Bool). least_number_key (when x 52 place)) e ∙ least_none number_key))

-- whether or not it jumps out, a key that is no later is known
no_lower : (known : ℕ) (b : Bool) (place : ℕ) → place ≤ 32768 → known ≤ number_key (fault 52 place) → min known no_key ≡ min known (least_number_key (when b 52 place))
no_lower known true place small h = omega (arith, when_key true 52 place (omega arith) small)
no_lower known false place small h = unjumped known false place refl

module _ {text records : List ℕ} (labels : List ℕ) {n i k : ℕ} (base top known : ℕ) (h : i < n) (q : k ≡ kind_byte records i) {d : Bool} (e : d ≡ jumps k) where
  jumps_here : (v : Tabled text records n) → jumps (number (token_at v.tokens i)) ≡ d
  jumps_here v = ap jumps (sym (q ∙ (by_kinds v).kind i h)) ∙ sym e

  pub not_jumping : d ≡ false → JumpKey text records labels n i base top known no_key
  unfolding jump_at
  not_jumping f = record {
    key = λ v s x.
        let t = token_at v.tokens i in
        let target = eqb (next_no (drop (i + 1) v.tokens)) (kind_no Name) && aims_out s (next_word (drop (i + 1) v.tokens)) in
        unjumped known (jumps (number t) && target) t.info.place (ap (λ (b : Bool). b && target) (jumps_here v ∙ f));
  }

  pub known_enough : {p own : ℕ} → p ≡ place_cell records i → own ≡ number_key (fault 52 p) → known ≤ own → JumpKey text records labels n i base top known no_key
  unfolding jump_at
  known_enough {p} g o l = record {
    key = λ v s x.
        let t = token_at v.tokens i in
        let there : p ≡ t.info.place = g ∙ (v.holds.entry i (omega (arith, v.count))).place in
        no_lower known (jumps (number t) && (eqb (next_no (drop (i + 1) v.tokens)) (kind_no Name) && aims_out s (next_word (drop (i + 1) v.tokens)))) t.info.place
        (subst (λ (z : ℕ). z ≤ 32768) there (jump_place v h g))
        (subst (λ (z : ℕ). known ≤ number_key (fault 52 z)) there (subst (λ (z : ℕ). known ≤ z) o l));
  }

  module _ (t : d ≡ true) {next : ℕ} (behind : (v : Kinded records n) → next ≡ next_no (drop (i + 1) v.tokens)) where
    pub no_target : (next ≡ 0 → ⊥) → JumpKey text records labels n i base top known no_key
    unfolding jump_at
    no_target f = record {
      key = λ v s x. unjumped known _ _ (ap₂ (λ (a b : Bool). a && (b && aims_out s (next_word (drop (i + 1) v.tokens)))) (jumps_here v ∙ t)
          (ne_eqb (next_no (drop (i + 1) v.tokens)) (kind_no Name) (λ z. f (behind (by_kinds v) ∙ z))));
    }

    module _ (name : next ≡ 0) where
      test : (v : Tabled text records n) (s : Scope) → (jumps
          (number (token_at v.tokens i)) && (eqb (next_no (drop (i + 1) v.tokens)) (kind_no Name) && aims_out s (next_word (drop (i + 1) v.tokens))))
          ≡ aims_out s (word_at v.tokens (i + 1))
      test v s =
          ap₂ (λ (a b : Bool). a && (b && aims_out s (next_word (drop (i + 1) v.tokens)))) (jumps_here v ∙ t)
          (eq-eqb (next_no (drop (i + 1) v.tokens)) (kind_no Name) (sym (behind (by_kinds v)) ∙ name))
          ∙ ap (aims_out s) (target_word i behind name (by_kinds v))

      pub free_to_jump : top < base → JumpKey text records labels n i base top known no_key
      unfolding jump_at
      free_to_jump l = record { key = λ v s x. unjumped known _ _ (test v s ∙ ap (λ (y : Scope). aims_out y (word_at v.tokens (i + 1))) (x.nowhere l)) }

      module _ (l : base ≤ top) {r : Bool} (listed : (v : Tabled text records n) → r ≡ is_known (word_at v.tokens (i + 1)) (names_from v.tokens labels base (top - base))) where
        aims : (v : Tabled text records n) (s : Scope) → Scoped v.tokens labels base top s → aims_out s (word_at v.tokens (i + 1)) ≡ not r
        aims v s x = ap (λ (y : Scope). aims_out y (word_at v.tokens (i + 1))) (x.around l) ∙ ap not (sym (listed v))

        pub aimed_inside : r ≡ true → JumpKey text records labels n i base top known no_key
        unfolding jump_at
        aimed_inside f = record { key = λ v s x. unjumped known _ _ (test v s ∙ (aims v s x ∙ ap not f)) }

        pub aimed_outside : {p key : ℕ} → r ≡ false → p ≡ place_cell records i → key ≡ number_key (fault 52 p) → JumpKey text records labels n i base top known key
        unfolding jump_at
        aimed_outside {p} f g o = record {
          key = λ v s x. ap (min known)
              (o ∙ (sym (when_key true 52 p (omega arith) (jump_place v h g))
              ∙ ap₂ (λ (b : Bool) (z : ℕ). least_number_key (when b 52 z)) (sym (test v s ∙ (aims v s x ∙ ap not f)))
              (g ∙ (v.holds.entry i (omega (arith, v.count))).place)));
        }

names_kept : (ts : Tokens) (old new : List ℕ) (base c top : ℕ) → base + c ≤ top → ((j : ℕ) → j < top → cell 2 new j ≡ cell 2 old j) → names_from ts new base c
    ≡ names_from ts old base c
unfolding names_from
names_kept ts old new base zero top h k = refl
names_kept ts old new base (suc c) top h k = ap₂ (λ (x : ℕ) (l : List Word). word_at ts x ∷ l) (k (base + c) (omega arith))
    (names_kept ts old new base c top (omega arith) k)

pub scope_kept : {ts : Tokens} {old new : List ℕ} {base top : ℕ} {s : Scope} (limit : ℕ) → top ≤ limit → ((j : ℕ) → j < limit → cell 2 new j ≡ cell 2 old j)
    → Scoped ts old base top s → Scoped ts new base top s
scope_kept {ts} {old} {new} {base} {top} limit h k x = record {
  around = λ l. x.around l ∙ ap some (sym (names_kept ts old new base (top - base) limit (omega arith) k));
  nowhere = x.nowhere;
}

module _ {text records labels : List ℕ} {n i base top : ℕ} (h : i < n) (one : 1 ≤ i) where
  -- what is no label changes nothing
  unchanged : ((v : Tabled text records n) (s : Scope) → Scoped v.tokens labels base top s → labelling (token_at v.tokens (i - 1)) s ≡ s)
      → Pushed text records labels labels n i base top top
  unchanged e = record {
    low = omega arith;
    high = omega arith;
    kept = λ j m l. refl;
    labelled = λ x. x;
    scope = λ v s x. subst (Scoped v.tokens labels base top) (sym (e v s x)) x;
  }

  pub push_nowhere : top < base → Pushed text records labels labels n i base top top
  unfolding labelling
  push_nowhere l = unchanged (λ v s x. by v s (x.nowhere l) (eqb (number (token_at v.tokens (i - 1))) 0))
    where
      by : (v : Tabled text records n) (s : Scope) → s ≡ none → (b : Bool) → elim b [ true ↦ labelled_in (token_at v.tokens (i - 1)).info.word s | false ↦ s ] ≡ s
      by v s e true = ap (labelled_in (token_at v.tokens (i - 1)).info.word) e ∙ sym e
      by v s e false = refl

  module _ {k : ℕ} (q : k ≡ kind_byte records (i - 1)) where
    pub push_nothing : (k ≡ 0 → ⊥) → Pushed text records labels labels n i base top top
    unfolding labelling
    push_nothing z = unchanged (λ v s x. rw (
      ne_eqb (number (token_at v.tokens (i - 1))) 0
          (λ y. z (q ∙ ((by_kinds v).kind (i - 1) (omega arith) ∙ y))),
      labelling,
    ))

    pub push_label : {new : List ℕ} → base ≤ top → k ≡ 0 → i - 1 < 65536 → new ≡ put_cell 2 labels top (i - 1) → 2 * top + 2 ≤ length labels
        → Pushed text records labels new n i base top (top + 1)
    unfolding labelling names_from
    push_label {new} l z small e room = record {
      low = omega arith;
      high = omega arith;
      kept = λ j m g. others_kept j g;
      labelled = λ x. record {
        room = omega (arith, ap length e, length_put 2 labels (2 * top) (i - 1));
        inside = λ j g. by_inside x j g (dec_lt j top);
        names = λ j g. by_names x j g (dec_lt j top);
      };
      scope = λ v s x. record {
        around = λ y. labelled_scope v s x;
        nowhere = λ y. absurd (omega arith);
      };
    }
      where
        top_cell : cell 2 new top ≡ i - 1
        top_cell = ap (λ (b : List ℕ). cell 2 b top) e ∙ le_put_same 2 labels (2 * top) (i - 1) room small

        others_kept : (j : ℕ) → (j ≡ top → ⊥) → cell 2 new j ≡ cell 2 labels j
        others_kept j g = ap (λ (b : List ℕ). cell 2 b j) e ∙ cell_other 2 labels top (i - 1) j g

        below_kept : (j : ℕ) → j < top → cell 2 new j ≡ cell 2 labels j
        below_kept j g = others_kept j (λ y. omega arith)

        by_inside : Labelled records labels n top → (j : ℕ) → j < top + 1 → Dec (j < top) → cell 2 new j < n
        by_inside x j g (yes y) = rw (below_kept j y) (x.inside j y)
        by_inside x j g (no y) = let s : j ≡ top = omega arith in omega (arith, ap (cell 2 new) s, top_cell)

        by_names : Labelled records labels n top → (j : ℕ) → j < top + 1 → Dec (j < top) → kind_byte records (cell 2 new j) ≡ kind_no Name
        by_names x j g (yes y) = rw (below_kept j y) (x.names j y)
        by_names x j g (no y) = let s : j ≡ top = omega arith in ap (kind_byte records) (ap (cell 2 new) s ∙ top_cell) ∙ (sym q ∙ z)

        labelled_scope : (v : Tabled text records n) (s : Scope) → Scoped v.tokens labels base top s
            → elim (eqb (number (token_at v.tokens (i - 1))) 0) [ true ↦ labelled_in (token_at v.tokens (i - 1)).info.word s | false ↦ s ] ≡ some (names_from v.tokens new base (top + 1 - base))
        labelled_scope v s x =
            let p = token_at v.tokens (i - 1) in
            let is_name : number p ≡ 0 = sym ((by_kinds v).kind (i - 1) (omega arith)) ∙ (sym q ∙ z) in
            let more : top + 1 - base ≡ suc (top - base) = omega arith in
            let here : base + (top - base) ≡ top = omega arith in
            ap (λ (b : Bool). elim b [ true ↦ labelled_in p.info.word s | false ↦ s ]) (eq-eqb (number p) 0 is_name)
            ∙ (ap (labelled_in p.info.word) (x.around l)
            ∙ sym (ap (λ (y : ℕ). some (names_from v.tokens new base y)) more
            ∙ ap₂ (λ (y : ℕ) (ls : List Word). some (word_at v.tokens y ∷ ls)) (ap (cell 2 new) here ∙ top_cell)
            (names_kept v.tokens labels new base (top - base) top (omega arith) below_kept)))
