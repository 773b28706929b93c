-- The least key of the faults that the declarations have one after the other, and the faults of 51.
use Rattle.std.specs.Prelude.{ℕ, zero, suc, ◌+◌, ◌*◌, ◌<◌, ◌≤◌, min, ◌≡◌, refl, Bool, true, false, ◌&&◌, List, [], ◌∷◌, ◌++◌, ltb, length, drop}
use Rattle.std.proofs.Math.Path.{sym, ap}
use Rattle.std.proofs.Common.{◌∙◌, add-zero, add-one, arith, drop_of_length-le}
use Rattle.std.proofs.Math.Option.{Option, none, some}
use Rattle.std.proofs.Math.ListN.{get_elem?}
use Rattle.cells.specs.Cells.{cell}
use Rattle.rules.specs.Text.Tokens.{Name, Token, tk}
use Rattle.rules.specs.Text.Scan.{same_bytes}
use Rattle.rules.specs.Grammar.Trees.{Action}
use Rattle.rules.specs.Declarations.{Word, Declared, Table, declared_of, number_from, number_of, body_number, body_of, outer_name}
use Rattle.rules.specs.Steps.Runs.{body_act, act_or}
use Rattle.rules.specs.Whole.Sets.{calls_in, any_name, chain_over}
use Rattle.rules.specs.Limits.{longest_chain}
use Rattle.rules.specs.Faults.Fault.{Fault, fault, when}
use Rattle.rules.specs.Faults.Declared.{is_known, twice, faults30}
use Rattle.rules.specs.Faults.Whole.{begins_chain, chains}
use Rattle.records.specs.Holds.{token_at, place_cell}
use Rattle.keys.specs.Keys.{no_key, number_key, least_number_key}
use Rattle.keys.specs.Laws.Keys.{by_number, least_one, least_none, least_bounded, least_append}
use Rattle.table.specs.Laws.Views.{name_token}
use Rattle.laws_accepted.proofs.Accepted.Faultless.{both_empty, when_empty}
use Rattle.laws_accepted.proofs.Accepted.Named.{same_itself}
use Rattle.laws_orders.proofs.Orders.Tests.{impossible, or_neither}
use Rattle.reading.specs.Reading.{Reading, table_of}
use Rattle.reading.specs.Meanings.{declares}
use Rattle.reading.specs.Laws.Meanings.{table_size_lem}
use Rattle.reading.specs.Bits.{holds}
use Rattle.chains.specs.Chains.{Levelled, in_level, number_in, activates_one}
use Rattle.chains.specs.Laws.Chains.{level_all, level_more, level_none}

split_at : (ds : Table) (k : ℕ) (d : Declared) → get_elem? ds k ≡ some d → drop k ds ≡ d ∷ drop (suc k) ds
split_at [] k d e = impossible (cc)
split_at (x ∷ ds) zero d e = let h : x ≡ d = cc in ap (λ (y : Declared). y ∷ ds) h
split_at (x ∷ ds) (suc k) d e = split_at ds k d e

pub next_declared : {records decls : List ℕ} {m n : ℕ} (v : Reading records decls m n) (k : ℕ) (h : k < m)
    → drop k (table_of v) ≡ declared_of (declares v k h).declaration ∷ drop (k + 1) (table_of v)
next_declared v k h = rw (add-one k) (split_at (table_of v) k (declared_of (declares v k h).declaration) (declares v k h).found)

-- The least key so far, when the declarations before k are done: of what each W reads.
pub record Gathered {records decls : List ℕ} {m n : ℕ} {W : Type 0} (read : W → Reading records decls m n) (f : W → Table → List Fault) (key k : ℕ) : Type 0 where
  pub within : k ≤ m
  pub small : key ≤ no_key
  pub given : W
  pub so_far : (v : W) → min key (least_number_key (f v (drop k (table_of (read v))))) ≡ least_number_key (f v (table_of (read v)))

module _ {records decls : List ℕ} {m n : ℕ} {W : Type 0} (read : W → Reading records decls m n) (f : W → Table → List Fault) where
  pub gather_none : W → Gathered read f no_key 0
  gather_none x = record { within = omega arith; small = omega arith; given = x; so_far = λ v. omega (arith, least_bounded number_key (f v (table_of (read v)))) }

  pub gathered_all : ((v : W) → f v [] ≡ []) → {key k : ℕ} → m ≤ k → Gathered read f key k → (v : W) → key ≡ least_number_key (f v (table_of (read v)))
  gathered_all empty {key} {k} h inv v =
      let ds = table_of (read v) in
      let past : length ds ≤ k = omega (arith, table_size_lem (read v)) in
      let e : least_number_key (f v (drop k ds)) ≡ no_key =
      ap (λ (l : Table). least_number_key (f v l)) (drop_of_length-le ds past) ∙ (ap least_number_key (empty v) ∙ least_none number_key) in
      omega (arith, inv.so_far v, inv.small)

  pub gather_more : (at : W → Declared → List Fault) → ((v : W) (d : Declared) (ds : Table) → f v (d ∷ ds) ≡ at v d ++ f v ds)
      → {key k r next : ℕ} → k < m → next ≡ min key r → ((v : W) (d : Declared) → get_elem? (table_of (read v)) k ≡ some d → r ≡ least_number_key (at v d))
      → Gathered read f key k → Gathered read f next (k + 1)
  gather_more at step {key} {k} {r} {next} h q e inv = record {
    within = omega arith;
    small = omega (arith, inv.small);
    given = inv.given;
    so_far = λ v.
        let d = declared_of (declares (read v) k h).declaration in
        let rest = drop (k + 1) (table_of (read v)) in
        let l : least_number_key (f v (drop k (table_of (read v)))) ≡ min r (least_number_key (f v rest)) =
        ap (λ (x : Table). least_number_key (f v x)) (next_declared (read v) k h) ∙ (ap least_number_key (step v d rest)
        ∙ (least_append number_key (at v d) (f v rest) ∙ ap (λ (x : ℕ). min x (least_number_key (f v rest))) (sym (e v d (declares (read v) k h).found)))) in
        omega (arith, inv.so_far v);
  }

-- a fault where a test holds, as a key
pub when_key : (b : Bool) (number place : ℕ) → number < 128 → place ≤ 32768 → least_number_key (when b number place) ≡ elim b [ true ↦ number_key (fault number place) | false ↦ no_key ]
when_key true number place h l = least_one by_number (fault number place) (record { number = h; place = l })
when_key false number place h l = least_none number_key

-- 30 is passed: the k-th declaration is the first of its name
unknown : (known : List Word) (ds : Table) (k : ℕ) (d : Declared) → twice known ds ≡ [] → get_elem? ds k ≡ some d → is_known d.name.word known ≡ false
unfolding twice is_known
unknown known [] k d e f = impossible (cc)
unknown known (x ∷ ds) zero d e f =
    let h : x ≡ d = cc in
    ap (λ (y : Declared). is_known y.name.word known) (sym h) ∙ when_empty (is_known x.name.word known) 30 x.name.place
    (both_empty _ (twice (x.name.word ∷ known) ds) e).0
unknown known (x ∷ ds) (suc k) d e f =
    (or_neither (same_bytes x.name.word d.name.word) (is_known d.name.word known)
    (unknown (x.name.word ∷ known) ds k d (both_empty (when (is_known x.name.word known) 30 x.name.place) _ e).1 f)).1

numbered : (known : List Word) (ds : Table) (i k : ℕ) (d : Declared) → twice known ds ≡ [] → get_elem? ds k ≡ some d → number_from i d.name.word ds ≡ some
    (i + k)
unfolding twice number_from is_known
numbered known [] i k d e f = impossible (cc)
numbered known (x ∷ ds) i zero d e f =
    let h : x ≡ d = cc in
    let s : same_bytes x.name.word d.name.word ≡ true = ap (λ (y : Declared). same_bytes y.name.word d.name.word) h ∙ same_itself d.name.word in
    ap (λ (b : Bool). elim b [ true ↦ some i | false ↦ number_from (suc i) d.name.word ds ]) s ∙ ap some (sym (add-zero i))
numbered known (x ∷ ds) i (suc k) d e f =
    let rest = (both_empty (when (is_known x.name.word known) 30 x.name.place) (twice (x.name.word ∷ known) ds) e).1 in
    let s : same_bytes x.name.word d.name.word ≡ false =
    (or_neither (same_bytes x.name.word d.name.word) (is_known d.name.word known) (unknown (x.name.word ∷ known) ds k d rest f)).0 in
    ap (λ (b : Bool). elim b [ true ↦ some i | false ↦ number_from (suc i) d.name.word ds ]) s
    ∙ (numbered (x.name.word ∷ known) ds (suc i) k d rest f ∙ ap some (omega arith))

module _ {records decls : List ℕ} {m n : ℕ} (v : Reading records decls m n) where
  pub own_number : (k : ℕ) (d : Declared) → get_elem? (table_of v) k ≡ some d → number_of (table_of v) d.name.word ≡ some k
  unfolding faults30 number_of
  own_number k d e =
      let outer = (outer_name v.description).word in
      numbered (outer ∷ []) (table_of v) 0 k d (both_empty (twice (outer ∷ []) (table_of v)) _ v.ready.lawful).0 e ∙ ap some (omega arith)

  -- 51: a level of the longest chain
  pub begins_level : (w : List ℕ) → Levelled (table_of v) w false longest_chain → (k : ℕ) (d : Declared) → get_elem? (table_of v) k ≡ some d
      → holds w k ≡ begins_chain (table_of v) d.name.word d.body
  unfolding in_level chain_over body_act body_of body_number calls_in any_name
  begins_level w x k d e = sym (by d.body refl)
    where
      there : chain_over (table_of v) longest_chain d.name.word ≡ holds w k
      there = x.chains d.name.word ∙ ap (number_in w) (own_number k d e)

      by : (b : Option Action) → d.body ≡ b → begins_chain (table_of v) d.name.word b ≡ holds w k
      by (some a) f = there
      by none f =
          let b : body_of (table_of v) d.name.word ≡ none = ap (body_number (table_of v)) (own_number k d e) ∙ rw (e, body_number) f in
          sym (ap (λ (o : Option Action). any_name (chain_over (table_of v) 15) (calls_in (act_or o))) b) ∙ there

-- the place of the name of the declaration k, which is the token p
module _ {records decls : List ℕ} {m n k p : ℕ} (l : k < m) (at : p ≡ cell 2 decls k) where
  pub name_there : (v : Reading records decls m n) → (p < length v.tokens)
      × (token_at v.tokens p ≡ tk Name (declared_of (declares v k l).declaration).name)
  name_there v = rw at (name_token (declares v k l).stands)

  pub name_room : Reading records decls m n → 8 * p + 8 ≤ length records
  name_room v = omega (arith, (name_there v).0, v.ready.holds.record_room)

  pub place_small : {q : ℕ} → q ≡ place_cell records p → Reading records decls m n → q ≤ 32768
  place_small e v =
      let x = v.ready.holds.entry p (name_there v).0 in
      omega (arith, e, x.place, x.inside, v.ready.holds.short)

  pub place_is : {q : ℕ} → q ≡ place_cell records p → (v : Reading records decls m n) (d : Declared) → get_elem? (table_of v) k ≡ some d → q ≡ d.name.place
  place_is e v d f =
      let same : declared_of (declares v k l).declaration ≡ d = cc (declares v k l).found in
      e ∙ ((v.ready.holds.entry p (name_there v).0).place ∙ (ap (λ (t : Token). t.info.place) (name_there v).1 ∙ ap
      (λ (x : Declared). x.name.place) same))

  pub chained : (w : List ℕ) {b : Bool} {q key : ℕ} → b ≡ holds w k → b ≡ true → q ≡ place_cell records p → key ≡ number_key (fault 51 q)
      → (v : Reading records decls m n) (d : Declared) → get_elem? (table_of v) k ≡ some d → key ≡ least_number_key (when (holds w k) 51 d.name.place)
  chained w {b} {q} g t e h v d f =
      h ∙ (sym (when_key true 51 q (omega arith) (place_small e v))
      ∙ (ap (λ (x : ℕ). least_number_key (when true 51 x)) (place_is e v d f) ∙ ap (λ (x : Bool). least_number_key (when x 51 d.name.place)) (sym t ∙ g)))

pub unchained : (w : List ℕ) (k : ℕ) {b : Bool} → b ≡ holds w k → b ≡ false → (place : ℕ) → no_key ≡ least_number_key (when (holds w k) 51 place)
unchained w k g t place = sym (ap (λ (x : Bool). least_number_key (when x 51 place)) (sym g ∙ t) ∙ least_none number_key)

-- levels one above the other
pub record Climbing (records decls : List ℕ) (m n : ℕ) (w : List ℕ) (k : ℕ) : Type 0 where
  pub low : 1 ≤ k
  pub high : k ≤ longest_chain
  pub reading : Reading records decls m n
  pub so_far : (v : Reading records decls m n) → Levelled (table_of v) w false k

pub first_level : {records decls : List ℕ} {m n : ℕ} (w r : List ℕ) → Reading records decls m n
    → ((v : Reading records decls m n) (j : ℕ) → holds r j ≡ (ltb j m && activates_one (table_of v) (in_level (table_of v) w true) j))
    → Climbing records decls m n r 1
first_level {m = m} w r x h = record {
  low = omega arith;
  high = omega arith;
  reading = x;
  so_far = λ v. level_more (table_of v) m 0 w r true (table_size_lem v) (level_all (table_of v) w) (h v);
}

module _ {records decls : List ℕ} {m n : ℕ} {w : List ℕ} {k : ℕ} (inv : Climbing records decls m n w k) where
  pub climb : (r : List ℕ) → k < 16 → ((v : Reading records decls m n) (j : ℕ) → holds r j
      ≡ (ltb j m && activates_one (table_of v) (in_level (table_of v) w false) j))
      → Climbing records decls m n r (k + 1)
  climb r l h = record {
    low = omega arith;
    high = omega arith;
    reading = inv.reading;
    so_far = λ v. rw (add-one k) (level_more (table_of v) m k w r false (table_size_lem v) (inv.so_far v) (h v));
  }

  pub nothing_above : {e : Bool} → e ≡ true → (e ≡ true → (j : ℕ) → holds w j ≡ false) → (v : Reading records decls m n) → Levelled
      (table_of v) w false longest_chain
  nothing_above t h v = level_none (table_of v) k longest_chain w inv.high (inv.so_far v) (h t)

  pub at_top : 16 ≤ k → (v : Reading records decls m n) → Levelled (table_of v) w false longest_chain
  at_top h v = let e : k ≡ 16 = omega (arith, inv.high) in rw e at (inv.so_far v)

-- the faults of 51, declaration by declaration
abbrev itself : {records decls : List ℕ} {m n : ℕ} → Reading records decls m n → Reading records decls m n
itself v = v

abbrev chains_of : {records decls : List ℕ} {m n : ℕ} → Reading records decls m n → Table → List Fault
chains_of v ds = chains (table_of v) ds

abbrev pub Chained : List ℕ → List ℕ → ℕ → ℕ → ℕ → ℕ → Type 0
Chained records decls m n key k = Gathered {W = Reading records decls m n} itself chains_of key k

pub none_chained : {records decls : List ℕ} {m n : ℕ} → Reading records decls m n → Chained records decls m n no_key 0
none_chained x = gather_none itself chains_of x

module _ {records decls : List ℕ} {m n : ℕ} {w : List ℕ} (top : (v : Reading records decls m n) → Levelled (table_of v) w false longest_chain) where
  pub chain_more : {key k r next : ℕ} → k < m → next ≡ min key r
      → ((v : Reading records decls m n) (d : Declared) → get_elem? (table_of v) k ≡ some d → r ≡ least_number_key (when (holds w k) 51 d.name.place))
      → Chained records decls m n key k → Chained records decls m n next (k + 1)
  unfolding chains
  chain_more {k = k} h q e inv =
      gather_more itself chains_of (λ v d. when (begins_chain (table_of v) d.name.word d.body) 51 d.name.place) (λ v d ds. refl) h q
      (λ v d f. e v d f ∙ ap (λ (b : Bool). least_number_key (when b 51 d.name.place)) (begins_level v w (top v) k d f)) inv

  pub chains_all : {key k : ℕ} → m ≤ k → Chained records decls m n key k → (v : Reading records decls m n) → key ≡ least_number_key
      (chains (table_of v) (table_of v))
  unfolding chains
  chains_all h inv v = gathered_all itself chains_of (λ w. refl) h inv v
