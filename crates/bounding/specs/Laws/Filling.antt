-- Laws of filling: no chain of activations is over 16 bodies long, so each body's count is known once those that it activates are, and it is right.
use Prim.Native.Nat.{ℕ, zero, suc, ◌+◌, ◌-◌, ◌*◌, ◌<◌, ◌≤◌}
use Rattle.std.specs.Prelude.{◌≡◌, Bool, ◌||◌, List, [], ◌∷◌, map, length, drop, Some, None}
use Rattle.std.proofs.Math.Path.{refl, sym, ap}
use Rattle.std.proofs.Common.{◌∙◌}
use Rattle.std.proofs.Math.Bool.{false}
use Rattle.std.proofs.lemmas.Bool.{false≢true}
use Rattle.std.proofs.Math.Option.{Option, none, some, none-ne-some, some-injective}
use native.Mathlib.Omega.{arith}
use Rattle.std.proofs.Math.Decide.{dec_lt}
use borrow.Author.Tests.{ne_eqb}
use Rattle.std.proofs.Math.ListN.{get_elem?}
use Rattle.cells.specs.Cells.{cell, put_cell}
use Rattle.cells.proofs.Laws.{put_size, put_same}
use Rattle.rules.specs.Text.Tokens.{kind_no, Name}
use Rattle.rules.specs.Grammar.Trees.{Action, Declaration, action_tokens}
use Rattle.rules.specs.Limits.{deepest, longest_chain}
use Rattle.rules.specs.Declarations.{Word, Table, Declared, declared_of, number_of, body_of, body_number}
use Rattle.rules.specs.Steps.Runs.{body_act, act_or}
use Rattle.rules.specs.Whole.Sets.{calls_in, any_name, chain_over}
use Rattle.laws_grammar.specs.Cited.Nesting.{action_nest}
use Rattle.laws_orders.proofs.Orders.Tests.{or_neither}
use Rattle.bounds.specs.Cited.Counts.{endless, count_down}
use Rattle.bounds.specs.Walk.{walk}
use Rattle.bounds.proofs.WalkLaws.{count_none}
use Rattle.records.specs.Holds.{kind_byte}
use Rattle.records.specs.Words.{word_at}
use Rattle.table.specs.Declarations.{declaration_list, all_declared}
use Rattle.links.specs.Laws.Layout.{body_shallow}
use Rattle.reading.specs.Reading.{Reading, table_of}
use Rattle.reading.specs.Meanings.{declares}
use Rattle.reading.specs.Bodies.{act_at, Body}
use Rattle.reading.specs.Events.{heard}
use Rattle.reading.specs.Calls.{calls_of, NextCall}
use Rattle.reading.specs.Laws.Reading.{kinded}
use Rattle.reading.specs.Laws.Names.{number_bound}
use Rattle.reading.specs.Laws.Meanings.{table_size_lem}
use Rattle.reading.specs.Laws.Bodies.{body_calls}
use Rattle.counting.specs.Machine.{run, outset}
use Rattle.reading.specs.Indexes.{undeclared, number_or, index_of}
use Rattle.walking.specs.Walking.{table_size, Scene}
use Rattle.walking.specs.Going.{Beginning, Walked}
use Rattle.bounding.specs.Filling.{Ready, count_in, unknown, Known, Right, ShortFrom, calls_from, Blank, Fillable, Grows, Fills, Descends}
use Rattle.bounding.specs.Laws.Machine.{body_read}
use Rattle.counting.specs.Laws.Holding.{count_here}
use Rattle.bounding.specs.Laws.Knowing.{no_chains, count_some, low_counts, body_known}

-- the first k counts are taken away
pub record Blanking (first table : List ℕ) (k : ℕ) : Type 0 where
  pub size : length table ≡ length first
  pub few : k ≤ undeclared
  pub room : table_size ≤ length table
  pub clear : (j : ℕ) → j < k → cell 8 table j ≡ 0

pub none_blank : {table : List ℕ} → table_size ≤ length table → Blanking table table 0
none_blank h = record { size = refl; few = omega arith; room = h; clear = λ j l. absurd (omega arith) }

pub one_blank : {first old new : List ℕ} {k : ℕ} → Blanking first old k → k < 256 → new ≡ put_cell 8 old k 0 → Blanking first new (k + 1)
one_blank {first} {old} {new} {k} b h p =
    let size = put_size 8 old new k 0 p in
    record {
      size = size ∙ b.size;
      few = omega arith;
      room = omega (arith, b.room);
      clear = λ j l. by j l (dec_lt j k);
    }
  where
    by : (j : ℕ) → j < k + 1 → Dec (j < k) → cell 8 new j ≡ 0
    by j l (yes a) = put_same 8 old new k 0 p j (λ e. omega arith) ∙ b.clear j a
    by j l (no a) = let e : j ≡ k = omega arith in ap (cell 8 new) e ∙ count_here old new k 0 p (omega (arith, b.room)) (omega arith)

pub last_room : {first table : List ℕ} {k : ℕ} → Blanking first table k → 8 * 256 + 8 ≤ length table
last_room b = omega (arith, b.room)

pub all_blank : {first old new : List ℕ} {k : ℕ} → Blanking first old k → 256 ≤ k → new ≡ put_cell 8 old 256 1 → Blank first new
all_blank {old = old} {new} b h p = record {
  size = put_size 8 old new 256 1 p ∙ b.size;
  clear = λ j l. put_same 8 old new 256 1 p j (λ e. omega arith) ∙ b.clear j (omega arith);
  last = count_here old new 256 1 p (last_room b) (omega arith);
}

-- a declaration of the table is one of the list
listed : (list : List Declaration) (k : ℕ) (d : Declared) → get_elem? (map declared_of list) k ≡ some d → (x : Declaration) × (get_elem? list k ≡ some x) × (declared_of x ≡ d)
listed [] k d e = absurd (none-ne-some d e)
listed (x ∷ list) zero d e = (x, refl, some-injective (declared_of x) d e)
listed (x ∷ list) (suc k) d e = listed list k d e

-- the names of an index
index_number : (ds : Table) (w : Word) (k : ℕ) → k < undeclared → index_of ds w ≡ k → number_of ds w ≡ some k
index_number ds w k l e = by (number_of ds w) e
  where
    by : (o : Option ℕ) → number_or o ≡ k → o ≡ some k
    by none e = absurd (omega arith)
    by (some j) e = ap some e

index_declared : {records decls : List ℕ} {m n : ℕ} (v : Reading records decls m n) (w : Word) (k : ℕ) → (k ≡ undeclared → ⊥) → k ≡ index_of (table_of v) w → k < m
index_declared {m = m} v w k n e = by (number_of (table_of v) w) refl e
  where
    by : (o : Option ℕ) → number_of (table_of v) w ≡ o → k ≡ number_or o → k < m
    by none h q = absurd (n q)
    by (some j) h q = omega (arith, number_bound (table_of v) j w h, table_size_lem v)

-- the counts that a table has, for a walk
scene : {records decls table : List ℕ} {m n : ℕ} (v : Ready records decls m n) → Right v table → table_size ≤ length table → Scene records table m n
scene {decls = decls} {table} v right h = record {
  decls = decls;
  reading = v.reading;
  counts = count_in v table;
  knows = λ w. refl;
  low = low_counts (table_of v.reading) (count_in v table) right.counts;
  room = h;
}

-- the body of the declaration k
module _ {records decls : List ℕ} {m n : ℕ} (v : Reading records decls m n) (k b : ℕ) (within : k < m) (is : Body v k (Some b)) where
  abbrev act : Action
  act = (is.there refl).0

  its : (declared_of (declares v k within).declaration).body ≡ some act
  unfolding body_number
  its = sym (rw ((declares v k within).found, body_number)) ∙ (is.there refl).1

  shallow : action_nest act ≤ deepest
  shallow =
      let D = declares v k within in
      let x = listed (declaration_list v.description) k (declared_of D.declaration) (ap (λ (l : Table). get_elem? l k) (sym (all_declared v.description)) ∙ D.found) in
      omega (arith, body_shallow v.description k x.0 act x.1 (ap (λ (y : Declared). y.body) x.2 ∙ its), v.ready.shallow)

  walked : (counts : Word → ℕ) → run counts 0 outset (drop b v.tokens) ≡ walk counts act 0
  walked counts =
      let q = (is.there refl).2 in
      let y = (is.there refl).3 in
      ap (run counts 0 outset) (y.1 ∙ ap (λ a. action_tokens a y.0) q.is)
      ∙ (body_read counts q.opens q.first q.others y.0 (omega (arith, shallow, ap action_nest q.is)) ∙ ap (λ a. walk counts a 0) (sym q.is))

act_of : (ds : Table) (w : Word) (k : ℕ) → number_of ds w ≡ some k → body_act ds w ≡ act_at ds k
unfolding body_act body_of
act_of ds w k e = ap (λ (o : Option ℕ). act_or (body_number ds o)) e

-- the count of the index k is put behind what was known
module _ {records decls : List ℕ} (old new : List ℕ) {m n k c : ℕ} (few : k < undeclared) (here : cell 8 new k ≡ c)
    (same : (j : ℕ) → (j ≡ k → ⊥) → cell 8 new j ≡ cell 8 old j)
    (is : (v : Ready records decls m n) (w : Word) → number_of (table_of v.reading) w ≡ some k → c ≡ count_down (table_of v.reading) longest_chain w) where
  put_right : (v : Ready records decls m n) → Right v old → Right v new
  put_right v r = record { counts = λ w a. by w a (dec_lt (index_of (table_of v.reading) w) k) (dec_lt k (index_of (table_of v.reading) w)) }
    where
      other : (w : Word) → (count_in v new w ≡ 0 → ⊥) → (index_of (table_of v.reading) w ≡ k → ⊥) → count_in v new w ≡ count_down (table_of v.reading) longest_chain w
      other w a h = let e = same (index_of (table_of v.reading) w) h in e ∙ r.counts w (λ z. a (e ∙ z))

      by : (w : Word) → (count_in v new w ≡ 0 → ⊥) → Dec (index_of (table_of v.reading) w < k) → Dec (k < index_of (table_of v.reading) w)
          → count_in v new w ≡ count_down (table_of v.reading) longest_chain w
      by w a (yes l) _ = other w a (λ e. omega arith)
      by w a (no _) (yes l) = other w a (λ e. omega arith)
      by w a (no p) (no q) =
          let e : index_of (table_of v.reading) w ≡ k = omega arith in
          ap (cell 8 new) e ∙ (here ∙ is v w (index_number (table_of v.reading) w k few e))

  put_kept : (c ≡ 0 → ⊥) → (j : ℕ) → (cell 8 old j ≡ 0 → ⊥) → cell 8 new j ≡ 0 → ⊥
  put_kept some_there j a z = by (dec_lt j k) (dec_lt k j)
    where
      by : Dec (j < k) → Dec (k < j) → ⊥
      by (yes l) _ = a (sym (same j (λ e. omega arith)) ∙ z)
      by (no _) (yes l) = a (sym (same j (λ e. omega arith)) ∙ z)
      by (no p) (no q) = let e : j ≡ k = omega arith in some_there (sym here ∙ (ap (cell 8 new) (sym e) ∙ z))

module _ {records decls table room : List ℕ} {m n i : ℕ} (f : Fillable records decls table room m n) (h : i < n) where
  pub to_index : (8 * i + 8 ≤ length records) × (m ≤ 256)
  to_index = let v = f.ready.reading in (omega (arith, (kinded v).room), v.ready.few)

  module _ (e : kind_byte records i ≡ kind_no Name) {k : ℕ}
      (low : k ≤ 256)
      (index : (decls : List ℕ) (n : ℕ) (v : Reading records decls m n) → i < n → kind_byte records i ≡ kind_no Name → k ≡ index_of (table_of v) (word_at v.tokens i)) where
    own : (v : Ready records decls m n) → k ≡ index_of (table_of v.reading) (word_at v.reading.tokens i)
    own v = index decls n v.reading h e

    pub index_room : 8 * k + 8 ≤ length table
    index_room = omega (arith, f.table_room)

    unchanged : Grows records decls table table m n
    unchanged = record { right = f.right; kept = λ j a. a }

    pub fill_known : {c : ℕ} → c ≡ cell 8 table k → (c ≡ 0 → ⊥) → Fills records decls table table m n i
    fill_known a b = record { grows = unchanged; done = λ v. record { there = λ z. b (a ∙ (ap (cell 8 table) (own v) ∙ z)) } }

    module _ {c : ℕ} (a : c ≡ cell 8 table k) (b : c ≡ 0) where
      pub declared : k < m
      declared = index_declared f.ready.reading _ k (λ z. f.last (ap (cell 8 table) (sym z) ∙ (sym a ∙ b))) (own f.ready)

      few : k < undeclared
      few = omega (arith, declared, f.ready.reading.ready.few)

      number : (v : Ready records decls m n) → number_of (table_of v.reading) (word_at v.reading.tokens i) ≡ some k
      number v = index_number (table_of v.reading) _ k few (sym (own v))

      -- with the count put, behind what is known below it
      fill_put : {below new : List ℕ} {x : ℕ} → Grows records decls table below m n → length below ≡ length table → x ≤ endless → new ≡ put_cell 8 below k x
          → ((v : Ready records decls m n) (w : Word) → number_of (table_of v.reading) w ≡ some k → x ≡ count_down (table_of v.reading) longest_chain w)
          → Fills records decls table new m n i
      fill_put {below} {new} {x} g size low_x p is =
          let here : cell 8 new k ≡ x = count_here below new k x p (omega (arith, index_room)) low_x in
          let same = put_same 8 below new k x p in
          let some_there : x ≡ 0 → ⊥ = λ z. count_some (table_of f.ready.reading) _ (sym (is f.ready _ (number f.ready)) ∙ z) in
          record {
            grows = record {
              right = λ v. put_right below new few here same is v (g.right v);
              kept = λ j y. put_kept below new few here same is some_there j (g.kept j y);
            };
            done = λ v. record { there = λ z. some_there (sym here ∙ (ap (cell 8 new) (own v) ∙ z)) };
          }

      pub fill_bodiless : {new : List ℕ} → ((v : Reading records decls m n) → Body v k None) → new ≡ put_cell 8 table k 1 → Fills records decls table new m n i
      unfolding body_of
      fill_bodiless is p =
          fill_put unchanged refl (omega arith) p
          (λ v w q. count_none (table_of v.reading) 15 w (ap (body_number (table_of v.reading)) q ∙ (is v.reading).missing refl))

      module _ {body : ℕ} (is : (v : Reading records decls m n) → Body v k (Some body)) where
        -- a chain that is not over `left` bodies long goes down to bodies whose chains are not over one less
        pub chain_down : (left : ℕ) → ((v : Ready records decls m n) → ShortFrom v i left)
            → (v : Ready records decls m n) → any_name (chain_over (table_of v.reading) (left - 1)) (calls_from v body) ≡ false
        unfolding chain_over
        chain_down left short v = by left (short v)
          where
            by : (y : ℕ) → ShortFrom v i y → any_name (chain_over (table_of v.reading) (y - 1)) (calls_from v body) ≡ false
            by zero x = absurd (false≢true (sym x))
            by (suc y) x =
                let ds = table_of v.reading in
                let less : suc y - 1 ≡ y = omega arith in
                ap (λ t. any_name (chain_over ds t) (calls_from v body)) less
                ∙ (body_calls (is v.reading) (chain_over ds y)
                ∙ (ap (λ a. any_name (chain_over ds y) (calls_in a)) (sym (act_of ds (word_at v.reading.tokens i) k (number v))) ∙ x))

        module _ {below : List ℕ} (d : Descends records decls table below m n body) (size : length below ≡ length table) where
          pub to_walk : {now : List ℕ} → length now ≡ length room → Beginning records below now m n
          to_walk s = record { scene = scene f.ready (d.grows.right f.ready) (omega (arith, f.table_room)); space = omega (arith, f.space) }

          pub fill_body : {new : List ℕ} {x : ℕ} → Walked records below m n body x → new ≡ put_cell 8 below k x → Fills records decls table new m n i
          unfolding body_of scene
          fill_body {x = x} t p = fill_put d.grows size t.low p right
            where
              right : (v : Ready records decls m n) (w : Word) → number_of (table_of v.reading) w ≡ some k → x ≡ count_down (table_of v.reading) longest_chain w
              right v w q =
                  let ds = table_of v.reading in
                  let r = d.grows.right v in
                  let there = (is v.reading).there refl in
                  t.is (scene v r (omega (arith, f.table_room)))
                  ∙ (walked v.reading k body declared (is v.reading) (count_in v below)
                  ∙ body_known ds (count_in v below) r.counts w there.0 (ap (body_number ds) q ∙ there.1) (no_chains ds v.whole w)
                  (ap (λ a. any_name (unknown v below) (calls_in a)) (act_of ds w k q) ∙ (sym (body_calls (is v.reading) (unknown v below)) ∙ d.done v)))

-- a chain goes on only where it may
pub some_left : {records decls : List ℕ} {m n : ℕ} (i left : ℕ) → Ready records decls m n → ((v : Ready records decls m n) → ShortFrom v i left) → 1 ≤ left
unfolding chain_over
some_left i left v short = by left (short v)
  where
    by : (y : ℕ) → ShortFrom v i y → 1 ≤ y
    by zero x = absurd (false≢true (sym x))
    by (suc y) x = omega arith

-- what is left of the activations of the action at `from`, when those before `at` are known
pub record Descending (records decls old table first room : List ℕ) (m n from left at depth mode : ℕ) : Type 0 where
  pub shallow : depth ≤ at
  pub counted : mode ≤ at + 1
  pub size : length table ≡ length old
  pub room_size : length room ≡ length first
  pub fillable : Fillable records decls table room m n
  pub grows : Grows records decls old table m n
  pub short : (v : Ready records decls m n) → any_name (chain_over (table_of v.reading) left) (calls_of (heard depth mode (drop at v.reading.tokens))) ≡ false
  pub so_far : (v : Ready records decls m n) (p : Word → Bool) → ((w : Word) → Known v table w → p w ≡ false)
      → any_name p (calls_from v from) ≡ any_name p (calls_of (heard depth mode (drop at v.reading.tokens)))

pub go_down : {records decls table room : List ℕ} {m n : ℕ} (from left : ℕ) → Fillable records decls table room m n
    → ((v : Ready records decls m n) → any_name (chain_over (table_of v.reading) left) (calls_from v from) ≡ false)
    → Descending records decls table table room room m n from left from 0 0
go_down from left f c = record {
  shallow = omega arith;
  counted = omega arith;
  size = refl;
  room_size = refl;
  fillable = f;
  grows = record { right = f.right; kept = λ j a. a };
  short = c;
  so_far = λ v p k. refl;
}

module _ {records decls old table first room : List ℕ} {m n from left at depth mode name next deep new_mode : ℕ}
    (inv : Descending records decls old table first room m n from left at depth mode) (c : NextCall records n at depth mode name next deep new_mode) where
  pub descended : n ≤ name → Descends records decls old table m n from
  unfolding any_name
  descended h = record {
    grows = inv.grows;
    done = λ v.
        inv.so_far v (unknown v table) (λ w k. ne_eqb (count_in v table w) 0 k.there) ∙ ap (any_name (unknown v table)) (c.nothing h (kinded v.reading));
  }

  module _ (h : name < n) where
    parts : (v : Ready records decls m n)
        → ShortFrom v name left × (any_name (chain_over (table_of v.reading) left) (calls_of (heard deep new_mode (drop next v.reading.tokens))) ≡ false)
    unfolding any_name
    parts v =
        let over = chain_over (table_of v.reading) left in
        or_neither (over (word_at v.reading.tokens name)) _ (sym (ap (any_name over) ((c.found h).calls (kinded v.reading))) ∙ inv.short v)

    pub call_short : (v : Ready records decls m n) → ShortFrom v name left
    call_short v = (parts v).0

    pub call_name : kind_byte records name ≡ kind_no Name
    call_name = (c.found h).is_name

    pub call_fewer : n - next < n - at
    call_fewer = let y = c.found h in omega (arith, y.low, y.high, y.within)

    pub call_done : {new now : List ℕ} → length new ≡ length table → length now ≡ length room → Fills records decls table new m n name
        → Descending records decls old new first now m n from left next deep new_mode
    unfolding any_name
    call_done {new} same space x = record {
      shallow = (c.found h).shallow;
      counted = (c.found h).counted;
      size = same ∙ inv.size;
      room_size = space ∙ inv.room_size;
      fillable = record {
        ready = inv.fillable.ready;
        right = x.grows.right;
        last = x.grows.kept undeclared inv.fillable.last;
        table_room = omega (arith, inv.fillable.table_room);
        space = omega (arith, inv.fillable.space);
      };
      grows = record { right = x.grows.right; kept = λ j a. x.grows.kept j (inv.grows.kept j a) };
      short = λ v. (parts v).1;
      so_far = λ v p k.
          let rest = calls_of (heard deep new_mode (drop next v.reading.tokens)) in
          inv.so_far v p (λ w y. k w (record { there = x.grows.kept (index_of (table_of v.reading) w) y.there }))
          ∙ (ap (any_name p) ((c.found h).calls (kinded v.reading)) ∙ ap (λ b. b || any_name p rest) (k (word_at v.reading.tokens name) (x.done v)));
    }
