-- Laws of gathering: no chain of activations is over 16 bodies long, so each body is gathered once and is right.
use Prim.Native.Nat.{ℕ, zero, suc, ◌+◌, ◌-◌, ◌*◌, ◌/◌, ◌%◌, ◌<◌, ◌≤◌}
use Rattle.std.specs.Prelude.{◌≡◌, refl, Bool, true, List, [], ◌∷◌, ◌++◌, eqb, length, drop, Some, None}
use Rattle.std.proofs.Math.Path.{sym, ap}
use Rattle.std.proofs.Common.{◌∙◌, subst, append_assoc, append-nil}
use Rattle.std.proofs.Math.Bool.{false}
use Rattle.std.proofs.lemmas.Bool.{false≢true}
use Rattle.std.proofs.Math.Option.{Option, some, none-ne-some, some-injective}
use native.Mathlib.Omega.{arith}
use Rattle.std.proofs.Math.Decide.{dec_lt}
use Rattle.cells.specs.Cells.{cell}
use Rattle.rules.specs.Text.Tokens.{Name, Token, tk, kind_no}
use Rattle.rules.specs.Declarations.{Word, declared_of, number_of, reach, reach_number, body_number, body_of}
use Rattle.rules.specs.Steps.Runs.{body_act, act_or}
use Rattle.rules.specs.Limits.{longest_chain}
use Rattle.rules.specs.Whole.Sets.{Sets, owner, owner_in, sets_of, body_sets, stops_in, body_stops, calls_in, any_name, chain_over, member}
use Rattle.records.specs.Holds.{kind_byte, token_at, inside_cell}
use Rattle.records.specs.Words.{word_at}
use Rattle.laws_orders.proofs.Orders.Chains.{sets_closed, stops_closed}
use Rattle.laws_orders.proofs.Orders.Tests.{or_neither}
use Rattle.reading.specs.Reading.{Reading, table_of}
use Rattle.reading.specs.Laws.Reading.{kinded}
use Rattle.reading.specs.Laws.Names.{number_bound}
use Rattle.reading.specs.Meanings.{declares}
use Rattle.reading.specs.Laws.Meanings.{means_number, means_nothing, table_size_lem}
use Rattle.chains.specs.Laws.Least.{name_there, own_number}
use Rattle.reading.specs.Events.{heard}
use Rattle.reading.specs.Laws.Touches.{act_reads, act_writes, act_stops}
use Rattle.reading.specs.Touches.{read_hit, write_hit, stop_hit}
use Rattle.reading.specs.Calls.{calls_of, NextCall}
use Rattle.reading.specs.Bodies.{act_at, Body}
use Rattle.reading.specs.Laws.Bodies.{any_of_body, body_calls}
use Rattle.reading.specs.Bits.{holds}
use Rattle.reading.specs.Names.{Owned}
use Rattle.gathering.specs.Memory.{Put, Stored, mark_of, carrier_of, mark_for, Entry, CarrierOf, Carrying, Remembers}
use Rattle.gathering.specs.Laws.Memory.{entry_kept}
use Rattle.gathering.specs.Shown.{Shown, AllRecalled, Gathers}
use Rattle.gathering.specs.Filling.{AllDone, Grows, Fillable, Fills, Complete}

all_recalled : {records decls : List ℕ} {m n : ℕ} (v : Reading records decls m n) (memo : List ℕ) → Remembers v memo → (ws : List Word) → AllDone v memo ws
    → AllRecalled v memo ws
all_recalled v memo r [] h = tt
all_recalled v memo r (w ∷ ws) h = (record { entry = λ k e. r.right k (h.0.marked k e) w e }, all_recalled v memo r ws h.1)

all_kept : {records decls : List ℕ} {m n : ℕ} (v : Reading records decls m n) (old new : List ℕ) → ((k : ℕ) → (mark_of old k ≡ 0 → ⊥) → mark_of new k ≡ 0 → ⊥)
    → (ws : List Word)
    → AllDone v old ws → AllDone v new ws
all_kept v old new k [] h = tt
all_kept v old new k (w ∷ ws) h = (record { marked = λ j e. k j (h.0.marked j e) }, all_kept v old new k ws h.1)

all_done_append : {records decls : List ℕ} {m n : ℕ} (v : Reading records decls m n) (memo : List ℕ) (xs ys : List Word) → AllDone v memo xs
    → AllDone v memo ys → AllDone v memo (xs ++ ys)
all_done_append v memo [] ys a b = b
all_done_append v memo (x ∷ xs) ys a b = (a.0, all_done_append v memo xs ys a.1 b)

-- THE BODY k is stored: what was heard of it is what the rules say of every name that has this number
module _ {records decls : List ℕ} {m n k : ℕ} (v : Reading records decls m n) (short : (w : Word) → chain_over (table_of v) longest_chain w ≡ false) where
  act_of : (w : Word) → number_of (table_of v) w ≡ some k → body_act (table_of v) w ≡ act_at (table_of v) k
  unfolding body_act body_of
  act_of w e = ap (λ (o : Option ℕ). act_or (body_number (table_of v) o)) e

  body_entry : {memo r w : List ℕ} {s : Bool} → ((c : ℕ) → holds r c ≡ member c
      (sets_of (table_of v) (body_sets (table_of v) longest_chain) (act_at (table_of v) k)).reads)
      → ((c : ℕ) → holds w c ≡ member c (sets_of (table_of v) (body_sets (table_of v) longest_chain) (act_at (table_of v) k)).writes)
      → s ≡ stops_in (body_stops (table_of v) longest_chain) (act_at (table_of v) k)
      → {old : List ℕ} → Stored old memo k r w (mark_for s) → (x : Word) → number_of (table_of v) x ≡ some k
      → Entry memo k (body_sets (table_of v) longest_chain x) (body_stops (table_of v) longest_chain x)
  body_entry {s = s} a b c st x e =
      let ds = table_of v in
      let same : sets_of ds (body_sets ds longest_chain) (act_at ds k) ≡ body_sets ds longest_chain x =
      ap (sets_of ds (body_sets ds longest_chain)) (sym (act_of x e)) ∙ sets_closed ds longest_chain x (short x) in
      record {
        reads = λ j. st.reads j ∙ (a j ∙ ap (λ (y : Sets). member j y.reads) same);
        writes = λ j. st.writes j ∙ (b j ∙ ap (λ (y : Sets). member j y.writes) same);
        stopping = ap (λ (y : ℕ). eqb y 2) st.marked ∙ (marks s
            ∙ (c ∙ (ap (stops_in (body_stops ds longest_chain)) (sym (act_of x e)) ∙ stops_closed ds longest_chain x (short x))));
      }
    where
      marks : (s : Bool) → eqb (mark_for s) 2 ≡ s
      marks true = refl
      marks false = refl

  pub stored_right : {old new r w : List ℕ} {s : Bool} → Remembers v old
      → ((c : ℕ) → holds r c ≡ member c (sets_of (table_of v) (body_sets (table_of v) longest_chain) (act_at (table_of v) k)).reads)
      → ((c : ℕ) → holds w c ≡ member c (sets_of (table_of v) (body_sets (table_of v) longest_chain) (act_at (table_of v) k)).writes)
      → s ≡ stops_in (body_stops (table_of v) longest_chain) (act_at (table_of v) k) → Stored old new k r w (mark_for s) → Remembers v new
  stored_right {old} {new} o a b c st = record { right = λ j n x e. by j n x e (dec_lt j k) (dec_lt k j) }
    where
      other : (j : ℕ) → (j ≡ k → ⊥) → (mark_of new j ≡ 0 → ⊥) → (x : Word) → number_of (table_of v) x ≡ some j → Entry new j (body_sets (table_of v) longest_chain x)
          (body_stops (table_of v) longest_chain x)
      other j ne n x e = entry_kept st j ne (o.right j (λ z. n (ap (λ (y : ℕ). y % 65536) (st.elsewhere (9 * j) (λ p q. ne (omega arith))) ∙ z)) x e)

      by : (j : ℕ) → (mark_of new j ≡ 0 → ⊥) → (x : Word) → number_of (table_of v) x ≡ some j → Dec (j < k) → Dec (k < j)
          → Entry new j (body_sets (table_of v) longest_chain x) (body_stops (table_of v) longest_chain x)
      by j n x e (yes l) _ = other j (λ z. omega arith) n x e
      by j n x e (no _) (yes l) = other j (λ z. omega arith) n x e
      by j n x e (no p) (no q) =
          let z : j ≡ k = omega arith in
          subst (λ (y : ℕ). Entry new y (body_sets (table_of v) longest_chain x) (body_stops (table_of v) longest_chain x)) (sym z)
          (body_entry a b c st x (e ∙ ap some z))

-- storing marks the entry, and unmarks none
is_marked : (s : Bool) → mark_for s ≡ 0 → ⊥
is_marked true e = omega arith
is_marked false e = omega arith

stored_kept : {old new r w : List ℕ} {k : ℕ} (s : Bool) → Stored old new k r w (mark_for s) → (j : ℕ) → (mark_of old j ≡ 0 → ⊥) → mark_of new j ≡ 0 → ⊥
stored_kept {new = new} {k = k} s st j n z = by (dec_lt j k) (dec_lt k j)
  where
    by : Dec (j < k) → Dec (k < j) → ⊥
    by (yes l) _ = n (ap (λ (y : ℕ). y % 65536) (sym (st.elsewhere (9 * j) (λ p q. omega arith))) ∙ z)
    by (no _) (yes l) = n (ap (λ (y : ℕ). y % 65536) (sym (st.elsewhere (9 * j) (λ p q. omega arith))) ∙ z)
    by (no p) (no q) = let e : j ≡ k = omega arith in is_marked s (sym st.marked ∙ (ap (mark_of new) (sym e) ∙ z))

-- storing keeps the carriers
stored_carriers : {old new r w : List ℕ} {k mark : ℕ} → Stored old new k r w mark → (j : ℕ) → carrier_of new j ≡ carrier_of old j
stored_carriers {old} {new} {k = k} st j = by (dec_lt j k) (dec_lt k j)
  where
    by : Dec (j < k) → Dec (k < j) → carrier_of new j ≡ carrier_of old j
    by (yes l) _ = ap (λ (y : ℕ). y / 65536 % 65536) (st.elsewhere (9 * j) (λ p q. omega arith))
    by (no _) (yes l) = ap (λ (y : ℕ). y / 65536 % 65536) (st.elsewhere (9 * j) (λ p q. omega arith))
    by (no p) (no q) = let e : j ≡ k = omega arith in ap (carrier_of new) e ∙ (st.carrier ∙ ap (carrier_of old) (sym e))

carriers_kept : {records decls old new : List ℕ} {m n : ℕ} → Carrying records decls old m n → ((k : ℕ) → carrier_of new k ≡ carrier_of old k)
    → Carrying records decls new m n
carriers_kept c s = record { carries = λ v k l. subst (CarrierOf v k) (sym (s k)) (c.carries v k l) }

-- with what is gathered below a body
pub still_carrying : {records decls memo below : List ℕ} {m n : ℕ} → Fillable records decls memo m n → Grows records decls memo below m n
    → Carrying records decls below m n
still_carrying f g = carriers_kept f.carrying g.carriers

module _ {records decls memo : List ℕ} {m n i k : ℕ} (f : Fillable records decls memo m n) (h : i < n) (e : kind_byte records i ≡ kind_no Name) (q : k ≡ inside_cell records i) where
  same_memo : Grows records decls memo memo m n
  same_memo = record { remembers = f.remembers; kept = λ j a. a; carriers = λ j. refl }

  pub fill_unknown : m ≤ k → Fills records decls memo memo m n i
  fill_unknown l = record {
    grows = same_memo;
    done = λ v. record { marked = λ j x. absurd (none-ne-some j (sym (means_nothing v i k h e q l) ∙ x)) };
  }

  module _ (l : k < m) where
    own : (v : Reading records decls m n) (j : ℕ) → number_of (table_of v) (word_at v.tokens i) ≡ some j → j ≡ k
    own v j x = sym (some-injective k j (sym (means_number v i k h e q l) ∙ x))

    pub fill_done : {x : ℕ} → x ≡ mark_of memo k → (x ≡ 0 → ⊥) → Fills records decls memo memo m n i
    fill_done a b = record { grows = same_memo; done = λ v. record { marked = λ j x z. b (a ∙ (ap (mark_of memo) (sym (own v j x)) ∙ z)) } }

    -- with the body stored, behind what is gathered below it
    fill_stored : {below new r w : List ℕ} (s : Bool) → Grows records decls memo below m n → Stored below new k r w (mark_for s)
        → ((v : Reading records decls m n) (c : ℕ) → holds r c ≡ member c (sets_of (table_of v) (body_sets (table_of v) longest_chain) (act_at (table_of v) k)).reads)
        → ((v : Reading records decls m n) (c : ℕ) → holds w c ≡ member c
        (sets_of (table_of v) (body_sets (table_of v) longest_chain) (act_at (table_of v) k)).writes)
        → ((v : Reading records decls m n) → s ≡ stops_in (body_stops (table_of v) longest_chain) (act_at (table_of v) k))
        → Fills records decls memo new m n i
    fill_stored {new = new} s g st a b c = record {
      grows = record {
        remembers = λ v. stored_right v (f.short v) (g.remembers v) (a v) (b v) (c v) st;
        kept = λ j x. stored_kept s st j (g.kept j x);
        carriers = λ j. stored_carriers st j ∙ g.carriers j;
      };
      done = λ v. record { marked = λ j x z. is_marked s (sym st.marked ∙ (ap (mark_of new) (sym (own v j x)) ∙ z)) };
    }

    pub fill_bodiless : {new r w : List ℕ} (s : Bool) → ((v : Reading records decls m n) → Body v k None) → ((j : ℕ) → holds r j ≡ false) → ((j : ℕ) → holds w j ≡ false) → s ≡ false
        → Stored memo new k r w (mark_for s) → Fills records decls memo new m n i
    unfolding sets_of stops_in member
    fill_bodiless s is a b c st =
        fill_stored s same_memo st
        (λ v j. a j ∙ sym (ap (λ o. member j (sets_of (table_of v) (body_sets (table_of v) longest_chain) (act_or o)).reads) ((is v).missing refl)))
        (λ v j. b j ∙ sym (ap (λ o. member j (sets_of (table_of v) (body_sets (table_of v) longest_chain) (act_or o)).writes) ((is v).missing refl)))
        (λ v. c ∙ sym (ap (λ o. stops_in (body_stops (table_of v) longest_chain) (act_or o)) ((is v).missing refl)))

    module _ {body : ℕ} (is : (v : Reading records decls m n) → Body v k (Some body)) where
      -- a chain that is not over `left` bodies long goes down to bodies whose chains are not over one less
      pub chain_down : (left : ℕ) → ((v : Reading records decls m n) → chain_over (table_of v) left (word_at v.tokens i) ≡ false)
          → (v : Reading records decls m n) → any_name (chain_over (table_of v) (left - 1)) (calls_of (heard 0 0 (drop body v.tokens))) ≡ false
      unfolding chain_over
      chain_down left c v = by left (c v)
        where
          by : (y : ℕ) → chain_over (table_of v) y (word_at v.tokens i) ≡ false → any_name (chain_over (table_of v) (y - 1))
              (calls_of (heard 0 0 (drop body v.tokens))) ≡ false
          by zero x = absurd (false≢true (sym x))
          by (suc y) x =
              let less : suc y - 1 ≡ y = omega arith in
              ap (λ (t : ℕ). any_name (chain_over (table_of v) t) (calls_of (heard 0 0 (drop body v.tokens)))) less
              ∙ (body_calls (is v) (chain_over (table_of v) y)
              ∙ (ap (λ a. any_name (chain_over (table_of v) y) (calls_in a)) (sym (act_of v (f.short v) (word_at v.tokens i) (means_number v i k h e q l))) ∙ x))

      pub fill_body : {below new r w : List ℕ} (s : Bool) → Grows records decls memo below m n
          → ((v : Reading records decls m n) → AllDone v below (calls_of (heard 0 0 (drop body v.tokens))))
          → Gathers records decls below m n body r w s → Stored below new k r w (mark_for s) → Fills records decls memo new m n i
      fill_body {below} {new} {r} {w} s g d t st =
          fill_stored s g st
          (λ v c. (shown v).reading c ∙ (any_of_body (is v) (read_hit (table_of v) (body_sets (table_of v) longest_chain) c) ∙ sym
          (act_reads (table_of v) (body_sets (table_of v) longest_chain) c (act_at (table_of v) k))))
          (λ v c. (shown v).writing c ∙ (any_of_body (is v) (write_hit (table_of v) (body_sets (table_of v) longest_chain) c) ∙ sym
          (act_writes (table_of v) (body_sets (table_of v) longest_chain) c (act_at (table_of v) k))))
          (λ v. (shown v).stopping ∙ (any_of_body (is v) (stop_hit (body_stops (table_of v) longest_chain)) ∙ sym
          (act_stops (body_stops (table_of v) longest_chain) (act_at (table_of v) k))))
        where
          shown : (v : Reading records decls m n) → Shown v r w s (heard 0 0 (drop body v.tokens))
          shown v = t v (all_recalled v below (g.remembers v) (calls_of (heard 0 0 (drop body v.tokens))) (d v))

-- a chain goes on only where it may
pub some_left : {records decls : List ℕ} {m n : ℕ} (i left : ℕ) → Reading records decls m n
    → ((v : Reading records decls m n) → chain_over (table_of v) left (word_at v.tokens i) ≡ false) → 1 ≤ left
unfolding chain_over
some_left i left v c = by left (c v)
  where
    by : (y : ℕ) → chain_over (table_of v) y (word_at v.tokens i) ≡ false → 1 ≤ y
    by zero x = absurd (false≢true (sym x))
    by (suc y) x = omega arith

-- what is left of the activations of the action at `from`, when those before `at` are gathered
pub record Descending (records decls old memo : List ℕ) (m n from left at depth mode : ℕ) : Type 0 where
  pub shallow : depth ≤ at
  pub counted : mode ≤ at + 1
  pub size : length memo ≡ length old
  pub fillable : Fillable records decls memo m n
  pub grows : Grows records decls old memo m n
  pub short : (v : Reading records decls m n) → any_name (chain_over (table_of v) left) (calls_of (heard depth mode (drop at v.tokens))) ≡ false
  pub so_far : (v : Reading records decls m n) → (ws : List Word) × AllDone v memo ws
      × (calls_of (heard 0 0 (drop from v.tokens)) ≡ ws ++ calls_of (heard depth mode (drop at v.tokens)))

pub go_down : {records decls memo : List ℕ} {m n : ℕ} (from left : ℕ) → Fillable records decls memo m n
    → ((v : Reading records decls m n) → any_name (chain_over (table_of v) left) (calls_of (heard 0 0 (drop from v.tokens))) ≡ false)
    → Descending records decls memo memo m n from left from 0 0
go_down from left f c = record {
  shallow = omega arith;
  counted = omega arith;
  size = refl;
  fillable = f;
  grows = record { remembers = f.remembers; kept = λ j a. a; carriers = λ j. refl };
  short = c;
  so_far = λ v. ([], tt, refl);
}

module _ {records decls old memo : List ℕ} {m n from left at depth mode name next deep new_mode : ℕ} (inv : Descending records decls old memo m n from left at depth mode)
    (c : NextCall records n at depth mode name next deep new_mode) where
  pub descended : n ≤ name → (v : Reading records decls m n) → AllDone v memo (calls_of (heard 0 0 (drop from v.tokens)))
  descended h v =
      let x = inv.so_far v in
      subst (AllDone v memo) (sym (x.2 ∙ (ap (λ (l : List Word). x.0 ++ l) (c.nothing h (kinded v)) ∙ append-nil x.0))) x.1

  module _ (h : name < n) where
    parts : (v : Reading records decls m n)
        → (chain_over (table_of v) left (word_at v.tokens name) ≡ false)
        × (any_name (chain_over (table_of v) left) (calls_of (heard deep new_mode (drop next v.tokens))) ≡ false)
    unfolding any_name
    parts v = or_neither (chain_over (table_of v) left (word_at v.tokens name)) _
        (sym (ap (any_name (chain_over (table_of v) left)) ((c.found h).calls (kinded v))) ∙ inv.short v)

    pub call_short : (v : Reading records decls m n) → chain_over (table_of v) left (word_at v.tokens name) ≡ false
    call_short v = (parts v).0

    pub call_name : kind_byte records name ≡ kind_no Name
    call_name = (c.found h).is_name

    pub call_fewer : n - next < n - at
    call_fewer = let y = c.found h in omega (arith, y.low, y.high, y.within)

    pub call_done : {new : List ℕ} → length new ≡ length memo → Fills records decls memo new m n name
        → Descending records decls old new m n from left next deep new_mode
    call_done {new} same x = record {
      shallow = (c.found h).shallow;
      counted = (c.found h).counted;
      size = same ∙ inv.size;
      fillable = record {
        reading = inv.fillable.reading;
        room = omega (arith, inv.fillable.room, same);
        carrying = still_carrying inv.fillable x.grows;
        remembers = x.grows.remembers;
        short = inv.fillable.short;
      };
      grows = record {
        remembers = x.grows.remembers;
        kept = λ j a. x.grows.kept j (inv.grows.kept j a);
        carriers = λ j. x.grows.carriers j ∙ inv.grows.carriers j;
      };
      short = λ v. (parts v).1;
      so_far = λ v.
          let y = inv.so_far v in (
            y.0 ++ (word_at v.tokens name ∷ []),
            all_done_append v new y.0 _ (all_kept v memo new x.grows.kept y.0 y.1) (x.done v, tt),
            y.2 ∙ (ap (λ (l : List Word). y.0 ++ l) ((c.found h).calls (kinded v)) ∙ sym (append_assoc y.0 (word_at v.tokens name ∷ []) _)),
          );
    }

-- the room that the calls ask for
module _ {records decls memo : List ℕ} {m n : ℕ} (f : Fillable records decls memo m n) where
  pub token_room : {i : ℕ} → i < n → 8 * i + 8 ≤ length records
  token_room h = omega (arith, f.reading.count, f.reading.ready.holds.record_room)

  pub entry_room : {k : ℕ} → k < m → 72 * k + 72 ≤ length memo
  entry_room h = omega (arith, f.room)

  pub few_declared : m ≤ 256
  few_declared = f.reading.ready.few

-- the carrier under the name p of the declaration k
module _ {records decls : List ℕ} {m n k p : ℕ} (l : k < m) (at : p ≡ cell 2 decls k) where
  there : (v : Reading records decls m n) → (p < length v.tokens) × (token_at v.tokens p ≡ tk Name (declared_of (declares v k l).declaration).name)
  there v = name_there l at v

  pub name_inside : Reading records decls m n → p < n
  name_inside v = omega (arith, (there v).0, v.count)

  pub name_kind : Reading records decls m n → kind_byte records p ≡ kind_no Name
  name_kind v = (v.ready.holds.entry p (there v).0).kind ∙ ap (λ (t : Token). kind_no t.kind) (there v).1

  name_number : (v : Reading records decls m n) → number_of (table_of v) (word_at v.tokens p) ≡ some k
  name_number v = ap (λ (t : Token). number_of (table_of v) t.info.word) (there v).1 ∙ own_number v k (declared_of (declares v k l).declaration)
      (declares v k l).found

  same_owner : (v : Reading records decls m n) (w : Word) → number_of (table_of v) w ≡ some k → owner (table_of v) (word_at v.tokens p) ≡ owner (table_of v) w
  unfolding owner reach
  same_owner v w e = ap (λ (o : Option ℕ). owner_in (reach_number (table_of v) o)) (name_number v ∙ sym e)

  module _ {c : ℕ} (o : (v : Reading records decls m n) → Owned (owner (table_of v) (word_at v.tokens p)) c) where
    pub carrier_one : (v : Reading records decls m n) → CarrierOf v k c
    carrier_one v = record { owned = λ w e. subst (λ (xs : List ℕ). Owned xs c) (same_owner v w e) (o v) }

    pub carrier_none : 256 ≤ c → (v : Reading records decls m n) → CarrierOf v k 256
    carrier_none h v = record {
      owned = λ w e. record { one = λ x. absurd (omega arith); nothing = λ x. sym (same_owner v w e) ∙ (o v).nothing h };
    }

-- the carriers before k are noted
pub record Noting (records decls old memo : List ℕ) (m n k : ℕ) : Type 0 where
  pub within : k ≤ m
  pub size : length memo ≡ length old
  pub room : 72 * m ≤ length memo
  pub reading : Reading records decls m n
  pub gone : (j : ℕ) → j < k → mark_of memo j ≡ 0
  pub noted : (j : ℕ) → j < k → (v : Reading records decls m n) → CarrierOf v j (carrier_of memo j)

pub note_none : {records decls memo : List ℕ} {m n : ℕ} → Reading records decls m n → 72 * m ≤ length memo → Noting records decls memo memo m n 0
note_none x r = record { within = omega arith; size = refl; room = r; reading = x; gone = λ j l. absurd (omega arith); noted = λ j l. absurd (omega arith) }

pub note_more : {records decls old memo new : List ℕ} {m n k c : ℕ} → Noting records decls old memo m n k → k < m → length new ≡ length memo
    → c ≤ 256 → ((v : Reading records decls m n) → CarrierOf v k c) → Put memo new (9 * k) (65536 * c) → Noting records decls old new m n (k + 1)
note_more {records} {decls} {memo = memo} {new} {m} {n} {k} {c} inv h s low o p = record {
  within = omega arith;
  size = s ∙ inv.size;
  room = omega (arith, inv.room);
  reading = inv.reading;
  gone = λ j l. marks j l (dec_lt j k);
  noted = λ j l. carriers j l (dec_lt j k);
}
  where
    marks : (j : ℕ) → j < k + 1 → Dec (j < k) → mark_of new j ≡ 0
    marks j l (yes q) = ap (λ (y : ℕ). y % 65536) (p.elsewhere (9 * j) (λ e. omega arith)) ∙ inv.gone j q
    marks j l (no q) = let e : j ≡ k = omega arith in ap (mark_of new) e ∙ (ap (λ (y : ℕ). y % 65536) p.here ∙ omega arith)

    carriers : (j : ℕ) → j < k + 1 → Dec (j < k) → (v : Reading records decls m n) → CarrierOf v j (carrier_of new j)
    carriers j l (yes q) v = subst (CarrierOf v j) (ap (λ (y : ℕ). y / 65536 % 65536) (sym (p.elsewhere (9 * j) (λ e. omega arith)))) (inv.noted j q v)
    carriers j l (no q) v =
        let e : k ≡ j = omega arith in
        let here : c ≡ carrier_of new k = sym (ap (λ (y : ℕ). y / 65536 % 65536) p.here ∙ omega arith) in
        subst (λ (y : ℕ). CarrierOf v y (carrier_of new y)) e (subst (CarrierOf v k) here (o v))

module _ {records decls old memo : List ℕ} {m n k : ℕ} (inv : Noting records decls old memo m n k) (h : m ≤ k) where
  pub all_noted : Carrying records decls memo m n
  all_noted = record { carries = λ v j l. inv.noted j (omega arith) v }

  pub all_unmarked : (j : ℕ) → j < m → mark_of memo j ≡ 0
  all_unmarked j l = inv.gone j (omega arith)

-- the declarations before k are gathered
pub record Collecting (records decls old memo : List ℕ) (m n k : ℕ) : Type 0 where
  pub within : k ≤ m
  pub size : length memo ≡ length old
  pub fillable : Fillable records decls memo m n
  pub done : (j : ℕ) → j < k → mark_of memo j ≡ 0 → ⊥

pub collect_none : {records decls old memo : List ℕ} {m n : ℕ} → Reading records decls m n → 72 * m ≤ length old
    → ((v : Reading records decls m n) (w : Word) → chain_over (table_of v) longest_chain w ≡ false) → length memo ≡ length old
    → Carrying records decls memo m n
    → ((j : ℕ) → j < m → mark_of memo j ≡ 0)
    → Collecting records decls old memo m n 0
collect_none x room c s o g = record {
  within = omega arith;
  size = s;
  fillable = record {
    reading = x;
    room = omega arith;
    carrying = o;
    remembers = λ v. record { right = λ k a w e. absurd (a (g k (omega (arith, number_bound (table_of v) k w e, table_size_lem v)))) };
    short = c;
  };
  done = λ j l z. omega arith;
}

module _ {records decls old memo : List ℕ} {m n k : ℕ} (inv : Collecting records decls old memo m n k) where
  pub collected : m ≤ k → Complete records decls memo m n
  collected h = record {
    carrying = inv.fillable.carrying;
    recalls = λ v w. record {
      entry = λ j e. (inv.fillable.remembers v).right j
          (inv.done j (omega (arith, number_bound (table_of v) j w e, table_size_lem v))) w e;
    };
  }

  module _ {p : ℕ} (l : k < m) (at : p ≡ cell 2 decls k) where
    pub name_short : (v : Reading records decls m n) → chain_over (table_of v) 16 (word_at v.tokens p) ≡ false
    name_short v = inv.fillable.short v (word_at v.tokens p)

    pub collect_more : {new : List ℕ} → length new ≡ length memo → Fills records decls memo new m n p → Collecting records decls old new m n (k + 1)
    collect_more {new} s x = record {
      within = omega arith;
      size = s ∙ inv.size;
      fillable = record {
        reading = inv.fillable.reading;
        room = omega
            (arith, inv.fillable.room);
        carrying = still_carrying inv.fillable x.grows;
        remembers = x.grows.remembers;
        short = inv.fillable.short;
      };
      done = λ j h. by j h (dec_lt j k);
    }
      where
        by : (j : ℕ) → j < k + 1 → Dec (j < k) → mark_of new j ≡ 0 → ⊥
        by j h (yes q) = x.grows.kept j (inv.done j q)
        by j h (no q) = λ z. let v = inv.fillable.reading in let e : j ≡ k = omega arith in (x.done v).marked k (name_number l at v) (ap (mark_of new) (sym e) ∙ z)
