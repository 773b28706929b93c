-- Laws of the least key of a body: what a turn of the walk keeps.
use Rattle.std.specs.Prelude.{ℕ, zero, suc, ◌+◌, ◌-◌, ◌*◌, ◌<◌, ◌≤◌, min, ◌≡◌, refl, Bool, true, false, ◌&&◌, List, [], ◌++◌, eqb, length, take, drop, Some, None}
use Rattle.std.proofs.Math.Path.{sym, ap}
use Rattle.std.proofs.Common.{◌∙◌, subst, append-nil, arith, eq-eqb, eqb-true, length-take, length-drop, drop_of_length-le, length-take-le, take_all, drop_at}
use Rattle.std.proofs.lemmas.Bool.{false≢true}
use Rattle.std.proofs.Math.Option.{Option, none, some}
use Rattle.std.proofs.Math.ListN.{get_elem?}
use borrow.Rule.Slice.PartMut.{mid_of, put_mid, take_put, same_len_mid}
use Rattle.room.specs.Whole.{labels_from, room_size}
use Rattle.rules.specs.Text.Tokens.{END, kind_no}
use Rattle.rules.specs.Grammar.Trees.{Tokens, Action, action_tokens}
use Rattle.rules.specs.Declarations.{Declared, Table, body_number}
use Rattle.rules.specs.Faults.Fault.{Fault}
use Rattle.rules.specs.Faults.Whole.{Scope, group_faults, body_groups, groups_faults}
use Rattle.laws_accepted.proofs.Accepted.Named.{and_both}
use Rattle.records.specs.Holds.{kind_byte, token_at}
use Rattle.keys.specs.Keys.{no_key, number_key, least_number_key}
use Rattle.keys.specs.Laws.Keys.{least_append, least_bounded, least_none}
use Rattle.reading.specs.Kinds.{closes}
use Rattle.reading.specs.Reading.{Reading, table_of, Kinded}
use Rattle.reading.specs.Laws.Reading.{next_token, no_more}
use Rattle.gathering.specs.Filling.{Complete}
use Rattle.reading.specs.Groups.{more, group_at}
use Rattle.scopes.specs.Walks.{opens, walk, faults_at}
use Rattle.scopes.specs.Laws.Walks.{walk_done, walk_last, walk_body}
use Rattle.scopes.specs.Laws.Labels.{by_kinds}
use Rattle.scopes.specs.Labels.{JumpKey}
use Rattle.scopes.specs.Frames.{no_frames, Standing, Stack, Told, Turning, Turned}
use Rattle.scopes.specs.Laws.Frames.{last_open_lem, scoped_none}
use Rattle.reading.specs.Bodies.{Body}
use Rattle.chains.specs.Laws.Least.{Gathered, gather_none, gather_more, gathered_all}
use Rattle.whole.specs.Written.{Written, whole}
use Rattle.whole.specs.Laws.Written.{reading, worded}
use Rattle.table.specs.Scans.{no as number, outermost, down}
use Rattle.whole.specs.WalkKeys.{SameMemo, Roomy, memo_of, Faulty, FaultKey, labels_of, TurnedIn, Walked, BodyKey}

pub roomy_kept : {records decls old new : List ℕ} {m n : ℕ} → SameMemo old new → Roomy records decls old m n → Roomy records decls new m n
roomy_kept {records} {decls} {m = m} {n = n} s r =
    record { complete = subst (λ (l : List ℕ). Complete records decls l m n) (sym s.memo) r.complete; size = omega (arith, s.size, r.size) }

pub memo_room : {text records decls room : List ℕ} {m n : ℕ} → Written text records decls m n → Roomy records decls room m n → 72 * m ≤ length (memo_of room)
memo_room {room = room} v r = omega (arith, length-take labels_from room, v.ready.few, r.size)

module _ {text records decls room : List ℕ} {m n i kind top : ℕ} (x : Faulty text records decls room m n i kind top) {b : Bool} (e : b ≡ opens kind) where
  opens_here : {c : Bool} (v : Written text records decls m n) → b ≡ c → opens (number (token_at v.tokens i)) ≡ c
  opens_here v t = ap opens (sym (x.kind_is ∙ (by_kinds (worded v)).kind i x.within)) ∙ (sym e ∙ t)

  pub fault_group : {base known r : ℕ} → b ≡ true → ((v : Reading records decls m n) → r ≡ least_number_key (group_at (table_of v) (drop (i + 1) v.tokens)))
      → FaultKey text records decls room m n i base top known r
  unfolding faults_at
  fault_group {known = known} t h = record { key = λ v s y. ap (min known) (h (reading v) ∙ sym (rw (opens_here v t, faults_at))) }

  pub told_group : {several : Bool} → ((v : Kinded records n) → several ≡ more (drop (i + 1) v.tokens)) → Told records n i kind several
  told_group h = record { tells = λ v o. h v }

  pub told_nothing : b ≡ false → (several : Bool) → Told records n i kind several
  told_nothing t several = record { tells = λ v o. absurd (false≢true (sym t ∙ (e ∙ o))) }

  pub fault_jump : {base known r : ℕ} → b ≡ false → JumpKey text records (labels_of room) n i base top known r
      → FaultKey text records decls room m n i base top known r
  unfolding faults_at
  fault_jump {known = known} t h = record { key = λ v s y. h.key (worded v) s y ∙ ap (min known) (sym (rw (opens_here v t, faults_at))) }

-- a part of the room that goes on to its end
pub all_labels : (room : List ℕ) → take (length room - labels_from) (drop labels_from room) ≡ labels_of room
all_labels room = take_all (length room - labels_from) (drop labels_from room) (omega (arith, length-drop labels_from room))

pub turned_in : {text records : List ℕ} {n i depth base top depth₁ base₁ top₁ : ℕ} (old new : List ℕ) → room_size ≤ length old → length new ≡ length
    (mid_of labels_from (length old - labels_from) old)
    → Turned text records (mid_of labels_from (length old - labels_from) old) new n i depth base top depth₁ base₁ top₁
    → TurnedIn text records old (put_mid labels_from (length old - labels_from) old new) n i depth base top depth₁ base₁ top₁
turned_in {text} {records} {n} {i} {depth} {base} {top} {depth₁} {base₁} {top₁} old new h e t =
    let k = length old - labels_from in
    let a : labels_from ≤ length old = omega arith in
    let none_behind : drop k (drop labels_from old) ≡ [] = let l : length (drop labels_from old) ≤ k = omega (arith, length-drop labels_from old) in drop_of_length-le (drop labels_from old) l in
    let labels : drop labels_from (put_mid labels_from k old new) ≡ new =
    drop_at (take labels_from old) (new ++ drop k (drop labels_from old)) labels_from (length-take-le labels_from old a)
    ∙ (ap (λ (l : List ℕ). new ++ l) none_behind ∙ append-nil new) in
    record {
      same = record { memo = take_put labels_from k old new a; size = same_len_mid labels_from k old new e };
      turned = subst (λ (l : List ℕ). Turned text records l (drop labels_from (put_mid labels_from k old new)) n i depth base top depth₁ base₁ top₁) (all_labels old)
          (subst (λ (l : List ℕ). Turned text records (mid_of labels_from k old) l n i depth base top depth₁ base₁ top₁) (sym labels) t);
    }

-- a walk from `from` that has come to the token i
pub record SoFar {text records decls : List ℕ} {m n : ℕ} (v : Written text records decls m n) (labels : List ℕ) (from key depth base top i : ℕ) : Type 0 where
  pub scopes : List Scope
  pub scope : Scope
  pub standing : Standing v.tokens labels depth base top scopes scope
  pub least : min key (least_number_key (walk (whole v) scopes scope (token_at v.tokens (i - 1)) (drop i v.tokens)))
      ≡ least_number_key (walk (whole v) [] none (token_at v.tokens (from - 1)) (drop from v.tokens))

pub record Walking (text records decls first room : List ℕ) (m n from key depth base top i : ℕ) : Type 0 where
  pub written : Written text records decls m n
  pub roomy : Roomy records decls room m n
  pub same : SameMemo first room
  pub past : 1 ≤ from
  pub few : top + depth + from ≤ i
  pub small : key ≤ no_key
  pub stack : Stack records (labels_of room) n base top
  pub so_far : (v : Written text records decls m n) → SoFar v (labels_of room) from key depth base top i

pub walk_starts : {text records decls room : List ℕ} {m n from : ℕ} → Written text records decls m n → Roomy records decls room m n → 1 ≤ from
    → Walking text records decls room room m n from no_key 0 1 0 from
walk_starts {room = room} {from = from} w r h = record {
  written = w;
  roomy = r;
  same = record { memo = refl; size = refl };
  past = h;
  few = omega arith;
  small = omega arith;
  stack = record {
    labelled = record { room = omega arith; inside = λ j l. absurd (omega arith); names = λ j l. absurd (omega arith) };
    edge = omega arith;
    space = omega (arith, length-drop labels_from room, r.size);
  };
  so_far = λ v. record {
    scopes = [];
    scope = none;
    standing = record { scoped = scoped_none (omega arith); frames = no_frames };
    least = omega (arith, least_bounded number_key (walk (whole v) [] none (token_at v.tokens (from - 1)) (drop from v.tokens)));
  };
}

-- the END of the body itself
closing : (d k : ℕ) → closes d k ≡ true → (k ≡ kind_no END) × (d < 2)
unfolding closes
closing d k e = let x = and_both (eqb k 20) (outermost (down d)) e in (eqb-true k 20 x.0, by d x.1)
  where
    by : (d : ℕ) → outermost (down d) ≡ true → d < 2
    by zero h = omega arith
    by (suc zero) h = omega arith
    by (suc (suc d)) h = absurd (false≢true h)

not_closing : (d k : ℕ) → closes d k ≡ false → k ≡ kind_no END → 2 ≤ d
unfolding closes
not_closing zero k e q = absurd (false≢true (sym e ∙ ap (λ (b : Bool). b && true) (eq-eqb k 20 q)))
not_closing (suc zero) k e q = absurd (false≢true (sym e ∙ ap (λ (b : Bool). b && true) (eq-eqb k 20 q)))
not_closing (suc (suc d)) k e q = omega arith

module _ {text records decls first room : List ℕ} {m n from key depth base top i : ℕ} (inv : Walking text records decls first room m n from key depth base top i) where
  nothing_left : ((v : Written text records decls m n) → walk (whole v) (inv.so_far v).scopes (inv.so_far v).scope (token_at v.tokens (i - 1))
      (drop i v.tokens) ≡ [])
      → Walked text records decls first room m n from key
  nothing_left h = record {
    same = inv.same;
    least = λ v.
        let e : least_number_key (walk (whole v) (inv.so_far v).scopes (inv.so_far v).scope (token_at v.tokens (i - 1)) (drop i v.tokens)) ≡ no_key =
        ap least_number_key (h v) ∙ least_none number_key in
        omega (arith, (inv.so_far v).least, inv.small);
  }

  pub walk_over : n ≤ i → Walked text records decls first room m n from key
  walk_over h = nothing_left (λ v. ap (walk (whole v) (inv.so_far v).scopes (inv.so_far v).scope (token_at v.tokens (i - 1)))
      (no_more (by_kinds (worded v)) i h)
      ∙ walk_done (whole v) (inv.so_far v).scopes (inv.so_far v).scope (token_at v.tokens (i - 1)))

  module _ {kind : ℕ} (h : i < n) (k : kind ≡ kind_byte records i) where
    kind_no_lem : (v : Written text records decls m n) → kind ≡ number (token_at v.tokens i)
    kind_no_lem v = k ∙ (by_kinds (worded v)).kind i h

    pub walk_faulty : Faulty text records decls room m n i kind top
    walk_faulty = record { written = inv.written; roomy = inv.roomy; labelled = inv.stack.labelled; within = h; kind_is = k }

    module _ {c : Bool} (e : c ≡ closes depth kind) where
      pub walk_ended : c ≡ true → Walked text records decls first room m n from key
      walk_ended t =
          let x = closing depth kind (sym e ∙ t) in
          nothing_left (λ v.
          let y = inv.so_far v in
          ap (walk (whole v) y.scopes y.scope (token_at v.tokens (i - 1))) (next_token (by_kinds (worded v)) i h)
          ∙ walk_last (whole v) y.scopes y.scope (token_at v.tokens (i - 1)) (token_at v.tokens i) (drop (i + 1) v.tokens) (sym (kind_no_lem v) ∙ x.0)
          (last_open_lem x.1 y.standing.frames))

      pub walk_turning : {several : Bool} → Told records n i kind several → c ≡ false → Turning text records (labels_of room) n i kind several depth base top
      walk_turning told f =
          let y = inv.so_far inv.written in
          record {
            worded = worded inv.written;
            scopes = y.scopes;
            scope = y.scope;
            standing = y.standing;
            stack = inv.stack;
            within = h;
            later = omega (arith, inv.past, inv.few);
            few = omega (arith, inv.past, inv.few, inv.written.count, inv.written.ready.holds.few);
            kind_is = k;
            inner = not_closing depth kind (sym e ∙ f);
            told = told;
          }

    pub walk_on : {new : List ℕ} {r next depth₁ base₁ top₁ : ℕ} → FaultKey text records decls room m n i base top key r → next ≡ min key r
        → TurnedIn text records room new n i depth base top depth₁ base₁ top₁ → Walking text records decls first new m n from next depth₁ base₁ top₁ (i + 1)
    walk_on {new} {r} {next} {depth₁} {base₁} {top₁} f q t = record {
      written = inv.written;
      roomy = roomy_kept t.same inv.roomy;
      same = record { memo = t.same.memo ∙ inv.same.memo; size = t.same.size ∙ inv.same.size };
      past = inv.past;
      few = omega (arith, inv.few, t.turned.grown);
      small = omega (arith, inv.small);
      stack = t.turned.stack;
      so_far = λ v.
          let ts = v.tokens in
          let y = inv.so_far v in
          let o = t.turned.on (whole v) (worded v) y.scopes y.scope y.standing in
          let token : i + 1 - 1 ≡ i = omega arith in
          let rest = least_number_key (walk (whole v) o.scopes o.scope (token_at ts i) (drop (i + 1) ts)) in
          let here = least_number_key (faults_at (whole v) y.scope (token_at ts i) (drop (i + 1) ts)) in
          let step : least_number_key (walk (whole v) y.scopes y.scope (token_at ts (i - 1)) (drop i ts)) ≡ min here rest =
          ap least_number_key o.walks ∙ least_append number_key (faults_at (whole v) y.scope (token_at ts i) (drop (i + 1) ts)) _ in
          let same : min key r ≡ min key here = f.key v y.scope y.standing.scoped in
          let now : min next rest ≡ least_number_key (walk (whole v) [] none (token_at ts (from - 1)) (drop from ts)) = omega (arith, y.least) in
          record {
            scopes = o.scopes;
            scope = o.scope;
            standing = o.standing;
            least = ap (λ (z : ℕ). min next (least_number_key (walk (whole v) o.scopes o.scope (token_at ts z) (drop (i + 1) ts)))) token ∙ now;
          };
    }

module _ {text records decls : List ℕ} {m n : ℕ} (k : ℕ) where
  body_of_lem : (v : Written text records decls m n) (d : Declared) → get_elem? (whole v) k ≡ some d → body_number (whole v) (some k) ≡ d.body
  unfolding body_number
  body_of_lem v d e = rw (e, body_number)

  pub no_body_key : {room : List ℕ} → ((v : Reading records decls m n) → Body v k None) → BodyKey text records decls room room m n k no_key
  no_body_key is = record {
    same = record { memo = refl; size = refl };
    least = λ v d e. sym (ap (λ (x : Option Action). least_number_key (body_groups (whole v) x)) (sym (body_of_lem v d e) ∙ (is (reading v)).missing refl)
        ∙ least_none number_key);
  }

  pub some_body_key : {b : ℕ} {old new : List ℕ} {r : ℕ} → ((v : Reading records decls m n) → Body v k (Some b)) → Walked text records decls old new m n b r
      → BodyKey text records decls old new m n k r
  some_body_key {b} is w = record {
    same = w.same;
    least = λ v d e.
        let x = (is (reading v)).there refl in
        let y = x.2 in
        let p = token_at v.tokens (b - 1) in
        w.least v ∙ (ap (λ (l : Tokens). least_number_key (walk (whole v) [] none p l)) x.3.1
        ∙ (ap (λ (a : Action). least_number_key (walk (whole v) [] none p (action_tokens a x.3.0))) y.is
        ∙ (walk_body (whole v) y.opens y.first y.others p x.3.0
        ∙ (ap (λ (a : Action). least_number_key (group_faults (whole v) none a)) (sym y.is)
        ∙ ap (λ (o : Option Action). least_number_key (body_groups (whole v) o)) (sym x.1 ∙ body_of_lem v d e)))));
  }

-- all bodies
abbrev pub groups_of : {text records decls : List ℕ} {m n : ℕ} → Written text records decls m n → Table → List Fault
groups_of v ds = groups_faults (whole v) ds

pub record Bodies (text records decls first room : List ℕ) (m n key k : ℕ) : Type 0 where
  pub roomy : Roomy records decls room m n
  pub size : length room ≡ length first
  pub gathered : Gathered {W = Written text records decls m n} reading groups_of key k

pub bodies_none : {text records decls room : List ℕ} {m n : ℕ} → Written text records decls m n → Roomy records decls room m n
    → Bodies text records decls room room m n no_key 0
bodies_none w r = record { roomy = r; size = refl; gathered = gather_none reading groups_of w }

module _ {text records decls first room : List ℕ} {m n key k : ℕ} (inv : Bodies text records decls first room m n key k) where
  pub bodies_more : {new : List ℕ} {r next : ℕ} → k < m → BodyKey text records decls room new m n k r → next ≡ min key r
      → Bodies text records decls first new m n next (k + 1)
  unfolding groups_faults
  bodies_more h b q = record {
    roomy = roomy_kept b.same inv.roomy;
    size = b.same.size ∙ inv.size;
    gathered = gather_more reading groups_of (λ v d. body_groups (whole v) d.body) (λ v d ds. refl) h q b.least inv.gathered;
  }

  pub bodies_all : m ≤ k → (v : Written text records decls m n) → key ≡ least_number_key (groups_faults (whole v) (whole v))
  unfolding groups_faults
  bodies_all h v = gathered_all reading groups_of (λ w. refl) h inv.gathered v
