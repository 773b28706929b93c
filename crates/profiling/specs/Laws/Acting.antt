-- What a token does, by its kind.
use Rattle.std.specs.Prelude.{ℕ, zero, suc, min, ◌+◌, ◌*◌, ◌<◌, ◌≡◌, refl, Bool, true, cond, not, ◌&&◌, List, [], ◌++◌, eqb, ltb, length, drop}
use Rattle.std.proofs.Common.{sym, ap, ap₂, ◌∙◌, append-nil, arith}
use Rattle.std.proofs.Math.Path.{subst}
use Rattle.std.proofs.Math.Bool.{false, or-false}
use Rattle.std.proofs.Math.Decide.{dec_lt}
use borrow.Author.Tests.{eq-eqb, ne_eqb}
use Rattle.cells.specs.Cells.{cell}
use Rattle.rules.specs.Text.Tokens.{kind_no, Name, LPar, Comma, Semi, Becomes, Equals, BEGIN, END, NEXT, IF, DECODE, REPEAT, LEAVE, NO-OP}
use Rattle.rules.specs.Text.Scan.{same_bytes}
use Rattle.rules.specs.Limits.{deepest}
use Rattle.rules.specs.Whole.Sets.{member, owner}
use Rattle.paths.specs.Cited.Marks.{marked, added}
use Rattle.paths.specs.Cited.Least.{least}
use Rattle.paths.proofs.Least.{least_append}
use Rattle.records.specs.Holds.{kind_byte, place_cell, token_at}
use Rattle.records.specs.Words.{word_at}
use Rattle.reading.specs.Kinds.{next_no, stores}
use Rattle.scopes.specs.Walks.{next_word}
use Rattle.reading.specs.Laws.Reading.{next_token, no_more, kinded, name_at}
use Rattle.reading.specs.Reading.{Kinded, Reading, table_of}
use Rattle.reading.specs.Names.{Owned}
use Rattle.profiling.specs.Spelt.{whole}
use Rattle.profiling.specs.Laws.Spelt.{reading, spelt}
use Rattle.nesting.specs.Laws.Spelt.{place_small}
use Rattle.nesting.specs.Machine.{State, opened, closed, also, next, another, transferred, reached, chosen, looped, left, aimed, destined, activated, labelled, named, acted}
use Rattle.nesting.specs.Holding.{unseen, Book, book, Flagged, Shows, Standing, Does, Set}
use Rattle.nesting.specs.Grouping.{nest}
use Rattle.reading.specs.Indexes.{index_of}
use Rattle.profiling.specs.Walking.{Known, Scene, Acting, Acted, Named, Activates, Aims}
use Rattle.nesting.specs.Jumping.{Jumping, Left, Labels}
use Rattle.nesting.specs.Laws.Holding.{bit_test, flagged_set, set_labels, set_frames}
use Rattle.nesting.specs.declared.nests.Nest.{Nest}
use Rattle.profiling.specs.declared.tasks.Task.{Task}

pub shows_later : {ts : Book} {room : List ℕ} {i : ℕ} {x : Nest} {z : State} → i < 8192 → Shows ts room i x z → Shows ts room (i + 1) x z
shows_later {i = i} h s = record {
  space = s.space;
  few = omega arith;
  depth_is = s.depth_is;
  shallow = s.shallow;
  free_is = s.free_is;
  free_low = s.free_low;
  label_low = omega (arith, s.label_low);
  labels = s.labels;
  flag_is = s.flag_is;
  flag_low = s.flag_low;
  comes_is = s.comes_is;
  choosing_is = s.choosing_is;
  dest_is = s.dest_is;
  place_low = s.place_low;
  low_is = s.low_is;
  frames = s.frames;
  flags = s.flags;
}

-- an activation
lower_all : (l k : ℕ) (ps xs : List ℕ) (b : Bool) → l ≡ least unseen ps → k ≡ least unseen xs → cond b (min l k) l ≡ least unseen (ps ++ cond b xs [])
lower_all l k ps xs true e f = omega (arith, least_append unseen ps xs)
lower_all l k ps xs false e f = e ∙ ap (least unseen) (sym (append-nil ps))

module _ {records decls table old new : List ℕ} {t : Task} {i : ℕ} {x : Nest} (a : Acting records decls table old t i x) (name : kind_byte records i ≡ kind_no Name)
    {k : ℕ} (index : (decls : List ℕ) (n : ℕ) (v : Reading records decls t.m n) → i < n → kind_byte records i ≡ kind_no Name → k ≡ index_of (table_of v) (word_at v.tokens i))
    {other seen back sets : Bool} {place low : ℕ} where
  pub activate_shown : (other ≡ not (eqb k t.aim)) → seen ≡ eqb (cell 2 table (2 * k)) 1 → back ≡ (other && seen) → place ≡ cell 2 table (2 * k + 1)
      → low ≡ cond x.comes (min x.low place) x.low → sets ≡ (x.comes && back) → Set old new x.flag sets
      → Activates records decls table old new t i x
      (nest x.depth x.free x.label x.flag x.comes x.choosing x.destination low)
  activate_shown other_is seen_is back_is place_is low_is sets_is set g z j s =
      let w = word_at g.written.tokens i in
      let k_is : k ≡ index_of (whole g.written) w = index decls t.n (reading g.written) a.within name in
      let known : Known table k (g.known w) = subst (λ q. Known table q (g.known w)) (sym k_is) (g.knows w) in
      let ends : seen ≡ (g.known w).ends = seen_is ∙ (ap (λ q. eqb q 1) known.ends ∙ bit_test (g.known w).ends) in
      let same : eqb k t.aim ≡ same_bytes w g.test = ap (λ q. eqb q t.aim) k_is ∙ sym (g.aims w) in
      let comes_back : back ≡ (not (same_bytes w g.test) && (g.known w).ends) = back_is ∙ ap₂ ◌&&◌ (other_is ∙ ap not same) ends in
      let b : Bool = not (same_bytes w g.test) && (g.known w).ends in
      let mk = added (cond z.comes (g.known w).places []) z.marks in
      let f : Flagged old mk = record { at = s.flags.at } in
      let h : Flagged new (marked x.flag sets mk) = flagged_set set f in
      record {
        space = omega (arith, s.space, set.size);
        few = s.few;
        label_low = s.label_low;
        depth_is = s.depth_is;
        shallow = s.shallow;
        free_is = s.free_is;
        free_low = s.free_low;
        labels = set_labels s set s.flag_low;
        flag_is = s.flag_is;
        flag_low = s.flag_low;
        comes_is = s.comes_is;
        choosing_is = s.choosing_is;
        dest_is = s.dest_is;
        place_low = s.place_low;
        low_is =
            low_is ∙ (lower_all x.low place z.marks.places (g.known w).places x.comes s.low_is (place_is ∙ known.low)
            ∙ ap (λ q. least unseen (z.marks.places ++ cond q (g.known w).places [])) s.comes_is);
        frames = set_frames s set s.flag_low;
        flags = subst (λ q. Flagged new (marked q (z.comes && b) mk)) s.flag_is (subst (λ q. Flagged new (marked x.flag q mk)) (sets_is ∙ ap₂ ◌&&◌ s.comes_is comes_back) h);
      }

-- the output under a name
pub hit_is : {records decls : List ℕ} {m n out c : ℕ} (i : ℕ) {b : Bool} → out < 256 → b ≡ eqb out c
    → ((v : Reading records decls m n) → Owned (owner (table_of v) (word_at v.tokens i)) c) → (v : Reading records decls m n)
    → b ≡ member out (owner (table_of v) (word_at v.tokens i))
unfolding member
hit_is {out = out} {c} i {b} low e owned v = by (dec_lt c 256)
  where
    by : Dec (c < 256) → b ≡ member out (owner (table_of v) (word_at v.tokens i))
    by (yes l) = e ∙ (sym (or-false (eqb out c)) ∙ ap (member out) (sym ((owned v).one l)))
    by (no l) = e ∙ (ne_eqb out c (λ q. l (omega arith)) ∙ ap (member out) (sym ((owned v).nothing (omega arith))))

-- a name
module _ {records decls table old : List ℕ} {t : Task} {i : ℕ} {x : Nest} (a : Acting records decls table old t i x) where
  abbrev pub acting_reads : Reading records decls t.m t.n
  acting_reads = reading a.scene.written

  abbrev pub acting_kinds : Kinded records t.n
  acting_kinds = kinded acting_reads

  pub name_elsewhere : {mode : ℕ} → (mode ≡ 0 → ⊥) → Named records decls table old old t i mode x x
  name_elsewhere {mode} n g z s = by mode n
    where
      by : (m : ℕ) → (m ≡ 0 → ⊥) → Shows (book records g.written.tokens) old (i + 1) x
          (named (whole g.written) g.test t.out g.known m (token_at g.written.tokens i) (next_no (drop (i + 1) g.written.tokens)) z)
      by zero n = absurd (n refl)
      by (suc m) n = shows_later a.few s

  pub place_fits : {p : ℕ} → p ≡ place_cell records i → p < 65535
  place_fits e = omega (arith, place_small (spelt a.scene.written) a.within e)

  module _ (name : kind_byte records i ≡ kind_no Name) {mode : ℕ} (start : mode ≡ 0) {k : ℕ} (behind : (v : Kinded records t.n) → k ≡ next_no (drop (i + 1) v.tokens)) where
    module _ (g : Scene records decls table t) (z : State) where
      abbrev now : ℕ → State
      now q = named (whole g.written) g.test t.out g.known 0 (token_at g.written.tokens i) q z

      at_start : (s : State) → now k ≡ s
          → named (whole g.written) g.test t.out g.known mode (token_at g.written.tokens i) (next_no (drop (i + 1) g.written.tokens)) z ≡ s
      at_start s e =
          ap (λ m. named (whole g.written) g.test t.out g.known m (token_at g.written.tokens i) (next_no (drop (i + 1) g.written.tokens)) z) start
          ∙ (ap now (sym (behind (kinded (reading g.written)))) ∙ e)

    pub name_labels : {new : List ℕ} {r : Nest} → k ≡ kind_no Becomes → Labels records old new i x r → Named records decls table old new t i mode x r
    name_labels {new} {r} e l g z s =
        subst (Shows (book records g.written.tokens) new (i + 1) r) (sym (at_start g z (labelled (word_at g.written.tokens i) z) (ap (now g z) e)))
        (l g.written.tokens z s (name_at (reading g.written) i a.within name))

    module _ (n : k ≡ kind_no Becomes → ⊥) where
      pub name_activates : {new : List ℕ} {r : Nest} → k ≡ kind_no LPar → Activates records decls table old new t i x r → Named records decls table old new t i mode x r
      name_activates {new} {r} e l g z s =
          subst (Shows (book records g.written.tokens) new (i + 1) r)
          (sym (at_start g z (activated (whole g.written) g.test t.out g.known (word_at g.written.tokens i) z) (ap (now g z) e)))
          (shows_later a.few (l g z i s))

      module _ (c : k ≡ kind_no LPar → ⊥) {b : Bool} (kind : b ≡ stores k) where
        abbrev chain : (g : Scene records decls table t) (z : State) → Bool → Bool → Bool → State
        chain g z u v w =
            elim u [
              | true ↦ labelled (word_at g.written.tokens i) z
              | false ↦ elim v [
                | true ↦ activated (whole g.written) g.test t.out g.known (word_at g.written.tokens i) z
                | false ↦ elim w [
                  | true ↦ destined (token_at g.written.tokens i).info.place (member t.out (owner (whole g.written) (word_at g.written.tokens i))) z
                  | false ↦ z
                ]
              ]
            ]

        chained : (g : Scene records decls table t) (z : State) (w : Bool) → b ≡ w → now g z k ≡ chain g z false false w
        chained g z w e =
            ap (λ u. chain g z u (eqb k 3) (stores k)) (ne_eqb k 12 n)
            ∙ (ap (λ v. chain g z false v (stores k)) (ne_eqb k 3 c) ∙ ap (chain g z false false) (sym kind ∙ e))

        pub name_stores : {p : ℕ} {h : Bool} {r : Nest} → b ≡ true → p ≡ place_cell records i
            → ((v : Reading records decls t.m t.n) → h ≡ member t.out (owner (table_of v) (word_at v.tokens i)))
            → ((room : List ℕ) → Does (destined p h) room x room r) → Named records decls table old old t i mode x r
        name_stores {p} {h} {r} e q hit d g z s =
            let ts = g.written.tokens in
            let place : p ≡ (token_at ts i).info.place = q ∙ (g.written.ready.holds.entry i (omega (arith, g.written.count, a.within))).place in
            let stored : now g z k ≡ destined p h z =
            chained g z true e ∙ ap₂ (λ y w. destined y w z) (sym place) (sym (hit (reading g.written))) in
            subst (Shows (book records ts) old (i + 1) r) (sym (at_start g z (destined p h z) stored)) (shows_later a.few (d old (book records ts) i z s))

        pub name_rests : b ≡ false → Named records decls table old old t i mode x x
        name_rests e g z s =
            let rests : now g z k ≡ z = chained g z false e in
            subst (Shows (book records g.written.tokens) old (i + 1) x) (sym (at_start g z z rests)) (shows_later a.few s)

  -- LEAVE
  module _ {k : ℕ} (behind : (v : Kinded records t.n) → k ≡ next_no (drop (i + 1) v.tokens)) where
    pub jump_nowhere : (k ≡ kind_no Name → ⊥) → Aims records decls table old old t i x x
    jump_nowhere n g z j s =
        let e : eqb (next_no (drop (i + 1) g.written.tokens)) (kind_no Name) ≡ false = ne_eqb _ 0 (λ q. n (behind (kinded (reading g.written)) ∙ q)) in
        subst (λ b. Shows (book records g.written.tokens) old j x (aimed b (next_word (drop (i + 1) g.written.tokens)) z)) (sym e) s

    module _ (e : k ≡ kind_no Name) where
      target_in : (v : Kinded records t.n) → i + 1 < t.n
      target_in v = by (dec_lt (i + 1) t.n)
        where
          by : Dec (i + 1 < t.n) → i + 1 < t.n
          by (yes l) = l
          by (no l) = absurd (omega (arith, behind v, ap next_no (no_more v (i + 1) (omega arith))))

      target_name : kind_byte records (i + 1) ≡ kind_no Name
      target_name =
          let v = acting_kinds in
          v.kind (i + 1) (target_in v) ∙ (sym (ap next_no (next_token v (i + 1) (target_in v))) ∙ (sym (behind v) ∙ e))

      pub to_jump : Jumping records old t.n (i + 1) x
      to_jump = record {
        spelt = spelt a.scene.written;
        below = i;
        state = a.state;
        shows = a.shows;
        name_in = target_in acting_kinds;
        is_name = target_name;
      }

      pub jump_there : {new : List ℕ} {r : Nest} → Left records old new t.n (i + 1) x r → Aims records decls table old new t i x r
      jump_there {new} {r} l g z j s =
          let v = kinded (reading g.written) in
          let ts = g.written.tokens in
          let word : next_word (drop (i + 1) ts) ≡ word_at ts (i + 1) = ap next_word (next_token v (i + 1) (target_in v)) in
          let test : eqb (next_no (drop (i + 1) ts)) (kind_no Name) ≡ true = eq-eqb _ 0 (sym (behind v) ∙ e) in
          subst (λ b. Shows (book records ts) new j r (aimed b (next_word (drop (i + 1) ts)) z)) (sym test)
          (subst (λ w. Shows (book records ts) new j r (left w z)) (sym word) (l (spelt g.written) j z s))

  -- the arms by kinds
  module _ (mode : ℕ) {kind : ℕ} (is : kind ≡ kind_byte records i) where
    module _ (g : Scene records decls table t) (z : State) where
      abbrev done : ℕ → State
      done q = acted (whole g.written) g.test t.out g.known mode q (token_at g.written.tokens i) (drop (i + 1) g.written.tokens) z

    arm : {new : List ℕ} {r : Nest} (q : ℕ) (f : State → State) → kind ≡ q → ((g : Scene records decls table t) (z : State) → done g z q ≡ f z) → Does f old x new r
        → Acted records decls table old new t i mode x r
    arm {new} {r} q f e same d g z s =
        subst (Shows (book records g.written.tokens) new (i + 1) r) (sym (ap (done g z) (sym is ∙ e) ∙ same g z)) (shows_later a.few (d (book records g.written.tokens) i z s))

    module _ {new : List ℕ} {r : Nest} where
      pub name_acts : kind ≡ kind_no Name → Named records decls table old new t i mode x r → Acted records decls table old new t i mode x r
      unfolding acted
      name_acts e d g z s = subst (Shows (book records g.written.tokens) new (i + 1) r) (sym (ap (done g z) (sym is ∙ e))) (d g z s)

      pub begin_acts : kind ≡ kind_no BEGIN → Does (λ z. opened (ltb (length z.frames) deepest) z) old x new r → Acted records decls table old new t i mode x r
      unfolding acted
      begin_acts e d = arm 19 (λ z. opened (ltb (length z.frames) deepest) z) e (λ g z. refl) d

      pub end_acts : kind ≡ kind_no END → Does (λ z. closed z.frames z) old x new r → Acted records decls table old new t i mode x r
      unfolding acted
      end_acts e d = arm 20 (λ z. closed z.frames z) e (λ g z. refl) d

      pub also_acts : kind ≡ kind_no Semi → Does (λ z. also z.frames z) old x new r → Acted records decls table old new t i mode x r
      unfolding acted
      also_acts e d = arm 10 (λ z. also z.frames z) e (λ g z. refl) d

      pub next_acts : kind ≡ kind_no NEXT → Does (λ z. next z.frames z) old x new r → Acted records decls table old new t i mode x r
      unfolding acted
      next_acts e d = arm 21 (λ z. next z.frames z) e (λ g z. refl) d

      pub transfer_acts : kind ≡ kind_no Equals → Does transferred old x new r → Acted records decls table old new t i mode x r
      unfolding acted
      transfer_acts e d = arm 13 transferred e (λ g z. refl) d

      pub test_acts : kind ≡ kind_no IF → Does (λ z. reached (chosen false z) z.marks) old x new r → Acted records decls table old new t i mode x r
      unfolding acted
      test_acts e d = arm 22 (λ z. reached (chosen false z) z.marks) e (λ g z. refl) d

      pub reach_acts : kind ≡ kind_no NO-OP → Does (λ z. reached z z.marks) old x new r → Acted records decls table old new t i mode x r
      unfolding acted
      reach_acts e d = arm 30 (λ z. reached z z.marks) e (λ g z. refl) d

      pub jump_acts : kind ≡ kind_no LEAVE → Aims records decls table old new t i x r → Acted records decls table old new t i mode x r
      unfolding acted
      jump_acts e d g z s = subst (Shows (book records g.written.tokens) new (i + 1) r) (sym (ap (done g z) (sym is ∙ e))) (shows_later a.few (d g z i s))

    module _ {r : Nest} where
      pub comma_acts : kind ≡ kind_no Comma → Does (λ z. another z.frames z) old x old r → Acted records decls table old old t i mode x r
      unfolding acted
      comma_acts e d = arm 9 (λ z. another z.frames z) e (λ g z. refl) d

      pub choice_acts : kind ≡ kind_no DECODE → ((room : List ℕ) → Does (chosen true) room x room r) → Acted records decls table old old t i mode x r
      unfolding acted
      choice_acts e d = arm 23 (chosen true) e (λ g z. refl) (d old)

      pub loop-acts : kind ≡ kind_no REPEAT → ((room : List ℕ) → Does looped room x room r) → Acted records decls table old old t i mode x r
      unfolding acted
      loop-acts e d = arm 25 looped e (λ g z. refl) (d old)

    pub other_acts : (kind ≡ kind_no Name → ⊥) → (kind ≡ kind_no BEGIN → ⊥) → (kind ≡ kind_no END → ⊥) → (kind ≡ kind_no Semi → ⊥) → (kind ≡ kind_no NEXT → ⊥) → (kind ≡ kind_no Comma → ⊥) → (kind ≡ kind_no Equals → ⊥) → (kind ≡ kind_no IF → ⊥)
        → (kind ≡ kind_no DECODE → ⊥) → (kind ≡ kind_no REPEAT → ⊥) → (kind ≡ kind_no LEAVE → ⊥) → (kind ≡ kind_no NO-OP → ⊥) → Acted records decls table old old t i mode x x
    unfolding acted
    other_acts a0 a19 a20 a10 a21 a9 a13 a22 a23 a25 a26 a30 g z s =
        let same : done g z kind ≡ z =
        rw (
          ne_eqb kind 0 a0,
          ne_eqb kind 19 a19,
          ne_eqb kind 20 a20,
          ne_eqb kind 10 a10,
          ne_eqb kind 21 a21,
          ne_eqb kind 9 a9,
          ne_eqb kind 13 a13,
          ne_eqb kind 22 a22,
          ne_eqb kind 23 a23,
          ne_eqb kind 25 a25,
          ne_eqb kind 26 a26,
          ne_eqb kind 30 a30,
          acted,
        ) in
        subst (Shows (book records g.written.tokens) old (i + 1) x) (sym (ap (done g z) (sym is) ∙ same)) (shows_later a.few s)

pub test_does : {old new : List ℕ} {x y r : Nest} → ((room : List ℕ) → Does (chosen false) room x room y) → Does (λ z. reached z z.marks) old y new r
    → Does (λ z. reached (chosen false z) z.marks) old x new r
test_does {old} c d ts i z s = d ts i (chosen false z) (c old ts i z s)

pub chosen_stands : {room : List ℕ} {x y : Nest} → ((room : List ℕ) → Does (chosen false) room x room y) → Standing room x → Standing room y
chosen_stands {room} c st = (st.0, st.1, chosen false st.2, c room st.0 st.1 st.2 st.3)
