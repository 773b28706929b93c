-- The walk along the tokens of a body.
use Rattle.std.specs.Prelude.{ℕ, ◌+◌, ◌*◌, ◌<◌, ◌≤◌, ◌≡◌, refl, Bool, List, [], ◌∷◌, eqb, length, None}
use Rattle.std.proofs.Math.Path.{sym, ap}
use Rattle.std.proofs.Common.{◌∙◌, arith}
use Rattle.std.proofs.Math.Bool.{true, false}
use Rattle.std.proofs.Math.Decide.{dec_lt}
use Rattle.std.proofs.Math.ListN.{drop}
use Rattle.cells.specs.Cells.{cell, put_cell}
use Rattle.cells.proofs.Laws.{put_size, put_same, put_here}
use Rattle.rules.specs.Grammar.Trees.{Tokens}
use Rattle.records.specs.Holds.{kind_byte, token_at}
use Rattle.records.specs.Words.{word_at}
use Rattle.paths.specs.Cited.Marks.{Marks}
use Rattle.paths.specs.Cited.Least.{least}
use Rattle.paths.proofs.Least.{least_under}
use Rattle.reading.specs.Kinds.{mode as mode_of}
use Rattle.table.specs.Scans.{no as kind_of}
use Rattle.reading.specs.Laws.Reading.{kinded, next_token, no_more}
use Rattle.room.specs.Profile.{most_flags, room_size}
use Rattle.profiling.specs.Spelt.{whole}
use Rattle.profiling.specs.Laws.Spelt.{reading}
use Rattle.nesting.specs.Machine.{Frame, State, outset, none_open, acted, run}
use Rattle.nesting.specs.Holding.{unseen, book, unlinked, linked, LabelPut, no_frames, Shows, Standing}
use Rattle.nesting.specs.Grouping.{nest}
use Rattle.profiling.specs.Walking.{Scene, Acting, Acted, Finds, marks_of}
use Rattle.profiling.specs.Going.{Cleared, Beginning, Begins, Tells, Walked}
use Rattle.nesting.specs.Laws.Holding.{bit_test}
use Rattle.nesting.specs.declared.nests.Nest.{Nest}
use Rattle.profiling.specs.declared.tasks.Task.{Task}
use Rattle.profiling.specs.declared.walks.Found.{Found}

-- at the token i, in a mode
pub record SoFar {records decls table : List ℕ} {t : Task} (g : Scene records decls table t) (room : List ℕ) (name from : ℕ) (s : Nest) (mode i : ℕ) : Type 0 where
  pub state : State
  pub shows : Shows (book records g.written.tokens) room i s state
  pub runs : run (whole g.written) g.test t.out g.known mode state (drop i g.written.tokens) ≡ marks_of g name from

pub record Going (records decls table first room : List ℕ) (t : Task) (name from : ℕ) (s : Nest) (mode i : ℕ) : Type 0 where
  pub scene : Scene records decls table t
  pub size : length room ≡ length first
  pub past : 0 < from
  pub low : mode + from ≤ i
  pub few : i ≤ 8192
  pub count_few : t.n ≤ 8192
  pub record_room : 8 * t.n ≤ length records
  pub so_far : (g : Scene records decls table t) → SoFar g room name from s mode i

pub record Clearing (first room : List ℕ) (k : ℕ) : Type 0 where
  pub cleared : Cleared first room k
  pub few : k ≤ most_flags
  pub space : room_size ≤ length room

pub none_cleared : {old : List ℕ} → room_size ≤ length old → Clearing old old 0
none_cleared h = record { cleared = record { size = refl; clear = λ j h. absurd (omega arith) }; few = omega arith; space = h }

pub one_cleared : {first old new : List ℕ} {k : ℕ} → Clearing first old k → k < most_flags → new ≡ put_cell 2 old k 0 → Clearing first new (k + 1)
one_cleared {first} {old} {new} {k} c h p =
    record {
      cleared = record { size = put_size 2 old new k 0 p ∙ c.cleared.size; clear = λ j l. by j l (dec_lt j k) };
      few = omega arith;
      space = omega (arith, put_size 2 old new k 0 p, c.space);
    }
  where
    by : (j : ℕ) → j < k + 1 → Dec (j < k) → cell 2 new j ≡ 0
    by j l (yes a) = put_same 2 old new k 0 p j (λ e. omega arith) ∙ c.cleared.clear j a
    by j l (no a) = let e : j ≡ k = omega arith in ap (cell 2 new) e ∙ put_here 2 old new k 0 p (omega (arith, c.space)) (omega arith)

pub all_cleared : {first old : List ℕ} {k : ℕ} → Clearing first old k → most_flags ≤ k → Cleared first old most_flags
all_cleared c h = record { size = c.cleared.size; clear = λ j l. c.cleared.clear j (omega arith) }

pub begun_shown : {records first old new : List ℕ} {name : ℕ} → room_size ≤ length first → Cleared first old most_flags → LabelPut records old new 0 name 1
    → Begins records new name (nest 0 2 1 1 true false None 65535)
begun_shown {records} {first} {old} {new} {name} room c p ts i n below h = record {
  space = omega (arith, c.size, p.size);
  few = h;
  depth_is = refl;
  shallow = omega arith;
  free_is = refl;
  free_low = omega arith;
  label_low = omega arith;
  labels = linked {p = 0} (rw p.token n) (ap (word_at ts) p.token) p.flag_is (omega arith) (omega arith) unlinked;
  flag_is = refl;
  flag_low = omega arith;
  comes_is = refl;
  choosing_is = refl;
  dest_is = refl;
  place_low = omega arith;
  low_is = refl;
  frames = no_frames;
  flags = record { at = λ j l. p.low j (omega arith) ∙ c.clear j l };
}

pub found_tells : {room : List ℕ} {s : Nest} {b : Bool} → b ≡ eqb (cell 2 room 1) 1 → Tells room s (record { ends = b; low = s.low })
found_tells e ts i z s = (e ∙ (ap (λ k. eqb k 1) (s.flags.at 1 (omega arith)) ∙ bit_test (z.marks.flags 1)), s.low_is)

pub to_begin : {records decls table room : List ℕ} {t : Task} {name from : ℕ} → Beginning records decls table room t name from
    → (room_size ≤ length room) × (name < 8192) × (8 * name + 8 ≤ length records)
to_begin b = (b.space, b.few, b.record_room)

pub goes : {records decls table room now : List ℕ} {t : Task} {name from : ℕ} {s : Nest} → Beginning records decls table room t name from → Begins records now name s
    → Going records decls table now now t name from s 0 from
goes {name = name} {from} {s} b d = record {
  scene = b.scene;
  size = refl;
  past = omega (arith, b.behind);
  low = omega arith;
  few = b.from_few;
  count_few = (kinded (reading b.scene.written)).few;
  record_room = (kinded (reading b.scene.written)).room;
  so_far = λ g. record {
    state = outset (word_at g.written.tokens name);
    shows = d g.written.tokens from (b.is_name g) b.behind b.from_few;
    runs = refl;
  };
}

low_fits : {records decls table : List ℕ} {t : Task} (g : Scene records decls table t) {name start : ℕ} {f : Found} → Finds g name start f → f.low < 65536
low_fits g {name} {start} f = omega (arith, f.low, least_under unseen (marks_of g name start).places)

none_left : (fs : List Frame) → length fs ≡ 0 → none_open fs ≡ true
none_left [] e = refl
none_left (f ∷ fs) e = absurd (omega arith)

some_left : (fs : List Frame) → (length fs ≡ 0 → ⊥) → none_open fs ≡ false
some_left [] n = absurd (n refl)
some_left (f ∷ fs) n = refl

module _ {records decls table first room : List ℕ} {t : Task} {name from : ℕ} {s : Nest} {mode i : ℕ} (v : Going records decls table first room t name from s mode i) where
  pub going_stands : Standing room s
  going_stands = let x = v.so_far v.scene in (book records v.scene.written.tokens, i, x.state, x.shows)

  all_over : {r : Found} → t.n ≤ i → Tells room s r → (g : Scene records decls table t) → Finds g name from r
  unfolding run
  all_over {r} h tells g =
      let x = v.so_far g in
      let y = tells (book records g.written.tokens) i x.state x.shows in
      let e : x.state.marks ≡ marks_of g name from =
      ap (run (whole g.written) g.test t.out g.known mode x.state) (sym (no_more (kinded (reading g.written)) i h)) ∙ x.runs in
      record { ends = y.0 ∙ ap (λ w. w.flags 1) e; low = y.1 ∙ ap (λ w. least unseen w.places) e }

  pub over : {r : Found} → t.n ≤ i → Tells room s r → Walked records decls table t name from r
  over {r} h tells = record { fits = low_fits v.scene (all_over h tells v.scene); finds = all_over h tells }

  module _ (h : i < t.n) where
    pub going_acts : Acting records decls table room t i s
    going_acts = record {
      scene = v.scene;
      state = (v.so_far v.scene).state;
      shows = (v.so_far v.scene).shows;
      past = omega (arith, v.past, v.low);
      within = h;
      few = omega (arith, v.count_few);
      record_room = omega (arith, v.record_room);
    }

    module _ {now : List ℕ} {r : Nest} (acts : Acted records decls table room now t i mode s r) where
      module _ (g : Scene records decls table t) where
        abbrev ts : Tokens
        ts = g.written.tokens

        abbrev R : ℕ → State → Tokens → Marks
        R = run (whole g.written) g.test t.out g.known

        after : State
        after = acted (whole g.written) g.test t.out g.known mode (kind_byte records i) (token_at ts i) (drop (i + 1) ts) (v.so_far g).state

        shown : Shows (book records ts) now (i + 1) r after
        unfolding after
        shown = acts g (v.so_far g).state (v.so_far g).shows

        stepped : marks_of g name from ≡ elim (none_open after.frames) [ true ↦ after.marks | false ↦ R (mode_of mode (kind_byte records i)) after (drop (i + 1) ts) ]
        unfolding run after
        stepped =
            let x = v.so_far g in
            let kind : kind_byte records i ≡ kind_of (token_at ts i) = (kinded (reading g.written)).kind i h in
            let gone : R mode x.state (token_at ts i ∷ drop (i + 1) ts)
            ≡ (let q = kind_byte records i in
            let n = acted (whole g.written) g.test t.out g.known mode q (token_at ts i) (drop (i + 1) ts) x.state in
            elim (none_open n.frames) [ true ↦ n.marks | false ↦ R (mode_of mode q) n (drop (i + 1) ts) ]) =
            ap
            (λ q.
            let n = acted (whole g.written) g.test t.out g.known mode q (token_at ts i) (drop (i + 1) ts) x.state in
            elim (none_open n.frames) [ true ↦ n.marks | false ↦ R (mode_of mode q) n (drop (i + 1) ts) ])
            (sym kind) in
            sym x.runs ∙ (ap (R mode x.state) (next_token (kinded (reading g.written)) i h) ∙ gone)

      all_ended : {f : Found} → r.depth ≡ 0 → Tells now r f → (g : Scene records decls table t) → Finds g name from f
      all_ended e tells g =
          let y = tells (book records (ts g)) (i + 1) (after g) (shown g) in
          let closed : none_open (after g).frames ≡ true = none_left (after g).frames (sym (shown g).depth_is ∙ e) in
          let w : marks_of g name from ≡ (after g).marks =
          stepped g ∙ ap (λ b. elim b [ true ↦ (after g).marks | false ↦ R g (mode_of mode (kind_byte records i)) (after g) (drop (i + 1) (ts g)) ]) closed in
          record { ends = y.0 ∙ ap (λ k. k.flags 1) (sym w); low = y.1 ∙ ap (λ k. least unseen k.places) (sym w) }

      pub ended : {f : Found} → r.depth ≡ 0 → Tells now r f → Walked records decls table t name from f
      ended e tells = record { fits = low_fits v.scene (all_ended e tells v.scene); finds = all_ended e tells }

      pub stands_after : Standing now r
      stands_after = (book records (ts v.scene), i + 1, after v.scene, shown v.scene)

      pub goes_on : {kind m : ℕ} → length now ≡ length room → kind ≡ kind_byte records i → (r.depth ≡ 0 → ⊥) → (m ≡ mode_of mode kind) × (m ≤ mode + 1) → Going records decls table first now t name from r m (i + 1)
      goes_on {kind} {m} size k n q = record {
        scene = v.scene;
        size = size ∙ v.size;
        past = v.past;
        low = omega (arith, v.low, q.1);
        few = omega (arith, v.count_few);
        count_few = v.count_few;
        record_room = v.record_room;
        so_far = λ g.
            let inner : none_open (after g).frames ≡ false = some_left (after g).frames (λ e. n ((shown g).depth_is ∙ e)) in
            record {
              state = after g;
              shows = shown g;
              runs =
                  ap (λ y. R g y (after g) (drop (i + 1) (ts g))) (q.0 ∙ ap (mode_of mode) k)
                  ∙ sym (stepped g ∙ ap (λ b. elim b [ true ↦ (after g).marks | false ↦ R g (mode_of mode (kind_byte records i)) (after g) (drop (i + 1) (ts g)) ]) inner);
            };
      }
