-- The walk along the tokens of a body.
use Rattle.std.specs.Prelude.{ℕ, ◌+◌, ◌<◌, ◌≤◌, ◌*◌, ◌≡◌, refl, Bool, true, false, List, [], ◌∷◌, length}
use Rattle.std.proofs.Math.Path.{sym, ap}
use Rattle.std.proofs.Common.{◌∙◌, arith}
use Rattle.std.proofs.Math.ListN.{drop}
use Rattle.rules.specs.Grammar.Trees.{Tokens}
use Rattle.records.specs.Holds.{kind_byte, token_at}
use Rattle.table.specs.Scans.{no as kind_of}
use Rattle.reading.specs.Kinds.{mode as mode_of}
use Rattle.reading.specs.Laws.Reading.{kinded, next_token, no_more}
use Rattle.counting.specs.Machine.{Frame, State, outset, none_open, acted, run}
use Rattle.counting.specs.Holding.{no_frames, Shows}
use Rattle.walking.specs.Walking.{Scene, Acting, Acted, word, behind}
use Rattle.walking.specs.Going.{Beginning, Walked, count_from}
use Rattle.counting.specs.Laws.Holding.{nest}
use Rattle.counting.specs.declared.counts.Nest.{Nest}

-- at the token i, in a mode
pub record SoFar {records table : List ℕ} {m n : ℕ} (g : Scene records table m n) (room : List ℕ) (from : ℕ) (s : Nest) (mode i : ℕ) : Type 0 where
  pub state : State
  pub shows : Shows room s state
  pub runs : run g.counts mode state (drop i g.reading.tokens) ≡ count_from g from

pub record Going (records table first room : List ℕ) (m n from : ℕ) (s : Nest) (mode i : ℕ) : Type 0 where
  pub scene : Scene records table m n
  pub size : length room ≡ length first
  pub low : mode ≤ i
  pub few : n ≤ 8192
  pub record_room : 8 * n ≤ length records
  pub so_far : (g : Scene records table m n) → SoFar g room from s mode i

pub goes : {records table room : List ℕ} {m n from : ℕ} → Beginning records table room m n → Going records table room room m n from (nest 0 0) 0 from
goes {from = from} b = record {
  scene = b.scene;
  size = refl;
  low = omega arith;
  few = (kinded b.scene.reading).few;
  record_room = (kinded b.scene.reading).room;
  so_far = λ g. record {
    state = outset;
    shows = record { space = b.space; depth_is = refl; shallow = omega arith; count_is = refl; low = omega arith; frames = no_frames };
    runs = refl;
  };
}

none_left : (fs : List Frame) → length fs ≡ 0 → none_open fs ≡ true
none_left [] e = refl
none_left (f ∷ fs) e = absurd (omega arith)

some_left : (fs : List Frame) → (length fs ≡ 0 → ⊥) → none_open fs ≡ false
some_left [] n = absurd (n refl)
some_left (f ∷ fs) n = refl

module _ {records table first room : List ℕ} {m n from : ℕ} {s : Nest} {mode i : ℕ} (v : Going records table first room m n from s mode i) where
  pub over : n ≤ i → Walked records table m n from s.count
  unfolding run
  over h = record {
    low = (v.so_far v.scene).shows.low;
    is = λ g.
        let x = v.so_far g in
        x.shows.count_is ∙ (ap (run g.counts mode x.state) (sym (no_more (kinded g.reading) i h)) ∙ x.runs);
  }

  module _ (h : i < n) where
    pub going_acts : Acting records table room m n i s
    going_acts = record {
      scene = v.scene;
      state = (v.so_far v.scene).state;
      shows = (v.so_far v.scene).shows;
      within = h;
      record_room = omega (arith, v.record_room);
    }

    module _ {now : List ℕ} {r : Nest} (acts : Acted records table room now m n i mode s r) where
      module _ (g : Scene records table m n) where
        abbrev ts : Tokens
        ts = g.reading.tokens

        abbrev R : ℕ → State → Tokens → ℕ
        R = run g.counts

        after : State
        after = acted g.counts mode (kind_byte records i) (word g i) (behind g i) (v.so_far g).state

        shown : Shows now r after
        unfolding after
        shown = acts g (v.so_far g).state (v.so_far g).shows

        abbrev next : Bool → ℕ → State → ℕ
        next b q y = elim b [ true ↦ y.count | false ↦ R (mode_of mode q) y (drop (i + 1) ts) ]

        stepped : count_from g from ≡ next (none_open after.frames) (kind_byte records i) after
        unfolding run after
        stepped =
            let x = v.so_far g in
            let kind : kind_byte records i ≡ kind_of (token_at ts i) = (kinded g.reading).kind i h in
            let gone : R mode x.state (token_at ts i ∷ drop (i + 1) ts)
            ≡ (let q = kind_byte records i in let y = acted g.counts mode q (word g i) (behind g i) x.state in next (none_open y.frames) q y) =
            ap (λ q. let y = acted g.counts mode q (word g i) (behind g i) x.state in next (none_open y.frames) q y) (sym kind) in
            sym x.runs ∙ (ap (R mode x.state) (next_token (kinded g.reading) i h) ∙ gone)

      pub ended : r.depth ≡ 0 → Walked records table m n from r.count
      ended e = record {
        low = (shown v.scene).low;
        is = λ g.
            let closed : none_open (after g).frames ≡ true = none_left (after g).frames (sym (shown g).depth_is ∙ e) in
            (shown g).count_is ∙ sym (stepped g ∙ ap (λ b. next g b (kind_byte records i) (after g)) closed);
      }

      pub goes_on : {kind q : ℕ} → length now ≡ length room → kind ≡ kind_byte records i → (r.depth ≡ 0 → ⊥) → (q ≡ mode_of mode kind) × (q ≤ mode + 1)
          → Going records table first now m n from r q (i + 1)
      goes_on {kind} {q} size k some_open u = record {
        scene = v.scene;
        size = size ∙ v.size;
        low = omega (arith, v.low, u.1);
        few = v.few;
        record_room = v.record_room;
        so_far = λ g.
            let inner : none_open (after g).frames ≡ false = some_left (after g).frames (λ e. some_open ((shown g).depth_is ∙ e)) in
            record {
              state = after g;
              shows = shown g;
              runs =
                  ap (λ y. R g y (after g) (drop (i + 1) (ts g))) (u.0 ∙ ap (mode_of mode) k)
                  ∙ sym (stepped g ∙ ap (λ b. next g b (kind_byte records i) (after g)) inner);
            };
      }
