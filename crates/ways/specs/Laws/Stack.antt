-- Laws of labels in a buffer: one is pushed, and the one that a jump names is found.
-- Assumes nothing.
use Prim.Native.Nat.{ℕ, zero, suc, ◌+◌, ◌*◌, ◌-◌, ◌<◌, ◌≤◌}
use Rattle.std.specs.Prelude.{◌≡◌, refl, Bool, true, false, List, length}
use Rattle.std.proofs.Math.Path.{sym}
use Rattle.std.proofs.Common.{ap, ◌∙◌}
use Rattle.std.proofs.Math.Bool.{cond}
use Rattle.std.proofs.Math.Option.{some}
use native.Mathlib.Omega.{arith}
use Rattle.std.proofs.Math.Decide.{dec_lt, ℕ_discrete}
use Rattle.cells.specs.Cells.{cell, put_cell}
use Rattle.cells.proofs.Laws.{length_put, le_put_same, cell_other}
use Rattle.rules.specs.Text.Scan.{same_bytes}
use Rattle.rules.specs.Declarations.{Word}
use Rattle.laws_orders.specs.Cited.Flat.{Link, at, Labels, outer, bind, leave_to, restart_to}
use Rattle.laws_code.specs.Cited.Code.{target}
use Rattle.records.specs.Holds.{link_cell}
use Rattle.records.specs.Words.{NameAt, word_at, TwoNames, same_words}
use Rattle.promise.specs.Instructions.{link_no}
use Rattle.ways.specs.Seeking.{Ground}
use Rattle.ways.specs.Stack.{LabelsKept, LabelsHold, Entered, Pushed, aims, JumpAt, Looking, Labelled, part}
use Rattle.room.specs.Links.{most_labels, hints_from, hints_end, hint_cell}

pub labels_none : (old : List ℕ) (n : ℕ) → LabelsKept old old n
labels_none old n = record { long = refl; each = λ j h. refl; hints = λ m c l h k. k }

pub labels_then : {old mid now : List ℕ} {m n : ℕ} → LabelsKept old mid n → LabelsKept mid now m → n ≤ m → LabelsKept old now n
labels_then p q h = record {
  long = q.long ∙ p.long;
  each = λ j l. q.each j (omega arith) ∙ p.each j l;
  hints = λ k c l d e. q.hints k c (omega arith) d (p.hints k c l d e);
}

pub labels_kept : {old now : List ℕ} {n : ℕ} → LabelsKept old now n → (g : Ground) (ρ : Labels) (m : ℕ) → m ≤ n → LabelsHold old g m ρ → LabelsHold now g m ρ
labels_kept k g outer m h e = e
labels_kept k g (bind l f q ρ) m h e =
    let at = e.1 in
    let x = k.each (3 * e.0) (omega arith) in (
      e.0,
      e.1,
      record {
        name = rw x e.2.name;
        word = rw x e.2.word;
        first = k.each (3 * e.0 + 1) (omega arith) ∙ e.2.first;
        link = k.each (3 * e.0 + 2) (omega arith) ∙ e.2.link;
        hint = rw x (k.hints e.0 _ (omega arith) (omega arith) e.2.hint);
      },
      labels_kept k g ρ e.0 (omega arith) e.3,
    )

module _ (a b c d : List ℕ) (n p first link : ℕ) (room : 6 * n + 6 ≤ length a) (h : p < 65536) (i : first < 65536) (j : link < 65536)
    (e : b ≡ put_cell 2 a (3 * n) p) (f : c ≡ put_cell 2 b (3 * n + 1) first) (g : d ≡ put_cell 2 c (3 * n + 2) link) where
  sizes : (length b ≡ length a) × (length c ≡ length a) × (length d ≡ length a)
  sizes =
      let x : length b ≡ length a = ap length e ∙ length_put 2 a (2 * (3 * n)) p in
      let y : length c ≡ length a = ap length f ∙ (length_put 2 b (2 * (3 * n + 1)) first ∙ x) in
      (x, y, ap length g ∙ (length_put 2 c (2 * (3 * n + 2)) link ∙ y))

  above : (k : ℕ) → (k ≡ 3 * n + 2 → ⊥) → cell 2 d k ≡ cell 2 c k
  above k l = ap (λ (x : List ℕ). cell 2 x k) g ∙ cell_other 2 c (3 * n + 2) link k l

  middle : (k : ℕ) → (k ≡ 3 * n + 1 → ⊥) → cell 2 c k ≡ cell 2 b k
  middle k l = ap (λ (x : List ℕ). cell 2 x k) f ∙ cell_other 2 b (3 * n + 1) first k l

  pub entered : Entered a d n p first link
  entered =
      let s = sizes in
      record {
        long = s.2;
        others = λ k l.
            above k (λ q. l (omega arith) (omega arith)) ∙ (middle k (λ q. l (omega arith) (omega arith))
            ∙ (ap (λ (x : List ℕ). cell 2 x k) e ∙ cell_other 2 a (3 * n) p k (λ q. l (omega arith) (omega arith))));
        is_name =
            above (3 * n) (λ q. omega arith) ∙ (middle (3 * n) (λ q. omega arith)
            ∙ (ap (λ (x : List ℕ). cell 2 x (3 * n)) e ∙ le_put_same 2 a (2 * (3 * n)) p (omega arith) h));
        is_first =
            above (3 * n + 1) (λ q. omega arith)
            ∙ (ap (λ (x : List ℕ). cell 2 x (3 * n + 1)) f ∙ le_put_same 2 b (2 * (3 * n + 1)) first (omega (arith, s.0)) i);
        is_link = ap (λ (x : List ℕ). cell 2 x (3 * n + 2)) g ∙ le_put_same 2 c (2 * (3 * n + 2)) link (omega (arith, s.1)) j;
      }

-- an entry and its hint
pub pushed : (records : List ℕ) {old mid now : List ℕ} {n p first link at : ℕ} → n < most_labels → 2 * hints_end ≤ length old → Entered old mid n p first link
    → at ≡ hint_cell (link_cell records p) → hints_from ≤ at → at < hints_end → now ≡ put_cell 2 mid at n → Pushed records old now n p first link
pushed records {old} {mid} {now} {n} {p} {first} {link} {at} few room x is low high e = record {
  kept = record {
    long = ap length e ∙ (length_put 2 mid (2 * at) n ∙ x.long);
    each = λ j l. others j (omega arith) ∙ x.others j (λ a b. omega arith);
    hints = λ m c l h k. by m c l k (ℕ_discrete c at) (x.others c (λ a b. omega arith));
  };
  is_name = others (3 * n) (omega arith) ∙ x.is_name;
  is_first = others (3 * n + 1) (omega arith) ∙ x.is_first;
  is_link = others (3 * n + 2) (omega arith) ∙ x.is_link;
  hint = ap (cell 2 now) (sym is) ∙ here;
}
  where
    others : (j : ℕ) → j < hints_from → cell 2 now j ≡ cell 2 mid j
    others j l = ap (λ (b : List ℕ). cell 2 b j) e ∙ cell_other 2 mid at n j (λ q. omega arith)

    here : cell 2 now at ≡ n
    here = ap (λ (b : List ℕ). cell 2 b at) e ∙ le_put_same 2 mid (2 * at) n (omega (arith, x.long)) (omega arith)

    by : (m c : ℕ) → m ≤ n → m ≤ cell 2 old c → Dec (c ≡ at) → cell 2 mid c ≡ cell 2 old c → m ≤ cell 2 now c
    by m c l k (yes q) z = omega (arith, here, ap (cell 2 now) q)
    by m c l k (no q) z = omega (arith, ap (λ (b : List ℕ). cell 2 b c) e, cell_other 2 mid at n c q)

-- one label more
pub labelled_more : {records old now : List ℕ} {n p f l : ℕ} (g : Ground) (ρ : Labels) (w : Word) (k : Link) → Pushed records old now n p f l → LabelsHold old g n ρ
    → NameAt g.tokens p → word_at g.tokens p ≡ w → link_cell records p ≡ g.spelling p → l ≡ link_no k → LabelsHold now g (suc n) (bind w f k ρ)
labelled_more {now = now} {n = n} g ρ w k q h a e s z = (
  n,
  refl,
  record {
    name = rw q.is_name a;
    word = rw q.is_name e;
    first = q.is_first;
    link = q.is_link ∙ z;
    hint = omega (arith, q.hint, ap (λ x. cell 2 now (hint_cell x)) (s ∙ ap g.spelling (sym q.is_name)));
  },
  labels_kept q.kept g ρ n (omega arith) h,
)

pub aims_behind : (ρ : Labels) (w : Word) → aims 2 ρ w ≡ link_no (target (leave_to ρ w))
unfolding aims leave_to
aims_behind outer w = refl
aims_behind (bind l f k ρ) w = by (same_bytes w l) (aims_behind ρ w)
  where
    by : (b : Bool) → aims 2 ρ w ≡ link_no (target (leave_to ρ w)) → cond b (link_no k) (aims 2 ρ w) ≡ link_no (target (cond b (some k) (leave_to ρ w)))
    by true h = refl
    by false h = h

pub aims_start : (ρ : Labels) (w : Word) → aims 1 ρ w ≡ link_no (target (restart_to ρ w))
unfolding aims restart_to
aims_start outer w = refl
aims_start (bind l f k ρ) w = by (same_bytes w l) (aims_start ρ w)
  where
    by : (b : Bool) → aims 1 ρ w ≡ link_no (target (restart_to ρ w)) → cond b f (aims 1 ρ w) ≡ link_no (target (cond b (some (at f)) (restart_to ρ w)))
    by true h = refl
    by false h = h

-- THE HINT OF A JUMP: no label above the one that it leads to has its word
module _ {g : Ground} {text records labels : List ℕ} {n i : ℕ} (v : JumpAt g text records labels n i) {k : ℕ} (hint : k ≡ cell 2 labels (hint_cell (link_cell records i))) where
  other_above : {m f : ℕ} {l : Word} {q : Link} → k < m → Labelled labels g m l f q → same_bytes (word_at g.tokens i) l ≡ false
  other_above {m} {f} {l} {q} h x = by (same_bytes (word_at g.tokens i) l) refl
    where
      by : (b : Bool) → same_bytes (word_at g.tokens i) l ≡ b → b ≡ false
      by false e = refl
      by true e =
          let same = g.alike i (cell 2 labels (3 * m)) v.name x.name (ap (same_bytes (word_at g.tokens i)) x.word ∙ e) in
          absurd (omega (arith, x.hint, ap (λ y. cell 2 labels (hint_cell y)) (v.spelled ∙ same)))

  upto : (ρ : Labels) (m : ℕ) → k + 1 ≤ m → LabelsHold labels g m ρ
      → (σ : Labels) × LabelsHold labels g (k + 1) σ × ((p : ℕ) → aims p σ (word_at g.tokens i) ≡ aims p ρ (word_at g.tokens i))
  unfolding aims
  upto outer m l h = absurd (omega (arith, h))
  upto (bind w f q ρ) m l h = by (dec_lt (k + 1) m) (λ y. upto ρ h.0 (omega (arith, h.1)) h.3)
    where
      by : Dec (k + 1 < m)
          → (k + 1 < m → (σ : Labels) × LabelsHold labels g (k + 1) σ × ((p : ℕ) → aims p σ (word_at g.tokens i) ≡ aims p ρ (word_at g.tokens i)))
          → (σ : Labels) × LabelsHold labels g (k + 1) σ × ((p : ℕ) → aims p σ (word_at g.tokens i) ≡ aims p (bind w f q ρ) (word_at g.tokens i))
      by (yes y) inner =
          let x = inner y in
          let other = other_above (omega (arith, h.1)) h.2 in
          (x.0, x.1, λ p. x.2 p ∙ sym (ap (λ b. cond b (part p f q) (aims p ρ (word_at g.tokens i))) other))
      by (no y) inner = let e : k + 1 ≡ m = omega arith in (bind w f q ρ, rw e h, λ p. refl)

pub looking_hinted : {text records labels : List ℕ} {n i k : ℕ} → k ≡ cell 2 labels (hint_cell (link_cell records i)) → k < n → Looking text records labels n i (k + 1)
looking_hinted {n = n} e l = record { within = omega arith; left = λ g v. upto v e v.around n (omega arith) v.held }

pub looking_all : (text records labels : List ℕ) (n i : ℕ) → Looking text records labels n i n
looking_all text records labels n i = record { within = omega arith; left = λ g v. (v.around, v.held, λ p. refl) }

-- of the labels the first j are left
module _ {text records labels : List ℕ} {n i j : ℕ} (l : Looking text records labels n i j) where
  pub ended : j ≤ 0 → (p : ℕ) (g : Ground) (v : JumpAt g text records labels n i) → 0 ≡ aims p v.around (word_at g.tokens i)
  unfolding aims
  ended z p g v = by (l.left g v).0 (l.left g v).1 ((l.left g v).2 p)
    where
      by : (ρ : Labels) → LabelsHold labels g j ρ → aims p ρ (word_at g.tokens i) ≡ aims p v.around (word_at g.tokens i)
          → 0 ≡ aims p v.around (word_at g.tokens i)
      by outer h e = e
      by (bind w f k ρ) h e = absurd (omega (arith, h.1))

  module _ (pos : 0 < j) where
    pub entry_room : (g : Ground) × JumpAt g text records labels n i → 6 * j ≤ length labels
    entry_room s = omega (arith, s.1.room, s.1.few, l.within)

    -- the innermost that is left
    pub record Inner (g : Ground) (v : JumpAt g text records labels n i) : Type 0 where
      pub word : Word
      pub first : ℕ
      pub link : Link
      pub more : Labels
      pub labelled : Labelled labels g (j - 1) word first link
      pub held : LabelsHold labels g (j - 1) more
      pub same : (p : ℕ) → aims p (bind word first link more) (word_at g.tokens i) ≡ aims p v.around (word_at g.tokens i)

    pub inner : (g : Ground) (v : JumpAt g text records labels n i) → Inner g v
    inner g v = by (l.left g v).0 (l.left g v).1 (l.left g v).2
      where
        by : (ρ : Labels) → LabelsHold labels g j ρ → ((p : ℕ) → aims p ρ (word_at g.tokens i) ≡ aims p v.around (word_at g.tokens i)) → Inner g v
        by outer h e = absurd (omega arith)
        by (bind w f k ρ) h e =
            let q : h.0 ≡ j - 1 = omega (arith, h.1) in
            record { word = w; first = f; link = k; more = ρ; labelled = rw (← q) h.2; held = rw (← q) h.3; same = e }

    module _ {t : ℕ} (e : t ≡ cell 2 labels (3 * (j - 1))) where
      abbrev pub both_names : (g : Ground) (v : JumpAt g text records labels n i) → TwoNames text records i t
      both_names g v = record {
        values = g.values;
        tokens = g.tokens;
        holds = rw (← v.same_text) v.holds;
        first = v.name;
        second = rw e (inner g v).labelled.name;
      }

      pub some_names : (g : Ground) × JumpAt g text records labels n i → TwoNames text records i t
      some_names s = both_names s.0 s.1

      module _ {r : Bool} (same : (u : TwoNames text records i t) → r ≡ same_words u) where
        said : (g : Ground) (v : JumpAt g text records labels n i) → same_bytes (word_at g.tokens i) (inner g v).word ≡ r
        said g v = ap (same_bytes (word_at g.tokens i)) (sym (inner g v).labelled.word ∙ ap (word_at g.tokens) (sym e)) ∙ sym (same (both_names g v))

        pub found : r ≡ true → {p : ℕ} → 0 < p → p < 3 → {x : ℕ} → x ≡ cell 2 labels (3 * (j - 1) + p) → (g : Ground) (v : JumpAt g text records labels n i)
            → x ≡ aims p v.around (word_at g.tokens i)
        unfolding aims
        found y {p} lo hi {x} q g v =
            let n = inner g v in
            (q ∙ picks p lo hi n.labelled) ∙ (sym (ap (λ b. cond b (part p n.first n.link) (aims p n.more (word_at g.tokens i))) (said g v ∙ y)) ∙ n.same p)
          where
            picks : (p : ℕ) → 0 < p → p < 3 → {w : Word} {f : ℕ} {k : Link} → Labelled labels g (j - 1) w f k
                → cell 2 labels (3 * (j - 1) + p) ≡ part p f k
            picks zero lo hi h = absurd (omega arith)
            picks (suc zero) lo hi h = h.first
            picks (suc (suc zero)) lo hi h = h.link
            picks (suc (suc (suc p))) lo hi h = absurd (omega arith)

        pub passed : r ≡ false → Looking text records labels n i (j - 1)
        unfolding aims
        passed y = record {
          within = omega (arith, l.within);
          left = λ g v.
              let m = inner g v in
              (m.more, m.held, λ p. sym (ap (λ b. cond b (part p m.first m.link) (aims p m.more (word_at g.tokens i))) (said g v ∙ y)) ∙ m.same p);
        }
