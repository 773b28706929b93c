-- Laws of writing inside cells and links: the table holds its tokens still.
-- Assumes nothing.
use Rattle.std.specs.Prelude.{ℕ, ◌+◌, ◌*◌, ◌<◌, ◌≤◌, ◌≡◌, refl, List, length, get_or}
use Rattle.std.proofs.Common.{ap, ◌∙◌, arith}
use Rattle.std.proofs.Math.Decide.{dec_lt}
use Rattle.cells.specs.Cells.{put_at, put_cell}
use Rattle.cells.proofs.Laws.{length_put, get_or_put_below, get_or_put_above, le_put_same, le_put_below, le_put_above}
use Rattle.rules.specs.Grammar.Trees.{Tokens}
use Rattle.records.specs.Holds.{place_cell, inside_cell, link_cell, Entry, Holds}
use Rattle.records.specs.Kept.{Kept, LinkPut, InsidePut}

pub kept_none : (old : List ℕ) (a b : ℕ) → Kept old old a b
kept_none old a b = record { long = refl; kind = λ t. refl; size = λ t. refl; place = λ t. refl; inside = λ t h. refl; link = λ t h. refl }

pub kept_then : {old mid now : List ℕ} {a b c d : ℕ} (x y : ℕ) → Kept old mid a b → Kept mid now c d → x ≤ a → b ≤ y → x ≤ c → d ≤ y → Kept old now x y
kept_then x y p q h i j k = record {
  long = q.long ∙ p.long;
  kind = λ t. q.kind t ∙ p.kind t;
  size = λ t. q.size t ∙ p.size t;
  place = λ t. q.place t ∙ p.place t;
  inside = λ t o. q.inside t (λ l m. o (omega arith) (omega arith)) ∙ p.inside t (λ l m. o (omega arith) (omega arith));
  link = λ t o. q.link t (λ l m. o (omega arith) (omega arith)) ∙ p.link t (λ l m. o (omega arith) (omega arith));
}

pub kept_wide : {old now : List ℕ} {a b : ℕ} (x y : ℕ) → Kept old now a b → x ≤ a → b ≤ y → Kept old now x y
kept_wide {old} x y p h i = kept_then x y (kept_none old x y) p (omega arith) (omega arith) h i

-- the table holds its tokens still
module _ {old now : List ℕ} {a b : ℕ} (k : Kept old now a b) {text values : List ℕ} {ts : Tokens} where
  entry_kept : (j : ℕ) → Entry text old values ts j → Entry text now values ts j
  entry_kept j e = record {
    kind = k.kind j ∙ e.kind;
    size = k.size j ∙ e.size;
    small = e.small;
    place = k.place j ∙ e.place;
    inside = e.inside;
    word = e.word;
    constant = e.constant;
    masked = e.masked;
    free_fits = e.free_fits;
    free = e.free;
  }

  pub holds_kept : Holds text old values ts → Holds text now values ts
  holds_kept h = record {
    short = h.short;
    few = h.few;
    record_room = omega (arith, h.record_room, k.long);
    value_room = h.value_room;
    entry = λ j l. entry_kept j (h.entry j l);
    increasing = h.increasing;
  }

module _ (old : List ℕ) (i o x : ℕ) (low : 4 ≤ o) (high : o ≤ 6) where
  abbrev now : List ℕ
  now = put_at 2 old (8 * i + o) x

  byte_kept : (p t : ℕ) → p < 4 → get_or now (8 * t + p) 0 ≡ get_or old (8 * t + p) 0
  byte_kept p t h = by (dec_lt i t)
    where
      by : Dec (i < t) → get_or now (8 * t + p) 0 ≡ get_or old (8 * t + p) 0
      by (yes l) = get_or_put_above 2 old (8 * i + o) x (8 * t + p) (omega arith)
      by (no l) = get_or_put_below 2 old (8 * i + o) x (8 * t + p) (omega arith)

  place_kept : (t : ℕ) → place_cell now t ≡ place_cell old t
  place_kept t = by (dec_lt i t)
    where
      by : Dec (i < t) → place_cell now t ≡ place_cell old t
      by (yes l) = le_put_above 2 2 old (8 * i + o) x (8 * t + 2) (omega arith)
      by (no l) = le_put_below 2 2 old (8 * i + o) x (8 * t + 2) (omega arith)

  inside_kept : (t : ℕ) → (i ≤ t → t < i + 1 → ⊥) → inside_cell now t ≡ inside_cell old t
  inside_kept t n = by (dec_lt i t) (dec_lt t i)
    where
      by : Dec (i < t) → Dec (t < i) → inside_cell now t ≡ inside_cell old t
      by (yes l) m = le_put_above 2 2 old (8 * i + o) x (8 * t + 4) (omega arith)
      by (no l) (yes m) = le_put_below 2 2 old (8 * i + o) x (8 * t + 4) (omega arith)
      by (no l) (no m) = absurd (n (omega arith) (omega arith))

  link_kept : (t : ℕ) → (i ≤ t → t < i + 1 → ⊥) → link_cell now t ≡ link_cell old t
  link_kept t n = by (dec_lt i t) (dec_lt t i)
    where
      by : Dec (i < t) → Dec (t < i) → link_cell now t ≡ link_cell old t
      by (yes l) m = le_put_above 2 2 old (8 * i + o) x (8 * t + 6) (omega arith)
      by (no l) (yes m) = le_put_below 2 2 old (8 * i + o) x (8 * t + 6) (omega arith)
      by (no l) (no m) = absurd (n (omega arith) (omega arith))

  put_kept : Kept old now i (i + 1)
  put_kept = record {
    long = length_put 2 old (8 * i + o) x;
    kind = λ t. ap (λ p. get_or now p 0) (omega arith) ∙ (byte_kept 0 t (omega arith) ∙ ap (λ p. get_or old p 0) (omega arith));
    size = λ t. byte_kept 1 t (omega arith);
    place = place_kept;
    inside = inside_kept;
    link = link_kept;
  }

module _ {old now : List ℕ} (i x : ℕ) (room : 8 * i + 8 ≤ length old) (fits : x < 65536) where
  pub link_put : now ≡ put_cell 2 old (4 * i + 3) x → LinkPut old now i x
  link_put e =
      let at : now ≡ put_at 2 old (8 * i + 6) x = e ∙ ap (λ o. put_at 2 old o x) (omega arith) in
      rw at record {
        kept = put_kept old i 6 x (omega arith) (omega arith);
        link = le_put_same 2 old (8 * i + 6) x (omega arith) fits;
        inside = le_put_below 2 2 old (8 * i + 6) x (8 * i + 4) (omega arith);
      }

  pub inside_put : now ≡ put_cell 2 old (4 * i + 2) x → InsidePut old now i x
  inside_put e =
      let at : now ≡ put_at 2 old (8 * i + 4) x = e ∙ ap (λ o. put_at 2 old o x) (omega arith) in
      rw at record {
        kept = put_kept old i 4 x (omega arith) (omega arith);
        inside = le_put_same 2 old (8 * i + 4) x (omega arith) fits;
        link = le_put_above 2 2 old (8 * i + 4) x (8 * i + 6) (omega arith);
      }
