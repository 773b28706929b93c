-- Laws of placing: one name after the other has its place, and nothing else of the table changes.
-- Assumes nothing.
use Rattle.std.specs.Prelude.{ℕ, ◌+◌, ◌*◌, ◌^◌, ◌<◌, ◌≤◌, ◌≡◌, refl, List, [], ◌∷◌, length, drop}
use Rattle.std.proofs.Common.{sym, ap, ◌∙◌, arith}
use Rattle.std.proofs.Math.Option.{Option, none, some}
use Rattle.std.proofs.Math.Decide.{dec_lt}
use Rattle.std.proofs.Math.ListN.{get_elem?}
use Rattle.cells.specs.Cells.{put_cell}
use Rattle.cells.proofs.Laws.{length_put, le_put_same, le_put_below, le_put_above}
use Rattle.rules.specs.Text.Tokens.{Name, LBra, kind_no, Info, Token, tk}
use Rattle.rules.specs.Grammar.Trees.{Tokens, upto, Bits, all_bits, bits, bits_tokens, Subscript, no_subscript, subscript, subscript_tokens, Description, flatten}
use Rattle.rules.specs.Grammar.Precedence.{index_of}
use Rattle.rules.specs.Declarations.{Word, Names as Span-of, Table, number_of, Target, Declared, Reach, reach, reach_number}
use Rattle.rules.specs.Limits.{largest_name}
use Rattle.rules.specs.Faults.Bodies.{judge_access}
use Rattle.laws_grammar.specs.Cited.Kinds.{kind_at}
use Rattle.laws_grammar.specs.Grammar.Kinds.{kind_at_kind_no}
use Rattle.laws_orders.proofs.Orders.Tests.{impossible}
use Rattle.laws_accepted.proofs.Accepted.Named.{found}
use Rattle.laws_accepted.proofs.Accepted.Declared.{near_words}
use Rattle.laws_accepted.proofs.Accepted.Lengths.{access_reaches}
use Rattle.records.specs.Holds.{kind_byte, value_cell_of, token_at, ValueHolds, Entry, Holds, inside_cell}
use Rattle.table.specs.Laws.Positions.{here, kind_far}
use Rattle.table.specs.Ready.{Ready, Scene, outer_of, table_of}
use Rattle.table.specs.declared.views.Names.{Names}
use Rattle.promise.specs.Accesses.{left_name, right_name, EndsAccess}
use Rattle.places.specs.Valued.{Valued}
use Rattle.places.specs.Laws.Valued.{kind_there}
use Rattle.places.specs.Brackets.{past}
use Rattle.places.specs.Laws.Brackets.{past_index}
use Rattle.places.specs.Given.{GivenNames}
use Rattle.places.specs.Laws.Scene.{lawful, numbered}
use Rattle.places.specs.Bases.{BaseShows, Small, CellShows, FirstsHold, BaseAt}
use Rattle.places.specs.Laws.Bases.{on_itself, on_another}
use Rattle.places.specs.Laws.Counting.{few_before}
use Rattle.places.specs.Laws.Apart.{masked_apart}
use Rattle.places.specs.declared.bases.Base.{Base}
use Rattle.places.specs.Placing.{BehindIndex, Placing, NameIn, PlacedBy, PlacedIn, PlaceAt, Described, Upto, AllPlaced}

-- behind the subscript
pub kind_of : (t : Token) (k : ℕ) → kind_no t.kind ≡ k → t.kind ≡ kind_at k
kind_of t k e = sym (kind_at_kind_no t.kind) ∙ ap kind_at e

module _ {records values : List ℕ} {n : ℕ} (p : ℕ) (v : Valued records values n) where
  bracketed : (s : Subscript) (b : Bits) (rest : Tokens) → drop p v.tokens ≡ subscript_tokens s (bits_tokens b rest) → EndsAccess rest
      → (kind_byte records p ≡ kind_no LBra → ⊥) → drop p v.tokens ≡ bits_tokens b rest
  bracketed no_subscript b rest e x k = e
  bracketed (subscript l o t r) b rest e x k = absurd (k (kind_far v.holds p _ e p 0 (omega arith) (omega arith)))

  pub index_none : {k : ℕ} → k ≡ kind_byte records p → (k ≡ kind_no LBra → ⊥) → BehindIndex v.tokens p p
  index_none e f s b rest q x = bracketed s b rest q x (λ z. f (e ∙ z))

  pub index_past : p ≡ n → BehindIndex v.tokens p p
  index_past e no_subscript b rest q x = q
  index_past e (subscript l o t r) b rest q x = absurd (let w = (here v.tokens p _ _ q).within in omega (arith, v.count))

  pub index_some : (r : ℕ) {k : ℕ} → k ≡ kind_byte records p → k ≡ kind_no LBra → drop r v.tokens ≡ past 1 (drop (p + 1) v.tokens) → BehindIndex v.tokens p r
  index_some r e f g (subscript l o t u) b rest q x =
      g ∙ (ap (past 1) (here v.tokens p _ _ q).behind ∙ past_index o t u (bits_tokens b rest))
  index_some r e f g no_subscript all_bits rest q x =
      absurd (x.no_subscript (kind_of x.next 5 (sym (kind_far v.holds p _ (q ∙ x.is) p 0 (omega arith) (omega arith)) ∙ (sym e ∙ f))))
  index_some r e f g no_subscript (bits l y z) rest q x =
      absurd (omega (arith, kind_far v.holds p _ q p 0 (omega arith) (omega arith)))

-- the numbers of a sound access are small
number_of_lem : (ds : Table) (n : Word) (r : Reach) → reach ds n ≡ some r → (k : ℕ) × (number_of ds n ≡ some k) × (reach_number ds (some k) ≡ some r)
unfolding reach reach_number
number_of_lem ds n r e = by (number_of ds n) refl e
  where
    by : (o : Option ℕ) → number_of ds n ≡ o → reach_number ds o ≡ some r → (k : ℕ) × (number_of ds n ≡ some k) × (reach_number ds (some k) ≡ some r)
    by none q z = impossible (cc)
    by (some k) q z = (k, q, z)

module _ {records values decls : List ℕ} {m : ℕ} (s : Scene records values decls m) where
  small_names : (k : ℕ) (d : Declared) → (w : Option Span-of) → d.words ≡ w → ((x : Span-of) → d.words ≡ some x → (x.left ≤ largest_name) × (x.right ≤ largest_name))
      → (left_name w < 65536) × (right_name w < 65536)
  small_names k d none e f = (omega arith, omega arith)
  small_names k d (some x) e f = let h = f x e in (omega (arith, h.0), omega (arith, h.1))

  small_reach : (x : Info) (r : Reach) → reach (table_of s) x.word ≡ some r → (r.first < 65536) × (left_name r.words < 65536) × (right_name r.words < 65536)
  small_reach x r e =
      let n = number_of_lem (table_of s) x.word r e in
      let f = found (table_of s) x.word n.0 n.1 in
      by n.0 f.declared f.there n.2 f.declared.target refl
    where
      by : (k : ℕ) (d : Declared) (there : get_elem? (table_of s) k ≡ some d) → reach_number (table_of s) (some k) ≡ some r → (t : Option Target) → d.target ≡ t
          → (r.first < 65536) × (left_name r.words < 65536) × (right_name r.words < 65536)
      by k d there z none t =
          let i = on_itself (table_of s) k d there r z t in
          let w = small_names k d d.words refl (λ y q. let h = near_words (lawful s) k d there y q in (h.left, h.right)) in
          (omega (arith, i.first, few_before s k), rw i.words w.0, rw i.words w.1)
      by k d there z (some g) t =
          let a = on_another (table_of s) k d there r z g t in
          (omega (arith, a.first, few_before s a.number), rw a.words (omega arith), rw a.words (omega arith))

  small : (x : Info) (y : Subscript) (b : Bits) (r : Reach) → (judge_access (outer_of s) (table_of s) x (index_of y) b).faults ≡ []
      → reach (table_of s) x.word ≡ some r → Small r b
  small x y b r e q =
      let a = access_reaches (lawful s) x (index_of y) b e in
      let same : a.reached ≡ r = cc a.found in
      let h = small_reach x r q in
      record { first = h.0; left = h.1; right = h.2; fits = rw (← same) a.fitting.fits }

abbrev pub tabled : {records values decls firsts : List ℕ} {n m : ℕ} → Placing records values decls firsts n m → Valued records values n
tabled v = record { text = v.scene.text; tokens = v.scene.tokens; holds = v.scene.ready.holds; count = v.count }

-- the cell of one name
module _ {records values decls firsts : List ℕ} {n m i : ℕ} where
  pub behind_name : NameIn records values decls firsts n m i → ((values : List ℕ) × Valued records values n) × (i + 1 ≤ n)
  behind_name v = ((values, tabled v.placing), omega (arith, v.placing.count, v.name.within))

  module _ {k : ℕ} (e : k ≡ inside_cell records i) where
    its_number : (v : NameIn records values decls firsts n m i) (x : Info) (rest : Tokens) (r : Reach) → drop i v.placing.scene.tokens ≡ tk Name x ∷ rest
        → reach (table_of v.placing.scene) x.word ≡ some r → (reach_number (table_of v.placing.scene) (some k) ≡ some r) × (k < m)
    its_number v x rest r q z =
        let h = here v.placing.scene.tokens i (tk Name x) rest q in
        let j = number_of_lem (table_of v.placing.scene) x.word r z in
        let y = numbered v.placing.scene i x j.0 h.within h.token j.1 in
        let same : k ≡ j.0 = e ∙ y.0 in
        (rw same j.2, rw same y.1)

    pub no_place : {c : ℕ} → m ≤ k → (v : NameIn records values decls firsts n m i) → PlacedBy v c
    no_place h v x s b rest r q z f w = absurd (omega (arith, (its_number v x _ r q w).1))

    abbrev pub base_here : k < m → NameIn records values decls firsts n m i → BaseAt records values decls firsts m k
    base_here h v = record { scene = v.placing.scene; hold = v.placing.hold; below = h }

    pub place_here : (h : k < m) {base : Base}
        → ((w : BaseAt records values decls firsts m k) (r : Reach) → reach_number (table_of w.scene) (some k) ≡ some r → BaseShows base r)
        → (p : ℕ) → ((values : List ℕ) (w : Valued records values n) → BehindIndex w.tokens (i + 1) p)
        → {given : Names} → ((w : Valued records values n) → GivenNames w.tokens p given)
        → {c : ℕ} → CellShows base given c
        → (v : NameIn records values decls firsts n m i) → PlacedBy v c
    place_here h based p behind names cell v x s b rest r q z f w =
        let g = here v.placing.scene.tokens i (tk Name x) _ q in
        let t = tabled v.placing in
        cell r b (based (base_here h v) r (its_number v x _ r q w).0) (names t b rest (behind values t s b rest g.behind z) z)
        (small v.placing.scene x s b r f w)

-- one value cell more
module _ (values : List ℕ) (i c : ℕ) where
  abbrev now : List ℕ
  now = put_cell 8 values i c

  kept : (j : ℕ) → (j ≡ i → ⊥) → value_cell_of now j ≡ value_cell_of values j
  kept j f = by (dec_lt j i)
    where
      by : Dec (j < i) → value_cell_of now j ≡ value_cell_of values j
      by (yes l) = le_put_below 8 8 values (8 * i) c (8 * j) (omega arith)
      by (no l) = le_put_above 8 8 values (8 * i) c (8 * j) (omega (arith, f))

  module _ (ts : Tokens) (name : (token_at ts i).kind ≡ Name) where
    another : (j : ℕ) → ((token_at ts j).kind ≡ Name → ⊥) → j ≡ i → ⊥
    another j f e = f (rw e name)

    value_kept : (j : ℕ) → ((token_at ts j).kind ≡ Name → ⊥) → ValueHolds values j (token_at ts j).info → ValueHolds now j (token_at ts j).info
    value_kept j f h = record { value = kept j (another j f) ∙ h.value; fits = h.fits; some_bits = h.some_bits; few_bits = h.few_bits; wordless = h.wordless }

  module _ {text records : List ℕ} {ts : Tokens} (d : Description) (stands : flatten d ≡ ts) (name : (token_at ts i).kind ≡ Name) where
    entry_kept : (j : ℕ) → Entry text records values ts j → Entry text records now ts j
    entry_kept j e = record {
      kind = e.kind;
      size = e.size;
      small = e.small;
      place = e.place;
      inside = e.inside;
      word = e.word;
      constant = λ k. value_kept ts name j (λ z. omega (arith, ap kind_no (sym k ∙ z))) (e.constant k);
      masked = λ k. value_kept ts name j (λ z. omega (arith, ap kind_no (sym k ∙ z))) (e.masked k);
      free_fits = e.free_fits;
      free = λ k l f g. kept (j + 1) (another ts name (j + 1) (masked_apart d ts stands j l k)) ∙ e.free k l f g;
    }

    holds_kept : Holds text records values ts → Holds text records now ts
    holds_kept h = record {
      short = h.short;
      few = h.few;
      record_room = h.record_room;
      value_room = omega (arith, h.value_room, length_put 8 values (8 * i) c);
      entry = λ j l. entry_kept j (h.entry j l);
      increasing = h.increasing;
    }

ready_kept : {text records values decls : List ℕ} {ts : Tokens} {d : Description} {m : ℕ} (i c : ℕ) → Ready text records values decls ts d m → (token_at ts i).kind ≡ Name
    → Ready text records (put_cell 8 values i c) decls ts d m
ready_kept {values = values} {d = d} i c r k = record {
  holds = holds_kept values i c d r.stands k r.holds;
  stands = r.stands;
  shallow = r.shallow;
  declared = r.declared;
  count = r.count;
  few = r.few;
  means = r.means;
  lawful = r.lawful;
}

module _ {records values decls firsts : List ℕ} {n m i : ℕ} {x : ℕ} (kind : x ≡ kind_byte records i) (l : i < n) where
  pub kind_is : (v : Placing records values decls firsts n m) → x ≡ kind_no (token_at v.scene.tokens i).kind
  kind_is v = kind ∙ kind_there (tabled v) l

  pub no_name : (x ≡ kind_no Name → ⊥) → (v : Placing records values decls firsts n m) → PlacedIn v values i → PlacedIn v values (i + 1)
  no_name f v u = record { ready = u.ready; done = λ q h. by q h (dec_lt q i) }
    where
      by : (q : ℕ) → q < i + 1 → Dec (q < i) → PlaceAt v.scene.tokens (outer_of v.scene) (table_of v.scene) q (value_cell_of values q)
      by q h (yes y) = u.done q y
      by q h (no z) = λ y s b rest r e w g k.
          let same : i ≡ q = omega arith in
          let t = (here v.scene.tokens q (tk Name y) _ e).token in
          absurd (f (kind_is v ∙ (ap (λ j. kind_no (token_at v.scene.tokens j).kind) same ∙ ap (λ (t : Token). kind_no t.kind) t)))

  abbrev pub name_in : x ≡ kind_no Name → Placing records values decls firsts n m → NameIn records values decls firsts n m i
  name_in e v = record {
    placing = v;
    name = record { within = omega (arith, v.count); kind = kind_of (token_at v.scene.tokens i) 0 (sym (kind_is v) ∙ e) };
  }

  pub name_placed : x ≡ kind_no Name → {c : ℕ} → c < 2 ^ 64 → ((w : NameIn records values decls firsts n m i) → PlacedBy w c)
      → {after : List ℕ} → after ≡ put_cell 8 values i c
      → (v : Placing records values decls firsts n m) → PlacedIn v values i → PlacedIn v after (i + 1)
  name_placed e {c} fits f {after} put v u =
      rw put record {
        ready = ready_kept i c u.ready (name_in e v).name.kind;
        done = λ q h. by q h (dec_lt q i);
      }
    where
      by : (q : ℕ) → q < i + 1 → Dec (q < i) → PlaceAt v.scene.tokens (outer_of v.scene) (table_of v.scene) q (value_cell_of (put_cell 8 values i c) q)
      by q h (yes y) = rw (kept values i c q (λ z. omega arith)) (u.done q y)
      by q h (no z) =
          let same : q ≡ i = omega arith in
          rw (same, le_put_same 8 values (8 * i) c (omega (arith, (name_in e v).name.within, v.scene.ready.holds.value_room)) fits) (f (name_in e v))

-- the loop over the tokens: the names before i have their places, whatever the description is
pub record Going (records values₀ values decls firsts : List ℕ) (n m i : ℕ) : Type 0 where
  pub within : i ≤ n
  pub long : length values ≡ length values₀
  pub hold : (v : Described records values₀ decls n m) → FirstsHold firsts (table_of v.scene) m
  pub upto : (v : Described records values₀ decls n m) → Upto v.scene.text records values decls v.scene.tokens v.scene.description m i

pub none_placed : {records values decls firsts : List ℕ} {n m : ℕ} → ((s : Scene records values decls m) → FirstsHold firsts (table_of s) m)
    → Going records values values decls firsts n m 0
none_placed f = record { within = omega arith; long = refl; hold = λ v. f v.scene; upto = λ v. record { ready = v.scene.ready; done = λ q h. absurd (omega arith) } }

module _ {records values₀ values decls firsts : List ℕ} {n m i : ℕ} (g : Going records values₀ values decls firsts n m i) where
  abbrev pub still : Described records values₀ decls n m → Placing records values decls firsts n m
  still v = record {
    scene = record { text = v.scene.text; tokens = v.scene.tokens; description = v.scene.description; ready = (g.upto v).ready };
    count = v.count;
    hold = g.hold v;
  }

  pub placed_more : {now : List ℕ} → i < n → length now ≡ length values
      → ((v : Placing records values decls firsts n m) → PlacedIn v values i → PlacedIn v now (i + 1)) → Going records values₀ now decls firsts n m (i + 1)
  placed_more l e f = record { within = omega arith; long = e ∙ g.long; hold = g.hold; upto = λ v. f (still v) (g.upto v) }

  pub all_placed : n ≤ i → (v : Described records values₀ decls n m) → AllPlaced v values
  all_placed l v = record {
    ready = (g.upto v).ready;
    accesses = record {
      at = λ q x s b rest r e w j k.
          let h = (here v.scene.tokens q (tk Name x) _ e).within in
          (g.upto v).done q (omega (arith, v.count)) x s b rest r e w j k;
    };
  }
