-- One round goes one body further down the chains of activations.
use Rattle.std.specs.Prelude.{ℕ, zero, suc, ◌+◌, ◌*◌, ◌<◌, ◌≤◌, ◌≡◌, Bool, List, [], ◌∷◌, map, length, Option as Answer, Some, true, false, is_some}
use Rattle.std.proofs.Math.Path.{refl, sym, ap}
use Rattle.std.proofs.Common.{◌∙◌, subst, arith, drop-drop}
use Rattle.std.proofs.Math.Bool.{true, false}
use Rattle.std.proofs.Math.Option.{Option, none, some, none-ne-some, some-injective}
use Rattle.std.proofs.Math.Decide.{dec_lt}
use Rattle.std.proofs.Math.Dec.{eqb}
use Rattle.std.proofs.Math.ListN.{drop, get_elem?}
use borrow.Author.Tests.{eq-eqb, ne_eqb}
use Rattle.cells.specs.Cells.{cell, put_cell}
use Rattle.cells.proofs.Laws.{put_size, put_same, put_here}
use Rattle.rules.specs.Text.Tokens.{Token, kind_no, BEGIN}
use Rattle.rules.specs.Grammar.Trees.{Tokens, Action, block, action_tokens, unnamed, named, bit as one_bit, upto, bitless, main_bits}
use Rattle.rules.specs.Grammar.Trees.{Declaration, plain, main, words, with_bits, bare_body, carrier, given, body, mapped, declarations_tokens}
use Rattle.rules.specs.Limits.{deepest, longest_chain}
use Rattle.rules.specs.Declarations.{Word, Table, Declared, declared_of, number_of, body_of, body_number}
use Rattle.rules.specs.Steps.Runs.{body_act}
use Rattle.laws_accepted.proofs.Accepted.Named.{found}
use Rattle.laws_grammar.specs.Cited.Nesting.{action_nest}
use Rattle.laws_orders.proofs.Orders.Tests.{impossible}
use Rattle.records.specs.Holds.{kind_byte, token_at}
use Rattle.records.specs.Words.{word_at}
use Rattle.table.specs.Declarations.{name_tokens, declaration_list, all_declared}
use Rattle.paths.specs.Cited.Early.{Report, inside, passed, early, early_i, body_early}
use Rattle.paths.specs.Walk.{walk_body}
use Rattle.paths.proofs.WalkLaws.{body_level}
use Rattle.paths.specs.Cited.Least.{least}
use Rattle.links.specs.Laws.Layout.{body_shallow}
use Rattle.table.specs.Scans.{no as kind_of}
use Rattle.reading.specs.Laws.Reading.{kinded, next_token, no_more}
use Rattle.reading.specs.Reading.{Kinded, Reading, table_of}
use Rattle.reading.specs.Laws.Names.{number_bound}
use Rattle.reading.specs.Laws.Meanings.{table_size_lem}
use Rattle.reading.specs.Meanings.{Declares, declares}
use Rattle.chains.specs.Laws.Least.{name_there}
use Rattle.reading.specs.Bodies.{Body}
use Rattle.reading.specs.Laws.Bodies.{not_found, found_at}
use Rattle.profiling.specs.Spelt.{SpeltDescription, whole}
use Rattle.profiling.specs.Laws.Spelt.{reading}
use Rattle.nesting.specs.Holding.{bit, unseen}
use Rattle.nesting.specs.Machine.{run, outset}
use Rattle.reading.specs.Indexes.{number_or, index_of}
use Rattle.profiling.specs.Walking.{Known, Scene}
use Rattle.profiling.specs.Going.{Beginning, Walked}
use Rattle.profiling.specs.Levels.{to_begin, BeginBehind, Aimed, Level, Put, Blank, Levelled, PartAt, Part, Rounded, Starting, Known16}
use Rattle.profiling.specs.Laws.Machine.{body_read}
use Rattle.profiling.specs.declared.tasks.Task.{Task}
use Rattle.profiling.specs.declared.walks.Found.{Found}

-- the first BEGIN behind the name of a declaration is that of its body
has_begin : (d : Declaration) (a : Action) (ts : Tokens) → (declared_of d).body ≡ some a → to_begin (drop 1 (name_tokens d ts)) ≡ action_tokens a ts
unfolding to_begin
has_begin (plain n (words l f c t r b o)) a ts e = impossible (cc)
has_begin (plain n (with_bits l o carrier)) a ts e = impossible (cc)
has_begin (plain n (with_bits l (unnamed g) (given e (body b x m)))) a ts h = ap (λ y. action_tokens y ts) (some-injective (block b x m) a h)
has_begin (plain n (with_bits l (named k (one_bit g)) (given e (body b x m)))) a ts h = ap (λ y. action_tokens y ts) (some-injective (block b x m) a h)
has_begin (plain n (with_bits l (named k (upto c j g)) (given e (body b x m)))) a ts h = ap (λ y. action_tokens y ts) (some-injective (block b x m) a h)
has_begin (plain n (with_bits l o (given e (mapped t x c r)))) a ts h = impossible (cc)
has_begin (plain n (bare_body e b x m)) a ts h = ap (λ y. action_tokens y ts) (some-injective (block b x m) a h)
has_begin (main i n bitless e b x m) a ts h = ap (λ y. action_tokens y ts) (some-injective (block b x m) a h)
has_begin (main i n (main_bits l (unnamed g)) e b x m) a ts h = ap (λ y. action_tokens y ts) (some-injective (block b x m) a h)
has_begin (main i n (main_bits l (named k (one_bit g))) e b x m) a ts h = ap (λ y. action_tokens y ts) (some-injective (block b x m) a h)
has_begin (main i n (main_bits l (named k (upto c j g))) e b x m) a ts h = ap (λ y. action_tokens y ts) (some-injective (block b x m) a h)

-- the search for it
pub record Seeking (records : List ℕ) (n name i : ℕ) : Type 0 where
  pub past : name < i
  pub low : i ≤ n
  pub few : n ≤ 8192
  pub room : 8 * n ≤ length records
  pub left : (v : Kinded records n) → to_begin (drop i v.tokens) ≡ to_begin (drop (name + 1) v.tokens)

pub seek_begins : {records : List ℕ} {n name : ℕ} → Kinded records n → name < n → Seeking records n name (name + 1)
seek_begins k h = record { past = omega arith; low = omega arith; few = k.few; room = k.room; left = λ v. refl }

module _ {records : List ℕ} {n name i : ℕ} (s : Seeking records n name i) where
  pub seek_over : n ≤ i → BeginBehind records n name n
  unfolding to_begin
  seek_over h = record {
    low = omega arith;
    past = omega (arith, s.past, s.low);
    reads = λ v. no_more v n (omega arith) ∙ (ap to_begin (sym (no_more v i h)) ∙ s.left v);
  }

  module _ (h : i < n) {k : ℕ} (kind : k ≡ kind_byte records i) where
    pub seek_found : k ≡ kind_no BEGIN → BeginBehind records n name i
    unfolding to_begin
    seek_found e =
        record {
          low = s.low;
          past = s.past;
          reads = λ v.
              let t = token_at v.tokens i in
              let here : eqb (kind_of t) (kind_no BEGIN) ≡ true = eq-eqb (kind_of t) (kind_no BEGIN) (sym (v.kind i h) ∙ (sym kind ∙ e)) in
              let rest = drop (i + 1) v.tokens in
              next_token v i h ∙ (sym (ap (λ b. elim b [ true ↦ t ∷ rest | false ↦ to_begin rest ]) here) ∙ (ap to_begin (sym (next_token v i h)) ∙ s.left v));
        }

    pub seek_on : (k ≡ kind_no BEGIN → ⊥) → Seeking records n name (i + 1)
    unfolding to_begin
    seek_on e = record {
      past = omega (arith, s.past);
      low = omega arith;
      few = s.few;
      room = s.room;
      left = λ v.
          let t = token_at v.tokens i in
          let other : eqb (kind_of t) (kind_no BEGIN) ≡ false = ne_eqb (kind_of t) (kind_no BEGIN) (λ q. e (kind ∙ (v.kind i h ∙ q))) in
          let rest = drop (i + 1) v.tokens in
          sym (ap (λ b. elim b [ true ↦ t ∷ rest | false ↦ to_begin rest ]) other) ∙ (ap to_begin (sym (next_token v i h)) ∙ s.left v);
    }

-- what of a table stays
known_kept : {old new : List ℕ} {k : ℕ} {x : Report} (j : ℕ) → ((q : ℕ) → (q ≡ 2 * j → ⊥) → (q ≡ 2 * j + 1 → ⊥) → cell 2 new q ≡ cell 2 old q) → (k ≡ j → ⊥)
    → Known old k x → Known new k x
known_kept {k = k} j s n x = record {
  ends = s (2 * k) (λ e. n (omega arith)) (λ e. omega arith) ∙ x.ends;
  low = s (2 * k + 1) (λ e. omega arith) (λ e. n (omega arith)) ∙ x.low;
}

pub two_put : {old mid new : List ℕ} {k v low : ℕ} {ends : Bool} → 1028 ≤ length old → k ≤ 256 → low < 65536 → v ≡ bit ends → v < 2 → mid ≡ put_cell 2 old (2 * k) v
    → new ≡ put_cell 2 mid (2 * k + 1) low → Put old new k ends low
two_put {old} {mid} {new} {k} {v} {low} h l f b small p q =
    let size = put_size 2 old mid (2 * k) v p in
    record {
      size = put_size 2 mid new (2 * k + 1) low q ∙ size;
      ends_is = put_same 2 mid new (2 * k + 1) low q (2 * k) (λ e. omega arith) ∙ (put_here 2 old mid (2 * k) v p (omega arith) (omega arith) ∙ b);
      low_is = put_here 2 mid new (2 * k + 1) low q (omega arith) f;
      same = λ j n o. put_same 2 mid new (2 * k + 1) low q j o ∙ put_same 2 old mid (2 * k) v p j n;
    }

pub put_true : {old mid new : List ℕ} {k low : ℕ} {ends : Bool} → 1028 ≤ length old → k ≤ 256 → low < 65536 → ends ≡ true → mid ≡ put_cell 2 old (2 * k) 1
    → new ≡ put_cell 2 mid (2 * k + 1) low → Put old new k ends low
put_true h l f e p q = two_put h l f (ap bit (sym e)) (omega arith) p q

pub put_false : {old mid new : List ℕ} {k low : ℕ} {ends : Bool} → 1028 ≤ length old → k ≤ 256 → low < 65536 → ends ≡ false → mid ≡ put_cell 2 old (2 * k) 0
    → new ≡ put_cell 2 mid (2 * k + 1) low → Put old new k ends low
put_false h l f e p q = two_put h l f (ap bit (sym e)) (omega arith) p q

-- a blank table
pub record Blanking (first table : List ℕ) (k : ℕ) : Type 0 where
  pub blank : Blank first table k
  pub few : k ≤ 257
  pub room : 1028 ≤ length table

pub none_blank : {table : List ℕ} → 1028 ≤ length table → Blanking table table 0
none_blank h = record { blank = record { size = refl; ends = λ j l. absurd (omega arith); low = λ j l. absurd (omega arith) }; few = omega arith; room = h }

pub one_blank : {first old new : List ℕ} {k : ℕ} → Blanking first old k → k ≤ 256 → Put old new k false 65535 → Blanking first new (k + 1)
one_blank {first} {old} {new} {k} b h p =
    record {
      blank = record { size = p.size ∙ b.blank.size; ends = λ j l. ends j l (dec_lt j k); low = λ j l. low j l (dec_lt j k) };
      few = omega arith;
      room = omega (arith, p.size, b.room);
    }
  where
    ends : (j : ℕ) → j < k + 1 → Dec (j < k) → cell 2 new (2 * j) ≡ 0
    ends j l (yes a) = p.same (2 * j) (λ e. omega arith) (λ e. omega arith) ∙ b.blank.ends j a
    ends j l (no a) = let e : j ≡ k = omega arith in ap (λ q. cell 2 new (2 * q)) e ∙ p.ends_is

    low : (j : ℕ) → j < k + 1 → Dec (j < k) → cell 2 new (2 * j + 1) ≡ unseen
    low j l (yes a) = p.same (2 * j + 1) (λ e. omega arith) (λ e. omega arith) ∙ b.blank.low j a
    low j l (no a) = let e : j ≡ k = omega arith in ap (λ q. cell 2 new (2 * q + 1)) e ∙ p.low_is

pub all_blank : {first table : List ℕ} {k : ℕ} → Blanking first table k → 256 < k → Blank first table 257
all_blank b h = record { size = b.blank.size; ends = λ j l. b.blank.ends j (omega arith); low = λ j l. b.blank.low j (omega arith) }

-- of a name that has no body all is known from the first round on
bodiless : (ds : Table) (test : Word) (out l : ℕ) (w : Word) → body_of ds w ≡ none → body_early ds test out (suc l) w ≡ inside w passed
unfolding body_early body_act early early_i
bodiless ds test out l w e = rw e

no_body_known : {new old : List ℕ} {k : ℕ} (ds : Table) (test : Word) (out l : ℕ) (w : Word) → body_of ds w ≡ none → Put old new k true 65535
    → Known new k (body_early ds test out (suc l) w)
no_body_known {new} {k = k} ds test out l w e p =
    subst (Known new k) (sym (bodiless ds test out l w e)) (record { ends = p.ends_is; low = p.low_is })

-- a declaration of the table is one of the list
listed : (list : List Declaration) (k : ℕ) (d : Declared) → get_elem? (map declared_of list) k ≡ some d → (x : Declaration) × (get_elem? list k ≡ some x) × (declared_of x ≡ d)
listed [] k d e = absurd (none-ne-some d e)
listed (x ∷ list) zero d e = (x, refl, some-injective (declared_of x) d e)
listed (x ∷ list) (suc k) d e = listed list k d e

abbrev pub scene_of : {records decls table : List ℕ} {t : Task} (v : SpeltDescription records decls t.m t.n) (test : Word) → Aimed v test t.aim → (l : ℕ)
    → Level v test t.out l table → 1028 ≤ length table → t.out < 256 → Scene records decls table t
scene_of {t = t} v test aims l known h o = record {
  written = v;
  test = test;
  known = body_early (whole v) test t.out l;
  aims = aims;
  knows = known;
  room = h;
  output = o;
}

-- the body of the declaration k
module _ {records decls : List ℕ} {m n : ℕ} (v : SpeltDescription records decls m n) (k name start b : ℕ) (within : k < m) (at : name ≡ cell 2 decls k)
    (is : (v : Reading records decls m n) → Body v k (Some b))
    (starts : (v : Kinded records n) → drop start v.tokens ≡ to_begin (drop (name + 1) v.tokens)) where
  abbrev D : Declares (reading v) k
  D = declares (reading v) k within

  abbrev act : Action
  act = ((is (reading v)).there refl).0

  its : (declared_of D.declaration).body ≡ some act
  unfolding body_number
  its = sym (rw (D.found, body_number)) ∙ ((is (reading v)).there refl).1

  name_reads : drop name v.tokens ≡ name_tokens D.declaration (declarations_tokens D.stands.following [])
  name_reads = ap (λ p. drop p v.tokens) at ∙ D.stands.reads

  body_reads : drop start v.tokens ≡ action_tokens act (declarations_tokens D.stands.following [])
  body_reads =
      starts (kinded (reading v))
      ∙ (ap to_begin (sym (drop-drop 1 name v.tokens) ∙ ap (drop 1) name_reads)
      ∙ has_begin D.declaration act (declarations_tokens D.stands.following []) its)

  shallow : action_nest act ≤ deepest
  shallow =
      let x = listed (declaration_list v.description) k (declared_of D.declaration) (ap (λ (l : Table). get_elem? l k) (sym (all_declared v.description)) ∙ D.found) in
      omega (arith, body_shallow v.description k x.0 act x.1 (ap (λ (y : Declared). y.body) x.2 ∙ its), v.ready.shallow)

  module _ (w : Word) (number : number_of (whole v) w ≡ some k) where
    word : word_at v.tokens name ≡ w
    word =
        let f = found (whole v) w k number in
        let same : declared_of D.declaration ≡ f.declared = some-injective _ _ (sym D.found ∙ f.there) in
        ap (λ (t : Token). t.info.word) (name_there within at (reading v)).1 ∙ (ap (λ (y : Declared). y.name.word) same ∙ f.named)

    body_is : body_of (whole v) w ≡ some act
    unfolding body_of
    body_is = ap (body_number (whole v)) number ∙ ((is (reading v)).there refl).1

    walked : (test : Word) (out l : ℕ)
        → run (whole v) test out (body_early (whole v) test out l) 0 (outset (word_at v.tokens name)) (drop start v.tokens)
        ≡ walk_body (whole v) test out (body_early (whole v) test out l) act w
    walked test out l =
        let K = body_early (whole v) test out l in
        let rest = declarations_tokens D.stands.following [] in
        let q = ((is (reading v)).there refl).2 in
        ap (λ y. run (whole v) test out K 0 (outset y) (drop start v.tokens)) word
        ∙ (ap (run (whole v) test out K 0 (outset w)) (body_reads ∙ ap (λ y. action_tokens y rest) q.is)
        ∙ (body_read (whole v) test out K q.opens q.first q.others w rest (omega (arith, shallow, ap action_nest q.is))
        ∙ ap (λ y. walk_body (whole v) test out K y w) (sym q.is)))

module _ {records decls table next room : List ℕ} {t : Task} {k : ℕ} (x : PartAt records decls table next room t k) where
  pub part_kinds : Kinded records t.n
  part_kinds = kinded (reading x.levelled.written)

  name_below : {name : ℕ} → name ≡ cell 2 decls k → name < t.n
  name_below at = omega (arith, (name_there x.within at (reading x.levelled.written)).0, x.levelled.written.count)

  pub name_in : {name : ℕ} → name ≡ cell 2 decls k → Kinded records t.n × (name < t.n)
  name_in at = (part_kinds, name_below at)

  module _ {name start : ℕ} (at : name ≡ cell 2 decls k) where
    pub to_walk : BeginBehind records t.n name start → Beginning records decls table room t name start
    to_walk r =
        let past = r.past in
        let low = r.low in
        let y = x.levelled in
        let z = name_there x.within at (reading y.written) in
        record {
          scene = scene_of y.written y.test y.aims y.level y.known y.table_room y.output;
          behind = past;
          few = omega (arith, y.written.ready.holds.few);
          record_room = omega (arith, z.0, y.written.count, y.written.ready.holds.record_room);
          from_few = omega (arith, y.written.ready.holds.few, y.written.count);
          is_name = λ g.
              let u = name_there x.within at (reading g.written) in
              record { within = u.0; kind = ap (λ (o : Token). o.kind) u.1 };
          space = y.space;
        }

    module _ (o : Answer ℕ) (says : (v : Reading records decls t.m t.n) → Body v k o) where
      pub part_walked : {new : List ℕ} {f : Found} → is_some o ≡ true → BeginBehind records t.n name start
          → Walked records decls table t name start f → Put next new k f.ends f.low → Part records decls table next new t k
      part_walked {new} {f} there r walk p = record {
        size = p.size;
        same = p.same;
        known = λ v test aims l known w number.
            let g = scene_of v test aims l known x.levelled.table_room x.levelled.output in
            let starts = r.reads in
            let F = walk.finds g in
            let (b, o) = found_at o there in
            let is = λ (y : Reading records decls t.m t.n). subst (λ (q : Answer ℕ). Body y k q) o (says y) in
            let e = walked v k name start b x.within at is starts w number test t.out l in
            let y = body_level (whole v) test t.out l w (act v k name start b x.within at is starts) (body_is v k name start b x.within at is starts w number) in
            record {
              ends = p.ends_is ∙ ap bit (F.ends ∙ (ap (λ q. q.flags 1) e ∙ y.0));
              low = p.low_is ∙ (F.low ∙ (ap (λ q. least unseen q.places) e ∙ ap (least unseen) y.1));
            };
      }

  pub part_bodiless : {new : List ℕ} (b : Answer ℕ) → ((v : Reading records decls t.m t.n) → Body v k b) → is_some b ≡ false → Put next new k true 65535
      → Part records decls table next new t k
  unfolding body_of
  part_bodiless b is e p = record {
    size = p.size;
    same = p.same;
    known = λ v test aims l known w number.
        no_body_known (whole v) test t.out l w (ap (body_number (whole v)) number ∙ (is (reading v)).missing (not_found b e)) p;
  }

pub to_put : {records decls table next room : List ℕ} {t : Task} {k name start : ℕ} {f : Found} → PartAt records decls table next room t k
    → Walked records decls table t name start f → (1028 ≤ length next) × (k ≤ 256) × (f.low < 65536)
to_put x f = let y = x.levelled in (y.next_room, omega (arith, x.within, y.written.ready.few), f.fits)

-- the first k declarations are
pub record Parts (records decls table first room₀ new room : List ℕ) (t : Task) (k : ℕ) : Type 0 where
  pub levelled : Levelled records decls table new room t
  pub size : length new ≡ length first
  pub room_size : length room ≡ length room₀
  pub known : (v : SpeltDescription records decls t.m t.n) (test : Word) → Aimed v test t.aim → (l : ℕ) → Level v test t.out l table
      → (j : ℕ) → j < k → (w : Word) → number_of (whole v) w ≡ some j → Known new j (body_early (whole v) test t.out (suc l) w)

-- one round
module _ {records decls table next room : List ℕ} {t : Task} where
  pub parts_none : Levelled records decls table next room t → Parts records decls table next room next room t 0
  parts_none x = record { levelled = x; size = refl; room_size = refl; known = λ v test aims l known j h. absurd (omega arith) }

  module _ {first room₀ : List ℕ} {k : ℕ} (x : Parts records decls table first room₀ next room t k) where
    pub part_at : k < t.m → PartAt records decls table next room t k
    part_at h = record { levelled = x.levelled; within = h }

    pub parts_more : {new now : List ℕ} → k < t.m → length now ≡ length room → Part records decls table next new t k
        → Parts records decls table first room₀ new now t (k + 1)
    parts_more {new} {now} h size p = record {
      levelled = record {
        written = x.levelled.written;
        test = x.levelled.test;
        aims = x.levelled.aims;
        level = x.levelled.level;
        known = x.levelled.known;
        output = x.levelled.output;
        table_room = x.levelled.table_room;
        next_room = omega (arith, p.size, x.levelled.next_room);
        space = omega (arith, x.levelled.space);
      };
      size = p.size ∙ x.size;
      room_size = size ∙ x.room_size;
      known = λ v test aims l known j low w number. by v test aims l known j low w number (dec_lt j k);
    }
      where
        by : (v : SpeltDescription records decls t.m t.n) (test : Word) → Aimed v test t.aim → (l : ℕ) → Level v test t.out l table
            → (j : ℕ) → j < k + 1 → (w : Word) → number_of (whole v) w ≡ some j → Dec (j < k) → Known new j (body_early (whole v) test t.out (suc l) w)
        by v test aims l known j low w number (yes a) = known_kept k p.same (λ e. omega arith) (x.known v test aims l known j a w number)
        by v test aims l known j low w number (no a) =
            let e : k ≡ j = omega arith in
            subst (λ q. Known new q (body_early (whole v) test t.out (suc l) w)) e (p.known v test aims l known w (number ∙ ap some (sym e)))

    pub round_done : {new : List ℕ} → t.m ≤ k → Put next new 256 true 65535 → Rounded records decls table new t
    unfolding body_of body_number
    round_done {new} h p = record { known = λ v test aims l known w. by v test aims l known w (number_of (whole v) w) refl }
      where
        by : (v : SpeltDescription records decls t.m t.n) (test : Word) → Aimed v test t.aim → (l : ℕ) → Level v test t.out l table → (w : Word) → (o : Option ℕ) → number_of (whole v) w ≡ o → Known new (number_or o) (body_early (whole v) test t.out (suc l) w)
        by v test aims l known w none e = no_body_known (whole v) test t.out l w (ap (body_number (whole v)) e) p
        by v test aims l known w (some j) e =
            let small = number_bound (whole v) j w e in
            known_kept 256 p.same (λ q. omega (arith, table_size_lem (reading v), v.ready.few)) (x.known v test aims l known j (omega (arith, table_size_lem (reading v))) w e)

    pub last_room : (1028 ≤ length next) × (256 ≤ 256) × (65535 < 65536)
    last_room = (x.levelled.next_room, omega arith, omega arith)

-- k rounds are over
pub record Turned (records decls table next room : List ℕ) (t : Task) (k : ℕ) : Type 0 where
  pub starting : Starting records decls table next room t
  pub even : ℕ
  pub is_even : k ≡ 2 * even
  pub known : (v : SpeltDescription records decls t.m t.n) (test : Word) → Aimed v test t.aim → Level v test t.out k table

-- all rounds
pub record Turning (records decls table₀ next₀ room₀ table next room : List ℕ) (t : Task) (k : ℕ) : Type 0 where
  pub turned : Turned records decls table next room t k
  pub table_size_lem : length table ≡ length table₀
  pub next_size : length next ≡ length next₀
  pub room_size : length room ≡ length room₀
  pub low : k < 18

index_low : {records decls : List ℕ} {m n : ℕ} (v : Reading records decls m n) (w : Word) → index_of (table_of v) w < 257
index_low v w = by (number_of (table_of v) w) refl
  where
    by : (o : Option ℕ) → number_of (table_of v) w ≡ o → number_or o < 257
    by none e = omega arith
    by (some j) e = omega (arith, number_bound (table_of v) j w e, table_size_lem v, v.ready.few)

blank_level : {records decls first table : List ℕ} {m n : ℕ} → Blank first table 257 → (v : SpeltDescription records decls m n) (test : Word) (out : ℕ) → Level v test out 0 table
unfolding body_early
blank_level b v test out w =
    let l = index_low (reading v) w in
    record { ends = b.ends (index_of (whole v) w) l; low = b.low (index_of (whole v) w) l }

module _ {records decls table next room : List ℕ} {t : Task} (s : Starting records decls table next room t) where
  none_turned : {new : List ℕ} → Blank table new 257 → Turned records decls new next room t 0
  none_turned b = record {
    starting = record {
      written = s.written;
      test = s.test;
      aims = s.aims;
      output = s.output;
      table_room = omega (arith, b.size, s.table_room);
      next_room = s.next_room;
      space = s.space;
    };
    even = 0;
    is_even = refl;
    known = λ v test aims. blank_level b v test t.out;
  }

  pub turned_none : {new : List ℕ} → Blank table new 257 → Turning records decls new next room new next room t 0
  turned_none b = record { turned = none_turned b; table_size_lem = refl; next_size = refl; room_size = refl; low = omega arith }

module _ {records decls table₀ next₀ room₀ table next room : List ℕ} {t : Task} {k : ℕ} (y : Turning records decls table₀ next₀ room₀ table next room t k) where
  abbrev x : Turned records decls table next room t k
  x = y.turned

  pub to_round : Levelled records decls table next room t
  to_round = record {
    written = x.starting.written;
    test = x.starting.test;
    aims = x.starting.aims;
    level = k;
    known = x.known x.starting.written x.starting.test x.starting.aims;
    output = x.starting.output;
    table_room = x.starting.table_room;
    next_room = x.starting.next_room;
    space = x.starting.space;
  }

  module _ {new : List ℕ} (one : Rounded records decls table new t) (size : length new ≡ length next) where
    pub to_round_back : {now : List ℕ} → length now ≡ length room → Levelled records decls new table now t
    to_round_back space = record {
      written = x.starting.written;
      test = x.starting.test;
      aims = x.starting.aims;
      level = suc k;
      known = one.known x.starting.written x.starting.test x.starting.aims k (x.known x.starting.written x.starting.test x.starting.aims);
      output = x.starting.output;
      table_room = omega (arith, x.starting.next_room);
      next_room = x.starting.table_room;
      space = omega (arith, x.starting.space);
    }

    more_turned : {old then : List ℕ} → length old ≡ length table → length then ≡ length room → Rounded records decls new old t → Turned records decls old new then t (k + 2)
    more_turned {old} a b two = record {
      starting = record {
        written = x.starting.written;
        test = x.starting.test;
        aims = x.starting.aims;
        output = x.starting.output;
        table_room = omega (arith, x.starting.table_room);
        next_room = omega (arith, x.starting.next_room);
        space = omega (arith, x.starting.space);
      };
      even = suc x.even;
      is_even = omega (arith, x.is_even);
      known = λ v test aims.
          let e : k + 2 ≡ suc (suc k) = omega arith in
          subst (λ q. Level v test t.out q old) (sym e) (two.known v test aims (suc k) (one.known v test aims k (x.known v test aims)));
    }

    pub turned_more : {old then : List ℕ} {j : ℕ} → k < 16 → j ≡ k + 2 → Rounded records decls new old t → length old ≡ length table → length then ≡ length room
        → Turning records decls table₀ next₀ room₀ old new then t j
    turned_more h e two a b = rw e (record { turned = more_turned a b two; table_size_lem = a ∙ y.table_size_lem; next_size = size ∙ y.next_size; room_size = b ∙ y.room_size; low = omega arith })

  pub all_turned : 16 ≤ k → Known16 records decls table t
  all_turned h v test aims =
      let e : k ≡ longest_chain = omega (arith, x.is_even, y.low) in subst (λ q. Level v test t.out q table) e (x.known v test aims)
