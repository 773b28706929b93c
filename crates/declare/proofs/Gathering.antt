-- Laws of `find`: what holds when m declarations are written and the next one begins with the token i, and what one turn makes of it.
-- Assumes nothing.
use Prim.Native.Nat.{ℕ, zero, suc, ◌+◌, ◌-◌, ◌*◌, ◌<◌, ◌≤◌}
use mathlib.Core.Path.{◌≡◌, refl, sym, ap, ◌∙◌, subst}
use mathlib.Core.List.{List, [], ◌∷◌}
use mathlib.Core.Option.{some, none-ne-some, some-injective}
use native.Mathlib.Omega.{arith}
use native.Mathlib.Decide.{dec_lt}
use lib.ListN.{length, drop, length-drop, length-append, get_elem?}
use lib.Seq.{drop-drop, drop-set-lt}
use Rattle.cells.specs.Cells.{put_at, cell, put_cell}
use Rattle.cells.proofs.Laws.{length_put, le_put_same, le_put_below}
use Rattle.rules.specs.Text.Tokens.{kind_no, Token, tk, Name, Becomes, BEGIN, Comma, END}
use Rattle.rules.specs.Limits.{most_tokens}
use Rattle.rules.specs.Grammar.Trees.{Tokens, Heading, no_heading, heading, heading_tokens, Declaration, plain, main, declaration_tokens}
use Rattle.rules.specs.Grammar.Trees.{Declarations, declared_all, declared_also, declarations_tokens, Description, description, flatten}
use Rattle.laws_grammar.specs.Grammar.Positions.{declaration_writes}
use Rattle.records.specs.Holds.{kind_byte, token_at, Holds}
use Rattle.table.specs.Laws.Positions.{token_far, behind_far}
use Rattle.table.specs.Declarations.{name_tokens, DeclaredAt, following_list, declaration_list}
use Rattle.declare.specs.Finding.{Described, Begins, Named, Follow, Beginning, Naming, Increasing, Found}
use Rattle.declare.proofs.Starts.{first}

-- of the declarations in a list, m are written, and the next begins with the token i
pub record Left (ts : Tokens) (list : List Declaration) (decls : List ℕ) (i m : ℕ) : Type 0 where
  pub heading : Heading
  pub declaration : Declaration
  pub following : Declarations
  pub begins : Begins ts i heading declaration following
  pub rest : drop m list ≡ declaration ∷ following_list following
  pub each : (k : ℕ) (d : Declaration) → k < m → get_elem? list k ≡ some d → DeclaredAt ts (cell 2 decls k) d

pub record Gathered (records decls₀ decls : List ℕ) (i m : ℕ) : Type 0 where
  pub long : length decls ≡ length decls₀
  pub ahead : 3 + m ≤ i
  pub increasing : Increasing decls m
  pub below : (j : ℕ) → j < m → cell 2 decls j < i
  pub beyond : drop (2 * m) decls ≡ drop (2 * m) decls₀
  pub left : (text values : List ℕ) (n : ℕ) (v : Described text records values n) → Left v.tokens (declaration_list v.description) decls i m

none_yet : (ts : Tokens) (x : Description) (decls : List ℕ) → flatten x ≡ ts → Left ts (declaration_list x) decls 3 0
none_yet ts (description n e b h d ds) decls r =
    let rest = heading_tokens h (declaration_tokens d (declarations_tokens ds [])) in
    let here : drop 0 ts ≡ tk Name n ∷ tk Becomes e ∷ tk BEGIN b ∷ rest = sym r in
    record {
      heading = h;
      declaration = d;
      following = ds;
      begins = record {
        past = omega arith;
        led = λ z. omega (arith, ap kind_no (sym (ap (λ (t : Token). t.kind) (token_far ts 0 _ here 2)) ∙ z));
        reads = behind_far ts 0 _ here 3;
      };
      rest = refl;
      each = λ k x l q. absurd (omega arith);
    }

pub nothing_gathered : {records decls : List ℕ} → Gathered records decls decls 3 0
nothing_gathered {records} {decls} = record {
  long = refl;
  ahead = omega arith;
  increasing = record { rises = λ j k l q. absurd (omega arith) };
  below = λ j l. absurd (omega arith);
  beyond = refl;
  left = λ text values n v. none_yet v.tokens v.description decls v.reads;
}

-- a declaration has more tokens than those behind it
named_longer : (d : Declaration) (ts : Tokens) → length ts < length (name_tokens d ts)
named_longer (plain n f) ts = omega (arith, ap length ((declaration_writes (plain n f)).grows [] ts), length-append (declaration_tokens (plain n f) []) ts)
named_longer (main k n o e b a m) ts =
    let x = main k n o e b a m in omega (arith, ap length ((declaration_writes x).grows [] ts), length-append (declaration_tokens x []) ts)

begins_longer : (h : Heading) (d : Declaration) (ts : Tokens) → length (name_tokens d ts) ≤ length (heading_tokens h (declaration_tokens d ts))
begins_longer no_heading (plain n f) ts = omega arith
begins_longer no_heading (main k n o e b a m) ts = omega arith
begins_longer (heading l x r) (plain n f) ts = omega arith
begins_longer (heading l x r) (main k n o e b a m) ts = omega arith

at_least_one : (ds : Declarations) → 0 < length (declarations_tokens ds [])
at_least_one (declared_all e) = omega arith
at_least_one (declared_also c h d ds) = omega arith

-- what stands in front stands there first
in_front : (ts : Tokens) (i j : ℕ) (xs ys : Tokens) → drop i ts ≡ xs → drop j ts ≡ ys → 0 < length ys → length ys ≤ length xs → i + length xs ≡ j + length ys
in_front ts i j xs ys p q l h = omega (arith, ap length p, ap length q, length-drop i ts, length-drop j ts)

first_of : {A : Type 0} (l : List A) (m : ℕ) (x : A) (xs : List A) → drop m l ≡ x ∷ xs → get_elem? l m ≡ some x
first_of [] zero x xs e = absurd (omega (arith, ap length e))
first_of [] (suc m) x xs e = absurd (omega (arith, ap length e))
first_of (a ∷ l) zero x xs e = ap (λ o. get_elem? o 0) e
first_of (a ∷ l) (suc m) x xs e = first_of l m x xs e

pub element_within : {A : Type 0} (l : List A) (k : ℕ) (x : A) → get_elem? l k ≡ some x → k < length l
element_within [] k x e = absurd (none-ne-some x e)
element_within (a ∷ l) zero x e = omega arith
element_within (a ∷ l) (suc k) x e = omega (arith, element_within l k x e)

drop_put : (w k : ℕ) (b : List ℕ) (o v : ℕ) → o + w ≤ k → drop k (put_at w b o v) ≡ drop k b
unfolding put_at
drop_put zero k b o v h = refl
drop_put (suc w) k b o v h = drop_put w k _ (o + 1) _ (omega arith) ∙ drop-set-lt k b o _ (omega arith)

-- a cell more: p behind the m that increase up to i
module _ (decls : List ℕ) (m p : ℕ) (room : 2 * m + 2 ≤ length decls) (fits : p < 65536) where
  written : cell 2 (put_cell 2 decls m p) m ≡ p
  written = le_put_same 2 decls (2 * m) p room fits

  kept : (k : ℕ) → k < m → cell 2 (put_cell 2 decls m p) k ≡ cell 2 decls k
  kept k l = le_put_below 2 2 decls (2 * m) p (2 * k) (omega arith)

  below_now : (i e : ℕ) → ((j : ℕ) → j < m → cell 2 decls j < i) → i ≤ p → p < e → (j : ℕ) → j < m + 1 → cell 2 (put_cell 2 decls m p) j < e
  below_now i e below l q j h = by (dec_lt j m)
    where
      by : Dec (j < m) → cell 2 (put_cell 2 decls m p) j < e
      by (yes y) = omega (arith, kept j y, below j y)
      by (no f) = let z : j ≡ m = omega arith in rw z (omega (arith, written))

  increasing_now : (i : ℕ) → ((j : ℕ) → j < m → cell 2 decls j < i) → i ≤ p → Increasing decls m → Increasing (put_cell 2 decls m p) (m + 1)
  increasing_now i below l inc = record { rises = λ j k h q. by j k h q (dec_lt k m) }
    where
      by : (j k : ℕ) → j < k → k < m + 1 → Dec (k < m) → cell 2 (put_cell 2 decls m p) j < cell 2 (put_cell 2 decls m p) k
      by j k h q (yes y) = omega (arith, kept j (omega arith), kept k y, inc.rises j k h y)
      by j k h q (no f) = let z : k ≡ m = omega arith in rw z (omega (arith, kept j (omega arith), written, below j (omega arith)))

  each_now : (ts : Tokens) (list : List Declaration) (x : Declaration) (xs : List Declaration) → drop m list ≡ x ∷ xs → DeclaredAt ts p x
      → ((k : ℕ) (d : Declaration) → k < m → get_elem? list k ≡ some d → DeclaredAt ts (cell 2 decls k) d)
      → (k : ℕ) (d : Declaration) → k < m + 1 → get_elem? list k ≡ some d → DeclaredAt ts (cell 2 (put_cell 2 decls m p) k) d
  each_now ts list x xs rest this each k d l q = by (dec_lt k m)
    where
      by : Dec (k < m) → DeclaredAt ts (cell 2 (put_cell 2 decls m p) k) d
      by (yes y) = subst (λ c. DeclaredAt ts c d) (sym (kept k y)) (each k d y q)
      by (no f) =
          let z : k ≡ m = omega arith in
          let same : x ≡ d = some-injective x d (sym (first_of list m x xs rest) ∙ ap (get_elem? list) (sym z) ∙ q) in
          subst (λ c. DeclaredAt ts c d) (sym (ap (cell 2 (put_cell 2 decls m p)) z ∙ written)) (subst (DeclaredAt ts p) same this)

  beyond_now : (decls₀ : List ℕ) → drop (2 * m) decls ≡ drop (2 * m) decls₀ → drop (2 * (m + 1)) (put_cell 2 decls m p) ≡ drop (2 * (m + 1)) decls₀
  beyond_now decls₀ e =
      let two : 2 * (m + 1) ≡ 2 * m + 2 = omega arith in
      rw two
      (drop_put 2 (2 * m + 2) decls (2 * m) p (omega arith)
      ∙ sym (drop-drop 2 (2 * m) decls)
      ∙ ap (drop 2) e
      ∙ drop-drop 2 (2 * m) decls₀)

abbrev pub Source : List ℕ → Type 0
Source records = (text : List ℕ) × (values : List ℕ) × (n : ℕ) × Described text records values n

module _ {records decls₀ decls : List ℕ} {i m : ℕ} (g : Gathered records decls₀ decls i m) where
  abbrev pub beginning : Source records → Beginning records i
  beginning s =
      let l = g.left s.0 s.1 s.2 s.3 in
      record {
        text = s.0;
        values = s.1;
        tokens = s.3.tokens;
        holds = s.3.holds;
        heading = l.heading;
        declaration = l.declaration;
        following = l.following;
        begins = l.begins;
      }

  module _ {p : ℕ} (name : (v : Beginning records i) → Named v.tokens p v.declaration v.following) where
    abbrev pub naming : Source records → Naming records p
    naming s =
        let b = beginning s in
        record {
          text = b.text;
          values = b.values;
          tokens = b.tokens;
          holds = b.holds;
          declaration = b.declaration;
          following = b.following;
          named = name b;
        }

-- the token p in a table, not before the token i
pub record Placed (records : List ℕ) (i p : ℕ) : Type 0 where
  pub behind : i ≤ p
  pub few : p < most_tokens
  pub room : 8 * p + 8 ≤ length records

module _ {text records values : List ℕ} {ts : Tokens} (h : Holds text records values ts) where
  placed : (i p : ℕ) (xs ys : Tokens) → drop i ts ≡ xs → drop p ts ≡ ys → 0 < length ys → length ys ≤ length xs → Placed records i p
  placed i p xs ys a b l q =
      let w = in_front ts i p xs ys a b l q in
      let t : p < length ts = omega (arith, ap length b, length-drop p ts) in
      record { behind = omega arith; few = omega (arith, h.few); room = omega (arith, h.record_room) }

pub name_placed : {records : List ℕ} {i p : ℕ} (b : Beginning records i) → Named b.tokens p b.declaration b.following → Placed records i p
name_placed {records} {i} {p} b n =
    let ds = declarations_tokens b.following [] in
    let l = named_longer b.declaration ds in
    placed b.holds i p _ _ b.begins.reads n.reads (omega arith) (begins_longer b.heading b.declaration ds)

pub end_placed : {records : List ℕ} {p e : ℕ} (b : Naming records p) → Follow b.tokens e b.following → Placed records (p + 1) e
end_placed {records} {p} {e} b n =
    let ds = declarations_tokens b.following [] in
    let xs = name_tokens b.declaration ds in
    let l = named_longer b.declaration ds in
    placed b.holds (p + 1) e (drop 1 xs) ds (behind_far b.tokens p xs b.named.reads 1) n.reads (at_least_one b.following)
    (omega (arith, length-drop 1 xs))

-- behind a declaration: the END, or another one
record Another (ts : Tokens) (e : ℕ) (ds : Declarations) : Type 0 where
  pub heading : Heading
  pub declaration : Declaration
  pub following : Declarations
  pub begins : Begins ts (e + 1) heading declaration following
  pub rest : following_list ds ≡ declaration ∷ following_list following

module _ {text records values : List ℕ} {ts : Tokens} (h : Holds text records values ts) {e : ℕ} where
  no_more : (ds : Declarations) → Follow ts e ds → kind_byte records e ≡ kind_no END → following_list ds ≡ []
  unfolding following_list
  no_more (declared_all i) r k = refl
  no_more (declared_also c i d ds) r k = absurd (omega (arith, (first h {i = e} r.reads).kind))

  another : 2 < e → (ds : Declarations) → Follow ts e ds → (kind_byte records e ≡ kind_no END → ⊥) → Another ts e ds
  unfolding following_list
  another l (declared_all i) r k = absurd (k (first h r.reads).kind)
  another l (declared_also c i d ds) r k =
      let comma : token_at ts (e + 1 - 1) ≡ tk Comma c = ap (token_at ts) (omega arith) ∙ token_far ts e _ r.reads 0 in
      record {
        heading = i;
        declaration = d;
        following = ds;
        begins = record {
          past = omega arith;
          led = λ z. omega (arith, ap kind_no (sym (ap (λ (t : Token). t.kind) comma) ∙ z));
          reads = behind_far ts e _ r.reads 1;
        };
        rest = refl;
      }

-- the numbers of one turn: there is room for the name p, and it fits
pub record Turn (records decls : List ℕ) (i m p : ℕ) : Type 0 where
  pub ahead : 3 + m ≤ i
  pub name_at : Placed records i p
  pub room_left : 2 * m + 2 ≤ length decls
  pub fits : p < 65536

module _ {records decls₀ decls : List ℕ} {i m p : ℕ} (room : 2 * most_tokens ≤ length decls₀) (g : Gathered records decls₀ decls i m)
    (name : (v : Beginning records i) → Named v.tokens p v.declaration v.following) where
  pub turn : Source records → Turn records decls i m p
  turn s =
      let b = beginning g s in
      let a = name_placed b (name b) in
      let l = g.ahead in
      let q = g.long in
      record { ahead = l; name_at = a; room_left = omega (arith, a.few, a.behind); fits = omega (arith, a.few) }

  pub end_turn : {e : ℕ} → ((v : Naming records p) → Follow v.tokens e v.following) → Source records → Placed records (p + 1) e
  end_turn end s = end_placed (naming g name s) (end (naming g name s))

  declared : (s : Source records) → DeclaredAt s.3.tokens p (beginning g s).declaration
  declared s = let b = name (beginning g s) in record { past = b.past; led = b.led; following = (beginning g s).following; reads = b.reads }

  module _ {e x : ℕ} (end : (v : Naming records p) → Follow v.tokens e v.following) (kind : x ≡ kind_byte records e) where
    all_gathered : x ≡ kind_no END → (text values : List ℕ) (n : ℕ) (v : Described text records values n)
        → Found v.tokens (declaration_list v.description) decls₀ (put_cell 2 decls m p) (m + 1)
    all_gathered k text values n v =
        let s : Source records = (text, values, n, v) in
        let l = g.left text values n v in
        let t = turn s in
        let list = declaration_list v.description in
        let over : following_list l.following ≡ [] = no_more v.holds l.following (end (naming g name s)) (sym kind ∙ k) in
        let count : m + 1 ≡ length list = omega (arith, ap length l.rest, ap length over, length-drop m list) in
        record {
          count = count;
          hold = record {
            room = omega (arith, t.room_left, length_put 2 decls (2 * m) p);
            few = omega (arith, g.ahead, t.name_at.behind, t.name_at.few);
            each = λ k d q.
                each_now decls m p t.room_left t.fits v.tokens list l.declaration (following_list l.following) l.rest (declared s) l.each k d
                (omega (arith, count, element_within list k d q)) q;
          };
          increasing = increasing_now decls m p t.room_left t.fits i g.below t.name_at.behind g.increasing;
          beyond = beyond_now decls m p t.room_left t.fits decls₀ g.beyond;
        }

    more_gathered : (x ≡ kind_no END → ⊥) → Source records → Gathered records decls₀ (put_cell 2 decls m p) (e + 1) (m + 1)
    more_gathered k s₀ =
        let t = turn s₀ in
        let z = end_turn end s₀ in
        record {
          long = length_put 2 decls (2 * m) p ∙ g.long;
          ahead = omega (arith, g.ahead, t.name_at.behind, z.behind);
          increasing = increasing_now decls m p t.room_left t.fits i g.below t.name_at.behind g.increasing;
          below = below_now decls m p t.room_left t.fits i (e + 1) g.below t.name_at.behind (omega (arith, z.behind));
          beyond = beyond_now decls m p t.room_left t.fits decls₀ g.beyond;
          left = λ text values n v.
              let s : Source records = (text, values, n, v) in
              let l = g.left text values n v in
              let list = declaration_list v.description in
              let a = another v.holds (omega (arith, z.behind, t.name_at.behind, g.ahead)) l.following (end (naming g name s)) (λ q. k (kind ∙ q)) in
              record {
                heading = a.heading;
                declaration = a.declaration;
                following = a.following;
                begins = a.begins;
                rest = sym (drop-drop 1 m list) ∙ ap (drop 1) l.rest ∙ a.rest;
                each = each_now decls m p t.room_left t.fits v.tokens list l.declaration (following_list l.following) l.rest (declared s) l.each;
              };
        }

    module _ {after : List ℕ} (put : after ≡ put_cell 2 decls m p) where
      pub gathered_all : x ≡ kind_no END → (text values : List ℕ) (n : ℕ) (v : Described text records values n)
          → Found v.tokens (declaration_list v.description) decls₀ after (m + 1)
      gathered_all k text values n v = rw put (all_gathered k text values n v)

      pub gathered_more : (x ≡ kind_no END → ⊥) → Source records → Gathered records decls₀ after (e + 1) (m + 1)
      gathered_more k s = rw put (more_gathered k s)
