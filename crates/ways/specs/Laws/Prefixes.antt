-- Laws of prefixes: each kind of them, and what is left when all are passed.
-- Assumes nothing.
use Prim.Native.Nat.{ℕ, suc, ◌+◌, ◌*◌, ◌<◌, ◌≤◌}
use Rattle.std.specs.Prelude.{◌≡◌, refl, Bool, true, false, List, [], ◌∷◌, eqb, length, drop}
use Rattle.std.proofs.Common.{sym, ◌∙◌, eqb-true, eq-eqb}
use Rattle.std.proofs.Math.Path.{ap}
use Rattle.std.proofs.lemmas.Bool.{false≢true}
use native.Mathlib.Omega.{arith}
use Rattle.std.proofs.Math.Numerals.{add-one}
use Rattle.rules.specs.Text.Tokens.{Kind, kind_no, Token, tk, Name, Becomes, Arrow, IF, REPEAT}
use Rattle.rules.specs.Grammar.Trees.{Operand, operand_tokens, Tail, tail_tokens, Action, block, labelled, if_then, decode, repeat, leave, restart, activate, stop, no_op, transfer, action_tokens}
use Rattle.laws_grammar.specs.Cited.Kinds.{kind_at}
use Rattle.laws_grammar.specs.Grammar.Positions.{operand_writes, tail_writes, Writes}
use Rattle.laws_grammar.specs.Cited.Heads.{head_kind}
use Rattle.laws_grammar.specs.Grammar.Heads.{second_kind}
use Rattle.laws_grammar.specs.Cited.Nesting.{action_nest}
use Rattle.laws_orders.specs.Cited.Flat.{at, bind}
use Rattle.laws_code.specs.Cited.Code.{action_size, first_of}
use Rattle.laws_code.proofs.Links.Numbers.{size_before}
use Rattle.records.specs.Holds.{kind_byte}
use Rattle.table.specs.Laws.Positions.{here, behind_far}
use Rattle.table.specs.Laws.Scans.{arrow, past_expression}
use Rattle.table.specs.Scans.{scan, halts, stops}
use Rattle.ways.specs.Seeking.{Ground, Seeks, Starts}
use Rattle.ways.specs.Laws.Seeking.{found_at}
use Rattle.ways.specs.Laws.Forms.{test_is, loop-is, label_is, kind_of, action_within, head_byte, head_is, second_within, second_byte}
use Rattle.records.specs.Kept.{LinkPut, InsidePut}
use Rattle.records.specs.Laws.Kept.{kept_none, kept_then, kept_wide, holds_kept}
use Rattle.ways.specs.Laws.Stack.{labels_none, labels_then, labelled_more}
use Rattle.ways.specs.Stack.{Pushed}
use Rattle.room.specs.Links.{most_labels, hints_end}
use Rattle.ways.specs.Standing.{ActionAt}
use Rattle.ways.specs.Laws.Standing.{within, meant_kept, meant_later}
use Rattle.ways.specs.Prefixes.{prefixed, TestAt, TestPut, TurnAt, TurnPut, Prefixed}

-- by its first tokens
pub prefixed_test : (a : Action) → head_kind a ≡ IF → true ≡ prefixed a
prefixed_test a e = let (x, o, t, w, y, q) = test_is a e in sym (ap prefixed q)

pub prefixed_loop : (a : Action) → head_kind a ≡ REPEAT → true ≡ prefixed a
prefixed_loop a e = let (x, y, q) = loop-is a e in sym (ap prefixed q)

pub prefixed_label : (a : Action) → head_kind a ≡ Name → second_kind a ≡ Becomes → true ≡ prefixed a
prefixed_label a e f = let (x, b, y, q) = label_is a e f in sym (ap prefixed q)

pub unprefixed : (a : Action) → (head_kind a ≡ IF → ⊥) → (head_kind a ≡ REPEAT → ⊥) → (head_kind a ≡ Name → second_kind a ≡ Becomes → ⊥) → false ≡ prefixed a
unprefixed (block b a m) f g h = refl
unprefixed (labelled n b a) f g h = absurd (h refl refl)
unprefixed (if_then x o t w a) f g h = absurd (f refl)
unprefixed (decode x o t w b v) f g h = refl
unprefixed (repeat x a) f g h = absurd (g refl)
unprefixed (leave x n) f g h = refl
unprefixed (restart x n) f g h = refl
unprefixed (activate n l r) f g h = refl
unprefixed (stop x l r) f g h = refl
unprefixed (no_op x l r) f g h = refl
unprefixed (transfer n s b j e o t) f g h = refl

abbrev pub Says : List ℕ → ℕ → Bool → Type 0
Says records i r = (g : Ground) (v : Starts g records i) → r ≡ prefixed v.action

module _ (records : List ℕ) (i : ℕ) {k : ℕ} (kind : k ≡ kind_byte records i) where
  pub says_test : k ≡ kind_no IF → Says records i true
  says_test e g v = prefixed_test v.action (head_is v.holds i v.action v.rest v.reads 22 kind e)

  pub says_loop : k ≡ kind_no REPEAT → Says records i true
  says_loop e g v = prefixed_loop v.action (head_is v.holds i v.action v.rest v.reads 25 kind e)

  module _ (n : k ≡ kind_no IF → ⊥) (m : k ≡ kind_no REPEAT → ⊥) where
    byte : (g : Ground) (v : Starts g records i) → k ≡ kind_no (head_kind v.action)
    byte g v = kind ∙ head_byte v.holds i v.action v.rest v.reads

    pub says_other : (k ≡ 0 → ⊥) → Says records i false
    says_other o g v = unprefixed v.action (λ z. n (byte g v ∙ ap kind_no z)) (λ z. m (byte g v ∙ ap kind_no z)) (λ z. absurd (o (byte g v ∙ ap kind_no z)))

    module _ (named : k ≡ 0) where
      name_is : (g : Ground) (v : Starts g records i) → head_kind v.action ≡ Name
      name_is g v = head_is v.holds i v.action v.rest v.reads 0 kind named

      pub name_room : (g : Ground) × Starts g records i → 8 * (i + 1) + 8 ≤ length records
      name_room (g, v) = let w = second_within v.holds i v.action v.rest v.reads (name_is g v) in omega (arith, v.holds.record_room)

      pub says_name : {l : ℕ} → l ≡ kind_byte records (i + 1) → Says records i (eqb l 12)
      says_name {l} e g v = by (eqb l 12) refl
        where
          second : l ≡ kind_no (second_kind v.action)
          second = e ∙ second_byte v.holds i v.action v.rest v.reads (name_is g v)

          by : (b : Bool) → eqb l 12 ≡ b → b ≡ prefixed v.action
          by true q = prefixed_label v.action (name_is g v) (kind_of (second_kind v.action) 12 (sym second ∙ eqb-true l 12 q))
          by false q =
              unprefixed v.action (λ z. n (byte g v ∙ ap kind_no z)) (λ z. m (byte g v ∙ ap kind_no z))
              (λ y z. false≢true (sym q ∙ eq-eqb l 12 (second ∙ ap kind_no z)))

pub expression_writes : (o : Operand) (t : Tail) → Writes (λ ts. operand_tokens o (tail_tokens t ts))
expression_writes o t =
    record { grows = λ xs ys. ap (operand_tokens o) ((tail_writes t).grows xs ys) ∙ (operand_writes o).grows (tail_tokens t xs) ys }

module _ {g : Ground} {records : List ℕ} {i : ℕ} (v : TestAt g records i) where
  pub test_within : (i < length g.tokens) × (8 * i + 8 ≤ length records) × (i < 8192)
  test_within =
      let w = (here g.tokens i _ _ v.reads).within in
      (w, omega (arith, v.holds.record_room), omega (arith, v.holds.few))

  arrow_behind : drop (i + 1) g.tokens ≡ operand_tokens v.operand (tail_tokens v.tail (tk Arrow v.arrow_info ∷ action_tokens v.action v.rest))
  arrow_behind = (here g.tokens i _ _ v.reads).behind

  pub sought : scan 14 0 (drop (i + 1) g.tokens) ≡ tk Arrow v.arrow_info ∷ action_tokens v.action v.rest
  unfolding scan halts stops
  sought = ap (scan 14 0) arrow_behind ∙ past_expression arrow 0 v.operand v.tail _

  abbrev pub arrow_sought : Seeks g records (i + 1) 14
  arrow_sought = record { holds = v.holds; next = tk Arrow v.arrow_info; rest = action_tokens v.action v.rest; finds = sought }

  module _ (q : ℕ) (found : drop q g.tokens ≡ arrow_sought.next ∷ arrow_sought.rest) where
    pub behind_arrow : drop (q + 1) g.tokens ≡ action_tokens v.action v.rest
    behind_arrow = (here g.tokens q _ _ found).behind

    abbrev pub test_starts : Starts g records (q + 1)
    test_starts = record { holds = v.holds; action = v.action; rest = v.rest; reads = behind_arrow }

    pub test_put : {f link : ℕ} {mid now : List ℕ} → f ≡ first_of (q + 1) test_starts.action → InsidePut records mid i f → LinkPut mid now i link
        → TestPut v now link (q + 1) f
    test_put e a b = record {
      kept = kept_then i (i + 1) a.kept b.kept (omega arith) (omega arith) (omega arith) (omega arith);
      to = omega (arith, found_at _ (expression_writes v.operand v.tail) g.tokens (i + 1) q _ _ arrow_behind found);
      reads = behind_arrow;
      first_is = e;
      inside_is = b.inside ∙ (a.inside ∙ e);
      link_is = b.link;
    }

module _ {g : Ground} {records : List ℕ} {i : ℕ} (v : TurnAt g records i) where
  pub turn_within : (8 * i + 8 ≤ length records) × (i < 8192)
  turn_within = let w = (here g.tokens i _ _ v.reads).within in (omega (arith, v.holds.record_room), omega (arith, v.holds.few))

  abbrev pub turn_starts : Starts g records (i + 1)
  turn_starts = record { holds = v.holds; action = v.action; rest = v.rest; reads = (here g.tokens i _ _ v.reads).behind }

  pub turn_put : {f : ℕ} {now : List ℕ} → f ≡ first_of (i + 1) turn_starts.action → LinkPut records now i f → TurnPut v now f
  turn_put e a = record { kept = a.kept; first_is = e; link_is = a.link ∙ e }

module _ {g : Ground} {records labels : List ℕ} {i link count first depth : ℕ} (v : ActionAt g records labels i link count first depth) where
  pub prefixed_none : Prefixed v records labels i link count first
  prefixed_none = record {
    now = v;
    size_left = refl;
    onward = omega arith;
    kept = kept_none records i i;
    stack = labels_none labels count;
    fewer = omega arith;
    whole = λ later s l. l;
  }

  pub prefixed_then : {r l : List ℕ} {i' link' count' first' : ℕ} (p : Prefixed v r l i' link' count' first') {r' l' : List ℕ} {i'' link'' count'' first'' : ℕ}
      → Prefixed p.now r' l' i'' link'' count'' first'' → Prefixed v r' l' i'' link'' count'' first''
  prefixed_then {r} {i' = i'} p {r'} {i'' = i''} q =
      let h = p.onward in
      let k = q.onward in
      record {
        now = q.now;
        size_left = q.size_left ∙ p.size_left;
        onward = omega arith;
        kept = kept_then i i'' p.kept q.kept (omega arith) (omega arith) (omega arith) (omega arith);
        stack = labels_then p.stack q.stack p.fewer;
        fewer = omega (arith, p.fewer, q.fewer);
        whole = λ later s l.
            p.whole later
            (record {
              inside = λ t x y. s.inside t x (omega arith) ∙ q.kept.inside t (λ a b. omega arith);
              link = λ t x y. s.link t x (omega arith) ∙ q.kept.link t (λ a b. omega arith);
            })
            (q.whole later (record { inside = λ t x y. s.inside t (omega arith) y; link = λ t x y. s.link t (omega arith) y }) l);
      }

  -- IF
  module _ (e : head_kind v.action ≡ IF) where
    abbrev pub test_at : TestAt g records i
    test_at =
        let x = test_is v.action e in
        record {
          holds = v.holds;
          keyword = x.0;
          operand = x.1;
          tail = x.2;
          arrow_info = x.3;
          action = x.4;
          rest = v.next ∷ v.rest;
          reads = v.reads ∙ ap (λ (a : Action). action_tokens a (v.next ∷ v.rest)) x.5;
        }

    pub past_test : {now : List ℕ} {r f : ℕ} → TestPut test_at now link r f → Prefixed v now labels r link count f
    past_test {now} {r} t =
        let x = test_is v.action e in
        let n = t.to in
        let size = ap action_size x.5 ∙ ap suc (size_before (expression_writes x.1 x.2) (tk Arrow x.3 ∷ action_tokens x.4 [])) in
        let nest = ap action_nest x.5 in
        record {
          now = record {
            holds = holds_kept t.kept v.holds;
            around = v.around;
            held = v.held;
            room = v.room;
            few = omega (arith, v.few);
            behind = v.behind;
            link_is = v.link_is;
            link_fits = v.link_fits;
            action = x.4;
            next = v.next;
            rest = v.rest;
            reads = t.reads;
            ends = v.ends;
            begins = t.first_is;
            means = meant_kept g r t.kept (omega arith) (meant_later g records i r (omega arith) v.means);
            shallow = omega (arith, v.shallow);
          };
          size_left = omega arith;
          onward = omega arith;
          kept = kept_wide i r t.kept (omega arith) (omega arith);
          stack = labels_none labels count;
          fewer = omega arith;
          whole = λ later s l.
              rw x.5 (
                s.inside i (omega arith) (omega arith) ∙ (t.inside_is ∙ ap (λ j. first_of j x.4) n),
                s.link i (omega arith) (omega arith) ∙ (t.link_is ∙ v.link_is),
                rw (← n) l,
              );
        }

  -- REPEAT
  module _ (e : head_kind v.action ≡ REPEAT) where
    abbrev pub turn_at : TurnAt g records i
    turn_at =
        let x = loop-is v.action e in
        record {
          holds = v.holds;
          keyword = x.0;
          action = x.1;
          rest = v.next ∷ v.rest;
          reads = v.reads ∙ ap (λ (a : Action). action_tokens a (v.next ∷ v.rest)) x.2;
        }

    pub past_turn : {now : List ℕ} {f : ℕ} → TurnPut turn_at now f → Prefixed v now labels (i + 1) i count f
    past_turn {now} t =
        let x = loop-is v.action e in
        let size = ap action_size x.2 in
        let nest = ap action_nest x.2 in
        let w = (within v).2 in
        record {
          now = record {
            holds = holds_kept t.kept v.holds;
            around = v.around;
            held = v.held;
            room = v.room;
            few = omega (arith, v.few);
            behind = at i;
            link_is = refl;
            link_fits = omega arith;
            action = x.1;
            next = v.next;
            rest = v.rest;
            reads = (turn_starts turn_at).reads;
            ends = v.ends;
            begins = t.first_is;
            means = meant_kept g (i + 1) t.kept (omega arith) (meant_later g records i (i + 1) (omega arith) v.means);
            shallow = omega (arith, v.shallow);
          };
          size_left = omega arith;
          onward = omega arith;
          kept = kept_wide i (i + 1) t.kept (omega arith) (omega arith);
          stack = labels_none labels count;
          fewer = omega arith;
          whole = λ later s l. rw x.2 (s.link i (omega arith) (omega arith) ∙ (t.link_is ∙ ap (λ j. first_of j x.1) (add-one i)), rw (← add-one i) l);
        }

  -- a label
  module _ (e : head_kind v.action ≡ Name) (f : second_kind v.action ≡ Becomes) where
    labelled_reads : let x = label_is v.action e f in drop i g.tokens ≡ tk Name x.0 ∷ tk Becomes x.1 ∷ action_tokens x.2 (v.next ∷ v.rest)
    labelled_reads = let x = label_is v.action e f in v.reads ∙ ap (λ (a : Action). action_tokens a (v.next ∷ v.rest)) x.3

    pub label_starts : Starts g records (i + 2)
    label_starts =
        let x = label_is v.action e f in
        record { holds = v.holds; action = x.2; rest = v.next ∷ v.rest; reads = behind_far g.tokens i _ labelled_reads 2 }

    pub label_room : (count < most_labels) × (2 * hints_end ≤ length labels)
    label_room =
        let w = action_within label_starts.holds (i + 2) label_starts.action label_starts.rest label_starts.reads in
        (omega (arith, v.holds.few, v.few), v.room)

    pub past_label : {now : List ℕ} → Pushed records labels now count i first link → Prefixed v records now (i + 2) link (count + 1) first
    unfolding first_of
    past_label {now} p =
        let x = label_is v.action e f in
        let h = here g.tokens i _ _ labelled_reads in
        let size = ap action_size x.3 in
        let nest = ap action_nest x.3 in
        let two : i + 2 ≡ suc (suc i) = omega arith in
        let q : first ≡ first_of (i + 2) x.2 = rw two (v.begins ∙ ap (first_of i) x.3) in
        record {
          now = record {
            holds = v.holds;
            around = bind x.0.word first v.behind v.around;
            held =
                rw add-one (labelled_more g v.around x.0.word v.behind p v.held
                (record { within = h.within; kind = ap (λ (t : Token). t.kind) h.token }) (ap (λ (t : Token). t.info.word) h.token)
                (v.means i (omega arith) h.within (ap (λ (t : Token). t.kind) h.token)).1 v.link_is);
            room = omega (arith, v.room, p.kept.long);
            few = omega (arith, v.few);
            behind = v.behind;
            link_is = v.link_is;
            link_fits = v.link_fits;
            action = x.2;
            next = v.next;
            rest = v.rest;
            reads = behind_far g.tokens i _ labelled_reads 2;
            ends = v.ends;
            begins = q;
            means = meant_later g records i (i + 2) (omega arith) v.means;
            shallow = omega (arith, v.shallow);
          };
          size_left = omega arith;
          onward = omega arith;
          kept = kept_none records i (i + 2);
          stack = p.kept;
          fewer = omega arith;
          whole = λ later s l. rw x.3 (rw (q, two) at l);
        }

-- what is left when it is neither IF nor REPEAT
pub label_left : (a : Action) → prefixed a ≡ true → (head_kind a ≡ IF → ⊥) → (head_kind a ≡ REPEAT → ⊥) → (head_kind a ≡ Name) × (second_kind a ≡ Becomes)
label_left (block b a m) e f g = absurd (false≢true e)
label_left (labelled n b a) e f g = (refl, refl)
label_left (if_then x o t w a) e f g = absurd (f refl)
label_left (decode x o t w b v) e f g = absurd (false≢true e)
label_left (repeat x a) e f g = absurd (g refl)
label_left (leave x n) e f g = absurd (false≢true e)
label_left (restart x n) e f g = absurd (false≢true e)
label_left (activate n l r) e f g = absurd (false≢true e)
label_left (stop x l r) e f g = absurd (false≢true e)
label_left (no_op x l r) e f g = absurd (false≢true e)
label_left (transfer n s b j q o t) e f g = absurd (false≢true e)

module _ {g : Ground} {records labels : List ℕ} {i link count first depth : ℕ} (v : ActionAt g records labels i link count first depth) {k : ℕ} (kind : k ≡ kind_byte records i) where
  pub heads : (n : ℕ) → k ≡ n → head_kind v.action ≡ kind_at n
  heads n e = head_is v.holds i v.action (v.next ∷ v.rest) v.reads n kind e

  pub heads_not : (l : Kind) → (k ≡ kind_no l → ⊥) → head_kind v.action ≡ l → ⊥
  heads_not l n z = n (kind ∙ (head_byte v.holds i v.action (v.next ∷ v.rest) v.reads ∙ ap kind_no z))

  pub labels_here : prefixed v.action ≡ true → (k ≡ kind_no IF → ⊥) → (k ≡ kind_no REPEAT → ⊥) → (head_kind v.action ≡ Name) × (second_kind v.action ≡ Becomes)
  labels_here e n m = label_left v.action e (heads_not IF n) (heads_not REPEAT m)

-- the loop: whatever description it is, what is left of the action stands at the spot
pub record Walking (records₀ labels₀ : List ℕ) (i₀ link₀ count₀ first₀ : ℕ) (records labels : List ℕ) (i link count first : ℕ) : Type 0 where
  pub left : (g : Ground) (depth : ℕ) (v : ActionAt g records₀ labels₀ i₀ link₀ count₀ first₀ depth) → Prefixed v records labels i link count first
