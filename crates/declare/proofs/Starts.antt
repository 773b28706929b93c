-- Laws of the walk over the declarations: headings and MAIN are passed over, and a declaration ends where its brackets are shut.
-- Assumes nothing.
use Prim.Native.Nat.{ℕ, zero, suc, ◌+◌, ◌-◌, ◌*◌, ◌<◌, ◌≤◌}
use mathlib.Core.Path.{◌≡◌, sym, ap, ◌∙◌}
use mathlib.Core.Bool.{Bool, true, false}
use mathlib.Core.List.{List, [], ◌∷◌}
use native.Mathlib.Omega.{arith}
use native.Mathlib.Numerals.{add-one}
use native.Mathlib.Decide.{dec_lt}
use lib.ListN.{length, drop, drop_of_length-le}
use lib.Seq.{drop-cons}
use Rattle.rules.specs.Text.Tokens.{Kind, kind_no, Token, tk, Name, MAIN, Stars}
use Rattle.rules.specs.Text.Scan.{plain_info}
use Rattle.rules.specs.Grammar.Trees.{Tokens, Heading, no_heading, heading, Declaration, plain, main, declaration_tokens}
use Rattle.rules.specs.Grammar.Trees.{Declarations, declared_all, declared_also, declarations_tokens}
use Rattle.rules.specs.Grammar.Verdict.{opens, closes, counted_by, count}
use Rattle.records.specs.Holds.{kind_byte, token_at, Holds}
use Rattle.table.specs.Laws.Positions.{far, token_far, behind_far, kind_far, record_within}
use Rattle.table.specs.Declarations.{name_tokens}
use Rattle.declare.specs.Skipping.{ends}
use Rattle.declare.specs.Laws.Skipping.{behind_it, others_behind}
use Rattle.declare.specs.Finding.{Begins, Named, Follow, Beginning, Naming}

-- the first token of a list, and that it stands in a table
pub record First (records : List ℕ) (ts : Tokens) (i : ℕ) (k : Kind) : Type 0 where
  pub within : i < length ts
  pub room : 8 * i + 8 ≤ length records
  pub kind : kind_byte records i ≡ kind_no k

module _ {text records values : List ℕ} {ts : Tokens} (h : Holds text records values ts) where
  pub first : {i : ℕ} {t : Token} {rest : Tokens} → drop i ts ≡ t ∷ rest → First records ts i t.kind
  first {i} {t} {rest} e =
      let w : i < length ts = omega (arith, far ts i (t ∷ rest) e 0 (omega arith)) in
      record { within = w; room = record_within h i w; kind = kind_far h i (t ∷ rest) e i 0 (omega arith) (omega arith) }

abbrev start_kind : Heading → Declaration → Kind
start_kind (heading l n r) d = Stars
start_kind no_heading (plain n f) = Name
start_kind no_heading (main k n o e b a m) = MAIN

module _ {text records values : List ℕ} {ts : Tokens} (holds : Holds text records values ts) where
  module _ {i : ℕ} {d : Declaration} {ds : Declarations} where
    starts : (h : Heading) → Begins ts i h d ds → First records ts i (start_kind h d)
    starts (heading l n r) b = first holds b.reads
    starts no_heading b = by d b.reads
      where
        by : (x : Declaration) → drop i ts ≡ declaration_tokens x (declarations_tokens ds []) → First records ts i (start_kind no_heading x)
        by (plain n f) e = first holds e
        by (main k n o e b a m) e₁ = first holds e₁

    no_stars : kind_byte records i ≡ kind_no Stars → (h : Heading) → Begins ts i h d ds → Begins ts (i + 3) no_heading d ds
    no_stars e no_heading b = absurd (by d (starts no_heading b))
      where
        by : (x : Declaration) → First records ts i (start_kind no_heading x) → ⊥
        by (plain n f) s = omega (arith, s.kind)
        by (main k n o q g a m) s = omega (arith, s.kind)
    no_stars e (heading l n r) b =
        let rest = declaration_tokens d (declarations_tokens ds []) in
        let before : token_at ts (i + 3 - 1) ≡ tk Stars r = ap (token_at ts) (omega arith) ∙ token_far ts i (tk Stars l ∷ tk Name n ∷ tk Stars r ∷ rest) b.reads 2 in
        record {
          past = omega (arith, b.past);
          led = λ z. omega (arith, ap kind_no (sym (ap (λ (t : Token). t.kind) before) ∙ z));
          reads = behind_far ts i (tk Stars l ∷ tk Name n ∷ tk Stars r ∷ rest) b.reads 3;
        }

    as_it_is : (kind_byte records i ≡ kind_no Stars → ⊥) → (h : Heading) → Begins ts i h d ds → Begins ts i no_heading d ds
    as_it_is f no_heading b = b
    as_it_is f (heading l n r) b = absurd (f (starts (heading l n r) b).kind)

  module _ {i : ℕ} {ds : Declarations} where
    no_main : kind_byte records i ≡ kind_no MAIN → (d : Declaration) → Begins ts i no_heading d ds → Named ts (i + 1) d ds
    no_main e (plain n f) b = absurd (omega (arith, (starts no_heading b).kind))
    no_main e (main k n o q g a m) b =
        let rest = name_tokens (main k n o q g a m) (declarations_tokens ds []) in
        record {
          past = omega (arith, b.past);
          led = ap (token_at ts) (omega arith) ∙ token_far ts i (tk MAIN k ∷ rest) b.reads 0;
          reads = behind_far ts i (tk MAIN k ∷ rest) b.reads 1;
        }

    at_once : (kind_byte records i ≡ kind_no MAIN → ⊥) → (d : Declaration) → Begins ts i no_heading d ds → Named ts i d ds
    at_once f (plain n o) b = record { past = b.past; led = b.led; reads = b.reads }
    at_once f (main k n o e g a m) b = absurd (f (starts no_heading b).kind)

module _ {records : List ℕ} {i : ℕ} where
  -- where a declaration begins there is a token
  pub begins_within : (v : Beginning records i) → First records v.tokens i (start_kind v.heading v.declaration)
  begins_within v = starts v.holds v.heading v.begins

  pub heading_passed : {x : ℕ} → x ≡ kind_byte records i → x ≡ kind_no Stars → (v : Beginning records i)
      → Begins v.tokens (i + 3) no_heading v.declaration v.following
  heading_passed k e v = no_stars v.holds (sym k ∙ e) v.heading v.begins

  pub no_heading_there : {x : ℕ} → x ≡ kind_byte records i → (x ≡ kind_no Stars → ⊥) → (v : Beginning records i)
      → Begins v.tokens i no_heading v.declaration v.following
  no_heading_there k f v = as_it_is v.holds (λ e. f (k ∙ e)) v.heading v.begins

module _ {records : List ℕ} {i j : ℕ} (behind : (v : Beginning records i) → Begins v.tokens j no_heading v.declaration v.following) where
  pub behind_within : (v : Beginning records i) → First records v.tokens j (start_kind no_heading v.declaration)
  behind_within v = starts v.holds no_heading (behind v)

  pub main_passed : {x : ℕ} → x ≡ kind_byte records j → x ≡ kind_no MAIN → (v : Beginning records i) → Named v.tokens (j + 1) v.declaration v.following
  main_passed k e v = no_main v.holds (sym k ∙ e) v.declaration (behind v)

  pub name_there : {x : ℕ} → x ≡ kind_byte records j → (x ≡ kind_no MAIN → ⊥) → (v : Beginning records i) → Named v.tokens j v.declaration v.following
  name_there k f v = at_once v.holds (λ e. f (k ∙ e)) v.declaration (behind v)

-- d brackets of the declaration named p are open before the token i
pub record Inside (records : List ℕ) (p i d : ℕ) : Type 0 where
  pub shallow : d ≤ i
  pub left : (v : Naming records p) → behind_it d (drop i v.tokens) ≡ declarations_tokens v.following []

pub name_first : {records : List ℕ} {p : ℕ} → Inside records p p 0
name_first = record { shallow = omega arith; left = λ v. ap (behind_it 0) v.named.reads ∙ others_behind v.declaration v.following [] }

something_left : (ds : Declarations) → [] ≡ declarations_tokens ds [] → ⊥
something_left (declared_all e) z = omega (arith, ap length z)
something_left (declared_also c h d ds) z = omega (arith, ap length z)

not_over : (d i : ℕ) (ts : Tokens) (ds : Declarations) → behind_it d (drop i ts) ≡ declarations_tokens ds [] → i < length ts
unfolding behind_it
not_over d i ts ds e = by (dec_lt i (length ts))
  where
    by : Dec (i < length ts) → i < length ts
    by (yes l) = l
    by (no f) = absurd (something_left ds (rw (drop_of_length-le ts {i = i} (omega arith)) at e))

it_ends : (d : ℕ) (t : Token) (ts : Tokens) → true ≡ ends d t.kind → behind_it d (t ∷ ts) ≡ t ∷ ts
unfolding behind_it
it_ends d t ts e = rw (behind_it, sym e)

it_goes_on : (d : ℕ) (t : Token) (ts : Tokens) → false ≡ ends d t.kind → behind_it d (t ∷ ts) ≡ behind_it (count d t.kind) ts
unfolding behind_it
it_goes_on d t ts e = rw (behind_it, sym e)

counted_up : (o c : Bool) (d : ℕ) → counted_by o c d ≤ d + 1
unfolding counted_by
counted_up true c d = omega arith
counted_up false true zero = omega arith
counted_up false true (suc d) = omega arith
counted_up false false d = omega arith

module _ {records : List ℕ} {p i d : ℕ} (inside : Inside records p i d) where
  module _ (v : Naming records p) where
    behind : drop i v.tokens ≡ token_at v.tokens i ∷ drop (i + 1) v.tokens
    behind = rw add-one (drop-cons v.tokens i (tk Name (plain_info 0)) (not_over d i v.tokens v.following (inside.left v)))

    pub next_within : First records v.tokens i (token_at v.tokens i).kind
    next_within = first v.holds behind

    left_of : behind_it d (token_at v.tokens i ∷ drop (i + 1) v.tokens) ≡ declarations_tokens v.following []
    left_of = ap (behind_it d) (sym behind) ∙ inside.left v

  pub stopped : {x : ℕ} {b : Bool} → x ≡ kind_byte records i → ((k : Kind) → x ≡ kind_no k → b ≡ ends d k) → b ≡ true
      → (v : Naming records p) → Follow v.tokens i v.following
  stopped k e y v = record { reads = behind v ∙ sym (it_ends d (token_at v.tokens i) _ (sym y ∙ e _ (k ∙ (next_within v).kind))) ∙ left_of v }

  pub passed : {x r : ℕ} {b : Bool} → x ≡ kind_byte records i → ((k : Kind) → x ≡ kind_no k → b ≡ ends d k) → b ≡ false
      → ((k : Kind) → x ≡ kind_no k → r ≡ count d k) → Naming records p → Inside records p (i + 1) r
  unfolding count
  passed {x} k f y c v₀ = record {
    shallow =
        let t = (token_at v₀.tokens i).kind in
        omega (arith, c t (k ∙ (next_within v₀).kind), counted_up (opens t) (closes t) d, inside.shallow);
    left = λ v.
        let t = (token_at v.tokens i).kind in
        let h : x ≡ kind_no t = k ∙ (next_within v).kind in
        ap (λ (n : ℕ). behind_it n (drop (i + 1) v.tokens)) (c t h)
        ∙ sym (it_goes_on d (token_at v.tokens i) _ (sym y ∙ f t h))
        ∙ left_of v;
  }
