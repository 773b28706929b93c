-- Where the declarations of a description stand among its tokens: one behind the other, each with its name before its body.
-- Assumes nothing.
use Prim.Native.Nat.{ℕ, zero, suc, ◌+◌, ◌<◌, ◌≤◌}
use Rattle.std.specs.Prelude.{◌≡◌, refl, true, List, [], ◌∷◌, ◌++◌, length}
use Rattle.std.proofs.Common.{sym, ap, ◌∙◌, subst, arith}
use Rattle.std.proofs.Math.Option.{Option, none, some}
use Rattle.std.proofs.Math.Decide.{dec_lt}
use Rattle.std.proofs.Math.ListN.{drop, get_elem?}
use Rattle.std.proofs.Math.Seq.{drop-append_seam}
use Rattle.rules.specs.Text.Tokens.{Name, Comma, Becomes, BEGIN, END, Token, tk}
use Rattle.rules.specs.Grammar.Trees.{Tokens, Action, block, action_tokens, members_tokens, own_bits_tokens, main_bits_tokens, body, mapped, carrier, given, words, with_bits, bare_body, Declaration, plain, main, declaration_tokens, Heading, heading_tokens, Declarations, declared_all, declared_also, declarations_tokens, Description, description, flatten}
use Rattle.rules.specs.Declarations.{declared_of}
use Rattle.rules.specs.Whole.Sets.{member}
use Rattle.laws_grammar.specs.Grammar.Positions.{Writes, own_bits_writes, main_bits_writes, heading_writes, declaration_writes}
use Rattle.laws_grammar.specs.Cited.Nesting.{action_nest, declaration_nest, declarations_nest, nest}
use Rattle.laws_orders.proofs.Orders.Tests.{impossible}
use Rattle.laws_code.specs.Cited.Code.{size, action_size}
use Rattle.laws_code.proofs.Links.Numbers.{size_before}
use Rattle.laws_code.specs.Cited.Placed.{body_start, rest_starts, body_starts}
use Rattle.records.specs.Holds.{token_at, Holds}
use Rattle.table.specs.Laws.Positions.{here, behind_far}
use Rattle.table.specs.Declarations.{following_list, declaration_list}
use Rattle.table.specs.Scans.{no as kind_of, separates}
use Rattle.links.specs.Layout.{ends, rest_ends}

-- a body begins at `start`, behind its name, and ends at `to` at the latest; a separator follows
pub record BodyStands (ts : Tokens) (name start to : ℕ) (a : Action) : Type 0 where
  pub past : name < start
  pub inside : start + action_size a ≤ to
  pub next : Token
  pub rest : Tokens
  pub reads : drop start ts ≡ action_tokens a (next ∷ rest)
  pub ends : separates (kind_of next) ≡ true

abbrev pub BodyLaid : Tokens → ℕ → ℕ → ℕ → Option Action → Type 0
BodyLaid ts name start to none = Unit {0}
BodyLaid ts name start to (some a) = BodyStands ts name start to a

-- a declaration stands between `from` and `to`
pub record Laid (ts : Tokens) (x : Declaration) (from start to : ℕ) : Type 0 where
  pub name : ℕ
  pub after : from ≤ name
  pub before : name < to
  pub within : name < length ts
  pub token : token_at ts name ≡ tk Name (declared_of x).name
  pub body : BodyLaid ts name start to (declared_of x).body

pub drop_past : {f : Tokens → Tokens} → Writes f → (ts : Tokens) (i : ℕ) (rest : Tokens) → drop i ts ≡ f rest → drop (i + size f) ts ≡ rest
drop_past {f} w ts i rest e = behind_far ts i (f [] ++ rest) (e ∙ w.grows [] rest) (size f) ∙ drop-append_seam (f []) rest

same_drop : (ts : Tokens) (i j : ℕ) {xs : Tokens} → i ≡ j → drop i ts ≡ xs → drop j ts ≡ xs
same_drop ts i j q e = ap (λ k. drop k ts) (sym q) ∙ e

-- what follows a declaration separates
record Followed (ds : Declarations) : Type 0 where
  next : Token
  rest : Tokens
  is : declarations_tokens ds [] ≡ next ∷ rest
  separating : separates (kind_of next) ≡ true

followed : (ds : Declarations) → Followed ds
unfolding separates member
followed (declared_all e) = record { next = tk END e; rest = []; is = refl; separating = refl }
followed (declared_also c h d ds) = record { next = tk Comma c; rest = heading_tokens h (declaration_tokens d (declarations_tokens ds [])); is = refl; separating = refl }

module _ (ts : Tokens) (ds : Declarations) where
  body_stands : (name start to : ℕ) (a : Action) → name < start → start + action_size a ≤ to → drop start ts ≡ action_tokens a (declarations_tokens ds [])
      → BodyStands ts name start to a
  body_stands name start to a p q e =
      let f = followed ds in
      record { past = p; inside = q; next = f.next; rest = f.rest; reads = e ∙ ap (action_tokens a) f.is; ends = f.separating }

  declaration_laid : (d : Declaration) (i : ℕ) → drop i ts ≡ declaration_tokens d (declarations_tokens ds [])
      → Laid ts d i (body_start i d) (i + size (declaration_tokens d))
  unfolding body_start
  declaration_laid (plain n (words l f c t r b o)) i e =
      let h = here ts i _ _ e in
      record { name = i; after = omega arith; before = omega arith; within = h.within; token = h.token; body = tt }
  declaration_laid (plain n (with_bits l o carrier)) i e =
      let h = here ts i _ _ e in
      record { name = i; after = omega arith; before = omega arith; within = h.within; token = h.token; body = tt }
  declaration_laid (plain n (with_bits l o (given x (body b a m)))) i e =
      let h = here ts i _ _ e in
      let two : drop (suc (suc i)) ts ≡ own_bits_tokens o (tk Becomes x ∷ action_tokens (block b a m) (declarations_tokens ds []))
      = same_drop ts (i + 2) (suc (suc i)) (omega arith) (behind_far ts i _ e 2) in
      let past = drop_past (own_bits_writes o) ts (suc (suc i)) _ two in
      let j = suc (suc i) + size (own_bits_tokens o) in
      let start = same_drop ts (j + 1) (suc j) (omega arith) (here ts j _ _ past).behind in
      record {
        name = i;
        after = omega arith;
        before = omega arith;
        within = h.within;
        token = h.token;
        body =
            body_stands i (suc (suc (suc i) + size (own_bits_tokens o))) _ (block b a m) (omega arith)
            (omega (arith, size_before (own_bits_writes o) (tk Becomes x ∷ tk BEGIN b ∷ action_tokens a (members_tokens m [])))) start;
      }
  declaration_laid (plain n (with_bits l o (given x (mapped t b c r)))) i e =
      let h = here ts i _ _ e in
      record { name = i; after = omega arith; before = omega arith; within = h.within; token = h.token; body = tt }
  declaration_laid (plain n (bare_body x b a m)) i e =
      let h = here ts i _ _ e in
      record {
        name = i;
        after = omega arith;
        before = omega arith;
        within = h.within;
        token = h.token;
        body = body_stands i (suc (suc i)) _ (block b a m) (omega arith) (omega arith) (same_drop ts (i + 2) (suc (suc i)) (omega arith) (behind_far ts i _ e 2));
      }
  declaration_laid (main k n o x b a m) i e =
      let h = here ts (i + 1) _ _ (here ts i _ _ e).behind in
      let two : drop (suc (suc i)) ts ≡ main_bits_tokens o (tk Becomes x ∷ action_tokens (block b a m) (declarations_tokens ds []))
      = same_drop ts (i + 2) (suc (suc i)) (omega arith) (behind_far ts i _ e 2) in
      let past = drop_past (main_bits_writes o) ts (suc (suc i)) _ two in
      let j = suc (suc i) + size (main_bits_tokens o) in
      let start = same_drop ts (j + 1) (suc j) (omega arith) (here ts j _ _ past).behind in
      record {
        name = i + 1;
        after = omega arith;
        before = omega arith;
        within = h.within;
        token = h.token;
        body =
            body_stands (i + 1) (suc (suc (suc i) + size (main_bits_tokens o))) _ (block b a m) (omega arith)
            (omega (arith, size_before (main_bits_writes o) (tk Becomes x ∷ tk BEGIN b ∷ action_tokens a (members_tokens m [])))) start;
      }

wider : {ts : Tokens} {x : Declaration} {from from' start to : ℕ} → Laid ts x from start to → from' ≤ from → Laid ts x from' start to
wider {from = from} {from'} l h =
    record { name = l.name; after = omega (arith, l.after); before = l.before; within = l.within; token = l.token; body = l.body }

-- a heading and a declaration from i on
module _ (ts : Tokens) (h : Heading) (d : Declaration) (ds : Declarations) (i : ℕ) (e : drop i ts ≡ heading_tokens h (declaration_tokens d (declarations_tokens ds []))) where
  behind_heading : drop (i + size (heading_tokens h)) ts ≡ declaration_tokens d (declarations_tokens ds [])
  behind_heading = drop_past (heading_writes h) ts i _ e

  behind_declaration : drop (i + size (heading_tokens h) + size (declaration_tokens d)) ts ≡ declarations_tokens ds []
  behind_declaration = drop_past (declaration_writes d) ts (i + size (heading_tokens h)) _ behind_heading

  pub headed_laid : Laid ts d i (body_start (i + size (heading_tokens h)) d) (i + size (heading_tokens h) + size (declaration_tokens d))
  headed_laid = wider (declaration_laid ts ds d (i + size (heading_tokens h)) behind_heading) (omega arith)

rest_laid : (ts : Tokens) (ds : Declarations) (i : ℕ) → drop i ts ≡ declarations_tokens ds [] → (k : ℕ) (x : Declaration) → get_elem? (following_list ds) k ≡ some x
    → Laid ts x (rest_ends k i ds) (rest_starts i ds k) (rest_ends (suc k) i ds)
unfolding rest_ends rest_starts following_list
rest_laid ts (declared_all e) i r k x h = impossible (cc)
rest_laid ts (declared_also c g d ds) i r zero x h =
    let q : d ≡ x = cc in
    let one : drop (suc i) ts ≡ heading_tokens g (declaration_tokens d (declarations_tokens ds [])) = same_drop ts (i + 1) (suc i) (omega arith) (here ts i _ _ r).behind in
    subst (λ (y : Declaration). Laid ts y i (body_start (suc i + size (heading_tokens g)) d) (suc i + size (heading_tokens g) + size (declaration_tokens d))) q
    (wider (headed_laid ts g d ds (suc i) one) (omega arith))
rest_laid ts (declared_also c g d ds) i r (suc k) x h =
    let one : drop (suc i) ts ≡ heading_tokens g (declaration_tokens d (declarations_tokens ds [])) = same_drop ts (i + 1) (suc i) (omega arith) (here ts i _ _ r).behind in
    rest_laid ts ds (suc i + size (heading_tokens g) + size (declaration_tokens d)) (behind_declaration ts g d ds (suc i) one) k x h

pub laid : (ts : Tokens) (d : Description) → flatten d ≡ ts → (k : ℕ) (x : Declaration) → get_elem? (declaration_list d) k ≡ some x
    → Laid ts x (ends k d) (body_starts d k) (ends (suc k) d)
unfolding ends body_starts rest_ends
laid ts (description n e b g y ds) f zero x h =
    let q : y ≡ x = cc in
    subst (λ (z : Declaration). Laid ts z 3 (body_start (3 + size (heading_tokens g)) y) (3 + size (heading_tokens g) + size (declaration_tokens y))) q
    (headed_laid ts g y ds 3 (ap (drop 3) (sym f)))
laid ts (description n e b g y ds) f (suc k) x h =
    rest_laid ts ds (3 + size (heading_tokens g) + size (declaration_tokens y)) (behind_declaration ts g y ds 3 (ap (drop 3) (sym f))) k x h

-- the outer name, `:=` and BEGIN stand before the first
pub ends_first : (d : Description) → ends 0 d ≡ 3
unfolding ends
ends_first d = refl

-- one behind the other
rest_from : (k i : ℕ) (ds : Declarations) → i ≤ rest_ends k i ds
unfolding rest_ends
rest_from zero i ds = omega arith
rest_from (suc k) i (declared_all e) = omega arith
rest_from (suc k) i (declared_also c h d ds) = omega (arith, rest_from k (suc i + size (heading_tokens h) + size (declaration_tokens d)) ds)

rest_rise : (j k i : ℕ) (ds : Declarations) → j ≤ k → rest_ends j i ds ≤ rest_ends k i ds
unfolding rest_ends
rest_rise zero k i ds l = rest_from k i ds
rest_rise (suc j) zero i ds l = absurd (omega arith)
rest_rise (suc j) (suc k) i (declared_all e) l = omega arith
rest_rise (suc j) (suc k) i (declared_also c h d ds) l = rest_rise j k (suc i + size (heading_tokens h) + size (declaration_tokens d)) ds (omega arith)

pub ends_rise : (j k : ℕ) (d : Description) → j ≤ k → ends j d ≤ ends k d
unfolding ends
ends_rise zero zero d l = omega arith
ends_rise zero (suc k) (description n e b h d ds) l = omega (arith, rest_from k (3 + size (heading_tokens h) + size (declaration_tokens d)) ds)
ends_rise (suc j) zero d l = absurd (omega arith)
ends_rise (suc j) (suc k) (description n e b h d ds) l = rest_rise j k (3 + size (heading_tokens h) + size (declaration_tokens d)) ds (omega arith)

rest_within : (k i : ℕ) (ds : Declarations) → rest_ends k i ds ≤ i + length (declarations_tokens ds [])
unfolding rest_ends
rest_within zero i ds = omega arith
rest_within (suc k) i (declared_all e) = omega arith
rest_within (suc k) i (declared_also c h d ds) =
    omega (
      arith,
      rest_within k (suc i + size (heading_tokens h) + size (declaration_tokens d)) ds,
      size_before (heading_writes h) (declaration_tokens d (declarations_tokens ds [])),
      size_before (declaration_writes d) (declarations_tokens ds []),
    )

pub ends_within : (k : ℕ) (d : Description) → ends k d ≤ length (flatten d)
unfolding ends
ends_within zero (description n e b h d ds) = omega arith
ends_within (suc k) (description n e b h d ds) =
    omega (
      arith,
      rest_within k (3 + size (heading_tokens h) + size (declaration_tokens d)) ds,
      size_before (heading_writes h) (declaration_tokens d (declarations_tokens ds [])),
      size_before (declaration_writes d) (declarations_tokens ds []),
    )

-- how deep its body nests
abbrev Shallow : ℕ → Option Action → Type 0
Shallow n none = Unit {0}
Shallow n (some a) = action_nest a ≤ n

declaration_shallow : (d : Declaration) → Shallow (declaration_nest d) (declared_of d).body
declaration_shallow (plain n (words l f c t r b o)) = tt
declaration_shallow (plain n (with_bits l o carrier)) = tt
declaration_shallow (plain n (with_bits l o (given x (body b a m)))) = omega arith
declaration_shallow (plain n (with_bits l o (given x (mapped t b c r)))) = tt
declaration_shallow (plain n (bare_body x b a m)) = omega arith
declaration_shallow (main k n o x b a m) = omega arith

rest_nest : (ds : Declarations) (k : ℕ) (x : Declaration) → get_elem? (following_list ds) k ≡ some x → declaration_nest x ≤ declarations_nest ds
unfolding following_list
rest_nest (declared_all e) k x h = impossible (cc)
rest_nest (declared_also c g d ds) zero x h = let q : d ≡ x = cc in omega (arith, ap declaration_nest q)
rest_nest (declared_also c g d ds) (suc k) x h = omega (arith, rest_nest ds k x h)

declared_nest : (d : Description) (k : ℕ) (x : Declaration) → get_elem? (declaration_list d) k ≡ some x → declaration_nest x ≤ nest d
declared_nest (description n e b g y ds) zero x h = let q : y ≡ x = cc in omega (arith, ap declaration_nest q)
declared_nest (description n e b g y ds) (suc k) x h = omega (arith, rest_nest ds k x h)

pub body_shallow : (d : Description) (k : ℕ) (x : Declaration) (a : Action) → get_elem? (declaration_list d) k ≡ some x → (declared_of x).body ≡ some a
    → action_nest a ≤ nest d
body_shallow d k x a h e =
    let s = subst (Shallow (declaration_nest x)) e (declaration_shallow x) in
    omega (arith, declared_nest d k x h)

pub number_below : (list : List Declaration) (j : ℕ) (x : Declaration) → get_elem? list j ≡ some x → j < length list
number_below [] j x h = impossible (cc)
number_below (y ∷ list) zero x h = omega arith
number_below (y ∷ list) (suc j) x h = omega (arith, number_below list j x h)

-- a token stands at one place only
pub same_place : {text records values : List ℕ} {ts : Tokens} → Holds text records values ts → (i j : ℕ) → i < length ts → j < length ts
    → token_at ts i ≡ token_at ts j → i ≡ j
same_place {ts = ts} h i j k l e = by (dec_lt i j) (dec_lt j i)
  where
    places : (token_at ts i).info.place ≡ (token_at ts j).info.place
    places = ap (λ (t : Token). t.info.place) e

    by : Dec (i < j) → Dec (j < i) → i ≡ j
    by (yes p) q = absurd (omega (arith, h.increasing i j p l, places))
    by (no p) (yes q) = absurd (omega (arith, h.increasing j i q k, places))
    by (no p) (no q) = omega arith
