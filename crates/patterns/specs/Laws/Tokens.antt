-- What the table has for constants and items.
-- Assumes nothing.
use Rattle.std.specs.Prelude.{ℕ, ◌+◌, ◌*◌, ◌^◌, ◌<◌, ◌≤◌, ◌≡◌, Bool, true, false, List, ◌∷◌, ltb, length}
use Rattle.std.proofs.Math.Path.{refl}
use Rattle.std.proofs.Common.{sym, ap, ◌∙◌, arith}
use Rattle.rules.specs.Text.Tokens.{Kind, Const, Masked, Colon, Info, Token, tk, kind_no}
use Rattle.rules.specs.Grammar.Trees.{Tokens, Literal, exact, masked, literal_tokens, Range, single, to}
use Rattle.rules.specs.Selectors.{between, literal_info, lowest, item_of, highest}
use Rattle.records.specs.Holds.{kind_byte, value_cell_of, token_at, Entry}
use Rattle.table.specs.Laws.Positions.{Here, here, behind_far, value_within, record_within, kind_here}
use Rattle.patterns.specs.declared.items.Item.{Item}
use Rattle.patterns.specs.declared.items.Item.TheVariants.{Pattern}
use Rattle.patterns.specs.Items.{meant, range_of}
use Rattle.patterns.specs.Stands.{Held, LiteralAt, LiteralView, LiteralRead, EndsItem, by_comma, by_close, by_becomes, item_size, ItemAt, ItemView, ItemRead}

-- A CONSTANT
abbrev pub literal_token : Literal → Token
literal_token (exact i) = tk Const i
literal_token (masked i) = tk Masked i

pub literal_first : (l : Literal) (ts : Tokens) → literal_tokens l ts ≡ literal_token l ∷ ts
literal_first (exact i) ts = refl
literal_first (masked i) ts = refl

module _ {records values : List ℕ} {ts : Tokens} (h : Held records values ts) {q : ℕ} {l : Literal} (s : LiteralAt ts q l) where
  abbrev pub first_here : Here ts q (literal_token l) (s.next ∷ s.rest)
  first_here = here ts q (literal_token l) (s.next ∷ s.rest) (s.reads ∙ literal_first l (s.next ∷ s.rest))

  abbrev next_here : Here ts (q + 1) s.next s.rest
  next_here = here ts (q + 1) s.next s.rest first_here.behind

  abbrev entry : Entry h.text records values ts q
  entry = h.holds.entry q first_here.within

  first_kind : (token_at ts q).kind ≡ (literal_token l).kind
  first_kind = ap (λ (t : Token). t.kind) first_here.token

  first_info : (token_at ts q).info ≡ (literal_token l).info
  first_info = ap (λ (t : Token). t.info) first_here.token

module _ {records values : List ℕ} {q : ℕ} (v : LiteralView records values q) where
  pub literal_value_room : 8 * q + 8 ≤ length values
  literal_value_room = value_within v.held.holds q (first_here v.held v.stands).within

  pub literal_free_room : 8 * (q + 1) + 8 ≤ length values
  literal_free_room = value_within v.held.holds (q + 1) (next_here v.held v.stands).within

  pub literal_kind_room : 8 * q + 8 ≤ length records
  literal_kind_room = record_within v.held.holds q (first_here v.held v.stands).within

module _ {records values : List ℕ} {ts : Tokens} (h : Held records values ts) {q k value : ℕ} (is_kind : k ≡ kind_byte records q) (is_value : value ≡ value_cell_of values q) where
  -- with a `?`: the free bits are in the next cell
  pub read_masked : (l : Literal) (s : LiteralAt ts q l) → k ≡ kind_no Masked → (free : ℕ) → free ≡ value_cell_of values (q + 1) → LiteralRead l value free
  read_masked (exact i) s e free is_free = absurd (omega (arith, kind_here h.holds q (tk Const i) (first_here h s).within (first_here h s).token))
  read_masked (masked i) s e free is_free =
      let x = entry h s in
      let m = first_kind h s in
      let read : value_cell_of values q ≡ i.value = (x.masked m).value ∙ ap (λ (j : Info). j.value) (first_info h s) in
      let left : value_cell_of values (q + 1) ≡ i.free =
      x.free m (next_here h s).within (rw (next_here h s).token s.no_const) (rw (next_here h s).token s.no_masked)
      ∙ ap (λ (j : Info). j.free) (first_info h s) in
      record {
        is_value = is_value ∙ read;
        is_free = is_free ∙ left;
        fits = omega (arith, x.free_fits m, ap (λ (j : Info). j.value + j.free) (first_info h s));
      }

  pub read_exact : (l : Literal) (s : LiteralAt ts q l) → (k ≡ kind_no Masked → ⊥) → LiteralRead l value 0
  read_exact (masked i) s n = absurd (n (is_kind ∙ kind_here h.holds q (tk Masked i) (first_here h s).within (first_here h s).token))
  read_exact (exact i) s n =
      let c = first_kind h s in
      let x = (entry h s).constant c in
      record {
        is_value = is_value ∙ x.value ∙ ap (λ (j : Info). j.value) (first_info h s);
        is_free = sym (ap (λ (j : Info). j.free) (sym (first_info h s)) ∙ h.fixed q (first_here h s).within c);
        fits = omega (arith, x.fits, x.value);
      }

-- AN ITEM
pub ends_const : {k : Kind} → EndsItem k → k ≡ Const → ⊥
ends_const by_comma e = omega (arith, ap kind_no e)
ends_const by_close e = omega (arith, ap kind_no e)
ends_const by_becomes e = omega (arith, ap kind_no e)

pub ends_masked : {k : Kind} → EndsItem k → k ≡ Masked → ⊥
ends_masked by_comma e = omega (arith, ap kind_no e)
ends_masked by_close e = omega (arith, ap kind_no e)
ends_masked by_becomes e = omega (arith, ap kind_no e)

ends_colon : {k : Kind} → EndsItem k → kind_no k ≡ kind_no Colon → ⊥
ends_colon by_comma e = omega arith
ends_colon by_close e = omega arith
ends_colon by_becomes e = omega arith

module _ {ts : Tokens} {q : ℕ} {l : Literal} where
  abbrev pub item_first : (r : Range) → ItemAt ts q l r → LiteralAt ts q l
  item_first single s =
      record { next = s.next; rest = s.rest; reads = s.reads; no_const = ends_const s.ends; no_masked = ends_masked s.ends }
  item_first (to c m) s = record {
    next = tk Colon c;
    rest = literal_tokens m (s.next ∷ s.rest);
    reads = s.reads;
    no_const = λ e. omega (arith, ap kind_no e);
    no_masked = λ e. omega (arith, ap kind_no e);
  }

  item_second : (c : Info) (m : Literal) → ItemAt ts q l (to c m) → LiteralAt ts (q + 2) m
  item_second c m s = record {
    next = s.next;
    rest = s.rest;
    reads = behind_far ts q _ (s.reads ∙ literal_first l (tk Colon c ∷ literal_tokens m (s.next ∷ s.rest))) 2;
    no_const = ends_const s.ends;
    no_masked = ends_masked s.ends;
  }

-- the item ends before the token behind it
pub item_behind : {ts : Tokens} {q : ℕ} {l : Literal} (r : Range) (s : ItemAt ts q l r) → Here ts (q + item_size r) s.next s.rest
item_behind {ts} {q} {l} single s = here ts (q + 1) s.next s.rest (behind_far ts q _ (s.reads ∙ literal_first l (s.next ∷ s.rest)) 1)
item_behind {ts} {q} {l} (to c m) s =
    here ts (q + 3) s.next s.rest
    (behind_far ts q (literal_token l ∷ tk Colon c ∷ literal_token m ∷ s.next ∷ s.rest)
    (s.reads ∙ literal_first l (tk Colon c ∷ literal_tokens m (s.next ∷ s.rest)) ∙ ap (λ (t : Tokens). literal_token l ∷ tk Colon c ∷ t) (literal_first m (s.next ∷ s.rest))) 3)

module _ {records values : List ℕ} {q : ℕ} (v : ItemView records values q) where
  abbrev pub first_view : LiteralView records values q
  first_view = record { tokens = v.tokens; held = v.held; literal = v.literal; stands = item_first v.range v.stands }

  abbrev second_within : q + 1 < length v.tokens
  second_within = (next_here v.held first_view.stands).within

  pub second_kind_room : 8 * (q + 1) + 8 ≤ length records
  second_kind_room = record_within v.held.holds (q + 1) second_within

-- a range, or none, by the kind of the second token
pub data SeenRange (records : List ℕ) (ts : Tokens) (q : ℕ) : Range → Type 0 where
  no_range_seen : (kind_byte records (q + 1) ≡ kind_no Colon → ⊥) → SeenRange records ts q single
  range_seen : {c : Info} {m : Literal} → kind_byte records (q + 1) ≡ kind_no Colon → LiteralAt ts (q + 2) m → SeenRange records ts q (to c m)

module _ {records values : List ℕ} {ts : Tokens} (h : Held records values ts) {q : ℕ} {l : Literal} where
  second_kind : {r : Range} (s : ItemAt ts q l r) → kind_byte records (q + 1) ≡ kind_no (item_first r s).next.kind
  second_kind {r} s = let n = next_here h (item_first r s) in kind_here h.holds (q + 1) _ n.within n.token

  see_range : (r : Range) → ItemAt ts q l r → SeenRange records ts q r
  see_range single s = no_range_seen (λ e. ends_colon s.ends (sym (second_kind s) ∙ e))
  see_range (to c m) s = range_seen (second_kind s) (item_second c m s)

pub seen_range : {records values : List ℕ} {q : ℕ} (v : ItemView records values q) → SeenRange records v.tokens q v.range
seen_range v = see_range v.held v.range v.stands

-- what is read at an item
range_fits : (a b c d : ℕ) → a + b < 2 ^ 64 → c + d < 2 ^ 64 → highest (range_of a b c d) < 2 ^ 64
unfolding highest
range_fits a b c d p q = by (ltb c a)
  where
    by : (r : Bool) → highest (elim r [ true ↦ between c (a + b) | false ↦ between a (c + d) ]) < 2 ^ 64
    by true = p
    by false = q

module _ {records values : List ℕ} {q k : ℕ} (v : ItemView records values q) (is_kind : k ≡ kind_byte records (q + 1)) where
  pub range_view : k ≡ kind_no Colon → LiteralView records values (q + 2)
  range_view e = go v.range (seen_range v)
    where
      go : (r : Range) → SeenRange records v.tokens q r → LiteralView records values (q + 2)
      go _ (no_range_seen n) = absurd (n (sym is_kind ∙ e))
      go _ (range_seen {m = m} _ s) = record { tokens = v.tokens; held = v.held; literal = m; stands = s }

  pub read_single : {value free : ℕ} → (k ≡ kind_no Colon → ⊥) → LiteralRead v.literal value free → ItemRead v.literal v.range q (Pattern value free) (q + 1)
  unfolding item_of highest
  read_single {value} {free} n read = go v.range (seen_range v)
    where
      go : (r : Range) → SeenRange records v.tokens q r → ItemRead v.literal r q (Pattern value free) (q + 1)
      go _ (range_seen e _) = absurd (n (is_kind ∙ e))
      go _ (no_range_seen _) = record { is_item = rw (read.is_value, read.is_free) refl; is_next = refl; fits = omega (arith, read.fits, read.is_value, read.is_free) }

  pub read_range : {a b c d : ℕ} {i : Item} → k ≡ kind_no Colon → LiteralRead v.literal a b → ((u : LiteralView records values (q + 2)) → LiteralRead u.literal c d)
      → meant i ≡ range_of a b c d → ItemRead v.literal v.range q i (q + 3)
  unfolding item_of highest
  read_range {a} {b} {c} {d} {i} e one other is = go v.range (seen_range v)
    where
      go : (r : Range) → SeenRange records v.tokens q r → ItemRead v.literal r q i (q + 3)
      go _ (no_range_seen n) = absurd (n (sym is_kind ∙ e))
      go _ (range_seen {m = m} _ s) =
          let more = other (record { tokens = v.tokens; held = v.held; literal = m; stands = s }) in
          let same : range_of a b c d ≡ range_of (lowest v.literal) (literal_info v.literal).free (lowest m) (literal_info m).free =
          rw (one.is_value, one.is_free, more.is_value, more.is_free) refl in
          record { is_item = is ∙ same; is_next = refl; fits = rw (← same) (range_fits a b c d one.fits more.fits) }
