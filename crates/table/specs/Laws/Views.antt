-- What a table shows of a declaration by the kinds of tokens at fixed distances from its name.
-- Assumes nothing.
use Rattle.rules.specs.Text.Tokens.{Info, Name, Const, Less, Comma, Becomes, END, MAIN, Kind, kind_no, Token, tk, LBra, BEGIN}
use Rattle.rules.specs.Grammar.Trees.{words, with_bits, bare_body, MainBits, bitless, main_bits, Declaration, plain, main, Tokens, bit, upto, Action, block, action_tokens, Members, BitsEnd, bits_end_tokens, unnamed, named, body, mapped, meaning_tokens, Given, carrier, given, given_tokens, main_bits_tokens, Declarations, declared_all, declared_also, declarations_tokens, heading_tokens, declaration_tokens}
use Rattle.std.specs.Prelude.{ℕ, ◌+◌, ◌-◌, ◌<◌, ◌≡◌, refl, List, [], ◌∷◌, length, drop, Option as Found, Some, None, is_some, Bool, true, false}
use Rattle.std.proofs.Common.{sym, ap, ◌∙◌, arith}
use Rattle.std.proofs.Math.Option.{Option, none, some}
use Rattle.std.proofs.Math.Bool.{false≢true}
use Rattle.rules.specs.Declarations.{Target, names_of, declared_of, main_names}
use Rattle.laws_grammar.specs.Cited.Kinds.{kind_at}
use Rattle.laws_grammar.specs.Grammar.Kinds.{kind_at_kind_no}
use Rattle.laws_grammar.specs.Grammar.Positions.{action_writes}
use Rattle.records.specs.Holds.{kind_byte, value_cell_of, token_at, Holds}
use Rattle.table.specs.Laws.Positions.{Here, here, behind_far, stands_here, kind_far, value_far}
use Rattle.table.specs.Bits.{BitsView, bits_size}
use Rattle.table.specs.Laws.Bits.{bits_within}
use Rattle.table.specs.Shown.{shown_words, shown_bits, shown_target}
use Rattle.table.specs.Declarations.{name_tokens, LedBy, DeclaredAt}
use Rattle.table.specs.declared.views.Names.{Names}
use Rattle.table.specs.declared.views.Names.TheVariants.{Missing, Span}
use Rattle.table.specs.Views.{View, behind, words_tokens, given_part, words_size_of, GivenAt, BodyAt, TargetStands, TargetAt, MainAt}

abbrev pub name_of : Declaration → Info
name_of (plain n f) = n
name_of (main k n o e b a m) = n

abbrev pub bits_part : Declaration → MainBits
bits_part (plain n (words l f c t r b o)) = main_bits b o
bits_part (plain n (with_bits l o g)) = main_bits l o
bits_part (plain n (bare_body e b a m)) = bitless
bits_part (main k n o e b a m) = o

-- the tokens of a declaration from its name on, part by part
pub parts : (d : Declaration) (ts : Tokens) → name_tokens d ts ≡ tk Name (name_of d) ∷ words_tokens d (main_bits_tokens (bits_part d) (given_tokens (given_part d) ts))
parts (plain n (words l f c t r b o)) ts = refl
parts (plain n (with_bits l o g)) ts = refl
parts (plain n (bare_body e b a m)) ts = refl
parts (main k n o e b a m) ts = refl

pub name_part : (d : Declaration) → (declared_of d).name ≡ name_of d
name_part (plain n (words l f c t r b o)) = refl
name_part (plain n (with_bits l o carrier)) = refl
name_part (plain n (with_bits l o (given e (body b a m)))) = refl
name_part (plain n (with_bits l o (given e (mapped t b c r)))) = refl
name_part (plain n (bare_body e b a m)) = refl
name_part (main k n o e b a m) = refl

pub bits_part_lem : (d : Declaration) → (declared_of d).bits ≡ main_names (bits_part d)
bits_part_lem (plain n (words l f c t r b o)) = refl
bits_part_lem (plain n (with_bits l o carrier)) = refl
bits_part_lem (plain n (with_bits l o (given e (body b a m)))) = refl
bits_part_lem (plain n (with_bits l o (given e (mapped t b c r)))) = refl
bits_part_lem (plain n (bare_body e b a m)) = refl
bits_part_lem (main k n o e b a m) = refl

pub name_token : {ts : Tokens} {i : ℕ} {d : Declaration} → DeclaredAt ts i d → (i < length ts) × (token_at ts i ≡ tk Name (declared_of d).name)
name_token {ts} {i} {d} s =
    let h = here ts i _ _ (s.reads ∙ parts d (declarations_tokens s.following [])) in
    (h.within, h.token ∙ ap (tk Name) (sym (name_part d)))

-- what is behind the words, and behind the bits
words_off : (d : Declaration) (ts : Tokens) → drop (words_size_of d) (words_tokens d ts) ≡ ts
words_off (plain n (words l f c t r b o)) ts = refl
words_off (plain n (with_bits l o g)) ts = refl
words_off (plain n (bare_body e b a m)) ts = refl
words_off (main k n o e b a m) ts = refl

bits_off : (b : MainBits) (ts : Tokens) → drop (bits_size b) (main_bits_tokens b ts) ≡ ts
bits_off bitless ts = refl
bits_off (main_bits l (unnamed g)) ts = refl
bits_off (main_bits l (named n (bit g))) ts = refl
bits_off (main_bits l (named n (upto c m g))) ts = refl

-- what follows a declaration begins with `,` or END, and what follows its bits never with `<`
pub record Ahead (ts : Tokens) : Type 0 where
  pub next : Token
  pub rest : Tokens
  pub is : ts ≡ next ∷ rest
  pub no_bits : next.kind ≡ Less → ⊥
  pub no_becomes : next.kind ≡ Becomes → ⊥

pub behind_ahead : (ds : Declarations) → Ahead (declarations_tokens ds [])
behind_ahead (declared_all e) = record {
  next = tk END e;
  rest = [];
  is = refl;
  no_bits = λ z. omega (arith, ap kind_no z);
  no_becomes = λ z. omega (arith, ap kind_no z);
}
behind_ahead (declared_also c h d ds) = record {
  next = tk Comma c;
  rest = heading_tokens h (declaration_tokens d (declarations_tokens ds []));
  is = refl;
  no_bits = λ z. omega (arith, ap kind_no z);
  no_becomes = λ z. omega (arith, ap kind_no z);
}

module _ {records values : List ℕ} {i : ℕ} (v : View records values i) where
  name_reads : drop i v.tokens
      ≡ tk Name (name_of v.declaration)
      ∷ words_tokens v.declaration (main_bits_tokens (bits_part v.declaration) (given_tokens (given_part v.declaration) (behind v)))
  name_reads = v.stands.reads ∙ parts v.declaration (behind v)

  pub name_here : Here v.tokens i (tk Name (name_of v.declaration))
      (words_tokens v.declaration (main_bits_tokens (bits_part v.declaration) (given_tokens (given_part v.declaration) (behind v))))
  name_here = here _ _ _ _ name_reads

  pub bits_reads : (p : ℕ) → p ≡ i + 1 + words_size_of v.declaration
      → drop p v.tokens ≡ main_bits_tokens (bits_part v.declaration) (given_tokens (given_part v.declaration) (behind v))
  bits_reads p e =
      ap (λ (n : ℕ). drop n v.tokens) e ∙ behind_far _ _ _ name_here.behind (words_size_of v.declaration)
      ∙ words_off v.declaration (main_bits_tokens (bits_part v.declaration) (given_tokens (given_part v.declaration) (behind v)))

  given_reads : (p : ℕ) → p ≡ i + 1 + words_size_of v.declaration + bits_size (bits_part v.declaration)
      → drop p v.tokens ≡ given_tokens (given_part v.declaration) (behind v)
  given_reads p e =
      ap (λ (n : ℕ). drop n v.tokens) e ∙ behind_far _ _ _ (bits_reads _ refl) (bits_size (bits_part v.declaration))
      ∙ bits_off (bits_part v.declaration) (given_tokens (given_part v.declaration) (behind v))

  pub given_ahead : (g : Given) → (n : Token) × (rest : Tokens) × (given_tokens g (behind v) ≡ n ∷ rest) × (n.kind ≡ Less → ⊥)
  given_ahead carrier = let a = behind_ahead v.stands.following in (a.next, a.rest, a.is, a.no_bits)
  given_ahead (given e m) = (tk Becomes e, meaning_tokens m (behind v), refl, λ z. omega (arith, ap kind_no z))

  abbrev pub bits_view : (p : ℕ) → p ≡ i + 1 + words_size_of v.declaration → BitsView records values p
  bits_view p e = let a = given_ahead (given_part v.declaration) in record {
    text = v.text;
    tokens = v.tokens;
    holds = v.holds;
    bits = bits_part v.declaration;
    next = a.0;
    rest = a.1;
    ends = a.3;
    reads = bits_reads p e ∙ ap (main_bits_tokens (bits_part v.declaration)) a.2;
  }

  -- the token behind the words and bits
  pub given_within : i + 1 + words_size_of v.declaration + bits_size (bits_part v.declaration) < length v.tokens
  given_within = bits_within (bits_view _ refl)

-- what the table shows of a declaration's words, by the kind of the token behind its name
pub data SeenWords (records values : List ℕ) (i : ℕ) (d : Declaration) : Type 0 where
  words_seen : kind_byte records (i + 1) ≡ kind_no LBra → 5 ≡ words_size_of d → Span (value_cell_of values (i + 2)) (value_cell_of values (i + 4)) ≡ shown_words (declared_of d).words
      → SeenWords records values i d
  no_words_seen : (kind_byte records (i + 1) ≡ kind_no LBra → ⊥) → 0 ≡ words_size_of d → Missing ≡ shown_words (declared_of d).words → SeenWords records values i d

module _ {text records values : List ℕ} {ts : Tokens} (h : Holds text records values ts) (i : ℕ) (ds : Declarations) where
  -- a first token that is no `[`
  wordless : (d : Declaration) (xs : Tokens) → drop i ts ≡ xs → 1 < length xs → (kind_no (token_at xs 1).kind ≡ kind_no LBra → ⊥) → 0 ≡ words_size_of d
      → Missing ≡ shown_words (declared_of d).words → SeenWords records values i d
  wordless d xs e l n = no_words_seen (λ z. n (sym (kind_far h i xs e (i + 1) 1 refl l) ∙ z))

  see_words : (d : Declaration) → drop i ts ≡ name_tokens d (declarations_tokens ds []) → SeenWords records values i d
  see_words (plain n (words l f c t r b o)) e =
      words_seen (kind_far h i _ e (i + 1) 1 refl (omega arith)) refl
      (let left = value_far h i _ e (i + 2) 2 refl (omega arith) refl in let right = value_far h i _ e (i + 4) 4 refl (omega arith) refl in rw (left, right))
  see_words (plain n (with_bits l o carrier)) e = wordless _ _ e (omega arith) (λ z. omega arith) refl refl
  see_words (plain n (with_bits l o (given x (body b a m)))) e = wordless _ _ e (omega arith) (λ z. omega arith) refl refl
  see_words (plain n (with_bits l o (given x (mapped t b c r)))) e = wordless _ _ e (omega arith) (λ z. omega arith) refl refl
  see_words (plain n (bare_body x b a m)) e = wordless _ _ e (omega arith) (λ z. omega arith) refl refl
  see_words (main k n bitless x b a m) e = wordless _ _ e (omega arith) (λ z. omega arith) refl refl
  see_words (main k n (main_bits l o) x b a m) e = wordless _ _ e (omega arith) (λ z. omega arith) refl refl

pub seen_words : {records values : List ℕ} {i : ℕ} (v : View records values i) → SeenWords records values i v.declaration
seen_words {records} {values} {i} v = see_words v.holds i v.stands.following v.declaration v.stands.reads

module _ {records values : List ℕ} {i : ℕ} {d : Declaration} where
  pub words_size : {k : ℕ} → SeenWords records values i d → k ≡ kind_byte records (i + 1) → k ≡ kind_no LBra → 5 ≡ words_size_of d
  words_size (words_seen _ s _) e k = s
  words_size (no_words_seen n _ _) e k = absurd (n (sym e ∙ k))

  pub no_words_size : {k : ℕ} → SeenWords records values i d → k ≡ kind_byte records (i + 1) → (k ≡ kind_no LBra → ⊥) → 0 ≡ words_size_of d
  no_words_size (words_seen k _ _) e n = absurd (n (e ∙ k))
  no_words_size (no_words_seen _ s _) e n = s

  pub words_missing : {n : ℕ} → SeenWords records values i d → n ≡ words_size_of d → n ≡ 0 → Missing ≡ shown_words (declared_of d).words
  words_missing (words_seen _ s _) e z = absurd (omega arith)
  words_missing (no_words_seen _ _ m) e z = m

  pub words_five : {n : ℕ} → SeenWords records values i d → n ≡ words_size_of d → (n ≡ 0 → ⊥) → n ≡ 5
  words_five (words_seen _ s _) e z = e ∙ sym s
  words_five (no_words_seen _ s _) e z = absurd (z (e ∙ sym s))

  pub words_span : {n l r : ℕ} → SeenWords records values i d → n ≡ words_size_of d → (n ≡ 0 → ⊥) → l ≡ value_cell_of values (i + 2) → r ≡ value_cell_of values (i + 4)
      → Span l r ≡ shown_words (declared_of d).words
  words_span (words_seen _ _ s) e z f g = rw (f, g) s
  words_span (no_words_seen _ s _) e z f g = absurd (z (e ∙ sym s))

-- a token of another kind has another number
other_kind : (j k : Kind) (n : ℕ) → n ≡ kind_no j → (j ≡ k → ⊥) → n ≡ kind_no k → ⊥
other_kind j k n e d f = d (sym (kind_at_kind_no j) ∙ ap kind_at (sym e ∙ f) ∙ kind_at_kind_no k)

-- what `:=` gives, by the kind of the token behind words and bits
module _ {records values : List ℕ} {i : ℕ} (v : View records values i) {q k : ℕ} (place : q ≡ i + 1 + words_size_of v.declaration + bits_size (bits_part v.declaration))
    (kind : k ≡ kind_byte records q) where
  pub given_some : k ≡ kind_no Becomes → GivenAt v.tokens (Some (q + 1)) (given_part v.declaration) (behind v)
  given_some is = go (given_part v.declaration) (given_reads v q place)
    where
      go : (g : Given) → drop q v.tokens ≡ given_tokens g (behind v) → GivenAt v.tokens (Some (q + 1)) g (behind v)
      go carrier e =
          let a = behind_ahead v.stands.following in
          absurd (other_kind a.next.kind Becomes _ (kind_far v.holds q _ (e ∙ a.is) q 0 (omega arith) (omega arith)) a.no_becomes (sym kind ∙ is))
      go (given x m) e = (omega arith, behind_far _ q _ e 1)

  pub given_none : (k ≡ kind_no Becomes → ⊥) → GivenAt v.tokens None (given_part v.declaration) (behind v)
  given_none not = go (given_part v.declaration) (given_reads v q place)
    where
      go : (g : Given) → drop q v.tokens ≡ given_tokens g (behind v) → GivenAt v.tokens None g (behind v)
      go carrier e = tt
      go (given x m) e = absurd (not (kind ∙ kind_far v.holds q _ e q 0 (omega arith) (omega arith)))

-- a body or a mapping's target, by the kind of the token r behind `:=`
pub data SeenGiven (records : List ℕ) (ts : Tokens) (r : ℕ) (d : Declaration) : Type 0 where
  body_seen : r < length ts → kind_byte records r ≡ kind_no BEGIN → BodyAt ts (Some r) (declared_of d).body → TargetAt ts None (declared_of d).target
      → SeenGiven records ts r d
  target_seen : r < length ts → (kind_byte records r ≡ kind_no BEGIN → ⊥) → BodyAt ts None (declared_of d).body → TargetAt ts (Some r) (declared_of d).target
      → SeenGiven records ts r d

module _ {text records values : List ℕ} {ts : Tokens} (h : Holds text records values ts) (r : ℕ) (ds : Declarations) where
  see_body : (d : Declaration) (b : Info) (a : Action) (m : Members) → 0 < r → drop r ts ≡ action_tokens (block b a m) (declarations_tokens ds [])
      → (declared_of d).body ≡ some (block b a m) → (declared_of d).target ≡ none → SeenGiven records ts r d
  see_body d b a m past e is none_of =
      let first = here ts r _ _ e in
      body_seen first.within (kind_far h r _ e r 0 (omega arith) (omega arith))
      (rw is (past, (_, stands_here (action_tokens (block b a m)) (action_writes (block b a m)) ts r _ (omega (arith, first.within)) e))) (rw none_of tt)

  target_stands : (t l c : Info) (z : BitsEnd) → 0 < r → drop r ts ≡ tk Name t ∷ tk Less l ∷ tk Const c ∷ bits_end_tokens z (declarations_tokens ds [])
      → TargetStands ts r (record { name = t; bits = names_of c z })
  target_stands t l c z past e =
      let first = here ts r _ _ e in
      let a = behind_ahead ds in record {
        past = past;
        within = first.within;
        name = first.token;
        bits = main_bits l (named c z);
        names = refl;
        next = a.next;
        rest = a.rest;
        ends = a.no_bits;
        reads = first.behind ∙ ap (λ (x : Tokens). tk Less l ∷ tk Const c ∷ bits_end_tokens z x) a.is;
      }

  see_given : (d : Declaration) → GivenAt ts (Some r) (given_part d) (declarations_tokens ds []) → SeenGiven records ts r d
  see_given (plain n (words l f c t x b o)) g = absurd g
  see_given (plain n (with_bits l o carrier)) g = absurd g
  see_given (plain n (with_bits l o (given e (body b a m)))) g = see_body _ b a m g.0 g.1 refl refl
  see_given (plain n (with_bits l o (given e (mapped t b c z)))) g =
      target_seen (here ts r _ _ g.1).within (λ k. omega (arith, kind_far h r _ g.1 r 0 (omega arith) (omega arith))) tt
      (target_stands t b c z g.0 g.1)
  see_given (plain n (bare_body e b a m)) g = see_body _ b a m g.0 g.1 refl refl
  see_given (main k n o e b a m) g = see_body _ b a m g.0 g.1 refl refl

nothing_given : (ts rest : Tokens) (d : Declaration) → GivenAt ts None (given_part d) rest → BodyAt ts None (declared_of d).body × TargetAt ts None (declared_of d).target
nothing_given ts rest (plain n (words l f c t x b o)) g = (tt, tt)
nothing_given ts rest (plain n (with_bits l o carrier)) g = (tt, tt)
nothing_given ts rest (plain n (with_bits l o (given e (body b a m)))) g = absurd g
nothing_given ts rest (plain n (with_bits l o (given e (mapped t b c z)))) g = absurd g
nothing_given ts rest (plain n (bare_body e b a m)) g = absurd g
nothing_given ts rest (main k n o e b a m) g = absurd g

module _ {records values : List ℕ} {i : ℕ} (v : View records values i) where
  pub body_none : GivenAt v.tokens None (given_part v.declaration) (behind v) → BodyAt v.tokens None (declared_of v.declaration).body
  body_none g = (nothing_given v.tokens (behind v) v.declaration g).0

  pub target_none : GivenAt v.tokens None (given_part v.declaration) (behind v) → TargetAt v.tokens None (declared_of v.declaration).target
  target_none g = (nothing_given v.tokens (behind v) v.declaration g).1

  pub seen_given : {r : ℕ} → GivenAt v.tokens (Some r) (given_part v.declaration) (behind v) → SeenGiven records v.tokens r v.declaration
  seen_given {r} g = see_given v.holds r v.stands.following v.declaration g

module _ {records : List ℕ} {ts : Tokens} {r : ℕ} {d : Declaration} where
  pub given_far : SeenGiven records ts r d → r < length ts
  given_far (body_seen l _ _ _) = l
  given_far (target_seen l _ _ _) = l

  pub body_some : {k : ℕ} → SeenGiven records ts r d → k ≡ kind_byte records r → k ≡ kind_no BEGIN → BodyAt ts (Some r) (declared_of d).body
  body_some (body_seen _ _ b _) e k = b
  body_some (target_seen _ o _ _) e k = absurd (o (sym e ∙ k))

  pub body_other : {k : ℕ} → SeenGiven records ts r d → k ≡ kind_byte records r → (k ≡ kind_no BEGIN → ⊥) → BodyAt ts None (declared_of d).body
  body_other (body_seen _ o _ _) e k = absurd (k (e ∙ o))
  body_other (target_seen _ _ b _) e k = b

  pub target_body : {k : ℕ} → SeenGiven records ts r d → k ≡ kind_byte records r → k ≡ kind_no BEGIN → TargetAt ts None (declared_of d).target
  target_body (body_seen _ _ _ t) e k = t
  target_body (target_seen _ o _ _) e k = absurd (o (sym e ∙ k))

  pub target_some : {k : ℕ} → SeenGiven records ts r d → k ≡ kind_byte records r → (k ≡ kind_no BEGIN → ⊥) → TargetAt ts (Some r) (declared_of d).target
  target_some (body_seen _ o _ _) e k = absurd (k (e ∙ o))
  target_some (target_seen _ _ _ t) e k = t

-- a body, a target or a MAIN that is found, and one that is not
pub no_body : (ts : Tokens) (x : Found ℕ) (o : Option Action) → BodyAt ts x o → is_some x ≡ false → o ≡ none
no_body ts x none a e = refl
no_body ts None (some b) a e = absurd a
no_body ts (Some r) (some b) a e = absurd (false≢true (sym e))

pub a_body : (ts : Tokens) (x : Found ℕ) (o : Option Action) → BodyAt ts x o → is_some x ≡ true → (b : Action) × (o ≡ some b)
a_body ts None none a e = absurd (false≢true e)
a_body ts (Some r) none a e = absurd a
a_body ts x (some b) a e = (b, refl)

pub no_target : (ts : Tokens) (x : Found ℕ) (o : Option Target) → TargetAt ts x o → is_some x ≡ false → o ≡ none
no_target ts x none a e = refl
no_target ts None (some t) a e = absurd a
no_target ts (Some r) (some t) a e = absurd (false≢true (sym e))

pub a_target : (ts : Tokens) (x : Found ℕ) (o : Option Target) → TargetAt ts x o → is_some x ≡ true → (t : Target) × (o ≡ some t)
a_target ts None none a e = absurd (false≢true e)
a_target ts (Some r) none a e = absurd a
a_target ts x (some t) a e = (t, refl)

pub no_main : (ts : Tokens) (x : Found ℕ) (o : Option Info) → MainAt ts x o → is_some x ≡ false → o ≡ none
no_main ts x none a e = refl
no_main ts None (some i) a e = absurd a
no_main ts (Some r) (some i) a e = absurd (false≢true (sym e))

pub a_main : (ts : Tokens) (x : Found ℕ) (o : Option Info) → MainAt ts x o → is_some x ≡ true → (i : Info) × (o ≡ some i)
a_main ts None none a e = absurd (false≢true e)
a_main ts (Some r) none a e = absurd a
a_main ts x (some i) a e = (i, refl)

-- the name of a target that is found, and its bits
pub target_here : (ts : Tokens) {r : ℕ} (o : Option Target) → TargetAt ts (Some r) o → (t : Target) × (o ≡ some t) × TargetStands ts r t
target_here ts none a = absurd a
target_here ts (some t) a = (t, refl, a)

-- the names of a target's bits, by the number of its name's token
pub target_missing : (ts : Tokens) (o : Option Target) → TargetAt ts None o → Missing ≡ shown_target o
target_missing ts none t = refl
target_missing ts (some x) t = absurd t

module _ {text records values : List ℕ} {ts : Tokens} (h : Holds text records values ts) (r : ℕ) where
  abbrev pub target_bits_view : {x : Target} → TargetStands ts r x → BitsView records values (r + 1)
  target_bits_view t = record {
    text = text;
    tokens = ts;
    holds = h;
    bits = t.bits;
    next = t.next;
    rest = t.rest;
    ends = t.ends;
    reads = t.reads;
  }

  pub target_within : (o : Option Target) → TargetAt ts (Some r) o → r < length ts
  target_within none t = absurd t
  target_within (some x) t = t.within

  pub target_view : (o : Option Target) → TargetAt ts (Some r) o → BitsView records values (r + 1)
  target_view none t = absurd t
  target_view (some x) t = target_bits_view t

  pub target_names : {x : Names} (o : Option Target) → TargetAt ts (Some r) o
      → ((v : BitsView records values (r + 1)) → x ≡ shown_bits (main_names v.bits)) → x ≡ shown_target o
  target_names none t f = absurd t
  target_names (some y) t f = f (target_bits_view t) ∙ ap shown_bits t.names

-- MAIN, by the kind of the token before the name
module _ {records values : List ℕ} {i : ℕ} (v : View records values i) {k : ℕ} (kind : k ≡ kind_byte records (i - 1)) where
  main_within : i - 1 < length v.tokens
  main_within = omega (arith, (name_here v).within)

  abbrev led_kind : k ≡ kind_no (token_at v.tokens (i - 1)).kind
  led_kind = kind ∙ (v.holds.entry (i - 1) main_within).kind

  pub main_some : k ≡ kind_no MAIN → MainAt v.tokens (Some (i - 1)) (declared_of v.declaration).mainly
  main_some is = go v.declaration v.stands.led
    where
      go : (d : Declaration) → LedBy (token_at v.tokens (i - 1)) d → MainAt v.tokens (Some (i - 1)) (declared_of d).mainly
      go (plain n f) led = absurd (other_kind _ MAIN _ led_kind led is)
      go (main x n o e b a m) led = (omega (arith, v.stands.past), (main_within, led))

  pub main_none : (k ≡ kind_no MAIN → ⊥) → MainAt v.tokens None (declared_of v.declaration).mainly
  main_none not = go v.declaration v.stands.led
    where
      go : (d : Declaration) → LedBy (token_at v.tokens (i - 1)) d → MainAt v.tokens None (declared_of d).mainly
      go (plain n (words l f c t x b o)) led = tt
      go (plain n (with_bits l o carrier)) led = tt
      go (plain n (with_bits l o (given e (body b a m)))) led = tt
      go (plain n (with_bits l o (given e (mapped t b c z)))) led = tt
      go (plain n (bare_body e b a m)) led = tt
      go (main x n o e b a m) led = absurd (not (led_kind ∙ ap (λ (t : Token). kind_no t.kind) led))
