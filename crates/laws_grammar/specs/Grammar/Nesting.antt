-- A description nests at most 32 deep exactly where no opener of its tokens is one too many.
use Rattle.std.specs.Prelude.{◌≡◌, refl, Bool, true, false, ◌↔◌, [], ◌∷◌, ℕ, zero, suc, ◌+◌, ◌≤◌, ◌<◌, max, T, length, take, get_or}
use Rattle.std.proofs.Common.{sym, ap, subst, suc-le-suc, arith, le_of_suc-le-suc, not-suc-le-zero}
use Rattle.rules.specs.Text.Tokens.{Kind, Info, tk, Op, op_kind, Name, Const, Masked, LPar, RPar, LBra, RBra, Less, Greater, Comma, Semi, Colon, Becomes, Equals, Arrow, At, Stars, BEGIN, END, NEXT, IF, DECODE, OTHERWISE, REPEAT, LEAVE, RESTART, MAIN, STOP, NO-OP, NOT}
use Rattle.rules.specs.Grammar.Trees.{Tokens, BitsEnd, bit, upto, bits_end_tokens, Bits, all_bits, bits, bits_tokens, Operand, constant, access, parens, negated, operand_tokens, Tail, no_more, with_op, tail_tokens, Subscript, no_subscript, subscript, subscript_tokens, Joined, alone, joined, joined_tokens, Literal, exact, masked, literal_tokens, Range, single, to, range_tokens, Items, close, item, items_tokens, Selector, one_of, any_of, selector_tokens, Action, block, labelled, if_then, decode, repeat, leave, restart, activate, stop, no_op, transfer, action_tokens, Members, end, also, next, members_tokens, Alternatives, counted, selected, alternatives_tokens, Counted, counted_end, counted_more, counted_tokens, Selected, select, otherwise, selected_tokens, SelectedMore, selected_end, selected_more, selected_more_tokens, OwnBits, unnamed, named, own_bits_tokens, Meaning, body, mapped, meaning_tokens, Given, carrier, given, given_tokens, Form, words, with_bits, bare_body, form_tokens, MainBits, bitless, main_bits, main_bits_tokens, Declaration, plain, main, declaration_tokens, Heading, no_heading, heading, heading_tokens, Declarations, declared_all, declared_also, declarations_tokens, Description, description, description_tokens, flatten}
use Rattle.trees.specs.Expressions.{operator, inner_equal}
use Rattle.laws_grammar.specs.Cited.Rows.{recognise}
use Rattle.laws_grammar.specs.Cited.Answer.{accepted}
use Rattle.rules.specs.Grammar.Verdict.{any_info, opens, closes, down, counted_by, count, opened, Crowded}
use Rattle.laws_grammar.specs.Grammar.Exact.{accepted_right, accepted_of}
use Rattle.laws_grammar.specs.Cited.Nesting.{operand_nest, subscript_nest, tail_nest, joined_nest, selector_nest, action_nest, members_nest, alternatives_nest, counted_nest, selected_nest, selected_more_nest, meaning_nest, given_nest, form_nest, declaration_nest, declarations_nest, nest}

-- from d open brackets on, never more than m are open
abbrev pub Under : ℕ → ℕ → Tokens → Type 0
Under m d [] = d ≤ m
Under m d (t ∷ ts) = (d ≤ m) × Under m (count d t.kind) ts

under_here : (m d : ℕ) (ts : Tokens) → Under m d ts → d ≤ m
under_here m d [] h = h
under_here m d (t ∷ ts) h = h.0

-- f writes tokens that go n deeper and come back; or that go n deeper and close one bracket that was open
record Nests (f : Tokens → Tokens) (n : ℕ) : Type 0 where
  down : (m d : ℕ) (ts : Tokens) → Under m d (f ts) → (d + n ≤ m) × Under m d ts
  up : (m d : ℕ) (ts : Tokens) → d + n ≤ m → Under m d ts → Under m d (f ts)

record Shuts (f : Tokens → Tokens) (n : ℕ) : Type 0 where
  down : (m d : ℕ) (ts : Tokens) → Under m (suc d) (f ts) → (suc d + n ≤ m) × Under m d ts
  up : (m d : ℕ) (ts : Tokens) → suc d + n ≤ m → Under m d ts → Under m (suc d) (f ts)

nothing : Nests (λ ts. ts) 0
nothing =
    record {
      down = λ m d ts h. let l = under_here m d ts h in (omega arith, h);
      up = λ m d ts l h. h;
    }

nests_then : {f g : Tokens → Tokens} {a b : ℕ} → Nests f a → Nests g b → Nests (λ ts. f (g ts)) (max a b)
nests_then {f} {g} {a} {b} p q =
    record {
      down = λ m d ts h. let x = p.down m d (g ts) h in let y = q.down m d ts x.1 in (omega arith, y.1);
      up = λ m d ts l h. p.up m d (g ts) (omega arith) (q.up m d ts (omega arith) h);
    }

shuts_then : {f g : Tokens → Tokens} {a b : ℕ} → Nests f a → Shuts g b → Shuts (λ ts. f (g ts)) (max a b)
shuts_then {f} {g} {a} {b} p q =
    record {
      down = λ m d ts h. let x = p.down m (suc d) (g ts) h in let y = q.down m d ts x.1 in (omega arith, y.1);
      up = λ m d ts l h. p.up m (suc d) (g ts) (omega arith) (q.up m d ts (omega arith) h);
    }

-- a token of each sort
nests_token : (k : Kind) (i : Info) → ((d : ℕ) → count d k ≡ d) → {g : Tokens → Tokens} {n : ℕ} → Nests g n → Nests (λ ts. tk k i ∷ g ts) n
nests_token k i e {g} {n} p =
    record {
      down = λ m d ts h. p.down m d ts (subst (λ x. Under m x (g ts)) (e d) h.1);
      up = λ m d ts l h. (omega arith, subst (λ x. Under m x (g ts)) (sym (e d)) (p.up m d ts l h));
    }

shuts_token : (k : Kind) (i : Info) → ((d : ℕ) → count d k ≡ d) → {g : Tokens → Tokens} {n : ℕ} → Shuts g n → Shuts (λ ts. tk k i ∷ g ts) n
shuts_token k i e {g} {n} p =
    record {
      down = λ m d ts h. p.down m d ts (subst (λ x. Under m x (g ts)) (e (suc d)) h.1);
      up = λ m d ts l h. (omega arith, subst (λ x. Under m x (g ts)) (sym (e (suc d))) (p.up m d ts l h));
    }

opener : (k : Kind) (i : Info) → ((d : ℕ) → count d k ≡ suc d) → {g : Tokens → Tokens} {n : ℕ} → Shuts g n → Nests (λ ts. tk k i ∷ g ts) (suc n)
opener k i e {g} {n} p =
    record {
      down = λ m d ts h. let x = p.down m d ts (subst (λ x. Under m x (g ts)) (e d) h.1) in (omega arith, x.1);
      up = λ m d ts l h. (omega arith, subst (λ x. Under m x (g ts)) (sym (e d)) (p.up m d ts (omega arith) h));
    }

closer : (k : Kind) (i : Info) → ((d : ℕ) → count (suc d) k ≡ d) → Shuts (λ ts. tk k i ∷ ts) 0
closer k i e =
    record {
      down = λ m d ts h. let l = h.0 in (omega arith, subst (λ x. Under m x ts) (e d) h.1);
      up = λ m d ts l h. (omega arith, subst (λ x. Under m x ts) (sym (e d)) h);
    }

nests_as : {f : Tokens → Tokens} {a : ℕ} (b : ℕ) → Nests f a → a ≡ b → Nests f b
nests_as {f} b p e = subst (Nests f) e p

shuts_as : {f : Tokens → Tokens} {a : ℕ} (b : ℕ) → Shuts f a → a ≡ b → Shuts f b
shuts_as {f} b p e = subst (Shuts f) e p

zero_max_in : (a b : ℕ) → max a (max 0 b) ≡ max a b
zero_max_in a b = omega arith

bits_end_nests : (b : BitsEnd) → Nests (bits_end_tokens b) 0
unfolding count counted_by opens closes
bits_end_nests (bit g) = nests_token Greater g (λ d. refl) nothing
bits_end_nests (upto c n g) = nests_token Colon c (λ d. refl) (nests_token Const n (λ d. refl) (nests_token Greater g (λ d. refl) nothing))

bits_nests : (b : Bits) → Nests (bits_tokens b) 0
unfolding count counted_by opens closes
bits_nests all_bits = nothing
bits_nests (bits l n e) = nests_token Less l (λ d. refl) (nests_token Const n (λ d. refl) (bits_end_nests e))

op_flat : (o : Op) (d : ℕ) → count d (op_kind o) ≡ d
unfolding count counted_by opens closes
op_flat o d = ap (λ (f : ℕ → ℕ). f d) (inner_equal (λ k n. count n k) (λ k n. n) refl (operator o))

mutual
  unfolding count counted_by opens closes

  operand_nests : (o : Operand) → Nests (operand_tokens o) (operand_nest o)
  operand_nests (constant i) = nests_token Const i (λ d. refl) nothing
  operand_nests (access i s b) = nests_as (subscript_nest s) (nests_token Name i (λ d. refl) (nests_then (subscript_nests s) (bits_nests b))) (omega arith)
  operand_nests (parens l o t r) =
      nests_as (suc (max (operand_nest o) (tail_nest t)))
      (opener LPar l (λ d. refl) (shuts_then (operand_nests o) (shuts_then (tail_nests t) (closer RPar r (λ d. refl))))) (omega arith)
  operand_nests (negated i o) = nests_token NOT i (λ d. refl) (operand_nests o)

  tail_nests : (t : Tail) → Nests (tail_tokens t) (tail_nest t)
  tail_nests no_more = nothing
  tail_nests (with_op op i o t) = nests_token (op_kind op) i (op_flat op) (nests_then (operand_nests o) (tail_nests t))

  subscript_nests : (s : Subscript) → Nests (subscript_tokens s) (subscript_nest s)
  subscript_nests no_subscript = nothing
  subscript_nests (subscript l o t r) =
      nests_as (suc (max (operand_nest o) (tail_nest t)))
      (opener LBra l (λ d. refl) (shuts_then (operand_nests o) (shuts_then (tail_nests t) (closer RBra r (λ d. refl))))) (omega arith)

joined_nests : (j : Joined) → Nests (joined_tokens j) (joined_nest j)
unfolding count counted_by opens closes
joined_nests alone = nothing
joined_nests (joined a n s b j) =
    nests_as (max (subscript_nest s) (joined_nest j))
    (nests_token At a (λ d. refl) (nests_token Name n (λ d. refl) (nests_then (subscript_nests s) (nests_then (bits_nests b) (joined_nests j))))) (omega arith)

literal_nests : (l : Literal) → Nests (literal_tokens l) 0
unfolding count counted_by opens closes
literal_nests (exact i) = nests_token Const i (λ d. refl) nothing
literal_nests (masked i) = nests_token Masked i (λ d. refl) nothing

range_nests : (r : Range) → Nests (range_tokens r) 0
unfolding count counted_by opens closes
range_nests single = nothing
range_nests (to c l) = nests_token Colon c (λ d. refl) (literal_nests l)

items_nests : (v : Items) → Shuts (items_tokens v) 0
unfolding count counted_by opens closes
items_nests (close r) = closer RBra r (λ d. refl)
items_nests (item c l r v) = shuts_token Comma c (λ d. refl) (shuts_then (literal_nests l) (shuts_then (range_nests r) (items_nests v)))

selector_nests : (v : Selector) → Nests (selector_tokens v) (selector_nest v)
unfolding count counted_by opens closes
selector_nests (one_of l r) = nests_then (literal_nests l) (range_nests r)
selector_nests (any_of b l r v) = opener LBra b (λ d. refl) (shuts_then (literal_nests l) (shuts_then (range_nests r) (items_nests v)))

call_nests : (l r : Info) → Nests (λ ts. tk LPar l ∷ tk RPar r ∷ ts) 1
unfolding count counted_by opens closes
call_nests l r = opener LPar l (λ d. refl) (closer RPar r (λ d. refl))

mutual
  unfolding count counted_by opens closes

  action_nests : (a : Action) → Nests (action_tokens a) (action_nest a)
  action_nests (block b a m) = opener BEGIN b (λ d. refl) (shuts_then (action_nests a) (members_nests m))
  action_nests (labelled n b a) = nests_token Name n (λ d. refl) (nests_token Becomes b (λ d. refl) (action_nests a))
  action_nests (if_then i o t w a) =
      nests_token IF i (λ d. refl) (nests_then (operand_nests o) (nests_then (tail_nests t) (nests_token Arrow w (λ d. refl) (action_nests a))))
  action_nests (decode i o t w b v) =
      nests_token DECODE i (λ d. refl)
      (nests_then (operand_nests o) (nests_then (tail_nests t) (nests_token Arrow w (λ d. refl) (opener BEGIN b (λ d. refl) (alternatives_nests v)))))
  action_nests (repeat i a) = nests_token REPEAT i (λ d. refl) (action_nests a)
  action_nests (leave i n) = nests_token LEAVE i (λ d. refl) (nests_token Name n (λ d. refl) nothing)
  action_nests (restart i n) = nests_token RESTART i (λ d. refl) (nests_token Name n (λ d. refl) nothing)
  action_nests (activate n l r) = nests_token Name n (λ d. refl) (call_nests l r)
  action_nests (stop i l r) = nests_token STOP i (λ d. refl) (call_nests l r)
  action_nests (no_op i l r) = nests_token NO-OP i (λ d. refl) (call_nests l r)
  action_nests (transfer n s b j e o t) =
      nests_as (max (subscript_nest s) (max (joined_nest j) (max (operand_nest o) (tail_nest t))))
      (nests_token Name n (λ d. refl) (nests_then (subscript_nests s) (nests_then (bits_nests b) (nests_then (joined_nests j)
      (nests_token Equals e (λ d. refl) (nests_then (operand_nests o) (tail_nests t))))))) (zero_max_in (subscript_nest s) _)

  members_nests : (m : Members) → Shuts (members_tokens m) (members_nest m)
  members_nests (end i) = closer END i (λ d. refl)
  members_nests (also i a m) = shuts_token Semi i (λ d. refl) (shuts_then (action_nests a) (members_nests m))
  members_nests (next i a m) = shuts_token NEXT i (λ d. refl) (shuts_then (action_nests a) (members_nests m))

  alternatives_nests : (v : Alternatives) → Shuts (alternatives_tokens v) (alternatives_nest v)
  alternatives_nests (counted a c) = shuts_then (action_nests a) (counted_nests c)
  alternatives_nests (selected s) = selected_nests s

  counted_nests : (v : Counted) → Shuts (counted_tokens v) (counted_nest v)
  counted_nests (counted_end i) = closer END i (λ d. refl)
  counted_nests (counted_more i a c) = shuts_token Comma i (λ d. refl) (shuts_then (action_nests a) (counted_nests c))

  selected_nests : (v : Selected) → Shuts (selected_tokens v) (selected_nest v)
  selected_nests (select s b a m) = shuts_then (selector_nests s) (shuts_token Becomes b (λ d. refl) (shuts_then (action_nests a) (selected_more_nests m)))
  selected_nests (otherwise i b a e) =
      shuts_as (action_nest a)
      (shuts_token OTHERWISE i (λ d. refl) (shuts_token Becomes b (λ d. refl) (shuts_then (action_nests a) (closer END e (λ d. refl))))) (omega arith)

  selected_more_nests : (v : SelectedMore) → Shuts (selected_more_tokens v) (selected_more_nest v)
  selected_more_nests (selected_end i) = closer END i (λ d. refl)
  selected_more_nests (selected_more i s) = shuts_token Comma i (λ d. refl) (selected_nests s)

own_bits_nests : (o : OwnBits) → Nests (own_bits_tokens o) 0
unfolding count counted_by opens closes
own_bits_nests (unnamed g) = nests_token Greater g (λ d. refl) nothing
own_bits_nests (named n e) = nests_token Const n (λ d. refl) (bits_end_nests e)

body_nests : (b : Info) (a : Action) (m : Members) → Nests (λ ts. tk BEGIN b ∷ action_tokens a (members_tokens m ts)) (suc (max (action_nest a) (members_nest m)))
unfolding count counted_by opens closes
body_nests b a m = opener BEGIN b (λ d. refl) (shuts_then (action_nests a) (members_nests m))

meaning_nests : (m : Meaning) → Nests (meaning_tokens m) (meaning_nest m)
unfolding count counted_by opens closes
meaning_nests (body b a m) = body_nests b a m
meaning_nests (mapped n l c e) = nests_token Name n (λ d. refl) (nests_token Less l (λ d. refl) (nests_token Const c (λ d. refl) (bits_end_nests e)))

given_nests : (g : Given) → Nests (given_tokens g) (given_nest g)
unfolding count counted_by opens closes
given_nests carrier = nothing
given_nests (given b m) = nests_token Becomes b (λ d. refl) (meaning_nests m)

words_nests : (l m c n r : Info) → Nests (λ ts. tk LBra l ∷ tk Const m ∷ tk Colon c ∷ tk Const n ∷ tk RBra r ∷ ts) 1
unfolding count counted_by opens closes
words_nests l m c n r =
    opener LBra l (λ d. refl) (shuts_token Const m (λ d. refl) (shuts_token Colon c (λ d. refl) (shuts_token Const n (λ d. refl) (closer RBra r (λ d. refl)))))

form_nests : (f : Form) → Nests (form_tokens f) (form_nest f)
unfolding count counted_by opens closes
form_nests (words l m c n r b o) = nests_then (words_nests l m c n r) (nests_token Less b (λ d. refl) (own_bits_nests o))
form_nests (with_bits l o g) =
    nests_as (given_nest g) (nests_token Less l (λ d. refl) (nests_then (own_bits_nests o) (given_nests g))) (omega arith)
form_nests (bare_body e b a m) = nests_token Becomes e (λ d. refl) (body_nests b a m)

main_bits_nests : (o : MainBits) → Nests (main_bits_tokens o) 0
unfolding count counted_by opens closes
main_bits_nests bitless = nothing
main_bits_nests (main_bits l o) = nests_token Less l (λ d. refl) (own_bits_nests o)

declaration_nests : (d : Declaration) → Nests (declaration_tokens d) (declaration_nest d)
unfolding count counted_by opens closes
declaration_nests (plain n f) = nests_token Name n (λ d. refl) (form_nests f)
declaration_nests (main i n o e b a m) =
    nests_as (suc (max (action_nest a) (members_nest m)))
    (nests_token MAIN i (λ d. refl) (nests_token Name n (λ d. refl) (nests_then (main_bits_nests o) (nests_token Becomes e (λ d. refl) (body_nests b a m))))) (omega arith)

heading_nests : (h : Heading) → Nests (heading_tokens h) 0
unfolding count counted_by opens closes
heading_nests no_heading = nothing
heading_nests (heading l n r) = nests_token Stars l (λ d. refl) (nests_token Name n (λ d. refl) (nests_token Stars r (λ d. refl) nothing))

declarations_nests : (d : Declarations) → Shuts (declarations_tokens d) (declarations_nest d)
unfolding count counted_by opens closes
declarations_nests (declared_all e) = closer END e (λ d. refl)
declarations_nests (declared_also c h d ds) =
    shuts_as (max (declaration_nest d) (declarations_nest ds))
    (shuts_token Comma c (λ d. refl) (shuts_then (heading_nests h) (shuts_then (declaration_nests d) (declarations_nests ds)))) (omega arith)

description_nests : (d : Description) → Nests (description_tokens d) (nest d)
unfolding count counted_by opens closes
description_nests (description n e b h d ds) =
    nests_as (suc (max (declaration_nest d) (declarations_nest ds)))
    (nests_token Name n (λ d. refl) (nests_token Becomes e (λ d. refl)
    (opener BEGIN b (λ d. refl) (shuts_then (heading_nests h) (shuts_then (declaration_nests d) (declarations_nests ds)))))) (omega arith)

-- on the tokens: never more than 32 open is no opener with 32 open before it
down_le : (d : ℕ) → down d ≤ d
down_le zero = omega arith
down_le (suc d) = omega arith

count_small : (o c : Bool) (d : ℕ) → d ≤ 32 → (T o → 32 ≤ d → ⊥) → counted_by o c d ≤ 32
unfolding counted_by
count_small true c d h n = let q : ¬ (32 ≤ d) = n tt in omega arith
count_small false true d h n = omega (arith, down_le d)
count_small false false d h n = h

under_of_shallow : (d : ℕ) (ts : Tokens) → d ≤ 32
    → ((j : ℕ) → j < length ts → T (opens (get_or ts j (tk Name any_info)).kind) → 32 ≤ opened d (take j ts) → ⊥) → Under 32 d ts
unfolding opened count
under_of_shallow d [] h n = h
under_of_shallow d (t ∷ ts) h n = (
  h,
  under_of_shallow (count d t.kind) ts (count_small (opens t.kind) (closes t.kind) d h (λ o f. n 0 (omega arith) o f))
      (λ j l o f. n (suc j) (suc-le-suc l) o f),
)

count_opener : (o c : Bool) (d : ℕ) → T o → counted_by o c d ≡ suc d
unfolding counted_by
count_opener true c d t = refl
count_opener false c d t = absurd t

shallow_of_under : (d : ℕ) (ts : Tokens) (j : ℕ) → Under 32 d ts → j < length ts → T (opens (get_or ts j (tk Name any_info)).kind) → 32 ≤ opened d (take j ts) → ⊥
unfolding opened count
shallow_of_under d [] j u l o f = not-suc-le-zero l
shallow_of_under d (t ∷ ts) zero u l o f =
    let a = under_here 32 (count d t.kind) ts u.1 in
    let b = count_opener (opens t.kind) (closes t.kind) d o in
    omega arith
shallow_of_under d (t ∷ ts) (suc j) u l o f = shallow_of_under (count d t.kind) ts j u.1 (le_of_suc-le-suc l) o f

pub shallow_nest : (d : Description) → ((j : ℕ) → ¬ Crowded (flatten d) j) → nest d ≤ 32
shallow_nest d h =
    let u = under_of_shallow 0 (flatten d) (omega arith) (λ j l o f. h j (record { there = l; opener = o; full = f })) in
    let n = (description_nests d).down 32 0 [] u in
    omega arith

pub nest_shallow : (d : Description) → nest d ≤ 32 → (j : ℕ) → ¬ Crowded (flatten d) j
nest_shallow d h j c = shallow_of_under 0 (flatten d) j ((description_nests d).up 32 0 [] (omega arith) (omega arith)) c.there c.opener c.full

-- ACCEPTED: the recogniser accepts the tokens of the descriptions that nest at most 32 deep, and nothing else
pub accepted_is : (ts : Tokens) → recognise ts ≡ accepted ↔ ((d : Description) × (flatten d ≡ ts) × (nest d ≤ 32))
accepted_is ts = (
  (λ h.
      let a = accepted_right ts h in
      let d = a.whole.0 in
      let e = a.whole.1 in
      (d, e, shallow_nest d (λ j c. a.shallow j (subst (λ l. Crowded l j) e c)))),
  (λ x. accepted_of ts (record { whole = (x.0, x.1); shallow = λ j c. nest_shallow x.0 x.2 j (subst (λ l. Crowded l j) (sym x.1) c) })),
)
