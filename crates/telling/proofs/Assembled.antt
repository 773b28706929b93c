-- The code of an accepted description, and a grouping that has the members of its bodies, hold its bodies.
use Rattle.std.specs.Prelude.{ℕ, zero, suc, ◌+◌, ◌≤◌, ◌≡◌, length}
use Rattle.std.proofs.Math.Path.{refl}
use Rattle.std.proofs.Common.{subst, arith}
use mathlib.Core.List.{List, [], ◌∷◌, ◌++◌}
use Rattle.std.proofs.Math.Option.{Option, none, some}
use Rattle.std.proofs.Math.ListN.{get_elem?}
use Rattle.rules.specs.Text.Tokens.{tk, Becomes, BEGIN}
use Rattle.rules.specs.Grammar.Trees.{Tokens, Action, block, action_tokens, members_tokens, body, mapped, carrier, given, words, with_bits, bare_body, Declaration, plain, main, declaration_tokens, Heading, heading_tokens, Declarations, declared_all, declared_also, declarations_tokens, Description, description, flatten}
use Rattle.rules.specs.Declarations.{Word, Declared, Table, number_of, body_number, body_of, declared_of, rest_of, declarations, outer_name}
use Rattle.rules.specs.Steps.Runs.{act_or, body_act}
use Rattle.rules.specs.Faults.Bodies.{labels, label_faults, action_faults, declared_names, body_faults, faults40}
use Rattle.rules.specs.Answers.{accepted, judgement}
use Rattle.laws_grammar.specs.Grammar.Positions.{own_bits_writes, main_bits_writes, heading_writes, declaration_writes}
use Rattle.laws_orders.proofs.Orders.Tests.{impossible}
use Rattle.laws_orders.specs.Cited.Flat.{exit, Instr, go_i, Code, outer, bind}
use Rattle.laws_accepted.proofs.Accepted.Faultless.{no_faults, both_empty, each_empty}
use Rattle.laws_accepted.proofs.Accepted.Named.{Found, found}
use Rattle.laws_code.specs.Cited.Code.{Numbered, size, action_size, first_of}
use Rattle.laws_code.specs.Cited.Bodies.{table_code, body_code, first_in, first_at, first_number}
use Rattle.laws_code.specs.Cited.Placed.{body_start, rest_starts, body_starts, description_code}
use Rattle.laws_code.proofs.Links.Numbers.{size_before, Ascends, ascends_none, ascends_within, ascends_join, code_ascends, Has, has_left, has_right, fetched, fetched_past}
use Rattle.telling.specs.Cited.Passing.{Grouping}
use Rattle.telling.specs.Cited.Grouped.{BodyGrouped, AllGrouped}
use Rattle.telling.proofs.Holding.{alone, HoldsIn, HoldsGrouped}
use Rattle.telling.proofs.Grouped.{action_grouped}

body_ascends : (n : Word) (i s j : ℕ) (a : Action) → i ≤ s → s + action_size a ≤ j → Ascends i j (body_code n s (some a))
body_ascends n i s j a p q = ascends_within (code_ascends a (bind n (first_of s a) exit outer) s exit) p q

declaration_ascends :
    (d : Declaration) (i : ℕ) → Ascends i (i + size (declaration_tokens d)) (body_code (declared_of d).name.word (body_start i d) (declared_of d).body)
unfolding body_start
declaration_ascends (plain n (words l f c t r b o)) i = ascends_none i _ (omega arith)
declaration_ascends (plain n (with_bits l o carrier)) i = ascends_none i _ (omega arith)
declaration_ascends (plain n (with_bits l o (given e (body b a m)))) i =
    body_ascends n.word i _ _ (block b a m) (omega arith)
    (omega (arith, size_before (own_bits_writes o) (tk Becomes e ∷ tk BEGIN b ∷ action_tokens a (members_tokens m []))))
declaration_ascends (plain n (with_bits l o (given e (mapped t b c r)))) i = ascends_none i _ (omega arith)
declaration_ascends (plain n (bare_body e b a m)) i = body_ascends n.word i _ _ (block b a m) (omega arith) (omega arith)
declaration_ascends (main x n o e b a m) i =
    body_ascends n.word i _ _ (block b a m) (omega arith)
    (omega (arith, size_before (main_bits_writes o) (tk Becomes e ∷ tk BEGIN b ∷ action_tokens a (members_tokens m []))))

-- a heading, a declaration and what follows it
follows :
    (i : ℕ) (h : Heading) (d : Declaration) (ts : Tokens) {xs ys : List Numbered}
    → Ascends (i + size (heading_tokens h)) (i + size (heading_tokens h) + size (declaration_tokens d)) xs
    → Ascends (i + size (heading_tokens h) + size (declaration_tokens d)) (i + size (heading_tokens h) + size (declaration_tokens d) + length ts) ys
    → Ascends i (i + length (heading_tokens h (declaration_tokens d ts))) (xs ++ ys)
follows i h d ts p q =
    ascends_within (ascends_join p q) (omega arith)
    (omega (arith, size_before (heading_writes h) (declaration_tokens d ts), size_before (declaration_writes d) ts))

rest_ascends : (ds : Declarations) (i : ℕ) → Ascends i (i + size (declarations_tokens ds)) (table_code (rest_starts i ds) (rest_of ds))
unfolding rest_starts rest_of table_code
rest_ascends (declared_all e) i = ascends_none i _ (omega arith)
rest_ascends (declared_also c h d ds) i =
    let j = suc i + size (heading_tokens h) in
    ascends_within (follows (suc i) h d (declarations_tokens ds []) (declaration_ascends d j) (rest_ascends ds (j + size (declaration_tokens d))))
    (omega arith) (omega arith)

description_ascends : (d : Description) → Ascends 0 (length (flatten d)) (table_code (body_starts d) (declarations d))
unfolding body_starts declarations table_code
description_ascends (description n e b h d ds) =
    let j = 3 + size (heading_tokens h) in
    ascends_within (follows 3 h d (declarations_tokens ds []) (declaration_ascends d j) (rest_ascends ds (j + size (declaration_tokens d))))
    (omega arith) (omega arith)

table_has : (f : ℕ → Instr) (ds : Table) (starts : ℕ → ℕ) (i : ℕ) (d : Declared) → get_elem? ds i ≡ some d → Has f (table_code starts ds)
    → Has f (body_code d.name.word (starts i) d.body)
unfolding table_code
table_has f [] starts i d e h = impossible (cc)
table_has f (x ∷ ds) starts zero d e h =
    let q : x ≡ d = cc in
    subst (λ (y : Declared). Has f (body_code y.name.word (starts 0) y.body)) q
    (has_left f (body_code x.name.word (starts 0) x.body) (table_code (λ i. starts (suc i)) ds) h)
table_has f (x ∷ ds) starts (suc i) d e h =
    table_has f ds (λ i. starts (suc i)) i d e (has_right f (body_code x.name.word (starts 0) x.body) (table_code (λ i. starts (suc i)) ds) h)

module _ (M : Grouping) (d : Description) (n w : ℕ) (judged : judgement d ≡ accepted n w) (grouped : AllGrouped M d (length (flatten d))) where
  abbrev C : Code
  C = description_code d

  abbrev ds : Table
  ds = declarations d

  abbrev out : Word
  out = (outer_name d).word

  abbrev starts : ℕ → ℕ
  starts = body_starts d

  abbrev nowhere : ℕ
  nowhere = length (flatten d)

  body_grouped :
      (p : Word) (i : ℕ) (x : Declared) (a : Action) → get_elem? ds i ≡ some x → x.name.word ≡ p → x.body ≡ some a
      → HoldsIn M C (alone []) (bind p (first_of (starts i) a) exit outer) (first_of (starts i) a) exit (act_or (some a))
  unfolding faults40
  body_grouped p i x a there named its =
      let e = each_empty (λ d. body_faults out ds d.name.word d.body) (faults40 out ds) (λ d ds. refl) ds i x (no_faults d n w judged).of40 there in
      let q : body_faults out ds p (some a) ≡ [] = rw (its, named) at e in
      let f = both_empty (action_faults out ds (p ∷ []) a) (label_faults (declared_names out ds ds) (labels a [])) q in
      let h : Has C.instr (body_code p (starts i) (some a)) = rw (its, named) at (table_has C.instr ds starts i x there (fetched (description_ascends d))) in
      let g : BodyGrouped M (starts i) (some a) = rw its at (grouped.bodies i x there) in
      action_grouped C M out ds a [] (bind p (first_of (starts i) a) exit outer) (starts i) exit f.0 h g

  -- the code holds every body at its place among members
  pub grouped_assembled : HoldsGrouped M C (body_act ds)
  unfolding body_act body_of body_number
  grouped_assembled p = number (number_of ds p) refl
    where
      absent : (M.around nowhere ≡ []) × (C.instr nowhere ≡ go_i exit)
      absent = (grouped.outside, fetched_past nowhere (description_ascends d) (omega arith))

      body : (i : ℕ) (x : Declared) (o : Option Action) → get_elem? ds i ≡ some x → x.name.word ≡ p → x.body ≡ o
          → HoldsIn M C (alone []) (bind p (first_in ds starts nowhere (starts i) o) exit outer) (first_in ds starts nowhere (starts i) o) exit (act_or o)
      body i x none there named its = absent
      body i x (some a) there named its = body_grouped p i x a there named its

      declared : (i : ℕ) (o : Option Declared) → get_elem? ds i ≡ o → Found ds p i
          → HoldsIn M C (alone []) (bind p (first_at ds starts nowhere (starts i) o) exit outer) (first_at ds starts nowhere (starts i) o) exit
          (act_or (elim o [ none ↦ none | some x ↦ x.body ]))
      declared i none there f = absent
      declared i (some x) there f =
          let q : f.declared ≡ x = cc f.there in
          body i x x.body there (rw (← q) f.named) refl

      number : (o : Option ℕ) → number_of ds p ≡ o
          → HoldsIn M C (alone []) (bind p (first_number ds starts nowhere o) exit outer) (first_number ds starts nowhere o) exit (act_or (body_number ds o))
      number none e = absent
      number (some i) e = declared i (get_elem? ds i) refl (found ds p i e)
