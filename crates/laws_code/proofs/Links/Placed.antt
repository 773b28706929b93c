-- The code of an accepted description holds its bodies.
use Rattle.std.specs.Prelude.{ℕ, suc, ◌+◌, ◌≤◌, ◌≡◌, List, [], ◌∷◌, ◌++◌, length}
use Rattle.std.proofs.Math.Option.{some}
use Rattle.std.proofs.Common.{arith}
use Rattle.rules.specs.Text.Tokens.{tk, Becomes, BEGIN}
use Rattle.rules.specs.Grammar.Trees.{Tokens, Action, block, action_tokens, members_tokens, body, mapped, carrier, given, words, with_bits, bare_body, Declaration, plain, main, declaration_tokens, Heading, heading_tokens, Declarations, declared_all, declared_also, declarations_tokens, Description, description, flatten}
use Rattle.rules.specs.Declarations.{Word, declared_of, rest_of, declarations, outer_name}
use Rattle.rules.specs.Steps.Runs.{body_act}
use Rattle.rules.specs.Answers.{accepted, judgement}
use Rattle.laws_grammar.specs.Grammar.Positions.{own_bits_writes, main_bits_writes, heading_writes, declaration_writes}
use Rattle.laws_orders.specs.Cited.Flat.{exit, outer, bind, HoldsBodies}
use Rattle.laws_accepted.proofs.Accepted.Faultless.{no_faults}
use Rattle.laws_code.specs.Cited.Code.{Numbered, size, action_size, first_of}
use Rattle.laws_code.proofs.Links.Numbers.{size_before, Ascends, ascends_none, ascends_within, ascends_join, code_ascends}
use Rattle.laws_code.specs.Cited.Bodies.{body_code, table_code}
use Rattle.laws_code.proofs.Links.Bodies.{assembled}
use Rattle.laws_code.specs.Cited.Placed.{body_start, rest_starts, body_starts, description_code}

body_ascends : (n : Word) (i s j : ℕ) (a : Action) → i ≤ s → s + action_size a ≤ j → Ascends i j (body_code n s (some a))
body_ascends n i s j a p q = ascends_within (code_ascends a (bind n (first_of s a) exit outer) s exit) p q

declaration_ascends :
    (d : Declaration) (i : ℕ) → Ascends i (i + size (declaration_tokens d)) (body_code (declared_of d).name.word (body_start i d) (declared_of d).body)
unfolding body_start
declaration_ascends (plain n (words l f c t r b o)) i = ascends_none i _ (omega arith)
declaration_ascends (plain n (with_bits l o carrier)) i = ascends_none i _ (omega arith)
declaration_ascends (plain n (with_bits l o (given e (body b a m)))) i =
    body_ascends n.word i _ _ (block b a m) (omega arith)
    (omega (arith, size_before (own_bits_writes o) (tk Becomes e ∷ tk BEGIN b ∷ action_tokens a (members_tokens m []))))
declaration_ascends (plain n (with_bits l o (given e (mapped t b c r)))) i = ascends_none i _ (omega arith)
declaration_ascends (plain n (bare_body e b a m)) i = body_ascends n.word i _ _ (block b a m) (omega arith) (omega arith)
declaration_ascends (main x n o e b a m) i =
    body_ascends n.word i _ _ (block b a m) (omega arith)
    (omega (arith, size_before (main_bits_writes o) (tk Becomes e ∷ tk BEGIN b ∷ action_tokens a (members_tokens m []))))

-- a heading, a declaration and what follows it
follows :
    (i : ℕ) (h : Heading) (d : Declaration) (ts : Tokens) {xs ys : List Numbered}
    → Ascends (i + size (heading_tokens h)) (i + size (heading_tokens h) + size (declaration_tokens d)) xs
    → Ascends (i + size (heading_tokens h) + size (declaration_tokens d)) (i + size (heading_tokens h) + size (declaration_tokens d) + length ts) ys
    → Ascends i (i + length (heading_tokens h (declaration_tokens d ts))) (xs ++ ys)
follows i h d ts p q =
    ascends_within (ascends_join p q) (omega arith)
    (omega (arith, size_before (heading_writes h) (declaration_tokens d ts), size_before (declaration_writes d) ts))

rest_ascends : (ds : Declarations) (i : ℕ) → Ascends i (i + size (declarations_tokens ds)) (table_code (rest_starts i ds) (rest_of ds))
unfolding rest_starts rest_of table_code
rest_ascends (declared_all e) i = ascends_none i _ (omega arith)
rest_ascends (declared_also c h d ds) i =
    let j = suc i + size (heading_tokens h) in
    ascends_within (follows (suc i) h d (declarations_tokens ds []) (declaration_ascends d j) (rest_ascends ds (j + size (declaration_tokens d))))
    (omega arith) (omega arith)

description_ascends : (d : Description) → Ascends 0 (length (flatten d)) (table_code (body_starts d) (declarations d))
unfolding body_starts declarations table_code
description_ascends (description n e b h d ds) =
    let j = 3 + size (heading_tokens h) in
    ascends_within (follows 3 h d (declarations_tokens ds []) (declaration_ascends d j) (rest_ascends ds (j + size (declaration_tokens d))))
    (omega arith) (omega arith)

-- the code of an accepted description holds its bodies
pub accepted_assembled : (d : Description) (n w : ℕ) → judgement d ≡ accepted n w → HoldsBodies (description_code d) (body_act (declarations d))
accepted_assembled d n w e =
    assembled (outer_name d).word (declarations d) (body_starts d) _ (no_faults d n w e).of40 (description_ascends d)
