-- Trees whose tokens stand inside the text: the faults of their expressions and destinations have keys.
-- Assumes nothing.
use Rattle.std.specs.Prelude.{ℕ, ◌+◌, ◌<◌, ◌≤◌, Bool, true, false, not, ◌&&◌, List, [], ◌∷◌, ◌++◌, ltb}
use Rattle.std.proofs.Math.Option.{Option, none, some}
use Rattle.std.proofs.Common.{arith}
use Rattle.std.proofs.Math.Decide.{dec_lt}
use Rattle.rules.specs.Text.Tokens.{RPar, RBra, Info, tk}
use Rattle.rules.specs.Text.Scan.{same_bytes}
use Rattle.rules.specs.Grammar.Trees.{Tokens, Bits, all_bits, bits, bits_tokens, Operand, constant, access, parens, negated, operand_tokens, Tail, no_more, with_op, tail_tokens}
use Rattle.rules.specs.Grammar.Trees.{Subscript, no_subscript, subscript, subscript_tokens, Joined, alone, joined, joined_tokens}
use Rattle.rules.specs.Grammar.Precedence.{Expr, leaf, node, Factor, number, cell, group, inverse, Index, no_index, index, Link, tightness}
use Rattle.rules.specs.Grammar.Precedence.{insert_by, insert, inserts, arrange, factor_of, links_of, index_of, expr_of}
use Rattle.rules.specs.Values.{op_bits}
use Rattle.rules.specs.Limits.{most_bits, longest_text}
use Rattle.rules.specs.Declarations.{Word, Names, BitNames, Declared, Table, number_of, names_of, reach}
use Rattle.rules.specs.Faults.Fault.{Fault, fault, when}
use Rattle.rules.specs.Faults.Declared.{inside, declared_at}
use Rattle.rules.specs.Faults.Bodies.{Judged, judged_as, is_sound, over, subscripted, access_judged, judge_name, judge_access, judge, judge_factor, judge_index, faults_in}
use Rattle.rules.specs.Faults.Bodies.{judge_destination, judge_joined, owned_twice, stored_twice}
use Rattle.rules.specs.Whole.Sets.{owner_in}
use Rattle.laws_grammar.specs.Grammar.Positions.{Writes, bits_writes, operand_writes, subscript_writes}
use Rattle.keys.specs.Keys.{Smalls, none_small, also_small}
use Rattle.keys.specs.Laws.Keys.{smalls_append}

abbrev pub Inside : Info → Type 0
Inside i = i.place ≤ longest_text

abbrev pub AllInside : Tokens → Type 0
AllInside [] = Unit {0}
AllInside (t ∷ ts) = Inside t.info × AllInside ts

pub behind_append : (xs ys : Tokens) → AllInside (xs ++ ys) → AllInside ys
behind_append [] ys h = h
behind_append (x ∷ xs) ys h = behind_append xs ys h.1

pub front_append : (xs ys : Tokens) → AllInside (xs ++ ys) → AllInside xs
front_append [] ys h = tt
front_append (x ∷ xs) ys h = (h.0, front_append xs ys h.1)

-- what stands behind what f writes, and what f writes by itself
module _ (f : Tokens → Tokens) (w : Writes f) (ts : Tokens) (h : AllInside (f ts)) where
  pub inside_behind : AllInside ts
  inside_behind = behind_append (f []) ts (rw (w.grows [] ts) at h)

  pub inside_alone : AllInside (f [])
  inside_alone = front_append (f []) ts (rw (w.grows [] ts) at h)

-- TREES OF EXPRESSIONS
abbrev mutual
  ExprInside : Expr → Type 0
  ExprInside (leaf f) = FactorInside f
  ExprInside (node o i l r) = Inside i × (ExprInside l × ExprInside r)

  FactorInside : Factor → Type 0
  FactorInside (number i) = Unit {0}
  FactorInside (cell i x b) = Inside i × IndexInside x
  FactorInside (group l e r) = ExprInside e
  FactorInside (inverse i f) = FactorInside f

  IndexInside : Index → Type 0
  IndexInside no_index = Unit {0}
  IndexInside (index l e r) = ExprInside e

abbrev LinksInside : List Link → Type 0
LinksInside [] = Unit {0}
LinksInside (k ∷ ks) = Inside k.info × (FactorInside k.factor × LinksInside ks)

insert_inside : (e : Expr) (k : Link) → ExprInside e → Inside k.info → FactorInside k.factor → ExprInside (insert e k)
unfolding insert insert_by
insert_inside (leaf f) k h p q = (p, (h, q))
insert_inside (node o i l r) k h p q = go (dec_lt (tightness o) (tightness k.op)) (insert_inside r k h.1.1 p q)
  where
    go : {P : Type 0} (d : Dec P) → ExprInside (insert r k)
        → ExprInside (insert_by d (node o i l (insert r k)) (node k.op k.info (node o i l r) (leaf k.factor)))
    go (yes _) m = (h.0, (h.1.0, m))
    go (no _) m = (p, (h, q))

inserts_inside : (e : Expr) (ks : List Link) → ExprInside e → LinksInside ks → ExprInside (inserts e ks)
unfolding inserts
inserts_inside e [] h l = h
inserts_inside e (k ∷ ks) h l = inserts_inside (insert e k) ks (insert_inside e k h l.0 l.1.0) l.1.1

mutual
  unfolding factor_of arrange

  operand_inside : (o : Operand) (ts : Tokens) → AllInside (operand_tokens o ts) → FactorInside (factor_of o)
  operand_inside (constant i) ts h = tt
  operand_inside (access i s b) ts h = (h.0, subscript_inside s (bits_tokens b ts) h.1)
  operand_inside (parens l o t r) ts h =
      inserts_inside (leaf (factor_of o)) (links_of t) (operand_inside o (tail_tokens t (tk RPar r ∷ ts)) h.1)
      (tail_inside t (tk RPar r ∷ ts) (inside_behind (operand_tokens o) (operand_writes o) (tail_tokens t (tk RPar r ∷ ts)) h.1))
  operand_inside (negated i o) ts h = operand_inside o ts h.1

  tail_inside : (t : Tail) (ts : Tokens) → AllInside (tail_tokens t ts) → LinksInside (links_of t)
  tail_inside no_more ts h = tt
  tail_inside (with_op op i o t) ts h =
      (h.0, (operand_inside o (tail_tokens t ts) h.1, tail_inside t ts (inside_behind (operand_tokens o) (operand_writes o) (tail_tokens t ts) h.1)))

  subscript_inside : (s : Subscript) (ts : Tokens) → AllInside (subscript_tokens s ts) → IndexInside (index_of s)
  subscript_inside no_subscript ts h = tt
  subscript_inside (subscript l o t r) ts h =
      inserts_inside (leaf (factor_of o)) (links_of t) (operand_inside o (tail_tokens t (tk RBra r ∷ ts)) h.1)
      (tail_inside t (tk RBra r ∷ ts) (inside_behind (operand_tokens o) (operand_writes o) (tail_tokens t (tk RBra r ∷ ts)) h.1))

expression_inside : (o : Operand) (t : Tail) (ts : Tokens) → AllInside (operand_tokens o (tail_tokens t ts)) → ExprInside (expr_of o t)
unfolding expr_of arrange
expression_inside o t ts h =
    inserts_inside (leaf (factor_of o)) (links_of t) (operand_inside o (tail_tokens t ts) h)
    (tail_inside t ts (inside_behind (operand_tokens o) (operand_writes o) (tail_tokens t ts) h))

-- THEIR FAULTS
pub when_small : (b : Bool) (n p : ℕ) → n < 128 → p ≤ longest_text → Smalls (when b n p)
when_small true n p h l = also_small {f = fault n p} (record { number = h; place = l }) none_small
when_small false n p h l = none_small

over_small : (fs : List Fault) (n p : ℕ) → Smalls fs → p ≤ longest_text → Smalls (over fs n p)
over_small fs n p s l = smalls_append s (when_small (is_sound fs && ltb most_bits n) 43 p (omega arith) l)

module _ (outer : Word) (ds : Table) where
  access_small : (w : Option Names) (c : Option BitNames) (i : Info) (x : Index) (b : Bits) → Inside i → Smalls (access_judged i.place w c x b).faults
  access_small w none i x b h = when_small true 41 i.place (omega arith) h
  access_small w (some c) i x all_bits h = smalls_append (when_small (not (subscripted w x)) 41 i.place (omega arith) h) none_small
  access_small w (some c) i x (bits l n e) h =
      smalls_append (when_small (not (subscripted w x)) 41 i.place (omega arith) h) (when_small (not (inside c (names_of n e))) 42 i.place (omega arith) h)

  name_small : (d : Option Declared) (i : Info) (x : Index) (b : Bits) → Inside i → Smalls (judge_name outer ds i x b d).faults
  unfolding judge_name
  name_small none i x b h =
      smalls_append (when_small (not (same_bytes outer i.word)) 40 i.place (omega arith) h) (when_small (same_bytes outer i.word) 41 i.place (omega arith) h)
  name_small (some d) i x b h = access_small d.words d.bits i x b h

  mutual
    unfolding judge judge_access

    judge_small : (e : Expr) → ExprInside e → Smalls (judge outer ds e).faults
    judge_small (leaf f) h = factor_small f h
    judge_small (node o i l r) h =
        let a = judge outer ds l in
        let b = judge outer ds r in
        over_small (a.faults ++ b.faults) (op_bits o a.bits b.bits) i.place (smalls_append (judge_small l h.1.0) (judge_small r h.1.1)) h.0

    factor_small : (f : Factor) → FactorInside f → Smalls (judge_factor outer ds f).faults
    factor_small (number i) h = none_small
    factor_small (cell i x b) h = smalls_append (index_small x h.1) (name_small (declared_at ds (number_of ds i.word)) i x b h.0)
    factor_small (group l e r) h = judge_small e h
    factor_small (inverse i f) h = factor_small f h

    index_small : (x : Index) → IndexInside x → Smalls (judge_index outer ds x)
    index_small no_index h = none_small
    index_small (index l e r) h = judge_small e h

  pub expression_small : (o : Operand) (t : Tail) (ts : Tokens) → AllInside (operand_tokens o (tail_tokens t ts)) → Smalls (faults_in outer ds o t)
  unfolding faults_in
  expression_small o t ts h = judge_small (expr_of o t) (expression_inside o t ts h)

  -- destinations
  destination_small : (n : Info) (s : Subscript) (b : Bits) (ts : Tokens) → Inside n → AllInside (subscript_tokens s ts) → Smalls (judge_destination outer ds n s b).faults
  destination_small n s b ts p h = factor_small (cell n (index_of s) b) (p, subscript_inside s ts h)

  joined_small : (j : Judged) (t : Joined) (ts : Tokens) → Smalls j.faults → AllInside (joined_tokens t ts) → Smalls (judge_joined outer ds j t)
  unfolding judge_joined
  joined_small j alone ts s h = s
  joined_small j (joined a n x b more) ts s h =
      let k = judge_destination outer ds n x b in
      joined_small (judged_as (over (j.faults ++ k.faults) (j.bits + k.bits) a.place) (j.bits + k.bits)) more ts
      (over_small (j.faults ++ k.faults) (j.bits + k.bits) a.place (smalls_append s (destination_small n x b (bits_tokens b (joined_tokens more ts)) h.1.0 h.1.1)) h.0)
      (inside_behind (bits_tokens b) (bits_writes b) (joined_tokens more ts) (inside_behind (subscript_tokens x) (subscript_writes x) (bits_tokens b (joined_tokens more ts)) h.1.1))

  stored_small : (so_far : List ℕ) (t : Joined) (ts : Tokens) → AllInside (joined_tokens t ts) → Smalls (stored_twice outer ds so_far t)
  unfolding stored_twice
  stored_small so_far alone ts h = none_small
  stored_small so_far (joined a n x b more) ts h =
      let o = owner_in (reach ds n.word) in
      smalls_append (when_small (owned_twice outer ds so_far o) 46 n.place (omega arith) h.1.0)
      (stored_small (o ++ so_far) more ts
      (inside_behind (bits_tokens b) (bits_writes b) (joined_tokens more ts) (inside_behind (subscript_tokens x) (subscript_writes x) (bits_tokens b (joined_tokens more ts)) h.1.1)))

  pub destinations_small : (n : Info) (s : Subscript) (b : Bits) (j : Joined) (ts : Tokens) → Inside n → AllInside (subscript_tokens s (bits_tokens b (joined_tokens j ts)))
      → Smalls (judge_joined outer ds (judge_destination outer ds n s b) j) × Smalls (stored_twice outer ds (owner_in (reach ds n.word)) j)
  destinations_small n s b j ts p h =
      let others = inside_behind (bits_tokens b) (bits_writes b) (joined_tokens j ts) (inside_behind (subscript_tokens s) (subscript_writes s) (bits_tokens b (joined_tokens j ts)) h) in (
        joined_small (judge_destination outer ds n s b) j ts (destination_small n s b (bits_tokens b (joined_tokens j ts)) p h) others,
        stored_small (owner_in (reach ds n.word)) j ts others,
      )
