-- Precedence gives one tree: the tree of a chain has its operands and operators in their order and is tight, and a tight tree is the tree of its chain.
use Rattle.std.specs.Prelude.{◌≡◌, refl, List, [], ◌∷◌, ◌++◌, ℕ, suc, ◌≤◌, ◌<◌}
use Rattle.std.proofs.Common.{sym, ap, ◌∙◌, append_assoc, arith}
use Rattle.std.proofs.Math.Decide.{dec_lt}
use Rattle.rules.specs.Text.Tokens.{Info, Op, join, plus, minus, eql, and, or}
use Rattle.rules.specs.Grammar.Precedence.{tightness, Expr, leaf, node, Factor, number, group, inverse, Link, link, insert_by, insert, inserts, arrange}
use Rattle.rules.specs.Grammar.Precedence.{factor_of, expr_of}
use Rattle.laws_grammar.specs.Grammar.Tight.{head, links, Tight}
use Rattle.rules.specs.Grammar.Trees.{constant, parens, negated, no_more, with_op}

tight_less : (n m : ℕ) (e : Expr) → n ≤ m → Tight m e → Tight n e
tight_less n m (leaf f) h t = tt
tight_less n m (node o i l r) h t = let g = t.0 in (omega arith, t.1)

insert_tight_by : (n : ℕ) (o : Op) (i : Info) (l r : Expr) (k : Link) (d : Dec (tightness o < tightness k.op)) → n ≤ tightness k.op → Tight n (node o i l r)
    → (suc (tightness o) ≤ tightness k.op → Tight (suc (tightness o)) (insert r k))
    → Tight n (insert_by d (node o i l (insert r k)) (node k.op k.info (node o i l r) (leaf k.factor)))
unfolding insert_by
insert_tight_by n o i l r k (yes h) le t ih = (t.0, (t.1.0, ih h))
insert_tight_by n o i l r k (no h) le t ih = (le, ((omega arith, t.1), tt))

pub insert_tight : (n : ℕ) (e : Expr) (k : Link) → n ≤ tightness k.op → Tight n e → Tight n (insert e k)
unfolding insert
insert_tight n (leaf f) k le t = (le, (tt, tt))
insert_tight n (node o i l r) k le t =
    insert_tight_by n o i l r k (dec_lt (tightness o) (tightness k.op)) le t (λ h. insert_tight (suc (tightness o)) r k h t.1.1)

insert_head_by : {P : Type 0} (d : Dec P) (a b : Expr) (f : Factor) → head a ≡ f → head b ≡ f → head (insert_by d a b) ≡ f
unfolding insert_by
insert_head_by (yes _) a b f p q = p
insert_head_by (no _) a b f p q = q

insert_head : (e : Expr) (k : Link) → head (insert e k) ≡ head e
unfolding insert
insert_head (leaf f) k = refl
insert_head (node o i l r) k = insert_head_by (dec_lt (tightness o) (tightness k.op)) _ _ (head l) refl refl

insert_links_by : {P : Type 0} (d : Dec P) (a b : Expr) (ks js : List Link) → links a ks ≡ js → links b ks ≡ js → links (insert_by d a b) ks ≡ js
unfolding insert_by
insert_links_by (yes _) a b ks js p q = p
insert_links_by (no _) a b ks js p q = q

insert_links : (e : Expr) (k : Link) (ks : List Link) → links (insert e k) ks ≡ links e (k ∷ ks)
unfolding insert
insert_links (leaf f) k ks = refl
insert_links (node o i l r) k ks =
    insert_links_by (dec_lt (tightness o) (tightness k.op)) _ _ ks (links (node o i l r) (k ∷ ks))
    (ap (λ x. links l (link o i (head (insert r k)) ∷ x)) (insert_links r k ks) ∙ ap (λ f. links l (link o i f ∷ links r (k ∷ ks))) (insert_head r k))
    refl

-- ARRANGED: the tree of a chain has the chain's operands and operators in their order, and is tight
inserts_tight : (e : Expr) (ks : List Link) → Tight 0 e → Tight 0 (inserts e ks)
unfolding inserts
inserts_tight e [] t = t
inserts_tight e (k ∷ ks) t = inserts_tight (insert e k) ks (insert_tight 0 e k (omega arith) t)

inserts_head : (e : Expr) (ks : List Link) → head (inserts e ks) ≡ head e
unfolding inserts
inserts_head e [] = refl
inserts_head e (k ∷ ks) = inserts_head (insert e k) ks ∙ insert_head e k

inserts_links : (e : Expr) (ks : List Link) → links (inserts e ks) [] ≡ links e ks
unfolding inserts
inserts_links e [] = refl
inserts_links e (k ∷ ks) = inserts_links (insert e k) ks ∙ insert_links e k ks

pub arranged_tight : (f : Factor) (ks : List Link) → Tight 0 (arrange f ks)
unfolding arrange
arranged_tight f ks = inserts_tight (leaf f) ks tt

pub arranged_head : (f : Factor) (ks : List Link) → head (arrange f ks) ≡ f
unfolding arrange
arranged_head f ks = inserts_head (leaf f) ks

pub arranged_links : (f : Factor) (ks : List Link) → links (arrange f ks) [] ≡ ks
unfolding arrange
arranged_links f ks = inserts_links (leaf f) ks

-- ONLY: a tight tree is the tree of its chain
insert_top_by : {P : Type 0} (d : Dec P) (a b : Expr) → ¬ P → insert_by d a b ≡ b
unfolding insert_by
insert_top_by (yes p) a b n = absurd (n p)
insert_top_by (no _) a b n = refl

insert_top : (l : Expr) (k : Link) → Tight (tightness k.op) l → insert l k ≡ node k.op k.info l (leaf k.factor)
unfolding insert
insert_top (leaf f) k t = refl
insert_top (node o i l r) k t = let h = t.0 in insert_top_by (dec_lt (tightness o) (tightness k.op)) _ _ (omega arith)

insert_deep_by : {P : Type 0} (d : Dec P) (a b : Expr) → P → insert_by d a b ≡ a
unfolding insert_by
insert_deep_by (yes _) a b p = refl
insert_deep_by (no n) a b p = absurd (n p)

insert_deep : (o : Op) (i : Info) (l r : Expr) (k : Link) → tightness o < tightness k.op → insert (node o i l r) k ≡ node o i l (insert r k)
unfolding insert
insert_deep o i l r k h = insert_deep_by (dec_lt (tightness o) (tightness k.op)) _ _ h

links_append : (e : Expr) (ks : List Link) → links e ks ≡ links e [] ++ ks
links_append (leaf f) ks = refl
links_append (node o i l r) ks =
    links_append l (link o i (head r) ∷ links r ks)
    ∙ ap (λ x. links l [] ++ link o i (head r) ∷ x) (links_append r ks)
    ∙ sym (append_assoc (links l []) (link o i (head r) ∷ links r []) ks)
    ∙ ap (λ x. x ++ ks) (sym (links_append l (link o i (head r) ∷ links r [])))

inserts_append : (e : Expr) (ks js : List Link) → inserts e (ks ++ js) ≡ inserts (inserts e ks) js
unfolding inserts
inserts_append e [] js = refl
inserts_append e (k ∷ ks) js = inserts_append (insert e k) ks js

abbrev AllTight : ℕ → List Link → Type 0
AllTight n [] = Unit {0}
AllTight n (k ∷ ks) = (n ≤ tightness k.op) × AllTight n ks

links_tight : (n m : ℕ) (e : Expr) (ks : List Link) → n ≤ m → Tight m e → AllTight n ks → AllTight n (links e ks)
links_tight n m (leaf f) ks h t a = a
links_tight n m (node o i l r) ks h t a =
    let g = t.0 in
    links_tight n (tightness o) l (link o i (head r) ∷ links r ks) (omega arith) t.1.0 (omega arith, links_tight n (suc (tightness o)) r ks (omega arith) t.1.1 a)

inserts_deep : (o : Op) (i : Info) (l e : Expr) (ks : List Link) → AllTight (suc (tightness o)) ks → inserts (node o i l e) ks ≡ node o i l (inserts e ks)
unfolding inserts
inserts_deep o i l e [] a = refl
inserts_deep o i l e (k ∷ ks) a = ap (λ x. inserts x ks) (insert_deep o i l e k a.0) ∙ inserts_deep o i l (insert e k) ks a.1

inserts_own : (n : ℕ) (e : Expr) → Tight n e → inserts (leaf (head e)) (links e []) ≡ e
unfolding inserts
inserts_own n (leaf f) t = refl
inserts_own n (node o i l r) t =
    let k = link o i (head r) in
    ap (inserts (leaf (head l))) (links_append l (k ∷ links r []))
    ∙ inserts_append (leaf (head l)) (links l []) (k ∷ links r [])
    ∙ ap (λ x. inserts x (k ∷ links r [])) (inserts_own (tightness o) l t.1.0)
    ∙ ap (λ x. inserts x (links r [])) (insert_top l k t.1.0)
    ∙ inserts_deep o i l (leaf (head r)) (links r []) (links_tight (suc (tightness o)) (suc (tightness o)) r [] (omega arith) t.1.1 tt)
    ∙ ap (node o i l) (inserts_own (suc (tightness o)) r t.1.1)

pub arranged_only : (e : Expr) → Tight 0 e → arrange (head e) (links e []) ≡ e
unfolding arrange
arranged_only e t = inserts_own 0 e t

-- examples, over four operands
module _ (a b c d : Factor) (i : Info) where
  -- a @ b + c is (a @ b) + c
  join_first : arrange a (link join i b ∷ link plus i c ∷ []) ≡ node plus i (node join i (leaf a) (leaf b)) (leaf c)
  join_first = arranged_only (node plus i (node join i (leaf a) (leaf b)) (leaf c)) (omega arith)

  -- a - b - c is (a - b) - c
  to_the_left : arrange a (link minus i b ∷ link minus i c ∷ []) ≡ node minus i (node minus i (leaf a) (leaf b)) (leaf c)
  to_the_left = arranged_only (node minus i (node minus i (leaf a) (leaf b)) (leaf c)) (omega arith)

  -- a OR b AND c EQL d is a OR (b AND (c EQL d))
  loosest_last : arrange a (link or i b ∷ link and i c ∷ link eql i d ∷ []) ≡ node or i (leaf a) (node and i (leaf b) (node eql i (leaf c) (leaf d)))
  loosest_last = arranged_only (node or i (leaf a) (node and i (leaf b) (node eql i (leaf c) (leaf d)))) (omega arith)

  -- a + b EQL c @ d is (a + b) EQL (c @ d)
  in_the_middle : arrange a (link plus i b ∷ link eql i c ∷ link join i d ∷ []) ≡ node eql i (node plus i (leaf a) (leaf b)) (node join i (leaf c) (leaf d))
  in_the_middle = arranged_only (node eql i (node plus i (leaf a) (leaf b)) (node join i (leaf c) (leaf d))) (omega arith)

-- NOT a @ b is (NOT a) @ b; (a OR b) @ c keeps its parentheses
not_first : (i : Info) → expr_of (negated i (constant i)) (with_op join i (constant i) no_more) ≡ node join i (leaf (inverse i (number i))) (leaf (number i))
unfolding expr_of factor_of arrange inserts insert
not_first i = refl

kept : (i : Info) → expr_of (parens i (constant i) (with_op or i (constant i) no_more) i) (with_op join i (constant i) no_more)
    ≡ node join i (leaf (group i (node or i (leaf (number i)) (leaf (number i))) i)) (leaf (number i))
unfolding expr_of factor_of arrange inserts insert
kept i = refl
