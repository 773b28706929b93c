-- The numbers of the instructions go up, each inside the tokens of its action; so looking a number up finds its instruction.
use Rattle.std.specs.Prelude.{ℕ, suc, ◌+◌, ◌≤◌, ◌<◌, ◌≡◌, refl, true, false, List, [], ◌∷◌, ◌++◌, length}
use Rattle.std.proofs.Common.{◌∙◌, ap, arith, length-append, eq-eqb, ne_eqb}
use Rattle.rules.specs.Grammar.Trees.{Tokens, Operand, operand_tokens, Tail, tail_tokens, Action, block, labelled, if_then, decode, repeat, leave, restart, activate, stop, no_op, transfer, action_tokens, Members, end, also, next, members_tokens, Alternatives, counted, selected, alternatives_tokens, Counted, counted_end, counted_more, counted_tokens, Selected, select, otherwise, selected_tokens, SelectedMore, selected_end, selected_more, selected_more_tokens}
use Rattle.rules.specs.Text.Tokens.{tk, Arrow, Becomes, BEGIN, END}
use Rattle.laws_grammar.specs.Grammar.Positions.{Writes, operand_writes, tail_writes, selector_writes, action_writes}
use Rattle.laws_orders.specs.Cited.Flat.{Link, exit, Instr, go_i, Labels}
use Rattle.laws_code.specs.Cited.Code.{Numbered, num, size, action_size, expr_size, selector_size, behind_test, code_at, members_code, alternatives_code, counted_code, selected_code, more_code}
use Rattle.laws_code.specs.Cited.Numbers.{fetch}

-- what is written in front of other tokens adds its own number to theirs
pub size_before : {f : Tokens → Tokens} → Writes f → (ts : Tokens) → length (f ts) ≡ size f + length ts
size_before {f} w ts = ap length (w.grows [] ts) ∙ length-append (f []) ts

expression_before : (o : Operand) (t : Tail) (ts : Tokens) → length (operand_tokens o (tail_tokens t ts)) ≡ expr_size o t + length ts
expression_before o t ts =
    let f = size_before (operand_writes o) (tail_tokens t ts) in
    let g = size_before (operand_writes o) (tail_tokens t []) in
    omega (arith, f, g, size_before (tail_writes t) ts, size_before (tail_writes t) [])

-- the numbers go up, from i on and below j
abbrev Ascending : ℕ → ℕ → List Numbered → Type 0
Ascending i j [] = i ≤ j
Ascending i j (x ∷ xs) = (i ≤ x.number) × Ascending (suc x.number) j xs

within : (i i' j j' : ℕ) (xs : List Numbered) → Ascending i j xs → i' ≤ i → j ≤ j' → Ascending i' j' xs
within i i' j j' [] p h k = omega arith
within i i' j j' (x ∷ xs) p h k = (omega (arith, p.0), within (suc x.number) (suc x.number) j j' xs p.1 (omega arith) k)

ascending_ends : (i j : ℕ) (xs : List Numbered) → Ascending i j xs → i ≤ j
ascending_ends i j [] p = p
ascending_ends i j (x ∷ xs) p = omega (arith, p.0, ascending_ends (suc x.number) j xs p.1)

one_by_one : (i j k : ℕ) (xs ys : List Numbered) → Ascending i j xs → Ascending j k ys → Ascending i k (xs ++ ys)
one_by_one i j k [] ys p q = within j i k k ys q p (omega arith)
one_by_one i j k (x ∷ xs) ys p q = (p.0, one_by_one (suc x.number) j k xs ys p.1 q)

pub record Ascends (i j : ℕ) (xs : List Numbered) : Type 0 where
  goes_up : Ascending i j xs

pub ascends_within : {i i' j j' : ℕ} {xs : List Numbered} → Ascends i j xs → i' ≤ i → j ≤ j' → Ascends i' j' xs
ascends_within {i} {i'} {j} {j'} {xs} p h k = record { goes_up = within i i' j j' xs p.goes_up h k }

pub ascends_join : {i j k : ℕ} {xs ys : List Numbered} → Ascends i j xs → Ascends j k ys → Ascends i k (xs ++ ys)
ascends_join {i} {j} {k} {xs} {ys} p q = record { goes_up = one_by_one i j k xs ys p.goes_up q.goes_up }

pub ascends_none : (i j : ℕ) → i ≤ j → Ascends i j []
ascends_none i j h = record { goes_up = h }

before : (i : ℕ) (x : Instr) {j : ℕ} {xs : List Numbered} → Ascends (suc i) j xs → Ascends i j (num i x ∷ xs)
before i x p = record { goes_up = (omega arith, p.goes_up) }

lone : (i j : ℕ) (x : Instr) → i < j → Ascends i j (num i x ∷ [])
lone i j x h = before i x (ascends_none (suc i) j h)

-- an action behind one token, and what follows it
follows :
    (i : ℕ) (a : Action) (ts : Tokens) {xs ys : List Numbered} → Ascends (suc i) (suc i + action_size a) xs
    → Ascends (suc i + action_size a) (suc i + action_size a + length ts) ys → Ascends i (i + suc (length (action_tokens a ts))) (xs ++ ys)
follows i a ts p q = ascends_within (ascends_join p q) (omega arith) (omega (arith, size_before (action_writes a) ts))

mutual
  unfolding code_at members_code alternatives_code counted_code selected_code more_code

  pub code_ascends : (a : Action) (ρ : Labels) (i : ℕ) (k : Link) → Ascends i (i + action_size a) (code_at ρ i k a)
  code_ascends (block b a m) ρ i k =
      let j = suc i + action_size a in follows i a (members_tokens m []) (code_ascends a _ (suc i) _) (members_ascend m _ j _)
  code_ascends (labelled n b a) ρ i k =
      ascends_within (code_ascends a _ (suc (suc i)) _) (omega arith) (omega arith)
  code_ascends (if_then x o t w a) ρ i k =
      before i _
      (ascends_within (code_ascends a _ (behind_test i o t) _) (omega arith) (omega (arith, expression_before o t (tk Arrow w ∷ action_tokens a []))))
  code_ascends (decode x o t w b v) ρ i k =
      before i _
      (ascends_within (alternatives_ascend v _ (suc (behind_test i o t)) _)
      (omega arith) (omega (arith, expression_before o t (tk Arrow w ∷ tk BEGIN b ∷ alternatives_tokens v []))))
  code_ascends (repeat x a) ρ i k = before i _ (ascends_within (code_ascends a _ (suc i) _) (omega arith) (omega arith))
  code_ascends (leave x n) ρ i k = lone i _ _ (omega arith)
  code_ascends (restart x n) ρ i k = lone i _ _ (omega arith)
  code_ascends (activate n l r) ρ i k = lone i _ _ (omega arith)
  code_ascends (stop x l r) ρ i k = lone i _ _ (omega arith)
  code_ascends (no_op x l r) ρ i k = lone i _ _ (omega arith)
  code_ascends (transfer n s b j e o t) ρ i k = lone i _ _ (omega arith)

  members_ascend : (m : Members) (ρ : Labels) (i : ℕ) (k : Link) → Ascends i (i + size (members_tokens m)) (members_code ρ i k m)
  members_ascend (end x) ρ i k = ascends_none i _ (omega arith)
  members_ascend (also x a m) ρ i k =
      let j = suc i + action_size a in follows i a (members_tokens m []) (code_ascends a _ (suc i) _) (members_ascend m _ j _)
  members_ascend (next x a m) ρ i k =
      let j = suc i + action_size a in follows i a (members_tokens m []) (code_ascends a _ (suc i) _) (members_ascend m _ j _)

  alternatives_ascend : (v : Alternatives) (ρ : Labels) (i : ℕ) (k : Link) → Ascends i (i + size (alternatives_tokens v)) (alternatives_code ρ i k v)
  alternatives_ascend (counted a c) ρ i k =
      ascends_within (ascends_join (code_ascends a _ i _) (counted_ascend c _ (i + action_size a) _))
      (omega arith) (omega (arith, size_before (action_writes a) (counted_tokens c [])))
  alternatives_ascend (selected s) ρ i k = selected_ascend s ρ i k

  counted_ascend : (c : Counted) (ρ : Labels) (i : ℕ) (k : Link) → Ascends i (i + size (counted_tokens c)) (counted_code ρ i k c)
  counted_ascend (counted_end x) ρ i k = ascends_none i _ (omega arith)
  counted_ascend (counted_more x a c) ρ i k =
      follows i a (counted_tokens c []) (code_ascends a _ (suc i) _) (counted_ascend c _ (suc i + action_size a) _)

  selected_ascend : (s : Selected) (ρ : Labels) (i : ℕ) (k : Link) → Ascends i (i + size (selected_tokens s)) (selected_code ρ i k s)
  selected_ascend (select s b a m) ρ i k =
      let j = suc (i + selector_size s) in
      let f = size_before (selector_writes s) (tk Becomes b ∷ action_tokens a (selected_more_tokens m [])) in
      ascends_within (ascends_join (code_ascends a _ j _) (more_ascend m _ (j + action_size a) _)) (omega arith)
      (omega (arith, f, size_before (action_writes a) (selected_more_tokens m [])))
  selected_ascend (otherwise x b a e) ρ i k =
      ascends_within (code_ascends a _ (suc (suc i)) _) (omega arith) (omega (arith, size_before (action_writes a) (tk END e ∷ [])))

  more_ascend : (m : SelectedMore) (ρ : Labels) (i : ℕ) (k : Link) → Ascends i (i + size (selected_more_tokens m)) (more_code ρ i k m)
  more_ascend (selected_end x) ρ i k = ascends_none i _ (omega arith)
  more_ascend (selected_more x s) ρ i k = ascends_within (selected_ascend s _ (suc i) _) (omega arith) (omega arith)

-- a code has some instructions at their numbers
abbrev pub Has : (ℕ → Instr) → List Numbered → Type 0
Has f [] = Unit {0}
Has f (x ∷ xs) = (f x.number ≡ x.instr) × Has f xs

pub has_left : (f : ℕ → Instr) (xs ys : List Numbered) → Has f (xs ++ ys) → Has f xs
has_left f [] ys h = tt
has_left f (x ∷ xs) ys h = (h.0, has_left f xs ys h.1)

pub has_right : (f : ℕ → Instr) (xs ys : List Numbered) → Has f (xs ++ ys) → Has f ys
has_right f [] ys h = h
has_right f (x ∷ xs) ys h = has_right f xs ys h.1

fetch_other : (x : Numbered) (xs : List Numbered) (n : ℕ) → (x.number ≡ n → ⊥) → fetch (x ∷ xs) n ≡ fetch xs n
unfolding fetch
fetch_other x xs n h = ap (λ b. elim b [ true ↦ x.instr | false ↦ fetch xs n ]) (ne_eqb x.number n h)

has_behind :
    (x : Numbered) (xs : List Numbered) (i j : ℕ) (ys : List Numbered) → x.number < i → Ascending i j ys
    → Has (fetch xs) ys → Has (fetch (x ∷ xs)) ys
has_behind x xs i j [] h p q = tt
has_behind x xs i j (y ∷ ys) h p q =
    let l = p.0 in
    (fetch_other x xs y.number (λ e. omega arith) ∙ q.0, has_behind x xs (suc y.number) j ys (omega arith) p.1 q.1)

has_all : (i j : ℕ) (xs : List Numbered) → Ascending i j xs → Has (fetch xs) xs
unfolding fetch
has_all i j [] p = tt
has_all i j (x ∷ xs) p = (
  ap (λ b. elim b [ true ↦ x.instr | false ↦ fetch xs x.number ]) (eq-eqb x.number x.number refl),
  has_behind x xs (suc x.number) j xs (omega arith) p.1 (has_all (suc x.number) j xs p.1),
)

past_all : (i j : ℕ) (xs : List Numbered) (n : ℕ) → Ascending i j xs → j ≤ n → fetch xs n ≡ go_i exit
unfolding fetch
past_all i j [] n p h = refl
past_all i j (x ∷ xs) n p h =
    let l = ascending_ends (suc x.number) j xs p.1 in fetch_other x xs n (λ e. omega arith) ∙ past_all (suc x.number) j xs n p.1 h

-- each number finds its instruction
pub fetched : {i j : ℕ} {xs : List Numbered} → Ascends i j xs → Has (fetch xs) xs
fetched {i} {j} {xs} p = has_all i j xs p.goes_up

-- and a number past all of them finds none
pub fetched_past : {i j : ℕ} {xs : List Numbered} (n : ℕ) → Ascends i j xs → j ≤ n → fetch xs n ≡ go_i exit
fetched_past {i} {j} {xs} n p h = past_all i j xs n p.goes_up h
