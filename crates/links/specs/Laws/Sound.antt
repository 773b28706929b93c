-- Each instruction of an action whose links are written stands in the table as the runner reads it, and leads to instructions that are there.
-- Assumes nothing.
use Rattle.std.specs.Prelude.{ℕ, suc, ◌+◌, ◌<◌, ◌≤◌, ◌≡◌, Bool, not, cond, List, [], ◌∷◌, ◌++◌, ◌⊎◌, length}
use Rattle.std.proofs.Math.Path.{refl, ap}
use Rattle.std.proofs.Common.{sym, ◌∙◌, subst, inl, inr, arith, add-one}
use Rattle.std.proofs.Math.Bool.{true, false}
use Rattle.std.proofs.lemmas.Bool.{false≢true}
use Rattle.std.proofs.Math.Option.{Option, none, some}
use Rattle.std.proofs.Math.ListN.{drop, get_elem?}
use Rattle.cells.specs.Cells.{cell}
use Rattle.rules.specs.Text.Tokens.{Kind, kind_no, Info, Token, tk, Op, op_kind, join, plus, minus, eql, neq, lss, leq, gtr, geq, and, eqv, or, xor, Name, Const, Masked, LPar, LBra, Less, Comma, At, Equals, Arrow, BEGIN, END, IF, DECODE, OTHERWISE, REPEAT, LEAVE, RESTART, STOP, NO-OP}
use Rattle.rules.specs.Text.Scan.{same_bytes}
use Rattle.rules.specs.Grammar.Trees.{Tokens, Bits, all_bits, bits, bits_tokens, Subscript, no_subscript, subscript, subscript_tokens, Joined, alone, joined, joined_tokens, Operand, operand_tokens, Tail, tail_tokens, Action, block, labelled, if_then, decode, repeat, leave, restart, activate, stop, no_op, transfer, action_tokens, Members, end, also, next, members_tokens, Alternatives, counted, selected, alternatives_tokens, Counted, counted_end, counted_more, counted_tokens, Selected, select, otherwise, selected_tokens, SelectedMore, selected_end, selected_more, selected_more_tokens}
use Rattle.rules.specs.Grammar.Precedence.{expr_of}
use Rattle.rules.specs.Selectors.{Case, numbered, listed, otherwise as any_value, selector_items}
use Rattle.rules.specs.Declarations.{Word, Declared, Table, number_of, reach}
use Rattle.rules.specs.Faults.Fault.{Fault, fault, when}
use Rattle.rules.specs.Faults.Declared.{declared_at}
use Rattle.rules.specs.Limits.{most_declarations, deepest}
use Rattle.rules.specs.Faults.Bodies.{judge, faults_in, judge_destination, judge_joined, stored_twice, activated, alternatives_faults, action_faults, members_faults, inside_faults, inside_counted, inside_selected, inside_more}
use Rattle.rules.specs.Steps.Actions.{access, joined_accesses}
use Rattle.rules.specs.Whole.Sets.{member, owner_in}
use Rattle.laws_grammar.specs.Grammar.Positions.{action_writes, selector_writes}
use Rattle.laws_grammar.specs.Cited.Heads.{head_kind}
use Rattle.laws_grammar.specs.Grammar.Heads.{action_head}
use Rattle.laws_grammar.specs.Cited.Nesting.{operand_nest, tail_nest, action_nest, members_nest, alternatives_nest, counted_nest, selected_nest, selected_more_nest}
use Rattle.laws_orders.proofs.Orders.Tests.{impossible}
use Rattle.laws_orders.specs.Cited.Flat.{Link, at, exit, Entries, no_entry, entry, Instr, go_i, Code, Labels, outer, bind, leave_to, restart_to}
use Rattle.laws_accepted.proofs.Accepted.Faultless.{both_empty}
use Rattle.laws_code.specs.Cited.Code.{Numbered, action_size, expr_size, selector_size, first_of, behind, target, behind_test, entries, counted_entries, selected_entries, more_entries, code_at, members_code, alternatives_code, counted_code, selected_code, more_code}
use Rattle.laws_code.proofs.Links.Held.{label_names}
use Rattle.records.specs.Holds.{token_at, Holds, inside_cell, link_cell}
use Rattle.table.specs.Laws.Positions.{here}
use Rattle.table.specs.Meaning.{meaning_by, meaning_of}
use Rattle.promise.specs.Instructions.{link_no, ExpressionStands, DestinationStands, CaseStands, Counted as CountedBy, EntriesStand, Jump, a_repeat, a_leave, a_restart, a_no_op, InstructionHolds}
use Rattle.promise.specs.Reached.{EntryAt, Leads}
use Rattle.table.specs.Scans.{no as kind_of, separates}
use Rattle.ways.specs.Linked.{Linked, MembersLinked, AlternativesLinked, CountedLinked, SelectedLinked, MoreLinked, Separates, destination_size}
use Rattle.ways.specs.Laws.Prefixes.{expression_writes}
use Rattle.links.specs.Laws.Leaves.{destination_writes}
use Rattle.ways.specs.Turns.{selects}
use Rattle.ways.specs.Laws.Turns.{action_kind}
use Rattle.links.specs.Laws.Members.{members_tokens_lem, members_separate}
use Rattle.links.specs.Laws.Layout.{drop_past}

-- each of some instructions
abbrev pub Each : (Numbered → Type 0) → List Numbered → Type 0
Each P [] = Unit {0}
Each P (x ∷ xs) = P x × Each P xs

pub each_left : (P : Numbered → Type 0) (xs ys : List Numbered) → Each P (xs ++ ys) → Each P xs
each_left P [] ys h = tt
each_left P (x ∷ xs) ys h = (h.0, each_left P xs ys h.1)

pub each_right : (P : Numbered → Type 0) (xs ys : List Numbered) → Each P (xs ++ ys) → Each P ys
each_right P [] ys h = h
each_right P (x ∷ xs) ys h = each_right P xs ys h.1

pub each_join : (P : Numbered → Type 0) (xs ys : List Numbered) → Each P xs → Each P ys → Each P (xs ++ ys)
each_join P [] ys p q = q
each_join P (x ∷ xs) ys p q = (p.0, each_join P xs ys p.1 q)

-- a token that no expression goes on with
record Closes (t : Token) : Type 0 where
  no_operator : (o : Op) → t.kind ≡ op_kind o → ⊥
  no_subscript : t.kind ≡ LBra → ⊥
  no_bits : t.kind ≡ Less → ⊥

operators_apart : (o : Op) → (separates (kind_no (op_kind o)) ≡ false) × (14 < kind_no (op_kind o))
unfolding separates member
operators_apart join = (refl, omega arith)
operators_apart plus = (refl, omega arith)
operators_apart minus = (refl, omega arith)
operators_apart eql = (refl, omega arith)
operators_apart neq = (refl, omega arith)
operators_apart lss = (refl, omega arith)
operators_apart leq = (refl, omega arith)
operators_apart gtr = (refl, omega arith)
operators_apart geq = (refl, omega arith)
operators_apart and = (refl, omega arith)
operators_apart eqv = (refl, omega arith)
operators_apart or = (refl, omega arith)
operators_apart xor = (refl, omega arith)

separator_closes : (t : Token) → separates (kind_of t) ≡ true → Closes t
unfolding separates member
separator_closes t e = record {
  no_operator = λ o q. false≢true (sym (operators_apart o).0 ∙ (ap (λ k. separates (kind_no k)) (sym q) ∙ e));
  no_subscript = λ q. false≢true (ap (λ k. separates (kind_no k)) (sym q) ∙ e);
  no_bits = λ q. false≢true (ap (λ k. separates (kind_no k)) (sym q) ∙ e);
}

arrow_closes : (w : Info) → Closes (tk Arrow w)
arrow_closes w = record {
  no_operator = λ o q. omega (arith, ap kind_no q, (operators_apart o).1);
  no_subscript = λ q. omega (arith, ap kind_no q);
  no_bits = λ q. omega (arith, ap kind_no q);
}

-- no selector begins like an action
not_selector : (a : Action) (k : Kind) → selects (kind_no k) ≡ true → head_kind a ≡ k → ⊥
not_selector a k e q = false≢true (sym (action_kind a) ∙ (ap (λ l. selects (kind_no l)) q ∙ e))

-- what follows an alternative separates
end_separates : separates 20 ≡ true
unfolding separates member
end_separates = refl

comma_separates : separates 9 ≡ true
unfolding separates member
comma_separates = refl

counted_front : (c : Counted) (ts : Tokens) → (t : Token) × (rest : Tokens) × (counted_tokens c ts ≡ t ∷ rest) × (separates (kind_of t) ≡ true)
counted_front (counted_end x) ts = (tk END x, _, refl, end_separates)
counted_front (counted_more x a c) ts = (tk Comma x, _, refl, comma_separates)

more_front : (m : SelectedMore) (ts : Tokens) → (t : Token) × (rest : Tokens) × (selected_more_tokens m ts ≡ t ∷ rest) × (separates (kind_of t) ≡ true)
more_front (selected_end x) ts = (tk END x, _, refl, end_separates)
more_front (selected_more x s) ts = (tk Comma x, _, refl, comma_separates)

module _ (text records values : List ℕ) (ts : Tokens) (holds : Holds text records values ts) (decls : List ℕ) (out : Word) (ds : Table) (C : Code) (There : ℕ → Type 0) where
  pub record Sound (n : ℕ) : Type 0 where
    pub past : 0 < n
    pub within : n < length ts
    pub instruction : InstructionHolds records decls ts out ds C n (C.instr n)
    pub leads : (g : ℕ) → Leads C (C.instr n) g → There g

  -- what an activation of p finds: the body's declaration, whose name leads to its first instruction
  pub record Called (p : Word) (j : ℕ) : Type 0 where
    pub few : j < most_declarations
    pub within : cell 2 decls j < length ts
    pub begins : link_cell records (cell 2 decls j) ≡ C.first p
    pub there : There (C.first p)

  abbrev pub LinkThere : Link → Type 0
  LinkThere (at g) = There g
  LinkThere exit = Unit {0}

  abbrev pub LabelsThere : Labels → Type 0
  LabelsThere outer = Unit {0}
  LabelsThere (bind l f k ρ) = There f × LinkThere k × LabelsThere ρ

  abbrev pub Present : Numbered → Type 0
  Present x = (C.instr x.number ≡ x.instr) × There x.number

  abbrev pub SoundHere : Numbered → Type 0
  SoundHere x = Sound x.number

  link_to : (k : Link) (g : ℕ) → LinkThere k → k ≡ at g → There g
  link_to (at f) g t e = let q : f ≡ g = cc in subst There q t
  link_to exit g t e = impossible (cc)

  leave_there : (ρ : Labels) (w : Word) → LabelsThere ρ → LinkThere (target (leave_to ρ w))
  unfolding leave_to
  leave_there outer w t = tt
  leave_there (bind l f k ρ) w t = by (same_bytes w l) (leave_there ρ w t.2)
    where
      by : (b : Bool) → LinkThere (target (leave_to ρ w)) → LinkThere (target (cond b (some k) (leave_to ρ w)))
      by true h = t.1
      by false h = h

  restart_there : (ρ : Labels) (w : Word) → LabelsThere ρ → LinkThere (target (restart_to ρ w))
  unfolding restart_to
  restart_there outer w t = tt
  restart_there (bind l f k ρ) w t = by (same_bytes w l) (restart_there ρ w t.2)
    where
      by : (b : Bool) → LinkThere (target (restart_to ρ w)) → LinkThere (target (cond b (some (at f)) (restart_to ρ w)))
      by true h = t.0
      by false h = h

  pub first_there : (a : Action) (ρ : Labels) (i : ℕ) (k : Link) → Each Present (code_at ρ i k a) → There (first_of i a)
  unfolding code_at first_of
  first_there (block b a m) ρ i k p =
      first_there a ρ (suc i) _ (each_left Present (code_at ρ (suc i) (behind (suc i + action_size a) k m) a) (members_code ρ (suc i + action_size a) k m) p)
  first_there (labelled n b a) ρ i k p = first_there a _ (suc (suc i)) k p
  first_there (if_then x o t w a) ρ i k p = p.0.1
  first_there (decode x o t w b v) ρ i k p = p.0.1
  first_there (repeat x a) ρ i k p = p.0.1
  first_there (leave x n) ρ i k p = p.0.1
  first_there (restart x n) ρ i k p = p.0.1
  first_there (activate n l r) ρ i k p = p.0.1
  first_there (stop x l r) ρ i k p = p.0.1
  first_there (no_op x l r) ρ i k p = p.0.1
  first_there (transfer n s b j e o t) ρ i k p = p.0.1

  behind_there : (m : Members) (ρ : Labels) (i : ℕ) (k : Link) → LinkThere k → Each Present (members_code ρ i k m) → LinkThere (behind i k m)
  unfolding behind members_code
  behind_there (end x) ρ i k t p = t
  behind_there (also x a m) ρ i k t p =
      first_there a ρ (suc i) _ (each_left Present (code_at ρ (suc i) (behind (suc i + action_size a) k m) a) (members_code ρ (suc i + action_size a) k m) p)
  behind_there (next x a m) ρ i k t p =
      first_there a ρ (suc i) _ (each_left Present (code_at ρ (suc i) (behind (suc i + action_size a) k m) a) (members_code ρ (suc i + action_size a) k m) p)

  -- one instruction
  sound_is : (n : ℕ) (x : Instr) → C.instr n ≡ x → 0 < n → n < length ts → InstructionHolds records decls ts out ds C n x → ((g : ℕ) → Leads C x g → There g)
      → Sound n
  sound_is n x e p w i l = record {
    past = p;
    within = w;
    instruction = subst (InstructionHolds records decls ts out ds C n) (sym e) i;
    leads = λ g z. l g (subst (λ (y : Instr). Leads C y g) e z);
  }

  kind_of_token : (i : ℕ) (k : Kind) (x : Info) (rest : Tokens) → drop i ts ≡ tk k x ∷ rest → (i < length ts) × ((token_at ts i).kind ≡ k)
  kind_of_token i k x rest e = let h = here ts i _ _ e in (h.within, ap (λ (t : Token). t.kind) h.token)

  next_drop : (i : ℕ) (t : Token) (rest : Tokens) → drop i ts ≡ t ∷ rest → drop (suc i) ts ≡ rest
  next_drop i t rest e = ap (λ j. drop j ts) (sym (add-one i)) ∙ (here ts i t rest e).behind

  expression_stands : (o : Operand) (t : Tail) (i : ℕ) (x : Token) (rest : Tokens) → drop i ts ≡ operand_tokens o (tail_tokens t (x ∷ rest)) → Closes x
      → faults_in out ds o t ≡ []
      → operand_nest o ≤ deepest → tail_nest t ≤ deepest → ExpressionStands ts out ds i (i + expr_size o t) (expr_of o t)
  unfolding faults_in
  expression_stands o t i x rest e c f p q = record {
    operand = o;
    tail = t;
    rest = x ∷ rest;
    is = refl;
    reads = e;
    behind = drop_past (expression_writes o t) ts i (x ∷ rest) e;
    ends = record { next = x; more = rest; is = refl; no_operator = c.no_operator; no_subscript = c.no_subscript; no_bits = c.no_bits };
    sound = f;
    operand_shallow = p;
    tail_shallow = q;
  }

  -- an alternative behind its separator
  plain_case : (a : Action) (p n : ℕ) (rest : Tokens) → drop (suc p) ts ≡ action_tokens a rest → CaseStands ts (p + 1) (numbered n)
  unfolding selects member
  plain_case a p n rest e =
      let h = here ts (p + 1) _ _ (ap (λ j. drop j ts) (add-one p) ∙ (e ∙ action_head a rest)) in
      let k : (token_at ts (p + 1)).kind ≡ head_kind a = ap (λ (t : Token). t.kind) h.token in (
        (λ z. not_selector a Const refl (sym k ∙ z)),
        (λ z. not_selector a Masked refl (sym k ∙ z)),
        (λ z. not_selector a LBra refl (sym k ∙ z)),
        (λ z. not_selector a OTHERWISE refl (sym k ∙ z)),
      )

  entry_stands : (p : ℕ) (t : Token) (rest : Tokens) (c : Case) (g e : ℕ) (more : Entries) → drop p ts ≡ t ∷ rest → (t.kind ≡ END → ⊥) → CaseStands ts (p + 1) c
      → Separates records out ds p g e → p < e → EntriesStand records ts e more → EntriesStand records ts p (entry c g more)
  entry_stands p t rest c g e more r n cs s l es =
      let h = here ts p t rest r in
      let past = subst (λ x. p < x) (sym s.1) l in
      let others = subst (λ x. EntriesStand records ts x more) (sym s.1) es in
      (h.within, ((λ z. n (sym (ap (λ (t : Token). t.kind) h.token) ∙ z)), (cs, (s.0, (past, others)))))

  comma_kind : Comma ≡ END → ⊥
  comma_kind z = omega (arith, ap kind_no z)

  counted_stand : (c : Counted) (ρ : Labels) (n p : ℕ) (k : Link) (rest : Tokens) → drop p ts ≡ counted_tokens c rest → CountedLinked records out ds ρ p k c
      → EntriesStand records ts p (counted_entries n p c)
  unfolding counted_entries
  counted_stand (counted_end x) ρ n p k rest e l = (kind_of_token p END x rest e).1
  counted_stand (counted_more x a c) ρ n p k rest e l =
      let f = next_drop p _ _ e in
      entry_stands p _ _ (numbered n) (first_of (suc p) a) (suc p + action_size a) (counted_entries (suc n) (suc p + action_size a) c) e comma_kind
      (plain_case a p n _ f) l.0 (omega arith)
      (counted_stand c ρ (suc n) (suc p + action_size a) k rest (drop_past (action_writes a) ts (suc p) _ f) l.2)

  mutual
    unfolding selected_entries more_entries

    selected_stand : (s : Selected) (ρ : Labels) (p : ℕ) (k : Link) (t : Token) (rest : Tokens) → drop p ts ≡ t ∷ selected_tokens s rest → (t.kind ≡ END → ⊥)
        → SelectedLinked records out ds ρ p k s → EntriesStand records ts p (selected_entries (suc p) s)
    selected_stand (select s b a m) ρ p k t rest e n l =
        let f = next_drop p _ _ e in
        let g = next_drop (suc p + selector_size s) _ _ (drop_past (selector_writes s) ts (suc p) _ f) in
        let j = suc (suc p + selector_size s) in
        entry_stands p t _ (listed (selector_items s)) (first_of j a) (j + action_size a) (more_entries (j + action_size a) m) e n
        (s, b, _, refl, ap (λ j. drop j ts) (add-one p) ∙ f) l.0 (omega arith)
        (more_stand m ρ (j + action_size a) k rest (drop_past (action_writes a) ts j _ g) l.2)
    selected_stand (otherwise x b a y) ρ p k t rest e n l =
        let f = next_drop p _ _ e in
        let g = next_drop (suc (suc p)) _ _ (next_drop (suc p) _ _ f) in
        let j = suc (suc (suc p)) in
        entry_stands p t _ any_value (first_of j a) (j + action_size a) no_entry e n
        (subst (λ j. (token_at ts j).kind ≡ OTHERWISE) (sym (add-one p)) (kind_of_token (suc p) OTHERWISE x _ f).1) l.0 (omega arith)
        (kind_of_token (j + action_size a) END y rest (drop_past (action_writes a) ts j _ g)).1

    more_stand : (m : SelectedMore) (ρ : Labels) (p : ℕ) (k : Link) (rest : Tokens) → drop p ts ≡ selected_more_tokens m rest → MoreLinked records out ds ρ p k m
        → EntriesStand records ts p (more_entries p m)
    more_stand (selected_end x) ρ p k rest e l = (kind_of_token p END x rest e).1
    more_stand (selected_more x s) ρ p k rest e l = selected_stand s ρ p k _ rest e comma_kind l

  alternatives_stand : (v : Alternatives) (ρ : Labels) (p : ℕ) (k : Link) (t : Token) (rest : Tokens) → drop p ts ≡ t ∷ alternatives_tokens v rest
      → (t.kind ≡ END → ⊥)
      → AlternativesLinked records out ds ρ p k v → EntriesStand records ts p (entries (suc p) v)
  unfolding entries
  alternatives_stand (counted a c) ρ p k t rest e n l =
      let f = next_drop p _ _ e in
      entry_stands p t _ (numbered 0) (first_of (suc p) a) (suc p + action_size a) (counted_entries 1 (suc p + action_size a) c) e n (plain_case a p 0 _ f) l.0 (omega arith)
      (counted_stand c ρ 1 (suc p + action_size a) k rest (drop_past (action_writes a) ts (suc p) _ f) l.2)
  alternatives_stand (selected s) ρ p k t rest e n l = selected_stand s ρ p k t rest e n l

  -- they are numbered by counting
  counted_counted : (c : Counted) (n i : ℕ) → CountedBy n (counted_entries n i c)
  unfolding counted_entries
  counted_counted (counted_end x) n i = tt
  counted_counted (counted_more x a c) n i = (refl, counted_counted c (suc n) (suc i + action_size a))

  mutual
    unfolding selected_entries more_entries

    selected_counted : (s : Selected) (n i : ℕ) → CountedBy n (selected_entries i s)
    selected_counted (select s b a m) n i = (tt, more_counted m (suc n) (suc (i + selector_size s) + action_size a))
    selected_counted (otherwise x b a e) n i = (tt, tt)

    more_counted : (m : SelectedMore) (n i : ℕ) → CountedBy n (more_entries i m)
    more_counted (selected_end x) n i = tt
    more_counted (selected_more x s) n i = selected_counted s n (suc i)

  alternatives_counted : (v : Alternatives) (i : ℕ) → CountedBy 0 (entries i v)
  unfolding entries
  alternatives_counted (counted a c) i = (refl, counted_counted c 1 (i + action_size a))
  alternatives_counted (selected s) i = selected_counted s 0 i

  -- and lead into the code
  either : (g f : ℕ) (t : Entries) → There f → (EntryAt t g → There g) → (g ≡ f) ⊎ EntryAt t g → There g
  either g f t a b (inl q) = subst There (sym q) a
  either g f t a b (inr q) = b q

  counted_enter : (c : Counted) (ρ : Labels) (n i : ℕ) (k : Link) (g : ℕ) → Each Present (counted_code ρ i k c) → EntryAt (counted_entries n i c) g → There g
  unfolding counted_entries counted_code
  counted_enter (counted_end x) ρ n i k g p z = absurd z
  counted_enter (counted_more x a c) ρ n i k g p z =
      let l = each_left Present (code_at ρ (suc i) k a) (counted_code ρ (suc i + action_size a) k c) p in
      let r = each_right Present (code_at ρ (suc i) k a) (counted_code ρ (suc i + action_size a) k c) p in
      either g (first_of (suc i) a) (counted_entries (suc n) (suc i + action_size a) c) (first_there a ρ (suc i) k l)
      (λ y. counted_enter c ρ (suc n) (suc i + action_size a) k g r y) z

  mutual
    unfolding selected_entries more_entries selected_code more_code

    selected_enter : (s : Selected) (ρ : Labels) (i : ℕ) (k : Link) (g : ℕ) → Each Present (selected_code ρ i k s) → EntryAt (selected_entries i s) g → There g
    selected_enter (select s b a m) ρ i k g p z =
        let j = suc (i + selector_size s) in
        let l = each_left Present (code_at ρ j k a) (more_code ρ (j + action_size a) k m) p in
        let r = each_right Present (code_at ρ j k a) (more_code ρ (j + action_size a) k m) p in
        either g (first_of j a) (more_entries (j + action_size a) m) (first_there a ρ j k l) (λ y. more_enter m ρ (j + action_size a) k g r y) z
    selected_enter (otherwise x b a e) ρ i k g p z = either g (first_of (suc (suc i)) a) no_entry (first_there a ρ (suc (suc i)) k p) (λ y. absurd y) z

    more_enter : (m : SelectedMore) (ρ : Labels) (i : ℕ) (k : Link) (g : ℕ) → Each Present (more_code ρ i k m) → EntryAt (more_entries i m) g → There g
    more_enter (selected_end x) ρ i k g p z = absurd z
    more_enter (selected_more x s) ρ i k g p z = selected_enter s ρ (suc i) k g p z

  alternatives_enter : (v : Alternatives) (ρ : Labels) (i : ℕ) (k : Link) (g : ℕ) → Each Present (alternatives_code ρ i k v) → EntryAt (entries i v) g → There g
  unfolding entries alternatives_code
  alternatives_enter (counted a c) ρ i k g p z =
      let l = each_left Present (code_at ρ i k a) (counted_code ρ (i + action_size a) k c) p in
      let r = each_right Present (code_at ρ i k a) (counted_code ρ (i + action_size a) k c) p in
      either g (first_of i a) (counted_entries 1 (i + action_size a) c) (first_there a ρ i k l) (λ y. counted_enter c ρ 1 (i + action_size a) k g r y) z
  alternatives_enter (selected s) ρ i k g p z = selected_enter s ρ i k g p z

  -- activations
  module _ (called : (p : Word) (j : ℕ) (d : Declared) (a : Action) → number_of ds p ≡ some j → get_elem? ds j ≡ some d → d.body ≡ some a → Called p j) where
    unknown_faults : {A : Type 0} (b : Bool) (p : ℕ) → (when (not b) 40 p ++ when b 41 p) ≡ [] → A
    unknown_faults true p e = impossible (cc)
    unknown_faults false p e = impossible (cc)

    call_found : (n : Info) → activated out ds n (declared_at ds (number_of ds n.word)) ≡ [] → (j : ℕ) × (number_of ds n.word ≡ some j) × Called n.word j
    call_found n f = by (number_of ds n.word) refl f
      where
        own : (j : ℕ) (d : Declared) (o : Option Action) → number_of ds n.word ≡ some j → get_elem? ds j ≡ some d → d.body ≡ o
            → ◌≡◌ {A = List Fault} (elim o [ none ↦ fault 41 n.place ∷ [] | some a ↦ [] ]) [] → (j : ℕ) × (number_of ds n.word ≡ some j) × Called n.word j
        own j d none e q r z = impossible (cc)
        own j d (some a) e q r z = (j, e, called n.word j d a e q r)

        there : (j : ℕ) (o : Option Declared) → number_of ds n.word ≡ some j → get_elem? ds j ≡ o → activated out ds n o ≡ []
            → (j : ℕ) × (number_of ds n.word ≡ some j) × Called n.word j
        there j none e q z = unknown_faults (same_bytes out n.word) n.place z
        there j (some d) e q z = own j d d.body e q refl z

        by : (o : Option ℕ) → number_of ds n.word ≡ o → activated out ds n (declared_at ds o) ≡ [] → (j : ℕ) × (number_of ds n.word ≡ some j) × Called n.word j
        by none e z = unknown_faults (same_bytes out n.word) n.place z
        by (some j) e z = there j (get_elem? ds j) e refl z

    meaning_is : (w : Word) (j : ℕ) → number_of ds w ≡ some j → meaning_of out ds w ≡ j
    unfolding meaning_of
    meaning_is w j e = ap (λ (o : Option ℕ). meaning_by o (same_bytes out w)) e

    -- behind the name of a transfer stands no `(`
    transfer_second : (s : Subscript) (b : Bits) (j : Joined) (e : Info) (i : ℕ) (rest : Tokens)
        → drop i ts ≡ subscript_tokens s (bits_tokens b (joined_tokens j (tk Equals e ∷ rest))) → (token_at ts i).kind ≡ LPar → ⊥
    transfer_second no_subscript all_bits alone e i rest r z = omega (arith, ap kind_no (sym (kind_of_token i Equals e rest r).1 ∙ z))
    transfer_second no_subscript all_bits (joined x y s b j) e i rest r z = omega (arith, ap kind_no (sym (kind_of_token i At x _ r).1 ∙ z))
    transfer_second no_subscript (bits x y w) j e i rest r z = omega (arith, ap kind_no (sym (kind_of_token i Less x _ r).1 ∙ z))
    transfer_second (subscript x o t y) b j e i rest r z = omega (arith, ap kind_no (sym (kind_of_token i LBra x _ r).1 ∙ z))

    jump_sound : (n : ℕ) (kind : Kind) (x : Info) (rest : Tokens) (k : Link) → Jump records decls ts out ds C kind → drop n ts ≡ tk kind x ∷ rest
        → C.instr n ≡ go_i k
        → 0 < n → link_cell records n ≡ link_no k → LinkThere k → Sound n
    jump_sound n kind x rest k j r e p l t =
        let w = kind_of_token n kind x rest r in
        sound_is n (go_i k) e p w.0 (subst (Jump records decls ts out ds C) (sym w.1) j, l) (λ g z. link_to k g t z)

    mutual
      unfolding code_at members_code alternatives_code counted_code selected_code more_code action_faults members_faults inside_faults inside_counted inside_selected inside_more

      pub action_sound : (a : Action) (ρ : Labels) (i : ℕ) (k : Link) (t : Token) (rest : Tokens) → 0 < i → drop i ts ≡ action_tokens a (t ∷ rest)
          → separates (kind_of t) ≡ true
          → action_faults out ds (label_names ρ) a ≡ [] → action_nest a ≤ deepest → Linked records out ds ρ i k a → LinkThere k → LabelsThere ρ
          → Each Present (code_at ρ i k a) → Each SoundHere (code_at ρ i k a)
      action_sound (block b a m) ρ i k t rest z r c f n l h ls p =
          let j = suc i + action_size a in
          let q = behind j k m in
          let fs = both_empty (action_faults out ds (label_names ρ) a) (members_faults out ds (label_names ρ) m) f in
          let u = next_drop i _ _ r in
          let pl = each_left Present (code_at ρ (suc i) q a) (members_code ρ j k m) p in
          let pr = each_right Present (code_at ρ (suc i) q a) (members_code ρ j k m) p in
          each_join SoundHere (code_at ρ (suc i) q a) (members_code ρ j k m)
          (action_sound a ρ (suc i) q _ _ (omega arith) (u ∙ ap (action_tokens a) (members_tokens_lem m (t ∷ rest))) (members_separate m) fs.0 (omega arith) l.0
          (behind_there m ρ j k h pr) ls pl)
          (members_sound m ρ j k (t ∷ rest) (drop_past (action_writes a) ts (suc i) _ u) fs.1 (omega arith) l.1 h ls pr)
      action_sound (labelled x b a) ρ i k t rest z r c f n l h ls p =
          let first = first_of (suc (suc i)) a in
          action_sound a (bind x.word first k ρ) (suc (suc i)) k t rest (omega arith) (next_drop (suc i) _ _ (next_drop i _ _ r)) c f n l h
          (first_there a (bind x.word first k ρ) (suc (suc i)) k p, h, ls) p
      action_sound (if_then x o e w a) ρ i k t rest z r c f n l h ls p =
          let j = behind_test i o e in
          let fs = both_empty (faults_in out ds o e) (action_faults out ds (label_names ρ) a) f in
          let b = (here ts i _ _ r).behind in
          let y = kind_of_token i IF x _ r in
          let u = drop_past (expression_writes o e) ts (suc i) _ (next_drop i _ _ r) in (
            sound_is i _ p.0.0 z y.0
                (y.1, (i + 1 + expr_size o e, (expression_stands o e (i + 1) (tk Arrow w) _ b (arrow_closes w) fs.0 (omega arith) (omega arith), (l.0, l.1))))
                (λ g s. elim s [ inl q ↦ subst There (sym q) (first_there a ρ j k p.1) | inr q ↦ link_to k g h q ]),
            action_sound a ρ j k t rest (omega arith) (next_drop (suc i + expr_size o e) _ _ u) c fs.1 (omega arith) l.2 h ls p.1,
          )
      action_sound (decode x o e w b v) ρ i k t rest z r c f n l h ls p =
          let s = behind_test i o e in
          let faults = alternatives_faults (judge out ds (expr_of o e)).bits v in
          let fs = both_empty (faults_in out ds o e) (faults ++ inside_faults out ds (label_names ρ) v) f in
          let gs = both_empty faults (inside_faults out ds (label_names ρ) v) fs.1 in
          let d = here ts i _ _ r in
          let y = kind_of_token i DECODE x _ r in
          let u = next_drop (suc i + expr_size o e) _ _ (drop_past (expression_writes o e) ts (suc i) _ (next_drop i _ _ r)) in
          let at_begin : i + 1 + expr_size o e + 1 ≡ s = omega arith in
          let place = (holds.entry i y.0).place ∙ ap (λ (t : Token). t.info.place) d.token in
          let test = expression_stands o e (i + 1) (tk Arrow w) _ d.behind (arrow_closes w) fs.0 (omega arith) (omega arith) in
          let begins = subst (λ j. (token_at ts j).kind ≡ BEGIN) (sym at_begin) (kind_of_token s BEGIN b _ u).1 in
          let stands = subst (λ j. EntriesStand records ts j (entries (suc s) v)) (sym at_begin)
          (alternatives_stand v ρ s k (tk BEGIN b) (t ∷ rest) u (λ q. omega (arith, ap kind_no q)) l) in (
            sound_is i _ p.0.0 z y.0
                (y.1, (place, (i + 1 + expr_size o e, (test, (begins, (stands, alternatives_counted v (suc s)))))))
                (λ g q. alternatives_enter v ρ (suc s) k g p.1 q),
            alternatives_sound v ρ s k (t ∷ rest) (next_drop s _ _ u) gs.1 (omega arith) l h ls p.1,
          )
      action_sound (repeat x a) ρ i k t rest z r c f n l h ls p = (
        jump_sound i REPEAT x _ (at (first_of (suc i) a)) a_repeat r p.0.0 z l.0 (first_there a ρ (suc i) (at i) p.1),
        action_sound a ρ (suc i) (at i) t rest (omega arith) (next_drop i _ _ r) c f n l.1 p.0.1 ls p.1,
      )
      action_sound (leave x m) ρ i k t rest z r c f n l h ls p = (jump_sound i LEAVE x _ _ a_leave r p.0.0 z l (leave_there ρ m.word ls), tt)
      action_sound (restart x m) ρ i k t rest z r c f n l h ls p = (jump_sound i RESTART x _ _ a_restart r p.0.0 z l (restart_there ρ m.word ls), tt)
      action_sound (activate x y w) ρ i k t rest z r c f n l h ls p =
          let a = kind_of_token i Name x _ r in
          let b = kind_of_token (i + 1) LPar y _ (here ts i _ _ r).behind in
          let (j, e, q) = call_found x f in
          let inside : inside_cell records i ≡ j = l.1 ∙ meaning_is x.word j e in
          let few = subst (λ u. u < most_declarations) (sym inside) q.few in
          let within = subst (λ u. cell 2 decls u < length ts) (sym inside) q.within in
          let begins = subst (λ u. link_cell records (cell 2 decls u) ≡ C.first x.word) (sym inside) q.begins in (
            sound_is i _ p.0.0 z a.0
                (a.1, (b.1, (l.0, (few, (within, begins)))))
                (λ g s. elim s [ inl u ↦ subst There (sym u) q.there | inr u ↦ link_to k g h u ]),
            tt,
          )
      action_sound (stop x y w) ρ i k t rest z r c f n l h ls p =
          let a = kind_of_token i STOP x _ r in (sound_is i _ p.0.0 z a.0 a.1 (λ g s. absurd s), tt)
      action_sound (no_op x y w) ρ i k t rest z r c f n l h ls p = (jump_sound i NO-OP x _ k a_no_op r p.0.0 z l h, tt)
      action_sound (transfer x s b j e o y) ρ i k t rest z r c f n l h ls p =
          let a = kind_of_token i Name x _ r in
          let u = (here ts i _ _ r).behind in
          let equals_at : inside_cell records i ≡ suc i + destination_size s b j = l.0 in
          let v = drop_past (destination_writes s b j) ts (suc i) _ (next_drop i _ _ r) in
          let w : drop (inside_cell records i) ts ≡ tk Equals e ∷ operand_tokens o (tail_tokens y (t ∷ rest))
          = subst (λ q. drop q ts ≡ tk Equals e ∷ operand_tokens o (tail_tokens y (t ∷ rest))) (sym equals_at) v in
          let twice = stored_twice out ds (owner_in (reach ds x.word)) j in
          let fs = both_empty (judge_joined out ds (judge_destination out ds x s b) j) (twice ++ faults_in out ds o y) f in
          let gs = both_empty twice (faults_in out ds o y) fs.1 in
          let stored : DestinationStands ts out ds i (inside_cell records i) (access x s b ∷ joined_accesses j) = record {
            name = x;
            subscript = s;
            bits = b;
            joined = j;
            equals = e;
            rest = operand_tokens o (tail_tokens y (t ∷ rest));
            is = refl;
            reads = r;
            behind = w;
            sound = fs.0;
            subscript_shallow = omega arith;
            joined_shallow = omega arith;
          } in
          let value =
          expression_stands o y (inside_cell records i + 1) t rest (here ts (inside_cell records i) _ _ w).behind (separator_closes t c) gs.1 (omega arith) (omega arith) in (
            sound_is i _ p.0.0 z a.0
                (a.1, (transfer_second s b j e (i + 1) _ u, (l.1, (stored, (inside_cell records i + 1 + expr_size o y, value)))))
                (λ g q. link_to k g h q),
            tt,
          )

      members_sound : (m : Members) (ρ : Labels) (i : ℕ) (k : Link) (rest : Tokens) → drop i ts ≡ members_tokens m rest → members_faults out ds (label_names ρ) m ≡ []
          → members_nest m ≤ deepest → MembersLinked records out ds ρ i k m → LinkThere k → LabelsThere ρ → Each Present (members_code ρ i k m)
          → Each SoundHere (members_code ρ i k m)
      members_sound (end x) ρ i k rest r f n l h ls p = tt
      members_sound (also x a m) ρ i k rest r f n l h ls p =
          let j = suc i + action_size a in
          let q = behind j k m in
          let fs = both_empty (action_faults out ds (label_names ρ) a) (members_faults out ds (label_names ρ) m) f in
          let u = next_drop i _ _ r in
          let pl = each_left Present (code_at ρ (suc i) q a) (members_code ρ j k m) p in
          let pr = each_right Present (code_at ρ (suc i) q a) (members_code ρ j k m) p in
          each_join SoundHere (code_at ρ (suc i) q a) (members_code ρ j k m)
          (action_sound a ρ (suc i) q _ _ (omega arith) (u ∙ ap (action_tokens a) (members_tokens_lem m rest)) (members_separate m) fs.0 (omega arith) l.0
          (behind_there m ρ j k h pr) ls pl)
          (members_sound m ρ j k rest (drop_past (action_writes a) ts (suc i) _ u) fs.1 (omega arith) l.1 h ls pr)
      members_sound (next x a m) ρ i k rest r f n l h ls p =
          let j = suc i + action_size a in
          let q = behind j k m in
          let fs = both_empty (action_faults out ds (label_names ρ) a) (members_faults out ds (label_names ρ) m) f in
          let u = next_drop i _ _ r in
          let pl = each_left Present (code_at ρ (suc i) q a) (members_code ρ j k m) p in
          let pr = each_right Present (code_at ρ (suc i) q a) (members_code ρ j k m) p in
          each_join SoundHere (code_at ρ (suc i) q a) (members_code ρ j k m)
          (action_sound a ρ (suc i) q _ _ (omega arith) (u ∙ ap (action_tokens a) (members_tokens_lem m rest)) (members_separate m) fs.0 (omega arith) l.0
          (behind_there m ρ j k h pr) ls pl)
          (members_sound m ρ j k rest (drop_past (action_writes a) ts (suc i) _ u) fs.1 (omega arith) l.1 h ls pr)

      -- the alternatives from the separator s on
      alternatives_sound : (v : Alternatives) (ρ : Labels) (s : ℕ) (k : Link) (rest : Tokens) → drop (suc s) ts ≡ alternatives_tokens v rest
          → inside_faults out ds (label_names ρ) v ≡ []
          → alternatives_nest v ≤ deepest → AlternativesLinked records out ds ρ s k v → LinkThere k → LabelsThere ρ → Each Present (alternatives_code ρ (suc s) k v)
          → Each SoundHere (alternatives_code ρ (suc s) k v)
      alternatives_sound (counted a v) ρ s k rest r f n l h ls p =
          let j = suc s + action_size a in
          let fs = both_empty (action_faults out ds (label_names ρ) a) (inside_counted out ds (label_names ρ) v) f in
          let pl = each_left Present (code_at ρ (suc s) k a) (counted_code ρ j k v) p in
          let pr = each_right Present (code_at ρ (suc s) k a) (counted_code ρ j k v) p in
          let b = counted_front v rest in
          each_join SoundHere (code_at ρ (suc s) k a) (counted_code ρ j k v)
          (action_sound a ρ (suc s) k b.0 b.1 (omega arith) (r ∙ ap (action_tokens a) b.2) b.3 fs.0 (omega arith) l.1 h ls pl)
          (counted_sound v ρ j k rest (drop_past (action_writes a) ts (suc s) _ r) fs.1 (omega arith) l.2 h ls pr)
      alternatives_sound (selected v) ρ s k rest r f n l h ls p = selected_sound v ρ s k rest r f n l h ls p

      counted_sound : (v : Counted) (ρ : Labels) (s : ℕ) (k : Link) (rest : Tokens) → drop s ts ≡ counted_tokens v rest → inside_counted out ds (label_names ρ) v ≡ []
          → counted_nest v ≤ deepest → CountedLinked records out ds ρ s k v → LinkThere k → LabelsThere ρ → Each Present (counted_code ρ s k v)
          → Each SoundHere (counted_code ρ s k v)
      counted_sound (counted_end x) ρ s k rest r f n l h ls p = tt
      counted_sound (counted_more x a v) ρ s k rest r f n l h ls p =
          let j = suc s + action_size a in
          let fs = both_empty (action_faults out ds (label_names ρ) a) (inside_counted out ds (label_names ρ) v) f in
          let pl = each_left Present (code_at ρ (suc s) k a) (counted_code ρ j k v) p in
          let pr = each_right Present (code_at ρ (suc s) k a) (counted_code ρ j k v) p in
          let b = counted_front v rest in
          let u = next_drop s _ _ r in
          each_join SoundHere (code_at ρ (suc s) k a) (counted_code ρ j k v)
          (action_sound a ρ (suc s) k b.0 b.1 (omega arith) (u ∙ ap (action_tokens a) b.2) b.3 fs.0 (omega arith) l.1 h ls pl)
          (counted_sound v ρ j k rest (drop_past (action_writes a) ts (suc s) _ u) fs.1 (omega arith) l.2 h ls pr)

      selected_sound : (v : Selected) (ρ : Labels) (s : ℕ) (k : Link) (rest : Tokens) → drop (suc s) ts ≡ selected_tokens v rest
          → inside_selected out ds (label_names ρ) v ≡ []
          → selected_nest v ≤ deepest → SelectedLinked records out ds ρ s k v → LinkThere k → LabelsThere ρ → Each Present (selected_code ρ (suc s) k v)
          → Each SoundHere (selected_code ρ (suc s) k v)
      selected_sound (select x b a m) ρ s k rest r f n l h ls p =
          let i = suc (suc s + selector_size x) in
          let j = i + action_size a in
          let fs = both_empty (action_faults out ds (label_names ρ) a) (inside_more out ds (label_names ρ) m) f in
          let pl = each_left Present (code_at ρ i k a) (more_code ρ j k m) p in
          let pr = each_right Present (code_at ρ i k a) (more_code ρ j k m) p in
          let q = more_front m rest in
          let u = next_drop (suc s + selector_size x) _ _ (drop_past (selector_writes x) ts (suc s) _ r) in
          each_join SoundHere (code_at ρ i k a) (more_code ρ j k m)
          (action_sound a ρ i k q.0 q.1 (omega arith) (u ∙ ap (action_tokens a) q.2) q.3 fs.0 (omega arith) l.1 h ls pl)
          (more_sound m ρ j k rest (drop_past (action_writes a) ts i _ u) fs.1 (omega arith) l.2 h ls pr)
      selected_sound (otherwise x b a e) ρ s k rest r f n l h ls p =
          action_sound a ρ (suc (suc (suc s))) k (tk END e) rest (omega arith) (next_drop (suc (suc s)) _ _ (next_drop (suc s) _ _ r)) end_separates f n l.1 h ls p

      more_sound : (m : SelectedMore) (ρ : Labels) (s : ℕ) (k : Link) (rest : Tokens) → drop s ts ≡ selected_more_tokens m rest
          → inside_more out ds (label_names ρ) m ≡ []
          → selected_more_nest m ≤ deepest → MoreLinked records out ds ρ s k m → LinkThere k → LabelsThere ρ → Each Present (more_code ρ s k m)
          → Each SoundHere (more_code ρ s k m)
      more_sound (selected_end x) ρ s k rest r f n l h ls p = tt
      more_sound (selected_more x v) ρ s k rest r f n l h ls p = selected_sound v ρ s k rest (next_drop s _ _ r) f n l h ls p
