-- All faults of the 40s of a description that stands in the tables have keys, so that the least key tells the least fault.
-- Assumes nothing.
use Prim.Native.Nat.{ℕ, zero, suc, ◌+◌, ◌<◌, ◌≤◌}
use Rattle.std.specs.Prelude.{◌≡◌, refl, Bool, true, false, not, ◌||◌, leb, length, drop}
use Rattle.std.proofs.Common.{ap, arith}
use mathlib.Core.List.{List, [], ◌∷◌, ◌++◌, map}
use Rattle.std.proofs.Math.Option.{Option, none, some}
use Rattle.std.proofs.Math.ListN.{get_elem?}
use Rattle.cells.specs.Cells.{cell}
use Rattle.rules.specs.Text.Tokens.{Becomes, Equals, Arrow, BEGIN, END, Info, Token, tk}
use Rattle.rules.specs.Text.Scan.{same_bytes}
use Rattle.rules.specs.Limits.{longest_text}
use Rattle.rules.specs.Grammar.Trees.{Tokens, bits_tokens, operand_tokens, tail_tokens, subscript_tokens, joined_tokens, exact, masked, Selector, one_of, any_of, selector_tokens}
use Rattle.rules.specs.Grammar.Trees.{Action, block, labelled, if_then, decode, repeat, leave, restart, activate, stop, no_op, transfer, action_tokens}
use Rattle.rules.specs.Grammar.Trees.{Members, end, also, next, members_tokens, Alternatives, counted, selected, alternatives_tokens, Counted, counted_end, counted_more, counted_tokens}
use Rattle.rules.specs.Grammar.Trees.{Selected, select, otherwise, selected_tokens, SelectedMore, selected_end, selected_more, selected_more_tokens}
use Rattle.rules.specs.Grammar.Trees.{body, mapped, carrier, given, words, with_bits, bare_body, Declaration, plain, main, own_bits_tokens, main_bits_tokens, declarations_tokens, Description}
use Rattle.rules.specs.Grammar.Precedence.{expr_of}
use Rattle.rules.specs.Selectors.{Item, between, selector_items}
use Rattle.rules.specs.Declarations.{Word, Declared, Table, declared_of, declarations, number_of, outer_name}
use Rattle.rules.specs.Faults.Fault.{fault}
use Rattle.rules.specs.Faults.Declared.{is_known, declared_at}
use Rattle.rules.specs.Faults.Bodies.{judge, activated, some_meet_of, past, selector_place, first_place, alternative}
use Rattle.rules.specs.Faults.Bodies.{counted_faults, selected_faults, more_faults, alternatives_faults, labels, label_faults, action_faults, members_faults, inside_faults, inside_counted, inside_selected, inside_more}
use Rattle.rules.specs.Faults.Bodies.{declared_names, body_faults, faults40}
use Rattle.laws_grammar.specs.Grammar.Heads.{action_head}
use Rattle.laws_grammar.specs.Grammar.Positions.{bits_writes, operand_writes, tail_writes, subscript_writes, joined_writes, selector_writes, action_writes, own_bits_writes, main_bits_writes}
use Rattle.table.specs.Declarations.{name_tokens, declaration_list, all_declared}
use Rattle.records.specs.Holds.{token_at, Holds}
use Rattle.keys.specs.Keys.{Smalls, none_small}
use Rattle.keys.specs.Laws.Keys.{smalls_append}
use Rattle.table.specs.Laws.Positions.{far, token_far}
use Rattle.table.specs.Ready.{Ready}
use Rattle.actions.specs.Laws.Counted.{first_place_lem}
use Rattle.plain.specs.Laws.Labels.{is_label, with_label, labels_in, action_labels}
use Rattle.bodies.specs.Laws.Places.{Inside, AllInside, inside_behind, inside_alone, when_small, expression_small, destinations_small}

-- LABELS
abbrev InfosInside : List Info → Type 0
InfosInside [] = Unit {0}
InfosInside (i ∷ is) = Inside i × InfosInside is

labels_inside : (ts : Tokens) → AllInside ts → InfosInside (labels_in ts)
unfolding labels_in
labels_inside [] h = tt
labels_inside (t ∷ ts) h = go (is_label t ts) (labels_inside ts h.1)
  where
    go : (b : Bool) → InfosInside (labels_in ts) → InfosInside (with_label b t.info (labels_in ts))
    go true m = (h.0, m)
    go false m = m

label_small : (known : List Word) (ls : List Info) → InfosInside ls → Smalls (label_faults known ls)
unfolding label_faults
label_small known [] h = none_small
label_small known (l ∷ ls) h =
    smalls_append (when_small (is_known l.word known) 44 l.place (omega arith) h.0) (label_small (l.word ∷ known) ls h.1)

-- ALTERNATIVES
first_inside : (a : Action) (ts : Tokens) → AllInside (action_tokens a ts) → first_place a ≤ longest_text
first_inside a ts h = let q = rw (action_head a ts) at h in omega (arith, first_place_lem a, q.0)

selector_inside : (s : Selector) (ts : Tokens) → AllInside (selector_tokens s ts) → selector_place s ≤ longest_text
selector_inside (one_of (exact i) r) ts h = h.0
selector_inside (one_of (masked i) r) ts h = h.0
selector_inside (any_of b l r is) ts h = h.0

behind_action : (a : Action) (ts : Tokens) → AllInside (action_tokens a ts) → AllInside ts
behind_action a ts h = inside_behind (action_tokens a) (action_writes a) ts h

-- the action of an alternative behind its selector
behind_selector : (s : Selector) (b : Info) (ts : Tokens) → AllInside (selector_tokens s (tk Becomes b ∷ ts)) → AllInside ts
behind_selector s b ts h = (inside_behind (selector_tokens s) (selector_writes s) (tk Becomes b ∷ ts) h).1

alternative_small : (n k p : ℕ) (before is : List Item) → p ≤ longest_text → Smalls (alternative n k p before is)
alternative_small n k p before is h = when_small (leb 64 k || (past n is || some_meet_of is before)) 45 p (omega arith) h

counted_small : (n k : ℕ) (c : Counted) (ts : Tokens) → AllInside (counted_tokens c ts) → Smalls (counted_faults n k c)
unfolding counted_faults
counted_small n k (counted_end e) ts h = none_small
counted_small n k (counted_more x a c) ts h =
    smalls_append (alternative_small n k (first_place a) [] (between k k ∷ []) (first_inside a (counted_tokens c ts) h.1))
    (counted_small n (k + 1) c ts (behind_action a (counted_tokens c ts) h.1))

mutual
  unfolding selected_faults

  selected_small : (n k : ℕ) (before : List Item) (s : Selected) (ts : Tokens) → AllInside (selected_tokens s ts) → Smalls (selected_faults n k before s)
  selected_small n k before (select s b a m) ts h =
      smalls_append (alternative_small n k (selector_place s) before (selector_items s) (selector_inside s (tk Becomes b ∷ action_tokens a (selected_more_tokens m ts)) h))
      (more_small n (k + 1) (selector_items s ++ before) m ts (behind_action a (selected_more_tokens m ts) (behind_selector s b (action_tokens a (selected_more_tokens m ts)) h)))
  selected_small n k before (otherwise i b a e) ts h = alternative_small n k i.place before [] h.0

  more_small : (n k : ℕ) (before : List Item) (m : SelectedMore) (ts : Tokens) → AllInside (selected_more_tokens m ts) → Smalls (more_faults n k before m)
  more_small n k before (selected_end e) ts h = none_small
  more_small n k before (selected_more c s) ts h = selected_small n k before s ts h.1

alternatives_small : (n : ℕ) (v : Alternatives) (ts : Tokens) → AllInside (alternatives_tokens v ts) → Smalls (alternatives_faults n v)
unfolding alternatives_faults
alternatives_small n (counted a c) ts h =
    smalls_append (alternative_small n 0 (first_place a) [] (between 0 0 ∷ []) (first_inside a (counted_tokens c ts) h))
    (counted_small n 1 c ts (behind_action a (counted_tokens c ts) h))
alternatives_small n (selected s) ts h = selected_small n 0 [] s ts h

-- ACTIONS
module _ (outer : Word) (ds : Table) where
  activated_small : (n : Info) (d : Option Declared) → Inside n → Smalls (activated outer ds n d)
  activated_small n none h =
      smalls_append (when_small (not (same_bytes outer n.word)) 40 n.place (omega arith) h) (when_small (same_bytes outer n.word) 41 n.place (omega arith) h)
  activated_small n (some d) h = go d.body
    where
      go : (o : Option Action) → Smalls (elim o [ none ↦ fault 41 n.place ∷ [] | some a ↦ [] ])
      go none = when_small true 41 n.place (omega arith) h
      go (some a) = none_small

  mutual
    unfolding action_faults

    action_small : (ls : List Word) (a : Action) (ts : Tokens) → AllInside (action_tokens a ts) → Smalls (action_faults outer ds ls a)
    action_small ls (block b a m) ts h =
        smalls_append (action_small ls a (members_tokens m ts) h.1) (members_small ls m ts (behind_action a (members_tokens m ts) h.1))
    action_small ls (labelled n b a) ts h = action_small (n.word ∷ ls) a ts h.1.1
    action_small ls (if_then i o t w a) ts h =
        smalls_append (expression_small outer ds o t (tk Arrow w ∷ action_tokens a ts) h.1)
        (action_small ls a ts
        (inside_behind (tail_tokens t) (tail_writes t) (tk Arrow w ∷ action_tokens a ts)
        (inside_behind (operand_tokens o) (operand_writes o) (tail_tokens t (tk Arrow w ∷ action_tokens a ts)) h.1)).1)
    action_small ls (decode i o t w b v) ts h =
        let rest = tk Arrow w ∷ tk BEGIN b ∷ alternatives_tokens v ts in
        let inner = (inside_behind (tail_tokens t) (tail_writes t) rest (inside_behind (operand_tokens o) (operand_writes o) (tail_tokens t rest) h.1)).1.1 in
        smalls_append (expression_small outer ds o t rest h.1)
        (smalls_append (alternatives_small (judge outer ds (expr_of o t)).bits v ts inner) (inside_small ls v ts inner))
    action_small ls (repeat i a) ts h = action_small ls a ts h.1
    action_small ls (leave i n) ts h = when_small (not (is_known n.word ls)) 44 i.place (omega arith) h.0
    action_small ls (restart i n) ts h = when_small (not (is_known n.word ls)) 44 i.place (omega arith) h.0
    action_small ls (activate n l r) ts h = activated_small n (declared_at ds (number_of ds n.word)) h.0
    action_small ls (stop i l r) ts h = none_small
    action_small ls (no_op i l r) ts h = none_small
    action_small ls (transfer n s b j e o t) ts h =
        let value = tk Equals e ∷ operand_tokens o (tail_tokens t ts) in
        let to = destinations_small outer ds n s b j value h.0 h.1 in
        let behind = inside_behind (subscript_tokens s) (subscript_writes s) (bits_tokens b (joined_tokens j value)) h.1 in
        let others = inside_behind (bits_tokens b) (bits_writes b) (joined_tokens j value) behind in
        smalls_append to.0
        (smalls_append to.1 (expression_small outer ds o t ts (inside_behind (joined_tokens j) (joined_writes j) value others).1))

    members_small : (ls : List Word) (m : Members) (ts : Tokens) → AllInside (members_tokens m ts) → Smalls (members_faults outer ds ls m)
    members_small ls (end e) ts h = none_small
    members_small ls (also i a m) ts h =
        smalls_append (action_small ls a (members_tokens m ts) h.1) (members_small ls m ts (behind_action a (members_tokens m ts) h.1))
    members_small ls (next i a m) ts h =
        smalls_append (action_small ls a (members_tokens m ts) h.1) (members_small ls m ts (behind_action a (members_tokens m ts) h.1))

    inside_small : (ls : List Word) (v : Alternatives) (ts : Tokens) → AllInside (alternatives_tokens v ts) → Smalls (inside_faults outer ds ls v)
    inside_small ls (counted a c) ts h =
        smalls_append (action_small ls a (counted_tokens c ts) h) (inside_counted_small ls c ts (behind_action a (counted_tokens c ts) h))
    inside_small ls (selected s) ts h = inside_selected_small ls s ts h

    inside_counted_small : (ls : List Word) (c : Counted) (ts : Tokens) → AllInside (counted_tokens c ts) → Smalls (inside_counted outer ds ls c)
    inside_counted_small ls (counted_end e) ts h = none_small
    inside_counted_small ls (counted_more x a c) ts h =
        smalls_append (action_small ls a (counted_tokens c ts) h.1) (inside_counted_small ls c ts (behind_action a (counted_tokens c ts) h.1))

    inside_selected_small : (ls : List Word) (s : Selected) (ts : Tokens) → AllInside (selected_tokens s ts) → Smalls (inside_selected outer ds ls s)
    inside_selected_small ls (select s b a m) ts h =
        let inner = behind_selector s b (action_tokens a (selected_more_tokens m ts)) h in
        smalls_append (action_small ls a (selected_more_tokens m ts) inner) (inside_more_small ls m ts (behind_action a (selected_more_tokens m ts) inner))
    inside_selected_small ls (otherwise i b a e) ts h = action_small ls a (tk END e ∷ ts) h.1.1

    inside_more_small : (ls : List Word) (m : SelectedMore) (ts : Tokens) → AllInside (selected_more_tokens m ts) → Smalls (inside_more outer ds ls m)
    inside_more_small ls (selected_end e) ts h = none_small
    inside_more_small ls (selected_more c s) ts h = inside_selected_small ls s ts h.1

  -- BODIES
  body_small : (n : Word) (a : Action) (ts : Tokens) → AllInside (action_tokens a ts) → Smalls (body_faults outer ds n (some a))
  unfolding labels_in
  body_small n a ts h =
      smalls_append (action_small (n ∷ []) a ts h)
      (label_small (declared_names outer ds ds) (labels a [])
      (rw (action_labels a [] refl) at (labels_inside (action_tokens a []) (inside_alone (action_tokens a) (action_writes a) ts h))))

  declared_small : (d : Declaration) (ts : Tokens) → AllInside (name_tokens d ts) → Smalls (body_faults outer ds (declared_of d).name.word (declared_of d).body)
  declared_small (plain n (words l f c t r b o)) ts h = none_small
  declared_small (plain n (with_bits l o carrier)) ts h = none_small
  declared_small (plain n (with_bits l o (given e (body b a m)))) ts h =
      body_small n.word (block b a m) ts (inside_behind (own_bits_tokens o) (own_bits_writes o) (tk Becomes e ∷ action_tokens (block b a m) ts) h.1.1).1
  declared_small (plain n (with_bits l o (given e (mapped t b c r)))) ts h = none_small
  declared_small (plain n (bare_body e b a m)) ts h = body_small n.word (block b a m) ts h.1.1
  declared_small (main k n o e b a m) ts h =
      body_small n.word (block b a m) ts (inside_behind (main_bits_tokens o) (main_bits_writes o) (tk Becomes e ∷ action_tokens (block b a m) ts) h.1).1

  bodies_small : (l : List Declaration) → ((k : ℕ) (d : Declaration) → get_elem? l k ≡ some d → Smalls (body_faults outer ds (declared_of d).name.word (declared_of d).body))
      → Smalls (faults40 outer ds (map declared_of l))
  unfolding faults40
  bodies_small [] f = none_small
  bodies_small (d ∷ l) f = smalls_append (f zero d refl) (bodies_small l (λ k x e. f (suc k) x e))

-- the tokens of a table stand inside the text
each_inside : (xs : Tokens) → ((k : ℕ) → k < length xs → Inside (token_at xs k).info) → AllInside xs
each_inside [] f = tt
each_inside (x ∷ xs) f = (f 0 (omega arith), each_inside xs (λ k l. f (suc k) (omega arith)))

module _ {text records values : List ℕ} {ts : Tokens} (h : Holds text records values ts) where
  rest_inside : (p : ℕ) → AllInside (drop p ts)
  rest_inside p =
      each_inside (drop p ts)
      (λ k l. omega (arith, ap (λ (t : Token). t.info.place) (token_far ts p (drop p ts) refl k), (h.entry (p + k) (far ts p (drop p ts) refl k l)).inside, h.short))

pub faults_small : {text records values decls : List ℕ} {ts : Tokens} {d : Description} {m : ℕ} → Ready text records values decls ts d m
    → Smalls (faults40 (outer_name d).word (declarations d) (declarations d))
faults_small {decls = decls} {ts = ts} {d = d} r =
    rw (all_declared d)
    (bodies_small (outer_name d).word (map declared_of (declaration_list d)) (declaration_list d)
    (λ k x e.
    let s = r.declared.each k x e in
    declared_small (outer_name d).word (map declared_of (declaration_list d)) x (declarations_tokens s.following []) (rw s.reads at (rest_inside r.holds (cell 2 decls k)))))
