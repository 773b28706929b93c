-- COMPLETE: the tokens of a tree are read back as that tree.
use Rattle.std.specs.Prelude.{◌≡◌, refl, Bool, true, false, [], ◌∷◌, ◌++◌, T}
use Rattle.std.proofs.Common.{sym, ap, ◌∙◌, subst}
use Rattle.std.proofs.Math.Option.{Option, none, some, map, none-ne-some, map-eq-some_iff}
use Rattle.rules.specs.Text.Tokens.{Kind, Info, Token, tk, same}
use Rattle.rules.specs.Text.Tokens.{Op, op_kind, join, plus, minus, eql, neq, lss, leq, gtr, geq, and, eqv, or, xor}
use Rattle.rules.specs.Grammar.Trees.{Tokens, BitsEnd, bit, upto, bits_end_tokens, Bits, all_bits, bits, bits_tokens}
use Rattle.rules.specs.Grammar.Trees.{Operand, constant, access, parens, negated, operand_tokens, Tail, no_more, with_op, tail_tokens, Subscript, no_subscript, subscript, subscript_tokens}
use Rattle.rules.specs.Grammar.Trees.{Joined, alone, joined, joined_tokens, Literal, exact, masked, literal_tokens, Range, single, to, range_tokens, Items, close, item, items_tokens}
use Rattle.rules.specs.Grammar.Trees.{Selector, one_of, any_of, selector_tokens, Action, block, labelled, if_then, decode, repeat, leave, restart, activate, stop, no_op, transfer, action_tokens}
use Rattle.rules.specs.Grammar.Trees.{Members, end, also, next, members_tokens, Alternatives, counted, selected, alternatives_tokens, Counted, counted_end, counted_more, counted_tokens}
use Rattle.rules.specs.Grammar.Trees.{Selected, select, otherwise, selected_tokens, SelectedMore, selected_end, selected_more, selected_more_tokens}
use Rattle.rules.specs.Grammar.Trees.{OwnBits, unnamed, named, own_bits_tokens, Meaning, body, mapped, meaning_tokens, Given, carrier, given, given_tokens, Form, words, with_bits, bare_body, form_tokens}
use Rattle.rules.specs.Grammar.Trees.{MainBits, bitless, main_bits, main_bits_tokens, Declaration, plain, main, declaration_tokens, Heading, no_heading, heading, heading_tokens}
use Rattle.rules.specs.Grammar.Trees.{Declarations, declared_all, declared_also, declarations_tokens, Description, description, description_tokens}
use Rattle.laws_grammar.specs.Cited.Rows.{Site, in_block, in_counted, in_selected, in_last, Use, test, choose, value, in_parens, in_subscript}
use Rattle.laws_grammar.specs.Cited.Rows.{Part, of_expression, of_destination, of_mapping, Owner, of_words, of_name, of_main}
use Rattle.laws_grammar.specs.Cited.Rows.{State, title, title_becomes, title_begin, declaration, heading_name, heading_close, declarator, declarator_rest}
use Rattle.laws_grammar.specs.Cited.Rows.{first_word, word_colon, second_word, words_close, words_bits, own_bits, own_bits_more, own_bits_second, own_bits_close, own_bits_done}
use Rattle.laws_grammar.specs.Cited.Rows.{body_or_mapping, body_begin, mapping_bits, main_name, main_rest, declaration_done}
use Rattle.laws_grammar.specs.Cited.Rows.{action, action_name, jump_target, call_open, destination, action_done, alternatives_begin, call_close, first_alternative, selector}
use Rattle.laws_grammar.specs.Cited.Rows.{selector_rest, selector_second, selector_becomes, otherwise_becomes, list_item, list_item_rest, list_item_second, list_rest}
use Rattle.laws_grammar.specs.Cited.Rows.{operand, access_rest, access_bits_lem, bits_first, bits_more, bits_second, bits_close, part_done}
use Rattle.laws_grammar.specs.Cited.Rows.{Stack, after}
use Rattle.laws_grammar.specs.Grammar.Kinds.{same_eq}
use Rattle.laws_grammar.specs.Cited.Rows.{first}
use Rattle.laws_grammar.specs.Grammar.Meanings.{Lang, meaning, stack_l, Step, Steps, steps, lift1, lift, Named, n_label, n_call, n_store, named_tokens, stored}
use Rattle.laws_grammar.specs.Grammar.Meanings.{use_l, part_l, done_l, owner_l, body_l, becomes_l, operator_step, operators_steps, selector_steps}
use Rattle.laws_grammar.specs.Grammar.Reading.{find, split, put, act, read}

-- the tokens are read from the stack as the trees x
pub record Reads (ts : Tokens) (γ : Stack) (x : (stack_l γ).tree) : Type 0 where
  pub is : read ts γ ≡ some x

-- one step
pub hit : {s : State} {σ : Stack} {k : Kind} {i : Info} {ts : Tokens} {e : Step (meaning s)} {x : (stack_l (after e.move σ)).tree}
    → find (steps s) k ≡ some e → Reads ts (after e.move σ) x → Reads (tk k i ∷ ts) (s ∷ σ) (put s σ i e x)
unfolding read act
hit {s} {σ} {k} {i} {ts} {e} {x} f h =
    record { is = ap (act s σ i (read ts)) f ∙ ap (map (put s σ i e)) h.is }

-- The trees of s' are part of those of s, by f, and so are its steps.
record Within (s s' : State) (f : (meaning s').tree → (meaning s).tree) : Type 0 where
  even : (x : (meaning s').tree) (ts : Tokens) → (meaning s).tokens (f x) ts ≡ (meaning s').tokens x ts
  finds : (k : Kind) (e : Step (meaning s')) → find (steps s') k ≡ some e → find (steps s) k ≡ some (lift1 f even e)

pass_act : {s s' : State} {f : (meaning s').tree → (meaning s).tree} (w : Within s s' f) (σ : Stack) (t : Token) (ts : Tokens) (y : (stack_l (s' ∷ σ)).tree)
    (o : Option (Step (meaning s'))) → find (steps s') t.kind ≡ o → act s' σ t.info (read ts) o ≡ some y
    → act s σ t.info (read ts) (find (steps s) t.kind) ≡ some (f y.0, y.1)
unfolding act put
pass_act w σ t ts y none p h = absurd (none-ne-some y h)
pass_act {s} {s'} {f} w σ t ts y (some e) p h =
    let q = (map-eq-some_iff (put s' σ t.info e) (read ts (after e.move σ))).0 h in
    ap (act s σ t.info (read ts)) (w.finds t.kind e p)
    ∙ ap (map (put s σ t.info (lift1 f w.even e))) q.1
    ∙ ap {B = Option (stack_l (s ∷ σ)).tree} (λ z. some (f z.0, z.1)) q.2

pass_read : {s s' : State} {f : (meaning s').tree → (meaning s).tree} (w : Within s s' f) (σ : Stack) (ts : Tokens) (y : (stack_l (s' ∷ σ)).tree)
    → read ts (s' ∷ σ) ≡ some y → read ts (s ∷ σ) ≡ some (f y.0, y.1)
unfolding read
pass_read w σ [] y h = absurd (none-ne-some y h)
pass_read {s} {s'} w σ (t ∷ ts) y h = pass_act w σ t ts y (find (steps s') t.kind) refl h

pass : {s s' : State} {f : (meaning s').tree → (meaning s).tree} → Within s s' f → {σ : Stack} {ts : Tokens} {y : (stack_l (s' ∷ σ)).tree}
    → Reads ts (s' ∷ σ) y → Reads ts (s ∷ σ) (f y.0, y.1)
pass w {σ} {ts} {y} h = record { is = pass_read w σ ts y h.is }

-- `clear es ds`: no step of ds is on a kind that es has a step on
both : Bool → Bool → Bool
both true b = b
both false b = false

both_parts : (a b : Bool) → T (both a b) → T a × T b
unfolding both
both_parts true b t = (tt, t)
both_parts false b t = absurd t

none? : {M : Lang} → Option (Step M) → Bool
none? none = true
none? (some e) = false

none?-none : {M : Lang} (o : Option (Step M)) → T (none? o) → o ≡ none
unfolding none?
none?-none none t = refl
none?-none (some e) t = absurd t

clear : {M N : Lang} → Steps M → Steps N → Bool
clear es [] = true
clear es (d ∷ ds) = both (none? (find es d.on)) (clear es ds)

clear_first : {M N : Lang} (es : Steps M) (d e : Step N) (k : Kind) (o : Option (Step N)) (b : Bool) → same d.on k ≡ b → find es d.on ≡ none
    → (o ≡ some e → find es k ≡ none) → first b d o ≡ some e → find es k ≡ none
clear_first es d e k o true q n ih r = ap (find es) (sym (same_eq d.on k (subst T (sym q) tt))) ∙ n
clear_first es d e k o false q n ih r = ih r

clear_none : {M N : Lang} (es : Steps M) (ds : Steps N) → T (clear es ds) → (k : Kind) (e : Step N) → find ds k ≡ some e → find es k ≡ none
unfolding clear find
clear_none es [] t k e p = absurd (none-ne-some e p)
clear_none es (d ∷ ds) t k e p =
    let h = both_parts (none? (find es d.on)) (clear es ds) t in
    clear_first es d e k (find ds k) (same d.on k) refl (none?-none (find es d.on) h.0) (clear_none es ds h.1 k e) p

find_behind_first : {M : Lang} (d : Step M) (o o' : Option (Step M)) (b : Bool) → (o ≡ none → o' ≡ o') → first b d o ≡ none → (o ≡ none) × (b ≡ false)
find_behind_first d o o' true ih r = absurd (none-ne-some d (sym r))
find_behind_first d o o' false ih r = (r, refl)

find_behind : {M : Lang} (es ds : Steps M) (k : Kind) → find es k ≡ none → find (es ++ ds) k ≡ find ds k
unfolding find
find_behind [] ds k p = refl
find_behind (d ∷ es) ds k p =
    let h = find_behind_first d (find es k) (find ds k) (same d.on k) (λ _. refl) p in
    ap (λ b. first b d (find (es ++ ds) k)) h.1 ∙ find_behind es ds k h.0

find_before_first : {M : Lang} (d e : Step M) (o o' : Option (Step M)) (b : Bool) → (o ≡ some e → o' ≡ some e) → first b d o ≡ some e → first b d o' ≡ some e
find_before_first d e o o' true ih r = r
find_before_first d e o o' false ih r = ih r

find_before : {M : Lang} (es ds : Steps M) (k : Kind) (e : Step M) → find es k ≡ some e → find (es ++ ds) k ≡ some e
unfolding find
find_before [] ds k e p = absurd (none-ne-some e p)
find_before (d ∷ es) ds k e p = find_before_first d e (find es k) (find (es ++ ds) k) (same d.on k) (find_before es ds k e) p

find_lift_first : {M N : Lang} (f : M.tree → N.tree) (h : (x : M.tree) (ts : Tokens) → N.tokens (f x) ts ≡ M.tokens x ts) (d e : Step M)
    (o : Option (Step M)) (o' : Option (Step N)) (b : Bool) → (o ≡ some e → o' ≡ some (lift1 f h e)) → first b d o ≡ some e → first b (lift1 f h d) o' ≡ some (lift1 f h e)
find_lift_first f h d e o o' true ih r = ap (map (lift1 f h)) r
find_lift_first f h d e o o' false ih r = ih r

find_lift : {M N : Lang} (f : M.tree → N.tree) (h : (x : M.tree) (ts : Tokens) → N.tokens (f x) ts ≡ M.tokens x ts) (es : Steps M) (k : Kind) (e : Step M)
    → find es k ≡ some e → find (lift {M = M} {N = N} f h es) k ≡ some (lift1 f h e)
unfolding find
find_lift f h [] k e p = absurd (none-ne-some e p)
find_lift f h (d ∷ es) k e p = find_lift_first f h d e (find es k) (find (lift f h es) k) (same d.on k) (find_lift f h es k e) p

-- the steps of s are es and then those of s'
behind : {s s' : State} {f : (meaning s').tree → (meaning s).tree} (h : (x : (meaning s').tree) (ts : Tokens) → (meaning s).tokens (f x) ts ≡ (meaning s').tokens x ts)
    (es : Steps (meaning s)) → steps s ≡ es ++ lift {M = meaning s'} {N = meaning s} f h (steps s') → T (clear es (steps s')) → Within s s' f
behind {s} {s'} {f} h es p t =
    record {
      even = h;
      finds = λ k e q. ap (λ l. find l k) p ∙ find_behind es (lift f h (steps s')) k (clear_none es (steps s') t k e q) ∙ find_lift f h (steps s') k e q;
    }

-- the steps of s are those of s' and then es
before : {s s' : State} {f : (meaning s').tree → (meaning s).tree} (h : (x : (meaning s').tree) (ts : Tokens) → (meaning s).tokens (f x) ts ≡ (meaning s').tokens x ts)
    (es : Steps (meaning s)) → steps s ≡ lift {M = meaning s'} {N = meaning s} f h (steps s') ++ es → Within s s' f
before {s} {s'} {f} h es p =
    record {
      even = h;
      finds = λ k e q. ap (λ l. find l k) p ∙ find_before (lift f h (steps s')) es k (lift1 f h e) (find_lift f h (steps s') k e q);
    }

no_bits : (q : Part) → Within (access_bits_lem q) (part_done q) (λ r. (all_bits, r))
unfolding find clear both none?
no_bits (of_expression (test c)) = behind (λ r ts. refl) (_ ∷ []) refl tt
no_bits (of_expression (choose c)) = behind (λ r ts. refl) (_ ∷ []) refl tt
no_bits (of_expression (value in_block)) = behind (λ r ts. refl) (_ ∷ []) refl tt
no_bits (of_expression (value in_counted)) = behind (λ r ts. refl) (_ ∷ []) refl tt
no_bits (of_expression (value in_selected)) = behind (λ r ts. refl) (_ ∷ []) refl tt
no_bits (of_expression (value in_last)) = behind (λ r ts. refl) (_ ∷ []) refl tt
no_bits (of_expression in_parens) = behind (λ r ts. refl) (_ ∷ []) refl tt
no_bits (of_expression in_subscript) = behind (λ r ts. refl) (_ ∷ []) refl tt
no_bits (of_destination c) = behind (λ r ts. refl) (_ ∷ []) refl tt
no_bits of_mapping = behind (λ r ts. refl) (_ ∷ []) refl tt

no_index : (q : Part) → Within (access_rest q) (access_bits_lem q) (λ r. (no_subscript, r))
unfolding find clear both none?
no_index (of_expression (test c)) = behind (λ r ts. refl) (_ ∷ []) refl tt
no_index (of_expression (choose c)) = behind (λ r ts. refl) (_ ∷ []) refl tt
no_index (of_expression (value in_block)) = behind (λ r ts. refl) (_ ∷ []) refl tt
no_index (of_expression (value in_counted)) = behind (λ r ts. refl) (_ ∷ []) refl tt
no_index (of_expression (value in_selected)) = behind (λ r ts. refl) (_ ∷ []) refl tt
no_index (of_expression (value in_last)) = behind (λ r ts. refl) (_ ∷ []) refl tt
no_index (of_expression in_parens) = behind (λ r ts. refl) (_ ∷ []) refl tt
no_index (of_expression in_subscript) = behind (λ r ts. refl) (_ ∷ []) refl tt
no_index (of_destination c) = behind (λ r ts. refl) (_ ∷ []) refl tt
no_index of_mapping = behind (λ r ts. refl) (_ ∷ []) refl tt

value_done : (c : Site) → Within (part_done (of_expression (value c))) (action_done c) (λ r. (no_more, r))
unfolding find clear both none?
value_done in_block = behind (λ r ts. refl) (operators_steps (value in_block)) refl tt
value_done in_counted = behind (λ r ts. refl) (operators_steps (value in_counted)) refl tt
value_done in_selected = behind (λ r ts. refl) (operators_steps (value in_selected)) refl tt
value_done in_last = behind (λ r ts. refl) (operators_steps (value in_last)) refl tt

store : (c : Site) → Within (action_name c) (access_rest (of_destination c)) (stored c)
unfolding find clear both none?
store c = behind (λ r ts. refl) (_ ∷ _ ∷ []) refl tt

headless : Within declaration declarator (λ r. (no_heading, r))
unfolding find clear both none?
headless = behind (λ r ts. refl) (_ ∷ []) refl tt

with_selectors : Within first_alternative selector selected
with_selectors = before (λ r ts. refl) _ refl

without_selectors : Within first_alternative (action in_counted) (λ r. counted r.0 r.1)
unfolding find clear both none?
without_selectors = behind (λ r ts. refl) (lift selected (λ r ts. refl) selector_steps) refl tt

mapping_done : Within (part_done of_mapping) declaration_done (λ r. r)
unfolding find clear both none?
mapping_done = behind (λ r ts. refl) [] refl tt

words_done : Within (own_bits_done of_words) declaration_done (λ r. r)
unfolding find clear both none?
words_done = behind (λ r ts. refl) [] refl tt

carrier_done : Within (own_bits_done of_name) declaration_done (λ r. (carrier, r))
unfolding find clear both none?
carrier_done = behind (λ r ts. refl) (_ ∷ []) refl tt

main_bitless : Within main_rest (own_bits_done of_main) (λ r. (bitless, r))
unfolding find clear both none?
main_bitless = behind (λ r ts. refl) (_ ∷ []) refl tt

single_selector : Within selector_rest selector_becomes (λ r. (single, r))
unfolding find clear both none?
single_selector = behind (λ r ts. refl) (_ ∷ []) refl tt

single_item : Within list_item_rest list_rest (λ r. (single, r))
unfolding find clear both none?
single_item = behind (λ r ts. refl) (_ ∷ []) refl tt

bits_end_back : (b : BitsEnd) (q : Part) {σ : Stack} {ts : Tokens} {y : (stack_l (part_done q ∷ σ)).tree}
    → Reads ts (part_done q ∷ σ) y → Reads (bits_end_tokens b ts) (bits_more q ∷ σ) ((b, y.0), y.1)
unfolding find put split
bits_end_back (bit g) q h = hit refl h
bits_end_back (upto c n g) q h = hit refl (hit refl (hit refl h))

bits_back : (b : Bits) (q : Part) {σ : Stack} {ts : Tokens} {y : (stack_l (part_done q ∷ σ)).tree}
    → Reads ts (part_done q ∷ σ) y → Reads (bits_tokens b ts) (access_bits_lem q ∷ σ) ((b, y.0), y.1)
unfolding find put split
bits_back all_bits q h = pass (no_bits q) h
bits_back (bits l n e) q h = hit refl (hit refl (bits_end_back e q h))

op_found : (u : Use) (o : Op) → find (steps (part_done (of_expression u))) (op_kind o) ≡ some (operator_step u o)
unfolding find
op_found u join = refl
op_found u plus = refl
op_found u minus = refl
op_found u eql = refl
op_found u neq = refl
op_found u lss = refl
op_found u leq = refl
op_found u gtr = refl
op_found u geq = refl
op_found u and = refl
op_found u eqv = refl
op_found u or = refl
op_found u xor = refl

mutual
  unfolding find put split

  operand_back : (o : Operand) (u : Use) {σ : Stack} {ts : Tokens} {y : (stack_l (part_done (of_expression u) ∷ σ)).tree}
      → Reads ts (part_done (of_expression u) ∷ σ) y → Reads (operand_tokens o ts) (operand u ∷ σ) ((o, y.0), y.1)
  operand_back (constant i) u h = hit refl h
  operand_back (access i s b) u h = hit refl (subscript_back s (of_expression u) (bits_back b (of_expression u) h))
  operand_back (parens l o t r) u h = hit refl (operand_back o in_parens (tail_back t in_parens (hit refl h)))
  operand_back (negated i o) u h = hit refl (operand_back o u h)

  tail_back : (t : Tail) (u : Use) {σ : Stack} {ts : Tokens} {k : (use_l u).tree} {x : (stack_l σ).tree}
      → Reads ts (part_done (of_expression u) ∷ σ) ((no_more, k), x) → Reads (tail_tokens t ts) (part_done (of_expression u) ∷ σ) ((t, k), x)
  tail_back no_more u h = h
  tail_back (with_op op i o t) u h = hit (op_found u op) (operand_back o u (tail_back t u h))

  subscript_back : (s : Subscript) (q : Part) {σ : Stack} {ts : Tokens} {y : (stack_l (access_bits_lem q ∷ σ)).tree}
      → Reads ts (access_bits_lem q ∷ σ) y → Reads (subscript_tokens s ts) (access_rest q ∷ σ) ((s, y.0), y.1)
  subscript_back no_subscript q h = pass (no_index q) h
  subscript_back (subscript l o t r) q h = hit refl (operand_back o in_subscript (tail_back t in_subscript (hit refl h)))

joined_back : (j : Joined) (c : Site) {σ : Stack} {ts : Tokens} {k : (meaning (action_done c)).tree} {e : Info} {o : Operand} {t : Tail} {x : (stack_l σ).tree}
    → Reads ts (part_done (of_destination c) ∷ σ) ((alone, (e, (o, (t, k)))), x) → Reads (joined_tokens j ts) (part_done (of_destination c) ∷ σ) ((j, (e, (o, (t, k)))), x)
unfolding find put split
joined_back alone c h = h
joined_back (joined a n s b j) c h = hit refl (hit refl (subscript_back s (of_destination c) (bits_back b (of_destination c) (joined_back j c h))))

selector_literal : (l : Literal) {σ : Stack} {ts : Tokens} {y : (stack_l (selector_becomes ∷ σ)).tree}
    → Reads ts (selector_becomes ∷ σ) y → Reads (literal_tokens l ts) (selector_second ∷ σ) ((l, y.0), y.1)
unfolding find put split
selector_literal (exact i) h = hit refl h
selector_literal (masked i) h = hit refl h

selector_range : (r : Range) {σ : Stack} {ts : Tokens} {y : (stack_l (selector_becomes ∷ σ)).tree}
    → Reads ts (selector_becomes ∷ σ) y → Reads (range_tokens r ts) (selector_rest ∷ σ) ((r, y.0), y.1)
unfolding find put split
selector_range single h = pass single_selector h
selector_range (to c l) h = hit refl (selector_literal l h)

list_literal : (l : Literal) {σ : Stack} {ts : Tokens} {y : (stack_l (list_rest ∷ σ)).tree}
    → Reads ts (list_rest ∷ σ) y → Reads (literal_tokens l ts) (list_item_second ∷ σ) ((l, y.0), y.1)
unfolding find put split
list_literal (exact i) h = hit refl h
list_literal (masked i) h = hit refl h

list_range : (r : Range) {σ : Stack} {ts : Tokens} {y : (stack_l (list_rest ∷ σ)).tree}
    → Reads ts (list_rest ∷ σ) y → Reads (range_tokens r ts) (list_item_rest ∷ σ) ((r, y.0), y.1)
unfolding find put split
list_range single h = pass single_item h
list_range (to c l) h = hit refl (list_literal l h)

list_first : (l : Literal) {σ : Stack} {ts : Tokens} {y : (stack_l (list_item_rest ∷ σ)).tree}
    → Reads ts (list_item_rest ∷ σ) y → Reads (literal_tokens l ts) (list_item ∷ σ) ((l, y.0), y.1)
unfolding find put split
list_first (exact i) h = hit refl h
list_first (masked i) h = hit refl h

items_back : (v : Items) {σ : Stack} {ts : Tokens} {x : (stack_l σ).tree} → Reads ts σ x → Reads (items_tokens v ts) (list_rest ∷ σ) (v, x)
unfolding find put split
items_back (close r) h = hit refl h
items_back (item c l r v) h = hit refl (list_first l (list_range r (items_back v h)))

selector_back : (v : Selector) {σ : Stack} {ts : Tokens} {y : (stack_l (selector_becomes ∷ σ)).tree}
    → Reads ts (selector_becomes ∷ σ) y → Reads (selector_tokens v ts) (selector ∷ σ) (select v y.0.0 y.0.1.0 y.0.1.1, y.1)
unfolding find put split
selector_back (one_of (exact i) r) h = hit refl (selector_range r h)
selector_back (one_of (masked i) r) h = hit refl (selector_range r h)
selector_back (any_of b l r v) h = hit refl (list_first l (list_range r (items_back v h)))

mutual
  unfolding find put split

  action_back : (a : Action) (c : Site) {σ : Stack} {ts : Tokens} {y : (stack_l (action_done c ∷ σ)).tree}
      → Reads ts (action_done c ∷ σ) y → Reads (action_tokens a ts) (action c ∷ σ) ((a, y.0), y.1)
  action_back (block b a m) c h = hit refl (action_back a in_block (members_back m h))
  action_back (labelled n b a) c h = hit refl (hit refl (action_back a c h))
  action_back (if_then i o t w a) c h = hit refl (operand_back o (test c) (tail_back t (test c) (hit refl (action_back a c h))))
  action_back (decode i o t w b v) c h = hit refl (operand_back o (choose c) (tail_back t (choose c) (hit refl (hit refl (alternatives_back v h)))))
  action_back (repeat i a) c h = hit refl (action_back a c h)
  action_back (leave i n) c h = hit refl (hit refl h)
  action_back (restart i n) c h = hit refl (hit refl h)
  action_back (activate n l r) c h = hit refl (hit refl (hit refl h))
  action_back (stop i l r) c h = hit refl (hit refl (hit refl h))
  action_back (no_op i l r) c h = hit refl (hit refl (hit refl h))
  action_back (transfer n s b j e o t) c h =
      hit refl (pass (store c) (subscript_back s (of_destination c) (bits_back b (of_destination c)
      (joined_back j c (hit refl (operand_back o (value c) (tail_back t (value c) (pass (value_done c) h))))))))

  members_back : (m : Members) {σ : Stack} {ts : Tokens} {x : (stack_l σ).tree} → Reads ts σ x → Reads (members_tokens m ts) (action_done in_block ∷ σ) (m, x)
  members_back (end i) h = hit refl h
  members_back (also i a m) h = hit refl (action_back a in_block (members_back m h))
  members_back (next i a m) h = hit refl (action_back a in_block (members_back m h))

  alternatives_back : (v : Alternatives) {σ : Stack} {ts : Tokens} {x : (stack_l σ).tree} → Reads ts σ x → Reads (alternatives_tokens v ts) (first_alternative ∷ σ) (v, x)
  alternatives_back (counted a v) h = pass without_selectors (action_back a in_counted (counted_back v h))
  alternatives_back (selected v) h = pass with_selectors (selected_back v h)

  counted_back : (v : Counted) {σ : Stack} {ts : Tokens} {x : (stack_l σ).tree} → Reads ts σ x → Reads (counted_tokens v ts) (action_done in_counted ∷ σ) (v, x)
  counted_back (counted_end i) h = hit refl h
  counted_back (counted_more i a v) h = hit refl (action_back a in_counted (counted_back v h))

  selected_back : (v : Selected) {σ : Stack} {ts : Tokens} {x : (stack_l σ).tree} → Reads ts σ x → Reads (selected_tokens v ts) (selector ∷ σ) (v, x)
  selected_back (select s b a v) h = selector_back s (hit refl (action_back a in_selected (selected_more_back v h)))
  selected_back (otherwise i b a e) h = hit refl (hit refl (action_back a in_last (hit refl h)))

  selected_more_back : (v : SelectedMore) {σ : Stack} {ts : Tokens} {x : (stack_l σ).tree}
      → Reads ts σ x → Reads (selected_more_tokens v ts) (action_done in_selected ∷ σ) (v, x)
  selected_more_back (selected_end i) h = hit refl h
  selected_more_back (selected_more i v) h = hit refl (selected_back v h)

own_bits_end_back : (b : BitsEnd) (w : Owner) {σ : Stack} {ts : Tokens} {y : (stack_l (own_bits_done w ∷ σ)).tree}
    → Reads ts (own_bits_done w ∷ σ) y → Reads (bits_end_tokens b ts) (own_bits_more w ∷ σ) ((b, y.0), y.1)
unfolding find put split
own_bits_end_back (bit g) w h = hit refl h
own_bits_end_back (upto c n g) w h = hit refl (hit refl (hit refl h))

own_bits_back : (b : OwnBits) (w : Owner) {σ : Stack} {ts : Tokens} {y : (stack_l (own_bits_done w ∷ σ)).tree}
    → Reads ts (own_bits_done w ∷ σ) y → Reads (own_bits_tokens b ts) (own_bits w ∷ σ) ((b, y.0), y.1)
unfolding find put split
own_bits_back (unnamed g) w h = hit refl h
own_bits_back (named n e) w h = hit refl (own_bits_end_back e w h)

meaning_back : (m : Meaning) {σ : Stack} {ts : Tokens} {y : (stack_l (declaration_done ∷ σ)).tree}
    → Reads ts (declaration_done ∷ σ) y → Reads (meaning_tokens m ts) (body_or_mapping ∷ σ) ((m, y.0), y.1)
unfolding find put split
meaning_back (body b a m) h = hit refl (action_back a in_block (members_back m h))
meaning_back (mapped n l c e) h = hit refl (hit refl (hit refl (bits_end_back e of_mapping (pass mapping_done h))))

given_back : (g : Given) {σ : Stack} {ts : Tokens} {y : (stack_l (declaration_done ∷ σ)).tree}
    → Reads ts (declaration_done ∷ σ) y → Reads (given_tokens g ts) (own_bits_done of_name ∷ σ) ((g, y.0), y.1)
unfolding find put split
given_back carrier h = pass carrier_done h
given_back (given b m) h = hit refl (meaning_back m h)

form_back : (f : Form) {σ : Stack} {ts : Tokens} {y : (stack_l (declaration_done ∷ σ)).tree}
    → Reads ts (declaration_done ∷ σ) y → Reads (form_tokens f ts) (declarator_rest ∷ σ) ((f, y.0), y.1)
unfolding find put split
form_back (words l m c n r b o) h = hit refl (hit refl (hit refl (hit refl (hit refl (hit refl (own_bits_back o of_words (pass words_done h)))))))
form_back (with_bits l o g) h = hit refl (own_bits_back o of_name (given_back g h))
form_back (bare_body e b a m) h = hit refl (hit refl (action_back a in_block (members_back m h)))

main_bits_back : (b : MainBits) {σ : Stack} {ts : Tokens} {y : (stack_l (own_bits_done of_main ∷ σ)).tree}
    → Reads ts (own_bits_done of_main ∷ σ) y → Reads (main_bits_tokens b ts) (main_rest ∷ σ) ((b, y.0), y.1)
unfolding find put split
main_bits_back bitless h = pass main_bitless h
main_bits_back (main_bits l o) h = hit refl (own_bits_back o of_main h)

declaration_back : (d : Declaration) {σ : Stack} {ts : Tokens} {y : (stack_l (declaration_done ∷ σ)).tree}
    → Reads ts (declaration_done ∷ σ) y → Reads (declaration_tokens d ts) (declarator ∷ σ) ((d, y.0), y.1)
unfolding find put split
declaration_back (plain n f) h = hit refl (form_back f h)
declaration_back (main i n o e b a m) h = hit refl (hit refl (main_bits_back o (hit refl (hit refl (action_back a in_block (members_back m h))))))

heading_back : (d : Heading) {σ : Stack} {ts : Tokens} {y : (stack_l (declarator ∷ σ)).tree}
    → Reads ts (declarator ∷ σ) y → Reads (heading_tokens d ts) (declaration ∷ σ) ((d, y.0), y.1)
unfolding find put split
heading_back no_heading h = pass headless h
heading_back (heading l n r) h = hit refl (hit refl (hit refl h))

declarations_back : (d : Declarations) {σ : Stack} {ts : Tokens} {x : (stack_l σ).tree} → Reads ts σ x → Reads (declarations_tokens d ts) (declaration_done ∷ σ) (d, x)
unfolding find put split
declarations_back (declared_all e) h = hit refl h
declarations_back (declared_also c i d ds) h = hit refl (heading_back i (declaration_back d (declarations_back ds h)))

description_back : (d : Description) {σ : Stack} {ts : Tokens} {x : (stack_l σ).tree} → Reads ts σ x → Reads (description_tokens d ts) (title ∷ σ) (d, x)
unfolding find put split
description_back (description n e b i d ds) h = hit refl (hit refl (hit refl (heading_back i (declaration_back d (declarations_back ds h)))))

-- what follows, by the state
done_back : (c : Site) (k : (done_l c).tree) {σ : Stack} {ts : Tokens} {x : (stack_l σ).tree} → Reads ts σ x → Reads ((done_l c).tokens k ts) (action_done c ∷ σ) (k, x)
unfolding find put split
done_back in_block k h = members_back k h
done_back in_counted k h = counted_back k h
done_back in_selected k h = selected_more_back k h
done_back in_last k h = hit refl h

use_back : (u : Use) (k : (use_l u).tree) {σ : Stack} {ts : Tokens} {x : (stack_l σ).tree}
    → Reads ts σ x → Reads ((use_l u).tokens k ts) (part_done (of_expression u) ∷ σ) ((no_more, k), x)
unfolding find put split
use_back (test c) k h = hit refl (action_back k.1.0 c (done_back c k.1.1 h))
use_back (choose c) k h = hit refl (hit refl (alternatives_back k.1.1.0 (done_back c k.1.1.1 h)))
use_back (value c) k h = pass (value_done c) (done_back c k h)
use_back in_parens k h = hit refl h
use_back in_subscript k h = hit refl h

part_back : (q : Part) (k : (part_l q).tree) {σ : Stack} {ts : Tokens} {x : (stack_l σ).tree} → Reads ts σ x → Reads ((part_l q).tokens k ts) (part_done q ∷ σ) (k, x)
unfolding find put split
part_back (of_expression u) k h = tail_back k.0 u (use_back u k.1 h)
part_back (of_destination c) k h =
    joined_back k.0 c (hit refl (operand_back k.1.1.0 (value c) (tail_back k.1.1.1.0 (value c) (pass (value_done c) (done_back c k.1.1.1.1 h)))))
part_back of_mapping k h = pass mapping_done (declarations_back k h)

body_back : (k : body_l.tree) {σ : Stack} {ts : Tokens} {x : (stack_l σ).tree} → Reads ts σ x → Reads (body_l.tokens k ts) (body_begin ∷ σ) (k, x)
unfolding find put split
body_back k h = hit refl (action_back k.1.0 in_block (members_back k.1.1.0 (declarations_back k.1.1.1 h)))

owner_back : (w : Owner) (k : (owner_l w).tree) {σ : Stack} {ts : Tokens} {x : (stack_l σ).tree} → Reads ts σ x → Reads ((owner_l w).tokens k ts) (own_bits_done w ∷ σ) (k, x)
unfolding find put split
owner_back of_words k h = pass words_done (declarations_back k h)
owner_back of_name k h = given_back k.0 (declarations_back k.1 h)
owner_back of_main k h = hit refl (body_back k.1 h)

becomes_back : (k : becomes_l.tree) {σ : Stack} {ts : Tokens} {x : (stack_l σ).tree} → Reads ts σ x → Reads (becomes_l.tokens k ts) (selector_becomes ∷ σ) (k, x)
unfolding find put split
becomes_back k h = hit refl (action_back k.1.0 in_selected (selected_more_back k.1.1 h))

named_back : (c : Site) (n : Named) {σ : Stack} {ts : Tokens} {y : (stack_l (action_done c ∷ σ)).tree}
    → Reads ts (action_done c ∷ σ) y → Reads (named_tokens n ts) (action_name c ∷ σ) ((n, y.0), y.1)
unfolding find put split
named_back c (n_label b a) h = hit refl (action_back a c h)
named_back c (n_call l r) h = hit refl (hit refl h)
named_back c (n_store s b j e o t) h =
    pass (store c) (subscript_back s (of_destination c) (bits_back b (of_destination c)
    (joined_back j c (hit refl (operand_back o (value c) (tail_back t (value c) (pass (value_done c) h)))))))

-- COMPLETE, for each state
pub back : (s : State) (k : (meaning s).tree) {σ : Stack} {ts : Tokens} {x : (stack_l σ).tree} → Reads ts σ x → Reads ((meaning s).tokens k ts) (s ∷ σ) (k, x)
unfolding find put split
back title k h = description_back k h
back title_becomes k h = hit refl (hit refl (heading_back k.1.1.0 (declaration_back k.1.1.1.0 (declarations_back k.1.1.1.1 h))))
back title_begin k h = hit refl (heading_back k.1.0 (declaration_back k.1.1.0 (declarations_back k.1.1.1 h)))
back declaration k h = heading_back k.0 (declaration_back k.1.0 (declarations_back k.1.1 h))
back heading_name k h = hit refl (hit refl (declaration_back k.1.1.0 (declarations_back k.1.1.1 h)))
back heading_close k h = hit refl (declaration_back k.1.0 (declarations_back k.1.1 h))
back declarator k h = declaration_back k.0 (declarations_back k.1 h)
back declarator_rest k h = form_back k.0 (declarations_back k.1 h)
back first_word k h = hit refl (hit refl (hit refl (hit refl h)))
back word_colon k h = hit refl (hit refl (hit refl h))
back second_word k h = hit refl (hit refl h)
back words_close k h = hit refl h
back words_bits k h = hit refl (own_bits_back k.1.0 of_words (owner_back of_words k.1.1 h))
back (own_bits w) k h = own_bits_back k.0 w (owner_back w k.1 h)
back (own_bits_more w) k h = own_bits_end_back k.0 w (owner_back w k.1 h)
back (own_bits_second w) k h = hit refl (hit refl (owner_back w k.1.1 h))
back (own_bits_close w) k h = hit refl (owner_back w k.1 h)
back (own_bits_done w) k h = owner_back w k h
back body_or_mapping k h = meaning_back k.0 (declarations_back k.1 h)
back body_begin k h = body_back k h
back mapping_bits k h = hit refl (hit refl (bits_end_back k.1.1.0 of_mapping (part_back of_mapping k.1.1.1 h)))
back main_name k h = hit refl (main_bits_back k.1.0 (owner_back of_main k.1.1 h))
back main_rest k h = main_bits_back k.0 (owner_back of_main k.1 h)
back declaration_done k h = declarations_back k h
back (action c) k h = action_back k.0 c (done_back c k.1 h)
back (action_name c) k h = named_back c k.0 (done_back c k.1 h)
back (jump_target c) k h = hit refl (done_back c k.1 h)
back (call_open c) k h = hit refl (hit refl (done_back c k.1.1 h))
back (destination c) k h = hit refl (subscript_back k.1.0 (of_destination c) (bits_back k.1.1.0 (of_destination c) (part_back (of_destination c) k.1.1.1 h)))
back (action_done c) k h = done_back c k h
back (alternatives_begin c) k h = hit refl (alternatives_back k.1.0 (done_back c k.1.1 h))
back call_close k h = hit refl h
back first_alternative k h = alternatives_back k h
back selector k h = selected_back k h
back selector_rest k h = selector_range k.0 (becomes_back k.1 h)
back selector_second k h = selector_literal k.0 (becomes_back k.1 h)
back selector_becomes k h = becomes_back k h
back otherwise_becomes k h = hit refl (action_back k.1.0 in_last (done_back in_last k.1.1 h))
back list_item k h = list_first k.0 (list_range k.1.0 (items_back k.1.1 h))
back list_item_rest k h = list_range k.0 (items_back k.1 h)
back list_item_second k h = list_literal k.0 (items_back k.1 h)
back list_rest k h = items_back k h
back (operand u) k h = operand_back k.0 u (part_back (of_expression u) k.1 h)
back (access_rest q) k h = subscript_back k.0 q (bits_back k.1.0 q (part_back q k.1.1 h))
back (access_bits_lem q) k h = bits_back k.0 q (part_back q k.1 h)
back (bits_first q) k h = hit refl (bits_end_back k.1.0 q (part_back q k.1.1 h))
back (bits_more q) k h = bits_end_back k.0 q (part_back q k.1 h)
back (bits_second q) k h = hit refl (hit refl (part_back q k.1.1 h))
back (bits_close q) k h = hit refl (part_back q k.1 h)
back (part_done q) k h = part_back q k h

-- COMPLETE: the tokens of a stack's trees are read as those trees
reads_all : (γ : Stack) (x : (stack_l γ).tree) → Reads ((stack_l γ).tokens x []) γ x
unfolding read
reads_all [] x = record { is = refl }
reads_all (s ∷ σ) x = back s x.0 (reads_all σ x.1)

pub complete : (γ : Stack) (x : (stack_l γ).tree) → read ((stack_l γ).tokens x []) γ ≡ some x
complete γ x = (reads_all γ x).is
