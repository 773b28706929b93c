-- The moves alone, with no bound on the depth: where the tokens lead from a stack. What leads to the empty stack is what can be read.
use Rattle.std.specs.Prelude.{◌≡◌, refl, Bool, true, false, [], ◌∷◌, ◌++◌}
use Rattle.std.proofs.Common.{sym, ap, ◌∙◌, subst}
use Rattle.std.proofs.Math.Option.{Option, none, some, map, none-ne-some, some-injective, map-eq-some_iff}
use Rattle.rules.specs.Text.Tokens.{Kind, Token, same}
use Rattle.rules.specs.Grammar.Trees.{Tokens}
use Rattle.laws_grammar.specs.Cited.Rows.{Rule, Row, ◌⇒◌, row, lookup, first}
use Rattle.laws_grammar.specs.Grammar.Meanings.{Lang, meaning, stack_l, Step, Steps, steps}
use Rattle.laws_grammar.specs.Grammar.Reading.{find, put, act, read}
use Rattle.laws_grammar.specs.Cited.Rows.{in_block, in_counted, in_selected, in_last, test, choose, value, in_parens, in_subscript}
use Rattle.laws_grammar.specs.Cited.Rows.{of_expression, of_destination, of_mapping, of_words, of_name, of_main}
use Rattle.laws_grammar.specs.Cited.Rows.{State, title, title_becomes, title_begin, declaration, heading_name, heading_close, declarator, declarator_rest}
use Rattle.laws_grammar.specs.Cited.Rows.{first_word, word_colon, second_word, words_close, words_bits, own_bits, own_bits_more, own_bits_second, own_bits_close, own_bits_done}
use Rattle.laws_grammar.specs.Cited.Rows.{body_or_mapping, body_begin, mapping_bits, main_name, main_rest, declaration_done}
use Rattle.laws_grammar.specs.Cited.Rows.{action, action_name, jump_target, call_open, destination, action_done, alternatives_begin, call_close, first_alternative, selector}
use Rattle.laws_grammar.specs.Cited.Rows.{selector_rest, selector_second, selector_becomes, otherwise_becomes, list_item, list_item_rest, list_item_second, list_rest}
use Rattle.laws_grammar.specs.Cited.Rows.{operand, access_rest, access_bits_lem, bits_first, bits_more, bits_second, bits_close, part_done}
use Rattle.laws_grammar.specs.Cited.Rows.{Move, Stack, after}

-- a step without its tree is a rule
abbrev pub plain_rule : {M : Lang} → Step M → Rule
plain_rule e = e.on ⇒ e.move

abbrev pub plain_row : {M : Lang} → Steps M → Row
plain_row [] = []
plain_row (e ∷ es) = plain_rule e ∷ plain_row es

-- the rows are the steps without their trees
pub rows_agree : (s : State) → row s ≡ plain_row (steps s)
rows_agree title = refl
rows_agree title_becomes = refl
rows_agree title_begin = refl
rows_agree declaration = refl
rows_agree heading_name = refl
rows_agree heading_close = refl
rows_agree declarator = refl
rows_agree declarator_rest = refl
rows_agree first_word = refl
rows_agree word_colon = refl
rows_agree second_word = refl
rows_agree words_close = refl
rows_agree words_bits = refl
rows_agree (own_bits w) = refl
rows_agree (own_bits_more w) = refl
rows_agree (own_bits_second w) = refl
rows_agree (own_bits_close w) = refl
rows_agree (own_bits_done of_words) = refl
rows_agree (own_bits_done of_name) = refl
rows_agree (own_bits_done of_main) = refl
rows_agree body_or_mapping = refl
rows_agree body_begin = refl
rows_agree mapping_bits = refl
rows_agree main_name = refl
rows_agree main_rest = refl
rows_agree declaration_done = refl
rows_agree (action c) = refl
rows_agree (action_name c) = refl
rows_agree (jump_target c) = refl
rows_agree (call_open c) = refl
rows_agree (destination c) = refl
rows_agree (action_done in_block) = refl
rows_agree (action_done in_counted) = refl
rows_agree (action_done in_selected) = refl
rows_agree (action_done in_last) = refl
rows_agree (alternatives_begin c) = refl
rows_agree call_close = refl
rows_agree first_alternative = refl
rows_agree selector = refl
rows_agree selector_rest = refl
rows_agree selector_second = refl
rows_agree selector_becomes = refl
rows_agree otherwise_becomes = refl
rows_agree list_item = refl
rows_agree list_item_rest = refl
rows_agree list_item_second = refl
rows_agree list_rest = refl
rows_agree (operand u) = refl
rows_agree (access_rest (of_expression (test c))) = refl
rows_agree (access_rest (of_expression (choose c))) = refl
rows_agree (access_rest (of_expression (value in_block))) = refl
rows_agree (access_rest (of_expression (value in_counted))) = refl
rows_agree (access_rest (of_expression (value in_selected))) = refl
rows_agree (access_rest (of_expression (value in_last))) = refl
rows_agree (access_rest (of_expression in_parens)) = refl
rows_agree (access_rest (of_expression in_subscript)) = refl
rows_agree (access_rest (of_destination c)) = refl
rows_agree (access_rest of_mapping) = refl
rows_agree (access_bits_lem (of_expression (test c))) = refl
rows_agree (access_bits_lem (of_expression (choose c))) = refl
rows_agree (access_bits_lem (of_expression (value in_block))) = refl
rows_agree (access_bits_lem (of_expression (value in_counted))) = refl
rows_agree (access_bits_lem (of_expression (value in_selected))) = refl
rows_agree (access_bits_lem (of_expression (value in_last))) = refl
rows_agree (access_bits_lem (of_expression in_parens)) = refl
rows_agree (access_bits_lem (of_expression in_subscript)) = refl
rows_agree (access_bits_lem (of_destination c)) = refl
rows_agree (access_bits_lem of_mapping) = refl
rows_agree (bits_first q) = refl
rows_agree (bits_more q) = refl
rows_agree (bits_second q) = refl
rows_agree (bits_close q) = refl
rows_agree (part_done (of_expression (test c))) = refl
rows_agree (part_done (of_expression (choose c))) = refl
rows_agree (part_done (of_expression (value in_block))) = refl
rows_agree (part_done (of_expression (value in_counted))) = refl
rows_agree (part_done (of_expression (value in_selected))) = refl
rows_agree (part_done (of_expression (value in_last))) = refl
rows_agree (part_done (of_expression in_parens)) = refl
rows_agree (part_done (of_expression in_subscript)) = refl
rows_agree (part_done (of_destination c)) = refl
rows_agree (part_done of_mapping) = refl

move_of : {M : Lang} → Option (Step M) → Option Move
move_of none = none
move_of (some e) = some e.move

lookup_first : {M : Lang} (e : Step M) (o : Option Move) (o' : Option (Step M)) (b : Bool) → o ≡ move_of o' → first b e.move o ≡ move_of (first b e o')
unfolding move_of
lookup_first e o o' true p = refl
lookup_first e o o' false p = p

lookup_plain : {M : Lang} (es : Steps M) (k : Kind) → lookup (plain_row es) k ≡ move_of (find es k)
unfolding lookup find move_of
lookup_plain [] k = refl
lookup_plain (e ∷ es) k = lookup_first e (lookup (plain_row es) k) (find es k) (same e.on k) (lookup_plain es k)

lookup_find : (s : State) (k : Kind) (o : Option (Step (meaning s))) → find (steps s) k ≡ o → lookup (row s) k ≡ move_of o
lookup_find s k o p = ap (λ r. lookup r k) (rows_agree s) ∙ lookup_plain (steps s) k ∙ ap move_of p

-- where the tokens lead
unfoldable pub trail : Stack → (Stack → Option Stack) → Option Move → Option Stack
trail σ next none = none
trail σ next (some m) = next (after m σ)

unfoldable pub follow : Tokens → Stack → Option Stack
follow [] γ = some γ
follow (t ∷ ts) [] = none
follow (t ∷ ts) (s ∷ σ) = trail σ (follow ts) (lookup (row s) t.kind)

pub no_empty_some : {A : Type 0} {x : A} {B : Type 0} → none ≡ some x → B
no_empty_some {x = x} p = absurd (none-ne-some x p)

IsNil : Stack → Type 0
IsNil [] = Unit {0}
IsNil (s ∷ σ) = ⊥

pub cons_not_nil : {s : State} {σ : Stack} → some (s ∷ σ) ≡ some [] → ⊥
unfolding IsNil
cons_not_nil {s} {σ} p = subst IsNil (sym (some-injective (s ∷ σ) [] p)) tt

-- what can be read leads to the empty stack
follow_of_read_act : (s : State) (σ : Stack) (t : Token) (ts : Tokens) (x : (stack_l (s ∷ σ)).tree) (o : Option (Step (meaning s))) → find (steps s) t.kind ≡ o
    → ((γ : Stack) (y : (stack_l γ).tree) → read ts γ ≡ some y → follow ts γ ≡ some [])
    → act s σ t.info (read ts) o ≡ some x → trail σ (follow ts) (lookup (row s) t.kind) ≡ some []
unfolding act move_of trail
follow_of_read_act s σ t ts x none p ih h = no_empty_some h
follow_of_read_act s σ t ts x (some e) p ih h =
    let q = (map-eq-some_iff (put s σ t.info e) (read ts (after e.move σ))).0 h in
    ap (trail σ (follow ts)) (lookup_find s t.kind (some e) p) ∙ ih (after e.move σ) q.0 q.1

pub follow_of_read : (ts : Tokens) (γ : Stack) (x : (stack_l γ).tree) → read ts γ ≡ some x → follow ts γ ≡ some []
unfolding read follow
follow_of_read [] [] x h = refl
follow_of_read [] (s ∷ σ) x h = no_empty_some h
follow_of_read (t ∷ ts) [] x h = no_empty_some h
follow_of_read (t ∷ ts) (s ∷ σ) x h = follow_of_read_act s σ t ts x (find (steps s) t.kind) refl (follow_of_read ts) h

-- and the other way round
abbrev pub Readable : Tokens → Stack → Type 0
Readable ts γ = (x : (stack_l γ).tree) × read ts γ ≡ some x

read_of_follow_act : (s : State) (σ : Stack) (t : Token) (ts : Tokens) (o : Option (Step (meaning s))) → find (steps s) t.kind ≡ o
    → ((γ : Stack) → follow ts γ ≡ some [] → Readable ts γ)
    → trail σ (follow ts) (lookup (row s) t.kind) ≡ some [] → (x : (stack_l (s ∷ σ)).tree) × act s σ t.info (read ts) o ≡ some x
unfolding act move_of trail
read_of_follow_act s σ t ts none p ih h = no_empty_some (sym (ap (trail σ (follow ts)) (lookup_find s t.kind none p)) ∙ h)
read_of_follow_act s σ t ts (some e) p ih h =
    let q = ih (after e.move σ) (sym (ap (trail σ (follow ts)) (lookup_find s t.kind (some e) p)) ∙ h) in
    (put s σ t.info e q.0, ap (map (put s σ t.info e)) q.1)

pub read_of_follow : (ts : Tokens) (γ : Stack) → follow ts γ ≡ some [] → Readable ts γ
unfolding read follow
read_of_follow [] [] h = (tt, refl)
read_of_follow [] (s ∷ σ) h = absurd (cons_not_nil h)
read_of_follow (t ∷ ts) [] h = no_empty_some h
read_of_follow (t ∷ ts) (s ∷ σ) h = read_of_follow_act s σ t ts (find (steps s) t.kind) refl (read_of_follow ts) h

-- to follow one list and then another is to follow both
abbrev pub onward : Tokens → Option Stack → Option Stack
onward ts none = none
onward ts (some γ) = follow ts γ

follow_append_trail : (ps ts : Tokens) (σ : Stack) (o : Option Move) → ((γ : Stack) → follow (ps ++ ts) γ ≡ onward ts (follow ps γ))
    → trail σ (follow (ps ++ ts)) o ≡ onward ts (trail σ (follow ps) o)
unfolding trail
follow_append_trail ps ts σ none ih = refl
follow_append_trail ps ts σ (some m) ih = ih (after m σ)

pub follow_append : (ps ts : Tokens) (γ : Stack) → follow (ps ++ ts) γ ≡ onward ts (follow ps γ)
unfolding follow
follow_append [] ts γ = refl
follow_append (p ∷ ps) ts [] = refl
follow_append (p ∷ ps) ts (s ∷ σ) = follow_append_trail ps ts σ (lookup (row s) p.kind) (follow_append ps ts)
