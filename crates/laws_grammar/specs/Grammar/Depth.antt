-- How many brackets are open, counted on the tokens; and that the stack has one state for each.
use Rattle.std.specs.Prelude.{◌≡◌, refl, Bool, true, false, not, ◌&&◌, ◌⊎◌, [], ◌∷◌, ◌++◌, ℕ, suc, ◌≤◌, T, length}
use Rattle.std.proofs.Common.{sym, ap, ◌∙◌, subst, inl, inr, arith, leb→le, le→leb}
use Rattle.std.proofs.Math.Option.{Option, some, none-ne-some, some-injective}
use Rattle.rules.specs.Text.Tokens.{Kind, Token, same}
use Rattle.laws_grammar.specs.Grammar.Kinds.{same_eq}
use Rattle.rules.specs.Grammar.Trees.{Tokens}
use Rattle.rules.specs.Grammar.Verdict.{opens, closes, down, counted_by, count, opened}
use Rattle.laws_grammar.specs.Cited.Rows.{Rule, Row, row, lookup, first, too_deep}
use Rattle.laws_grammar.specs.Cited.Rows.{in_block, in_counted, in_selected, in_last, test, choose, value, in_parens, in_subscript}
use Rattle.laws_grammar.specs.Cited.Rows.{of_expression, of_destination, of_mapping, of_words, of_name, of_main}
use Rattle.laws_grammar.specs.Cited.Rows.{State, title, title_becomes, title_begin, declaration, heading_name, heading_close, declarator, declarator_rest}
use Rattle.laws_grammar.specs.Cited.Rows.{first_word, word_colon, second_word, words_close, words_bits, own_bits, own_bits_more, own_bits_second, own_bits_close, own_bits_done}
use Rattle.laws_grammar.specs.Cited.Rows.{body_or_mapping, body_begin, mapping_bits, main_name, main_rest, declaration_done}
use Rattle.laws_grammar.specs.Cited.Rows.{action, action_name, jump_target, call_open, destination, action_done, alternatives_begin, call_close, first_alternative, selector}
use Rattle.laws_grammar.specs.Cited.Rows.{selector_rest, selector_second, selector_becomes, otherwise_becomes, list_item, list_item_rest, list_item_second, list_rest}
use Rattle.laws_grammar.specs.Cited.Rows.{operand, access_rest, access_bits_lem, bits_first, bits_more, bits_second, bits_close, part_done}
use Rattle.laws_grammar.specs.Cited.Rows.{Move, go, open_to, shut, Stack, after}

pub both_0 : (a b : Bool) → T (a && b) → T a
both_0 true b t = tt
both_0 false b t = absurd t

pub both_1 : (a b : Bool) → T (a && b) → T b
both_1 true b t = t
both_1 false b t = absurd t

pub opened_append : (d : ℕ) (ps ts : Tokens) → opened d (ps ++ ts) ≡ opened (opened d ps) ts
unfolding opened
opened_append d [] ts = refl
opened_append d (p ∷ ps) ts = opened_append (count d p.kind) ps ts

pub opened_one : (d : ℕ) (t : Token) → opened d (t ∷ []) ≡ count d t.kind
unfolding opened
opened_one d t = refl

-- inside the description's BEGIN
pub inside : State → Bool
inside title = false
inside title_becomes = false
inside title_begin = false
inside declaration = true
inside heading_name = true
inside heading_close = true
inside declarator = true
inside declarator_rest = true
inside first_word = true
inside word_colon = true
inside second_word = true
inside words_close = true
inside words_bits = true
inside (own_bits w) = true
inside (own_bits_more w) = true
inside (own_bits_second w) = true
inside (own_bits_close w) = true
inside (own_bits_done w) = true
inside body_or_mapping = true
inside body_begin = true
inside mapping_bits = true
inside main_name = true
inside main_rest = true
inside declaration_done = true
inside (action c) = true
inside (action_name c) = true
inside (jump_target c) = true
inside (call_open c) = true
inside (destination c) = true
inside (action_done c) = true
inside (alternatives_begin c) = true
inside call_close = true
inside first_alternative = true
inside selector = true
inside selector_rest = true
inside selector_second = true
inside selector_becomes = true
inside otherwise_becomes = true
inside list_item = true
inside list_item_rest = true
inside list_item_second = true
inside list_rest = true
inside (operand u) = true
inside (access_rest q) = true
inside (access_bits_lem q) = true
inside (bits_first q) = true
inside (bits_more q) = true
inside (bits_second q) = true
inside (bits_close q) = true
inside (part_done q) = true

-- A rule fits if its move opens where its kind does, and closes where it does. h: the state is inside.
fits_go : Bool → Bool → Bool → Bool → Bool
fits_go true c h i = not h && i
fits_go false true h i = false
fits_go false false true i = i
fits_go false false false i = not i

fits : Bool → Bool → Bool → Move → Bool
fits o c h (go a) = fits_go o c h (inside a)
fits o c h (open_to a b) = o && (h && (inside a && inside b))
fits o c h shut = not o && (c && h)

all_fit : Bool → Row → Bool
all_fit h [] = true
all_fit h (r ∷ rs) = fits (opens r.on) (closes r.on) h r.move && all_fit h rs

row_fits : (s : State) → T (all_fit (inside s) (row s))
unfolding all_fit fits fits_go inside opens closes
row_fits title = tt
row_fits title_becomes = tt
row_fits title_begin = tt
row_fits declaration = tt
row_fits heading_name = tt
row_fits heading_close = tt
row_fits declarator = tt
row_fits declarator_rest = tt
row_fits first_word = tt
row_fits word_colon = tt
row_fits second_word = tt
row_fits words_close = tt
row_fits words_bits = tt
row_fits (own_bits w) = tt
row_fits (own_bits_more w) = tt
row_fits (own_bits_second w) = tt
row_fits (own_bits_close w) = tt
row_fits (own_bits_done of_words) = tt
row_fits (own_bits_done of_name) = tt
row_fits (own_bits_done of_main) = tt
row_fits body_or_mapping = tt
row_fits body_begin = tt
row_fits mapping_bits = tt
row_fits main_name = tt
row_fits main_rest = tt
row_fits declaration_done = tt
row_fits (action c) = tt
row_fits (action_name c) = tt
row_fits (jump_target c) = tt
row_fits (call_open c) = tt
row_fits (destination c) = tt
row_fits (action_done in_block) = tt
row_fits (action_done in_counted) = tt
row_fits (action_done in_selected) = tt
row_fits (action_done in_last) = tt
row_fits (alternatives_begin c) = tt
row_fits call_close = tt
row_fits first_alternative = tt
row_fits selector = tt
row_fits selector_rest = tt
row_fits selector_second = tt
row_fits selector_becomes = tt
row_fits otherwise_becomes = tt
row_fits list_item = tt
row_fits list_item_rest = tt
row_fits list_item_second = tt
row_fits list_rest = tt
row_fits (operand u) = tt
row_fits (access_rest (of_expression (test c))) = tt
row_fits (access_rest (of_expression (choose c))) = tt
row_fits (access_rest (of_expression (value in_block))) = tt
row_fits (access_rest (of_expression (value in_counted))) = tt
row_fits (access_rest (of_expression (value in_selected))) = tt
row_fits (access_rest (of_expression (value in_last))) = tt
row_fits (access_rest (of_expression in_parens)) = tt
row_fits (access_rest (of_expression in_subscript)) = tt
row_fits (access_rest (of_destination c)) = tt
row_fits (access_rest of_mapping) = tt
row_fits (access_bits_lem (of_expression (test c))) = tt
row_fits (access_bits_lem (of_expression (choose c))) = tt
row_fits (access_bits_lem (of_expression (value in_block))) = tt
row_fits (access_bits_lem (of_expression (value in_counted))) = tt
row_fits (access_bits_lem (of_expression (value in_selected))) = tt
row_fits (access_bits_lem (of_expression (value in_last))) = tt
row_fits (access_bits_lem (of_expression in_parens)) = tt
row_fits (access_bits_lem (of_expression in_subscript)) = tt
row_fits (access_bits_lem (of_destination c)) = tt
row_fits (access_bits_lem of_mapping) = tt
row_fits (bits_first q) = tt
row_fits (bits_more q) = tt
row_fits (bits_second q) = tt
row_fits (bits_close q) = tt
row_fits (part_done (of_expression (test c))) = tt
row_fits (part_done (of_expression (choose c))) = tt
row_fits (part_done (of_expression (value in_block))) = tt
row_fits (part_done (of_expression (value in_counted))) = tt
row_fits (part_done (of_expression (value in_selected))) = tt
row_fits (part_done (of_expression (value in_last))) = tt
row_fits (part_done (of_expression in_parens)) = tt
row_fits (part_done (of_expression in_subscript)) = tt
row_fits (part_done (of_destination c)) = tt
row_fits (part_done of_mapping) = tt

lookup_fits_first : (h : Bool) (r : Rule) (k : Kind) (m : Move) (o : Option Move) (b : Bool) → same r.on k ≡ b → T (fits (opens r.on) (closes r.on) h r.move)
    → (o ≡ some m → T (fits (opens k) (closes k) h m)) → first b r.move o ≡ some m → T (fits (opens k) (closes k) h m)
lookup_fits_first h r k m o true q f ih p =
    subst (λ x. T (fits (opens k) (closes k) h x)) (some-injective r.move m p)
    (subst (λ x. T (fits (opens x) (closes x) h r.move)) (same_eq r.on k (subst T (sym q) tt)) f)
lookup_fits_first h r k m o false q f ih p = ih p

lookup_fits : (h : Bool) (rs : Row) → T (all_fit h rs) → (k : Kind) (m : Move) → lookup rs k ≡ some m → T (fits (opens k) (closes k) h m)
unfolding lookup all_fit
lookup_fits h [] f k m p = absurd (none-ne-some m p)
lookup_fits h (r ∷ rs) f k m p =
    let f₀ = both_0 (fits (opens r.on) (closes r.on) h r.move) (all_fit h rs) f in
    let f₁ = both_1 (fits (opens r.on) (closes r.on) h r.move) (all_fit h rs) f in
    lookup_fits_first h r k m (lookup rs k) (same r.on k) refl f₀ (lookup_fits h rs f₁ k m) p

-- A stack is in the title, or wholly inside the description. d brackets are open.
abbrev pub Outer : Stack → Type 0
Outer [] = ⊥
Outer (s ∷ []) = T (not (inside s))
Outer (s ∷ t ∷ σ) = ⊥

abbrev pub Inner : Stack → Type 0
Inner [] = Unit {0}
Inner (s ∷ σ) = T (inside s) × Inner σ

abbrev pub Deep : Stack → ℕ → Type 0
Deep γ d = (Outer γ × (d ≡ 0)) ⊎ (Inner γ × (d ≡ length γ))

pub deep_title : Deep (title ∷ []) 0
unfolding inside
deep_title = inl (tt, refl)

not_both : (b : Bool) → T b → T (not b) → ⊥
not_both true t f = f
not_both false t f = t

outer_state : (s : State) (σ : Stack) → Outer (s ∷ σ) → T (not (inside s))
outer_state s [] o = o
outer_state s (t ∷ σ) o = absurd o

outer_go : (s a : State) (σ : Stack) → Outer (s ∷ σ) → T (not (inside a)) → Outer (a ∷ σ)
outer_go s a [] o t = t
outer_go s a (b ∷ σ) o t = absurd o

inner_of_outer : (s a : State) (σ : Stack) → Outer (s ∷ σ) → T (inside a) → Inner (a ∷ σ) × (1 ≡ length (a ∷ σ))
inner_of_outer s a [] o t = ((t, tt), refl)
inner_of_outer s a (b ∷ σ) o t = absurd o

-- one step, by what the kind does, whether the state is inside, and the move
step_go : (o c h : Bool) (s a : State) (σ : Stack) (d : ℕ) → inside s ≡ h → Deep (s ∷ σ) d → T (fits_go o c h (inside a)) → Deep (a ∷ σ) (counted_by o c d)
unfolding fits_go counted_by
step_go true c true s a σ d e p f = absurd f
step_go true c false s a σ d e (inl q) f =
    let r = inner_of_outer s a σ q.0 f in
    inr (r.0, ap suc q.1 ∙ r.1)
step_go true c false s a σ d e (inr q) f = absurd (not_both (inside s) q.0.0 (subst (λ b. T (not b)) (sym e) tt))
step_go false true h s a σ d e p f = absurd f
step_go false false true s a σ d e (inl q) f = absurd (not_both (inside s) (subst T (sym e) tt) (outer_state s σ q.0))
step_go false false true s a σ d e (inr q) f = inr ((f, q.0.1), q.1)
step_go false false false s a σ d e (inl q) f = inl (outer_go s a σ q.0 f, q.1)
step_go false false false s a σ d e (inr q) f = absurd (not_both (inside s) q.0.0 (subst (λ b. T (not b)) (sym e) tt))

step_open : (o c h : Bool) (s a b : State) (σ : Stack) (d : ℕ) → inside s ≡ h → Deep (s ∷ σ) d → T (o && (h && (inside a && inside b)))
    → Deep (a ∷ b ∷ σ) (counted_by o c d)
unfolding counted_by
step_open true c true s a b σ d e (inl q) f = absurd (not_both (inside s) (subst T (sym e) tt) (outer_state s σ q.0))
step_open true c true s a b σ d e (inr q) f =
    inr ((both_0 (inside a) (inside b) f, (both_1 (inside a) (inside b) f, q.0.1)), ap suc q.1)
step_open true c false s a b σ d e p f = absurd f
step_open false c h s a b σ d e p f = absurd f

step_shut : (o c h : Bool) (s : State) (σ : Stack) (d : ℕ) → inside s ≡ h → Deep (s ∷ σ) d → T (not o && (c && h)) → Deep σ (counted_by o c d)
unfolding counted_by
step_shut true c h s σ d e p f = absurd f
step_shut false false h s σ d e p f = absurd f
step_shut false true false s σ d e p f = absurd f
step_shut false true true s σ d e (inl q) f = absurd (not_both (inside s) (subst T (sym e) tt) (outer_state s σ q.0))
step_shut false true true s σ d e (inr q) f =
    inr (q.0.1, ap down q.1)

pub step_deep : (s : State) (σ : Stack) (k : Kind) (m : Move) (d : ℕ) → lookup (row s) k ≡ some m → Deep (s ∷ σ) d → Deep (after m σ) (count d k)
unfolding count fits
step_deep s σ k (go a) d p q = step_go (opens k) (closes k) (inside s) s a σ d refl q (lookup_fits (inside s) (row s) (row_fits s) k (go a) p)
step_deep s σ k (open_to a b) d p q = step_open (opens k) (closes k) (inside s) s a b σ d refl q (lookup_fits (inside s) (row s) (row_fits s) k (open_to a b) p)
step_deep s σ k shut d p q = step_shut (opens k) (closes k) (inside s) s σ d refl q (lookup_fits (inside s) (row s) (row_fits s) k shut p)

-- the bound: too deep is an opener with 32 open before it
pub too_deep_full : (s : State) (σ : Stack) (k : Kind) (m : Move) (d : ℕ) → lookup (row s) k ≡ some m → Deep (s ∷ σ) d → too_deep (suc (length σ)) m ≡ true
    → T (opens k) × (32 ≤ d)
unfolding too_deep fits
too_deep_full s σ k (go a) d p q r = absurd (subst T (sym r) tt)
too_deep_full s σ k (open_to a b) d p (inl q) r =
    let f = lookup_fits (inside s) (row s) (row_fits s) k (open_to a b) p in
    absurd (not_both (inside s) (both_0 (inside s) (inside a && inside b) (both_1 (opens k) (inside s && (inside a && inside b)) f)) (outer_state s σ q.0))
too_deep_full s σ k (open_to a b) d p (inr q) r =
    let f = lookup_fits (inside s) (row s) (row_fits s) k (open_to a b) p in
    let l : 32 ≤ suc (length σ) = leb→le 32 (suc (length σ)) (subst T (sym r) tt) in
    let e : d ≡ suc (length σ) = q.1 in
    (both_0 (opens k) (inside s && (inside a && inside b)) f, omega arith)
too_deep_full s σ k shut d p q r = absurd (subst T (sym r) tt)

full_go : (o c h i : Bool) → T o → T (fits_go o c h i) → T (not h)
unfolding fits_go
full_go true c true i t f = absurd f
full_go true c false i t f = tt
full_go false c h i t f = absurd t

full_shut : (o : Bool) (b : Bool) → T o → T (not o && b) → ⊥
full_shut true b t f = f
full_shut false b t f = t

pub full_too_deep : (s : State) (σ : Stack) (k : Kind) (m : Move) (d : ℕ) → lookup (row s) k ≡ some m → Deep (s ∷ σ) d → T (opens k) → 32 ≤ d
    → T (too_deep (suc (length σ)) m)
unfolding too_deep fits
full_too_deep s σ k (go a) d p (inl q) o l = let z : d ≡ 0 = q.1 in absurd (omega arith)
full_too_deep s σ k (go a) d p (inr q) o l =
    absurd (not_both (inside s) q.0.0 (full_go (opens k) (closes k) (inside s) (inside a) o (lookup_fits (inside s) (row s) (row_fits s) k (go a) p)))
full_too_deep s σ k (open_to a b) d p (inl q) o l = let z : d ≡ 0 = q.1 in absurd (omega arith)
full_too_deep s σ k (open_to a b) d p (inr q) o l =
    let e : d ≡ suc (length σ) = q.1 in
    le→leb 32 (suc (length σ)) (omega arith)
full_too_deep s σ k shut d p q o l =
    absurd (full_shut (opens k) (closes k && inside s) o (lookup_fits (inside s) (row s) (row_fits s) k shut p))
