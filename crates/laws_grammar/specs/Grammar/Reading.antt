-- The recogniser with trees: `read` makes the moves of the rows and builds the tree. What it builds stands for what it read.
use Rattle.std.specs.Prelude.{◌≡◌, refl, Bool, true, false, [], ◌∷◌, T}
use Rattle.std.proofs.Common.{sym, ap, ◌∙◌, subst}
use Rattle.std.proofs.Math.Option.{Option, none, some, map, none-ne-some, some-injective, map-eq-some_iff}
use Rattle.rules.specs.Text.Tokens.{Kind, Info, Token, tk, same}
use Rattle.laws_grammar.specs.Grammar.Kinds.{same_eq}
use Rattle.rules.specs.Grammar.Trees.{Tokens}
use Rattle.laws_grammar.specs.Cited.Rows.{State, Move, go, open_to, shut, Stack, after, first}
use Rattle.laws_grammar.specs.Grammar.Meanings.{Lang, meaning, move_l, stack_l, Step, Steps, steps}

unfoldable pub find : {M : Lang} → Steps M → Kind → Option (Step M)
find [] k = none
find (e ∷ es) k = first (same e.on k) e (find es k)

-- what is found for a kind is a step on that kind
find_on_first : {M : Lang} (d e : Step M) (k : Kind) (o : Option (Step M)) (b : Bool) → same d.on k ≡ b → (o ≡ some e → e.on ≡ k) → first b d o ≡ some e → e.on ≡ k
find_on_first d e k o true q ih r = ap (λ x. x.on) (sym (some-injective d e r)) ∙ same_eq d.on k (subst T (sym q) tt)
find_on_first d e k o false q ih r = ih r

pub find_on : {M : Lang} (es : Steps M) (k : Kind) (e : Step M) → find es k ≡ some e → e.on ≡ k
unfolding find
find_on [] k e p = absurd (none-ne-some e p)
find_on (d ∷ es) k e p = find_on_first d e k (find es k) (same d.on k) refl (find_on es k e) p

-- the trees of the stack behind a move: the move's, and the rest's
unfoldable pub split : (m : Move) (σ : Stack) → (stack_l (after m σ)).tree → (move_l m).tree × (stack_l σ).tree
split (go s) σ x = x
split (open_to s t) σ x = ((x.0, x.1.0), x.1.1)
split shut σ x = (tt, x)

pub split_tokens : (m : Move) (σ : Stack) (x : (stack_l (after m σ)).tree) (ts : Tokens)
    → (move_l m).tokens (split m σ x).0 ((stack_l σ).tokens (split m σ x).1 ts) ≡ (stack_l (after m σ)).tokens x ts
unfolding split
split_tokens (go s) σ x ts = refl
split_tokens (open_to s t) σ x ts = refl
split_tokens shut σ x ts = refl

-- the trees of the stack before a step
unfoldable pub put : (s : State) (σ : Stack) → Info → (e : Step (meaning s)) → (stack_l (after e.move σ)).tree → (stack_l (s ∷ σ)).tree
put s σ i e x = let p = split e.move σ x in (e.build i p.0, p.1)

unfoldable pub act : (s : State) (σ : Stack) → Info → ((γ : Stack) → Option (stack_l γ).tree) → Option (Step (meaning s)) → Option (stack_l (s ∷ σ)).tree
act s σ i next none = none
act s σ i next (some e) = map (put s σ i e) (next (after e.move σ))

-- the trees that the tokens stand for, read from a stack to its end
unfoldable pub read : Tokens → (γ : Stack) → Option (stack_l γ).tree
read [] [] = some tt
read [] (s ∷ σ) = none
read (t ∷ ts) [] = none
read (t ∷ ts) (s ∷ σ) = act s σ t.info (read ts) (find (steps s) t.kind)

put_tokens : (s : State) (σ : Stack) (i : Info) (e : Step (meaning s)) (x : (stack_l (after e.move σ)).tree) (ts : Tokens)
    → (stack_l (s ∷ σ)).tokens (put s σ i e x) ts ≡ tk e.on i ∷ (stack_l (after e.move σ)).tokens x ts
unfolding put
put_tokens s σ i e x ts =
    e.law i (split e.move σ x).0 ((stack_l σ).tokens (split e.move σ x).1 ts) ∙ ap (λ l. tk e.on i ∷ l) (split_tokens e.move σ x ts)

-- SOUND: what is read stands for the tokens
sound_act : (s : State) (σ : Stack) (t : Token) (ts : Tokens) (o : Option (Step (meaning s))) → find (steps s) t.kind ≡ o
    → ((γ : Stack) (x : (stack_l γ).tree) → read ts γ ≡ some x → (stack_l γ).tokens x [] ≡ ts)
    → (x : (stack_l (s ∷ σ)).tree) → act s σ t.info (read ts) o ≡ some x → (stack_l (s ∷ σ)).tokens x [] ≡ t ∷ ts
unfolding act
sound_act s σ t ts none f ih x p = absurd (none-ne-some x p)
sound_act s σ t ts (some e) f ih x p =
    let q = (map-eq-some_iff (put s σ t.info e) (read ts (after e.move σ))).0 p in
    let on : e.on ≡ t.kind = find_on (steps s) t.kind e f in
    ap (λ y. (stack_l (s ∷ σ)).tokens y []) (sym q.2)
    ∙ put_tokens s σ t.info e q.0 []
    ∙ ap (λ l. tk e.on t.info ∷ l) (ih (after e.move σ) q.0 q.1)
    ∙ ap (λ k. tk k t.info ∷ ts) on

pub sound : (ts : Tokens) (γ : Stack) (x : (stack_l γ).tree) → read ts γ ≡ some x → (stack_l γ).tokens x [] ≡ ts
unfolding read
sound [] [] x p = refl
sound [] (s ∷ σ) x p = absurd (none-ne-some x p)
sound (t ∷ ts) [] x p = absurd (none-ne-some x p)
sound (t ∷ ts) (s ∷ σ) x p = sound_act s σ t ts (find (steps s) t.kind) refl (sound ts) x p
