-- The tokens of selectors.
use Rattle.std.specs.Prelude.{ℕ, ◌≡◌, [], ◌∷◌, map, get_or}
use Rattle.std.proofs.Common.{ap, ◌∙◌}
use Rattle.rules.specs.Text.Tokens.{Kind, Info, tk, Const, Masked, Colon, Comma, LBra, RBra}
use Rattle.rules.specs.Grammar.Trees.{Tokens, Literal, exact, masked, literal_tokens, Range, single, to, range_tokens, Items, close, item, items_tokens}
use Rattle.rules.specs.Grammar.Trees.{Selector, one_of, any_of, selector_tokens}
use Rattle.trees.specs.Written.{Written, nothing, token, then, alone, all_equal}

-- `square` is the depth behind `[`; commas stand there only
pub data Choosing (square : ℕ → ℕ) : ℕ → Kind → ℕ → Type 0 where
  const : (m : ℕ) → Choosing square m Const m
  pattern : (m : ℕ) → Choosing square m Masked m
  colon : (m : ℕ) → Choosing square m Colon m
  comma : (m : ℕ) → Choosing square (square m) Comma (square m)
  open_list : (m : ℕ) → Choosing square m LBra (square m)
  shut_list : (m : ℕ) → Choosing square (square m) RBra m

abbrev pub Chosen : (ℕ → ℕ) → ℕ → (Tokens → Tokens) → ℕ → Type 0
Chosen square = Written (Choosing square)

module _ {square : ℕ → ℕ} where
  literal_written : (l : Literal) (m : ℕ) → Chosen square m (literal_tokens l) m
  literal_written (exact i) m = alone (const m) i
  literal_written (masked i) m = alone (pattern m) i

  range_written : (r : Range) (m : ℕ) → Chosen square m (range_tokens r) m
  range_written single m = nothing
  range_written (to c l) m = token (colon m) c (literal_written l m)

  item_written : (l : Literal) (r : Range) (m : ℕ) → Chosen square m (λ ts. literal_tokens l (range_tokens r ts)) m
  item_written l r m = then (literal_written l m) (range_written r m)

  items_written : (v : Items) (m : ℕ) → Chosen square (square m) (items_tokens v) m
  items_written (close r) m = alone (shut_list m) r
  items_written (item c l r v) m = token (comma m) c (then (item_written l r (square m)) (items_written v m))

  pub selector_written : (s : Selector) (m : ℕ) → Chosen square m (selector_tokens s) m
  selector_written (one_of l r) m = item_written l r m
  selector_written (any_of b l r v) m = token (open_list m) b (then (item_written l r (square m)) (items_written v m))

-- what is equal at all of their kinds, or at all but that of commas
abbrev pub Alike : {X : Type 0} → (Kind → X) → (Kind → X) → Type 0
Alike f g = map f (Const ∷ Masked ∷ Colon ∷ LBra ∷ RBra ∷ []) ≡ map g (Const ∷ Masked ∷ Colon ∷ LBra ∷ RBra ∷ [])

pub choosing_equal : {X : Type 0} {square : ℕ → ℕ} {l m : ℕ} {k : Kind} (f g : Kind → X) → Alike f g → f Comma ≡ g Comma → Choosing square l k m → f k ≡ g k
choosing_equal f g e c (const m) = ap (λ l. get_or l 0 (f Const)) e
choosing_equal f g e c (pattern m) = ap (λ l. get_or l 1 (f Masked)) e
choosing_equal f g e c (colon m) = ap (λ l. get_or l 2 (f Colon)) e
choosing_equal f g e c (open_list m) = ap (λ l. get_or l 3 (f LBra)) e
choosing_equal f g e c (shut_list m) = ap (λ l. get_or l 4 (f RBra)) e
choosing_equal f g e c (comma m) = c

-- A READER whom none of them changes: to be shown by one `refl`
module _ {A : Type 0} (run : ℕ → Tokens → A) (square : ℕ → ℕ) where
  abbrev X : Type 0
  X = ℕ → Info → Tokens → A

  abbrev pub Unmoved : Type 0
  Unmoved =
      ◌≡◌ {A = X × X × X × X × X × X} (
        λ m i ts. run m (tk Const i ∷ ts),
        λ m i ts. run m (tk Masked i ∷ ts),
        λ m i ts. run m (tk Colon i ∷ ts),
        λ m i ts. run (square m) (tk Comma i ∷ ts),
        λ m i ts. run m (tk LBra i ∷ ts),
        λ m i ts. run (square m) (tk RBra i ∷ ts),
      )
      (λ m i ts. run m ts, λ m i ts. run m ts, λ m i ts. run m ts, λ m i ts. run (square m) ts, λ m i ts. run (square m) ts, λ m i ts. run m ts)

  step_passed : Unmoved → (l m : ℕ) (k : Kind) → Choosing square l k m → (i : Info) (ts : Tokens) → run l (tk k i ∷ ts) ≡ run m ts
  step_passed e l n k (const m) i ts = ap (λ p. p.0 m i ts) e
  step_passed e l n k (pattern m) i ts = ap (λ p. p.1 m i ts) e
  step_passed e l n k (colon m) i ts = ap (λ p. p.2 m i ts) e
  step_passed e l n k (comma m) i ts = ap (λ p. p.3 m i ts) e
  step_passed e l n k (open_list m) i ts = ap (λ p. p.4 m i ts) e
  step_passed e l n k (shut_list m) i ts = ap (λ p. p.5 m i ts) e

  pub chosen_passes : {m n : ℕ} {f : Tokens → Tokens} → Unmoved → Chosen square m f n → (ts : Tokens) → run m (f ts) ≡ run n ts
  chosen_passes e = all_equal run (step_passed e)

-- A reader whose depth they change, but to whom it does not matter in front of what follows them.
module _ {A : Type 0} (run : ℕ → Tokens → A) (next : Kind → ℕ → ℕ) where
  abbrev pub before : Kind → ℕ → Info → Tokens → A
  before k m i ts = run m (tk k i ∷ ts)

  abbrev pub behind : Kind → ℕ → Info → Tokens → A
  behind k m i ts = run (next k m) ts

  pub settles : {square : ℕ → ℕ} {l n : ℕ} {f : Tokens → Tokens} → Alike before behind → before Comma ≡ behind Comma
      → Chosen square l f n → (ts : Tokens) → ((m : ℕ) → run m ts ≡ run 0 ts) → (m : ℕ) → run m (f ts) ≡ run 0 ts
  settles e c nothing ts h m = h m
  settles e c (token {k = k} {f} s i w) ts h m =
      ap (λ (x : ℕ → Info → Tokens → A). x m i (f ts)) (choosing_equal before behind e c s) ∙ settles e c w ts h (next k m)
