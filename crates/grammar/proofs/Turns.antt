-- One turn of the recogniser's loop: the array of places and the stack of states move together.
-- Assumes nothing.
use mathlib.Core.Path.{◌≡◌, refl, sym, ap, ◌∙◌, subst}
use mathlib.Core.Bool.{Bool, true, false}
use mathlib.Core.Option.{Option, none, some}
use mathlib.Core.List.{List, [], ◌∷◌}
use Prim.Native.Nat.{ℕ, zero, suc, ◌+◌, ◌-◌, ◌≤◌, ◌<◌}
use native.Mathlib.Numerals.{add-one}
use native.Mathlib.Omega.{arith}
use borrow.Author.Tests.{le-leb, lt-leb}
use lib.ListN.{length, get_or, set, drop, length-set}
use lib.Seq.{drop-cons, drop-length, get_or-set_same, get_or-set_other}
use Rattle.rules.specs.Text.Tokens.{Token, tk, Name}
use Rattle.rules.specs.Grammar.Trees.{Tokens}
use Rattle.rules.specs.Grammar.Verdict.{any_info}
use Rattle.laws_grammar.specs.Cited.Answer.{Answer, accepted, refused20, refused21}
use Rattle.rules.specs.Limits.{deepest}
use Rattle.laws_grammar.specs.Cited.Kinds.{kind_at}
use Rattle.laws_grammar.specs.Grammar.Kinds.{kind_at_kind_no}
use Rattle.laws_grammar.specs.Cited.Rows.{State, title, Stack, Move, go, open_to, shut, row, lookup, too_deep, judge, run, recognise}
use Rattle.grammar.specs.Places.{place}
use Rattle.grammar.specs.Entries.{next_of}
use Rattle.records.specs.Holds.{kind_byte}
use Rattle.grammar.specs.Records.{KindsStand, answer_of, Answers}
use Rattle.grammar.specs.declared.Next.{Next}
use Rattle.grammar.specs.declared.Next.TheVariants.{Nowhere, On, Into, Out}
use Rattle.std.specs.Prelude.{Ok, Err}
use Rattle.grammar.specs.declared.Misplaced.TheVariants.{Unexpected, TooDeep}

-- the first m numbers of the array are the places of the stack's states, the innermost last
pub data Held : List ℕ → ℕ → Stack → Type 0 where
  bottom : {a : List ℕ} → Held a zero []
  over : {a : List ℕ} {m : ℕ} {s : State} {σ : Stack} → place s ≡ get_or a m 0 → Held a m σ → Held a (suc m) (s ∷ σ)

held_length : {a : List ℕ} {m : ℕ} {γ : Stack} → Held a m γ → length γ ≡ m
held_length bottom = refl
held_length (over e h) = ap suc (held_length h)

held_set : {a : List ℕ} {m : ℕ} {γ : Stack} (j v : ℕ) → m ≤ j → Held a m γ → Held (set a j v) m γ
held_set j v l bottom = bottom
held_set j v l (over {a} {m} e h) = over (e ∙ sym (get_or-set_other a j m v 0 (omega arith))) (held_set j v (omega arith) h)

held_put : {a : List ℕ} {m k : ℕ} {γ : Stack} (s : State) → m < length a → k ≡ suc m → Held a m γ → Held (set a m (place s)) k (s ∷ γ)
held_put {a} {m} {k} {γ} s l e h =
    subst (λ x. Held (set a m (place s)) x (s ∷ γ)) (sym e) (over (sym (get_or-set_same a m (place s) 0 l)) (held_set m (place s) (omega arith) h))

-- the innermost state, where there is one
pub record Innermost (a : List ℕ) (m : ℕ) (γ : Stack) : Type 0 where
  pub state : State
  pub rest : Stack
  pub is : γ ≡ state ∷ rest
  pub placed : place state ≡ get_or a (m - 1) 0
  pub held : Held a (m - 1) rest

innermost : {a : List ℕ} {m : ℕ} {γ : Stack} → Held a m γ → (m ≡ 0 → ⊥) → Innermost a m γ
innermost bottom some_state = absurd (some_state refl)
innermost (over {a} {m} {s} {σ} e h) some_state =
    let back : m ≡ suc m - 1 = omega arith in
    record { state = s; rest = σ; is = refl; placed = e ∙ ap (λ x. get_or a x 0) back; held = subst (λ x. Held a x σ) back h }

-- the answer on whatever tokens have these records, as a function of the tokens
abbrev Gives : List ℕ → ℕ → (Tokens → Answer) → Type 0
Gives bytes n f = (ts : Tokens) → KindsStand ts bytes n → recognise ts ≡ f ts

-- the recogniser of the rows, at token i with a stack
abbrev from : ℕ → Stack → Tokens → Answer
from i γ ts = run (drop i ts) i γ

-- the loop at token i
pub record Reached (bytes : List ℕ) (n : ℕ) (a : List ℕ) (m i : ℕ) : Type 0 where
  pub within : i ≤ n
  pub long : length a ≡ deepest
  pub few : m ≤ deepest
  pub stack : Stack
  pub held : Held a m stack
  pub gives : Gives bytes n (from i stack)

pub state_here : {bytes : List ℕ} {n : ℕ} {a : List ℕ} {m i : ℕ} → Reached bytes n a m i → (m ≡ 0 → ⊥) → (s : State) × place s ≡ get_or a (m - 1) 0
state_here reached some_state = let inner = innermost reached.held some_state in (inner.state, inner.placed)

-- a turn: the kind that was read, and what the innermost state does with it
pub record Turn (bytes : List ℕ) (n : ℕ) (a : List ℕ) (m i kind : ℕ) (next : Next) : Type 0 where
  pub reached : Reached bytes n a m i
  pub more : i < n
  pub some_state : m ≡ 0 → ⊥
  pub byte : kind ≡ kind_byte bytes i
  pub moves : (s : State) → place s ≡ get_or a (m - 1) 0 → next ≡ next_of (lookup (row s) (kind_at kind))

-- the turn as the recogniser of the rows has it, over the stack σ that is left
data Judged (bytes : List ℕ) (n i : ℕ) (σ : Stack) : Next → Type 0 where
  nowhere : Gives bytes n (λ ts. refused20 i) → Judged bytes n i σ Nowhere
  on : (s : State) → Gives bytes n (from (suc i) (s ∷ σ)) → Judged bytes n i σ (On (place s))
  into : (s t : State)
      → (deepest ≤ suc (length σ) → Gives bytes n (λ ts. refused21 i))
      → (suc (length σ) < deepest → Gives bytes n (from (suc i) (s ∷ t ∷ σ)))
      → Judged bytes n i σ (Into (place s) (place t))
  out : Gives bytes n (from (suc i) σ) → Judged bytes n i σ Out

judged : (bytes : List ℕ) (n i : ℕ) (s : State) (σ : Stack) (o : Option Move)
    → Gives bytes n (λ ts. judge σ i (run (drop (suc i) ts) (suc i)) s o) → Judged bytes n i σ (next_of o)
unfolding judge too_deep
judged bytes n i s σ none gives = nowhere gives
judged bytes n i s σ (some (go x)) gives = on x gives
judged bytes n i s σ (some (open_to x y)) gives =
    into x y
    (λ full ts stands. gives ts stands ∙ ap (deep ts) (le-leb deepest (suc (length σ)) full))
    (λ room ts stands. gives ts stands ∙ ap (deep ts) (lt-leb deepest (suc (length σ)) room))
  where
    deep : Tokens → Bool → Answer
    deep ts b = elim b [ true ↦ refused21 i | false ↦ run (drop (suc i) ts) (suc i) (x ∷ y ∷ σ) ]
judged bytes n i s σ (some shut) gives = out gives

run_judges : (t : Token) (ts : Tokens) (i : ℕ) (s : State) (σ : Stack) → run (t ∷ ts) i (s ∷ σ) ≡ judge σ i (run ts (suc i)) s (lookup (row s) t.kind)
unfolding run
run_judges t ts i s σ = refl

module _ {bytes : List ℕ} {n : ℕ} {a : List ℕ} {m i kind : ℕ} where
  inner_of : {next : Next} (turn : Turn bytes n a m i kind next) → Innermost a m turn.reached.stack
  inner_of turn = innermost turn.reached.held turn.some_state

  turned : {next : Next} (turn : Turn bytes n a m i kind next) → Judged bytes n i (inner_of turn).rest next
  turned {next} turn =
      let s = (inner_of turn).state in
      let σ = (inner_of turn).rest in
      subst (Judged bytes n i σ) (sym (turn.moves s (inner_of turn).placed))
      (judged bytes n i s σ (lookup (row s) (kind_at kind)) (λ ts stands.
      let t = get_or ts i (tk Name any_info) in
      let ts' = drop (suc i) ts in
      let there : i < length ts = let h = turn.more in let l = stands.count in omega arith in
      let kind_is : t.kind ≡ kind_at kind = sym (kind_at_kind_no t.kind) ∙ ap kind_at (sym (turn.byte ∙ stands.stand i turn.more)) in
      turn.reached.gives ts stands
      ∙ ap (λ l. run l i turn.reached.stack) (drop-cons ts i (tk Name any_info) there)
      ∙ ap (λ γ. run (t ∷ ts') i γ) (inner_of turn).is
      ∙ run_judges t ts' i s σ
      ∙ ap (λ k. judge σ i (run ts' (suc i)) s (lookup (row s) k)) kind_is))

  -- the stack γ takes the innermost state's place
  next_reached : {next : Next} (turn : Turn bytes n a m i kind next) (b : List ℕ) (k : ℕ) (γ : Stack)
      → length b ≡ length a → k ≤ deepest → Held b k γ → Gives bytes n (from (suc i) γ) → Reached bytes n b k (i + 1)
  next_reached turn b k γ l few held gives =
      subst (Reached bytes n b k) (sym (add-one i))
      (record { within = turn.more; long = l ∙ turn.reached.long; few = few; stack = γ; held = held; gives = gives })

  pub stuck : Turn bytes n a m i kind Nowhere → Answers bytes n (Err (Unexpected i))
  stuck turn = by (turned turn)
    where
      by : {σ : Stack} → Judged bytes n i σ Nowhere → Answers bytes n (Err (Unexpected i))
      by (nowhere gives) ts stands = ap answer_of (sym (gives ts stands))

  -- the innermost state stands in the array, at m - 1
  top_of : {next : Next} → Turn bytes n a m i kind next → (m ≡ suc (m - 1)) × (m - 1 < length a)
  top_of turn = let some = turn.some_state in let few = turn.reached.few in let long = turn.reached.long in (omega arith, omega arith)

  pub gone_on : {x : ℕ} → Turn bytes n a m i kind (On x) → Reached bytes n (set a (m - 1) x) m (i + 1)
  gone_on turn = by (turned turn) (inner_of turn).held
    where
      by : {σ : Stack} {x : ℕ} → Judged bytes n i σ (On x) → Held a (m - 1) σ → Reached bytes n (set a (m - 1) x) m (i + 1)
      by {σ} (on s gives) held =
          next_reached turn (set a (m - 1) (place s)) m (s ∷ σ) (length-set a (m - 1) (place s)) turn.reached.few
          (held_put s (top_of turn).1 (top_of turn).0 held)
          gives

  pub crowded : {x y : ℕ} → Turn bytes n a m i kind (Into x y) → m ≡ deepest → Answers bytes n (Err (TooDeep i))
  crowded turn full = by (turned turn) (inner_of turn).held
    where
      by : {σ : Stack} {x y : ℕ} → Judged bytes n i σ (Into x y) → Held a (m - 1) σ → Answers bytes n (Err (TooDeep i))
      by (into s t deep room) held ts stands = let l = held_length held in ap answer_of (sym (deep (omega arith) ts stands))

  pub gone_in : {x y : ℕ} → Turn bytes n a m i kind (Into x y) → (m ≡ deepest → ⊥) → Reached bytes n (set (set a (m - 1) y) m x) (m + 1) (i + 1)
  gone_in turn free = by (turned turn) (inner_of turn).held
    where
      by : {σ : Stack} {x y : ℕ} → Judged bytes n i σ (Into x y) → Held a (m - 1) σ → Reached bytes n (set (set a (m - 1) y) m x) (m + 1) (i + 1)
      by {σ} (into s t deep room) held =
          let b = set a (m - 1) (place t) in
          let few = turn.reached.few in
          let long = turn.reached.long in
          let l = held_length held in
          let same = length-set a (m - 1) (place t) in
          next_reached turn (set b m (place s)) (m + 1) (s ∷ t ∷ σ) (length-set b m (place s) ∙ same) (omega arith)
          (held_put s (omega arith) (add-one m) (held_put t (top_of turn).1 (top_of turn).0 held))
          (room (omega arith))

  pub gone_out : Turn bytes n a m i kind Out → Reached bytes n a (m - 1) (i + 1)
  gone_out turn = by (turned turn) (inner_of turn).held
    where
      by : {σ : Stack} → Judged bytes n i σ Out → Held a (m - 1) σ → Reached bytes n a (m - 1) (i + 1)
      by {σ} (out gives) held = let few = turn.reached.few in next_reached turn a (m - 1) σ refl (omega arith) held gives

-- the ends: a token behind the description, and no token any more
held_none : {a : List ℕ} {m : ℕ} {γ : Stack} → Held a m γ → m ≡ 0 → γ ≡ []
held_none bottom e = refl
held_none (over p h) e = absurd (omega arith)

run_behind : (t : Token) (ts : Tokens) (i : ℕ) → run (t ∷ ts) i [] ≡ refused20 i
unfolding run
run_behind t ts i = refl

run_done : (i : ℕ) → run [] i [] ≡ accepted
unfolding run
run_done i = refl

run_short : (i : ℕ) (s : State) (σ : Stack) → run [] i (s ∷ σ) ≡ refused20 i
unfolding run
run_short i s σ = refl

module _ {bytes : List ℕ} {n : ℕ} {a : List ℕ} {m i : ℕ} (reached : Reached bytes n a m i) where
  pub behind : i < n → m ≡ 0 → Answers bytes n (Err (Unexpected i))
  behind more empty ts stands =
      let l = stands.count in
      let there : i < length ts = omega arith in
      ap answer_of
      (sym
      (reached.gives ts stands
      ∙ ap (λ x. run x i reached.stack) (drop-cons ts i (tk Name any_info) there)
      ∙ ap (run (get_or ts i (tk Name any_info) ∷ drop (suc i) ts) i) (held_none reached.held empty)
      ∙ run_behind (get_or ts i (tk Name any_info)) (drop (suc i) ts) i))

  module _ (end : n ≤ i) where
    i_is : i ≡ n
    i_is = let in_reach = reached.within in omega arith

    at_end : (ts : Tokens) → KindsStand ts bytes n → recognise ts ≡ run [] i reached.stack
    at_end ts stands =
        reached.gives ts stands ∙ ap (λ x. run x i reached.stack) (ap (λ j. drop j ts) (i_is ∙ sym stands.count) ∙ drop-length ts)

    pub done : m ≡ 0 → Answers bytes n (Ok tt)
    done empty ts stands = ap answer_of (sym (at_end ts stands ∙ ap (run [] i) (held_none reached.held empty) ∙ run_done i))

    pub short : (m ≡ 0 → ⊥) → Answers bytes n (Err (Unexpected n))
    short some_state ts stands =
        let inner = innermost reached.held some_state in
        ap (λ j. Err (Unexpected j)) (sym i_is) ∙ ap answer_of (sym (at_end ts stands ∙ ap (run [] i) inner.is ∙ run_short i inner.state inner.rest))

-- the loop begins in the state of the title
pub begun : (bytes : List ℕ) (n : ℕ) (a : List ℕ) → length a ≡ deepest → place title ≡ get_or a 0 0 → Reached bytes n a 1 0
unfolding recognise
begun bytes n a long first =
    record { within = omega arith; long = long; few = omega arith; stack = title ∷ []; held = over first bottom; gives = λ ts stands. refl }
