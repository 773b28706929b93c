-- The code of a table: its numbers, its bodies one by one, and that its numbers go up.
-- Assumes nothing.
use Rattle.std.specs.Prelude.{ℕ, zero, suc, ◌≤◌, ◌≡◌, refl, List, [], ◌∷◌, map, ◌⊎◌, length}
use Rattle.std.proofs.Common.{subst, inl, inr, arith}
use Rattle.std.proofs.Math.Option.{Option, none, some}
use Rattle.std.proofs.Math.ListN.{get_elem?}
use Rattle.rules.specs.Grammar.Trees.{Tokens, Action, Declaration}
use Rattle.rules.specs.Declarations.{Word, Declared, Table, declared_of}
use Rattle.laws_orders.proofs.Orders.Tests.{impossible}
use Rattle.laws_orders.specs.Cited.Flat.{exit, outer, bind}
use Rattle.laws_code.specs.Cited.Code.{Numbered, first_of}
use Rattle.laws_code.proofs.Links.Numbers.{Ascends, ascends_none, ascends_within, ascends_join, code_ascends}
use Rattle.laws_code.specs.Cited.Bodies.{body_code, table_code}
use Rattle.links.specs.Laws.Layout.{BodyLaid}
use Rattle.links.specs.Laws.Sound.{Each, each_left, each_right, each_join}

-- the numbers of a code
abbrev pub In : ℕ → List Numbered → Type 0
In n [] = ⊥
In n (x ∷ xs) = (x.number ≡ n) ⊎ In n xs

pub each_in : (xs ys : List Numbered) → ((n : ℕ) → In n ys → In n xs) → Each (λ x. In x.number xs) ys
each_in xs [] f = tt
each_in xs (y ∷ ys) f = (f y.number (inl refl), each_in xs ys (λ n h. f n (inr h)))

pub each_at : (P : ℕ → Type 0) (xs : List Numbered) (n : ℕ) → Each (λ x. P x.number) xs → In n xs → P n
each_at P [] n h z = absurd z
each_at P (x ∷ xs) n h (inl e) = subst P e h.0
each_at P (x ∷ xs) n h (inr z) = each_at P xs n h.1 z

-- the bodies of a table
pub table_each : (P : Numbered → Type 0) (ds : Table) (starts : ℕ → ℕ) (j : ℕ) (e : Declared) → get_elem? ds j ≡ some e → Each P (table_code starts ds)
    → Each P (body_code e.name.word (starts j) e.body)
unfolding table_code
table_each P [] starts j e h p = impossible (cc)
table_each P (x ∷ ds) starts zero e h p =
    let q : x ≡ e = cc in
    subst (λ (y : Declared). Each P (body_code y.name.word (starts 0) y.body)) q
    (each_left P (body_code x.name.word (starts 0) x.body) (table_code (λ i. starts (suc i)) ds) p)
table_each P (x ∷ ds) starts (suc j) e h p =
    table_each P ds (λ i. starts (suc i)) j e h (each_right P (body_code x.name.word (starts 0) x.body) (table_code (λ i. starts (suc i)) ds) p)

pub table_all : (P : Numbered → Type 0) (ds : Table) (starts : ℕ → ℕ)
    → ((j : ℕ) (e : Declared) → get_elem? ds j ≡ some e → Each P (body_code e.name.word (starts j) e.body)) → Each P (table_code starts ds)
unfolding table_code
table_all P [] starts f = tt
table_all P (x ∷ ds) starts f =
    each_join P (body_code x.name.word (starts 0) x.body) (table_code (λ i. starts (suc i)) ds) (f 0 x refl)
    (table_all P ds (λ i. starts (suc i)) (λ j e h. f (suc j) e h))

-- their numbers go up, if each stands within its bounds
pub table_ascends : (list : List Declaration) (starts bounds : ℕ → ℕ)
    → ((k : ℕ) (x : Declaration) → get_elem? list k ≡ some x → Ascends (bounds k) (bounds (suc k)) (body_code (declared_of x).name.word (starts k) (declared_of x).body))
    → Ascends (bounds 0) (bounds (length list)) (table_code starts (map declared_of list))
unfolding table_code
table_ascends [] starts bounds f = ascends_none (bounds 0) (bounds 0) (omega arith)
table_ascends (x ∷ list) starts bounds f =
    ascends_join (f 0 x refl) (table_ascends list (λ i. starts (suc i)) (λ i. bounds (suc i)) (λ k y h. f (suc k) y h))

pub body_ascends : (own : Word) (name start from to : ℕ) (ts : Tokens) (o : Option Action) → from ≤ name → from ≤ to → BodyLaid ts name start to o
    → Ascends from to (body_code own start o)
body_ascends own name start from to ts none l n b = ascends_none from to n
body_ascends own name start from to ts (some a) l n b =
    ascends_within (code_ascends a (bind own (first_of start a) exit outer) start exit) (omega (arith, b.past)) b.inside
