-- A table that passes one computed test holds every row, and its entries are read back as the rows' moves.
-- Assumes nothing.
use mathlib.Core.Path.{◌≡◌, refl, sym, ap, ◌∙◌, subst}
use mathlib.Core.Bool.{Bool, true, false, not, ◌&&◌}
use mathlib.Core.Option.{Option, none, some}
use mathlib.Core.List.{List, [], ◌∷◌}
use Prim.Native.Nat.{ℕ, zero, suc, ◌+◌, ◌*◌, ◌/◌, ◌%◌, ◌<◌}
use native.Mathlib.Nat.{add-zero, zero-add, add-suc, suc-add, le_of_suc-le-suc, not-suc-le-zero}
use native.Mathlib.Omega.{arith}
use borrow.Author.Tests.{eq-eqb}
use lib.Dec.{T, eqb, ltb, leb→le, eqb→eq}
use lib.ListN.{length, get_or, drop}
use lib.Seq.{get_or-drop}
use Rattle.rules.specs.Text.Tokens.{Kind, Name}
use Rattle.laws_grammar.specs.Cited.Kinds.{kinds, kind_at}
use Rattle.laws_grammar.specs.Cited.Rows.{State, Move, go, open_to, shut, Row, row, lookup}
use Rattle.grammar.specs.Places.{place}
use Rattle.grammar.specs.Entries.{kind_count, move_no, Says, Ruled, next_of}
use Rattle.grammar.specs.declared.Next.{Next}
use Rattle.grammar.specs.declared.Next.TheVariants.{Nowhere, On, Into, Out}
use Rattle.grammar.proofs.States.{both_parts, states, each_state}

-- no row begins at 0, and every row ends within the table
pub record Within (p : ℕ) : Type 0 where
  pub past : 0 < p
  pub ends : p + 41 < 1137

within : State → Bool
within s = ltb 0 (place s) && ltb (place s + 41) 1137

pub place_within : (s : State) → Within (place s)
unfolding within
place_within s =
    let t = both_parts (ltb 0 (place s)) (ltb (place s + 41) 1137) (each_state within tt s) in
    record { past = leb→le 1 (place s) t.0; ends = leb→le (suc (place s + 41)) 1137 t.1 }

-- the test of one entry, of a row, and of the table
abbrev says : ℕ → ℕ → Option Move → Bool
says entry k none = not (eqb (entry % 64) k)
says entry k (some m) = eqb entry (k + 64 * move_no m)

abbrev says_row : Row → ℕ → List Kind → List ℕ → Bool
says_row r j [] es = true
says_row r j (k ∷ ks) [] = false
says_row r j (k ∷ ks) (e ∷ es) = says e j (lookup r k) && says_row r (suc j) ks es

abbrev says_state : List ℕ → State → Bool
says_state table s = says_row (row s) 0 kinds (drop (place s) table)

abbrev pub holds_rows : List ℕ → Bool
holds_rows table = states (says_state table)

said : (entry k : ℕ) (o : Option Move) → T (says entry k o) → Says entry k o
said entry k none t = λ e. subst (λ b. T (not b)) (eq-eqb (entry % 64) k e) t
said entry k (some m) t = eqb→eq entry (k + 64 * move_no m) t

said_row : (r : Row) (ks : List Kind) (es : List ℕ) (j : ℕ) → T (says_row r j ks es) → (i : ℕ) → i < length ks
    → Says (get_or es i 0) (j + i) (lookup r (get_or ks i Name))
said_row r [] es j t i h = absurd (not-suc-le-zero h)
said_row r (k ∷ ks) [] j t i h = absurd t
said_row r (k ∷ ks) (e ∷ es) j t zero h =
    subst (λ x. Says e x (lookup r k)) (sym (add-zero j)) (said e j (lookup r k) (both_parts (says e j (lookup r k)) (says_row r (suc j) ks es) t).0)
said_row r (k ∷ ks) (e ∷ es) j t (suc i) h =
    subst (λ x. Says (get_or es i 0) x (lookup r (get_or ks i Name))) (suc-add j i ∙ sym (add-suc j i))
    (said_row r ks es (suc j) (both_parts (says e j (lookup r k)) (says_row r (suc j) ks es) t).1 i (le_of_suc-le-suc h))

pub ruled : (table : List ℕ) → T (holds_rows table) → Ruled table
ruled table t =
    record {
      says = λ s k h.
          subst (λ x. Says x k (lookup (row s) (kind_at k))) (get_or-drop (place s) table k 0)
          (subst (λ x. Says (get_or (drop (place s) table) k 0) x (lookup (row s) (kind_at k))) (zero-add k)
          (said_row (row s) kinds (drop (place s) table) 0 (each_state (says_state table) t s) k h));
    }

-- what the code has read: the entry of a table that holds the rows
pub record Read (table : List ℕ) (state kind entry : ℕ) : Type 0 where
  pub rows : Ruled table
  pub small : kind < kind_count
  pub entry_is : entry ≡ get_or table (state + kind) 0

-- the move of the state at a place, for the kind of a number
abbrev pub Moves : ℕ → ℕ → Next → Type 0
Moves state kind next = (s : State) → place s ≡ state → next ≡ next_of (lookup (row s) (kind_at kind))

module _ (table : List ℕ) (state kind entry : ℕ) (read : Read table state kind entry) where
  entry_says : (s : State) → place s ≡ state → Says entry kind (lookup (row s) (kind_at kind))
  entry_says s p =
      subst (λ x. Says x kind (lookup (row s) (kind_at kind))) (ap (λ x. get_or table (x + kind) 0) p ∙ sym read.entry_is) (read.rows.says s kind read.small)

  pub nowhere : (entry % 64 ≡ kind → ⊥) → Moves state kind Nowhere
  nowhere other s p = by (lookup (row s) (kind_at kind)) (entry_says s p)
    where
      by : (o : Option Move) → Says entry kind o → Nowhere ≡ next_of o
      by none h = refl
      by (some m) h = let l = read.small in absurd (other (omega arith))

  module _ (named : entry % 64 ≡ kind) where
    somewhere : (next : Next) → ((m : Move) → entry / 64 ≡ move_no m → next ≡ next_of (some m)) → Moves state kind next
    somewhere next present s p = by (lookup (row s) (kind_at kind)) (entry_says s p)
      where
        by : (o : Option Move) → Says entry kind o → next ≡ next_of o
        by none h = absurd (h named)
        by (some m) h = let l = read.small in present m (omega arith)

    pub out : entry / 64 % 2048 ≡ 0 → Moves state kind Out
    out alone = somewhere Out by
      where
        by : (m : Move) → entry / 64 ≡ move_no m → Out ≡ next_of (some m)
        by (go s) h = let w = place_within s in absurd (omega arith)
        by (open_to s t) h = let w = place_within s in absurd (omega arith)
        by shut h = refl

    pub on : (entry / 64 % 2048 ≡ 0 → ⊥) → entry / 64 / 2048 ≡ 0 → Moves state kind (On (entry / 64 % 2048))
    on inside alone = somewhere (On (entry / 64 % 2048)) by
      where
        by : (m : Move) → entry / 64 ≡ move_no m → On (entry / 64 % 2048) ≡ next_of (some m)
        by (go s) h = let w = place_within s in ap On (omega arith)
        by (open_to s t) h = let w = place_within t in absurd (omega arith)
        by shut h = absurd (inside (omega arith))

    pub into : (entry / 64 % 2048 ≡ 0 → ⊥) → (entry / 64 / 2048 ≡ 0 → ⊥) → Moves state kind (Into (entry / 64 % 2048) (entry / 64 / 2048))
    into inside behind = somewhere (Into (entry / 64 % 2048) (entry / 64 / 2048)) by
      where
        by : (m : Move) → entry / 64 ≡ move_no m → Into (entry / 64 % 2048) (entry / 64 / 2048) ≡ next_of (some m)
        by (go s) h = let w = place_within s in absurd (behind (omega arith))
        by (open_to s t) h =
            let w = place_within s in
            let inner : entry / 64 % 2048 ≡ place s = omega arith in
            let outer : entry / 64 / 2048 ≡ place t = omega arith in
            ap (λ x. Into x (entry / 64 / 2048)) inner ∙ ap (Into (place s)) outer
        by shut h = absurd (inside (omega arith))
