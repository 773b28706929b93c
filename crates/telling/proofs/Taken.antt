-- Which way a step took shows in the flat machine's stack: in the same body the stack stays, out of the body it is shorter.
use Rattle.std.specs.Prelude.{ℕ, zero, suc, ◌≡◌, refl, Bool, true, false, List, [], ◌∷◌, length}
use Rattle.std.proofs.Common.{sym, ◌∙◌, ap, subst, arith}
use Rattle.std.proofs.Math.Option.{Option, none, some}
use Rattle.laws_orders.proofs.Orders.Tests.{impossible}
use Rattle.laws_orders.specs.Cited.Flat.{Link, at, exit, Instr, if_i, decode_i, go_i, call_i, stop_i, move_i, Code, At, pc, over, halt, broken, go, find, picked, next_m}
use Rattle.telling.specs.Cited.Passing.{Grouping, passage}
use Rattle.telling.specs.Cited.Tracing.{told, follow, picked_t, next_t}

abbrev pub activates : Instr → Bool
activates (if_i e g k) = false
activates (decode_i p e t) = false
activates (go_i k) = false
activates (call_i p k) = true
activates stop_i = false
activates (move_i d e k) = false

stays : (l : Link) (σ : List ℕ) (n : ℕ) (σ' : List ℕ) → go l σ ≡ pc n σ' → length σ' ≡ length σ → l ≡ at n
stays (at g) σ n σ' e q = let x : g ≡ n = cc in ap at x
stays exit [] n σ' e q = impossible (cc)
stays exit (m ∷ σ) n σ' e q = let x : σ ≡ σ' = cc in impossible (omega (arith, q, ap length x))

leaves : (l : Link) (σ : List ℕ) → go l σ ≡ over → l ≡ exit
leaves (at g) σ e = impossible (cc)
leaves exit σ e = refl

-- a body goes on, or all has ended
abbrev Going : At → Type 0
Going (pc n σ) = Unit {0}
Going over = Unit {0}
Going halt = ⊥
Going (broken m p) = ⊥

module _ (C : Code) (M : Grouping) where
  -- the link by which the machines go on
  record Taken (n : ℕ) (i : Instr) (κ σ : List ℕ) (v : ℕ) (a : At) : Type 0 where
    link : Link
    told_by : next_t C M n i κ v ≡ follow C M (M.around n) link κ
    gone_by : go link σ ≡ a

  taken : (n : ℕ) (i : Instr) (κ σ : List ℕ) (v : ℕ) (a : At) → activates i ≡ false → Going a → next_m C i σ v ≡ a → Taken n i κ σ v a
  taken n (if_i e g k) κ σ zero a f o q = record { link = k; told_by = refl; gone_by = q }
  taken n (if_i e g k) κ σ (suc v) a f o q = record { link = at g; told_by = refl; gone_by = q }
  taken n (decode_i p e t) κ σ v a f o q = by (find t v) refl q
    where
      by : (x : Option ℕ) → find t v ≡ x → picked p σ x ≡ a → Taken n (decode_i p e t) κ σ v a
      by none e q = absurd (subst Going (sym q) o)
      by (some g) e q = record { link = at g; told_by = ap (picked_t C M p (M.around n) κ) e; gone_by = q }
  taken n (go_i k) κ σ v a f o q = record { link = k; told_by = refl; gone_by = q }
  taken n (call_i p k) κ σ v a f o q = impossible (cc)
  taken n stop_i κ σ v a f o q = absurd (subst Going (sym q) o)
  taken n (move_i d e k) κ σ v a f o q = record { link = k; told_by = refl; gone_by = q }

  module _ (n : ℕ) (i : Instr) (κ σ : List ℕ) (v : ℕ) (f : activates i ≡ false) where
    -- A step that does not activate and leaves the stack as long as it was has gone to an instruction of the same body.
    pub next_stays :
        (n' : ℕ) (σ' : List ℕ) → next_m C i σ v ≡ pc n' σ' → length σ' ≡ length σ → next_t C M n i κ v ≡ told (pc n' κ) (passage M (M.around n) (M.around n'))
    next_stays n' σ' q l =
        let t = taken n i κ σ v (pc n' σ') f tt q in t.told_by ∙ ap (λ k. follow C M (M.around n) k κ) (stays t.link σ n' σ' t.gone_by l)

    pub next_over : next_m C i σ v ≡ over → next_t C M n i κ v ≡ follow C M (M.around n) exit κ
    next_over q = let t = taken n i κ σ v over f tt q in t.told_by ∙ ap (λ k. follow C M (M.around n) k κ) (leaves t.link σ t.gone_by)
