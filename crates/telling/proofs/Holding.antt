-- What it is for a code to hold an action at its place among the members of groups.
use Rattle.std.specs.Prelude.{ℕ, suc, ◌≡◌, Bool, true, false, List, [], ◌∷◌}
use Rattle.rules.specs.Declarations.{Word}
use Rattle.rules.specs.Steps.Actions.{Act, seq, par, label, ins, Ins, iff, decode, repeat, leave, restart, call, stop, noop, transfer, Alts, no_alts, alt}
use Rattle.laws_orders.specs.Cited.Flat.{Link, at, exit, Entries, no_entry, entry, if_i, decode_i, go_i, call_i, stop_i, move_i, Code, Labels, bind, leave_to, restart_to, Jumps, own_label}
use Rattle.laws_orders.specs.Cited.Flat.{Holds, HoldsI, HoldsAlts}
use Rattle.telling.specs.Cited.Passing.{Grouping}

-- where an action stands: by itself inside some members, or as a member with the members of its group that follow it
pub data Spot : Type 0 where
  alone : List ℕ → Spot
  rest : ℕ → List ℕ → Spot

-- the members around it and around its whole group
abbrev pub base : Spot → List ℕ
base (alone c) = c
base (rest x c) = c

-- the members around what comes first in it
abbrev pub entrance : Spot → List ℕ
entrance (alone c) = c
entrance (rest x c) = x ∷ c

-- the members from y on: the last by itself, or with more behind it
abbrev pub onward : Bool → ℕ → List ℕ → Spot
onward true y c = alone (y ∷ c)
onward false y c = rest y c

module _ (M : Grouping) where
  -- the first member of a group that begins here, or of what is left of one
  abbrev pub Leads : Spot → ℕ → Type 0
  Leads (alone c) x = M.before x ≡ 0
  Leads (rest z c) x = x ≡ z

  -- x comes first and y next
  pub record Joins (s : Spot) (x y : ℕ) : Type 0 where
    pub leads : Leads s x
    pub followed : M.last x ≡ false
    pub next : M.before y ≡ suc (M.before x)

  module _ (C : Code) where
    abbrev mutual
      pub HoldsIn : Spot → Labels → ℕ → Link → Act → Type 0
      HoldsIn (alone c) ρ f k (seq a b) = (g : ℕ) × HoldsIn (alone c) ρ f (at g) a × HoldsIn (alone c) ρ g k b
      HoldsIn (rest z c) ρ f k (seq a b) = ⊥
      HoldsIn s ρ f k (par a b) =
          (g : ℕ) × (x : ℕ) × (y : ℕ) × Joins s x y × HoldsIn (alone (x ∷ base s)) ρ f (at g) a × HoldsIn (onward (M.last y) y (base s)) ρ g k b
      HoldsIn (alone c) ρ f k (label l a) = HoldsIn (alone c) (bind l f k ρ) f k a
      HoldsIn (rest z c) ρ f k (label l a) = ⊥
      HoldsIn (alone c) ρ f k (ins i) = (M.around f ≡ c) × HoldsInI c ρ f k i
      HoldsIn (rest z c) ρ f k (ins i) = ⊥

      pub HoldsInI : List ℕ → Labels → ℕ → Link → Ins → Type 0
      HoldsInI c ρ f k (iff e a) = (g : ℕ) × (C.instr f ≡ if_i e g k) × HoldsIn (alone c) ρ g k a
      HoldsInI c ρ f k (decode p e bs) = (t : Entries) × (C.instr f ≡ decode_i p e t) × HoldsInAlts c ρ t k bs
      HoldsInI c ρ f k (repeat a) = (g : ℕ) × (C.instr f ≡ go_i (at g)) × HoldsIn (alone c) ρ g (at f) a
      HoldsInI c ρ f k (leave l) = Jumps (leave_to ρ l) (C.instr f)
      HoldsInI c ρ f k (restart l) = Jumps (restart_to ρ l) (C.instr f)
      HoldsInI c ρ f k (call p) = C.instr f ≡ call_i p k
      HoldsInI c ρ f k stop = C.instr f ≡ stop_i
      HoldsInI c ρ f k noop = C.instr f ≡ go_i k
      HoldsInI c ρ f k (transfer d e) = C.instr f ≡ move_i d e k

      pub HoldsInAlts : List ℕ → Labels → Entries → Link → Alts → Type 0
      HoldsInAlts c ρ t k no_alts = t ≡ no_entry
      HoldsInAlts c ρ t k (alt x a bs) = (g : ℕ) × (t' : Entries) × (t ≡ entry x g t') × HoldsIn (alone c) ρ g k a × HoldsInAlts c ρ t' k bs

    -- no group is around a body
    abbrev pub HoldsGrouped : (Word → Act) → Type 0
    HoldsGrouped body = (p : Word) → HoldsIn (alone []) (own_label C p) (C.first p) exit (body p)

    mutual
      -- such a code holds the action
      pub holds : (a : Act) (s : Spot) (ρ : Labels) (f : ℕ) (k : Link) → HoldsIn s ρ f k a → Holds C ρ f k a
      holds (seq a b) (alone c) ρ f k h = (h.0, holds a (alone c) ρ f (at h.0) h.1, holds b (alone c) ρ h.0 k h.2)
      holds (seq a b) (rest z c) ρ f k h = absurd h
      holds (par a b) s ρ f k h =
          (h.0, holds a (alone (h.1 ∷ base s)) ρ f (at h.0) h.4, holds b (onward (M.last h.2) h.2 (base s)) ρ h.0 k h.5)
      holds (label l a) (alone c) ρ f k h = holds a (alone c) (bind l f k ρ) f k h
      holds (label l a) (rest z c) ρ f k h = absurd h
      holds (ins i) (alone c) ρ f k h = holds_i i c ρ f k h.1
      holds (ins i) (rest z c) ρ f k h = absurd h

      pub holds_i : (i : Ins) (c : List ℕ) (ρ : Labels) (f : ℕ) (k : Link) → HoldsInI c ρ f k i → HoldsI C ρ f k i
      holds_i (iff e a) c ρ f k h = (h.0, h.1, holds a (alone c) ρ h.0 k h.2)
      holds_i (decode p e bs) c ρ f k h = (h.0, h.1, holds_alts bs c ρ h.0 k h.2)
      holds_i (repeat a) c ρ f k h = (h.0, h.1, holds a (alone c) ρ h.0 (at f) h.2)
      holds_i (leave l) c ρ f k h = h
      holds_i (restart l) c ρ f k h = h
      holds_i (call p) c ρ f k h = h
      holds_i stop c ρ f k h = h
      holds_i noop c ρ f k h = h
      holds_i (transfer d e) c ρ f k h = h

      holds_alts : (bs : Alts) (c : List ℕ) (ρ : Labels) (t : Entries) (k : Link) → HoldsInAlts c ρ t k bs → HoldsAlts C ρ t k bs
      holds_alts no_alts c ρ t k h = h
      holds_alts (alt x a bs) c ρ t k h = (h.0, h.1, h.2, holds a (alone c) ρ h.0 k h.3, holds_alts bs c ρ h.1 k h.4)
