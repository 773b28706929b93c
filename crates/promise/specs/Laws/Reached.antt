-- A step of the flat machine from an instruction that control can come to leads to another, and so do all return addresses.
use Rattle.std.specs.Prelude.{ℕ, zero, suc, ◌≡◌, refl, Bool, cond, List, [], ◌∷◌}
use Rattle.std.proofs.Math.Bool.{true, false}
use Rattle.std.proofs.Common.{inl, inr}
use Rattle.std.proofs.Math.Option.{some}
use Rattle.rules.specs.Selectors.{takes}
use Rattle.rules.specs.Declarations.{Table}
use Rattle.laws_orders.proofs.Orders.Tests.{impossible}
use Rattle.laws_orders.specs.Cited.Flat.{Link, at, exit, Entries, no_entry, entry, Instr, if_i, decode_i, go_i, call_i, stop_i, move_i, Code, At, pc, return, go, push, find, picked, next_m}
use Rattle.promise.specs.Reached.{Reached, EntryAt, onward, Leads}

module _ (ds : Table) (C : Code) where
  -- so are all return addresses
  abbrev pub AllReached : List ℕ → Type 0
  AllReached [] = Unit {0}
  AllReached (n ∷ σ) = Reached ds C n × AllReached σ

  -- control that is somewhere is at a reached instruction
  abbrev Somewhere : At → Type 0
  Somewhere x = (n : ℕ) (σ : List ℕ) → x ≡ pc n σ → Reached ds C n × AllReached σ

  at_pc : (g : ℕ) (τ : List ℕ) → Reached ds C g → AllReached τ → Somewhere (pc g τ)
  at_pc g τ r s n σ e = let p : g ≡ n = cc in let q : τ ≡ σ = cc in (rw (← p) r, rw (← q) s)

  returns : (τ : List ℕ) → AllReached τ → Somewhere (return τ)
  returns [] s = λ n σ e. impossible (cc)
  returns (g ∷ τ) s = at_pc g τ s.0 s.1

  goes : (k : Link) (τ : List ℕ) → ((g : ℕ) → k ≡ at g → Reached ds C g) → AllReached τ → Somewhere (go k τ)
  goes (at g) τ r s = at_pc g τ (r g refl) s
  goes exit τ r s = returns τ s

  pushes : (k : Link) (τ : List ℕ) → ((g : ℕ) → k ≡ at g → Reached ds C g) → AllReached τ → AllReached (push k τ)
  pushes (at g) τ r s = (r g refl, s)
  pushes exit τ r s = s

  picks : (p : ℕ) (t : Entries) (v : ℕ) (τ : List ℕ) → ((g : ℕ) → EntryAt t g → Reached ds C g) → AllReached τ → Somewhere (picked p τ (find t v))
  unfolding find
  picks p no_entry v τ r s = λ n σ e. impossible (cc)
  picks p (entry c f t) v τ r s = by (takes c v) (picks p t v τ (λ g h. r g (inr h)) s)
    where
      by : (b : Bool) → Somewhere (picked p τ (find t v)) → Somewhere (picked p τ (cond b (some f) (find t v)))
      by true h = at_pc f τ (r f (inl refl)) s
      by false h = h

  -- a step from a reached instruction comes to one, with reached return addresses
  pub reached_next : (n : ℕ) (τ : List ℕ) (v n' : ℕ) (σ : List ℕ) → Reached ds C n → AllReached τ → next_m C (C.instr n) τ v ≡ pc n' σ → Reached ds C n' × AllReached σ
  reached_next n τ v n' σ r s e = by (C.instr n) (λ g h. onward n g r h) v n' σ e
    where
      by : (x : Instr) → ((g : ℕ) → Leads C x g → Reached ds C g) → (v : ℕ) → Somewhere (next_m C x τ v)
      by (if_i e f k) h zero = goes k τ (λ g q. h g (inr q)) s
      by (if_i e f k) h (suc v) = at_pc f τ (h f (inl refl)) s
      by (decode_i p e t) h v = picks p t v τ h s
      by (go_i k) h v = goes k τ h s
      by (call_i p k) h v = at_pc (C.first p) (push k τ) (h (C.first p) (inl refl)) (pushes k τ (λ g q. h g (inr q)) s)
      by stop_i h v = λ n σ e. impossible (cc)
      by (move_i to e k) h v = goes k τ h s
