-- Where the flat machine stands for what is left of an action, and that its control goes on as left to right does.
use Prim.Native.Nat.{ℕ, zero, suc}
use Rattle.std.specs.Prelude.{◌≡◌, Bool, true, false, cond, List}
use Rattle.std.proofs.Math.Path.{refl}
use Rattle.std.proofs.Common.{sym, ◌∙◌, subst}
use Rattle.std.proofs.Math.Option.{Option, none, some}
use Rattle.rules.specs.Text.Scan.{same_bytes}
use Rattle.rules.specs.Selectors.{takes}
use Rattle.rules.specs.Declarations.{Word}
use Rattle.rules.specs.Steps.Actions.{Act, seq, par, label, ins, Ins, iff, decode, repeat, leave, restart, call, stop, noop, transfer, Alts, no_alts, alt}
use Rattle.rules.specs.Steps.Control.{Live, one, seq_l, both, left, right, lab_l, loop_l, call_l, start, leftmost, work_i, work}
use Rattle.rules.specs.Steps.Control.{Sig, ends, goes, leaves, restarts, stops, faults, seq_s, both_l, right_s, lab_s, loop_s, choose, pick_s, lost, call_s, next_i, next}
use Rattle.laws_orders.specs.Cited.Flat.{Link, at, exit, Entries, Code, At, pc, halt, broken, go, push, find, picked, work_m, next_m}
use Rattle.laws_orders.specs.Cited.Flat.{Labels, bind, leave_to, restart_to, Jumps}
use Rattle.laws_orders.specs.Cited.Flat.{Holds, HoldsI, HoldsAlts, own_label, HoldsBodies}

-- a jump to a label has been made
abbrev pub Jumped : Option Link → List ℕ → At → Type 0
Jumped none τ m = ⊥
Jumped (some k) τ m = m ≡ go k τ

-- a body that has ended goes on behind its activation
pushed : (k : Link) (τ : List ℕ) → go exit (push k τ) ≡ go k τ
pushed (at n) τ = refl
pushed exit τ = refl

module _ (C : Code) where
  -- The residual's leftmost instruction is at n, with the stack σ; τ is the stack of the place where the residual stands, and k the link behind it.
  abbrev pub Stands : Labels → Link → List ℕ → Live → ℕ → List ℕ → Type 0
  Stands ρ k τ (one i) n σ = (σ ≡ τ) × HoldsI C ρ n k i
  Stands ρ k τ (seq_l r a) n σ = (g : ℕ) × Stands ρ (at g) τ r n σ × Holds C ρ g k a
  Stands ρ k τ (both r t) n σ = (g : ℕ) × (b : Act) × Stands ρ (at g) τ r n σ × (t ≡ start b) × Holds C ρ g k b
  Stands ρ k τ (left r) n σ = ⊥
  Stands ρ k τ (right r) n σ = Stands ρ k τ r n σ
  Stands ρ k τ (lab_l l a r) n σ = (f : ℕ) × Holds C (bind l f k ρ) f k a × Stands (bind l f k ρ) k τ r n σ
  Stands ρ k τ (loop_l a r) n σ = (f : ℕ) × HoldsI C ρ f k (repeat a) × Stands ρ (at f) τ r n σ
  Stands ρ k τ (call_l p r) n σ = Stands (own_label C p) exit (push k τ) r n σ

  -- what the machine has come to, by what the residual's step says
  abbrev pub Says : Labels → Link → List ℕ → Sig → At → Type 0
  Says ρ k τ ends m = m ≡ go k τ
  Says ρ k τ (goes r) m = (n : ℕ) × (σ : List ℕ) × (m ≡ pc n σ) × Stands ρ k τ r n σ
  Says ρ k τ (leaves l) m = Jumped (leave_to ρ l) τ m
  Says ρ k τ (restarts l) m = Jumped (restart_to ρ l) τ m
  Says ρ k τ stops m = m ≡ halt
  Says ρ k τ (faults x p) m = m ≡ broken x p

  pub start_stands : (a : Act) (ρ : Labels) (f : ℕ) (k : Link) (τ : List ℕ) → Holds C ρ f k a → Stands ρ k τ (start a) f τ
  unfolding start
  start_stands (seq a b) ρ f k τ h = (h.0, start_stands a ρ f (at h.0) τ h.1, h.2)
  start_stands (par a b) ρ f k τ h = (h.0, b, start_stands a ρ f (at h.0) τ h.1, refl, h.2)
  start_stands (label l a) ρ f k τ h = (f, h, start_stands a (bind l f k ρ) f k τ h)
  start_stands (ins i) ρ f k τ h = (refl, h)

  seq_says : (ρ : Labels) (k : Link) (τ : List ℕ) (a : Act) (g : ℕ) (x : Sig) (m : At) → Holds C ρ g k a → Says ρ (at g) τ x m → Says ρ k τ (seq_s a x) m
  seq_says ρ k τ a g ends m h q = (g, τ, q, start_stands a ρ g k τ h)
  seq_says ρ k τ a g (goes r) m h q = (q.0, q.1, q.2, (g, q.3, h))
  seq_says ρ k τ a g (leaves l) m h q = q
  seq_says ρ k τ a g (restarts l) m h q = q
  seq_says ρ k τ a g stops m h q = q
  seq_says ρ k τ a g (faults x p) m h q = q

  both_says :
      (ρ : Labels) (k : Link) (τ : List ℕ) (t : Live) (b : Act) (g : ℕ) (x : Sig) (m : At) → t ≡ start b → Holds C ρ g k b
      → Says ρ (at g) τ x m → Says ρ k τ (both_l t x) m
  both_says ρ k τ t b g ends m e h q = (g, τ, q, subst (λ z. Stands ρ k τ z g τ) (sym e) (start_stands b ρ g k τ h))
  both_says ρ k τ t b g (goes r) m e h q = (q.0, q.1, q.2, (g, b, q.3, e, h))
  both_says ρ k τ t b g (leaves l) m e h q = q
  both_says ρ k τ t b g (restarts l) m e h q = q
  both_says ρ k τ t b g stops m e h q = q
  both_says ρ k τ t b g (faults x p) m e h q = q

  right_says : (ρ : Labels) (k : Link) (τ : List ℕ) (x : Sig) (m : At) → Says ρ k τ x m → Says ρ k τ (right_s x) m
  right_says ρ k τ ends m q = q
  right_says ρ k τ (goes r) m q = q
  right_says ρ k τ (leaves l) m q = q
  right_says ρ k τ (restarts l) m q = q
  right_says ρ k τ stops m q = q
  right_says ρ k τ (faults x p) m q = q

  -- a jump that may be caught here
  jump_says :
      (ρ : Labels) (k : Link) (τ : List ℕ) (x y : Sig) (u : Link) (o : Option Link) (σ : List ℕ) (m : At) (b : Bool)
      → (m ≡ go u σ → Says ρ k τ x m) → (Jumped o σ m → Says ρ k τ y m) → Jumped (cond b (some u) o) σ m → Says ρ k τ (cond b x y) m
  jump_says ρ k τ x y u o σ m true f g q = f q
  jump_says ρ k τ x y u o σ m false f g q = g q

  lab_says :
      (ρ : Labels) (k : Link) (τ : List ℕ) (l : Word) (a : Act) (f : ℕ) (x : Sig) (m : At) → Holds C (bind l f k ρ) f k a
      → Says (bind l f k ρ) k τ x m → Says ρ k τ (lab_s l a x) m
  unfolding leave_to restart_to
  lab_says ρ k τ l a f ends m h q = q
  lab_says ρ k τ l a f (goes r) m h q = (q.0, q.1, q.2, (f, h, q.3))
  lab_says ρ k τ l a f (leaves j) m h q = jump_says ρ k τ ends (leaves j) k (leave_to ρ j) τ m (same_bytes j l) (λ e. e) (λ e. e) q
  lab_says ρ k τ l a f (restarts j) m h q =
      jump_says ρ k τ (goes (lab_l l a (start a))) (restarts j) (at f) (restart_to ρ j) τ m (same_bytes j l)
      (λ e. (f, τ, e, (f, h, start_stands a (bind l f k ρ) f k τ h))) (λ e. e) q
  lab_says ρ k τ l a f stops m h q = q
  lab_says ρ k τ l a f (faults x p) m h q = q

  loop-says :
      (ρ : Labels) (k : Link) (τ : List ℕ) (a : Act) (f : ℕ) (x : Sig) (m : At) → HoldsI C ρ f k (repeat a)
      → Says ρ (at f) τ x m → Says ρ k τ (loop_s a x) m
  loop-says ρ k τ a f ends m h q = (f, τ, q, (refl, h))
  loop-says ρ k τ a f (goes r) m h q = (q.0, q.1, q.2, (f, h, q.3))
  loop-says ρ k τ a f (leaves l) m h q = q
  loop-says ρ k τ a f (restarts l) m h q = q
  loop-says ρ k τ a f stops m h q = q
  loop-says ρ k τ a f (faults x p) m h q = q

  pick_says :
      (ρ : Labels) (k : Link) (τ : List ℕ) (p : ℕ) (a : Act) (g : ℕ) (b : Bool) (o : Option Act) (o' : Option ℕ) → Holds C ρ g k a
      → Says ρ k τ (pick_s p o) (picked p τ o') → Says ρ k τ (pick_s p (cond b (some a) o)) (picked p τ (cond b (some g) o'))
  pick_says ρ k τ p a g true o o' h q = (g, τ, refl, start_stands a ρ g k τ h)
  pick_says ρ k τ p a g false o o' h q = q

  find_says :
      (ρ : Labels) (k : Link) (τ : List ℕ) (p : ℕ) (t : Entries) (bs : Alts) (v : ℕ) → HoldsAlts C ρ t k bs
      → Says ρ k τ (pick_s p (choose bs v)) (picked p τ (find t v))
  unfolding choose find
  find_says ρ k τ p t no_alts v h = rw h refl
  find_says ρ k τ p t (alt c a bs) v h =
      rw h.2 (pick_says ρ k τ p a h.0 (takes c v) (choose bs v) (find h.1 v) h.3 (find_says ρ k τ p h.1 bs v h.4))

  jump_work : (o : Option Link) (n : ℕ) → Jumps o (C.instr n) → work_i noop ≡ work_m (C.instr n)
  unfolding work_i
  jump_work none n h = absurd h
  jump_work (some k) n h = rw h

  ins_work : (ρ : Labels) (k : Link) (i : Ins) (n : ℕ) → HoldsI C ρ n k i → work_i i ≡ work_m (C.instr n)
  unfolding work_i
  ins_work ρ k (iff e a) n h = rw h.1
  ins_work ρ k (decode p e bs) n h = rw h.1
  ins_work ρ k (repeat a) n h = rw h.1
  ins_work ρ k (leave l) n h = jump_work (leave_to ρ l) n h
  ins_work ρ k (restart l) n h = jump_work (restart_to ρ l) n h
  ins_work ρ k (call p) n h = rw h
  ins_work ρ k stop n h = rw h
  ins_work ρ k noop n h = rw h
  ins_work ρ k (transfer d e) n h = rw h

  pub work_says : (r : Live) (ρ : Labels) (k : Link) (τ : List ℕ) (n : ℕ) (σ : List ℕ) → Stands ρ k τ r n σ → work r (leftmost r) ≡ work_m (C.instr n)
  unfolding leftmost
  work_says (one i) ρ k τ n σ h = ins_work ρ k i n h.1
  work_says (seq_l r a) ρ k τ n σ h = work_says r ρ (at h.0) τ n σ h.1
  work_says (both r t) ρ k τ n σ h = work_says r ρ (at h.0) τ n σ h.2
  work_says (left r) ρ k τ n σ h = absurd h
  work_says (right r) ρ k τ n σ h = work_says r ρ k τ n σ h
  work_says (lab_l l a r) ρ k τ n σ h = work_says r (bind l h.0 k ρ) k τ n σ h.2
  work_says (loop_l a r) ρ k τ n σ h = work_says r ρ (at h.0) τ n σ h.2
  work_says (call_l p r) ρ k τ n σ h = work_says r (own_label C p) exit (push k τ) n σ h

  jumped : (o : Option Link) (n : ℕ) (τ : List ℕ) (v : ℕ) → Jumps o (C.instr n) → Jumped o τ (next_m C (C.instr n) τ v)
  jumped none n τ v h = h
  jumped (some k) n τ v h = rw h

  module _ (body : Word → Act) (bodies : HoldsBodies C body) where
    pub call_stands : (ρ : Labels) (k : Link) (τ : List ℕ) (p : Word) → Stands ρ k τ (call_l p (start (body p))) (C.first p) (push k τ)
    call_stands ρ k τ p = start_stands (body p) (own_label C p) (C.first p) exit (push k τ) (bodies p)

    call_says :
        (ρ : Labels) (k : Link) (τ : List ℕ) (p : Word) (x : Sig) (m : At)
        → Says (own_label C p) exit (push k τ) x m → Says ρ k τ (call_s body p x) m
    unfolding leave_to restart_to
    call_says ρ k τ p ends m q = q ∙ pushed k τ
    call_says ρ k τ p (goes r) m q = q
    call_says ρ k τ p (leaves j) m q = jump_says ρ k τ ends lost exit none (push k τ) m (same_bytes j p) (λ e. e ∙ pushed k τ) (λ e. absurd e) q
    call_says ρ k τ p (restarts j) m q =
        jump_says ρ k τ (goes (call_l p (start (body p)))) lost (at (C.first p)) none (push k τ) m (same_bytes j p)
        (λ e. (C.first p, push k τ, e, call_stands ρ k τ p)) (λ e. absurd e) q
    call_says ρ k τ p stops m q = q
    call_says ρ k τ p (faults x y) m q = q

    ins_says : (ρ : Labels) (k : Link) (τ : List ℕ) (i : Ins) (n : ℕ) (v : ℕ) → HoldsI C ρ n k i → Says ρ k τ (next_i body i v) (next_m C (C.instr n) τ v)
    unfolding next_i
    ins_says ρ k τ (iff e a) n zero h = rw h.1
    ins_says ρ k τ (iff e a) n (suc v) h = rw h.1 (h.0, τ, refl, start_stands a ρ h.0 k τ h.2)
    ins_says ρ k τ (decode p e bs) n v h = rw h.1 (find_says ρ k τ p h.0 bs v h.2)
    ins_says ρ k τ (repeat a) n v h = rw h.1 (h.0, τ, refl, (n, h, start_stands a ρ h.0 (at n) τ h.2))
    ins_says ρ k τ (leave l) n v h = jumped (leave_to ρ l) n τ v h
    ins_says ρ k τ (restart l) n v h = jumped (restart_to ρ l) n τ v h
    ins_says ρ k τ (call p) n v h = rw h (C.first p, push k τ, refl, call_stands ρ k τ p)
    ins_says ρ k τ stop n v h = rw h
    ins_says ρ k τ noop n v h = rw h
    ins_says ρ k τ (transfer d e) n v h = rw h

    pub next_says :
        (r : Live) (ρ : Labels) (k : Link) (τ : List ℕ) (n : ℕ) (σ : List ℕ) → Stands ρ k τ r n σ
        → (v : ℕ) → Says ρ k τ (next body r (leftmost r) v) (next_m C (C.instr n) σ v)
    unfolding leftmost
    next_says (one i) ρ k τ n σ h v = rw h.0 (ins_says ρ k τ i n v h.1)
    next_says (seq_l r a) ρ k τ n σ h v =
        seq_says ρ k τ a h.0 (next body r (leftmost r) v) (next_m C (C.instr n) σ v) h.2 (next_says r ρ (at h.0) τ n σ h.1 v)
    next_says (both r t) ρ k τ n σ h v =
        both_says ρ k τ t h.1 h.0 (next body r (leftmost r) v) (next_m C (C.instr n) σ v) h.3 h.4 (next_says r ρ (at h.0) τ n σ h.2 v)
    next_says (left r) ρ k τ n σ h v = absurd h
    next_says (right r) ρ k τ n σ h v = right_says ρ k τ (next body r (leftmost r) v) (next_m C (C.instr n) σ v) (next_says r ρ k τ n σ h v)
    next_says (lab_l l a r) ρ k τ n σ h v =
        lab_says ρ k τ l a h.0 (next body r (leftmost r) v) (next_m C (C.instr n) σ v) h.1 (next_says r (bind l h.0 k ρ) k τ n σ h.2 v)
    next_says (loop_l a r) ρ k τ n σ h v =
        loop-says ρ k τ a h.0 (next body r (leftmost r) v) (next_m C (C.instr n) σ v) h.1 (next_says r ρ (at h.0) τ n σ h.2 v)
    next_says (call_l p r) ρ k τ n σ h v =
        call_says ρ k τ p (next body r (leftmost r) v) (next_m C (C.instr n) σ v) (next_says r (own_label C p) exit (push k τ) n σ h v)
