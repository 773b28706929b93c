-- A code that has the instructions of an action at their numbers holds the action, where every jump has its target, as row 44 demands.
use Rattle.std.specs.Prelude.{ℕ, suc, ◌+◌, ◌≡◌, Bool, not, cond, ◌||◌, List, [], ◌∷◌, ◌++◌}
use Rattle.std.proofs.Math.Path.{refl}
use Rattle.std.proofs.Common.{sym, ◌∙◌, ap}
use Rattle.std.proofs.Math.Bool.{true, false}
use Rattle.std.proofs.lemmas.Bool.{false≢true, not-false}
use Rattle.std.proofs.Math.Option.{Option, none, some}
use Rattle.rules.specs.Text.Scan.{same_bytes}
use Rattle.rules.specs.Grammar.Trees.{Action, block, labelled, if_then, decode, repeat, leave, restart, activate, stop, no_op, transfer, Members, end, also, next}
use Rattle.rules.specs.Grammar.Trees.{Alternatives, counted, selected, Counted, counted_end, counted_more, Selected, select, otherwise, SelectedMore, selected_end, selected_more}
use Rattle.rules.specs.Grammar.Precedence.{expr_of}
use Rattle.rules.specs.Declarations.{Word, Table}
use Rattle.rules.specs.Steps.Actions.{Act, par, in_turn, whole, act_of, groups, alts_of, counted_alts, selected_alts, more_alts}
use Rattle.rules.specs.Faults.Fault.{when}
use Rattle.rules.specs.Faults.Declared.{is_known}
use Rattle.rules.specs.Faults.Bodies.{judge, faults_in, alternatives_faults, action_faults, members_faults, inside_faults, inside_counted, inside_selected, inside_more}
use Rattle.laws_orders.specs.Cited.Flat.{Link, at, no_entry, Instr, go_i, Code, Labels, outer, bind, leave_to, restart_to, Jumps, Holds, HoldsAlts}
use Rattle.laws_accepted.proofs.Accepted.Faultless.{both_empty, when_empty}
use Rattle.laws_accepted.proofs.Accepted.Named.{same_equal, same_itself}
use Rattle.laws_code.specs.Cited.Code.{action_size, selector_size, first_of, behind, target, behind_test, counted_entries, selected_entries, more_entries, entries}
use Rattle.laws_code.specs.Cited.Code.{code_at, members_code, alternatives_code, counted_code, selected_code, more_code}
use Rattle.laws_code.proofs.Links.Numbers.{Has, has_left, has_right}

-- the names of the labels around an action
abbrev pub label_names : Labels → List Word
label_names outer = []
label_names (bind l f k ρ) = l ∷ label_names ρ

abbrev HasTarget : Option Link → Type 0
HasTarget none = ⊥
HasTarget (some k) = Unit {0}

jumped : (o : Option Link) (x : Instr) → HasTarget o → x ≡ go_i (target o) → Jumps o x
jumped none x h e = h
jumped (some k) x h e = e

-- where the innermost label of a name is taken, a known name has a target
module _ (to : Labels → Word → Option Link) (here : ℕ → Link → Link) where
  abbrev Innermost : Type 0
  Innermost = (l : Word) (f : ℕ) (k : Link) (ρ : Labels) (j : Word) → to (bind l f k ρ) j ≡ cond (same_bytes j l) (some (here f k)) (to ρ j)

  known_target : Innermost → (ρ : Labels) (j : Word) → is_known j (label_names ρ) ≡ true → HasTarget (to ρ j)
  unfolding is_known
  known_target step outer j h = absurd (false≢true h)
  known_target step (bind l f k ρ) j h = rw step (by (same_bytes l j) (same_bytes j l) refl refl (known_target step ρ j) h)
    where
      by :
          (a b : Bool) → same_bytes l j ≡ a → same_bytes j l ≡ b → (is_known j (label_names ρ) ≡ true → HasTarget (to ρ j))
          → (a || is_known j (label_names ρ)) ≡ true → HasTarget (cond b (some (here f k)) (to ρ j))
      by a true p q ih z = tt
      by true false p q ih z = absurd (false≢true (sym q ∙ (ap (same_bytes j) (same_equal l j p) ∙ same_itself j)))
      by false false p q ih z = ih z

leave_target : (ρ : Labels) (j : Word) → is_known j (label_names ρ) ≡ true → HasTarget (leave_to ρ j)
unfolding leave_to
leave_target = known_target leave_to (λ f k. k) (λ l f k ρ j. refl)

restart_target : (ρ : Labels) (j : Word) → is_known j (label_names ρ) ≡ true → HasTarget (restart_to ρ j)
unfolding restart_to
restart_target = known_target restart_to (λ f k. at f) (λ l f k ρ j. refl)

known : (n : Word) (ls : List Word) (p : ℕ) → when (not (is_known n ls)) 44 p ≡ [] → is_known n ls ≡ true
known n ls p e = not-false (is_known n ls) (when_empty (not (is_known n ls)) 44 p e)

module _ (C : Code) where
  -- a member in front of the members and groups behind it
  in_front :
      (ρ : Labels) (f g : ℕ) (k : Link) (x y : Act) (o : Option Act) → Holds C ρ f (at g) x → Holds C ρ g k (in_turn y o)
      → Holds C ρ f k (in_turn (par x y) o)
  in_front ρ f g k x y none p q = (g, p, q)
  in_front ρ f g k x y (some z) p q = (q.0, (g, p, q.1), q.2)

  module _ (out : Word) (ds : Table) where
    mutual
      unfolding first_of behind entries counted_entries selected_entries more_entries code_at members_code alternatives_code counted_code selected_code more_code act_of groups alts_of counted_alts selected_alts more_alts action_faults members_faults inside_faults inside_counted inside_selected inside_more

      pub action_held :
          (a : Action) (ρ : Labels) (i : ℕ) (k : Link) → action_faults out ds (label_names ρ) a ≡ [] → Has C.instr (code_at ρ i k a)
          → Holds C ρ (first_of i a) k (act_of a)
      action_held (block b a m) ρ i k e h =
          let j = suc i + action_size a in
          let l = behind j k m in
          let f = both_empty (action_faults out ds (label_names ρ) a) (members_faults out ds (label_names ρ) m) e in
          members_held m ρ j k (first_of (suc i) a) (act_of a) f.1
          (action_held a ρ (suc i) l f.0 (has_left C.instr (code_at ρ (suc i) l a) (members_code ρ j k m) h))
          (has_right C.instr (code_at ρ (suc i) l a) (members_code ρ j k m) h)
      action_held (labelled n b a) ρ i k e h = action_held a (bind n.word (first_of (suc (suc i)) a) k ρ) (suc (suc i)) k e h
      action_held (if_then x o t w a) ρ i k e h =
          let j = behind_test i o t in
          (first_of j a, h.0, action_held a ρ j k (both_empty (faults_in out ds o t) (action_faults out ds (label_names ρ) a) e).1 h.1)
      action_held (decode x o t w b v) ρ i k e h =
          let j = suc (behind_test i o t) in
          let faults = alternatives_faults (judge out ds (expr_of o t)).bits v in
          let f = both_empty (faults_in out ds o t) (faults ++ inside_faults out ds (label_names ρ) v) e in
          (entries j v, h.0, alternatives_held v ρ j k (both_empty faults (inside_faults out ds (label_names ρ) v) f.1).1 h.1)
      action_held (repeat x a) ρ i k e h = (first_of (suc i) a, h.0, action_held a ρ (suc i) (at i) e h.1)
      action_held (leave x n) ρ i k e h =
          jumped (leave_to ρ n.word) (C.instr i) (leave_target ρ n.word (known n.word (label_names ρ) x.place e)) h.0
      action_held (restart x n) ρ i k e h =
          jumped (restart_to ρ n.word) (C.instr i) (restart_target ρ n.word (known n.word (label_names ρ) x.place e)) h.0
      action_held (activate n l r) ρ i k e h = h.0
      action_held (stop x l r) ρ i k e h = h.0
      action_held (no_op x l r) ρ i k e h = h.0
      action_held (transfer n s b j q o t) ρ i k e h = h.0

      -- the member x, held from f on with the link to what follows it, and what follows it
      members_held :
          (m : Members) (ρ : Labels) (i : ℕ) (k : Link) (f : ℕ) (x : Act) → members_faults out ds (label_names ρ) m ≡ []
          → Holds C ρ f (behind i k m) x → Has C.instr (members_code ρ i k m) → Holds C ρ f k (whole (groups x m))
      members_held (end y) ρ i k f x e p h = p
      members_held (also y a m) ρ i k f x e p h =
          let j = suc i + action_size a in
          let l = behind j k m in
          let g = both_empty (action_faults out ds (label_names ρ) a) (members_faults out ds (label_names ρ) m) e in
          let b = groups (act_of a) m in
          in_front ρ f (first_of (suc i) a) k x b.group b.behind p
          (members_held m ρ j k (first_of (suc i) a) (act_of a) g.1
          (action_held a ρ (suc i) l g.0 (has_left C.instr (code_at ρ (suc i) l a) (members_code ρ j k m) h))
          (has_right C.instr (code_at ρ (suc i) l a) (members_code ρ j k m) h))
      members_held (next y a m) ρ i k f x e p h =
          let j = suc i + action_size a in
          let l = behind j k m in
          let g = both_empty (action_faults out ds (label_names ρ) a) (members_faults out ds (label_names ρ) m) e in (
            first_of (suc i) a,
            p,
            members_held m ρ j k (first_of (suc i) a) (act_of a) g.1
                (action_held a ρ (suc i) l g.0 (has_left C.instr (code_at ρ (suc i) l a) (members_code ρ j k m) h))
                (has_right C.instr (code_at ρ (suc i) l a) (members_code ρ j k m) h),
          )

      alternatives_held :
          (v : Alternatives) (ρ : Labels) (i : ℕ) (k : Link) → inside_faults out ds (label_names ρ) v ≡ [] → Has C.instr (alternatives_code ρ i k v)
          → HoldsAlts C ρ (entries i v) k (alts_of v)
      alternatives_held (counted a c) ρ i k e h =
          let j = i + action_size a in
          let g = both_empty (action_faults out ds (label_names ρ) a) (inside_counted out ds (label_names ρ) c) e in (
            first_of i a,
            counted_entries 1 j c,
            refl,
            action_held a ρ i k g.0 (has_left C.instr (code_at ρ i k a) (counted_code ρ j k c) h),
            counted_held c ρ 1 j k g.1 (has_right C.instr (code_at ρ i k a) (counted_code ρ j k c) h),
          )
      alternatives_held (selected s) ρ i k e h = selected_held s ρ i k e h

      counted_held :
          (c : Counted) (ρ : Labels) (n i : ℕ) (k : Link) → inside_counted out ds (label_names ρ) c ≡ [] → Has C.instr (counted_code ρ i k c)
          → HoldsAlts C ρ (counted_entries n i c) k (counted_alts n c)
      counted_held (counted_end x) ρ n i k e h = refl
      counted_held (counted_more x a c) ρ n i k e h =
          let j = suc i + action_size a in
          let g = both_empty (action_faults out ds (label_names ρ) a) (inside_counted out ds (label_names ρ) c) e in (
            first_of (suc i) a,
            counted_entries (suc n) j c,
            refl,
            action_held a ρ (suc i) k g.0 (has_left C.instr (code_at ρ (suc i) k a) (counted_code ρ j k c) h),
            counted_held c ρ (suc n) j k g.1 (has_right C.instr (code_at ρ (suc i) k a) (counted_code ρ j k c) h),
          )

      selected_held :
          (s : Selected) (ρ : Labels) (i : ℕ) (k : Link) → inside_selected out ds (label_names ρ) s ≡ [] → Has C.instr (selected_code ρ i k s)
          → HoldsAlts C ρ (selected_entries i s) k (selected_alts s)
      selected_held (select s b a m) ρ i k e h =
          let f = suc (i + selector_size s) in
          let j = f + action_size a in
          let g = both_empty (action_faults out ds (label_names ρ) a) (inside_more out ds (label_names ρ) m) e in (
            first_of f a,
            more_entries j m,
            refl,
            action_held a ρ f k g.0 (has_left C.instr (code_at ρ f k a) (more_code ρ j k m) h),
            more_held m ρ j k g.1 (has_right C.instr (code_at ρ f k a) (more_code ρ j k m) h),
          )
      selected_held (otherwise x b a y) ρ i k e h = (first_of (suc (suc i)) a, no_entry, refl, action_held a ρ (suc (suc i)) k e h, refl)

      more_held :
          (m : SelectedMore) (ρ : Labels) (i : ℕ) (k : Link) → inside_more out ds (label_names ρ) m ≡ [] → Has C.instr (more_code ρ i k m)
          → HoldsAlts C ρ (more_entries i m) k (more_alts m)
      more_held (selected_end x) ρ i k e h = refl
      more_held (selected_more x s) ρ i k e h = selected_held s ρ (suc i) k e h
