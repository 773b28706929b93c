-- A code that has the instructions of an action, and a grouping that has its members, hold the action at its place.
use Rattle.std.specs.Prelude.{ℕ, zero, suc, ◌+◌, ◌≡◌, refl, Bool, true, false, not, List, [], ◌∷◌, ◌++◌}
use Rattle.std.proofs.Common.{sym, ◌∙◌, ap, subst}
use Rattle.std.proofs.Math.Option.{Option, none, some}
use Rattle.rules.specs.Grammar.Trees.{Action, block, labelled, if_then, decode, repeat, leave, restart, activate, stop, no_op, transfer, Members, end, also, next}
use Rattle.rules.specs.Grammar.Trees.{Alternatives, counted, selected, Counted, counted_end, counted_more, Selected, select, otherwise, SelectedMore, selected_end, selected_more}
use Rattle.rules.specs.Grammar.Precedence.{expr_of}
use Rattle.rules.specs.Declarations.{Word, Table}
use Rattle.rules.specs.Steps.Actions.{Act, par, in_turn, act_of, groups, alts_of, counted_alts, selected_alts, more_alts}
use Rattle.rules.specs.Faults.Bodies.{judge, faults_in, alternatives_faults, action_faults, members_faults, inside_faults, inside_counted, inside_selected, inside_more}
use Rattle.laws_orders.specs.Cited.Flat.{Link, at, no_entry, Code, Labels, bind}
use Rattle.laws_accepted.proofs.Accepted.Faultless.{both_empty}
use Rattle.laws_code.specs.Cited.Code.{action_size, selector_size, first_of, behind, behind_test, counted_entries, selected_entries, more_entries, entries}
use Rattle.laws_code.specs.Cited.Code.{code_at, members_code, alternatives_code, counted_code, selected_code, more_code}
use Rattle.laws_code.proofs.Links.Numbers.{Has, has_left, has_right}
use Rattle.laws_code.proofs.Links.Held.{label_names, action_held}
use Rattle.telling.specs.Cited.Passing.{Grouping}
use Rattle.telling.specs.Cited.Grouped.{followed, within, Member, Grouped, MembersGrouped, AlternativesGrouped, CountedGrouped, SelectedGrouped, MoreGrouped}
use Rattle.telling.proofs.Holding.{Spot, alone, rest, base, onward, Joins, HoldsIn, HoldsInAlts}

-- where the member at the token i stands, with those of its group that follow it
abbrev spot_of : List ℕ → ℕ → ℕ → Bool → Spot
spot_of c i zero more = alone c
spot_of c i (suc j) more = onward (not more) i c

module _ (C : Code) (M : Grouping) where
  -- a group, and what stands behind NEXT
  abbrev HoldsTurn : Spot → List ℕ → Labels → ℕ → Link → Act → Option Act → Type 0
  HoldsTurn s c ρ f k x none = HoldsIn M C s ρ f k x
  HoldsTurn s c ρ f k x (some z) = (g : ℕ) × HoldsIn M C s ρ f (at g) x × HoldsIn M C (alone c) ρ g k z

  turn_whole : (c : List ℕ) (ρ : Labels) (f : ℕ) (k : Link) (x : Act) (o : Option Act) → HoldsTurn (alone c) c ρ f k x o → HoldsIn M C (alone c) ρ f k (in_turn x o)
  turn_whole c ρ f k x none h = h
  turn_whole c ρ f k x (some z) h = h

  last_turn : (c : List ℕ) (i j : ℕ) (ρ : Labels) (f : ℕ) (k : Link) (x : Act) → HoldsIn M C (alone (within c i j false)) ρ f k x → HoldsIn M C (spot_of c i j false) ρ f k x
  last_turn c i zero ρ f k x h = h
  last_turn c i (suc j) ρ f k x h = h

  -- a member in front of the members behind it
  front :
      (s : Spot) (y z : ℕ) (ρ : Labels) (f g : ℕ) (k : Link) (a b : Act) (o : Option Act) → Joins M s y z → HoldsIn M C (alone (y ∷ base s)) ρ f (at g) a
      → HoldsTurn (onward (M.last z) z (base s)) (base s) ρ g k b o → HoldsTurn s (base s) ρ f k (par a b) o
  front s y z ρ f g k a b none j p q = (g, y, z, j, p, q)
  front s y z ρ f g k a b (some e) j p q = (q.0, (g, y, z, j, p, q.1), q.2)

  in_front :
      (c : List ℕ) (i j i' : ℕ) (more : Bool) (ρ : Labels) (f g : ℕ) (k : Link) (a b : Act) (o : Option Act) → Member M i j true → Member M i' (suc j) more
      → HoldsIn M C (alone (within c i j true)) ρ f (at g) a → HoldsTurn (spot_of c i' (suc j) more) c ρ g k b o → HoldsTurn (spot_of c i j true) c ρ f k (par a b) o
  in_front c i zero i' more ρ f g k a b o m m' p q =
      front (alone c) i i' ρ f g k a b o (record { leads = m.0; followed = m.1; next = m'.0 ∙ ap suc (sym m.0) }) p
      (subst (λ l. HoldsTurn (onward l i' c) c ρ g k b o) (sym m'.1) q)
  in_front c i (suc j) i' more ρ f g k a b o m m' p q =
      front (rest i c) i i' ρ f g k a b o (record { leads = refl; followed = m.1; next = m'.0 ∙ ap suc (sym m.0) }) p
      (subst (λ l. HoldsTurn (onward l i' c) c ρ g k b o) (sym m'.1) q)

  module _ (out : Word) (ds : Table) where
    mutual
      unfolding first_of behind entries counted_entries selected_entries more_entries code_at members_code alternatives_code counted_code selected_code more_code act_of groups alts_of counted_alts selected_alts more_alts action_faults members_faults inside_faults inside_counted inside_selected inside_more

      pub action_grouped :
          (a : Action) (c : List ℕ) (ρ : Labels) (i : ℕ) (k : Link) → action_faults out ds (label_names ρ) a ≡ [] → Has C.instr (code_at ρ i k a)
          → Grouped M c i a → HoldsIn M C (alone c) ρ (first_of i a) k (act_of a)
      action_grouped (block b a m) c ρ i k e h q =
          let j = suc i + action_size a in
          let l = behind j k m in
          let f = both_empty (action_faults out ds (label_names ρ) a) (members_faults out ds (label_names ρ) m) e in
          let g = groups (act_of a) m in
          turn_whole c ρ (first_of (suc i) a) k g.group g.behind
          (members_grouped m c ρ (suc i) 0 j k (first_of (suc i) a) (act_of a) f.1 q.0
          (action_grouped a (within c (suc i) 0 (followed m)) ρ (suc i) l f.0 (has_left C.instr (code_at ρ (suc i) l a) (members_code ρ j k m) h) q.1)
          (has_right C.instr (code_at ρ (suc i) l a) (members_code ρ j k m) h) q.2)
      action_grouped (labelled n b a) c ρ i k e h q = action_grouped a c (bind n.word (first_of (suc (suc i)) a) k ρ) (suc (suc i)) k e h q
      action_grouped (if_then x o t w a) c ρ i k e h q =
          let j = behind_test i o t in
          (q.0, (first_of j a, h.0, action_grouped a c ρ j k (both_empty (faults_in out ds o t) (action_faults out ds (label_names ρ) a) e).1 h.1 q.1))
      action_grouped (decode x o t w b v) c ρ i k e h q =
          let j = suc (behind_test i o t) in
          let faults = alternatives_faults (judge out ds (expr_of o t)).bits v in
          let f = both_empty (faults_in out ds o t) (faults ++ inside_faults out ds (label_names ρ) v) e in
          (q.0, (entries j v, h.0, alternatives_grouped v c ρ j k (both_empty faults (inside_faults out ds (label_names ρ) v) f.1).1 h.1 q.1))
      action_grouped (repeat x a) c ρ i k e h q = (q.0, (first_of (suc i) a, h.0, action_grouped a c ρ (suc i) (at i) e h.1 q.1))
      action_grouped (leave x n) c ρ i k e h q = (q, action_held C out ds (leave x n) ρ i k e h)
      action_grouped (restart x n) c ρ i k e h q = (q, action_held C out ds (restart x n) ρ i k e h)
      action_grouped (activate n l r) c ρ i k e h q = (q, h.0)
      action_grouped (stop x l r) c ρ i k e h q = (q, h.0)
      action_grouped (no_op x l r) c ρ i k e h q = (q, h.0)
      action_grouped (transfer n s b j y o t) c ρ i k e h q = (q, h.0)

      -- the member x at the token t, with j of its group before it, held from f on with the link to what follows it; and what follows it
      members_grouped :
          (m : Members) (c : List ℕ) (ρ : Labels) (t j i : ℕ) (k : Link) (f : ℕ) (x : Act) → members_faults out ds (label_names ρ) m ≡ []
          → Member M t j (followed m) → HoldsIn M C (alone (within c t j (followed m))) ρ f (behind i k m) x → Has C.instr (members_code ρ i k m)
          → MembersGrouped M c i j m → HoldsTurn (spot_of c t j (followed m)) c ρ f k (groups x m).group (groups x m).behind
      members_grouped (end y) c ρ t j i k f x e z p h q = last_turn c t j ρ f k x p
      members_grouped (also y a m) c ρ t j i k f x e z p h q =
          let u = suc i + action_size a in
          let l = behind u k m in
          let g = both_empty (action_faults out ds (label_names ρ) a) (members_faults out ds (label_names ρ) m) e in
          let b = groups (act_of a) m in
          in_front c t j (suc i) (followed m) ρ f (first_of (suc i) a) k x b.group b.behind z q.0 p
          (members_grouped m c ρ (suc i) (suc j) u k (first_of (suc i) a) (act_of a) g.1 q.0
          (action_grouped a (within c (suc i) (suc j) (followed m)) ρ (suc i) l g.0 (has_left C.instr (code_at ρ (suc i) l a) (members_code ρ u k m) h) q.1)
          (has_right C.instr (code_at ρ (suc i) l a) (members_code ρ u k m) h) q.2)
      members_grouped (next y a m) c ρ t j i k f x e z p h q =
          let u = suc i + action_size a in
          let l = behind u k m in
          let g = both_empty (action_faults out ds (label_names ρ) a) (members_faults out ds (label_names ρ) m) e in
          let b = groups (act_of a) m in (
            first_of (suc i) a,
            last_turn c t j ρ f (at (first_of (suc i) a)) x p,
            turn_whole c ρ (first_of (suc i) a) k b.group b.behind
                (members_grouped m c ρ (suc i) 0 u k (first_of (suc i) a) (act_of a) g.1 q.0
                (action_grouped a (within c (suc i) 0 (followed m)) ρ (suc i) l g.0 (has_left C.instr (code_at ρ (suc i) l a) (members_code ρ u k m) h) q.1)
                (has_right C.instr (code_at ρ (suc i) l a) (members_code ρ u k m) h) q.2),
          )

      alternatives_grouped :
          (v : Alternatives) (c : List ℕ) (ρ : Labels) (i : ℕ) (k : Link) → inside_faults out ds (label_names ρ) v ≡ [] → Has C.instr (alternatives_code ρ i k v)
          → AlternativesGrouped M c i v → HoldsInAlts M C c ρ (entries i v) k (alts_of v)
      alternatives_grouped (counted a t) c ρ i k e h q =
          let j = i + action_size a in
          let g = both_empty (action_faults out ds (label_names ρ) a) (inside_counted out ds (label_names ρ) t) e in (
            first_of i a,
            counted_entries 1 j t,
            refl,
            action_grouped a c ρ i k g.0 (has_left C.instr (code_at ρ i k a) (counted_code ρ j k t) h) q.0,
            counted_grouped t c ρ 1 j k g.1 (has_right C.instr (code_at ρ i k a) (counted_code ρ j k t) h) q.1,
          )
      alternatives_grouped (selected s) c ρ i k e h q = selected_grouped s c ρ i k e h q

      counted_grouped :
          (t : Counted) (c : List ℕ) (ρ : Labels) (n i : ℕ) (k : Link) → inside_counted out ds (label_names ρ) t ≡ [] → Has C.instr (counted_code ρ i k t)
          → CountedGrouped M c i t → HoldsInAlts M C c ρ (counted_entries n i t) k (counted_alts n t)
      counted_grouped (counted_end x) c ρ n i k e h q = refl
      counted_grouped (counted_more x a t) c ρ n i k e h q =
          let j = suc i + action_size a in
          let g = both_empty (action_faults out ds (label_names ρ) a) (inside_counted out ds (label_names ρ) t) e in (
            first_of (suc i) a,
            counted_entries (suc n) j t,
            refl,
            action_grouped a c ρ (suc i) k g.0 (has_left C.instr (code_at ρ (suc i) k a) (counted_code ρ j k t) h) q.0,
            counted_grouped t c ρ (suc n) j k g.1 (has_right C.instr (code_at ρ (suc i) k a) (counted_code ρ j k t) h) q.1,
          )

      selected_grouped :
          (s : Selected) (c : List ℕ) (ρ : Labels) (i : ℕ) (k : Link) → inside_selected out ds (label_names ρ) s ≡ [] → Has C.instr (selected_code ρ i k s)
          → SelectedGrouped M c i s → HoldsInAlts M C c ρ (selected_entries i s) k (selected_alts s)
      selected_grouped (select s b a m) c ρ i k e h q =
          let f = suc (i + selector_size s) in
          let j = f + action_size a in
          let g = both_empty (action_faults out ds (label_names ρ) a) (inside_more out ds (label_names ρ) m) e in (
            first_of f a,
            more_entries j m,
            refl,
            action_grouped a c ρ f k g.0 (has_left C.instr (code_at ρ f k a) (more_code ρ j k m) h) q.0,
            more_grouped m c ρ j k g.1 (has_right C.instr (code_at ρ f k a) (more_code ρ j k m) h) q.1,
          )
      selected_grouped (otherwise x b a y) c ρ i k e h q =
          (first_of (suc (suc i)) a, no_entry, refl, action_grouped a c ρ (suc (suc i)) k e h q, refl)

      more_grouped :
          (m : SelectedMore) (c : List ℕ) (ρ : Labels) (i : ℕ) (k : Link) → inside_more out ds (label_names ρ) m ≡ [] → Has C.instr (more_code ρ i k m)
          → MoreGrouped M c i m → HoldsInAlts M C c ρ (more_entries i m) k (more_alts m)
      more_grouped (selected_end x) c ρ i k e h q = refl
      more_grouped (selected_more x s) c ρ i k e h q = selected_grouped s c ρ (suc i) k e h q
