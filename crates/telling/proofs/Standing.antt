-- Where the tracing machine stands for what is left of an action, and that it goes on and tells as left to right does.
use Prim.Native.Nat.{ℕ, zero, suc, ◌≤◌}
use Rattle.std.specs.Prelude.{◌≡◌, Bool, cond, length}
use Rattle.std.proofs.Math.Path.{refl, sym, ap}
use Rattle.std.proofs.Common.{◌∙◌, subst, arith}
use Rattle.std.proofs.Math.Bool.{true, false}
use Rattle.std.proofs.lemmas.Bool.{false≢true}
use mathlib.Core.List.{List, [], ◌∷◌, ◌++◌, append_assoc, append-nil, map}
use Rattle.std.proofs.Math.Option.{Option, none, some}
use Rattle.rules.specs.Text.Scan.{same_bytes}
use Rattle.rules.specs.Selectors.{takes}
use Rattle.rules.specs.Declarations.{Word}
use Rattle.rules.specs.Steps.Actions.{Act, seq, par, label, ins, Ins, iff, decode, repeat, leave, restart, call, stop, noop, transfer, Alts, no_alts, alt}
use Rattle.rules.specs.Steps.Control.{Live, one, seq_l, both, left, right, lab_l, loop_l, call_l, start, leftmost}
use Rattle.rules.specs.Steps.Control.{Sig, ends, goes, leaves, restarts, stops, faults, seq_s, both_l, right_s, lab_s, loop_s, choose, pick_s, lost, call_s, next_i, next}
use Rattle.laws_orders.specs.Cited.Flat.{Link, at, exit, Entries, Code, pc, over, halt, broken, push, find, Labels, bind, leave_to, restart_to, Jumps, own_label, call_i}
use Rattle.laws_orders.proofs.Orders.Foot.{Foot, Prints}
use Rattle.laws_orders.proofs.Orders.Ok.{Env, under, member, OkL, OkS, in_body, BodiesOk}
use Rattle.laws_orders.proofs.Orders.Next.{next_ok}
use Rattle.traces.specs.Cited.Events.{Event, opens, turns, closes}
use Rattle.traces.specs.Telling.{openings, fresh, at_end, at_restart, step_events}
use Rattle.telling.specs.Cited.Passing.{Grouping, Passing, opened, turned, closed, times, pair_opens, all_pairs, passage}
use Rattle.telling.specs.Cited.Tracing.{Told, told, behind_all, link_of, resume, return, follow, picked_t, next_t, addresses}
use Rattle.telling.proofs.Passages.{into, into_append, Lasts, Firsts, passage_on, passage_next}
use Rattle.telling.proofs.Moves.{Moves, moves_none, moves_append, moves_closed, moves_opened, moves_as, pairs_append}
use Rattle.telling.proofs.Holding.{Spot, alone, rest, base, entrance, onward, Leads, Joins, HoldsIn, HoldsInI, HoldsInAlts, HoldsGrouped}

lasts_append : (M : Grouping) (xs ys : List ℕ) → Lasts M xs → Lasts M ys → Lasts M (xs ++ ys)
lasts_append M [] ys h k = k
lasts_append M (x ∷ xs) ys h k = (h.0, h.1, lasts_append M xs ys h.2 k)

closed_append : (xs ys : List ℕ) → map closed (xs ++ ys) ≡ map closed xs ++ map closed ys
closed_append [] ys = refl
closed_append (x ∷ xs) ys = ap (λ z. closed x ∷ z) (closed_append xs ys)

entrance_onward : (b : Bool) (y : ℕ) (c : List ℕ) → entrance (onward b y c) ≡ y ∷ c
entrance_onward true y c = refl
entrance_onward false y c = refl

-- the group of two that begins with what is left of a larger one
abbrev lead : Spot → List Event
lead (alone c) = []
lead (rest x c) = opens ∷ []

lead_onward : (b : Bool) (y : ℕ) (c : List ℕ) → lead (onward b y c) ≡ pair_opens b
lead_onward true y c = refl
lead_onward false y c = refl

module _ (C : Code) (M : Grouping) where
  -- how many groups of two have begun before what is left of a larger one
  abbrev pending : Spot → ℕ
  pending (alone c) = 0
  pending (rest x c) = M.before x

  leads_pending : (s : Spot) (x : ℕ) → Leads M s x → M.before x ≡ pending s
  leads_pending (alone c) x h = h
  leads_pending (rest z c) x h = ap M.before h

  -- the members around the activations that go on
  unfoldable pub whole : List ℕ → List ℕ
  whole [] = []
  whole (m ∷ κ) = M.around m ++ whole κ

  -- instructions that activate
  abbrev pub Activations : List ℕ → Type 0
  Activations [] = Unit {0}
  Activations (m ∷ κ) = ((p : Word) × (k : Link) × (C.instr m ≡ call_i p k)) × Activations κ

  -- An activation inside the members c goes on with the stack κ; behind it control goes by the link k with the stack τ. MAIN goes on by no instruction, with an
  -- empty stack, and nothing is behind it.
  pub record Entered (c : List ℕ) (k : Link) (τ κ : List ℕ) : Type 0 where
    pub back : return C M κ ≡ follow C M c k τ
    pub inside : whole κ ≡ c ++ whole τ
    pub addressed : addresses C κ ≡ push k (addresses C τ)
    pub deeper : length κ ≤ suc (length τ)
    pub active : Activations τ → Activations κ

  -- The residual's leftmost instruction is at n, with the stack κ; τ is the stack of the place where the residual stands, and k the link behind it.
  abbrev pub Stands : Spot → Labels → Link → List ℕ → Live → ℕ → List ℕ → Type 0
  Stands (alone c) ρ k τ (one i) n κ = (κ ≡ τ) × (M.around n ≡ c) × HoldsInI M C c ρ n k i
  Stands (rest z c) ρ k τ (one i) n κ = ⊥
  Stands (alone c) ρ k τ (seq_l r a) n κ = (g : ℕ) × Stands (alone c) ρ (at g) τ r n κ × HoldsIn M C (alone c) ρ g k a
  Stands (rest z c) ρ k τ (seq_l r a) n κ = ⊥
  Stands s ρ k τ (both r t) n κ =
      (g : ℕ) × (b : Act) × (x : ℕ) × (y : ℕ) × Joins M s x y × Stands (alone (x ∷ base s)) ρ (at g) τ r n κ × (t ≡ start b)
      × HoldsIn M C (onward (M.last y) y (base s)) ρ g k b
  Stands s ρ k τ (left r) n κ = ⊥
  Stands s ρ k τ (right r) n κ = (x : ℕ) × (y : ℕ) × Joins M s x y × Stands (onward (M.last y) y (base s)) ρ k τ r n κ
  Stands (alone c) ρ k τ (lab_l l a r) n κ =
      (f : ℕ) × HoldsIn M C (alone c) (bind l f k ρ) f k a × Stands (alone c) (bind l f k ρ) k τ r n κ
  Stands (rest z c) ρ k τ (lab_l l a r) n κ = ⊥
  Stands (alone c) ρ k τ (loop_l a r) n κ =
      (f : ℕ) × (M.around f ≡ c) × HoldsInI M C c ρ f k (repeat a) × Stands (alone c) ρ (at f) τ r n κ
  Stands (rest z c) ρ k τ (loop_l a r) n κ = ⊥
  Stands (alone c) ρ k τ (call_l p r) n κ = (υ : List ℕ) × Entered c k τ υ × Stands (alone []) (own_label C p) exit υ r n κ
  Stands (rest z c) ρ k τ (call_l p r) n κ = ⊥

  -- From the members w, bodies ended first: `before` was passed and `first` told. Then the action has ended inside the last members `passed`; the pairs that have
  -- ended with it are told, but not yet those around what is left of a group. Control goes by the link behind the action.
  pub record Ends (s : Spot) (k : Link) (τ w : List ℕ) (es : List Event) (m : Told) : Type 0 where
    passed : List ℕ
    lasts : Lasts M passed
    before : List Passing
    first : List Event
    moves : Moves M w first before (passed ++ (base s ++ whole τ))
    events : es ++ times (pending s) closes ≡ first ++ all_pairs M (map closed passed)
    control : m ≡ behind_all before (follow C M (passed ++ base s) k τ)

  -- control has come to n
  pub record Goes (s : Spot) (ρ : Labels) (k : Link) (τ w : List ℕ) (es : List Event) (r : Live) (m : Told) : Type 0 where
    pub n : ℕ
    pub κ : List ℕ
    pub control : m.control ≡ pc n κ
    pub stands : Stands s ρ k τ r n κ
    pub moves : Moves M w es m.passed (M.around n ++ whole κ)

  -- a jump to a label is made from the members c
  abbrev pub Jumped : Option Link → List ℕ → List ℕ → Told → Type 0
  Jumped none c τ m = ⊥
  Jumped (some k) c τ m = m ≡ follow C M c k τ

  pub record Jumping (to : Option Link) (s : Spot) (τ w : List ℕ) (es : List Event) (m : Told) : Type 0 where
    pub jumped : Jumped to (base s) τ m
    pub same : w ≡ base s ++ whole τ
    pub silent : es ≡ []

  -- what the machine has come to and told, by what the residual's step says and tells
  abbrev pub Says : Spot → Labels → Link → List ℕ → List ℕ → List Event → Sig → Told → Type 0
  Says s ρ k τ w es ends m = Ends s k τ w es m
  Says s ρ k τ w es (goes r) m = Goes s ρ k τ w es r m
  Says s ρ k τ w es (leaves l) m = Jumping (leave_to ρ l) s τ w es m
  Says s ρ k τ w es (restarts l) m = Jumping (restart_to ρ l) s τ w es m
  Says s ρ k τ w es stops m = (m ≡ told halt []) × (es ≡ [])
  Says s ρ k τ w es (faults x p) m = (m ≡ told (broken x p) []) × (es ≡ [])

  -- what the step of a member can say
  abbrev Inside : Sig → Type 0
  Inside ends = Unit {0}
  Inside (goes r) = Unit {0}
  Inside (leaves l) = ⊥
  Inside (restarts l) = ⊥
  Inside stops = ⊥
  Inside (faults x p) = Unit {0}

  -- the first members inside which an action begins, and what is told there
  record Begins (s : Spot) (f : ℕ) (es : List Event) : Type 0 where
    entered : List ℕ
    firsts : Firsts M entered
    place : M.around f ≡ into entered (entrance s)
    events : es ≡ lead s ++ all_pairs M (map opened entered)

  par_begins :
      (s : Spot) (x y f : ℕ) (es : List Event) → Joins M s x y → Begins (alone (x ∷ base s)) f es → Begins s f (opens ∷ es)
  unfolding into all_pairs
  par_begins (alone c) x y f es j b =
      record {
        entered = x ∷ b.entered;
        firsts = (j.leads, j.followed, b.firsts);
        place = b.place;
        events = ap (λ z. opens ∷ z) b.events;
      }
  par_begins (rest z c) x y f es j b =
      record {
        entered = b.entered;
        firsts = b.firsts;
        place = b.place ∙ ap (λ u. into b.entered (u ∷ c)) j.leads;
        events = ap (λ z. opens ∷ z) b.events;
      }

  start_begins : (a : Act) (s : Spot) (ρ : Labels) (f : ℕ) (k : Link) → HoldsIn M C s ρ f k a → Begins s f (openings (start a))
  unfolding start openings all_pairs into
  start_begins (seq a b) (alone c) ρ f k h = start_begins a (alone c) ρ f (at h.0) h.1
  start_begins (seq a b) (rest z c) ρ f k h = absurd h
  start_begins (par a b) s ρ f k h =
      par_begins s h.1 h.2 f (openings (start a)) h.3 (start_begins a (alone (h.1 ∷ base s)) ρ f (at h.0) h.4)
  start_begins (label l a) (alone c) ρ f k h = start_begins a (alone c) (bind l f k ρ) f k h
  start_begins (label l a) (rest z c) ρ f k h = absurd h
  start_begins (ins i) (alone c) ρ f k h = record { entered = []; firsts = tt; place = h.0; events = refl }
  start_begins (ins i) (rest z c) ρ f k h = absurd h

  pub start_stands : (a : Act) (s : Spot) (ρ : Labels) (f : ℕ) (k : Link) (τ : List ℕ) → HoldsIn M C s ρ f k a → Stands s ρ k τ (start a) f τ
  unfolding start
  start_stands (seq a b) (alone c) ρ f k τ h = (h.0, start_stands a (alone c) ρ f (at h.0) τ h.1, h.2)
  start_stands (seq a b) (rest z c) ρ f k τ h = absurd h
  start_stands (par a b) s ρ f k τ h =
      (h.0, b, h.1, h.2, h.3, start_stands a (alone (h.1 ∷ base s)) ρ f (at h.0) τ h.4, refl, h.5)
  start_stands (label l a) (alone c) ρ f k τ h = (f, h, start_stands a (alone c) (bind l f k ρ) f k τ h)
  start_stands (label l a) (rest z c) ρ f k τ h = absurd h
  start_stands (ins i) (alone c) ρ f k τ h = (refl, h.0, h.1)
  start_stands (ins i) (rest z c) ρ f k τ h = absurd h

  -- what was told until the end of an action that stands by itself
  ends_events : {c τ w : List ℕ} {k : Link} {es : List Event} {m : Told} (e : Ends (alone c) k τ w es m) → es ≡ e.first ++ all_pairs M (map closed e.passed)
  unfolding times
  ends_events {es = es} e = sym (append-nil es) ∙ e.events

  -- from the end of an action, control goes on to first members
  on_moves :
      {c τ w : List ℕ} {es os : List Event} {m : Told} {g : ℕ} {mid : List Passing} (d ys : List ℕ) (e : Ends (alone c) (at g) τ w es m)
      → Firsts M ys → M.around g ≡ into ys d → passage M (e.passed ++ c) (into ys d) ≡ map closed e.passed ++ (mid ++ map opened ys)
      → Moves M (c ++ whole τ) os mid (d ++ whole τ) → Moves M w (es ++ (os ++ all_pairs M (map opened ys))) m.passed (M.around g ++ whole τ)
  on_moves {c} {τ} {w} {es} {os} {m} {g} {mid} d ys e f p q v =
      let A : List Event = all_pairs M (map closed e.passed) in
      let O : List Event = all_pairs M (map opened ys) in
      moves_as M
      (ap (λ z. z ++ (os ++ O)) (ends_events e) ∙ append_assoc e.first A (os ++ O))
      (ap (λ (z : Told). z.passed) e.control ∙ ap (λ z. e.before ++ z) (ap (passage M (e.passed ++ c)) p ∙ q))
      (into_append ys d (whole τ) ∙ ap (λ z. z ++ whole τ) (sym p))
      (moves_append M e.moves
      (moves_append M (moves_closed M e.passed (c ++ whole τ) e.lasts) (moves_append M v (moves_opened M ys (d ++ whole τ) f))))

  -- to the start of another action
  on_start :
      {c τ w : List ℕ} {es : List Event} {m : Told} {g : ℕ} (ρ : Labels) (k : Link) (a : Act) → HoldsIn M C (alone c) ρ g k a
      → Ends (alone c) (at g) τ w es m → Moves M w (es ++ openings (start a)) m.passed (M.around g ++ whole τ)
  on_start {c} {τ} {w} {es} {m} {g} ρ k a h e =
      let b = start_begins a (alone c) ρ g k h in
      moves_as M (ap (λ z. es ++ z) b.events) refl refl
      (on_moves c b.entered e b.firsts b.place (passage_on M c e.passed b.entered e.lasts b.firsts) (moves_none M (c ++ whole τ)))

  on_control : {c τ w : List ℕ} {es : List Event} {m : Told} {g : ℕ} → Ends (alone c) (at g) τ w es m → m.control ≡ pc g τ
  on_control e = ap (λ (z : Told). z.control) e.control

  -- to the next member
  on_next :
      {s : Spot} {x y : ℕ} {τ w : List ℕ} {es : List Event} {m : Told} {g : ℕ} (ρ : Labels) (k : Link) (b : Act) → Joins M s x y
      → HoldsIn M C (onward (M.last y) y (base s)) ρ g k b → Ends (alone (x ∷ base s)) (at g) τ w es m
      → Moves M w (es ++ (turns ∷ openings (start b))) m.passed (M.around g ++ whole τ)
  unfolding all_pairs
  on_next {s} {x} {y} {τ} {w} {es} {m} {g} ρ k b j h e =
      let c : List ℕ = base s in
      let z = start_begins b (onward (M.last y) y c) ρ g k h in
      let v : Moves M (x ∷ c ++ whole τ) (turns ∷ pair_opens (M.last y)) (turned y ∷ []) (y ∷ c ++ whole τ)
      = record {
        events = sym (append-nil (turns ∷ pair_opens (M.last y)));
        follows = (x, c ++ whole τ, refl, j.followed, j.next, refl);
      } in
      moves_as M (ap (λ o. es ++ (turns ∷ o)) (z.events ∙ ap (λ o. o ++ all_pairs M (map opened z.entered)) (lead_onward (M.last y) y c))) refl refl
      (on_moves (y ∷ c) z.entered e z.firsts (z.place ∙ ap (into z.entered) (entrance_onward (M.last y) y c))
      (passage_next M x y c e.passed z.entered j.next e.lasts z.firsts) v)

  -- an instruction, or a jump, from which control goes by a link
  link_ends :
      {c τ w : List ℕ} {k : Link} {es : List Event} {m : Told} → m ≡ follow C M c k τ → w ≡ c ++ whole τ → es ≡ [] → Ends (alone c) k τ w es m
  unfolding times all_pairs
  link_ends {c} {τ} {w} {k} {es} {m} p q e =
      record {
        passed = [];
        lasts = tt;
        before = [];
        first = [];
        moves = moves_as M refl refl q (moves_none M w);
        events = append-nil es ∙ e;
        control = p;
      }

  -- a step that tells no more
  more_says :
      (s : Spot) (ρ : Labels) (k : Link) (τ w : List ℕ) (es : List Event) (x : Sig) (m : Told) → Says s ρ k τ w es x m → Says s ρ k τ w (es ++ []) x m
  more_says s ρ k τ w es x m q = subst (λ z. Says s ρ k τ w z x m) (sym (append-nil es)) q

  seq_says :
      (c : List ℕ) (ρ : Labels) (k : Link) (τ w : List ℕ) (es : List Event) (a : Act) (g : ℕ) (x : Sig) (m : Told) → HoldsIn M C (alone c) ρ g k a
      → Says (alone c) ρ (at g) τ w es x m → Says (alone c) ρ k τ w (es ++ at_end (openings (start a)) x) (seq_s a x) m
  seq_says c ρ k τ w es a g ends m h q =
      record { n = g; κ = τ; control = on_control q; stands = start_stands a (alone c) ρ g k τ h; moves = on_start ρ k a h q }
  seq_says c ρ k τ w es a g (goes r) m h q =
      record {
        n = q.n;
        κ = q.κ;
        control = q.control;
        stands = (g, q.stands, h);
        moves = moves_as M (append-nil es) refl refl q.moves;
      }
  seq_says c ρ k τ w es a g (leaves l) m h q = more_says (alone c) ρ k τ w es (leaves l) m q
  seq_says c ρ k τ w es a g (restarts l) m h q = more_says (alone c) ρ k τ w es (restarts l) m q
  seq_says c ρ k τ w es a g stops m h q = more_says (alone c) ρ k τ w es stops m q
  seq_says c ρ k τ w es a g (faults i p) m h q = more_says (alone c) ρ k τ w es (faults i p) m q

  -- no jump or stop gets out of a member
  both_says :
      (s : Spot) (ρ : Labels) (k : Link) (τ w : List ℕ) (es : List Event) (t : Live) (b : Act) (g x y : ℕ) (i : Sig) (m : Told) → Joins M s x y → t ≡ start b
      → HoldsIn M C (onward (M.last y) y (base s)) ρ g k b → Inside i → Says (alone (x ∷ base s)) ρ (at g) τ w es i m
      → Says s ρ k τ w (es ++ at_end (turns ∷ openings t) i) (both_l t i) m
  both_says s ρ k τ w es t b g x y ends m j e h o q =
      record {
        n = g;
        κ = τ;
        control = on_control q;
        stands = (x, y, j, subst (λ z. Stands (onward (M.last y) y (base s)) ρ k τ z g τ) (sym e) (start_stands b (onward (M.last y) y (base s)) ρ g k τ h));
        moves = subst (λ z. Moves M w (es ++ (turns ∷ openings z)) m.passed (M.around g ++ whole τ)) (sym e) (on_next ρ k b j h q);
      }
  both_says s ρ k τ w es t b g x y (goes r) m j e h o q =
      record {
        n = q.n;
        κ = q.κ;
        control = q.control;
        stands = (g, b, x, y, j, q.stands, e, h);
        moves = moves_as M (append-nil es) refl refl q.moves;
      }
  both_says s ρ k τ w es t b g x y (leaves l) m j e h o q = absurd o
  both_says s ρ k τ w es t b g x y (restarts l) m j e h o q = absurd o
  both_says s ρ k τ w es t b g x y stops m j e h o q = absurd o
  both_says s ρ k τ w es t b g x y (faults i p) m j e h o q = more_says s ρ k τ w es (faults i p) m q

  -- the last member has ended, or all that were left: so has the group
  right_ends :
      (s : Spot) (k : Link) (τ w : List ℕ) (es : List Event) (x y : ℕ) (b : Bool) (m : Told) → Joins M s x y → M.last y ≡ b
      → Ends (onward b y (base s)) k τ w es m → Ends s k τ w (es ++ closes ∷ []) m
  unfolding times all_pairs
  right_ends s k τ w es x y true m j l e =
      let c : List ℕ = base s in
      let n : M.before y ≡ suc (pending s) = j.next ∙ ap suc (leads_pending s x j.leads) in
      let shift : (u : List ℕ) → (e.passed ++ y ∷ []) ++ u ≡ e.passed ++ y ∷ u = λ u. append_assoc e.passed (y ∷ []) u in
      let A : List Event = all_pairs M (map closed e.passed) in
      record {
        passed = e.passed ++ y ∷ [];
        lasts = lasts_append M e.passed (y ∷ []) e.lasts ((M.before x, j.next), l, tt);
        before = e.before;
        first = e.first;
        moves = moves_as M refl refl (sym (shift (c ++ whole τ))) e.moves;
        events =
            append_assoc es (closes ∷ []) (times (pending s) closes)
            ∙ (ap (λ z. z ++ closes ∷ times (pending s) closes) (ends_events e)
            ∙ (append_assoc e.first A (closes ∷ times (pending s) closes)
            ∙ ap (λ z. e.first ++ z)
            (ap (λ z. A ++ z) (ap (λ z. times z closes) (sym n) ∙ sym (append-nil (times (M.before y) closes)))
            ∙ (sym (pairs_append M (map closed e.passed) (closed y ∷ [])) ∙ ap (all_pairs M) (sym (closed_append e.passed (y ∷ [])))))));
        control = e.control ∙ ap (λ z. behind_all e.before (follow C M z k τ)) (sym (shift c));
      }
  right_ends s k τ w es x y false m j l e =
      let n : M.before y ≡ suc (pending s) = j.next ∙ ap suc (leads_pending s x j.leads) in
      record {
        passed = e.passed;
        lasts = e.lasts;
        before = e.before;
        first = e.first;
        moves = e.moves;
        events = append_assoc es (closes ∷ []) (times (pending s) closes) ∙ (ap (λ z. es ++ times z closes) (sym n) ∙ e.events);
        control = e.control;
      }

  right_says :
      (s : Spot) (ρ : Labels) (k : Link) (τ w : List ℕ) (es : List Event) (x y : ℕ) (i : Sig) (m : Told) → Joins M s x y → Inside i
      → Says (onward (M.last y) y (base s)) ρ k τ w es i m → Says s ρ k τ w (es ++ at_end (closes ∷ []) i) (right_s i) m
  right_says s ρ k τ w es x y ends m j o q = right_ends s k τ w es x y (M.last y) m j refl q
  right_says s ρ k τ w es x y (goes r) m j o q =
      record {
        n = q.n;
        κ = q.κ;
        control = q.control;
        stands = (x, y, j, q.stands);
        moves = moves_as M (append-nil es) refl refl q.moves;
      }
  right_says s ρ k τ w es x y (leaves l) m j o q = absurd o
  right_says s ρ k τ w es x y (restarts l) m j o q = absurd o
  right_says s ρ k τ w es x y stops m j o q = absurd o
  right_says s ρ k τ w es x y (faults i p) m j o q = more_says s ρ k τ w es (faults i p) m q

  -- a jump that may be caught here
  jump_says :
      (c : List ℕ) (ρ : Labels) (k : Link) (τ w : List ℕ) (es fs : List Event) (x y : Sig) (d : List ℕ) (u : Link) (o : Option Link) (υ : List ℕ) (m : Told) (b : Bool)
      → (Ends (alone d) u υ w es m → Says (alone c) ρ k τ w (es ++ fs) x m) → (Jumping o (alone d) υ w es m → Says (alone c) ρ k τ w (es ++ []) y m)
      → Jumping (cond b (some u) o) (alone d) υ w es m → Says (alone c) ρ k τ w (es ++ cond b fs []) (cond b x y) m
  jump_says c ρ k τ w es fs x y d u o υ m true f g q = f (link_ends q.jumped q.same q.silent)
  jump_says c ρ k τ w es fs x y d u o υ m false f g q = g (record { jumped = q.jumped; same = q.same; silent = q.silent })

  -- LEAVE tells nothing of its own
  leave_says :
      (c : List ℕ) (ρ : Labels) (k : Link) (τ w : List ℕ) (es : List Event) (x y : Sig) (d : List ℕ) (u : Link) (o : Option Link) (υ : List ℕ) (m : Told) (b : Bool)
      → (Ends (alone d) u υ w es m → Says (alone c) ρ k τ w (es ++ []) x m) → (Jumping o (alone d) υ w es m → Says (alone c) ρ k τ w (es ++ []) y m)
      → Jumping (cond b (some u) o) (alone d) υ w es m → Says (alone c) ρ k τ w (es ++ []) (cond b x y) m
  leave_says c ρ k τ w es x y d u o υ m true f g q = f (link_ends q.jumped q.same q.silent)
  leave_says c ρ k τ w es x y d u o υ m false f g q = g (record { jumped = q.jumped; same = q.same; silent = q.silent })

  lab_says :
      (c : List ℕ) (ρ : Labels) (k : Link) (τ w : List ℕ) (es : List Event) (l : Word) (a : Act) (f : ℕ) (x : Sig) (m : Told)
      → HoldsIn M C (alone c) (bind l f k ρ) f k a → Says (alone c) (bind l f k ρ) k τ w es x m
      → Says (alone c) ρ k τ w (es ++ at_restart l (openings (start a)) x) (lab_s l a x) m
  unfolding leave_to restart_to
  lab_says c ρ k τ w es l a f ends m h q = more_says (alone c) ρ k τ w es ends m q
  lab_says c ρ k τ w es l a f (goes r) m h q =
      record {
        n = q.n;
        κ = q.κ;
        control = q.control;
        stands = (f, h, q.stands);
        moves = moves_as M (append-nil es) refl refl q.moves;
      }
  lab_says c ρ k τ w es l a f (leaves j) m h q =
      leave_says c ρ k τ w es ends (leaves j) c k (leave_to ρ j) τ m (same_bytes j l) (more_says (alone c) ρ k τ w es ends m)
      (more_says (alone c) ρ k τ w es (leaves j) m) q
  lab_says c ρ k τ w es l a f (restarts j) m h q =
      jump_says c ρ k τ w es (openings (start a)) (goes (lab_l l a (start a))) (restarts j) c (at f) (restart_to ρ j) τ m (same_bytes j l)
      (λ e. record {
        n = f;
        κ = τ;
        control = on_control e;
        stands = (f, h, start_stands a (alone c) (bind l f k ρ) f k τ h);
        moves = on_start (bind l f k ρ) k a h e;
      })
      (more_says (alone c) ρ k τ w es (restarts j) m) q
  lab_says c ρ k τ w es l a f stops m h q = more_says (alone c) ρ k τ w es stops m q
  lab_says c ρ k τ w es l a f (faults i p) m h q = more_says (alone c) ρ k τ w es (faults i p) m q

  loop-says :
      (c : List ℕ) (ρ : Labels) (k : Link) (τ w : List ℕ) (es : List Event) (a : Act) (f : ℕ) (x : Sig) (m : Told)
      → M.around f ≡ c → HoldsInI M C c ρ f k (repeat a) → Says (alone c) ρ (at f) τ w es x m → Says (alone c) ρ k τ w es (loop_s a x) m
  unfolding into all_pairs
  loop-says c ρ k τ w es a f ends m p h q =
      record {
        n = f;
        κ = τ;
        control = on_control q;
        stands = (refl, p, h);
        moves = moves_as M (sym (append-nil es)) refl refl
            (on_moves c [] q tt p (passage_on M c q.passed [] q.lasts tt) (moves_none M (c ++ whole τ)));
      }
  loop-says c ρ k τ w es a f (goes r) m p h q =
      record { n = q.n; κ = q.κ; control = q.control; stands = (f, p, h, q.stands); moves = q.moves }
  loop-says c ρ k τ w es a f (leaves l) m p h q = q
  loop-says c ρ k τ w es a f (restarts l) m p h q = q
  loop-says c ρ k τ w es a f stops m p h q = q
  loop-says c ρ k τ w es a f (faults i y) m p h q = q

  -- a body has ended: control goes on behind its activation
  body_ends :
      (c : List ℕ) (k : Link) (τ υ w : List ℕ) (es : List Event) (m : Told) → Entered c k τ υ → Ends (alone []) exit υ w es m → Ends (alone c) k τ w (es ++ []) m
  unfolding times all_pairs
  body_ends c k τ υ w es m d e =
      let X : List Passing = map closed e.passed in
      let A : List Event = all_pairs M X in
      record {
        passed = [];
        lasts = tt;
        before = e.before ++ X;
        first = e.first ++ A;
        moves = moves_as M refl refl d.inside (moves_append M e.moves (moves_closed M e.passed (whole υ) e.lasts));
        events = append-nil (es ++ []) ∙ (append-nil es ∙ (ends_events e ∙ sym (append-nil (e.first ++ A))));
        control =
            e.control
            ∙ (ap (λ z. behind_all e.before (behind_all (map closed z) (return C M υ))) (append-nil e.passed)
            ∙ (ap (λ z. behind_all e.before (behind_all X z)) d.back
            ∙ ap (told (follow C M c k τ).control) (sym (append_assoc e.before X (follow C M c k τ).passed))));
      }

  -- An activation goes on behind its instruction.
  entered : (c : List ℕ) (k : Link) (τ : List ℕ) (n : ℕ) (p : Word) → M.around n ≡ c → C.instr n ≡ call_i p k → Entered c k τ (n ∷ τ)
  unfolding return whole addresses
  entered c k τ n y p q =
      record {
        back = rw (← p, q) (by k);
        inside = ap (λ z. z ++ whole τ) p;
        addressed = ap (λ z. push (link_of z) (addresses C τ)) q;
        deeper = omega arith;
        active = λ h. ((y, k, q), h);
      }
    where
      by : (l : Link) → resume C M n τ (return C M τ) l ≡ follow C M (M.around n) l τ
      by (at g) = refl
      by exit = refl

  pub entered_main : Entered [] exit [] []
  unfolding return whole addresses
  entered_main = record { back = refl; inside = refl; addressed = refl; deeper = omega arith; active = λ h. h }

  -- MAIN has ended: so has all
  pub ends_over : {w : List ℕ} {es : List Event} {m : Told} → Ends (alone []) exit [] w es m → (m.control ≡ over) × Moves M w es m.passed []
  unfolding return whole
  ends_over {w} {es} {m} e = (
    ap (λ (z : Told). z.control) e.control,
    moves_as M (ends_events e)
        (ap (λ (z : Told). z.passed) e.control
        ∙ ap (λ z. e.before ++ z) (append-nil (map closed (e.passed ++ [])) ∙ ap (map closed) (append-nil e.passed)))
        refl (moves_append M e.moves (moves_closed M e.passed [] e.lasts)),
  )

  pub no_jump : {s : Spot} {τ w : List ℕ} {es : List Event} {m : Told} → Jumping none s τ w es m → ⊥
  no_jump q = q.jumped

  pick_says :
      (c : List ℕ) (ρ : Labels) (k : Link) (τ : List ℕ) (p : ℕ) (a : Act) (g : ℕ) (b : Bool) (o : Option Act) (o' : Option ℕ) → HoldsIn M C (alone c) ρ g k a
      → Says (alone c) ρ k τ (c ++ whole τ) (fresh (pick_s p o)) (pick_s p o) (picked_t C M p c τ o')
      → Says (alone c) ρ k τ (c ++ whole τ) (fresh (pick_s p (cond b (some a) o))) (pick_s p (cond b (some a) o)) (picked_t C M p c τ (cond b (some g) o'))
  pick_says c ρ k τ p a g true o o' h q =
      record {
        n = g;
        κ = τ;
        control = refl;
        stands = start_stands a (alone c) ρ g k τ h;
        moves = on_start ρ k a h (link_ends refl refl refl);
      }
  pick_says c ρ k τ p a g false o o' h q = q

  find_says :
      (c : List ℕ) (ρ : Labels) (k : Link) (τ : List ℕ) (p : ℕ) (t : Entries) (bs : Alts) (v : ℕ) → HoldsInAlts M C c ρ t k bs
      → Says (alone c) ρ k τ (c ++ whole τ) (fresh (pick_s p (choose bs v))) (pick_s p (choose bs v)) (picked_t C M p c τ (find t v))
  unfolding choose find
  find_says c ρ k τ p t no_alts v h = rw h (refl, refl)
  find_says c ρ k τ p t (alt x a bs) v h =
      rw h.2 (pick_says c ρ k τ p a h.0 (takes x v) (choose bs v) (find h.1 v) h.3 (find_says c ρ k τ p h.1 bs v h.4))

  jump_jumps :
      (o : Option Link) (c : List ℕ) (τ : List ℕ) (n v : ℕ) → M.around n ≡ c → Jumps o (C.instr n)
      → Jumping o (alone c) τ (c ++ whole τ) [] (next_t C M n (C.instr n) τ v)
  jump_jumps none c τ n v p h = absurd h
  jump_jumps (some k) c τ n v p h = record { jumped = rw (h, p) refl; same = refl; silent = refl }

  module _ (body : Word → Act) (bodies : HoldsGrouped M C body) where
    pub call_stands : (c : List ℕ) (ρ : Labels) (k : Link) (τ υ : List ℕ) (p : Word) → Entered c k τ υ
        → Stands (alone c) ρ k τ (call_l p (start (body p))) (C.first p) υ
    call_stands c ρ k τ υ p d = (υ, d, start_stands (body p) (alone []) (own_label C p) (C.first p) exit υ (bodies p))

    -- what is told where a body begins
    pub body_moves : (p : Word) (w : List ℕ)
        → Moves M w (openings (start (body p))) (passage M [] (M.around (C.first p))) (M.around (C.first p) ++ w)
    body_moves p w =
        let b = start_begins (body p) (alone []) (own_label C p) (C.first p) exit (bodies p) in
        moves_as M b.events (ap (passage M []) b.place ∙ passage_on M [] [] b.entered tt b.firsts)
        (into_append b.entered [] w ∙ ap (λ z. z ++ w) (sym b.place)) (moves_opened M b.entered w b.firsts)

    call_says :
        (c : List ℕ) (ρ : Labels) (k : Link) (τ υ w : List ℕ) (es : List Event) (p : Word) (x : Sig) (m : Told) → Entered c k τ υ
        → Says (alone []) (own_label C p) exit υ w es x m → Says (alone c) ρ k τ w (es ++ at_restart p (openings (start (body p))) x) (call_s body p x) m
    unfolding leave_to restart_to
    call_says c ρ k τ υ w es p ends m d q = body_ends c k τ υ w es m d q
    call_says c ρ k τ υ w es p (goes r) m d q =
        record {
          n = q.n;
          κ = q.κ;
          control = q.control;
          stands = (υ, d, q.stands);
          moves = moves_as M (append-nil es) refl refl q.moves;
        }
    call_says c ρ k τ υ w es p (leaves j) m d q =
        leave_says c ρ k τ w es ends lost [] exit none υ m (same_bytes j p) (body_ends c k τ υ w es m d) (λ e. absurd e.jumped) q
    call_says c ρ k τ υ w es p (restarts j) m d q =
        jump_says c ρ k τ w es (openings (start (body p))) (goes (call_l p (start (body p)))) lost [] (at (C.first p)) none υ m (same_bytes j p)
        (λ e. record {
          n = C.first p;
          κ = υ;
          control = on_control e;
          stands = call_stands c ρ k τ υ p d;
          moves = on_start (own_label C p) exit (body p) (bodies p) e;
        })
        (λ e. absurd e.jumped) q
    call_says c ρ k τ υ w es p stops m d q = more_says (alone c) ρ k τ w es stops m q
    call_says c ρ k τ υ w es p (faults i y) m d q = more_says (alone c) ρ k τ w es (faults i y) m q

    ins_says :
        (c : List ℕ) (ρ : Labels) (k : Link) (τ : List ℕ) (i : Ins) (n v : ℕ) → M.around n ≡ c → HoldsInI M C c ρ n k i
        → Says (alone c) ρ k τ (c ++ whole τ) (fresh (next_i body i v)) (next_i body i v) (next_t C M n (C.instr n) τ v)
    unfolding next_i openings
    ins_says c ρ k τ (iff e a) n zero p h = rw (h.1, p) (link_ends refl refl refl)
    ins_says c ρ k τ (iff e a) n (suc v) p h =
        rw (h.1, p) (record {
          n = h.0;
          κ = τ;
          control = refl;
          stands = start_stands a (alone c) ρ h.0 k τ h.2;
          moves = on_start ρ k a h.2 (link_ends refl refl refl);
        })
    ins_says c ρ k τ (decode y e bs) n v p h = rw (h.1, p) (find_says c ρ k τ y h.0 bs v h.2)
    ins_says c ρ k τ (repeat a) n v p h =
        rw (h.1, p) (record {
          n = h.0;
          κ = τ;
          control = refl;
          stands = (n, p, h, start_stands a (alone c) ρ h.0 (at n) τ h.2);
          moves = on_start ρ (at n) a h.2 (link_ends refl refl refl);
        })
    ins_says c ρ k τ (leave l) n v p h = jump_jumps (leave_to ρ l) c τ n v p h
    ins_says c ρ k τ (restart l) n v p h = jump_jumps (restart_to ρ l) c τ n v p h
    ins_says c ρ k τ (call y) n v p h =
        let d = entered c k τ n y p h in
        rw h (record {
          n = C.first y;
          κ = n ∷ τ;
          control = refl;
          stands = call_stands c ρ k τ (n ∷ τ) y d;
          moves = moves_as M refl refl (ap (λ z. M.around (C.first y) ++ z) (sym d.inside)) (body_moves y (c ++ whole τ));
        })
    ins_says c ρ k τ stop n v p h = rw h (refl, refl)
    ins_says c ρ k τ noop n v p h = rw (h, p) (link_ends refl refl refl)
    ins_says c ρ k τ (transfer d e) n v p h = rw (h, p) (link_ends refl refl refl)

    module _ (P : Prints) (ok : BodiesOk P body) where
      inside : (F : Foot) (x : Sig) → OkS P (member F) x → Inside x
      inside F ends h = tt
      inside F (goes r) h = tt
      inside F (leaves l) h = h
      inside F (restarts l) h = h
      inside F stops h = absurd (false≢true h)
      inside F (faults x p) h = tt

      -- A step of the machine, where it stands for a residual, says and tells what the residual's step does.
      pub next_says :
          (r : Live) (E : Env) (s : Spot) (ρ : Labels) (k : Link) (τ : List ℕ) (n : ℕ) (κ : List ℕ) → OkL P E r → Stands s ρ k τ r n κ → (v : ℕ)
          → Says s ρ k τ (M.around n ++ whole κ) (step_events body r v) (next body r (leftmost r) v) (next_t C M n (C.instr n) κ v)
      unfolding leftmost step_events
      next_says (one i) E (alone c) ρ k τ n κ o h v = rw (h.0, h.1) (ins_says c ρ k τ i n v h.1 h.2)
      next_says (one i) E (rest z c) ρ k τ n κ o h v = absurd h
      next_says (seq_l r a) E (alone c) ρ k τ n κ o h v =
          seq_says c ρ k τ (M.around n ++ whole κ) (step_events body r v) a h.0 (next body r (leftmost r) v) (next_t C M n (C.instr n) κ v) h.2
          (next_says r E (alone c) ρ (at h.0) τ n κ o.0 h.1 v)
      next_says (seq_l r a) E (rest z c) ρ k τ n κ o h v = absurd h
      next_says (both r t) E s ρ k τ n κ o h v =
          both_says s ρ k τ (M.around n ++ whole κ) (step_events body r v) t h.1 h.0 h.2 h.3 (next body r (leftmost r) v) (next_t C M n (C.instr n) κ v)
          h.4 h.6 h.7 (inside o.0 (next body r (leftmost r) v) (next_ok P body ok (member o.0) r (leftmost r) v o.3))
          (next_says r (member o.0) (alone (h.2 ∷ base s)) ρ (at h.0) τ n κ o.3 h.5 v)
      next_says (left r) E s ρ k τ n κ o h v = absurd h
      next_says (right r) E s ρ k τ n κ o h v =
          right_says s ρ k τ (M.around n ++ whole κ) (step_events body r v) h.0 h.1 (next body r (leftmost r) v) (next_t C M n (C.instr n) κ v)
          h.2 (inside o.0 (next body r (leftmost r) v) (next_ok P body ok (member o.0) r (leftmost r) v o.2))
          (next_says r (member o.0) (onward (M.last h.1) h.1 (base s)) ρ k τ n κ o.2 h.3 v)
      next_says (lab_l l a r) E (alone c) ρ k τ n κ o h v =
          lab_says c ρ k τ (M.around n ++ whole κ) (step_events body r v) l a h.0 (next body r (leftmost r) v) (next_t C M n (C.instr n) κ v) h.1
          (next_says r (under l E) (alone c) (bind l h.0 k ρ) k τ n κ o.1 h.2 v)
      next_says (lab_l l a r) E (rest z c) ρ k τ n κ o h v = absurd h
      next_says (loop_l a r) E (alone c) ρ k τ n κ o h v =
          loop-says c ρ k τ (M.around n ++ whole κ) (step_events body r v) a h.0 (next body r (leftmost r) v) (next_t C M n (C.instr n) κ v) h.1 h.2
          (next_says r E (alone c) ρ (at h.0) τ n κ o.1 h.3 v)
      next_says (loop_l a r) E (rest z c) ρ k τ n κ o h v = absurd h
      next_says (call_l p r) E (alone c) ρ k τ n κ o h v =
          call_says c ρ k τ h.0 (M.around n ++ whole κ) (step_events body r v) p (next body r (leftmost r) v) (next_t C M n (C.instr n) κ v) h.1
          (next_says r (in_body P p) (alone []) (own_label C p) exit h.0 n κ o.1 h.2 v)
      next_says (call_l p r) E (rest z c) ρ k τ n κ o h v = absurd h
