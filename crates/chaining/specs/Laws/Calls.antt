-- The activations that are heard in the text of a body are those of its tree, in the same order.
use Rattle.std.specs.Prelude.{ℕ, suc, ◌≡◌, refl, drop, Some, None}
use Rattle.std.proofs.Common.{sym, ◌∙◌}
use Rattle.std.proofs.Math.Path.{ap}
use mathlib.Core.List.{List, [], ◌++◌, append_assoc, append-nil}
use Rattle.std.proofs.Math.Option.{Option, none, some}
use Rattle.rules.specs.Grammar.Trees.{Operand, constant, access, parens, negated, Tail, no_more, with_op, Subscript, no_subscript, subscript, Joined, alone, joined}
use Rattle.rules.specs.Grammar.Trees.{Action, block, labelled, if_then, decode, repeat, leave, restart, activate, stop, no_op, transfer, Members, end, also, next}
use Rattle.rules.specs.Grammar.Trees.{Alternatives, counted, selected, Counted, counted_end, counted_more, Selected, select, otherwise, SelectedMore, selected_end, selected_more}
use Rattle.rules.specs.Declarations.{Word}
use Rattle.rules.specs.Steps.Actions.{Act, par, in_turn, whole, act_of, groups, alts_of, counted_alts, selected_alts, more_alts}
use Rattle.rules.specs.Steps.Runs.{act_or}
use Rattle.rules.specs.Whole.Sets.{calls_in, calls_i, calls_alts}
use Rattle.reading.specs.Reading.{Reading, table_of}
use Rattle.reading.specs.Events.{Event, heard}
use Rattle.reading.specs.Laws.Events.{operand_events, tail_events, subscript_events, joined_events, action_events, members_events, alternatives_events, counted_events, selected_events, selected_more_events}
use Rattle.reading.specs.Calls.{calls_of}
use Rattle.reading.specs.Bodies.{act_at, Body}
use Rattle.reading.specs.Laws.Bodies.{body_events}

-- an expression activates nothing
mutual
  unfolding operand_events calls_of

  quiet_operand : (o : Operand) (es : List Event) → calls_of (operand_events o es) ≡ calls_of es
  quiet_operand (constant i) es = refl
  quiet_operand (access i s b) es = quiet_subscript s es
  quiet_operand (parens l o t r) es = quiet_operand o (tail_events t es) ∙ quiet_tail t es
  quiet_operand (negated i o) es = quiet_operand o es

  quiet_tail : (t : Tail) (es : List Event) → calls_of (tail_events t es) ≡ calls_of es
  quiet_tail no_more es = refl
  quiet_tail (with_op op i o t) es = quiet_operand o (tail_events t es) ∙ quiet_tail t es

  quiet_subscript : (s : Subscript) (es : List Event) → calls_of (subscript_events s es) ≡ calls_of es
  quiet_subscript no_subscript es = refl
  quiet_subscript (subscript l o t r) es = quiet_operand o (tail_events t es) ∙ quiet_tail t es

quiet_expression : (o : Operand) (t : Tail) (es : List Event) → calls_of (operand_events o (tail_events t es)) ≡ calls_of es
quiet_expression o t es = quiet_operand o (tail_events t es) ∙ quiet_tail t es

quiet_joined : (j : Joined) (es : List Event) → calls_of (joined_events j es) ≡ calls_of es
unfolding joined_events calls_of
quiet_joined alone es = refl
quiet_joined (joined a n s b j) es = quiet_subscript s (joined_events j es) ∙ quiet_joined j es

-- what is heard of an action in front of other events
in_front : (x y : Act) (b : Option Act) → calls_in (in_turn (par x y) b) ≡ calls_in x ++ calls_in (in_turn y b)
unfolding calls_in
in_front x y none = refl
in_front x y (some b) = append_assoc (calls_in x) (calls_in y) (calls_in b)

then : (xs ys zs : List Word) {us vs : List Word} → us ≡ xs ++ vs → vs ≡ ys ++ zs → us ≡ (xs ++ ys) ++ zs
then xs ys zs g h = g ∙ (ap (λ (l : List Word). xs ++ l) h ∙ sym (append_assoc xs ys zs))

mutual
  unfolding action_events calls_of calls_in calls_i calls_alts act_of groups alts_of counted_alts selected_alts more_alts

  calls_action : (a : Action) (es : List Event) → calls_of (action_events a es) ≡ calls_in (act_of a) ++ calls_of es
  calls_action (block b a m) es = calls_members (act_of a) m (action_events a (members_events m es)) es (calls_action a (members_events m es))
  calls_action (labelled n b a) es = calls_action a es
  calls_action (if_then i o t w a) es = quiet_expression o t (action_events a es) ∙ calls_action a es
  calls_action (decode i o t w b v) es = quiet_expression o t (alternatives_events v es) ∙ calls_alternatives v es
  calls_action (repeat i a) es = calls_action a es
  calls_action (leave i n) es = refl
  calls_action (restart i n) es = refl
  calls_action (activate n l r) es = refl
  calls_action (stop i l r) es = refl
  calls_action (no_op i l r) es = refl
  calls_action (transfer n s b j e o t) es =
      quiet_subscript s (joined_events j (operand_events o (tail_events t es)))
      ∙ (quiet_joined j (operand_events o (tail_events t es)) ∙ quiet_expression o t es)

  -- behind the events of the member x stand those of the others
  calls_members : (x : Act) (m : Members) (xs es : List Event) → calls_of xs ≡ calls_in x ++ calls_of (members_events m es)
      → calls_of xs ≡ calls_in (whole (groups x m)) ++ calls_of es
  calls_members x (end i) xs es h = h
  calls_members x (also i b m) xs es h =
      then (calls_in x) (calls_in (whole (groups (act_of b) m))) (calls_of es) h
      (calls_members (act_of b) m (action_events b (members_events m es)) es (calls_action b (members_events m es)))
      ∙ ap (λ (l : List Word). l ++ calls_of es) (sym (in_front x (groups (act_of b) m).group (groups (act_of b) m).behind))
  calls_members x (next i b m) xs es h =
      then (calls_in x) (calls_in (whole (groups (act_of b) m))) (calls_of es) h
      (calls_members (act_of b) m (action_events b (members_events m es)) es (calls_action b (members_events m es)))

  calls_alternatives : (v : Alternatives) (es : List Event) → calls_of (alternatives_events v es) ≡ calls_alts (alts_of v) ++ calls_of es
  calls_alternatives (counted a c) es = then (calls_in (act_of a)) (calls_alts (counted_alts 1 c)) (calls_of es) (calls_action a (counted_events c es)) (calls_counted c 1 es)
  calls_alternatives (selected s) es = calls_selected s es

  calls_counted : (c : Counted) (n : ℕ) (es : List Event) → calls_of (counted_events c es) ≡ calls_alts (counted_alts n c) ++ calls_of es
  calls_counted (counted_end i) n es = refl
  calls_counted (counted_more i a c) n es =
      then (calls_in (act_of a)) (calls_alts (counted_alts (suc n) c)) (calls_of es) (calls_action a (counted_events c es)) (calls_counted c (suc n) es)

  calls_selected : (s : Selected) (es : List Event) → calls_of (selected_events s es) ≡ calls_alts (selected_alts s) ++ calls_of es
  calls_selected (select s b a m) es = then (calls_in (act_of a)) (calls_alts (more_alts m)) (calls_of es) (calls_action a (selected_more_events m es)) (calls_more m es)
  calls_selected (otherwise i b a e) es = then (calls_in (act_of a)) [] (calls_of es) (calls_action a es) refl

  calls_more : (m : SelectedMore) (es : List Event) → calls_of (selected_more_events m es) ≡ calls_alts (more_alts m) ++ calls_of es
  calls_more (selected_end i) es = refl
  calls_more (selected_more i s) es = calls_selected s es

-- of a body that stands in the table
pub heard_calls : {records decls : List ℕ} {m n k b : ℕ} {v : Reading records decls m n} → Body v k (Some b)
    → calls_of (heard 0 0 (drop b v.tokens)) ≡ calls_in (act_at (table_of v) k)
unfolding calls_of
heard_calls x =
    let y = body_events x in
    ap calls_of y.2 ∙ (calls_action y.0 [] ∙ (append-nil (calls_in (act_of y.0)) ∙ ap calls_in (sym y.1)))

pub missing_calls : {records decls : List ℕ} {m n k : ℕ} {v : Reading records decls m n} → Body v k None → calls_in (act_at (table_of v) k) ≡ []
unfolding calls_in calls_i
missing_calls x = ap (λ (o : Option Action). calls_in (act_or o)) (x.missing refl)
