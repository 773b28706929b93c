-- From the events of an action to what the rules say of it: what it reads and writes, whether it may stop, which bodies it activates.
use Rattle.std.specs.Prelude.{ℕ, suc, ◌≡◌, Bool, true, false}
use Rattle.std.proofs.Math.Path.{refl, sym, ap, ap₂}
use Rattle.std.proofs.Common.{◌∙◌}
use Rattle.std.proofs.Math.Bool.{◌||◌, or_assoc, or_comm, or-false}
use mathlib.Core.List.{List, [], ◌∷◌, ◌++◌}
use Rattle.std.proofs.Math.Option.{Option, none, some}
use Rattle.rules.specs.Grammar.Trees.{Operand, constant, parens, negated, Tail, no_more, with_op, Subscript, no_subscript, subscript, Joined, alone, joined, access as access_tree, Action, block, labelled, if_then, activate, no_op, decode as decode_tree, repeat as repeat_tree, leave as leave_tree, restart as restart_tree, stop as stop_tree, transfer as transfer_tree, Members, also, next, end, Alternatives, counted, selected, Counted, counted_end, counted_more, Selected, select, otherwise, SelectedMore, selected_end, selected_more}
use Rattle.rules.specs.Grammar.Precedence.{Expr, leaf, node, Factor, number, cell, group, inverse, Index, no_index, index, Link, insert_by, insert, inserts, arrange, factor_of, links_of, index_of, expr_of, tightness}
use Rattle.std.proofs.Math.Decide.{dec_lt}
use Rattle.rules.specs.Declarations.{Word, Table}
use Rattle.rules.specs.Steps.Actions.{Access, access, joined_accesses, Act, seq, par, label, ins, Ins, iff, decode, repeat, leave, restart, call, stop, noop, transfer, Alts, no_alts, alt, in_turn, whole, act_of, groups, alts_of, counted_alts, selected_alts, more_alts}
use Rattle.rules.specs.Whole.Sets.{Sets, sets, union, owner, reads_of, factor_reads, index_reads_of, subscript_reads, stores, sets_of, sets_i, sets_alts, member, stops_in, stops_i, stops_alts, calls_in, calls_i, calls_alts, any_name}
use Rattle.laws_orders.proofs.Orders.Tests.{member_append}
use Rattle.reading.specs.Events.{Event, reads, writes, activates, halts}
use Rattle.reading.specs.Laws.Events.{operand_events, tail_events, subscript_events, joined_events, action_events, members_events, alternatives_events, counted_events, selected_events, selected_more_events}
use Rattle.reading.specs.Touches.{any_event, read_hit, write_hit, stop_hit}

or_regroup : (a b c d : Bool) → (a || b) ≡ d → (a || (b || c)) ≡ (d || c)
or_regroup a b c d h = sym (or_assoc a b c) ∙ ap (λ x. x || c) h

or_three : (a b c d : Bool) → (a || (b || (c || d))) ≡ ((a || (b || c)) || d)
or_three true b c d = refl
or_three false b c d = sym (or_assoc b c d)

module _ (p : Event → Bool) where
  unfoldable mutual
    pub any_expr : Expr → Bool
    any_expr (leaf f) = any_factor f
    any_expr (node o i l r) = any_expr l || any_expr r

    pub any_factor : Factor → Bool
    any_factor (number i) = false
    any_factor (cell i x b) = p (reads i.word) || any_index x
    any_factor (group l e r) = any_expr e
    any_factor (inverse i f) = any_factor f

    pub any_index : Index → Bool
    any_index no_index = false
    any_index (index l e r) = any_expr e

  unfoldable pub any_access : List Access → Bool
  any_access [] = false
  any_access (a ∷ more) = p (writes a.name.word) || (any_index a.index || any_access more)

  unfoldable mutual
    pub any_act : Act → Bool
    any_act (seq a b) = any_act a || any_act b
    any_act (par a b) = any_act a || any_act b
    any_act (label l a) = any_act a
    any_act (ins i) = any_ins i

    pub any_ins : Ins → Bool
    any_ins (iff e a) = any_expr e || any_act a
    any_ins (decode q e bs) = any_expr e || any_alts bs
    any_ins (repeat a) = any_act a
    any_ins (leave l) = false
    any_ins (restart l) = false
    any_ins (call n) = p (activates n)
    any_ins stop = p halts
    any_ins noop = false
    any_ins (transfer d e) = any_access d || any_expr e

    pub any_alts : Alts → Bool
    any_alts no_alts = false
    any_alts (alt c a bs) = any_act a || any_alts bs

  -- the tree of an expression has the operands of its chain
  any_links : List Link → Bool
  any_links [] = false
  any_links (k ∷ ks) = any_factor k.factor || any_links ks

  any_insert_by : {P : Type 0} (q : Dec P) (a b : Expr) (r : Bool) → any_expr a ≡ r → any_expr b ≡ r → any_expr (insert_by q a b) ≡ r
  unfolding insert_by
  any_insert_by (yes _) a b r g h = g
  any_insert_by (no _) a b r g h = h

  any_insert : (e : Expr) (k : Link) → any_expr (insert e k) ≡ (any_expr e || any_factor k.factor)
  unfolding insert any_expr
  any_insert (leaf f) k = refl
  any_insert (node o i l r) k =
      any_insert_by (dec_lt (tightness o) (tightness k.op)) (node o i l (insert r k)) (node k.op k.info (node o i l r) (leaf k.factor)) _
      (ap (λ b. any_expr l || b) (any_insert r k) ∙ sym (or_assoc (any_expr l) (any_expr r) (any_factor k.factor))) refl

  any_inserts : (e : Expr) (ks : List Link) → any_expr (inserts e ks) ≡ (any_expr e || any_links ks)
  unfolding inserts any_links
  any_inserts e [] = sym (or-false (any_expr e))
  any_inserts e (k ∷ ks) =
      any_inserts (insert e k) ks ∙ ap (λ b. b || any_links ks) (any_insert e k) ∙ or_assoc (any_expr e) (any_factor k.factor) (any_links ks)

  any_chain : (o : Operand) (t : Tail) (es : List Event) → any_event p (operand_events o (tail_events t es)) ≡ (any_factor (factor_of o) || any_event p (tail_events t es))
      → any_event p (tail_events t es) ≡ (any_links (links_of t) || any_event p es)
      → any_event p (operand_events o (tail_events t es)) ≡ (any_expr (arrange (factor_of o) (links_of t)) || any_event p es)
  unfolding arrange any_expr
  any_chain o t es g h =
      g ∙ ap (λ b. any_factor (factor_of o) || b) h
      ∙ or_regroup (any_factor (factor_of o)) (any_links (links_of t)) (any_event p es) _ (sym (any_inserts (leaf (factor_of o)) (links_of t)))

  mutual
    unfolding operand_events any_event any_expr any_links factor_of arrange

    any_operand : (o : Operand) (es : List Event) → any_event p (operand_events o es) ≡ (any_factor (factor_of o) || any_event p es)
    any_operand (constant i) es = refl
    any_operand (access_tree i s b) es =
        ap (λ b. p (reads i.word) || b) (any_subscript s es) ∙ sym (or_assoc (p (reads i.word)) (any_index (index_of s)) (any_event p es))
    any_operand (parens l o t r) es = any_chain o t es (any_operand o (tail_events t es)) (any_tail t es)
    any_operand (negated i o) es = any_operand o es

    any_tail : (t : Tail) (es : List Event) → any_event p (tail_events t es) ≡ (any_links (links_of t) || any_event p es)
    any_tail no_more es = refl
    any_tail (with_op op i o t) es =
        any_operand o (tail_events t es) ∙ ap (λ b. any_factor (factor_of o) || b) (any_tail t es) ∙ sym
        (or_assoc (any_factor (factor_of o)) (any_links (links_of t)) (any_event p es))

    any_subscript : (s : Subscript) (es : List Event) → any_event p (subscript_events s es) ≡ (any_index (index_of s) || any_event p es)
    any_subscript no_subscript es = refl
    any_subscript (subscript l o t r) es = any_chain o t es (any_operand o (tail_events t es)) (any_tail t es)

  any_expression : (o : Operand) (t : Tail) (es : List Event) → any_event p (operand_events o (tail_events t es)) ≡ (any_expr (expr_of o t) || any_event p es)
  unfolding expr_of
  any_expression o t es = any_chain o t es (any_operand o (tail_events t es)) (any_tail t es)

  any_joined : (j : Joined) (es : List Event) → any_event p (joined_events j es) ≡ (any_access (joined_accesses j) || any_event p es)
  unfolding joined_events joined_accesses access any_access any_event
  any_joined alone es = refl
  any_joined (joined a n s b j) es =
      ap (λ b. p (writes n.word) || b) (any_subscript s (joined_events j es) ∙ ap (λ b. any_index (index_of s) || b) (any_joined j es))
      ∙ or_three (p (writes n.word)) (any_index (index_of s)) (any_access (joined_accesses j)) (any_event p es)

  -- a block as its groups: the members in their order
  any_in_turn : (x y : Act) (b : Option Act) → any_act (in_turn (par x y) b) ≡ (any_act x || any_act (in_turn y b))
  unfolding any_act
  any_in_turn x y none = refl
  any_in_turn x y (some b) = or_assoc (any_act x) (any_act y) (any_act b)

  any_then : (a : Action) (b : Bool) (xs es : List Event) → any_event p (action_events a xs) ≡ (any_act (act_of a) || any_event p xs) → any_event p xs ≡ (b || any_event p es)
      → any_event p (action_events a xs) ≡ ((any_act (act_of a) || b) || any_event p es)
  any_then a b xs es g h = g ∙ ap (λ c. any_act (act_of a) || c) h ∙ sym (or_assoc (any_act (act_of a)) b (any_event p es))

  mutual
    unfolding action_events any_event any_act any_access act_of access joined_accesses joined_events

    pub any_action : (a : Action) (es : List Event) → any_event p (action_events a es) ≡ (any_act (act_of a) || any_event p es)
    any_action (block b a m) es = any_members (act_of a) m (action_events a (members_events m es)) es (any_action a (members_events m es))
    any_action (labelled n b a) es = any_action a es
    any_action (if_then i o t w a) es =
        any_expression o t (action_events a es) ∙ ap (λ b. any_expr (expr_of o t) || b) (any_action a es) ∙ sym
        (or_assoc (any_expr (expr_of o t)) (any_act (act_of a)) (any_event p es))
    any_action (decode_tree i o t w b v) es =
        any_expression o t (alternatives_events v es) ∙ ap (λ b. any_expr (expr_of o t) || b) (any_alternatives v es) ∙ sym
        (or_assoc (any_expr (expr_of o t)) (any_alts (alts_of v)) (any_event p es))
    any_action (repeat_tree i a) es = any_action a es
    any_action (leave_tree i n) es = refl
    any_action (restart_tree i n) es = refl
    any_action (activate n l r) es = refl
    any_action (stop_tree i l r) es = refl
    any_action (no_op i l r) es = refl
    any_action (transfer_tree n s b j e o t) es =
        any_joined (joined e n s b j) (operand_events o (tail_events t es))
        ∙ ap (λ c. any_access (access n s b ∷ joined_accesses j) || c) (any_expression o t es)
        ∙ sym (or_assoc (any_access (access n s b ∷ joined_accesses j)) (any_expr (expr_of o t)) (any_event p es))

    -- behind the events of the member x stand those of the others
    any_members : (x : Act) (m : Members) (xs es : List Event) → any_event p xs ≡ (any_act x || any_event p (members_events m es))
        → any_event p xs ≡ (any_act (whole (groups x m)) || any_event p es)
    any_members x (end i) xs es h = h
    any_members x (also i b m) xs es h =
        h ∙ ap (λ c. any_act x || c) (any_members (act_of b) m (action_events b (members_events m es)) es (any_action b (members_events m es)))
        ∙ or_regroup (any_act x) (any_act (whole (groups (act_of b) m))) (any_event p es) _
        (sym (any_in_turn x (groups (act_of b) m).group (groups (act_of b) m).behind))
    any_members x (next i b m) xs es h =
        h ∙ ap (λ c. any_act x || c) (any_members (act_of b) m (action_events b (members_events m es)) es (any_action b (members_events m es)))
        ∙ sym (or_assoc (any_act x) (any_act (whole (groups (act_of b) m))) (any_event p es))

    any_alternatives : (v : Alternatives) (es : List Event) → any_event p (alternatives_events v es) ≡ (any_alts (alts_of v) || any_event p es)
    any_alternatives (counted a c) es = any_then a (any_alts (counted_alts 1 c)) (counted_events c es) es (any_action a (counted_events c es)) (any_counted c 1 es)
    any_alternatives (selected s) es = any_selected s es

    any_counted : (c : Counted) (n : ℕ) (es : List Event) → any_event p (counted_events c es) ≡ (any_alts (counted_alts n c) || any_event p es)
    any_counted (counted_end i) n es = refl
    any_counted (counted_more i a c) n es =
        any_then a (any_alts (counted_alts (suc n) c)) (counted_events c es) es (any_action a (counted_events c es)) (any_counted c (suc n) es)

    any_selected : (s : Selected) (es : List Event) → any_event p (selected_events s es) ≡ (any_alts (selected_alts s) || any_event p es)
    any_selected (select s b a m) es = any_then a (any_alts (more_alts m)) (selected_more_events m es) es (any_action a (selected_more_events m es)) (any_more m es)
    any_selected (otherwise i b a e) es = any_then a false es es (any_action a es) refl

    any_more : (m : SelectedMore) (es : List Event) → any_event p (selected_more_events m es) ≡ (any_alts (more_alts m) || any_event p es)
    any_more (selected_end i) es = refl
    any_more (selected_more i s) es = any_selected s es

module _ (ds : Table) (f : Word → Sets) (c : ℕ) where
  mutual
    unfolding reads_of any_expr member

    expr_reads : (e : Expr) → member c (reads_of ds e) ≡ any_expr (read_hit ds f c) e
    expr_reads (leaf g) = factor_reads_lem g
    expr_reads (node o i l r) = member_append c (reads_of ds l) (reads_of ds r) ∙ ap₂ ◌||◌ (expr_reads l) (expr_reads r)

    factor_reads_lem : (g : Factor) → member c (factor_reads ds g) ≡ any_factor (read_hit ds f c) g
    factor_reads_lem (number i) = refl
    factor_reads_lem (cell i x b) =
        member_append c (index_reads_of ds x) (owner ds i.word) ∙ ap (λ y. y || member c (owner ds i.word)) (index_reads x)
        ∙ or_comm (any_index (read_hit ds f c) x) (member c (owner ds i.word))
    factor_reads_lem (group l e r) = expr_reads e
    factor_reads_lem (inverse i g) = factor_reads_lem g

    index_reads : (x : Index) → member c (index_reads_of ds x) ≡ any_index (read_hit ds f c) x
    index_reads no_index = refl
    index_reads (index l e r) = expr_reads e

-- a test that no read passes
module _ (p : Event → Bool) (deaf : (w : Word) → p (reads w) ≡ false) where
  mutual
    unfolding any_expr

    deaf_expr : (e : Expr) → any_expr p e ≡ false
    deaf_expr (leaf g) = deaf_factor g
    deaf_expr (node o i l r) = ap₂ ◌||◌ (deaf_expr l) (deaf_expr r)

    deaf_factor : (g : Factor) → any_factor p g ≡ false
    deaf_factor (number i) = refl
    deaf_factor (cell i x b) = ap₂ ◌||◌ (deaf i.word) (deaf_index x)
    deaf_factor (group l e r) = deaf_expr e
    deaf_factor (inverse i g) = deaf_factor g

    deaf_index : (x : Index) → any_index p x ≡ false
    deaf_index no_index = refl
    deaf_index (index l e r) = deaf_expr e

-- one side of the sets of an action, its reads or its writes
module _ (ds : Table) (f : Word → Sets) (c : ℕ) (side : Sets → List ℕ) (p : Event → Bool)
    (joins : (s t : Sets) → member c (side (union s t)) ≡ (member c (side s) || member c (side t)))
    (nothing : member c (side (sets [] [])) ≡ false)
    (tested : (e : Expr) → member c (side (sets (reads_of ds e) [])) ≡ any_expr p e)
    (moved : (d : List Access) (e : Expr) → member c (side (sets (reads_of ds e ++ subscript_reads ds d) (stores ds d))) ≡ (any_access p d || any_expr p e))
    (called : (w : Word) → member c (side (f w)) ≡ p (activates w)) (deaf : p halts ≡ false) where
  either : (s t : Sets) (a b : Bool) → member c (side s) ≡ a → member c (side t) ≡ b → member c (side (union s t)) ≡ (a || b)
  either s t a b g h = joins s t ∙ ap₂ ◌||◌ g h

  mutual
    unfolding sets_of any_act

    side_act : (a : Act) → member c (side (sets_of ds f a)) ≡ any_act p a
    side_act (seq a b) = either (sets_of ds f a) (sets_of ds f b) _ _ (side_act a) (side_act b)
    side_act (par a b) = either (sets_of ds f a) (sets_of ds f b) _ _ (side_act a) (side_act b)
    side_act (label l a) = side_act a
    side_act (ins i) = side_ins i

    side_ins : (i : Ins) → member c (side (sets_i ds f i)) ≡ any_ins p i
    side_ins (iff e a) = either (sets (reads_of ds e) []) (sets_of ds f a) _ _ (tested e) (side_act a)
    side_ins (decode q e bs) = either (sets (reads_of ds e) []) (sets_alts ds f bs) _ _ (tested e) (side_alts bs)
    side_ins (repeat a) = side_act a
    side_ins (leave l) = nothing
    side_ins (restart l) = nothing
    side_ins (call n) = called n
    side_ins stop = nothing ∙ sym deaf
    side_ins noop = nothing
    side_ins (transfer d e) = moved d e

    side_alts : (bs : Alts) → member c (side (sets_alts ds f bs)) ≡ any_alts p bs
    side_alts no_alts = nothing
    side_alts (alt q a bs) = either (sets_of ds f a) (sets_alts ds f bs) _ _ (side_act a) (side_alts bs)

module _ (ds : Table) (f : Word → Sets) (c : ℕ) where
  access_reads : (d : List Access) → member c (subscript_reads ds d) ≡ any_access (read_hit ds f c) d
  unfolding subscript_reads any_access member
  access_reads [] = refl
  access_reads (a ∷ d) = member_append c (index_reads_of ds a.index) (subscript_reads ds d) ∙ ap₂ ◌||◌ (index_reads ds f c a.index) (access_reads d)

  access_writes : (d : List Access) → member c (stores ds d) ≡ any_access (write_hit ds f c) d
  unfolding stores any_access member
  access_writes [] = refl
  access_writes (a ∷ d) =
      member_append c (owner ds a.name.word) (stores ds d)
      ∙ ap (λ b. member c (owner ds a.name.word) || b)
      (access_writes d ∙ ap (λ b. b || any_access (write_hit ds f c) d) (sym (deaf_index (write_hit ds f c) (λ w. refl) a.index)))

  pub act_reads : (a : Act) → member c (sets_of ds f a).reads ≡ any_act (read_hit ds f c) a
  unfolding member
  act_reads a =
      side_act ds f c (λ s. s.reads) (read_hit ds f c) (λ s t. member_append c s.reads t.reads) refl (expr_reads ds f c)
      (λ d e. member_append c (reads_of ds e) (subscript_reads ds d) ∙ ap₂ ◌||◌ (expr_reads ds f c e) (access_reads d)
      ∙ or_comm (any_expr (read_hit ds f c) e) (any_access (read_hit ds f c) d))
      (λ w. refl) refl a

  pub act_writes : (a : Act) → member c (sets_of ds f a).writes ≡ any_act (write_hit ds f c) a
  unfolding member
  act_writes a =
      side_act ds f c (λ s. s.writes) (write_hit ds f c) (λ s t. member_append c s.writes t.writes) refl
      (λ e. sym (deaf_expr (write_hit ds f c) (λ w. refl) e))
      (λ d e. access_writes d
      ∙ (sym (or-false (any_access (write_hit ds f c) d)) ∙ ap (λ b. any_access (write_hit ds f c) d || b) (sym (deaf_expr (write_hit ds f c) (λ w. refl) e))))
      (λ w. refl) refl a

-- no event of a destination or an expression passes
module _ (p : Event → Bool) (deaf : (w : Word) → p (reads w) ≡ false) (mute : (w : Word) → p (writes w) ≡ false) where
  still_access : (d : List Access) → any_access p d ≡ false
  unfolding any_access
  still_access [] = refl
  still_access (a ∷ d) = ap₂ ◌||◌ (mute a.name.word) (ap₂ ◌||◌ (deaf_index p deaf a.index) (still_access d))

  still_transfer : (d : List Access) (e : Expr) → false ≡ (any_access p d || any_expr p e)
  still_transfer d e = sym (ap₂ ◌||◌ (still_access d) (deaf_expr p deaf e))

  still_test : (e : Expr) (a b : Bool) → a ≡ b → a ≡ (any_expr p e || b)
  still_test e a b h = h ∙ ap (λ c. c || b) (sym (deaf_expr p deaf e))

module _ (g : Word → Bool) where
  mutual
    unfolding stops_in any_act

    pub act_stops : (a : Act) → stops_in g a ≡ any_act (stop_hit g) a
    act_stops (seq a b) = ap₂ ◌||◌ (act_stops a) (act_stops b)
    act_stops (par a b) = ap₂ ◌||◌ (act_stops a) (act_stops b)
    act_stops (label l a) = act_stops a
    act_stops (ins i) = ins_stops i

    ins_stops : (i : Ins) → stops_i g i ≡ any_ins (stop_hit g) i
    ins_stops (iff e a) = still_test (stop_hit g) (λ w. refl) (λ w. refl) e _ _ (act_stops a)
    ins_stops (decode q e bs) = still_test (stop_hit g) (λ w. refl) (λ w. refl) e _ _ (alts_stops bs)
    ins_stops (repeat a) = act_stops a
    ins_stops (leave l) = refl
    ins_stops (restart l) = refl
    ins_stops (call n) = refl
    ins_stops stop = refl
    ins_stops noop = refl
    ins_stops (transfer d e) = still_transfer (stop_hit g) (λ w. refl) (λ w. refl) d e

    alts_stops : (bs : Alts) → stops_alts g bs ≡ any_alts (stop_hit g) bs
    alts_stops no_alts = refl
    alts_stops (alt q a bs) = ap₂ ◌||◌ (act_stops a) (alts_stops bs)

abbrev pub call_hit : (Word → Bool) → Event → Bool
call_hit g (reads w) = false
call_hit g (writes w) = false
call_hit g (activates w) = g w
call_hit g halts = false

module _ (g : Word → Bool) where
  any_names : (xs ys : List Word) (a b : Bool) → any_name g xs ≡ a → any_name g ys ≡ b → any_name g (xs ++ ys) ≡ (a || b)
  unfolding any_name
  any_names [] ys a b h k = k ∙ ap (λ c. c || b) h
  any_names (x ∷ xs) ys a b h k = ap (λ c. g x || c) (any_names xs ys (any_name g xs) b refl k) ∙ or_regroup (g x) (any_name g xs) b a h

  mutual
    unfolding calls_in any_act any_name

    pub act_calls : (a : Act) → any_name g (calls_in a) ≡ any_act (call_hit g) a
    act_calls (seq a b) = any_names (calls_in a) (calls_in b) _ _ (act_calls a) (act_calls b)
    act_calls (par a b) = any_names (calls_in a) (calls_in b) _ _ (act_calls a) (act_calls b)
    act_calls (label l a) = act_calls a
    act_calls (ins i) = ins_calls i

    ins_calls : (i : Ins) → any_name g (calls_i i) ≡ any_ins (call_hit g) i
    ins_calls (iff e a) = still_test (call_hit g) (λ w. refl) (λ w. refl) e _ _ (act_calls a)
    ins_calls (decode q e bs) = still_test (call_hit g) (λ w. refl) (λ w. refl) e _ _ (alts_calls bs)
    ins_calls (repeat a) = act_calls a
    ins_calls (leave l) = refl
    ins_calls (restart l) = refl
    ins_calls (call n) = or-false (g n)
    ins_calls stop = refl
    ins_calls noop = refl
    ins_calls (transfer d e) = still_transfer (call_hit g) (λ w. refl) (λ w. refl) d e

    alts_calls : (bs : Alts) → any_name g (calls_alts bs) ≡ any_alts (call_hit g) bs
    alts_calls no_alts = refl
    alts_calls (alt q a bs) = any_names (calls_in a) (calls_alts bs) _ _ (act_calls a) (alts_calls bs)
