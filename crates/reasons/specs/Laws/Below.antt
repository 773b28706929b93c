-- Every fault of the 30s and the 40s has a number below 50, so 51 and 53 are of the whole.
use Rattle.std.specs.Prelude.{ℕ, ◌+◌, ◌<◌, Bool, true, false, not, ◌&&◌, ◌||◌, leb, ltb}
use Rattle.std.proofs.Common.{subst, inl, inr, arith}
use mathlib.Core.List.{List, [], ◌∷◌, ◌++◌}
use Rattle.std.proofs.Math.Option.{Option, none, some}
use Rattle.rules.specs.Limits.{most_bits, most_declarations, most_words, most_alternatives}
use Rattle.rules.specs.Text.Tokens.{Info}
use Rattle.rules.specs.Grammar.Trees.{Bits, all_bits, bits, Joined, alone, joined, Operand, Tail, Action, block, labelled, if_then, decode, repeat, leave, restart, activate, stop, no_op, transfer, Members, end, also, next}
use Rattle.rules.specs.Grammar.Trees.{Alternatives, counted, selected, Counted, counted_end, counted_more, Selected, select, otherwise, SelectedMore, selected_end, selected_more}
use Rattle.rules.specs.Grammar.Precedence.{Expr, leaf, node, Factor, number, cell, group, inverse, Index, no_index, index, expr_of, index_of}
use Rattle.rules.specs.Text.Scan.{same_bytes}
use Rattle.rules.specs.Values.{op_bits}
use Rattle.rules.specs.Selectors.{Item, between, selector_items}
use Rattle.rules.specs.Declarations.{Word, Names, BitNames, Declared, Table, number_of, names_of, words_of, reach}
use Rattle.rules.specs.Faults.Fault.{Fault, fault, when}
use Rattle.rules.specs.Faults.Declared.{is_known, twice, large_bits, large_words, large, too_many, inside, bad_mapping, mappings, faults30, declared_at}
use Rattle.rules.specs.Faults.Bodies.{Judged, judged_as, is_sound, over, subscripted, undeclared, bits_judged, access_judged, judge_name, judge_access, judge, judge_factor, judge_index, faults_in, judge_destination, judge_joined}
use Rattle.rules.specs.Faults.Bodies.{owned_twice, stored_twice, activated, past, some_meet_of, selector_place, first_place, alternative, counted_faults, selected_faults, more_faults, alternatives_faults, labels, label_faults}
use Rattle.rules.specs.Faults.Bodies.{action_faults, members_faults, inside_faults, inside_counted, inside_selected, inside_more, declared_names, body_faults, faults40}
use Rattle.rules.specs.Whole.Sets.{owner_in}
use Rattle.reasons.specs.Laws.Refused.{Among}

abbrev Each : List Fault → Type 0
Each [] = Unit {0}
Each (f ∷ fs) = (f.number < 50) × Each fs

-- every number is below 50
pub record Under (fs : List Fault) : Type 0 where
  each : Each fs

none_of : Under []
none_of = record { each = tt }

one_of : {m p : ℕ} → m < 50 → Under (fault m p ∷ [])
one_of h = record { each = (h, tt) }

each_both : (fs gs : List Fault) → Each fs → Each gs → Each (fs ++ gs)
each_both [] gs h k = k
each_both (f ∷ fs) gs h k = (h.0, each_both fs gs h.1 k)

both : {fs gs : List Fault} → Under fs → Under gs → Under (fs ++ gs)
both {fs} {gs} h k = record { each = each_both fs gs h.each k.each }

-- a fault where a test holds
tested : (b : Bool) (m p : ℕ) → m < 50 → Under (when b m p)
tested true m p h = record { each = (h, tt) }
tested false m p h = record { each = tt }

-- one of them
under_by : (fs : List Fault) (f : Fault) → Each fs → Among f fs → f.number < 50
under_by [] f h x = absurd x
under_by (g ∷ fs) f h (inl e) = subst (λ (y : Fault). y.number < 50) e h.0
under_by (g ∷ fs) f h (inr x) = under_by fs f h.1 x

pub under : (fs : List Fault) (f : Fault) → Under fs → Among f fs → f.number < 50
under fs f h x = under_by fs f h.each x

-- the 30s
twice_under : (known : List Word) (ds : Table) → Under (twice known ds)
unfolding twice
twice_under known [] = none_of
twice_under known (d ∷ ds) = both (tested (is_known d.name.word known) 30 d.name.place (omega arith)) (twice_under (d.name.word ∷ known) ds)

large_under : (ds : Table) → Under (large ds)
unfolding large
large_under [] = none_of
large_under (d ∷ ds) = both (tested (large_bits d.bits || large_words d.words) 31 d.name.place (omega arith)) (large_under ds)

many_under : (n w : ℕ) (ds : Table) → Under (too_many n w ds)
unfolding too_many
many_under n w [] = none_of
many_under n w (d ∷ ds) =
    both (tested (ltb most_declarations (n + 1) || ltb most_words (w + words_of d)) 32 d.name.place (omega arith)) (many_under (n + 1) (w + words_of d) ds)

mappings_under : (outer : Word) (every ds : Table) → Under (mappings outer every ds)
unfolding mappings
mappings_under outer every [] = none_of
mappings_under outer every (d ∷ ds) = both (tested (bad_mapping outer every d d.target) 33 d.name.place (omega arith)) (mappings_under outer every ds)

pub under_30 : (outer : Word) (ds : Table) → Under (faults30 outer ds)
unfolding faults30
under_30 outer ds = both (twice_under (outer ∷ []) ds) (both (large_under ds) (both (many_under 0 0 ds) (mappings_under outer ds ds)))

-- the 40s
over_under : (fs : List Fault) (n p : ℕ) → Under fs → Under (over fs n p)
over_under fs n p h = both h (tested (is_sound fs && ltb most_bits n) 43 p (omega arith))

bits_under : (p : ℕ) (b : BitNames) (c : Bits) → Under (bits_judged p b c).faults
bits_under p b all_bits = none_of
bits_under p b (bits l n e) = tested (not (inside b (names_of n e))) 42 p (omega arith)

access_under : (p : ℕ) (w : Option Names) (c : Option BitNames) (x : Index) (b : Bits) → Under (access_judged p w c x b).faults
access_under p w none x b = one_of (omega arith)
access_under p w (some c) x b = both (tested (not (subscripted w x)) 41 p (omega arith)) (bits_under p c b)

undeclared_under : (outer : Word) (i : Info) → Under (undeclared outer i)
undeclared_under outer i =
    both (tested (not (same_bytes outer i.word)) 40 i.place (omega arith)) (tested (same_bytes outer i.word) 41 i.place (omega arith))

module _ (outer : Word) (ds : Table) where
  name_under : (i : Info) (x : Index) (b : Bits) (o : Option Declared) → Under (judge_name outer ds i x b o).faults
  unfolding judge_name
  name_under i x b none = undeclared_under outer i
  name_under i x b (some d) = access_under i.place d.words d.bits x b

  mutual
    unfolding judge judge_factor judge_index judge_access

    judge_under : (e : Expr) → Under (judge outer ds e).faults
    judge_under (leaf f) = factor_under f
    judge_under (node o i l r) =
        let a = judge outer ds l in
        let b = judge outer ds r in
        over_under (a.faults ++ b.faults) (op_bits o a.bits b.bits) i.place (both (judge_under l) (judge_under r))

    factor_under : (f : Factor) → Under (judge_factor outer ds f).faults
    factor_under (number i) = none_of
    factor_under (cell i x b) = both (index_under x) (name_under i x b (declared_at ds (number_of ds i.word)))
    factor_under (group l e r) = judge_under e
    factor_under (inverse i f) = factor_under f

    index_under : (x : Index) → Under (judge_index outer ds x)
    index_under no_index = none_of
    index_under (index l e r) = judge_under e

  in_under : (o : Operand) (t : Tail) → Under (faults_in outer ds o t)
  unfolding faults_in
  in_under o t = judge_under (expr_of o t)

  joined_under : (j : Judged) (more : Joined) → Under j.faults → Under (judge_joined outer ds j more)
  unfolding judge_joined
  joined_under j alone h = h
  joined_under j (joined a n s b more) h =
      let k = judge_destination outer ds n s b in
      let sum = j.bits + k.bits in
      let so_far = over (j.faults ++ k.faults) sum a.place in
      joined_under (judged_as so_far sum) more (over_under (j.faults ++ k.faults) sum a.place (both h (factor_under (cell n (index_of s) b))))

  stored_under : (so_far : List ℕ) (j : Joined) → Under (stored_twice outer ds so_far j)
  unfolding stored_twice
  stored_under so_far alone = none_of
  stored_under so_far (joined a n s b more) =
      let o = owner_in (reach ds n.word) in
      both (tested (owned_twice outer ds so_far o) 46 n.place (omega arith)) (stored_under (o ++ so_far) more)

  activated_under : (n : Info) (o : Option Declared) → Under (activated outer ds n o)
  activated_under n none = undeclared_under outer n
  activated_under n (some d) = by d.body
    where
      by : (b : Option Action) → Under (elim b [ none ↦ fault 41 n.place ∷ [] | some a ↦ [] ])
      by none = one_of (omega arith)
      by (some a) = none_of

alternative_under : (n k p : ℕ) (before is : List Item) → Under (alternative n k p before is)
alternative_under n k p before is = tested (leb most_alternatives k || (past n is || some_meet_of is before)) 45 p (omega arith)

counted_under : (n k : ℕ) (c : Counted) → Under (counted_faults n k c)
unfolding counted_faults
counted_under n k (counted_end e) = none_of
counted_under n k (counted_more c a more) = both (alternative_under n k (first_place a) [] (between k k ∷ [])) (counted_under n (k + 1) more)

mutual
  unfolding selected_faults more_faults

  selected_under : (n k : ℕ) (before : List Item) (s : Selected) → Under (selected_faults n k before s)
  selected_under n k before (select s b a m) =
      both (alternative_under n k (selector_place s) before (selector_items s)) (more_under n (k + 1) (selector_items s ++ before) m)
  selected_under n k before (otherwise i b a e) = alternative_under n k i.place before []

  more_under : (n k : ℕ) (before : List Item) (m : SelectedMore) → Under (more_faults n k before m)
  more_under n k before (selected_end e) = none_of
  more_under n k before (selected_more c s) = selected_under n k before s

alternatives_under : (n : ℕ) (v : Alternatives) → Under (alternatives_faults n v)
unfolding alternatives_faults
alternatives_under n (counted a c) = both (alternative_under n 0 (first_place a) [] (between 0 0 ∷ [])) (counted_under n 1 c)
alternatives_under n (selected s) = selected_under n 0 [] s

labels_under : (known : List Word) (ls : List Info) → Under (label_faults known ls)
unfolding label_faults
labels_under known [] = none_of
labels_under known (l ∷ ls) = both (tested (is_known l.word known) 44 l.place (omega arith)) (labels_under (l.word ∷ known) ls)

module _ (outer : Word) (ds : Table) where
  mutual
    unfolding action_faults members_faults inside_faults inside_counted inside_selected inside_more

    action_under : (ls : List Word) (a : Action) → Under (action_faults outer ds ls a)
    action_under ls (block b a m) = both (action_under ls a) (members_under ls m)
    action_under ls (labelled n b a) = action_under (n.word ∷ ls) a
    action_under ls (if_then i o t w a) = both (in_under outer ds o t) (action_under ls a)
    action_under ls (decode i o t w b v) = both (in_under outer ds o t) (both (alternatives_under (judge outer ds (expr_of o t)).bits v) (inside_under ls v))
    action_under ls (repeat i a) = action_under ls a
    action_under ls (leave i n) = tested (not (is_known n.word ls)) 44 i.place (omega arith)
    action_under ls (restart i n) = tested (not (is_known n.word ls)) 44 i.place (omega arith)
    action_under ls (activate n l r) = activated_under outer ds n (declared_at ds (number_of ds n.word))
    action_under ls (stop i l r) = none_of
    action_under ls (no_op i l r) = none_of
    action_under ls (transfer n s b j e o t) =
        both (joined_under outer ds (judge_destination outer ds n s b) j (factor_under outer ds (cell n (index_of s) b)))
        (both (stored_under outer ds (owner_in (reach ds n.word)) j) (in_under outer ds o t))

    members_under : (ls : List Word) (m : Members) → Under (members_faults outer ds ls m)
    members_under ls (end e) = none_of
    members_under ls (also i a m) = both (action_under ls a) (members_under ls m)
    members_under ls (next i a m) = both (action_under ls a) (members_under ls m)

    inside_under : (ls : List Word) (v : Alternatives) → Under (inside_faults outer ds ls v)
    inside_under ls (counted a c) = both (action_under ls a) (inside_counted_under ls c)
    inside_under ls (selected s) = inside_selected_under ls s

    inside_counted_under : (ls : List Word) (c : Counted) → Under (inside_counted outer ds ls c)
    inside_counted_under ls (counted_end e) = none_of
    inside_counted_under ls (counted_more c a more) = both (action_under ls a) (inside_counted_under ls more)

    inside_selected_under : (ls : List Word) (s : Selected) → Under (inside_selected outer ds ls s)
    inside_selected_under ls (select s b a m) = both (action_under ls a) (inside_more_under ls m)
    inside_selected_under ls (otherwise i b a e) = action_under ls a

    inside_more_under : (ls : List Word) (m : SelectedMore) → Under (inside_more outer ds ls m)
    inside_more_under ls (selected_end e) = none_of
    inside_more_under ls (selected_more c s) = inside_selected_under ls s

  body_under : (n : Word) (o : Option Action) → Under (body_faults outer ds n o)
  body_under n none = none_of
  body_under n (some a) = both (action_under (n ∷ []) a) (labels_under (declared_names outer ds ds) (labels a []))

  pub under_40 : (more : Table) → Under (faults40 outer ds more)
  unfolding faults40
  under_40 [] = none_of
  under_40 (d ∷ more) = both (body_under d.name.word d.body) (under_40 more)
