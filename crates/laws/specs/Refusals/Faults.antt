-- Every fault of the 30s, the 40s and the 50s has a number of its ten or above.
use Rattle.std.specs.Prelude.{ℕ, ◌+◌, ◌≤◌, ◌≡◌, Bool, true, false, not, ◌&&◌, ◌||◌, leb, ltb}
use Rattle.std.proofs.Common.{subst, arith}
use mathlib.Core.List.{List, [], ◌∷◌, ◌++◌}
use Rattle.std.proofs.Math.Option.{Option, none, some}
use Rattle.rules.specs.Limits.{most_bits, most_declarations, most_words, most_alternatives}
use Rattle.rules.specs.Text.Tokens.{Info}
use Rattle.rules.specs.Grammar.Trees.{Bits, all_bits, bits, Joined, alone, joined, Operand, Tail, Action, block, labelled, if_then, decode, repeat, leave, restart, activate, stop, no_op, transfer, Members, end, also, next}
use Rattle.rules.specs.Grammar.Trees.{Alternatives, counted, selected, Counted, counted_end, counted_more, Selected, select, otherwise, SelectedMore, selected_end, selected_more}
use Rattle.rules.specs.Grammar.Precedence.{Expr, leaf, node, Factor, number, cell, group, inverse, Index, no_index, index, expr_of, index_of}
use Rattle.rules.specs.Text.Scan.{same_bytes}
use Rattle.rules.specs.Values.{op_bits}
use Rattle.rules.specs.Selectors.{Item, between, selector_items}
use Rattle.rules.specs.Declarations.{Word, Names, BitNames, Declared, Table, number_of, names_of, words_of, reach}
use Rattle.rules.specs.Steps.Actions.{act_of}
use Rattle.rules.specs.Whole.Sets.{Sets, touched, may_stop, owner_in}
use Rattle.rules.specs.Faults.Fault.{Fault, fault, when, least_from, least}
use Rattle.rules.specs.Faults.Declared.{is_known, twice, large_bits, large_words, large, too_many, inside, bad_mapping, mappings, faults30, declared_at}
use Rattle.rules.specs.Faults.Bodies.{Judged, judged_as, is_sound, over, subscripted, undeclared, bits_judged, access_judged, judge_name, judge_access, judge, judge_factor, judge_index, faults_in, judge_destination, judge_joined}
use Rattle.rules.specs.Faults.Bodies.{owned_twice, stored_twice, activated, past, some_meet_of, selector_place, first_place, alternative, counted_faults, selected_faults, more_faults, alternatives_faults, labels, label_faults}
use Rattle.rules.specs.Faults.Bodies.{action_faults, members_faults, inside_faults, inside_counted, inside_selected, inside_more, declared_names, body_faults, faults40}
use Rattle.rules.specs.Faults.Whole.{mains, begins_chain, chains, Scope, labelled_in, aims_out, has_more, races_any, member_faults, member_scope, group_faults, members_of, alternatives_groups, counted_groups, selected_groups, more_groups, body_groups, groups_faults, faults50}

abbrev Each : ℕ → List Fault → Type 0
Each n [] = Unit {0}
Each n (f ∷ fs) = (n ≤ f.number) × Each n fs

-- every number is n or above
pub record From (n : ℕ) (fs : List Fault) : Type 0 where
  each : Each n fs

none_of : {n : ℕ} → From n []
none_of = record { each = tt }

one_of : {n m p : ℕ} → n ≤ m → From n (fault m p ∷ [])
one_of h = record { each = (h, tt) }

each_both : (n : ℕ) (fs gs : List Fault) → Each n fs → Each n gs → Each n (fs ++ gs)
each_both n [] gs h k = k
each_both n (f ∷ fs) gs h k = (h.0, each_both n fs gs h.1 k)

both : {n : ℕ} {fs gs : List Fault} → From n fs → From n gs → From n (fs ++ gs)
both {n} {fs} {gs} h k = record { each = each_both n fs gs h.each k.each }

-- a fault where a test holds
tested : {n : ℕ} (b : Bool) (m p : ℕ) → n ≤ m → From n (when b m p)
tested true m p h = record { each = (h, tt) }
tested false m p h = record { each = tt }

-- the least of them
least_from_by : (n : ℕ) (before : Fault → Fault → Bool) (b : Fault) (fs : List Fault) → n ≤ b.number → Each n fs → n ≤ (least_from before b fs).number
unfolding least_from
least_from_by n before b [] h k = h
least_from_by n before b (f ∷ fs) h k = least_from_by n before (elim (before f b) [ true ↦ f | false ↦ b ]) fs (by (before f b)) k.1
  where
    by : (c : Bool) → n ≤ (elim c as (λ x. Fault) [ true ↦ f | false ↦ b ]).number
    by true = k.0
    by false = h

pub least_from_lem : (n : ℕ) (before : Fault → Fault → Bool) (fs : List Fault) {f : Fault} → From n fs → least before fs ≡ some f → n ≤ f.number
unfolding least
least_from_lem n before [] h e = let z : ◌≡◌ {A = ℕ} 0 1 = cc in absurd (omega arith)
least_from_lem n before (g ∷ fs) {f} h e = let z : least_from before g fs ≡ f = cc in subst (λ (x : Fault). n ≤ x.number) z (least_from_by n before g fs h.each.0 h.each.1)

-- the 30s
twice_from : (known : List Word) (ds : Table) → From 30 (twice known ds)
unfolding twice
twice_from known [] = none_of
twice_from known (d ∷ ds) = both (tested (is_known d.name.word known) 30 d.name.place (omega arith)) (twice_from (d.name.word ∷ known) ds)

large_from : (ds : Table) → From 30 (large ds)
unfolding large
large_from [] = none_of
large_from (d ∷ ds) = both (tested (large_bits d.bits || large_words d.words) 31 d.name.place (omega arith)) (large_from ds)

many_from : (n w : ℕ) (ds : Table) → From 30 (too_many n w ds)
unfolding too_many
many_from n w [] = none_of
many_from n w (d ∷ ds) =
    both (tested (ltb most_declarations (n + 1) || ltb most_words (w + words_of d)) 32 d.name.place (omega arith)) (many_from (n + 1) (w + words_of d) ds)

mappings_from : (outer : Word) (every ds : Table) → From 30 (mappings outer every ds)
unfolding mappings
mappings_from outer every [] = none_of
mappings_from outer every (d ∷ ds) = both (tested (bad_mapping outer every d d.target) 33 d.name.place (omega arith)) (mappings_from outer every ds)

pub from_30 : (outer : Word) (ds : Table) → From 30 (faults30 outer ds)
unfolding faults30
from_30 outer ds = both (twice_from (outer ∷ []) ds) (both (large_from ds) (both (many_from 0 0 ds) (mappings_from outer ds ds)))

-- the 40s
over_from : (fs : List Fault) (n p : ℕ) → From 40 fs → From 40 (over fs n p)
over_from fs n p h = both h (tested (is_sound fs && ltb most_bits n) 43 p (omega arith))

bits_from_lem : (p : ℕ) (b : BitNames) (c : Bits) → From 40 (bits_judged p b c).faults
bits_from_lem p b all_bits = none_of
bits_from_lem p b (bits l n e) = tested (not (inside b (names_of n e))) 42 p (omega arith)

access_from : (p : ℕ) (w : Option Names) (c : Option BitNames) (x : Index) (b : Bits) → From 40 (access_judged p w c x b).faults
access_from p w none x b = one_of (omega arith)
access_from p w (some c) x b = both (tested (not (subscripted w x)) 41 p (omega arith)) (bits_from_lem p c b)

undeclared_from : (outer : Word) (i : Info) → From 40 (undeclared outer i)
undeclared_from outer i =
    both (tested (not (same_bytes outer i.word)) 40 i.place (omega arith)) (tested (same_bytes outer i.word) 41 i.place (omega arith))

module _ (outer : Word) (ds : Table) where
  name_from : (i : Info) (x : Index) (b : Bits) (o : Option Declared) → From 40 (judge_name outer ds i x b o).faults
  unfolding judge_name
  name_from i x b none = undeclared_from outer i
  name_from i x b (some d) = access_from i.place d.words d.bits x b

  mutual
    unfolding judge judge_factor judge_index judge_access

    judge_from : (e : Expr) → From 40 (judge outer ds e).faults
    judge_from (leaf f) = factor_from f
    judge_from (node o i l r) =
        let a = judge outer ds l in
        let b = judge outer ds r in
        over_from (a.faults ++ b.faults) (op_bits o a.bits b.bits) i.place (both (judge_from l) (judge_from r))

    factor_from : (f : Factor) → From 40 (judge_factor outer ds f).faults
    factor_from (number i) = none_of
    factor_from (cell i x b) = both (index_from x) (name_from i x b (declared_at ds (number_of ds i.word)))
    factor_from (group l e r) = judge_from e
    factor_from (inverse i f) = factor_from f

    index_from : (x : Index) → From 40 (judge_index outer ds x)
    index_from no_index = none_of
    index_from (index l e r) = judge_from e

  in_from : (o : Operand) (t : Tail) → From 40 (faults_in outer ds o t)
  unfolding faults_in
  in_from o t = judge_from (expr_of o t)

  joined_from : (j : Judged) (more : Joined) → From 40 j.faults → From 40 (judge_joined outer ds j more)
  unfolding judge_joined
  joined_from j alone h = h
  joined_from j (joined a n s b more) h =
      let k = judge_destination outer ds n s b in
      let sum = j.bits + k.bits in
      let so_far = over (j.faults ++ k.faults) sum a.place in
      joined_from (judged_as so_far sum) more (over_from (j.faults ++ k.faults) sum a.place (both h (factor_from (cell n (index_of s) b))))

  stored_from : (so_far : List ℕ) (j : Joined) → From 40 (stored_twice outer ds so_far j)
  unfolding stored_twice
  stored_from so_far alone = none_of
  stored_from so_far (joined a n s b more) =
      let o = owner_in (reach ds n.word) in
      both (tested (owned_twice outer ds so_far o) 46 n.place (omega arith)) (stored_from (o ++ so_far) more)

  activated_from : (n : Info) (o : Option Declared) → From 40 (activated outer ds n o)
  activated_from n none = undeclared_from outer n
  activated_from n (some d) = by d.body
    where
      by : (b : Option Action) → From 40 (elim b [ none ↦ fault 41 n.place ∷ [] | some a ↦ [] ])
      by none = one_of (omega arith)
      by (some a) = none_of

alternative_from : (n k p : ℕ) (before is : List Item) → From 40 (alternative n k p before is)
alternative_from n k p before is = tested (leb most_alternatives k || (past n is || some_meet_of is before)) 45 p (omega arith)

counted_from : (n k : ℕ) (c : Counted) → From 40 (counted_faults n k c)
unfolding counted_faults
counted_from n k (counted_end e) = none_of
counted_from n k (counted_more c a more) = both (alternative_from n k (first_place a) [] (between k k ∷ [])) (counted_from n (k + 1) more)

mutual
  unfolding selected_faults more_faults

  selected_from : (n k : ℕ) (before : List Item) (s : Selected) → From 40 (selected_faults n k before s)
  selected_from n k before (select s b a m) =
      both (alternative_from n k (selector_place s) before (selector_items s)) (more_from n (k + 1) (selector_items s ++ before) m)
  selected_from n k before (otherwise i b a e) = alternative_from n k i.place before []

  more_from : (n k : ℕ) (before : List Item) (m : SelectedMore) → From 40 (more_faults n k before m)
  more_from n k before (selected_end e) = none_of
  more_from n k before (selected_more c s) = selected_from n k before s

alternatives_from : (n : ℕ) (v : Alternatives) → From 40 (alternatives_faults n v)
unfolding alternatives_faults
alternatives_from n (counted a c) = both (alternative_from n 0 (first_place a) [] (between 0 0 ∷ [])) (counted_from n 1 c)
alternatives_from n (selected s) = selected_from n 0 [] s

labels_from : (known : List Word) (ls : List Info) → From 40 (label_faults known ls)
unfolding label_faults
labels_from known [] = none_of
labels_from known (l ∷ ls) = both (tested (is_known l.word known) 44 l.place (omega arith)) (labels_from (l.word ∷ known) ls)

module _ (outer : Word) (ds : Table) where
  mutual
    unfolding action_faults members_faults inside_faults inside_counted inside_selected inside_more

    action_from : (ls : List Word) (a : Action) → From 40 (action_faults outer ds ls a)
    action_from ls (block b a m) = both (action_from ls a) (members_from ls m)
    action_from ls (labelled n b a) = action_from (n.word ∷ ls) a
    action_from ls (if_then i o t w a) = both (in_from outer ds o t) (action_from ls a)
    action_from ls (decode i o t w b v) = both (in_from outer ds o t) (both (alternatives_from (judge outer ds (expr_of o t)).bits v) (inside_from ls v))
    action_from ls (repeat i a) = action_from ls a
    action_from ls (leave i n) = tested (not (is_known n.word ls)) 44 i.place (omega arith)
    action_from ls (restart i n) = tested (not (is_known n.word ls)) 44 i.place (omega arith)
    action_from ls (activate n l r) = activated_from outer ds n (declared_at ds (number_of ds n.word))
    action_from ls (stop i l r) = none_of
    action_from ls (no_op i l r) = none_of
    action_from ls (transfer n s b j e o t) =
        both (joined_from outer ds (judge_destination outer ds n s b) j (factor_from outer ds (cell n (index_of s) b)))
        (both (stored_from outer ds (owner_in (reach ds n.word)) j) (in_from outer ds o t))

    members_from : (ls : List Word) (m : Members) → From 40 (members_faults outer ds ls m)
    members_from ls (end e) = none_of
    members_from ls (also i a m) = both (action_from ls a) (members_from ls m)
    members_from ls (next i a m) = both (action_from ls a) (members_from ls m)

    inside_from : (ls : List Word) (v : Alternatives) → From 40 (inside_faults outer ds ls v)
    inside_from ls (counted a c) = both (action_from ls a) (inside_counted_from ls c)
    inside_from ls (selected s) = inside_selected_from ls s

    inside_counted_from : (ls : List Word) (c : Counted) → From 40 (inside_counted outer ds ls c)
    inside_counted_from ls (counted_end e) = none_of
    inside_counted_from ls (counted_more c a more) = both (action_from ls a) (inside_counted_from ls more)

    inside_selected_from : (ls : List Word) (s : Selected) → From 40 (inside_selected outer ds ls s)
    inside_selected_from ls (select s b a m) = both (action_from ls a) (inside_more_from ls m)
    inside_selected_from ls (otherwise i b a e) = action_from ls a

    inside_more_from : (ls : List Word) (m : SelectedMore) → From 40 (inside_more outer ds ls m)
    inside_more_from ls (selected_end e) = none_of
    inside_more_from ls (selected_more c s) = inside_selected_from ls s

  body_from : (n : Word) (o : Option Action) → From 40 (body_faults outer ds n o)
  body_from n none = none_of
  body_from n (some a) = both (action_from (n ∷ []) a) (labels_from (declared_names outer ds ds) (labels a []))

  pub from_40 : (more : Table) → From 40 (faults40 outer ds more)
  unfolding faults40
  from_40 [] = none_of
  from_40 (d ∷ more) = both (body_from d.name.word d.body) (from_40 more)

-- the 50s
mains_from : (seen : Bool) (ds : Table) → From 50 (mains seen ds)
unfolding mains
mains_from seen [] = tested (not seen) 50 0 (omega arith)
mains_from seen (d ∷ ds) = by d.mainly (mains_from seen ds) (mains_from true ds)
  where
    by : (o : Option Info) → From 50 (mains seen ds) → From 50 (mains true ds) → From 50 (elim o [ none ↦ mains seen ds | some i ↦ when seen 50 i.place ++ mains true ds ])
    by none h k = h
    by (some i) h k = both (tested seen 50 i.place (omega arith)) k

chains_from : (every ds : Table) → From 50 (chains every ds)
unfolding chains
chains_from every [] = none_of
chains_from every (d ∷ ds) = both (tested (begins_chain every d.name.word d.body) 51 d.name.place (omega arith)) (chains_from every ds)

module _ (ds : Table) where
  member_from : (many : Bool) (before : List Sets) (a : Action) → From 50 (member_faults ds many before a)
  member_from false before a = none_of
  member_from true before a =
      both (tested (may_stop ds (act_of a)) 52 (first_place a) (omega arith)) (tested (races_any (touched ds (act_of a)) before) 53 (first_place a) (omega arith))

  mutual
    unfolding group_faults members_of alternatives_groups counted_groups selected_groups more_groups

    group_from : (s : Scope) (a : Action) → From 50 (group_faults ds s a)
    group_from s (block b a m) =
        both (member_from (has_more m) [] a) (both (group_from (member_scope ds (has_more m) s) a) (behind_from s (touched ds (act_of a) ∷ []) m))
    group_from s (labelled n b a) = group_from (labelled_in n.word s) a
    group_from s (if_then i o t w a) = group_from s a
    group_from s (decode i o t w b v) = alternatives_group_from s v
    group_from s (repeat i a) = group_from s a
    group_from s (leave i n) = tested (aims_out s n.word) 52 i.place (omega arith)
    group_from s (restart i n) = tested (aims_out s n.word) 52 i.place (omega arith)
    group_from s (activate n l r) = none_of
    group_from s (stop i l r) = none_of
    group_from s (no_op i l r) = none_of
    group_from s (transfer n b c j e o t) = none_of

    behind_from : (s : Scope) (before : List Sets) (m : Members) → From 50 (members_of ds s before m)
    behind_from s before (end e) = none_of
    behind_from s before (also i a m) =
        both (member_from true before a) (both (group_from (member_scope ds true s) a) (behind_from s (touched ds (act_of a) ∷ before) m))
    behind_from s before (next i a m) =
        both (member_from (has_more m) [] a) (both (group_from (member_scope ds (has_more m) s) a) (behind_from s (touched ds (act_of a) ∷ []) m))

    alternatives_group_from : (s : Scope) (v : Alternatives) → From 50 (alternatives_groups ds s v)
    alternatives_group_from s (counted a c) = both (group_from s a) (counted_group_from s c)
    alternatives_group_from s (selected x) = selected_group_from s x

    counted_group_from : (s : Scope) (c : Counted) → From 50 (counted_groups ds s c)
    counted_group_from s (counted_end e) = none_of
    counted_group_from s (counted_more c a more) = both (group_from s a) (counted_group_from s more)

    selected_group_from : (s : Scope) (x : Selected) → From 50 (selected_groups ds s x)
    selected_group_from s (select x b a m) = both (group_from s a) (more_group_from s m)
    selected_group_from s (otherwise i b a e) = group_from s a

    more_group_from : (s : Scope) (m : SelectedMore) → From 50 (more_groups ds s m)
    more_group_from s (selected_end e) = none_of
    more_group_from s (selected_more c x) = selected_group_from s x

  body_groups_from : (o : Option Action) → From 50 (body_groups ds o)
  body_groups_from none = none_of
  body_groups_from (some a) = group_from none a

  groups_from : (more : Table) → From 50 (groups_faults ds more)
  unfolding groups_faults
  groups_from [] = none_of
  groups_from (d ∷ more) = both (body_groups_from d.body) (groups_from more)

pub from_50 : (ds : Table) → From 50 (faults50 ds)
unfolding faults50
from_50 ds = both (mains_from false ds) (both (chains_from ds ds) (groups_from ds ds))
