-- The faults of the 40s: of the bodies. An expression is judged with its length; "operands sound" means that no fault of the 40s lies in them.
use Rattle.std.specs.Prelude.{ℕ, zero, suc, ◌+◌, ◌-◌, ◌/◌, ◌%◌, ◌^◌, min, max, Bool, true, false, not, ◌&&◌, ◌||◌, List, [], ◌∷◌, ◌++◌, leb, ltb, eqb}
use Rattle.std.proofs.Math.Option.{Option, none, some}
use Rattle.rules.specs.Limits.{most_alternatives, most_bits}
use Rattle.rules.specs.Text.Tokens.{Info}
use Rattle.rules.specs.Text.Scan.{same_bytes}
use Rattle.rules.specs.Grammar.Trees.{Bits, all_bits, bits, Subscript, Joined, alone, joined, Selector, one_of, any_of, Action, block, labelled, if_then, decode, repeat, leave, restart, activate, stop, no_op, transfer, Members, end, also, next}
use Rattle.rules.specs.Grammar.Trees.{Alternatives, counted, selected, Counted, counted_end, counted_more, Selected, select, otherwise, SelectedMore, selected_end, selected_more, Operand, Tail}
use Rattle.rules.specs.Grammar.Precedence.{Expr, leaf, node, Factor, number, cell, group, inverse, Index, no_index, index, expr_of, index_of}
use Rattle.rules.specs.Values.{op_bits}
use Rattle.rules.specs.Selectors.{Item, pattern, between, highest, selector_items, literal_info}
use Rattle.rules.specs.Declarations.{Word, Names, how_many, BitNames, bit_count, Declared, Table, number_of, names_of, reach}
use Rattle.rules.specs.Whole.Sets.{owner_in, member}
use Rattle.rules.specs.Faults.Fault.{Fault, fault, when}
use Rattle.rules.specs.Faults.Declared.{is_known, inside, declared_at}

-- its faults, and its length if it has none
pub record Judged : Type 0 where
  pub faults : List Fault
  pub bits : ℕ

abbrev pub sound_bits : List Fault → ℕ → ℕ
sound_bits [] n = n
sound_bits (f ∷ fs) n = 0

abbrev pub judged_as : List Fault → ℕ → Judged
judged_as fs n = record { faults = fs; bits = sound_bits fs n }

abbrev pub is_sound : List Fault → Bool
is_sound [] = true
is_sound (f ∷ fs) = false

-- 43: "result or joined destination over 64 bits, operands sound"
abbrev pub over : List Fault → ℕ → ℕ → List Fault
over fs n p = fs ++ when (is_sound fs && ltb most_bits n) 43 p

-- 41: "`[e]` missing or given without words; no bits"
abbrev pub subscripted : Option Names → Index → Bool
subscripted none no_index = true
subscripted none (index l e r) = false
subscripted (some s) no_index = false
subscripted (some s) (index l e r) = true

-- 42: "bits outside the declared ones or running the other way"
abbrev pub bits_judged : ℕ → BitNames → Bits → Judged
bits_judged p b all_bits = judged_as [] (bit_count b)
bits_judged p b (bits l n e) = judged_as (when (not (inside b (names_of n e))) 42 p) (how_many (names_of n e))

abbrev pub access_judged : ℕ → Option Names → Option BitNames → Index → Bits → Judged
access_judged p w none x b = judged_as (fault 41 p ∷ []) 0
access_judged p w (some c) x b = let j = bits_judged p c b in judged_as (when (not (subscripted w x)) 41 p ++ j.faults) j.bits

-- 40: "unknown name"; the outer name is known, and has neither bits nor body
abbrev pub undeclared : Word → Info → List Fault
undeclared outer i = when (not (same_bytes outer i.word)) 40 i.place ++ when (same_bytes outer i.word) 41 i.place

module _ (outer : Word) (ds : Table) where
  unfoldable pub judge_name : Info → Index → Bits → Option Declared → Judged
  judge_name i x b none = judged_as (undeclared outer i) 0
  judge_name i x b (some d) = access_judged i.place d.words d.bits x b

  unfoldable pub judge_access : Info → Index → Bits → Judged
  judge_access i x b = judge_name i x b (declared_at ds (number_of ds i.word))

  unfoldable mutual
    pub judge : Expr → Judged
    judge (leaf f) = judge_factor f
    judge (node o i l r) =
        let a = judge l in
        let b = judge r in
        judged_as (over (a.faults ++ b.faults) (op_bits o a.bits b.bits) i.place) (op_bits o a.bits b.bits)

    pub judge_factor : Factor → Judged
    judge_factor (number i) = judged_as [] i.bits
    judge_factor (cell i x b) = let j = judge_access i x b in judged_as (judge_index x ++ j.faults) j.bits
    judge_factor (group l e r) = judge e
    judge_factor (inverse i f) = judge_factor f

    pub judge_index : Index → List Fault
    judge_index no_index = []
    judge_index (index l e r) = (judge e).faults

  unfoldable pub faults_in : Operand → Tail → List Fault
  faults_in o t = (judge (expr_of o t)).faults

  abbrev pub judge_destination : Info → Subscript → Bits → Judged
  judge_destination n s b = judge_factor (cell n (index_of s) b)

  -- a joined destination, whose parts so far have these faults and this length
  unfoldable pub judge_joined : Judged → Joined → List Fault
  judge_joined j alone = j.faults
  judge_joined j (joined a n s b more) =
      let k = judge_destination n s b in
      judge_joined (judged_as (over (j.faults ++ k.faults) (j.bits + k.bits) a.place) (j.bits + k.bits)) more

  -- 46: "one storage carrier twice in a destination"; those stored to so far
  abbrev pub owned_twice : List ℕ → List ℕ → Bool
  owned_twice so_far [] = false
  owned_twice so_far (x ∷ xs) = member x so_far

  unfoldable pub stored_twice : List ℕ → Joined → List Fault
  stored_twice so_far alone = []
  stored_twice so_far (joined a n s b more) =
      let o = owner_in (reach ds n.word) in
      when (owned_twice so_far o) 46 n.place ++ stored_twice (o ++ so_far) more

  -- "`P()` on no body"
  abbrev pub activated : Info → Option Declared → List Fault
  activated n none = undeclared outer n
  activated n (some d) = elim d.body [ none ↦ fault 41 n.place ∷ [] | some a ↦ [] ]

-- 45: whether some value lies in both of two items; that it is so is the law `meet_share` with `share_meet` (crates/summaries, Laws/Exact.antt).
-- Two patterns: they agree in each bit that is free in neither.
unfoldable pub patterns_meet : ℕ → ℕ → ℕ → ℕ → ℕ → Bool
patterns_meet zero v f w g = true
patterns_meet (suc n) v f w g = (eqb (f % 2) 1 || (eqb (g % 2) 1 || eqb (v % 2) (w % 2))) && patterns_meet n (v / 2) (f / 2) (w / 2) (g / 2)

-- A pattern of n bits and the values from l to h, by the highest bit: where both bounds have it, or neither, the rest decides; where only h has it, a
-- value without it must reach l, or one with it must not pass h.
unfoldable pub reaches : ℕ → ℕ → ℕ → ℕ → ℕ → Bool
reaches zero v f l h = leb l 0
reaches (suc n) v f l h =
    let may0 = eqb (f / 2 ^ n % 2) 1 || eqb (v / 2 ^ n % 2) 0 in
    let may1 = eqb (f / 2 ^ n % 2) 1 || eqb (v / 2 ^ n % 2) 1 in
    elim (leb (2 ^ n) l) [
      | true ↦ may1 && reaches n (v % 2 ^ n) (f % 2 ^ n) (l - 2 ^ n) (h - 2 ^ n)
      | false ↦ elim (ltb h (2 ^ n)) [
        | true ↦ may0 && reaches n (v % 2 ^ n) (f % 2 ^ n) l h
        | false ↦ (may0 && leb l (v % 2 ^ n + f % 2 ^ n)) || (may1 && leb (v % 2 ^ n) (h - 2 ^ n))
      ]
    ]

unfoldable pub items_meet : Item → Item → Bool
items_meet (pattern v f) (pattern w g) = patterns_meet most_bits v f w g
items_meet (pattern v f) (between l h) = reaches most_bits v f l h
items_meet (between l h) (pattern v f) = reaches most_bits v f l h
items_meet (between l h) (between m k) = leb (max l m) (min h k)

unfoldable pub meets_any : Item → List Item → Bool
meets_any i [] = false
meets_any i (j ∷ js) = items_meet i j || meets_any i js

unfoldable pub some_meet_of : List Item → List Item → Bool
some_meet_of [] js = false
some_meet_of (i ∷ is) js = meets_any i js || some_meet_of is js

unfoldable pub past : ℕ → List Item → Bool
past n [] = false
past n (i ∷ is) = leb (2 ^ n) (highest i) || past n is

-- the place of an alternative is that of its first token
abbrev pub selector_place : Selector → ℕ
selector_place (one_of l r) = (literal_info l).place
selector_place (any_of b l r is) = b.place

abbrev pub first_place : Action → ℕ
first_place (block b a m) = b.place
first_place (labelled n b a) = n.place
first_place (if_then i o t w a) = i.place
first_place (decode i o t w b v) = i.place
first_place (repeat i a) = i.place
first_place (leave i n) = i.place
first_place (restart i n) = i.place
first_place (activate n l r) = n.place
first_place (stop i l r) = i.place
first_place (no_op i l r) = i.place
first_place (transfer n s b j e o t) = n.place

-- 45: "alternative 65; highest selector value past the tested length; two alternatives overlap". The test has n bits, k alternatives came before, and
-- these are their items.
abbrev pub alternative : ℕ → ℕ → ℕ → List Item → List Item → List Fault
alternative n k p before is = when (leb most_alternatives k || (past n is || some_meet_of is before)) 45 p

unfoldable pub counted_faults : ℕ → ℕ → Counted → List Fault
counted_faults n k (counted_end e) = []
counted_faults n k (counted_more c a more) = alternative n k (first_place a) [] (between k k ∷ []) ++ counted_faults n (k + 1) more

unfoldable mutual
  pub selected_faults : ℕ → ℕ → List Item → Selected → List Fault
  selected_faults n k before (select s b a m) = alternative n k (selector_place s) before (selector_items s) ++ more_faults n (k + 1) (selector_items s ++ before) m
  selected_faults n k before (otherwise i b a e) = alternative n k i.place before []

  pub more_faults : ℕ → ℕ → List Item → SelectedMore → List Fault
  more_faults n k before (selected_end e) = []
  more_faults n k before (selected_more c s) = selected_faults n k before s

unfoldable pub alternatives_faults : ℕ → Alternatives → List Fault
alternatives_faults n (counted a c) = alternative n 0 (first_place a) [] (between 0 0 ∷ []) ++ counted_faults n 1 c
alternatives_faults n (selected s) = selected_faults n 0 [] s

-- 44: "label repeated in a body, or a known name". The labels of an action in the order of the text, in front of others.
unfoldable mutual
  pub labels : Action → List Info → List Info
  labels (block b a m) ls = labels a (member_labels m ls)
  labels (labelled n b a) ls = n ∷ labels a ls
  labels (if_then i o t w a) ls = labels a ls
  labels (decode i o t w b v) ls = alternative_labels v ls
  labels (repeat i a) ls = labels a ls
  labels (leave i n) ls = ls
  labels (restart i n) ls = ls
  labels (activate n l r) ls = ls
  labels (stop i l r) ls = ls
  labels (no_op i l r) ls = ls
  labels (transfer n s b j e o t) ls = ls

  pub member_labels : Members → List Info → List Info
  member_labels (end e) ls = ls
  member_labels (also i a m) ls = labels a (member_labels m ls)
  member_labels (next i a m) ls = labels a (member_labels m ls)

  pub alternative_labels : Alternatives → List Info → List Info
  alternative_labels (counted a c) ls = labels a (counted_labels c ls)
  alternative_labels (selected s) ls = selected_labels s ls

  pub counted_labels : Counted → List Info → List Info
  counted_labels (counted_end e) ls = ls
  counted_labels (counted_more c a more) ls = labels a (counted_labels more ls)

  pub selected_labels : Selected → List Info → List Info
  selected_labels (select s b a m) ls = labels a (more_labels m ls)
  selected_labels (otherwise i b a e) ls = labels a ls

  pub more_labels : SelectedMore → List Info → List Info
  more_labels (selected_end e) ls = ls
  more_labels (selected_more c s) ls = selected_labels s ls

unfoldable pub label_faults : List Word → List Info → List Fault
label_faults known [] = []
label_faults known (l ∷ ls) = when (is_known l.word known) 44 l.place ++ label_faults (l.word ∷ known) ls

-- The faults of an action, under the labels around it and the body's own name.
module _ (outer : Word) (ds : Table) where
  unfoldable mutual
    pub action_faults : List Word → Action → List Fault
    action_faults ls (block b a m) = action_faults ls a ++ members_faults ls m
    action_faults ls (labelled n b a) = action_faults (n.word ∷ ls) a
    action_faults ls (if_then i o t w a) = faults_in outer ds o t ++ action_faults ls a
    action_faults ls (decode i o t w b v) =
        faults_in outer ds o t ++ (alternatives_faults (judge outer ds (expr_of o t)).bits v ++ inside_faults ls v)
    action_faults ls (repeat i a) = action_faults ls a
    action_faults ls (leave i n) = when (not (is_known n.word ls)) 44 i.place
    action_faults ls (restart i n) = when (not (is_known n.word ls)) 44 i.place
    action_faults ls (activate n l r) = activated outer ds n (declared_at ds (number_of ds n.word))
    action_faults ls (stop i l r) = []
    action_faults ls (no_op i l r) = []
    action_faults ls (transfer n s b j e o t) =
        judge_joined outer ds (judge_destination outer ds n s b) j
        ++ (stored_twice outer ds (owner_in (reach ds n.word)) j ++ faults_in outer ds o t)

    pub members_faults : List Word → Members → List Fault
    members_faults ls (end e) = []
    members_faults ls (also i a m) = action_faults ls a ++ members_faults ls m
    members_faults ls (next i a m) = action_faults ls a ++ members_faults ls m

    pub inside_faults : List Word → Alternatives → List Fault
    inside_faults ls (counted a c) = action_faults ls a ++ inside_counted ls c
    inside_faults ls (selected s) = inside_selected ls s

    pub inside_counted : List Word → Counted → List Fault
    inside_counted ls (counted_end e) = []
    inside_counted ls (counted_more c a more) = action_faults ls a ++ inside_counted ls more

    pub inside_selected : List Word → Selected → List Fault
    inside_selected ls (select s b a m) = action_faults ls a ++ inside_more ls m
    inside_selected ls (otherwise i b a e) = action_faults ls a

    pub inside_more : List Word → SelectedMore → List Fault
    inside_more ls (selected_end e) = []
    inside_more ls (selected_more c s) = inside_selected ls s

  unfoldable pub declared_names : Table → List Word
  declared_names [] = outer ∷ []
  declared_names (d ∷ more) = d.name.word ∷ declared_names more

  abbrev pub body_faults : Word → Option Action → List Fault
  body_faults n none = []
  body_faults n (some a) = action_faults (n ∷ []) a ++ label_faults (declared_names ds) (labels a [])

  unfoldable pub faults40 : Table → List Fault
  faults40 [] = []
  faults40 (d ∷ more) = body_faults d.name.word d.body ++ faults40 more
