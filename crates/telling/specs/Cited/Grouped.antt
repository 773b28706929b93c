-- The members of groups in an action whose first token is i: a member's number is that of its first token. Everywhere c has the members around the action, the
-- innermost first.
use Rattle.std.specs.Prelude.{ℕ, zero, suc, ◌+◌, ◌≡◌, Bool, true, false, not, List, [], ◌∷◌}
use Rattle.std.proofs.Math.Option.{Option, none, some}
use Rattle.std.proofs.Math.ListN.{get_elem?}
use Rattle.rules.specs.Grammar.Trees.{Action, block, labelled, if_then, decode, repeat, leave, restart, activate, stop, no_op, transfer, Members, end, also, next, Alternatives, counted, selected, Counted, counted_end, counted_more, Selected, select, otherwise, SelectedMore, selected_end, selected_more, Description}
use Rattle.rules.specs.Declarations.{Declared, declarations}
use Rattle.laws_code.specs.Cited.Code.{action_size, selector_size, behind_test}
use Rattle.laws_code.specs.Cited.Placed.{body_starts}
use Rattle.telling.specs.Cited.Passing.{Grouping}

-- another member of the group follows
abbrev pub followed : Members → Bool
followed (end x) = false
followed (also x a m) = true
followed (next x a m) = false

-- the members around an action of a block: one more if it is a member of a group, with j of it before it
abbrev pub within : List ℕ → ℕ → ℕ → Bool → List ℕ
within c i zero false = c
within c i zero true = i ∷ c
within c i (suc j) more = i ∷ c

module _ (M : Grouping) where
  abbrev pub Member : ℕ → ℕ → Bool → Type 0
  Member i zero false = Unit {0}
  Member i zero true = (M.before i ≡ 0) × (M.last i ≡ false)
  Member i (suc j) more = (M.before i ≡ suc j) × (M.last i ≡ not more)

  abbrev mutual
    pub Grouped : List ℕ → ℕ → Action → Type 0
    Grouped c i (block b a m) =
        Member (suc i) 0 (followed m) × Grouped (within c (suc i) 0 (followed m)) (suc i) a × MembersGrouped c (suc i + action_size a) 0 m
    Grouped c i (labelled n b a) = Grouped c (suc (suc i)) a
    Grouped c i (if_then x o t w a) = (M.around i ≡ c) × Grouped c (behind_test i o t) a
    Grouped c i (decode x o t w b v) = (M.around i ≡ c) × AlternativesGrouped c (suc (behind_test i o t)) v
    Grouped c i (repeat x a) = (M.around i ≡ c) × Grouped c (suc i) a
    Grouped c i (leave x n) = M.around i ≡ c
    Grouped c i (restart x n) = M.around i ≡ c
    Grouped c i (activate n l r) = M.around i ≡ c
    Grouped c i (stop x l r) = M.around i ≡ c
    Grouped c i (no_op x l r) = M.around i ≡ c
    Grouped c i (transfer n s b j e o t) = M.around i ≡ c

    -- the members behind one that has j of its group before it
    pub MembersGrouped : List ℕ → ℕ → ℕ → Members → Type 0
    MembersGrouped c i j (end x) = Unit {0}
    MembersGrouped c i j (also x a m) =
        Member (suc i) (suc j) (followed m) × Grouped (within c (suc i) (suc j) (followed m)) (suc i) a × MembersGrouped c (suc i + action_size a) (suc j) m
    MembersGrouped c i j (next x a m) =
        Member (suc i) 0 (followed m) × Grouped (within c (suc i) 0 (followed m)) (suc i) a × MembersGrouped c (suc i + action_size a) 0 m

    pub AlternativesGrouped : List ℕ → ℕ → Alternatives → Type 0
    AlternativesGrouped c i (counted a t) = Grouped c i a × CountedGrouped c (i + action_size a) t
    AlternativesGrouped c i (selected s) = SelectedGrouped c i s

    pub CountedGrouped : List ℕ → ℕ → Counted → Type 0
    CountedGrouped c i (counted_end x) = Unit {0}
    CountedGrouped c i (counted_more x a t) = Grouped c (suc i) a × CountedGrouped c (suc i + action_size a) t

    pub SelectedGrouped : List ℕ → ℕ → Selected → Type 0
    SelectedGrouped c i (select s b a m) = let j = suc (i + selector_size s) in Grouped c j a × MoreGrouped c (j + action_size a) m
    SelectedGrouped c i (otherwise x b a e) = Grouped c (suc (suc i)) a

    pub MoreGrouped : List ℕ → ℕ → SelectedMore → Type 0
    MoreGrouped c i (selected_end x) = Unit {0}
    MoreGrouped c i (selected_more x s) = SelectedGrouped c (suc i) s

  -- every body of a description, where no group is around it
  abbrev pub BodyGrouped : ℕ → Option Action → Type 0
  BodyGrouped i none = Unit {0}
  BodyGrouped i (some a) = Grouped [] i a

  -- what is behind the last token is inside no member
  pub record AllGrouped (d : Description) (end : ℕ) : Type 0 where
    pub bodies : (i : ℕ) (x : Declared) → get_elem? (declarations d) i ≡ some x → BodyGrouped (body_starts d i) x.body
    pub outside : M.around end ≡ []
