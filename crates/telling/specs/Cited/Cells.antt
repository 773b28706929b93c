-- Two cells for each token that have the members of groups: what a pass over the tokens writes. A member's number is that of its first token, and no member's is 0.
use Rattle.std.specs.Prelude.{ℕ, zero, suc, ◌+◌, ◌-◌, ◌*◌, ◌/◌, ◌%◌, ◌≡◌, Bool, true, false, List, [], ◌∷◌, eqb}
use Rattle.std.proofs.Math.Option.{Option, none, some}
use Rattle.std.proofs.Math.ListN.{get_elem?}
use Rattle.rules.specs.Grammar.Trees.{Action, block, labelled, if_then, decode, repeat, leave, restart, activate, stop, no_op, transfer, Members, end, also, next, Alternatives, counted, selected, Counted, counted_end, counted_more, Selected, select, otherwise, SelectedMore, selected_end, selected_more, Description}
use Rattle.rules.specs.Declarations.{Declared, declarations}
use Rattle.rules.specs.Limits.{deepest}
use Rattle.laws_code.specs.Cited.Code.{action_size, selector_size, behind_test}
use Rattle.laws_code.specs.Cited.Placed.{body_starts}
use Rattle.telling.specs.Cited.Passing.{Grouping}
use Rattle.telling.specs.Cited.Grouped.{followed}

-- `rank`: of a member's first token, twice the number of the members before it and 1 more, or 2 more if it is the last; of any other token, 0.
-- `up`: of a member's first token, the member around its group; of any other instruction, the member around it; 0 where there is none.
pub record Cells : Type 0 where
  pub up : ℕ → ℕ
  pub rank : ℕ → ℕ

abbrev pub rank_of : ℕ → Bool → ℕ
rank_of j true = suc (2 * j)
rank_of j false = suc (suc (2 * j))

-- the innermost member around the token i, if x is the one around the group; j members come before it, and `more` says whether another follows
abbrev pub inner : ℕ → ℕ → ℕ → Bool → ℕ
inner x i zero false = x
inner x i zero true = i
inner x i (suc j) more = i

module _ (K : Cells) where
  abbrev pub member_by : ℕ → ℕ → ℕ
  member_by zero n = K.up n
  member_by (suc r) n = n

  -- the innermost member around an instruction
  abbrev pub member_of : ℕ → ℕ
  member_of n = member_by (K.rank n) n

  -- a member and those around it, at most f
  unfoldable pub up_from : ℕ → ℕ → List ℕ
  up_from zero x = []
  up_from (suc f) zero = []
  up_from (suc f) (suc x) = suc x ∷ up_from f (K.up (suc x))

  -- brackets nest no deeper
  abbrev pub cell_grouping : Grouping
  cell_grouping = record {
    around = λ n. up_from deepest (member_of n);
    before = λ x. (K.rank x - 1) / 2;
    last = λ x. eqb ((K.rank x - 1) % 2) 1;
  }

  abbrev pub MemberMarked : ℕ → ℕ → ℕ → Bool → Type 0
  MemberMarked x i zero false = Unit {0}
  MemberMarked x i zero true = (K.rank i ≡ rank_of 0 true) × (K.up i ≡ x)
  MemberMarked x i (suc j) more = (K.rank i ≡ rank_of (suc j) more) × (K.up i ≡ x)

  -- the action at the token i inside the member x, or inside none where x is 0
  abbrev mutual
    pub Marked : ℕ → ℕ → Action → Type 0
    Marked x i (block b a m) =
        MemberMarked x (suc i) 0 (followed m) × Marked (inner x (suc i) 0 (followed m)) (suc i) a × MembersMarked x (suc i + action_size a) 0 m
    Marked x i (labelled n b a) = Marked x (suc (suc i)) a
    Marked x i (if_then y o t w a) = (member_of i ≡ x) × Marked x (behind_test i o t) a
    Marked x i (decode y o t w b v) = (member_of i ≡ x) × AlternativesMarked x (suc (behind_test i o t)) v
    Marked x i (repeat y a) = (member_of i ≡ x) × Marked x (suc i) a
    Marked x i (leave y n) = member_of i ≡ x
    Marked x i (restart y n) = member_of i ≡ x
    Marked x i (activate n l r) = member_of i ≡ x
    Marked x i (stop y l r) = member_of i ≡ x
    Marked x i (no_op y l r) = member_of i ≡ x
    Marked x i (transfer n s b j e o t) = member_of i ≡ x

    pub MembersMarked : ℕ → ℕ → ℕ → Members → Type 0
    MembersMarked x i j (end y) = Unit {0}
    MembersMarked x i j (also y a m) =
        MemberMarked x (suc i) (suc j) (followed m) × Marked (inner x (suc i) (suc j) (followed m)) (suc i) a × MembersMarked x (suc i + action_size a) (suc j) m
    MembersMarked x i j (next y a m) =
        MemberMarked x (suc i) 0 (followed m) × Marked (inner x (suc i) 0 (followed m)) (suc i) a × MembersMarked x (suc i + action_size a) 0 m

    pub AlternativesMarked : ℕ → ℕ → Alternatives → Type 0
    AlternativesMarked x i (counted a t) = Marked x i a × CountedMarked x (i + action_size a) t
    AlternativesMarked x i (selected s) = SelectedMarked x i s

    pub CountedMarked : ℕ → ℕ → Counted → Type 0
    CountedMarked x i (counted_end y) = Unit {0}
    CountedMarked x i (counted_more y a t) = Marked x (suc i) a × CountedMarked x (suc i + action_size a) t

    pub SelectedMarked : ℕ → ℕ → Selected → Type 0
    SelectedMarked x i (select s b a m) = let j = suc (i + selector_size s) in Marked x j a × MoreMarked x (j + action_size a) m
    SelectedMarked x i (otherwise y b a e) = Marked x (suc (suc i)) a

    pub MoreMarked : ℕ → ℕ → SelectedMore → Type 0
    MoreMarked x i (selected_end y) = Unit {0}
    MoreMarked x i (selected_more y s) = SelectedMarked x (suc i) s

  abbrev pub BodyMarked : ℕ → Option Action → Type 0
  BodyMarked i none = Unit {0}
  BodyMarked i (some a) = Marked 0 i a

  -- the bodies of a description; `end` is the number behind its last token
  pub record AllMarked (d : Description) (end : ℕ) : Type 0 where
    pub bodies : (i : ℕ) (x : Declared) → get_elem? (declarations d) i ≡ some x → BodyMarked (body_starts d i) x.body
    pub outside : member_of end ≡ 0
