-- The links of an action in the records, where it begins at the token i and control goes to k behind it.
use Rattle.std.specs.Prelude.{ℕ, suc, ◌+◌, ◌<◌, ◌≤◌, ◌≡◌, List}
use Rattle.rules.specs.Grammar.Trees.{Bits, bits_tokens, Subscript, subscript_tokens, Joined, joined_tokens, Action, block, labelled, if_then, decode, repeat, leave, restart, activate, stop, no_op, transfer, Members, end, also, next, Alternatives, counted, selected, Counted, counted_end, counted_more, Selected, select, otherwise, SelectedMore, selected_end, selected_more}
use Rattle.rules.specs.Declarations.{Word, Table}
use Rattle.laws_orders.specs.Cited.Flat.{Link, at, Labels, bind, leave_to, restart_to}
use Rattle.laws_code.specs.Cited.Code.{size, action_size, selector_size, first_of, behind, target, behind_test}
use Rattle.table.specs.Meaning.{meaning_of}
use Rattle.promise.specs.Instructions.{link_no}
use Rattle.records.specs.Holds.{inside_cell, link_cell}

-- how many tokens stand between the first name of a destination and its `=`
abbrev pub destination_size : Subscript → Bits → Joined → ℕ
destination_size s b j = size (λ ts. subscript_tokens s (bits_tokens b (joined_tokens j ts)))

module _ (records : List ℕ) (outermost : Word) (ds : Table) where
  -- the separator before an alternative: where that begins, and the next separator
  abbrev pub Separates : ℕ → ℕ → ℕ → Type 0
  Separates p f e = (inside_cell records p ≡ f) × (link_cell records p ≡ e)

  abbrev mutual
    pub Linked : Labels → ℕ → Link → Action → Type 0
    Linked ρ i k (block b a m) = Linked ρ (suc i) (behind (suc i + action_size a) k m) a × MembersLinked ρ (suc i + action_size a) k m
    Linked ρ i k (labelled n b a) = Linked (bind n.word (first_of (suc (suc i)) a) k ρ) (suc (suc i)) k a
    Linked ρ i k (if_then x o t w a) =
        (inside_cell records i ≡ first_of (behind_test i o t) a) × (link_cell records i ≡ link_no k) × Linked ρ (behind_test i o t) k a
    Linked ρ i k (decode x o t w b v) = AlternativesLinked ρ (behind_test i o t) k v
    Linked ρ i k (repeat x a) = (link_cell records i ≡ first_of (suc i) a) × Linked ρ (suc i) (at i) a
    Linked ρ i k (leave x n) = link_cell records i ≡ link_no (target (leave_to ρ n.word))
    Linked ρ i k (restart x n) = link_cell records i ≡ link_no (target (restart_to ρ n.word))
    Linked ρ i k (activate n l r) = (link_cell records i ≡ link_no k) × (inside_cell records i ≡ meaning_of outermost ds n.word)
    Linked ρ i k (stop x l r) = Unit {0}
    Linked ρ i k (no_op x l r) = link_cell records i ≡ link_no k
    Linked ρ i k (transfer n s b j e o t) = (inside_cell records i ≡ suc i + destination_size s b j) × (link_cell records i ≡ link_no k)

    pub MembersLinked : Labels → ℕ → Link → Members → Type 0
    MembersLinked ρ i k (end x) = Unit {0}
    MembersLinked ρ i k (also x a m) = Linked ρ (suc i) (behind (suc i + action_size a) k m) a × MembersLinked ρ (suc i + action_size a) k m
    MembersLinked ρ i k (next x a m) = Linked ρ (suc i) (behind (suc i + action_size a) k m) a × MembersLinked ρ (suc i + action_size a) k m

    -- the alternatives from the separator p on
    pub AlternativesLinked : Labels → ℕ → Link → Alternatives → Type 0
    AlternativesLinked ρ p k (counted a c) =
        Separates p (first_of (suc p) a) (suc p + action_size a) × Linked ρ (suc p) k a × CountedLinked ρ (suc p + action_size a) k c
    AlternativesLinked ρ p k (selected s) = SelectedLinked ρ p k s

    pub CountedLinked : Labels → ℕ → Link → Counted → Type 0
    CountedLinked ρ p k (counted_end x) = Unit {0}
    CountedLinked ρ p k (counted_more x a c) =
        Separates p (first_of (suc p) a) (suc p + action_size a) × Linked ρ (suc p) k a × CountedLinked ρ (suc p + action_size a) k c

    pub SelectedLinked : Labels → ℕ → Link → Selected → Type 0
    SelectedLinked ρ p k (select s b a m) =
        let j = suc (suc p + selector_size s) in Separates p (first_of j a) (j + action_size a) × Linked ρ j k a × MoreLinked ρ (j + action_size a) k m
    SelectedLinked ρ p k (otherwise x b a e) = let j = suc (suc (suc p)) in Separates p (first_of j a) (j + action_size a) × Linked ρ j k a

    pub MoreLinked : Labels → ℕ → Link → SelectedMore → Type 0
    MoreLinked ρ p k (selected_end x) = Unit {0}
    MoreLinked ρ p k (selected_more x s) = SelectedLinked ρ p k s

-- the links of the tokens from i up to j are the same
pub record Same (old now : List ℕ) (i j : ℕ) : Type 0 where
  pub inside : (t : ℕ) → i ≤ t → t < j → inside_cell now t ≡ inside_cell old t
  pub link : (t : ℕ) → i ≤ t → t < j → link_cell now t ≡ link_cell old t
