-- Laws of links: they stay if those of their tokens do.
-- Assumes nothing.
use Rattle.std.specs.Prelude.{ℕ, suc, ◌+◌, ◌<◌, ◌≤◌, ◌≡◌, List, [], ◌∷◌, length}
use Rattle.std.proofs.Common.{◌∙◌, arith}
use Rattle.rules.specs.Text.Tokens.{Info, tk, Arrow, BEGIN, Becomes, END}
use Rattle.rules.specs.Grammar.Trees.{Tokens, Operand, operand_tokens, Tail, tail_tokens, Action, block, labelled, if_then, decode, repeat, leave, restart, activate, stop, no_op, transfer, action_tokens, Members, end, also, next, members_tokens, Alternatives, counted, selected, alternatives_tokens, Counted, counted_end, counted_more, counted_tokens, Selected, select, otherwise, selected_tokens, SelectedMore, selected_end, selected_more, selected_more_tokens}
use Rattle.rules.specs.Declarations.{Word, Table}
use Rattle.laws_grammar.specs.Grammar.Positions.{operand_writes, tail_writes, selector_writes, action_writes}
use Rattle.laws_orders.specs.Cited.Flat.{Link, at, Labels}
use Rattle.laws_code.specs.Cited.Code.{size, action_size, expr_size, selector_size, behind_test}
use Rattle.laws_code.proofs.Links.Numbers.{size_before}
use Rattle.ways.specs.Linked.{Same, Separates, Linked, MembersLinked, AlternativesLinked, CountedLinked, SelectedLinked, MoreLinked}

same_part : {old now : List ℕ} {i j : ℕ} (x y : ℕ) → Same old now i j → i ≤ x → y ≤ j → Same old now x y
same_part x y s h k = record { inside = λ t l m. s.inside t (omega arith) (omega arith); link = λ t l m. s.link t (omega arith) (omega arith) }

pub block_size : (b : Info) (a : Action) (m : Members) → action_size (block b a m) ≡ suc (action_size a + size (members_tokens m))
block_size b a m = omega (arith, size_before (action_writes a) (members_tokens m []))

expression_size : (o : Operand) (t : Tail) (ts : Tokens) → length (operand_tokens o (tail_tokens t ts)) ≡ expr_size o t + length ts
expression_size o t ts =
    omega (arith, size_before (operand_writes o) (tail_tokens t ts), size_before (operand_writes o) (tail_tokens t []), size_before (tail_writes t) ts, size_before (tail_writes t) [])

module _ (old now : List ℕ) (outermost : Word) (ds : Table) where
  separates_same : (p f e j : ℕ) → Same old now p j → p < j → Separates old outermost ds p f e → Separates now outermost ds p f e
  separates_same p f e j s h q = (s.inside p (omega arith) h ∙ q.0, s.link p (omega arith) h ∙ q.1)

  mutual
    pub linked_same : (a : Action) (ρ : Labels) (i : ℕ) (k : Link) → Same old now i (i + action_size a) → Linked old outermost ds ρ i k a
        → Linked now outermost ds ρ i k a
    linked_same (block b a m) ρ i k s h =
        let e = block_size b a m in (
          linked_same a ρ (suc i) _ (same_part _ _ s (omega arith) (omega arith)) h.0,
          members_same m ρ (suc i + action_size a) k (same_part _ _ s (omega arith) (omega arith)) h.1,
        )
    linked_same (labelled n b a) ρ i k s h = linked_same a _ (suc (suc i)) k (same_part _ _ s (omega arith) (omega arith)) h
    linked_same (if_then x o t w a) ρ i k s h =
        let e = expression_size o t (tk Arrow w ∷ action_tokens a []) in (
          s.inside i (omega arith) (omega arith) ∙ h.0,
          s.link i (omega arith) (omega arith) ∙ h.1,
          linked_same a ρ (behind_test i o t) k (same_part _ _ s (omega arith) (omega arith)) h.2,
        )
    linked_same (decode x o t w b v) ρ i k s h =
        let e = expression_size o t (tk Arrow w ∷ tk BEGIN b ∷ alternatives_tokens v []) in
        alternatives_same v ρ (behind_test i o t) k (same_part _ _ s (omega arith) (omega arith)) h
    linked_same (repeat x a) ρ i k s h =
        (s.link i (omega arith) (omega arith) ∙ h.0, linked_same a ρ (suc i) (at i) (same_part _ _ s (omega arith) (omega arith)) h.1)
    linked_same (leave x n) ρ i k s h = s.link i (omega arith) (omega arith) ∙ h
    linked_same (restart x n) ρ i k s h = s.link i (omega arith) (omega arith) ∙ h
    linked_same (activate n l r) ρ i k s h = (s.link i (omega arith) (omega arith) ∙ h.0, s.inside i (omega arith) (omega arith) ∙ h.1)
    linked_same (stop x l r) ρ i k s h = tt
    linked_same (no_op x l r) ρ i k s h = s.link i (omega arith) (omega arith) ∙ h
    linked_same (transfer n u b j e o t) ρ i k s h = (s.inside i (omega arith) (omega arith) ∙ h.0, s.link i (omega arith) (omega arith) ∙ h.1)

    pub members_same : (m : Members) (ρ : Labels) (i : ℕ) (k : Link) → Same old now i (i + size (members_tokens m)) → MembersLinked old outermost ds ρ i k m
        → MembersLinked now outermost ds ρ i k m
    members_same (end x) ρ i k s h = tt
    members_same (also x a m) ρ i k s h =
        let e = size_before (action_writes a) (members_tokens m []) in (
          linked_same a ρ (suc i) _ (same_part _ _ s (omega arith) (omega arith)) h.0,
          members_same m ρ (suc i + action_size a) k (same_part _ _ s (omega arith) (omega arith)) h.1,
        )
    members_same (next x a m) ρ i k s h =
        let e = size_before (action_writes a) (members_tokens m []) in (
          linked_same a ρ (suc i) _ (same_part _ _ s (omega arith) (omega arith)) h.0,
          members_same m ρ (suc i + action_size a) k (same_part _ _ s (omega arith) (omega arith)) h.1,
        )

    pub alternatives_same : (v : Alternatives) (ρ : Labels) (p : ℕ) (k : Link) → Same old now p (suc p + size (alternatives_tokens v))
        → AlternativesLinked old outermost ds ρ p k v → AlternativesLinked now outermost ds ρ p k v
    alternatives_same (counted a c) ρ p k s h =
        let e = size_before (action_writes a) (counted_tokens c []) in (
          separates_same p _ _ _ s (omega arith) h.0,
          linked_same a ρ (suc p) k (same_part _ _ s (omega arith) (omega arith)) h.1,
          counted_same c ρ (suc p + action_size a) k (same_part _ _ s (omega arith) (omega arith)) h.2,
        )
    alternatives_same (selected x) ρ p k s h = selected_same x ρ p k s h

    pub counted_same : (c : Counted) (ρ : Labels) (p : ℕ) (k : Link) → Same old now p (p + size (counted_tokens c)) → CountedLinked old outermost ds ρ p k c
        → CountedLinked now outermost ds ρ p k c
    counted_same (counted_end x) ρ p k s h = tt
    counted_same (counted_more x a c) ρ p k s h =
        let e = size_before (action_writes a) (counted_tokens c []) in (
          separates_same p _ _ _ s (omega arith) h.0,
          linked_same a ρ (suc p) k (same_part _ _ s (omega arith) (omega arith)) h.1,
          counted_same c ρ (suc p + action_size a) k (same_part _ _ s (omega arith) (omega arith)) h.2,
        )

    pub selected_same : (x : Selected) (ρ : Labels) (p : ℕ) (k : Link) → Same old now p (suc p + size (selected_tokens x))
        → SelectedLinked old outermost ds ρ p k x → SelectedLinked now outermost ds ρ p k x
    selected_same (select y b a m) ρ p k s h =
        let e = size_before (selector_writes y) (tk Becomes b ∷ action_tokens a (selected_more_tokens m [])) in
        let f = size_before (action_writes a) (selected_more_tokens m []) in (
          separates_same p _ _ _ s (omega arith) h.0,
          linked_same a ρ (suc (suc p + selector_size y)) k (same_part _ _ s (omega arith) (omega arith)) h.1,
          more_same m ρ (suc (suc p + selector_size y) + action_size a) k (same_part _ _ s (omega arith) (omega arith)) h.2,
        )
    selected_same (otherwise y b a z) ρ p k s h =
        let f = size_before (action_writes a) (tk END z ∷ []) in
        (separates_same p _ _ _ s (omega arith) h.0, linked_same a ρ (suc (suc (suc p))) k (same_part _ _ s (omega arith) (omega arith)) h.1)

    pub more_same : (m : SelectedMore) (ρ : Labels) (p : ℕ) (k : Link) → Same old now p (p + size (selected_more_tokens m)) → MoreLinked old outermost ds ρ p k m
        → MoreLinked now outermost ds ρ p k m
    more_same (selected_end x) ρ p k s h = tt
    more_same (selected_more x y) ρ p k s h = selected_same y ρ p k (same_part _ _ s (omega arith) (omega arith)) h
