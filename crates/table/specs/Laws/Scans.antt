-- Laws of searches along the tokens: expressions, destinations and selectors are passed, and an action ends at the first separator at its own depth.
-- Assumes nothing.
use Rattle.std.specs.Prelude.{ℕ, zero, suc, ◌+◌, ◌-◌, ◌≡◌, refl, Bool, true, false, ◌&&◌, List, [], ◌∷◌, eqb}
use Rattle.std.proofs.Math.Path.{sym}
use Rattle.std.proofs.Common.{ap, ◌∙◌, arith}
use Rattle.std.proofs.Math.Bool.{and-true, and-false}
use Rattle.std.proofs.Math.Numerals.{add-one}
use borrow.Author.Tests.{eq-eqb, ne_eqb}
use Rattle.rules.specs.Text.Tokens.{kind_no, Token, tk, Arrow, BEGIN, Becomes, Equals, END}
use Rattle.rules.specs.Grammar.Trees.{Tokens, Bits, bits_tokens, Operand, operand_tokens, Tail, tail_tokens, Subscript, subscript_tokens, Joined, joined_tokens, Selector, selector_tokens}
use Rattle.rules.specs.Grammar.Trees.{Action, block, labelled, if_then, decode, repeat, leave, restart, activate, stop, no_op, transfer, action_tokens}
use Rattle.rules.specs.Grammar.Trees.{Members, end, also, next, members_tokens, Alternatives, counted, selected, alternatives_tokens, Counted, counted_end, counted_more, counted_tokens}
use Rattle.rules.specs.Grammar.Trees.{Selected, select, otherwise, selected_tokens, SelectedMore, selected_end, selected_more, selected_more_tokens}
use Rattle.rules.specs.Whole.Sets.{member}
use Rattle.trees.specs.Written.{level}
use Rattle.trees.specs.Expressions.{Expressed, Deaf, passes, bits_written, subscript_written, joined_written, expression_written}
use Rattle.trees.specs.Selectors.{chosen_passes, selector_written}
use Rattle.table.specs.Scans.{no, separates, stops, down, outermost, halts, deeper, scan}

pub scan_found : (g d : ℕ) (t : Token) (ts : Tokens) → halts g d (no t) ≡ true → scan g d (t ∷ ts) ≡ t ∷ ts
unfolding scan
scan_found g d t ts e = ap (λ (b : Bool). elim b [ true ↦ t ∷ ts | false ↦ scan g (deeper d (no t)) ts ]) e

pub scan_on : (g d : ℕ) (t : Token) (ts : Tokens) → halts g d (no t) ≡ false → scan g d (t ∷ ts) ≡ scan g (deeper d (no t)) ts
unfolding scan
scan_on g d t ts e = ap (λ (b : Bool). elim b [ true ↦ t ∷ ts | false ↦ scan g (deeper d (no t)) ts ]) e

pub scan_end : (g d : ℕ) → scan g d [] ≡ []
unfolding scan
scan_end g d = refl

-- the arms of the functions that test and count
pub below : (d : ℕ) → (d ≡ 0 → ⊥) → d - 1 ≡ down d
below zero n = absurd (n refl)
below (suc d) n = omega arith

module _ (d k : ℕ) where
  pub deeper_begin : k ≡ kind_no BEGIN → d + 1 ≡ deeper d k
  unfolding deeper
  deeper_begin e = add-one d ∙ sym (rw (eq-eqb k 19 e, deeper))

  pub deeper_shut : (k ≡ kind_no BEGIN → ⊥) → k ≡ kind_no END → d ≡ 0 → 0 ≡ deeper d k
  unfolding deeper
  deeper_shut n e z = sym (rw (ne_eqb k 19 n, eq-eqb k 20 e, deeper) (ap down z))

  pub deeper_end : (k ≡ kind_no BEGIN → ⊥) → k ≡ kind_no END → (d ≡ 0 → ⊥) → d - 1 ≡ deeper d k
  unfolding deeper
  deeper_end n e z = below d z ∙ sym (rw (ne_eqb k 19 n, eq-eqb k 20 e, deeper))

  pub deeper_same : (k ≡ kind_no BEGIN → ⊥) → (k ≡ kind_no END → ⊥) → d ≡ deeper d k
  unfolding deeper
  deeper_same n e = sym (rw (ne_eqb k 19 n, ne_eqb k 20 e, deeper))

module _ (g d k : ℕ) where
  at_top : (d : ℕ) → d ≡ 0 → outermost d ≡ true
  at_top d e = ap outermost e

  not_top : (d : ℕ) → (d ≡ 0 → ⊥) → outermost d ≡ false
  not_top zero n = absurd (n refl)
  not_top (suc d) n = refl

  pub halts_top : (r : Bool) → d ≡ 0 → r ≡ stops g k → r ≡ halts g d k
  unfolding halts
  halts_top r z e = e ∙ sym (ap (λ (b : Bool). stops g k && b) (at_top d z) ∙ and-true (stops g k))

  pub halts_inside : (d ≡ 0 → ⊥) → false ≡ halts g d k
  unfolding halts
  halts_inside z = sym (ap (λ (b : Bool). stops g k && b) (not_top d z) ∙ and-false (stops g k))

  pub stops_any : (r : Bool) → g ≡ 0 → r ≡ separates k → r ≡ stops g k
  unfolding stops
  stops_any r z e = e ∙ sym (rw (eq-eqb g 0 z, stops))

  pub stops_one : (g ≡ 0 → ⊥) → eqb k g ≡ stops g k
  unfolding stops
  stops_one n = sym (rw (ne_eqb g 0 n, stops))

-- a number that is none of a list
abbrev pub Misses : ℕ → List ℕ → Type 0
Misses k [] = Unit {0}
Misses k (x ∷ xs) = (k ≡ x → ⊥) × Misses k xs

pub missing : (k : ℕ) (xs : List ℕ) → Misses k xs → false ≡ member k xs
unfolding member
missing k [] h = refl
missing k (x ∷ xs) h = sym (rw (ne_eqb k x h.0, sym (missing k xs h.1)))

pub data Goal : ℕ → Type 0 where
  any_end : Goal 0
  equals : Goal 13
  arrow : Goal 14

-- expressions and destinations are passed, whatever is looked for
not_there : {g : ℕ} → Goal g → (d : ℕ) → Deaf (λ m. scan g d) level level level
unfolding scan halts stops separates member deeper
not_there any_end d = refl
not_there equals d = refl
not_there arrow d = refl

module _ {g : ℕ} (goal : Goal g) (d : ℕ) where
  expressed : {m n : ℕ} {f : Tokens → Tokens} → Expressed level level level m f n → (ts : Tokens) → scan g d (f ts) ≡ scan g d ts
  expressed = passes (λ m. scan g d) level level level (not_there goal d)

  pub past_bits : (b : Bits) (ts : Tokens) → scan g d (bits_tokens b ts) ≡ scan g d ts
  past_bits b = expressed (bits_written b 0)

  pub past_subscript : (s : Subscript) (ts : Tokens) → scan g d (subscript_tokens s ts) ≡ scan g d ts
  past_subscript s = expressed (subscript_written s 0)

  pub past_joined : (j : Joined) (ts : Tokens) → scan g d (joined_tokens j ts) ≡ scan g d ts
  past_joined j = expressed (joined_written j 0)

  pub past_expression : (o : Operand) (t : Tail) (ts : Tokens) → scan g d (operand_tokens o (tail_tokens t ts)) ≡ scan g d ts
  past_expression o t = expressed (expression_written o t 0)

-- a selector has no `:=`; its commas stand inside a block
pub past_selector : (s : Selector) (ts : Tokens) → scan (kind_no Becomes) 0 (selector_tokens s ts) ≡ scan (kind_no Becomes) 0 ts
unfolding scan halts stops deeper
past_selector s = chosen_passes (λ m. scan (kind_no Becomes) 0) level refl (selector_written s 0)

inner_selector : (d : ℕ) (s : Selector) (ts : Tokens) → scan 0 (suc d) (selector_tokens s ts) ≡ scan 0 (suc d) ts
unfolding scan halts stops separates member deeper
inner_selector d s = chosen_passes (λ m. scan 0 (suc d)) level refl (selector_written s 0)

-- an action ends at the first separator at its own depth
mutual
  unfolding scan halts stops separates member deeper

  pub past_action : (a : Action) (d : ℕ) (ts : Tokens) → scan 0 d (action_tokens a ts) ≡ scan 0 d ts
  past_action (block b a m) d ts = past_action a (suc d) (members_tokens m ts) ∙ past_members m d ts
  past_action (labelled n b a) d ts = past_action a d ts
  past_action (if_then i o t w a) d ts = past_expression any_end d o t (tk Arrow w ∷ action_tokens a ts) ∙ past_action a d ts
  past_action (decode i o t w b v) d ts = past_expression any_end d o t (tk Arrow w ∷ tk BEGIN b ∷ alternatives_tokens v ts) ∙ past_alternatives v d ts
  past_action (repeat i a) d ts = past_action a d ts
  past_action (leave i n) d ts = refl
  past_action (restart i n) d ts = refl
  past_action (activate n l r) d ts = refl
  past_action (stop i l r) d ts = refl
  past_action (no_op i l r) d ts = refl
  past_action (transfer n s b j e o t) d ts =
      past_subscript any_end d s _ ∙ (past_bits any_end d b _ ∙ (past_joined any_end d j (tk Equals e ∷ operand_tokens o (tail_tokens t ts)) ∙ past_expression any_end d o t ts))

  past_members : (m : Members) (d : ℕ) (ts : Tokens) → scan 0 (suc d) (members_tokens m ts) ≡ scan 0 d ts
  past_members (end i) d ts = refl
  past_members (also i a m) d ts = past_action a (suc d) (members_tokens m ts) ∙ past_members m d ts
  past_members (next i a m) d ts = past_action a (suc d) (members_tokens m ts) ∙ past_members m d ts

  past_alternatives : (v : Alternatives) (d : ℕ) (ts : Tokens) → scan 0 (suc d) (alternatives_tokens v ts) ≡ scan 0 d ts
  past_alternatives (counted a c) d ts = past_action a (suc d) (counted_tokens c ts) ∙ past_counted c d ts
  past_alternatives (selected s) d ts = past_selected s d ts

  past_counted : (c : Counted) (d : ℕ) (ts : Tokens) → scan 0 (suc d) (counted_tokens c ts) ≡ scan 0 d ts
  past_counted (counted_end i) d ts = refl
  past_counted (counted_more i a c) d ts = past_action a (suc d) (counted_tokens c ts) ∙ past_counted c d ts

  past_selected : (s : Selected) (d : ℕ) (ts : Tokens) → scan 0 (suc d) (selected_tokens s ts) ≡ scan 0 d ts
  past_selected (select s b a m) d ts =
      inner_selector d s (tk Becomes b ∷ action_tokens a (selected_more_tokens m ts)) ∙ (past_action a (suc d) (selected_more_tokens m ts) ∙ past_more m d ts)
  past_selected (otherwise i b a e) d ts = past_action a (suc d) (tk END e ∷ ts)

  past_more : (m : SelectedMore) (d : ℕ) (ts : Tokens) → scan 0 (suc d) (selected_more_tokens m ts) ≡ scan 0 d ts
  past_more (selected_end i) d ts = refl
  past_more (selected_more i s) d ts = past_selected s d ts
