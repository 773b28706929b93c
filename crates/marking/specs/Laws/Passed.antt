-- Tokens that are neither BEGIN nor END, `;` or NEXT lead into no member and out of none.
use Rattle.std.specs.Prelude.{ℕ, ◌-◌, ◌≡◌, Bool, List, length}
use Rattle.std.proofs.Math.Path.{refl}
use Rattle.std.proofs.Common.{ap, subst}
use Rattle.rules.specs.Text.Tokens.{Kind, kind_no}
use Rattle.rules.specs.Grammar.Trees.{Tokens, BitsEnd, bits_end_tokens, Bits, bits_tokens, Operand, operand_tokens, Tail, tail_tokens, Subscript, subscript_tokens, Joined, joined_tokens}
use Rattle.rules.specs.Grammar.Trees.{Selector, selector_tokens, OwnBits, own_bits_tokens, MainBits, main_bits_tokens, Heading, no_heading, heading, heading_tokens}
use Rattle.trees.specs.Written.{Written, nothing, token, level}
use Rattle.trees.specs.Expressions.{Expressed, expression_equal, bits_end_written, bits_written, subscript_written, expression_written, joined_written, own_bits_written, main_bits_written}
use Rattle.trees.specs.Selectors.{Chosen, choosing_equal, selector_written}
use Rattle.reading.specs.Groups.{more}
use Rattle.telling.specs.Cited.Cells.{Cells}
use Rattle.marking.specs.Machine.{Frame, State, inside, acted, Follows}

module _ (K : Cells) (n : ℕ) (fs : List Frame) (x : ℕ) where
  abbrev F : Tokens → Type 0
  F ts = Follows K n (inside fs x) ts

  -- what a kind does, and to do nothing
  abbrev does : Kind → ℕ → Bool → State
  does k p b = acted p (kind_no k) b (inside fs x)

  abbrev stays : Kind → ℕ → Bool → State
  stays k p b = inside fs x

  passed : {Step : ℕ → Kind → ℕ → Type 0} {l m : ℕ} {f : Tokens → Tokens} → ((l m : ℕ) (k : Kind) → Step l k m → does k ≡ stays k)
      → Written Step l f m → (ts : Tokens) → F (f ts) → F ts
  passed e nothing ts h = h
  passed e (token {l} {m} {k = k} {f} s i w) ts h =
      passed e w ts (subst (λ y. Follows K n y (f ts)) (ap (λ (a : ℕ → Bool → State). a (n - length (f ts)) (more (f ts))) (e l m k s)) h.1)

  expressed : {l m : ℕ} {f : Tokens → Tokens} → Expressed level level level l f m → (ts : Tokens) → F (f ts) → F ts
  unfolding acted
  expressed = passed (λ l m k. expression_equal does stays refl)

  chosen : {l m : ℕ} {f : Tokens → Tokens} → Chosen level l f m → (ts : Tokens) → F (f ts) → F ts
  unfolding acted
  chosen = passed (λ l m k. choosing_equal does stays refl refl)

  pub bits_end_passed : (e : BitsEnd) (ts : Tokens) → F (bits_end_tokens e ts) → F ts
  bits_end_passed e = expressed (bits_end_written e 0)

  pub bits_passed : (v : Bits) (ts : Tokens) → F (bits_tokens v ts) → F ts
  bits_passed v = expressed (bits_written v 0)

  pub subscript_passed : (s : Subscript) (ts : Tokens) → F (subscript_tokens s ts) → F ts
  subscript_passed s = expressed (subscript_written s 0)

  pub expression_passed : (o : Operand) (t : Tail) (ts : Tokens) → F (operand_tokens o (tail_tokens t ts)) → F ts
  expression_passed o t = expressed (expression_written o t 0)

  pub joined_passed : (j : Joined) (ts : Tokens) → F (joined_tokens j ts) → F ts
  joined_passed j = expressed (joined_written j 0)

  pub selector_passed : (s : Selector) (ts : Tokens) → F (selector_tokens s ts) → F ts
  selector_passed s = chosen (selector_written s 0)

  pub own_bits_passed : (o : OwnBits) (ts : Tokens) → F (own_bits_tokens o ts) → F ts
  own_bits_passed o = expressed (own_bits_written o 0)

  pub main_bits_passed : (o : MainBits) (ts : Tokens) → F (main_bits_tokens o ts) → F ts
  main_bits_passed o = expressed (main_bits_written o 0)

  pub heading_passed : (h : Heading) (ts : Tokens) → F (heading_tokens h ts) → F ts
  unfolding acted
  heading_passed no_heading ts p = p
  heading_passed (heading l k r) ts p = p.1.1.1
