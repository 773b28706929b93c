-- Where the tokens of a description have the cells that are worked out for them, its bodies are marked.
use Prim.Native.Nat.{ℕ, zero, suc, ◌+◌, ◌≤◌}
use Rattle.std.specs.Prelude.{◌≡◌, length, drop}
use Rattle.std.proofs.Common.{subst, arith}
use mathlib.Core.List.{[], ◌∷◌}
use Rattle.std.proofs.Math.Option.{some}
use Rattle.std.proofs.Math.ListN.{get_elem?}
use Rattle.rules.specs.Text.Tokens.{tk, Becomes, BEGIN}
use Rattle.rules.specs.Grammar.Trees.{Tokens, block, action_tokens, members_tokens, body, mapped, carrier, given, given_tokens, words, with_bits, bare_body, own_bits_tokens, main_bits_tokens}
use Rattle.rules.specs.Grammar.Trees.{Declaration, plain, main, declaration_tokens, Heading, heading_tokens, Declarations, declared_all, declared_also, declarations_tokens, Description, description, flatten}
use Rattle.rules.specs.Declarations.{Declared, declared_of, rest_of, declarations}
use Rattle.rules.specs.Limits.{deepest}
use Rattle.laws_grammar.specs.Cited.Nesting.{declaration_nest, declarations_nest, nest}
use Rattle.laws_grammar.specs.Grammar.Positions.{own_bits_writes, main_bits_writes, heading_writes, declaration_writes}
use Rattle.laws_orders.proofs.Orders.Tests.{impossible}
use Rattle.laws_code.specs.Cited.Code.{size}
use Rattle.laws_code.specs.Cited.Placed.{body_start, rest_starts, body_starts}
use Rattle.laws_code.proofs.Links.Numbers.{size_before}
use Rattle.telling.specs.Cited.Cells.{Cells, BodyMarked}
use Rattle.marking.specs.Machine.{outset, acted, Follows}
use Rattle.marking.specs.Laws.Passed.{bits_end_passed, own_bits_passed, main_bits_passed, heading_passed}
use Rattle.marking.specs.Laws.Marked.{inside_fits, action_marked}

module _ (K : Cells) (n : ℕ) where
  -- outside of all bodies
  abbrev F : Tokens → Type 0
  F = Follows K n outset

  declaration_marked : (d : Declaration) (i : ℕ) (ts : Tokens) → i + length (declaration_tokens d ts) ≡ n → declaration_nest d ≤ deepest → F (declaration_tokens d ts)
      → BodyMarked K (body_start i d) (declared_of d).body × F ts
  unfolding acted body_start
  declaration_marked (plain k (words l f c t r b o)) i ts e g h = (tt, own_bits_passed K n [] 0 o ts h.1.1.1.1.1.1.1)
  declaration_marked (plain k (with_bits l o carrier)) i ts e g h = (tt, own_bits_passed K n [] 0 o ts h.1.1)
  declaration_marked (plain k (with_bits l o (given y (body b a m)))) i ts e g h =
      let rest = tk Becomes y ∷ tk BEGIN b ∷ action_tokens a (members_tokens m ts) in
      let p = suc (suc (suc i) + size (own_bits_tokens o)) in
      action_marked K n (block b a m) p outset ts (omega (arith, size_before (own_bits_writes o) rest)) (omega arith) (inside_fits [] 0 p) (own_bits_passed K n [] 0 o rest h.1.1).1
  declaration_marked (plain k (with_bits l o (given y (mapped t b c r)))) i ts e g h =
      (tt, bits_end_passed K n [] 0 r ts (own_bits_passed K n [] 0 o (given_tokens (given y (mapped t b c r)) ts) h.1.1).1.1.1.1)
  declaration_marked (plain k (bare_body y b a m)) i ts e g h =
      let p = suc (suc i) in action_marked K n (block b a m) p outset ts (omega arith) (omega arith) (inside_fits [] 0 p) h.1.1
  declaration_marked (main y k o z b a m) i ts e g h =
      let rest = tk Becomes z ∷ tk BEGIN b ∷ action_tokens a (members_tokens m ts) in
      let p = suc (suc (suc i) + size (main_bits_tokens o)) in
      action_marked K n (block b a m) p outset ts (omega (arith, size_before (main_bits_writes o) rest)) (omega arith) (inside_fits [] 0 p)
      (main_bits_passed K n [] 0 o rest h.1.1).1

  -- a heading, a declaration, and what stands behind it
  headed : (y : Heading) (d : Declaration) (i : ℕ) (ts : Tokens) → i + length (heading_tokens y (declaration_tokens d ts)) ≡ n → declaration_nest d ≤ deepest
      → F (heading_tokens y (declaration_tokens d ts)) → BodyMarked K (body_start (i + size (heading_tokens y)) d) (declared_of d).body × F ts
  headed y d i ts e g h =
      let rest = declaration_tokens d ts in
      declaration_marked d (i + size (heading_tokens y)) ts (omega (arith, size_before (heading_writes y) rest)) g (heading_passed K n [] 0 y rest h)

  headed_size : (y : Heading) (d : Declaration) (i : ℕ) (ts : Tokens) → i + length (heading_tokens y (declaration_tokens d ts)) ≡ n
      → i + size (heading_tokens y) + size (declaration_tokens d) + length ts ≡ n
  headed_size y d i ts e = omega (arith, size_before (heading_writes y) (declaration_tokens d ts), size_before (declaration_writes d) ts)

  -- the declaration that is found
  found_marked : (p : ℕ) (d x : Declared) → some d ≡ some x → BodyMarked K p d.body → BodyMarked K p x.body
  found_marked p d x e h = let q : d ≡ x = cc in subst (λ (y : Declared). BodyMarked K p y.body) q h

  rest_marked : (ds : Declarations) (i : ℕ) → i + length (declarations_tokens ds []) ≡ n → declarations_nest ds ≤ deepest → F (declarations_tokens ds [])
      → (k : ℕ) (x : Declared) → get_elem? (rest_of ds) k ≡ some x → BodyMarked K (rest_starts i ds k) x.body
  unfolding acted rest_starts rest_of
  rest_marked (declared_all y) i e g h k x q = impossible (cc)
  rest_marked (declared_also c y d ds) i e g h zero x q =
      found_marked _ (declared_of d) x q (headed y d (suc i) (declarations_tokens ds []) (omega arith) (omega arith) h.1).0
  rest_marked (declared_also c y d ds) i e g h (suc k) x q =
      let ts = declarations_tokens ds [] in
      rest_marked ds (suc i + size (heading_tokens y) + size (declaration_tokens d)) (headed_size y d (suc i) ts (omega arith)) (omega arith)
      (headed y d (suc i) ts (omega arith) (omega arith) h.1).1 k x q

  -- THE BODIES of a description, whose declarations stand behind its own name, `:=` and BEGIN
  pub bodies_marked : (d : Description) → n ≡ length (flatten d) → nest d ≤ deepest → F (drop 3 (flatten d))
      → (k : ℕ) (x : Declared) → get_elem? (declarations d) k ≡ some x → BodyMarked K (body_starts d k) x.body
  unfolding body_starts declarations
  bodies_marked (description l y b z d ds) e g h zero x q =
      found_marked _ (declared_of d) x q (headed z d 3 (declarations_tokens ds []) (omega arith) (omega arith) h).0
  bodies_marked (description l y b z d ds) e g h (suc k) x q =
      let ts = declarations_tokens ds [] in
      rest_marked ds (3 + size (heading_tokens z) + size (declaration_tokens d)) (headed_size z d 3 ts (omega arith)) (omega arith)
      (headed z d 3 ts (omega arith) (omega arith) h).1 k x q
