-- Laws of the end of an action: reading from its first token, one comes to what stands behind it.
use Rattle.std.specs.Prelude.{ℕ, ◌≡◌, refl, Bool, true, false, not, ◌||◌, [], ◌∷◌, eqb}
use Rattle.std.proofs.lemmas.Bool.{false≢true}
use Rattle.rules.specs.Text.Tokens.{Info, kind_no, LEAVE, NEXT, RESTART, Semi, Name, Comma, Becomes, Equals, BEGIN, END}
use Rattle.rules.specs.Grammar.Trees.{Tokens, Bits, Operand, operand_tokens, Tail, tail_tokens, Subscript, Joined, Selector, selector_tokens, transfer, action_tokens}
use Rattle.rules.specs.Whole.Sets.{member}
use Rattle.trees.specs.Written.{then, level}
use Rattle.trees.specs.Expressions.{Expressed, expression_equal, access_written, joined_written, expression_written}
use Rattle.trees.specs.Selectors.{choosing_equal, selector_written}
use Rattle.trees.specs.Made.{token_made, then_made, made}
pub use Rattle.trees.specs.Made.{All, all_none, all_more, Made}

-- Kinds that neither separate, nest, label nor jump. Among those of selectors `,` may stand, and no name.
unfoldable pub plain : ℕ → Bool
plain k = not (member k (kind_no Comma ∷ kind_no Semi ∷ kind_no Becomes ∷ kind_no BEGIN ∷ kind_no END ∷ kind_no NEXT ∷ kind_no LEAVE ∷ kind_no RESTART ∷ []))

unfoldable pub quiet : ℕ → Bool
quiet k = not (member k (kind_no Name ∷ kind_no Semi ∷ kind_no Becomes ∷ kind_no BEGIN ∷ kind_no END ∷ kind_no NEXT ∷ kind_no LEAVE ∷ kind_no RESTART ∷ []))

expressed : {m n : ℕ} {f : Tokens → Tokens} → Expressed level level level m f n → Made plain f
unfolding plain member
expressed = made plain (λ l m k. expression_equal (λ k. plain (kind_no k)) (λ k. true) refl)

pub expression_made : (o : Operand) (t : Tail) → Made plain (λ ts. operand_tokens o (tail_tokens t ts))
expression_made o t = expressed (expression_written o t 0)

-- a destination, its `=` and the expression
pub transfer_made : (n : Info) (s : Subscript) (b : Bits) (j : Joined) (e : Info) (o : Operand) (t : Tail) → Made plain (action_tokens (transfer n s b j e o t))
unfolding plain member
transfer_made n s b j e o t =
    token_made Name n refl (then_made (expressed (then (access_written s b 0) (joined_written j 0))) (token_made Equals e refl (expression_made o t)))

pub selector_made : (s : Selector) → Made quiet (selector_tokens s)
unfolding quiet member
selector_made s = made quiet (λ l m k. choosing_equal {square = level} (λ k. quiet (kind_no k)) (λ k. true) refl refl) (selector_written s 0)

-- what a test on kinds rules out
neither : (a b : Bool) → not (a || b) ≡ true → (a ≡ false) × (not b ≡ true)
neither true b h = absurd (false≢true h)
neither false b h = (refl, h)

pub record Quiet (k : ℕ) : Type 0 where
  pub semi : eqb k (kind_no Semi) ≡ false
  pub becomes : eqb k (kind_no Becomes) ≡ false
  pub begin : eqb k (kind_no BEGIN) ≡ false
  pub end : eqb k (kind_no END) ≡ false
  pub next : eqb k (kind_no NEXT) ≡ false
  pub leave : eqb k (kind_no LEAVE) ≡ false
  pub restart : eqb k (kind_no RESTART) ≡ false

still : (k : ℕ) → not (member k (kind_no Semi ∷ kind_no Becomes ∷ kind_no BEGIN ∷ kind_no END ∷ kind_no NEXT ∷ kind_no LEAVE ∷ kind_no RESTART ∷ [])) ≡ true → Quiet k
unfolding member
still k h =
    let a = neither (eqb k (kind_no Semi)) _ h in
    let b = neither (eqb k (kind_no Becomes)) _ a.1 in
    let c = neither (eqb k (kind_no BEGIN)) _ b.1 in
    let d = neither (eqb k (kind_no END)) _ c.1 in
    let e = neither (eqb k (kind_no NEXT)) _ d.1 in
    let f = neither (eqb k (kind_no LEAVE)) _ e.1 in
    let g = neither (eqb k (kind_no RESTART)) _ f.1 in
    record { semi = a.0; becomes = b.0; begin = c.0; end = d.0; next = e.0; leave = f.0; restart = g.0 }

pub plain_kind : (k : ℕ) → plain k ≡ true → (eqb k (kind_no Comma) ≡ false) × Quiet k
unfolding plain member
plain_kind k h = let a = neither (eqb k (kind_no Comma)) _ h in (a.0, still k a.1)

pub quiet_kind : (k : ℕ) → quiet k ≡ true → (eqb k (kind_no Name) ≡ false) × Quiet k
unfolding quiet member
quiet_kind k h = let a = neither (eqb k (kind_no Name)) _ h in (a.0, still k a.1)
