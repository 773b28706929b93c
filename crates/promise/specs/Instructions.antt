-- What the table has for the runner at an instruction. Its number is that of its first token. That token's link is where control goes behind it, 0 for
-- out of the body.
use Rattle.std.specs.Prelude.{ℕ, suc, ◌+◌, ◌<◌, ◌≤◌, ◌≡◌, List, [], ◌∷◌, length, drop}
use Rattle.cells.specs.Cells.{cell}
use Rattle.rules.specs.Text.Tokens.{Name, Const, Masked, LPar, LBra, Less, Becomes, Equals, BEGIN, END, IF, DECODE, OTHERWISE, REPEAT, LEAVE, RESTART, STOP, NO-OP}
use Rattle.rules.specs.Text.Tokens.{Kind, Info, Token, tk, Op, op_kind}
use Rattle.rules.specs.Grammar.Trees.{Tokens, Bits, bits_tokens, Subscript, subscript_tokens, Joined, joined_tokens, Operand, operand_tokens, Tail, tail_tokens, Selector, selector_tokens}
use Rattle.rules.specs.Grammar.Precedence.{Expr, expr_of}
use Rattle.rules.specs.Selectors.{Case, numbered, listed, otherwise, selector_items}
use Rattle.rules.specs.Declarations.{Word, Table}
use Rattle.rules.specs.Limits.{most_declarations, deepest}
use Rattle.rules.specs.Steps.Actions.{Access, access, joined_accesses}
use Rattle.rules.specs.Faults.Bodies.{judge, judge_destination, judge_joined}
use Rattle.laws_grammar.specs.Cited.Nesting.{operand_nest, tail_nest, subscript_nest, joined_nest}
use Rattle.laws_orders.specs.Cited.Flat.{Link, at, exit, Entries, no_entry, entry, Instr, if_i, decode_i, go_i, call_i, stop_i, move_i, Code}
use Rattle.records.specs.Holds.{place_cell, inside_cell, link_cell, token_at}

-- an instruction never stands at token 0, which is the outer name
abbrev pub link_no : Link → ℕ
link_no (at n) = n
link_no exit = 0

-- an expression ends before a token that is no operator, `[` or `<`
pub record EndsExpression (rest : Tokens) : Type 0 where
  pub next : Token
  pub more : Tokens
  pub is : rest ≡ next ∷ more
  pub no_operator : (o : Op) → next.kind ≡ op_kind o → ⊥
  pub no_subscript : next.kind ≡ LBra → ⊥
  pub no_bits : next.kind ≡ Less → ⊥

-- a sound expression stands from the token i up to j
pub record ExpressionStands (ts : Tokens) (outer : Word) (ds : Table) (i j : ℕ) (e : Expr) : Type 0 where
  pub operand : Operand
  pub tail : Tail
  pub rest : Tokens
  pub is : e ≡ expr_of operand tail
  pub reads : drop i ts ≡ operand_tokens operand (tail_tokens tail rest)
  pub behind : drop j ts ≡ rest
  pub ends : EndsExpression rest
  pub sound : (judge outer ds e).faults ≡ []
  pub operand_shallow : operand_nest operand ≤ deepest
  pub tail_shallow : tail_nest tail ≤ deepest

-- a sound destination stands from the token i up to the `=` at j
pub record DestinationStands (ts : Tokens) (outer : Word) (ds : Table) (i j : ℕ) (to : List Access) : Type 0 where
  pub name : Info
  pub subscript : Subscript
  pub bits : Bits
  pub joined : Joined
  pub equals : Info
  pub rest : Tokens
  pub is : to ≡ access name subscript bits ∷ joined_accesses joined
  pub reads : drop i ts ≡ tk Name name ∷ subscript_tokens subscript (bits_tokens bits (joined_tokens joined (tk Equals equals ∷ rest)))
  pub behind : drop j ts ≡ tk Equals equals ∷ rest
  pub sound : judge_joined outer ds (judge_destination outer ds name subscript bits) joined ≡ []
  pub subscript_shallow : subscript_nest subscript ≤ deepest
  pub joined_shallow : joined_nest joined ≤ deepest

-- what stands behind the separator of an alternative: nothing of its own, a selector, or OTHERWISE
abbrev pub CaseStands : Tokens → ℕ → Case → Type 0
CaseStands ts i (numbered n) =
    ((token_at ts i).kind ≡ Const → ⊥) × ((token_at ts i).kind ≡ Masked → ⊥) × ((token_at ts i).kind ≡ LBra → ⊥) × ((token_at ts i).kind ≡ OTHERWISE → ⊥)
CaseStands ts i (listed is) = (s : Selector) × (b : Info) × (rest : Tokens) × (is ≡ selector_items s) × (drop i ts ≡ selector_tokens s (tk Becomes b ∷ rest))
CaseStands ts i otherwise = (token_at ts i).kind ≡ OTHERWISE

-- alternatives without selectors have their numbers by counting, from k on
abbrev pub Numbered : ℕ → Case → Type 0
Numbered k (numbered n) = n ≡ k
Numbered k (listed is) = Unit {0}
Numbered k otherwise = Unit {0}

abbrev pub Counted : ℕ → Entries → Type 0
Counted k no_entry = Unit {0}
Counted k (entry c g t) = Numbered k c × Counted (suc k) t

module _ (records : List ℕ) (ts : Tokens) where
  -- the alternatives from the separator p on (BEGIN or `,`), whose cell inside leads to the action and whose link to the next separator, `,` or END
  abbrev pub EntriesStand : ℕ → Entries → Type 0
  EntriesStand p no_entry = (token_at ts p).kind ≡ END
  EntriesStand p (entry c g t) =
      (p < length ts) × (((token_at ts p).kind ≡ END → ⊥) × (CaseStands ts (p + 1) c × ((inside_cell records p ≡ g) × ((p < link_cell records p) × EntriesStand (link_cell records p) t))))

module _ (records decls : List ℕ) (ts : Tokens) (outer : Word) (ds : Table) (C : Code) where
  pub data Jump : Kind → Type 0 where
    a_repeat : Jump REPEAT
    a_leave : Jump LEAVE
    a_restart : Jump RESTART
    a_no_op : Jump NO-OP

  abbrev pub InstructionHolds : ℕ → Instr → Type 0
  InstructionHolds n (if_i e g k) =
      ((token_at ts n).kind ≡ IF) × ((j : ℕ) × (ExpressionStands ts outer ds (n + 1) j e × ((inside_cell records n ≡ g) × (link_cell records n ≡ link_no k))))
  InstructionHolds n (decode_i p e t) =
      ((token_at ts n).kind ≡ DECODE)
      × ((place_cell records n ≡ p) × ((j : ℕ) × (ExpressionStands ts outer ds (n + 1) j e × (((token_at ts (j + 1)).kind ≡ BEGIN) × (EntriesStand records ts (j + 1) t × Counted 0 t)))))
  InstructionHolds n (go_i k) = Jump (token_at ts n).kind × (link_cell records n ≡ link_no k)
  InstructionHolds n (call_i p k) =
      ((token_at ts n).kind ≡ Name)
      × (((token_at ts (n + 1)).kind ≡ LPar) × ((link_cell records n ≡ link_no k)
      × ((inside_cell records n < most_declarations)
      × ((cell 2 decls (inside_cell records n) < length ts) × (link_cell records (cell 2 decls (inside_cell records n)) ≡ C.first p)))))
  InstructionHolds n stop_i = (token_at ts n).kind ≡ STOP
  InstructionHolds n (move_i to e k) =
      ((token_at ts n).kind ≡ Name)
      × (((token_at ts (n + 1)).kind ≡ LPar → ⊥)
      × ((link_cell records n ≡ link_no k) × (DestinationStands ts outer ds n (inside_cell records n) to × ((j : ℕ) × ExpressionStands ts outer ds (inside_cell records n + 1) j e))))
