-- The parts of simple actions: the target of LEAVE and RESTART, an activation, a transfer.
use Rattle.std.specs.Prelude.{ℕ, ◌+◌, ◌*◌, ◌<◌, ◌≤◌, ◌≡◌, Bool, not, ◌||◌, List, [], ◌∷◌, eqb, length, drop}
use Rattle.rules.specs.Text.Tokens.{Info, Token, LEAVE, RESTART, kind_no}
use Rattle.rules.specs.Grammar.Trees.{Tokens, Bits, Operand, Tail, Subscript, Joined, transfer, action_tokens}
use Rattle.rules.specs.Declarations.{number_of}
use Rattle.rules.specs.Faults.Fault.{Fault, when}
use Rattle.rules.specs.Faults.Declared.{is_known, declared_at}
use Rattle.rules.specs.Faults.Bodies.{activated, action_faults}
use Rattle.laws_grammar.specs.Cited.Nesting.{action_nest}
use Rattle.records.specs.Holds.{token_at}
use Rattle.keys.specs.Keys.{least_key}
use Rattle.records.specs.Words.{NameAt, word_at}
use Rattle.stacks.specs.Stacks.{stacked_words, Stacked}
use Rattle.room.specs.Bodies.{index_end}
use Rattle.plain.specs.declared.Walked.{Walked}
use Rattle.plain.specs.Stage.{Stage, outer_of, table_of}
use Rattle.plain.specs.Actions.{EndsAction}

-- the kinds of LEAVE and RESTART
abbrev pub is_jump : ℕ → Bool
is_jump k = eqb k (kind_no LEAVE) || eqb k (kind_no RESTART)

-- a keyword is the token i, and its target the next
pub record JumpView (records room : List ℕ) (i count : ℕ) : Type 0 where
  pub text : List ℕ
  pub values : List ℕ
  pub decls : List ℕ
  pub stage : Stage text records values decls
  pub stacked : Stacked records stage.tokens room count
  pub target : NameAt stage.tokens (i + 1)
  pub large : 2 * index_end ≤ length room

abbrev pub jump_faults : {records room : List ℕ} {i count : ℕ} → JumpView records room i count → List Fault
jump_faults {room = room} {i = i} {count = count} v =
    when (not (is_known (word_at v.stage.tokens (i + 1)) (stacked_words v.stage.tokens room count))) 44 (token_at v.stage.tokens i).info.place

-- an activation's name is the token i
pub record CallView (records decls : List ℕ) (i : ℕ) : Type 0 where
  pub text : List ℕ
  pub values : List ℕ
  pub stage : Stage text records values decls
  pub name : NameAt stage.tokens i

abbrev pub call_faults : {records decls : List ℕ} {i : ℕ} → CallView records decls i → List Fault
call_faults {i = i} v =
    let n = (token_at v.stage.tokens i).info in
    activated (outer_of v.stage) (table_of v.stage) n (declared_at (table_of v.stage) (number_of (table_of v.stage) n.word))

-- a transfer from the token i on
pub record TransferView (records values decls : List ℕ) (i depth : ℕ) : Type 0 where
  pub text : List ℕ
  pub stage : Stage text records values decls
  pub name : Info
  pub subscript : Subscript
  pub bits : Bits
  pub joined : Joined
  pub equals : Info
  pub first : Operand
  pub tail : Tail
  pub next : Token
  pub rest : Tokens
  pub reads : drop i stage.tokens ≡ action_tokens (transfer name subscript bits joined equals first tail) (next ∷ rest)
  pub ends : EndsAction next.kind
  pub shallow : action_nest (transfer name subscript bits joined equals first tail) ≤ depth

module _ {records values decls : List ℕ} {i depth : ℕ} (v : TransferView records values decls i depth) where
  pub record TransferAnswer (r : Walked) : Type 0 where
    pub key : r.key
        ≡ least_key (action_faults (outer_of v.stage) (table_of v.stage) [] (transfer v.name v.subscript v.bits v.joined v.equals v.first v.tail))
    pub past : i < r.next
    pub behind : drop r.next v.stage.tokens ≡ v.next ∷ v.rest
