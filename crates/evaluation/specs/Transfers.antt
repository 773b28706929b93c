-- Transfers: "The right side is evaluated first, then destination subscripts, then the stores."
use Rattle.std.specs.Prelude.{ℕ, ◌+◌, ◌≤◌, ◌≡◌, List, ◌∷◌, length, drop, ⊤, Result, Ok, Err}
use Rattle.rules.specs.Text.Tokens.{Name, Equals, Info, tk}
use Rattle.rules.specs.Grammar.Trees.{Tokens, Bits, bits_tokens, Subscript, subscript_tokens, Joined, joined_tokens}
use Rattle.rules.specs.Grammar.Precedence.{Expr}
use Rattle.rules.specs.Values.{cut}
use Rattle.rules.specs.Limits.{deepest}
use Rattle.rules.specs.Declarations.{Table, total_words}
use Rattle.rules.specs.Steps.Actions.{Access, access, joined_accesses}
use Rattle.rules.specs.Steps.Evaluation.{Carriers, Outcome, gives, faulty, then, evaluate_accesses, store_all, transferred}
use Rattle.laws_grammar.specs.Cited.Nesting.{subscript_nest, joined_nest}
use Rattle.laws_accepted.specs.Cited.Destinations.{SizedDestination}
use Rattle.promise.specs.Instructions.{ExpressionStands, DestinationStands}
use Rattle.operands.specs.declared.accesses.Outside.{Outside}
use Rattle.operands.specs.Scene.{Scene, carrier_words, words_of}
use Rattle.evaluation.specs.Stores.{sizes}
use Rattle.evaluation.specs.Gathering.{GatherAt}
use Rattle.records.specs.Holds.{inside_cell}

-- the stores of x to a destination
abbrev pub assigned : Table → Carriers → List Access → ℕ → Outcome Carriers
assigned ds s to x = then (evaluate_accesses ds s to) (λ fs. gives (store_all s fs (cut (sizes fs) x)))

-- What is to become of the carriers, and what became of their bytes: they hold it, or the place of a Fault 70 is told and they are unchanged.
abbrev pub Becomes : {records values carriers : List ℕ} → Scene records values carriers → Outcome Carriers → List ℕ → Result ⊤ Outside → Type 0
Becomes {carriers = before} s o after (Ok u) = (o ≡ gives (carrier_words (total_words s.table) after)) × (length after ≡ length before)
Becomes {carriers = before} s o after (Err e) = (o ≡ faulty 70 e.place) × (after ≡ before)

-- a joined destination whose first field is known
abbrev pub JoinedAnswer : {records values carriers : List ℕ} {word low size p end : ℕ} → GatherAt records values carriers word low size p end → ℕ → List ℕ
    → Result ⊤ Outside → Type 0
JoinedAnswer g x after r = Becomes g.scene (assigned g.scene.table (words_of g.scene) (g.first ∷ joined_accesses g.more) x) after r

-- a sound destination from the name n up to the `=` at `end`
pub record AssignAt (records values carriers : List ℕ) (n end : ℕ) : Type 0 where
  pub scene : Scene records values carriers
  pub name : Info
  pub subscript : Subscript
  pub bits : Bits
  pub more : Joined
  pub equals : Info
  pub rest : Tokens
  pub reads : drop n scene.tokens ≡ tk Name name ∷ subscript_tokens subscript (bits_tokens bits (joined_tokens more (tk Equals equals ∷ rest)))
  pub behind : drop end scene.tokens ≡ tk Equals equals ∷ rest
  pub shallow : subscript_nest subscript ≤ deepest
  pub more_shallow : joined_nest more ≤ deepest
  pub sized : SizedDestination scene.outer scene.table (access name subscript bits ∷ joined_accesses more)

abbrev pub AssignAnswer : {records values carriers : List ℕ} {n end : ℕ} → AssignAt records values carriers n end → ℕ → List ℕ → Result ⊤ Outside → Type 0
AssignAnswer d x after r =
    Becomes d.scene (assigned d.scene.table (words_of d.scene) (access d.name d.subscript d.bits ∷ joined_accesses d.more) x) after r

-- the transfer at the instruction n
pub record TransferAt (records values carriers : List ℕ) (n : ℕ) : Type 0 where
  pub scene : Scene records values carriers
  pub to : List Access
  pub right : Expr
  pub behind : ℕ
  pub destination : DestinationStands scene.tokens scene.outer scene.table n (inside_cell records n) to
  pub value : ExpressionStands scene.tokens scene.outer scene.table (inside_cell records n + 1) behind right

abbrev pub TransferAnswer : {records values carriers : List ℕ} {n : ℕ} → TransferAt records values carriers n → List ℕ → Result ⊤ Outside → Type 0
TransferAnswer t after r = Becomes t.scene (transferred t.scene.table (words_of t.scene) t.to t.right) after r
