-- The labels of a body: one of them, and all of them between two tokens.
use Rattle.std.specs.Prelude.{ℕ, ◌+◌, ◌*◌, ◌≤◌, ◌≡◌, Bool, false, ◌&&◌, List, [], ◌∷◌, ◌++◌, eqb, length, drop}
use Rattle.rules.specs.Text.Tokens.{Becomes, same, Token, Name, kind_no}
use Rattle.rules.specs.Grammar.Trees.{Tokens, Action, action_tokens}
use Rattle.rules.specs.Declarations.{Word}
use Rattle.rules.specs.Faults.Fault.{Fault, when}
use Rattle.rules.specs.Faults.Declared.{is_known}
use Rattle.rules.specs.Faults.Bodies.{labels, label_faults, declared_names}
use Rattle.records.specs.Holds.{kind_byte, token_at}
use Rattle.records.specs.Words.{NameAt, word_at}
use Rattle.stacks.specs.Stacks.{stacked_words, Stacked}
use Rattle.room.specs.Bodies.{index_end}
use Rattle.plain.specs.Stage.{Stage, outer_of, table_of}

-- whether the token i of a table is a label
abbrev pub label_at : List ℕ → ℕ → Bool
label_at records i = eqb (kind_byte records i) (kind_no Name) && eqb (kind_byte records (i + 1)) (kind_no Becomes)

-- all declared names, and the outer name
abbrev pub known_names : {text records values decls : List ℕ} → Stage text records values decls → List Word
known_names s = declared_names (outer_of s) (table_of s) (table_of s)

-- a label is the token i, and `count` labels before it are stacked
pub record LabelView (text records values decls room : List ℕ) (count i : ℕ) : Type 0 where
  pub stage : Stage text records values decls
  pub stacked : Stacked records stage.tokens room count
  pub name : NameAt stage.tokens i
  pub large : 2 * index_end ≤ length room

abbrev pub label_fault : {text records values decls room : List ℕ} {count i : ℕ} → LabelView text records values decls room count i → List Fault
label_fault {room = room} {count = count} {i = i} v =
    when (is_known (word_at v.stage.tokens i) (stacked_words v.stage.tokens room count ++ known_names v.stage)) 44
    (token_at v.stage.tokens i).info.place

-- an action stands from i up to j
pub record LabelsView (text records values decls : List ℕ) (i j : ℕ) : Type 0 where
  pub stage : Stage text records values decls
  pub action : Action
  pub next : Token
  pub rest : Tokens
  pub reads : drop i stage.tokens ≡ action_tokens action (next ∷ rest)
  pub behind : drop j stage.tokens ≡ next ∷ rest
  pub ends : same next.kind Becomes ≡ false

abbrev pub all_label_faults : {text records values decls : List ℕ} {i j : ℕ} → LabelsView text records values decls i j → List Fault
all_label_faults v = label_faults (known_names v.stage) (labels v.action [])
