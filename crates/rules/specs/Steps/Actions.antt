-- Actions as they run: a description's trees without their marks. A block is its groups in a row, a group its members side by side; expressions have
-- their tree by precedence, alternatives the case in which they are taken.
use Rattle.std.specs.Prelude.{ℕ, suc, List, [], ◌∷◌}
use Rattle.std.proofs.Math.Option.{Option, none, some}
use Rattle.rules.specs.Text.Tokens.{Info}
use Rattle.rules.specs.Grammar.Trees.{Bits, Subscript, Joined, alone, joined, Action, block, labelled, if_then, activate, no_op, Members, also, next}
use Rattle.rules.specs.Grammar.Trees.{decode as decode_tree, repeat as repeat_tree, leave as leave_tree, restart as restart_tree, stop as stop_tree, transfer as transfer_tree, end}
use Rattle.rules.specs.Grammar.Trees.{Alternatives, counted, selected, Counted, counted_end, counted_more, Selected, select, otherwise as otherwise_tree, SelectedMore, selected_end, selected_more}
use Rattle.rules.specs.Grammar.Precedence.{Expr, Index, expr_of, index_of}
use Rattle.rules.specs.Selectors.{Case, numbered, listed, otherwise, selector_items}
use Rattle.rules.specs.Declarations.{Word}

-- an access of a destination
pub record Access : Type 0 where
  pub name : Info
  pub index : Index
  pub bits : Bits

-- the place of a transfer: its first token, the first name of its destination
abbrev pub transfer_place : List Access → ℕ
transfer_place [] = 0
transfer_place (a ∷ more) = a.name.place

mutual
  pub data Act : Type 0 where
    seq : Act → Act → Act
    par : Act → Act → Act
    label : Word → Act → Act
    ins : Ins → Act

  -- what takes a step of its own; DECODE keeps its place
  pub data Ins : Type 0 where
    iff : Expr → Act → Ins
    decode : ℕ → Expr → Alts → Ins
    repeat : Act → Ins
    leave : Word → Ins
    restart : Word → Ins
    call : Word → Ins
    stop : Ins
    noop : Ins
    transfer : List Access → Expr → Ins

  pub data Alts : Type 0 where
    no_alts : Alts
    alt : Case → Act → Alts → Alts

unfoldable pub access : Info → Subscript → Bits → Access
access n s b = record { name = n; index = index_of s; bits = b }

unfoldable pub joined_accesses : Joined → List Access
joined_accesses alone = []
joined_accesses (joined a n s b j) = access n s b ∷ joined_accesses j

-- a block while it is read: its first group, and what comes behind NEXT
pub record Groups : Type 0 where
  pub group : Act
  pub behind : Option Act

abbrev pub in_turn : Act → Option Act → Act
in_turn g none = g
in_turn g (some b) = seq g b

abbrev pub whole : Groups → Act
whole g = in_turn g.group g.behind

unfoldable mutual
  pub act_of : Action → Act
  act_of (block b a m) = whole (groups (act_of a) m)
  act_of (labelled n b a) = label n.word (act_of a)
  act_of (if_then i o t w a) = ins (iff (expr_of o t) (act_of a))
  act_of (decode_tree i o t w b v) = ins (decode i.place (expr_of o t) (alts_of v))
  act_of (repeat_tree i a) = ins (repeat (act_of a))
  act_of (leave_tree i n) = ins (leave n.word)
  act_of (restart_tree i n) = ins (restart n.word)
  act_of (activate n l r) = ins (call n.word)
  act_of (stop_tree i l r) = ins stop
  act_of (no_op i l r) = ins noop
  act_of (transfer_tree n s b j e o t) = ins (transfer (access n s b ∷ joined_accesses j) (expr_of o t))

  -- the member x, and what follows it
  pub groups : Act → Members → Groups
  groups x (end e) = record { group = x; behind = none }
  groups x (also i b m) = let g = groups (act_of b) m in record { group = par x g.group; behind = g.behind }
  groups x (next i b m) = record { group = x; behind = some (whole (groups (act_of b) m)) }

  pub alts_of : Alternatives → Alts
  alts_of (counted a c) = alt (numbered 0) (act_of a) (counted_alts 1 c)
  alts_of (selected s) = selected_alts s

  -- "without, they are 0, 1, 2 and so on"
  pub counted_alts : ℕ → Counted → Alts
  counted_alts n (counted_end i) = no_alts
  counted_alts n (counted_more i a c) = alt (numbered n) (act_of a) (counted_alts (suc n) c)

  pub selected_alts : Selected → Alts
  selected_alts (select s b a m) = alt (listed (selector_items s)) (act_of a) (more_alts m)
  selected_alts (otherwise_tree i b a e) = alt otherwise (act_of a) no_alts

  pub more_alts : SelectedMore → Alts
  more_alts (selected_end i) = no_alts
  more_alts (selected_more i s) = selected_alts s
