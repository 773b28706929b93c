-- The instructions of an action at the numbers of its tokens. An instruction stands at its keyword; an activation at its name, a transfer at its first name.
-- Everywhere i is the number of the first token, k the link to where control goes when the action has ended, and ρ the labels around it.
use Rattle.std.specs.Prelude.{ℕ, suc, ◌+◌, List, [], ◌∷◌, ◌++◌, length}
use Rattle.std.proofs.Math.Option.{Option, none, some}
use Rattle.rules.specs.Grammar.Trees.{Tokens, Operand, operand_tokens, Tail, tail_tokens, Selector, selector_tokens, Action, block, labelled, if_then, decode, repeat, leave, restart, activate, stop, no_op, transfer, action_tokens, Members, end, also, next, Alternatives, counted, selected, Counted, counted_end, counted_more, Selected, select, otherwise, SelectedMore, selected_end, selected_more}
use Rattle.rules.specs.Grammar.Precedence.{expr_of}
use Rattle.rules.specs.Selectors.{numbered, listed, otherwise as any_value, selector_items}
use Rattle.rules.specs.Steps.Actions.{access, joined_accesses}
use Rattle.laws_orders.specs.Cited.Flat.{Link, at, exit, Entries, no_entry, entry, Instr, if_i, decode_i, go_i, call_i, stop_i, move_i, Labels, bind, leave_to, restart_to}

pub record Numbered : Type 0 where
  pub number : ℕ
  pub instr : Instr

abbrev pub num : ℕ → Instr → Numbered
num n x = record { number = n; instr = x }

-- how many tokens there are
abbrev pub size : (Tokens → Tokens) → ℕ
size f = length (f [])

abbrev pub action_size : Action → ℕ
action_size a = size (action_tokens a)

abbrev pub expr_size : Operand → Tail → ℕ
expr_size o t = size (λ ts. operand_tokens o (tail_tokens t ts))

abbrev pub selector_size : Selector → ℕ
selector_size s = size (selector_tokens s)

-- an action's first instruction: behind the labels and BEGINs in front of it
unfoldable pub first_of : ℕ → Action → ℕ
first_of i (block b a m) = first_of (suc i) a
first_of i (labelled n b a) = first_of (suc (suc i)) a
first_of i (if_then x o t w a) = i
first_of i (decode x o t w b v) = i
first_of i (repeat x a) = i
first_of i (leave x n) = i
first_of i (restart x n) = i
first_of i (activate n l r) = i
first_of i (stop x l r) = i
first_of i (no_op x l r) = i
first_of i (transfer n s b j e o t) = i

-- where control goes behind an action of a block, by the members that follow it: behind `;` and NEXT to the next action, at END to where the block goes
unfoldable pub behind : ℕ → Link → Members → Link
behind i k (end x) = k
behind i k (also x a m) = at (first_of (suc i) a)
behind i k (next x a m) = at (first_of (suc i) a)

-- a jump goes to its target; an accepted text has no jump without one
abbrev pub target : Option Link → Link
target none = exit
target (some k) = k

-- the action of an IF, and the alternatives of a DECODE, behind the expression and `=>`, or `=> BEGIN`
abbrev pub behind_test : ℕ → Operand → Tail → ℕ
behind_test i o t = suc (suc i + expr_size o t)

-- where the alternatives of a DECODE begin
unfoldable pub counted_entries : ℕ → ℕ → Counted → Entries
counted_entries n i (counted_end x) = no_entry
counted_entries n i (counted_more x a c) = entry (numbered n) (first_of (suc i) a) (counted_entries (suc n) (suc i + action_size a) c)

unfoldable mutual
  pub selected_entries : ℕ → Selected → Entries
  selected_entries i (select s b a m) =
      let j = suc (i + selector_size s) in entry (listed (selector_items s)) (first_of j a) (more_entries (j + action_size a) m)
  selected_entries i (otherwise x b a e) = entry any_value (first_of (suc (suc i)) a) no_entry

  pub more_entries : ℕ → SelectedMore → Entries
  more_entries i (selected_end x) = no_entry
  more_entries i (selected_more x s) = selected_entries (suc i) s

unfoldable pub entries : ℕ → Alternatives → Entries
entries i (counted a c) = entry (numbered 0) (first_of i a) (counted_entries 1 (i + action_size a) c)
entries i (selected s) = selected_entries i s

unfoldable mutual
  pub code_at : Labels → ℕ → Link → Action → List Numbered
  code_at ρ i k (block b a m) = let j = suc i + action_size a in code_at ρ (suc i) (behind j k m) a ++ members_code ρ j k m
  code_at ρ i k (labelled n b a) = code_at (bind n.word (first_of (suc (suc i)) a) k ρ) (suc (suc i)) k a
  code_at ρ i k (if_then x o t w a) = let j = behind_test i o t in num i (if_i (expr_of o t) (first_of j a) k) ∷ code_at ρ j k a
  code_at ρ i k (decode x o t w b v) =
      let j = suc (behind_test i o t) in num i (decode_i x.place (expr_of o t) (entries j v)) ∷ alternatives_code ρ j k v
  code_at ρ i k (repeat x a) = num i (go_i (at (first_of (suc i) a))) ∷ code_at ρ (suc i) (at i) a
  code_at ρ i k (leave x n) = num i (go_i (target (leave_to ρ n.word))) ∷ []
  code_at ρ i k (restart x n) = num i (go_i (target (restart_to ρ n.word))) ∷ []
  code_at ρ i k (activate n l r) = num i (call_i n.word k) ∷ []
  code_at ρ i k (stop x l r) = num i stop_i ∷ []
  code_at ρ i k (no_op x l r) = num i (go_i k) ∷ []
  code_at ρ i k (transfer n s b j e o t) = num i (move_i (access n s b ∷ joined_accesses j) (expr_of o t) k) ∷ []

  pub members_code : Labels → ℕ → Link → Members → List Numbered
  members_code ρ i k (end x) = []
  members_code ρ i k (also x a m) = let j = suc i + action_size a in code_at ρ (suc i) (behind j k m) a ++ members_code ρ j k m
  members_code ρ i k (next x a m) = let j = suc i + action_size a in code_at ρ (suc i) (behind j k m) a ++ members_code ρ j k m

  pub alternatives_code : Labels → ℕ → Link → Alternatives → List Numbered
  alternatives_code ρ i k (counted a c) = code_at ρ i k a ++ counted_code ρ (i + action_size a) k c
  alternatives_code ρ i k (selected s) = selected_code ρ i k s

  pub counted_code : Labels → ℕ → Link → Counted → List Numbered
  counted_code ρ i k (counted_end x) = []
  counted_code ρ i k (counted_more x a c) = code_at ρ (suc i) k a ++ counted_code ρ (suc i + action_size a) k c

  pub selected_code : Labels → ℕ → Link → Selected → List Numbered
  selected_code ρ i k (select s b a m) = let j = suc (i + selector_size s) in code_at ρ j k a ++ more_code ρ (j + action_size a) k m
  selected_code ρ i k (otherwise x b a e) = code_at ρ (suc (suc i)) k a

  pub more_code : Labels → ℕ → Link → SelectedMore → List Numbered
  more_code ρ i k (selected_end x) = []
  more_code ρ i k (selected_more x s) = selected_code ρ (suc i) k s
