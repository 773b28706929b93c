-- Laws of spelling one token after another, from the calls to their contracts.
-- Assumes nothing.
use Prim.Native.Nat.{ℕ, ◌+◌, ◌*◌, ◌<◌, ◌≤◌}
use mathlib.Core.Path.{◌≡◌, sym, ap, ◌∙◌}
use mathlib.Core.List.{List}
use native.Mathlib.Omega.{arith}
use lib.ListN.{length}
use Rattle.cells.specs.Cells.{cell, put_cell}
use Rattle.rules.specs.Text.Tokens.{Name, kind_no}
use Rattle.laws_grammar.specs.Cited.Kinds.{kind_at}
use Rattle.laws_grammar.specs.Grammar.Kinds.{kind_at_kind_no}
use Rattle.records.specs.Holds.{kind_byte, token_at, Tabled}
use Rattle.records.specs.Kept.{Kept, LinkPut}
use Rattle.records.specs.Laws.Kept.{kept_none, kept_then, holds_kept}
use Rattle.spelling.specs.Spelled.{Spelled}
use Rattle.spelling.specs.Trees.{no_node}
use Rattle.room.specs.Spelling.{heads, room_size}
use Rattle.spelling.specs.Spelling.{SpelledTo, Spelling, Seeking, Ends, Cleared, Opened}
use Rattle.spelling.specs.Laws.Growing.{none_spelled, opened_still, no_name_spelled, node_spelled, new_spelled, all_spelled}

-- what is promised for the name i, whose children are cleared
abbrev pub NameSpelled : List ℕ → List ℕ → List ℕ → List ℕ → List ℕ → ℕ → Type 0
NameSpelled text records room now after i =
    (v : Seeking text records room i) → Cleared room (heads + 2 * i) (heads + 2 * (i + 1)) → SpelledTo now after v.spelling.tokens (i + 1)

module _ {text records room : List ℕ} {i c : ℕ} (ends : (v : Seeking text records room i) → Ends room v.spelling.tokens i c) where
  pub end_inside : Seeking text records room i → room_size ≤ length room → 2 * c + 2 ≤ length room
  end_inside v l = omega (arith, (ends v).inside, v.spelling.within, v.spelling.holds.few)

  module _ {x : ℕ} (node : x ≡ cell 2 room c) {now : List ℕ} where
    pub as_node : (x ≡ no_node → ⊥) → LinkPut records now i x → Kept records now i (i + 1) × NameSpelled text records room now room i
    as_node f put = (put.kept, λ v cleared. node_spelled v.spelling.spelled cleared v.name (ends v) node f put)

    pub as_new : {after : List ℕ} → room_size ≤ length room → x ≡ no_node → after ≡ put_cell 2 room c i → LinkPut records now i i
        → Kept records now i (i + 1) × NameSpelled text records room now after i
    as_new l e is put =
        (put.kept, λ v cleared. new_spelled v.spelling.spelled cleared v.name (ends v) l (omega (arith, v.spelling.within, v.spelling.holds.few)) (sym node ∙ e) is put)

-- one token
module _ {text records room : List ℕ} {i : ℕ} (v : Spelling text records room i) where
  pub children_inside : room_size ≤ length room → 2 * (heads + 2 * (i + 1)) ≤ length room
  children_inside l = omega (arith, v.within, v.holds.few)

  pub token_inside : 8 * i + 8 ≤ length records
  token_inside = omega (arith, v.within, v.holds.record_room)

  module _ {ready : List ℕ} (opened : Opened room ready i) {x : ℕ} (kind : x ≡ kind_byte records i) where
    pub kind_is : x ≡ kind_no (token_at v.tokens i).kind
    kind_is = kind ∙ (v.holds.entry i v.within).kind

    abbrev pub seeking : x ≡ kind_no Name → Seeking text records ready i
    seeking e = record {
      spelling = record { values = v.values; tokens = v.tokens; holds = v.holds; within = v.within; spelled = opened_still v.spelled opened };
      name = record { within = v.within; kind = sym (kind_at_kind_no (token_at v.tokens i).kind) ∙ ap kind_at (sym kind_is ∙ e) };
    }

    name_passed : {now after : List ℕ} → x ≡ kind_no Name → NameSpelled text records ready now after i → SpelledTo now after v.tokens (i + 1)
    name_passed e spelled = spelled (seeking e) opened.cleared

    other_passed : (x ≡ kind_no Name → ⊥) → SpelledTo records ready v.tokens (i + 1)
    other_passed f = no_name_spelled (opened_still v.spelled opened) opened.cleared (λ n. f (kind_is ∙ ap kind_no n.kind))

module _ {text records room ready : List ℕ} {i x : ℕ} (opened : Opened room ready i) (kind : x ≡ kind_byte records i) where
  pub spelled_name : {now after : List ℕ} → x ≡ kind_no Name → Kept records now i (i + 1) × NameSpelled text records ready now after i
      → Kept records now i (i + 1) × ((v : Spelling text records room i) → SpelledTo now after v.tokens (i + 1))
  spelled_name e p = (p.0, λ v. name_passed v opened kind e p.1)

  pub spelled_other : (x ≡ kind_no Name → ⊥) → Kept records records i (i + 1) × ((v : Spelling text records room i) → SpelledTo records ready v.tokens (i + 1))
  spelled_other f = (kept_none records i (i + 1), λ v. other_passed v opened kind f)

-- the table behind i of n tokens
pub record Inv (text records₀ records room₀ room : List ℕ) (n i : ℕ) : Type 0 where
  pub within : i ≤ n
  pub long : length room ≡ length room₀
  pub kept : Kept records₀ records 0 n
  pub spelled : (v : Tabled text records₀ n) → SpelledTo records room v.tokens i

pub begun : {text records room₀ room : List ℕ} {n : ℕ} → length room ≡ length room₀ → Cleared room 0 heads → Inv text records records room₀ room n 0
begun {text} {records} {n = n} l c = record {
  within = omega arith;
  long = l;
  kept = kept_none records 0 n;
  spelled = λ v. none_spelled records v.tokens c;
}

module _ {text records₀ records room₀ room : List ℕ} {n i : ℕ} (inv : Inv text records₀ records room₀ room n i) where
  module _ (l : i < n) where
    abbrev pub next_token : Tabled text records₀ n → Spelling text records room i
    next_token v = record {
      values = v.values;
      tokens = v.tokens;
      holds = holds_kept inv.kept v.holds;
      within = omega (arith, v.count);
      spelled = inv.spelled v;
    }

    pub one_spelled : {now after : List ℕ} → length after ≡ length room
        → Kept records now i (i + 1) × ((v : Spelling text records room i) → SpelledTo now after v.tokens (i + 1)) → Inv text records₀ now room₀ after n (i + 1)
    one_spelled long p = record {
      within = omega arith;
      long = long ∙ inv.long;
      kept = kept_then 0 n inv.kept p.0 (omega arith) (omega arith) (omega arith) (omega arith);
      spelled = λ v. p.1 (next_token v);
    }

  pub room_left : room_size ≤ length room₀ → room_size ≤ length room
  room_left l = omega (arith, inv.long)

  pub tokens_spelled : n ≤ i → Kept records₀ records 0 n × ((v : Tabled text records₀ n) → Spelled records v.tokens)
  tokens_spelled l = (inv.kept, λ v. all_spelled (inv.spelled v) (omega (arith, v.count, inv.within)))
