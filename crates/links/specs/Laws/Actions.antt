-- Laws of a block and a DECODE behind the prefixes of an action.
-- Assumes nothing.
use Rattle.std.specs.Prelude.{ℕ, ◌+◌, ◌≡◌, List}
use Rattle.std.proofs.Common.{arith}
use Rattle.rules.specs.Text.Tokens.{BEGIN, DECODE, kind_no}
use Rattle.laws_code.specs.Cited.Code.{action_size}
use Rattle.ways.specs.Seeking.{Ground}
use Rattle.records.specs.Laws.Kept.{kept_then}
use Rattle.ways.specs.Laws.Stack.{labels_then}
use Rattle.ways.specs.Standing.{ActionAt, Done}
use Rattle.ways.specs.Prefixes.{Prefixed, Bared}
use Rattle.ways.specs.Laws.Prefixes.{heads, heads_not}
use Rattle.links.specs.Leaves.{LeafAt}
use Rattle.records.specs.Holds.{kind_byte}
use Rattle.links.specs.Actions.{BlockAt, ChoiceAt}

-- an action is done when what stands behind its prefixes is
pub behind_done : {g : Ground} {records labels : List ℕ} {i link count first depth : ℕ} (v : ActionAt g records labels i link count first depth)
    {r l : List ℕ} {i' link' count' first' : ℕ} (p : Prefixed v r l i' link' count' first') {now after : List ℕ} → Done p.now now after → Done v now after
behind_done {i = i} v {i' = i'} p d =
    let h = p.onward in
    let e = p.size_left in
    record {
      linked =
          p.whole _ (record { inside = λ t x y. d.kept.inside t (λ a b. omega arith); link = λ t x y. d.kept.link t (λ a b. omega arith) })
          d.linked;
      kept = kept_then i (i + action_size v.action) p.kept d.kept (omega arith) (omega arith) (omega arith) (omega arith);
      stack = labels_then p.stack d.stack p.fewer;
    }

module _ {g : Ground} {records labels : List ℕ} {i link count first depth : ℕ} {v : ActionAt g records labels i link count first depth} {text : List ℕ}
    (same : g.text ≡ text) {r l : List ℕ} {i' link' count' first' : ℕ} (b : Bared v r l i' link' count' first') {k : ℕ} (kind : k ≡ kind_byte r i') where
  abbrev pub block_behind : k ≡ kind_no BEGIN → BlockAt g text r l i' link' count' first' depth
  block_behind e = record { view = b.passed.now; same_text = same; is_block = heads b.passed.now kind 19 e }

  abbrev pub choice_behind : k ≡ kind_no DECODE → ChoiceAt g text r l i' link' count' first' depth
  choice_behind e = record { view = b.passed.now; same_text = same; is_choice = heads b.passed.now kind 23 e }

  abbrev pub leaf_behind : (k ≡ kind_no BEGIN → ⊥) → (k ≡ kind_no DECODE → ⊥) → LeafAt g text r l i' link' count' first' depth
  leaf_behind n m = record {
    view = b.passed.now;
    same_text = same;
    bare = b.bare;
    no_block = heads_not b.passed.now kind BEGIN n;
    no_choice = heads_not b.passed.now kind DECODE m;
  }
