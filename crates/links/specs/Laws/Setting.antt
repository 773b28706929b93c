-- Laws of what an action has around it, and that it stays while links are written.
-- Assumes nothing.
use Rattle.std.specs.Prelude.{ℕ, ◌<◌, ◌≤◌, ◌≡◌, true, List, ◌∷◌, drop}
use Rattle.std.proofs.Common.{arith}
use Rattle.rules.specs.Text.Tokens.{Token}
use Rattle.rules.specs.Grammar.Trees.{Tokens, Action, action_tokens}
use Rattle.laws_grammar.specs.Cited.Nesting.{action_nest}
use Rattle.laws_orders.specs.Cited.Flat.{Link}
use Rattle.laws_code.specs.Cited.Code.{first_of}
use Rattle.promise.specs.Instructions.{link_no}
use Rattle.table.specs.Scans.{no, separates}
use Rattle.ways.specs.Seeking.{Ground}
use Rattle.records.specs.Kept.{Kept}
use Rattle.records.specs.Laws.Kept.{holds_kept}
use Rattle.ways.specs.Stack.{LabelsKept}
use Rattle.ways.specs.Laws.Stack.{labels_kept}
use Rattle.ways.specs.Standing.{ActionAt}
use Rattle.ways.specs.Laws.Standing.{meant_kept, meant_later}
use Rattle.links.specs.Setting.{Setting}

-- further on, with some links and labels written
abbrev pub moved : {g : Ground} {records labels : List ℕ} {at link count : ℕ} → Setting g records labels at link count
    → {records' labels' : List ℕ} {x y : ℕ} (to : ℕ)
    → Kept records records' x y → y ≤ to → at ≤ to → LabelsKept labels labels' count → Setting g records' labels' to link count
moved {g} {records} {labels} {at} {link} {count} s to k h l q = record {
  holds = holds_kept k s.holds;
  around = s.around;
  held = labels_kept q g s.around count (omega arith) s.held;
  room = omega (arith, s.room, q.long);
  few = omega (arith, s.few);
  behind = s.behind;
  link_is = s.link_is;
  link_fits = s.link_fits;
  means = meant_kept g to k h (meant_later g records at to l s.means);
}

-- with another link behind it
abbrev pub leading : {g : Ground} {records labels : List ℕ} {at link count : ℕ} → Setting g records labels at link count → (k : Link) {to : ℕ} → to ≡ link_no k
    → to < 65536
    → Setting g records labels at to count
leading s k e f = record {
  holds = s.holds;
  around = s.around;
  held = s.held;
  room = s.room;
  few = s.few;
  behind = k;
  link_is = e;
  link_fits = f;
  means = s.means;
}

-- an action that stands in it
abbrev pub standing : {g : Ground} {records labels : List ℕ} {at link count : ℕ} → Setting g records labels at link count
    → {first depth : ℕ} (a : Action) (next : Token) (rest : Tokens)
    → drop at g.tokens ≡ action_tokens a (next ∷ rest) → separates (no next) ≡ true → first ≡ first_of at a → action_nest a ≤ depth
    → ActionAt g records labels at link count first depth
standing s a next rest reads ends begins shallow = record {
  holds = s.holds;
  around = s.around;
  held = s.held;
  room = s.room;
  few = s.few;
  behind = s.behind;
  link_is = s.link_is;
  link_fits = s.link_fits;
  action = a;
  next = next;
  rest = rest;
  reads = reads;
  ends = ends;
  begins = begins;
  means = s.means;
  shallow = shallow;
}

abbrev pub setting_of : {g : Ground} {records labels : List ℕ} {at link count first depth : ℕ} → ActionAt g records labels at link count first depth
    → Setting g records labels at link count
setting_of v = record {
  holds = v.holds;
  around = v.around;
  held = v.held;
  room = v.room;
  few = v.few;
  behind = v.behind;
  link_is = v.link_is;
  link_fits = v.link_fits;
  means = v.means;
}
