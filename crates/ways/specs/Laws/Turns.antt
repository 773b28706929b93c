-- Laws of what stands behind a separator of a DECODE, with or without selectors.
-- Assumes nothing.
use Rattle.std.specs.Prelude.{ℕ, ◌+◌, ◌*◌, ◌<◌, ◌≤◌, ◌≡◌, refl, Bool, true, false, List, ◌∷◌, length, drop}
use Rattle.std.proofs.Math.Path.{sym}
use Rattle.std.proofs.Common.{ap, ◌∙◌, arith, length-drop}
use Rattle.std.proofs.lemmas.Bool.{false≢true}
use Rattle.rules.specs.Text.Tokens.{kind_no, Info, Token, tk, Const, Masked, LBra, Comma, Becomes, END, OTHERWISE}
use Rattle.rules.specs.Text.Scan.{plain_info}
use Rattle.rules.specs.Grammar.Trees.{Tokens, exact, masked, one_of, any_of, selector_tokens, Action, block, labelled, if_then, decode, repeat, leave, restart, activate, stop, no_op, transfer, action_tokens, Alternatives, counted, selected, alternatives_tokens, counted_end, counted_more, Selected, select, otherwise, selected_tokens, selected_end, selected_more}
use Rattle.rules.specs.Whole.Sets.{member}
use Rattle.rules.specs.Declarations.{Word, Table}
use Rattle.laws_grammar.specs.Grammar.Positions.{selector_writes}
use Rattle.laws_grammar.specs.Cited.Heads.{head_kind}
use Rattle.laws_grammar.specs.Grammar.Heads.{head_info, behind_head, action_head}
use Rattle.laws_grammar.specs.Cited.Nesting.{action_nest, alternatives_nest, selected_nest}
use Rattle.laws_orders.specs.Cited.Flat.{Link, Labels}
use Rattle.laws_code.specs.Cited.Code.{first_of}
use Rattle.records.specs.Holds.{kind_byte}
use Rattle.table.specs.Laws.Positions.{here, kind_here}
use Rattle.table.specs.Scans.{no, separates, halts, stops, deeper, scan}
use Rattle.table.specs.Laws.Scans.{past_selector}
use Rattle.ways.specs.Laws.Ends.{end_sought, end_place}
use Rattle.ways.specs.Seeking.{Ground, Seeks, Starts}
use Rattle.ways.specs.Laws.Seeking.{found_at, found_within}
use Rattle.records.specs.Kept.{LinkPut, InsidePut}
use Rattle.records.specs.Laws.Kept.{kept_then}
use Rattle.ways.specs.Linked.{AlternativesLinked, SelectedLinked}
use Rattle.ways.specs.Turns.{Lead, More, Turn, chosen, selecting, other, last, no_lead, counting, turn_tokens, more_nest, TurnLinked, more_tokens, LaterLinked, selects, lead_tokens, lead_end, AlternativeAt, Behind-lead, Extends}

abbrev pub turn : Lead → Action → More → Turn
turn l a m = record { lead = l; action = a; more = m }

abbrev pub selected_turn : Selected → Turn
selected_turn (select s b a m) = turn (chosen s b) a (selecting m)
selected_turn (otherwise x b a e) = turn (other x b) a (last e)

abbrev pub turn_of : Alternatives → Turn
turn_of (counted a c) = turn no_lead a (counting c)
turn_of (selected s) = selected_turn s

selected_tokens_lem : (s : Selected) (ts : Tokens) → selected_tokens s ts ≡ turn_tokens (selected_turn s) ts
selected_tokens_lem (select s b a m) ts = refl
selected_tokens_lem (otherwise x b a e) ts = refl

pub turn_tokens_lem : (v : Alternatives) (ts : Tokens) → alternatives_tokens v ts ≡ turn_tokens (turn_of v) ts
turn_tokens_lem (counted a c) ts = refl
turn_tokens_lem (selected s) ts = selected_tokens_lem s ts

selected_nest_lem : (s : Selected) → (action_nest (selected_turn s).action ≤ selected_nest s) × (more_nest (selected_turn s).more ≤ selected_nest s)
selected_nest_lem (select s b a m) = (omega arith, omega arith)
selected_nest_lem (otherwise x b a e) = (omega arith, omega arith)

pub turn_nest : (v : Alternatives) → (action_nest (turn_of v).action ≤ alternatives_nest v) × (more_nest (turn_of v).more ≤ alternatives_nest v)
turn_nest (counted a c) = (omega arith, omega arith)
turn_nest (selected s) = selected_nest_lem s

module _ (records : List ℕ) (outermost : Word) (ds : Table) where
  selected_linked : (s : Selected) (ρ : Labels) (p : ℕ) (k : Link) → TurnLinked records outermost ds ρ p k (selected_turn s) → SelectedLinked records outermost ds ρ p k s
  selected_linked (select s b a m) ρ p k h = h
  selected_linked (otherwise x b a e) ρ p k h = (h.0, h.1)

  pub turn_linked : (v : Alternatives) (ρ : Labels) (p : ℕ) (k : Link) → TurnLinked records outermost ds ρ p k (turn_of v) → AlternativesLinked records outermost ds ρ p k v
  turn_linked (counted a c) ρ p k h = h
  turn_linked (selected s) ρ p k h = selected_linked s ρ p k h

-- behind the action: END, or `,` and another
pub record Another (m : More) : Type 0 where
  pub comma : Info
  pub next : Turn
  pub tokens : (ts : Tokens) → more_tokens m ts ≡ tk Comma comma ∷ turn_tokens next ts
  pub linked : (records : List ℕ) (outermost : Word) (ds : Table) (ρ : Labels) (p : ℕ) (k : Link) → TurnLinked records outermost ds ρ p k next
      → LaterLinked records outermost ds ρ p k m
  pub shallow : (action_nest next.action ≤ more_nest m) × (more_nest next.more ≤ more_nest m)

pub record NoMore (m : More) : Type 0 where
  pub end_info : Info
  pub tokens : (ts : Tokens) → more_tokens m ts ≡ tk END end_info ∷ ts
  pub linked : (records : List ℕ) (outermost : Word) (ds : Table) (ρ : Labels) (p : ℕ) (k : Link) → LaterLinked records outermost ds ρ p k m

pub data Behind (m : More) : Type 0 where
  another : Another m → Behind m
  no_more : NoMore m → Behind m

pub behind_of : (m : More) → Behind m
behind_of (counting (counted_end x)) = no_more (record { end_info = x; tokens = λ ts. refl; linked = λ r o d ρ p k. tt })
behind_of (counting (counted_more x a c)) =
    another (record { comma = x; next = turn no_lead a (counting c); tokens = λ ts. refl; linked = λ r o d ρ p k h. h; shallow = (omega arith, omega arith) })
behind_of (selecting (selected_end x)) = no_more (record { end_info = x; tokens = λ ts. refl; linked = λ r o d ρ p k. tt })
behind_of (selecting (selected_more x s)) =
    another (record {
      comma = x;
      next = selected_turn s;
      tokens = λ ts. ap (λ l. tk Comma x ∷ l) (selected_tokens_lem s ts);
      linked = λ r o d ρ p k h. selected_linked r o d s ρ p k h;
      shallow = selected_nest_lem s;
    })
behind_of (last e) = no_more (record { end_info = e; tokens = λ ts. refl; linked = λ r o d ρ p k. tt })

-- the token behind the action separates
pub record Parted (m : More) (ts : Tokens) : Type 0 where
  pub token : Token
  pub rest : Tokens
  pub is : more_tokens m ts ≡ token ∷ rest
  pub separating : separates (no token) ≡ true

pub parted : (m : More) (ts : Tokens) → Parted m ts
unfolding separates member
parted m ts = by (behind_of m)
  where
    by : Behind m → Parted m ts
    by (another a) = record { token = tk Comma a.comma; rest = turn_tokens a.next ts; is = a.tokens ts; separating = refl }
    by (no_more a) = record { token = tk END a.end_info; rest = ts; is = a.tokens ts; separating = refl }

abbrev led : Lead → Bool
led no_lead = false
led (chosen s b) = true
led (other x b) = true

pub action_kind : (a : Action) → selects (kind_no (head_kind a)) ≡ false
unfolding selects member
action_kind (block b a m) = refl
action_kind (labelled n b a) = refl
action_kind (if_then x o t w a) = refl
action_kind (decode x o t w b v) = refl
action_kind (repeat x a) = refl
action_kind (leave x n) = refl
action_kind (restart x n) = refl
action_kind (activate n l r) = refl
action_kind (stop x l r) = refl
action_kind (no_op x l r) = refl
action_kind (transfer n s b j e o t) = refl

record Opens (l : Lead) (a : Action) (ts : Tokens) : Type 0 where
  token : Token
  rest : Tokens
  is : lead_tokens l (action_tokens a ts) ≡ token ∷ rest
  selecting : selects (no token) ≡ led l

opens : (l : Lead) (a : Action) (ts : Tokens) → Opens l a ts
unfolding selects member
opens no_lead a ts = record { token = tk (head_kind a) (head_info a); rest = behind_head a ts; is = action_head a ts; selecting = action_kind a }
opens (chosen (one_of (exact i) r) b) a ts = record { token = tk Const i; rest = _; is = refl; selecting = refl }
opens (chosen (one_of (masked i) r) b) a ts = record { token = tk Masked i; rest = _; is = refl; selecting = refl }
opens (chosen (any_of x l r v) b) a ts = record { token = tk LBra x; rest = _; is = refl; selecting = refl }
opens (other x b) a ts = record { token = tk OTHERWISE x; rest = _; is = refl; selecting = refl }

-- the `:=` behind a selector
abbrev becomes_of : Lead → Info
becomes_of no_lead = plain_info 0
becomes_of (chosen s b) = b
becomes_of (other x b) = b

becomes_sought : (l : Lead) (ts : Tokens) → led l ≡ true → scan 12 0 (lead_tokens l ts) ≡ tk Becomes (becomes_of l) ∷ ts
unfolding scan halts stops deeper
becomes_sought no_lead ts e = absurd (false≢true e)
becomes_sought (chosen s b) ts e = past_selector s (tk Becomes b ∷ ts)
becomes_sought (other x b) ts e = refl

becomes_place : (l : Lead) (ts : Tokens) (p q : ℕ) (all : Tokens) → led l ≡ true → drop (p + 1) all ≡ lead_tokens l ts → drop q all ≡ tk Becomes (becomes_of l) ∷ ts
    → q + 1 ≡ lead_end p l
becomes_place no_lead ts p q all e r f = absurd (false≢true e)
becomes_place (chosen s b) ts p q all e r f = omega (arith, found_at (selector_tokens s) (selector_writes s) all (p + 1) q _ _ r f)
becomes_place (other x b) ts p q all e r f =
    omega (arith, ap length r, ap length f, length-drop (p + 1) all, length-drop q all)

no_lead_ends : (l : Lead) (ts : Tokens) (p : ℕ) → led l ≡ false → (p + 1 ≡ lead_end p l) × (lead_tokens l ts ≡ ts)
no_lead_ends no_lead ts p e = (omega arith, refl)
no_lead_ends (chosen s b) ts p e = absurd (false≢true (sym e))
no_lead_ends (other x b) ts p e = absurd (false≢true (sym e))

pub separator_within : {records : List ℕ} {p : ℕ} → (g : Ground) × AlternativeAt g records p → (8 * p + 8 ≤ length records) × (p < 8192)
separator_within (g, v) = let w = v.below in (omega (arith, v.holds.record_room), omega (arith, v.holds.few))

module _ {g : Ground} {records : List ℕ} {p : ℕ} (v : AlternativeAt g records p) where
  abbrev action_on : Tokens
  action_on = action_tokens v.turn.action (more_tokens v.turn.more v.rest)

  opened : Opens v.turn.lead v.turn.action (more_tokens v.turn.more v.rest)
  opened = opens v.turn.lead v.turn.action (more_tokens v.turn.more v.rest)

  pub opener_within : 8 * (p + 1) + 8 ≤ length records
  opener_within = let w = (here g.tokens (p + 1) _ _ (v.reads ∙ opened.is)).within in omega (arith, v.holds.record_room)

  module _ {k : ℕ} (kind : k ≡ kind_byte records (p + 1)) {r : Bool} (says : r ≡ selects k) where
    leads : r ≡ led v.turn.lead
    leads =
        let x = here g.tokens (p + 1) _ _ (v.reads ∙ opened.is) in
        says ∙ (ap selects (kind ∙ kind_here v.holds (p + 1) _ x.within x.token) ∙ opened.selecting)

    pub bare_action : r ≡ false → Behind-lead v (p + 1)
    bare_action e = let n = no_lead_ends v.turn.lead action_on p (sym leads ∙ e) in record { is = n.0; reads = v.reads ∙ n.1 }

    module _ (e : r ≡ true) where
      pub lead_sought : Seeks g records (p + 1) 12
      lead_sought = record {
        holds = v.holds;
        next = tk Becomes (becomes_of v.turn.lead);
        rest = action_on;
        finds = ap (scan 12 0) v.reads ∙ becomes_sought v.turn.lead action_on (sym leads ∙ e);
      }

      pub led_action : (q : ℕ) → drop q g.tokens ≡ lead_sought.next ∷ lead_sought.rest → Behind-lead v (q + 1)
      unfolding lead_sought
      led_action q f = record {
        is = becomes_place v.turn.lead action_on p q g.tokens (sym leads ∙ e) v.reads f;
        reads = (here g.tokens q _ _ f).behind;
      }

  -- the separator's links
  module _ {from : ℕ} (b : Behind-lead v from) where
    abbrev part : Parted v.turn.more v.rest
    part = parted v.turn.more v.rest

    action_reads : drop from g.tokens ≡ action_tokens v.turn.action (part.token ∷ part.rest)
    action_reads = b.reads ∙ ap (action_tokens v.turn.action) part.is

    pub turn_end : Seeks g records from 0
    turn_end = end_sought g v.holds from v.turn.action part.token part.rest action_reads part.separating

    abbrev pub turn_begins : Starts g records from
    turn_begins = record { holds = v.holds; action = v.turn.action; rest = more_tokens v.turn.more v.rest; reads = b.reads }

    module _ (end : ℕ) (found : drop end g.tokens ≡ turn_end.next ∷ turn_end.rest) where
      pub turn_end_within : end < 8192
      turn_end_within = found_within g turn_end end found

      pub extends : {first : ℕ} {mid now : List ℕ} → first ≡ first_of from turn_begins.action → InsidePut records mid p first → LinkPut mid now p end
          → Extends v now from end first
      unfolding turn_end
      extends e x y = record {
        kept = kept_then p (p + 1) x.kept y.kept (omega arith) (omega arith) (omega arith) (omega arith);
        from_is = b.is;
        end_is = end_place g v.holds from v.turn.action part.token part.rest action_reads part.separating end found;
        first_is = e;
        reads_action = b.reads;
        reads_end = found ∙ sym part.is;
        inside_is = y.inside ∙ (x.inside ∙ e);
        link_is = y.link;
      }
