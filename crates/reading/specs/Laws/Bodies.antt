-- Laws of the body of a declaration: its events and activations are those of its tree.
use Rattle.std.specs.Prelude.{ℕ, ◌<◌, ◌≡◌, Bool, false, drop, Option as Found, Some, None, true, is_some}
use Rattle.std.proofs.Math.Path.{refl, ap}
use Rattle.std.proofs.Common.{sym, ◌∙◌, subst, arith}
use Rattle.std.proofs.Math.Bool.{or-false}
use mathlib.Core.List.{List, []}
use Rattle.std.proofs.Math.Option.{Option, none, some}
use Rattle.cells.specs.Cells.{cell}
use Rattle.rules.specs.Grammar.Trees.{Action, action_tokens, Declaration, plain, main, words, with_bits, bare_body, carrier, given, body, mapped}
use Rattle.rules.specs.Declarations.{Word, declared_of, body_number}
use Rattle.rules.specs.Steps.Actions.{act_of}
use Rattle.rules.specs.Steps.Runs.{act_or}
use Rattle.rules.specs.Whole.Sets.{calls_in, any_name}
use Rattle.table.specs.Views.{View, BodyAt}
use Rattle.laws_orders.proofs.Orders.Tests.{impossible}
use Rattle.reading.specs.Reading.{Reading, table_of}
use Rattle.reading.specs.Meanings.{declares}
use Rattle.reading.specs.Laws.Meanings.{view}
use Rattle.reading.specs.Events.{Event, heard}
use Rattle.reading.specs.Laws.Events.{action_events}
use Rattle.reading.specs.Laws.Hearing.{heard_body}
use Rattle.reading.specs.Touches.{any_event}
use Rattle.reading.specs.Laws.Touches.{any_act, any_action, call_hit, act_calls}
use Rattle.reading.specs.Calls.{calls_of}
use Rattle.reading.specs.Laws.Calls.{any_call}
use Rattle.reading.specs.Bodies.{Block, Body, act_at}

body_block : (d : Declaration) (a : Action) → (declared_of d).body ≡ some a → Block a
body_block (plain n (words l f c t r b o)) a e = impossible (cc)
body_block (plain n (with_bits l o carrier)) a e = impossible (cc)
body_block (plain n (with_bits l o (given e (body g x m)))) a h = record { opens = g; first = x; others = m; is = cc }
body_block (plain n (with_bits l o (given e (mapped t x c r)))) a h = impossible (cc)
body_block (plain n (bare_body e g x m)) a h = record { opens = g; first = x; others = m; is = cc }
body_block (main i n o e g x m) a h = record { opens = g; first = x; others = m; is = cc }

module _ {records decls : List ℕ} {m n k p : ℕ} (b : Found ℕ) (l : k < m) (at : p ≡ cell 2 decls k)
    (is : (values : List ℕ) (w : View records values p) → BodyAt w.tokens b (declared_of w.declaration).body) where
  pub body_there : (v : Reading records decls m n) → Body v k b
  unfolding body_number
  body_there v = by b (declared_of (declares v k l).declaration).body refl
      (subst (λ (p : ℕ). (values : List ℕ) (w : View records values p) → BodyAt w.tokens b (declared_of w.declaration).body) at is v.values
      (view v k l))
    where
      number : body_number (table_of v) (some k) ≡ (declared_of (declares v k l).declaration).body
      number = rw ((declares v k l).found, body_number)

      by : (b : Found ℕ) (x : Option Action) → (declared_of (declares v k l).declaration).body ≡ x → BodyAt v.tokens b x → Body v k b
      by None none e z = record { missing = λ q. number ∙ e; past = λ q. impossible (cc); there = λ q. impossible (cc) }
      by (Some r) none e z = absurd z
      by None (some a) e z = absurd z
      by (Some r) (some a) e z = record {
        missing = λ q. impossible (cc);
        past = λ {s} q. let same : r ≡ s = cc in rw (sym same) z.0;
        there = λ {s} q. let same : r ≡ s = cc in (a, number ∙ e, body_block (declares v k l).declaration a e, (drop z.1.0 v.tokens, rw (sym same) z.1.1.reads));
      }

module _ {records decls : List ℕ} {m n k b : ℕ} {v : Reading records decls m n} (x : Body v k (Some b)) where
  -- the events of a body
  pub body_events : (a : Action) × (act_at (table_of v) k ≡ act_of a) × (heard 0 0 (drop b v.tokens) ≡ action_events a [])
  body_events =
      let y = x.there refl in
      let z = y.2 in (
        y.0,
        ap act_or y.1,
        ap (heard 0 0) y.3.1
            ∙ (ap (λ (c : Action). heard 0 0 (action_tokens c y.3.0)) z.is
            ∙ (heard_body z.opens z.first z.others y.3.0 ∙ ap (λ (c : Action). action_events c []) (sym z.is))),
      )

  pub any_of_body : (p : Event → Bool) → any_event p (heard 0 0 (drop b v.tokens)) ≡ any_act p (act_at (table_of v) k)
  unfolding any_event
  any_of_body p =
      let y = body_events in
      ap (any_event p) y.2 ∙ (any_action p y.0 [] ∙ (or-false (any_act p (act_of y.0)) ∙ ap (any_act p) (sym y.1)))

  -- what it activates
  pub body_calls : (p : Word → Bool) → any_name p (calls_of (heard 0 0 (drop b v.tokens))) ≡ any_name p (calls_in (act_at (table_of v) k))
  body_calls p = any_call p (heard 0 0 (drop b v.tokens)) ∙ (any_of_body (call_hit p) ∙ sym (act_calls p (act_at (table_of v) k)))

pub bodiless_calls : {records decls : List ℕ} {m n k : ℕ} {v : Reading records decls m n} → Body v k None → (p : Word → Bool)
    → any_name p (calls_in (act_at (table_of v) k)) ≡ false
unfolding any_name calls_in
bodiless_calls x p = ap (λ (o : Option Action). any_name p (calls_in (act_or o))) (x.missing refl)

-- whether a body is found
pub not_found : (b : Found ℕ) → is_some b ≡ false → b ≡ None
not_found None e = refl
not_found (Some s) e = impossible (cc)

pub found_at : (b : Found ℕ) → is_some b ≡ true → (s : ℕ) × (b ≡ Some s)
found_at None e = impossible (cc)
found_at (Some s) e = (s, refl)
