-- The first of alternatives with selectors: its selector up to `:=`, its action, and what stands behind it.
-- Assumes nothing.
use Rattle.std.specs.Prelude.{ℕ, ◌≤◌, ◌≡◌, refl, List, [], ◌∷◌, ◌++◌, drop}
use Rattle.std.proofs.Common.{ap, ◌∙◌, arith}
use Rattle.rules.specs.Text.Tokens.{Comma, Becomes, END, Info, Token, tk, kind_no}
use Rattle.rules.specs.Grammar.Trees.{Tokens, Literal, exact, masked, literal_tokens, Range, single, to, range_tokens, Items, close, item, items_tokens, Selector, one_of, any_of, selector_tokens}
use Rattle.rules.specs.Grammar.Trees.{Action, action_tokens, Selected, select, otherwise, selected_tokens, SelectedMore, selected_end, selected_more, selected_more_tokens}
use Rattle.rules.specs.Selectors.{literal_info, selector_items}
use Rattle.rules.specs.Faults.Bodies.{selector_place}
use Rattle.laws_grammar.specs.Cited.Nesting.{action_nest, selected_nest}
use Rattle.laws_grammar.specs.Grammar.Positions.{selector_writes}
use Rattle.patterns.specs.Stands.{ItemsAt}
use Rattle.selectors.specs.Laws.Trees.{selector_at, otherwise_at}
use Rattle.plain.specs.Actions.{EndsAction, by_end, by_comma}
use Rattle.choices.specs.Choices.{NoBecomes}
use Rattle.actions.specs.Laws.Choices.{Choice, choice, choices_of, more_choices}

-- no `:=` stands in a selector
literal_none : (l : Literal) (ts : Tokens) → NoBecomes ts → NoBecomes (literal_tokens l ts)
literal_none (exact i) ts n = (λ e. omega (arith, ap kind_no e), n)
literal_none (masked i) ts n = (λ e. omega (arith, ap kind_no e), n)

range_none : (r : Range) (ts : Tokens) → NoBecomes ts → NoBecomes (range_tokens r ts)
range_none single ts n = n
range_none (to c l) ts n = (λ e. omega (arith, ap kind_no e), literal_none l ts n)

items_none : (is : Items) → NoBecomes (items_tokens is [])
items_none (close r) = (λ e. omega (arith, ap kind_no e), tt)
items_none (item c l r is) = (λ e. omega (arith, ap kind_no e), literal_none l _ (range_none r _ (items_none is)))

selector_none : (s : Selector) → NoBecomes (selector_tokens s [])
selector_none (one_of l r) = literal_none l _ (range_none r [] tt)
selector_none (any_of b l r is) = (λ e. omega (arith, ap kind_no e), literal_none l _ (range_none r _ (items_none is)))

-- behind an alternative: END, or `,` and others
pub data Tail (rest : Tokens) (n : ℕ) (t : Token) (ts : Tokens) (cs : List Choice) : Type 0 where
  no_tail : (e : Info) → t ≡ tk END e → ts ≡ rest → cs ≡ [] → Tail rest n t ts cs
  a_tail : (c : Info) (s : Selected) → t ≡ tk Comma c → ts ≡ selected_tokens s rest → cs ≡ choices_of s → selected_nest s ≤ n → Tail rest n t ts cs

pub tail_ends : {rest : Tokens} {n : ℕ} {t : Token} {ts : Tokens} {cs : List Choice} → Tail rest n t ts cs → EndsAction t.kind
tail_ends (no_tail e q _ _) = rw q by_end
tail_ends (a_tail c s q _ _ _) = rw q by_comma

-- where a selector begins
pub record Begins (p : ℕ) (ts : Tokens) : Type 0 where
  pub token : Token
  pub tokens : Tokens
  pub is : ts ≡ token ∷ tokens
  pub place : token.info.place ≡ p

literal_begins : (l : Literal) (ts : Tokens) → Begins (literal_info l).place (literal_tokens l ts)
literal_begins (exact i) ts = record { token = _; tokens = ts; is = refl; place = refl }
literal_begins (masked i) ts = record { token = _; tokens = ts; is = refl; place = refl }

selector_begins : (s : Selector) (ts : Tokens) → Begins (selector_place s) (selector_tokens s ts)
selector_begins (one_of l r) ts = literal_begins l (range_tokens r ts)
selector_begins (any_of b l r is) ts = record { token = _; tokens = _; is = refl; place = refl }

pub record Front (s : Selected) (rest : Tokens) : Type 0 where
  pub first : Choice
  pub more : List Choice
  pub choices : choices_of s ≡ first ∷ more
  pub begins : Begins first.place (selected_tokens s rest)
  pub items : (ts : Tokens) (p : ℕ) → drop p ts ≡ selected_tokens s rest → ItemsAt ts p first.items
  pub selector : Tokens
  pub becomes : Info
  pub next : Token
  pub tokens : Tokens
  pub reads : selected_tokens s rest ≡ selector ++ (tk Becomes becomes ∷ action_tokens first.action (next ∷ tokens))
  pub none : NoBecomes selector
  pub shallow : action_nest first.action ≤ selected_nest s
  pub tail : Tail rest (selected_nest s) next tokens more

-- a selector and its action, with what stands behind it
select_front : (x : Selector) (b : Info) (a : Action) (m : SelectedMore) (rest : Tokens) (t : Token) (ts : Tokens) → selected_more_tokens m rest ≡ t ∷ ts
    → Tail rest (selected_nest (select x b a m)) t ts (more_choices m) → Front (select x b a m) rest
unfolding choices_of
select_front x b a m rest t ts e d = record {
  first = choice (selector_items x) (selector_place x) a;
  more = more_choices m;
  choices = refl;
  begins = selector_begins x (tk Becomes b ∷ action_tokens a (selected_more_tokens m rest));
  items = λ us p r. selector_at us p x b (action_tokens a (selected_more_tokens m rest)) r;
  selector = selector_tokens x [];
  becomes = b;
  next = t;
  tokens = ts;
  reads =
      (selector_writes x).grows [] (tk Becomes b ∷ action_tokens a (selected_more_tokens m rest))
      ∙ ap (λ us. selector_tokens x [] ++ (tk Becomes b ∷ action_tokens a us)) e;
  none = selector_none x;
  shallow = omega arith;
  tail = d;
}

pub front : (s : Selected) (rest : Tokens) → Front s rest
unfolding choices_of
front (select x b a (selected_end e)) rest = select_front x b a (selected_end e) rest (tk END e) rest refl (no_tail e refl refl refl)
front (select x b a (selected_more c s)) rest = select_front x b a (selected_more c s) rest (tk Comma c) (selected_tokens s rest) refl (a_tail c s refl refl refl (omega arith))
front (otherwise i b a e) rest = record {
  first = choice [] i.place a;
  more = [];
  choices = refl;
  begins = record { token = _; tokens = _; is = refl; place = refl };
  items = λ us p r. otherwise_at us p i _ r;
  selector = _ ∷ [];
  becomes = b;
  next = tk END e;
  tokens = rest;
  reads = refl;
  none = ((λ z. omega (arith, ap kind_no z)), tt);
  shallow = omega arith;
  tail = no_tail e refl refl refl;
}
