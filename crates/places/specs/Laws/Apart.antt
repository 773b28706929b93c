-- No name stands directly behind a constant with `?`, so that the cell behind such a constant can keep its free bits.
-- Assumes nothing.
use Rattle.std.specs.Prelude.{ℕ, zero, suc, ◌+◌, ◌<◌, ◌≡◌, refl, true, false, [], ◌∷◌, length}
use Rattle.std.proofs.Common.{sym, ap, ◌∙◌, arith, add-one}
use Rattle.std.proofs.lemmas.Bool.{false≢true}
use Rattle.rules.specs.Text.Tokens.{Kind, tk, same, Name, Masked, Becomes}
use Rattle.rules.specs.Grammar.Trees.{Tokens, Action, block, labelled, if_then, decode, repeat, leave, restart, activate, stop, no_op, transfer, action_tokens, Members, end, also, next, members_tokens, Alternatives, counted, selected, alternatives_tokens, Counted, counted_end, counted_more, counted_tokens, Selected, select, otherwise, selected_tokens, SelectedMore, selected_end, selected_more, selected_more_tokens, Meaning, body, mapped, meaning_tokens, Given, carrier, given, given_tokens, Form, words, with_bits, bare_body, form_tokens, Declaration, plain, main, declaration_tokens, Heading, no_heading, heading, heading_tokens, Declarations, declared_all, declared_also, declarations_tokens, Description, description, flatten}
use Rattle.trees.specs.Written.{nothing, token, then, level}
use Rattle.trees.specs.Expressions.{Expressed, expression_equal, bits_end_written, access_written, joined_written, expression_written, own_bits_written, main_bits_written}
use Rattle.trees.specs.Selectors.{Chosen, choosing_equal, selector_written}
use Rattle.records.specs.Holds.{token_at}

abbrev Nameless : Tokens → Type 0
Nameless [] = Unit {0}
Nameless (t ∷ ts) = t.kind ≡ Name → ⊥

abbrev Apart : Tokens → Type 0
Apart [] = Unit {0}
Apart (t ∷ ts) = (t.kind ≡ Masked → Nameless ts) × Apart ts

-- a kind that is another
other : {A : Type 0} {k : Kind} (c : Kind) → same k c ≡ false → same c c ≡ true → k ≡ c → A
other c n y e = absurd (false≢true (sym n ∙ ap (λ x. same x c) e ∙ y))

-- one token more that is no constant with `?`
on : {A B : Type 0} {k : Kind} → same k Masked ≡ false → B → (k ≡ Masked → A) × B
on n b = (other Masked n refl, b)

expressed : {m n : ℕ} {f : Tokens → Tokens} → Expressed level level level m f n → (ts : Tokens) → Apart ts → Apart (f ts)
expressed nothing ts h = h
expressed (token s i w) ts h = on (expression_equal (λ k. same k Masked) (λ k. false) refl s) (expressed w ts h)

-- the tokens of a selector are no names, and none stands behind them
chosen : {m n : ℕ} {f : Tokens → Tokens} → Chosen level m f n → (ts : Tokens) → Nameless ts → Apart ts → Nameless (f ts) × Apart (f ts)
chosen nothing ts n h = (n, h)
chosen (token s i w) ts n h =
    let b = chosen w ts n h in (other Name (choosing_equal (λ k. same k Name) (λ k. false) refl refl s) refl, ((λ e. b.0), b.1))

mutual
  action_apart : (a : Action) (ts : Tokens) → Apart ts → Apart (action_tokens a ts)
  action_apart (block b a m) ts h = on refl (action_apart a _ (members_apart m ts h))
  action_apart (labelled n b a) ts h = on refl (on refl (action_apart a ts h))
  action_apart (if_then i o t w a) ts h = on refl (expressed (expression_written o t 0) _ (on refl (action_apart a ts h)))
  action_apart (decode i o t w b v) ts h =
      on refl (expressed (expression_written o t 0) _ (on refl (on refl (alternatives_apart v ts h))))
  action_apart (repeat i a) ts h = on refl (action_apart a ts h)
  action_apart (leave i n) ts h = on refl (on refl h)
  action_apart (restart i n) ts h = on refl (on refl h)
  action_apart (activate n l r) ts h = on refl (on refl (on refl h))
  action_apart (stop i l r) ts h = on refl (on refl (on refl h))
  action_apart (no_op i l r) ts h = on refl (on refl (on refl h))
  action_apart (transfer n s b j q o t) ts h =
      on refl (expressed (then (access_written s b 0) (joined_written j 0)) _ (on refl (expressed (expression_written o t 0) ts h)))

  members_apart : (m : Members) (ts : Tokens) → Apart ts → Apart (members_tokens m ts)
  members_apart (end i) ts h = on refl h
  members_apart (also i a m) ts h = on refl (action_apart a _ (members_apart m ts h))
  members_apart (next i a m) ts h = on refl (action_apart a _ (members_apart m ts h))

  alternatives_apart : (v : Alternatives) (ts : Tokens) → Apart ts → Apart (alternatives_tokens v ts)
  alternatives_apart (counted a c) ts h = action_apart a _ (counted_apart c ts h)
  alternatives_apart (selected s) ts h = selected_apart s ts h

  counted_apart : (c : Counted) (ts : Tokens) → Apart ts → Apart (counted_tokens c ts)
  counted_apart (counted_end i) ts h = on refl h
  counted_apart (counted_more i a c) ts h = on refl (action_apart a _ (counted_apart c ts h))

  selected_apart : (s : Selected) (ts : Tokens) → Apart ts → Apart (selected_tokens s ts)
  selected_apart (select s b a m) ts h =
      (chosen (selector_written s 0) (tk Becomes b ∷ action_tokens a (selected_more_tokens m ts)) (other Name refl refl) (on refl (action_apart a _ (more_apart m ts h)))).1
  selected_apart (otherwise i b a q) ts h = on refl (on refl (action_apart a _ (on refl h)))

  more_apart : (m : SelectedMore) (ts : Tokens) → Apart ts → Apart (selected_more_tokens m ts)
  more_apart (selected_end i) ts h = on refl h
  more_apart (selected_more i s) ts h = on refl (selected_apart s ts h)

meaning_apart : (m : Meaning) (ts : Tokens) → Apart ts → Apart (meaning_tokens m ts)
meaning_apart (body b a m) ts h = on refl (action_apart a _ (members_apart m ts h))
meaning_apart (mapped n l c e) ts h = on refl (on refl (on refl (expressed (bits_end_written e 0) ts h)))

given_apart : (g : Given) (ts : Tokens) → Apart ts → Apart (given_tokens g ts)
given_apart carrier ts h = h
given_apart (given b m) ts h = on refl (meaning_apart m ts h)

form_apart : (f : Form) (ts : Tokens) → Apart ts → Apart (form_tokens f ts)
form_apart (words l m c n r b o) ts h =
    on refl (on refl (on refl (on refl (on refl (on refl (expressed (own_bits_written o 0) ts h))))))
form_apart (with_bits l o g) ts h = on refl (expressed (own_bits_written o 0) _ (given_apart g ts h))
form_apart (bare_body q b a m) ts h = on refl (on refl (action_apart a _ (members_apart m ts h)))

declaration_apart : (d : Declaration) (ts : Tokens) → Apart ts → Apart (declaration_tokens d ts)
declaration_apart (plain n f) ts h = on refl (form_apart f ts h)
declaration_apart (main i n o q b a m) ts h =
    on refl (on refl (expressed (main_bits_written o 0) _ (on refl (on refl (action_apart a _ (members_apart m ts h))))))

heading_apart : (g : Heading) (ts : Tokens) → Apart ts → Apart (heading_tokens g ts)
heading_apart no_heading ts h = h
heading_apart (heading l n r) ts h = on refl (on refl (on refl h))

declarations_apart : (ds : Declarations) (ts : Tokens) → Apart ts → Apart (declarations_tokens ds ts)
declarations_apart (declared_all q) ts h = on refl h
declarations_apart (declared_also c g d ds) ts h = on refl (heading_apart g _ (declaration_apart d _ (declarations_apart ds ts h)))

description_apart : (d : Description) → Apart (flatten d)
description_apart (description n q b g d ds) =
    on refl (on refl (on refl (heading_apart g _ (declaration_apart d _ (declarations_apart ds [] tt)))))

apart_at : (ts : Tokens) (j : ℕ) → Apart ts → suc j < length ts → (token_at ts j).kind ≡ Masked → (token_at ts (suc j)).kind ≡ Name → ⊥
apart_at [] j h l e f = omega arith
apart_at (t ∷ []) zero h l e f = omega arith
apart_at (t ∷ u ∷ ts) zero h l e f = h.0 e f
apart_at (t ∷ ts) (suc j) h l e f = apart_at ts j h.1 (omega arith) e f

pub masked_apart : (d : Description) (ts : Tokens) → flatten d ≡ ts → (j : ℕ) → j + 1 < length ts → (token_at ts j).kind ≡ Masked → (token_at ts (j + 1)).kind ≡ Name → ⊥
masked_apart d ts q j l e f = apart_at ts j (rw (← q) (description_apart d)) (omega arith) e (rw add-one at f)
