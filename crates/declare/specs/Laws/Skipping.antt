-- Laws of skipping: what is left from the end of a declaration on, and that the trees come out so.
-- Assumes nothing.
use Rattle.std.specs.Prelude.{ℕ, suc, ◌≡◌, refl, true, false, [], ◌∷◌}
use Rattle.std.proofs.Common.{◌∙◌}
use Rattle.rules.specs.Text.Tokens.{tk, END, Arrow, Equals, BEGIN, Becomes}
use Rattle.rules.specs.Grammar.Trees.{Tokens, operand_tokens, tail_tokens, Action, block, labelled, if_then, decode, repeat, leave, restart, activate, stop, no_op, transfer, action_tokens, Members, end, also, next, members_tokens, Alternatives, counted, selected, alternatives_tokens, Counted, counted_end, counted_more, counted_tokens, Selected, select, otherwise, selected_tokens, SelectedMore, selected_end, selected_more, selected_more_tokens, body, mapped, Given, carrier, given, given_tokens, words, with_bits, bare_body, Declaration, plain, main, Declarations, declared_all, declared_also, declarations_tokens}
use Rattle.rules.specs.Grammar.Verdict.{opens, closes, counted_by, count}
use Rattle.trees.specs.Written.{then, level}
use Rattle.trees.specs.Expressions.{Expressed, passes, bits_end_written, access_written, joined_written, expression_written, own_bits_written, main_bits_written}
use Rattle.trees.specs.Selectors.{Chosen, chosen_passes, selector_written}
use Rattle.table.specs.Declarations.{name_tokens}
use Rattle.declare.specs.Skipping.{ends}

-- what is left behind a declaration, of whose tokens these are the last, d brackets being open
unfoldable pub behind_it : ℕ → Tokens → Tokens
behind_it d [] = []
behind_it d (t ∷ ts) = elim (ends d t.kind) [ true ↦ t ∷ ts | false ↦ behind_it (count d t.kind) ts ]

-- what no bracket of its own leaves open is passed
expressed : {m n : ℕ} {f : Tokens → Tokens} → Expressed level suc suc m f n → (ts : Tokens) → behind_it m (f ts) ≡ behind_it n ts
unfolding behind_it ends count counted_by opens closes
expressed = passes behind_it level suc suc refl

chosen : {m n : ℕ} {f : Tokens → Tokens} → Chosen suc m f n → (ts : Tokens) → behind_it m (f ts) ≡ behind_it n ts
unfolding behind_it ends count counted_by opens closes
chosen = chosen_passes behind_it suc refl

mutual
  unfolding behind_it ends count counted_by opens closes

  action_passed : (a : Action) (d : ℕ) (ts : Tokens) → behind_it d (action_tokens a ts) ≡ behind_it d ts
  action_passed (block b a m) d ts = action_passed a (suc d) (members_tokens m ts) ∙ members_shut m d ts
  action_passed (labelled n b a) d ts = action_passed a d ts
  action_passed (if_then i o t w a) d ts = expressed (expression_written o t d) (tk Arrow w ∷ action_tokens a ts) ∙ action_passed a d ts
  action_passed (decode i o t w b v) d ts = expressed (expression_written o t d) (tk Arrow w ∷ tk BEGIN b ∷ alternatives_tokens v ts) ∙ alternatives_shut v d ts
  action_passed (repeat i a) d ts = action_passed a d ts
  action_passed (leave i n) d ts = refl
  action_passed (restart i n) d ts = refl
  action_passed (activate n l r) d ts = refl
  action_passed (stop i l r) d ts = refl
  action_passed (no_op i l r) d ts = refl
  action_passed (transfer n s b j e o t) d ts =
      expressed (then (access_written s b d) (joined_written j d)) (tk Equals e ∷ operand_tokens o (tail_tokens t ts))
      ∙ expressed (expression_written o t d) ts

  members_shut : (m : Members) (d : ℕ) (ts : Tokens) → behind_it (suc d) (members_tokens m ts) ≡ behind_it d ts
  members_shut (end i) d ts = refl
  members_shut (also i a m) d ts = action_passed a (suc d) (members_tokens m ts) ∙ members_shut m d ts
  members_shut (next i a m) d ts = action_passed a (suc d) (members_tokens m ts) ∙ members_shut m d ts

  alternatives_shut : (v : Alternatives) (d : ℕ) (ts : Tokens) → behind_it (suc d) (alternatives_tokens v ts) ≡ behind_it d ts
  alternatives_shut (counted a c) d ts = action_passed a (suc d) (counted_tokens c ts) ∙ counted_shut c d ts
  alternatives_shut (selected s) d ts = selected_shut s d ts

  counted_shut : (v : Counted) (d : ℕ) (ts : Tokens) → behind_it (suc d) (counted_tokens v ts) ≡ behind_it d ts
  counted_shut (counted_end i) d ts = refl
  counted_shut (counted_more i a c) d ts = action_passed a (suc d) (counted_tokens c ts) ∙ counted_shut c d ts

  selected_shut : (v : Selected) (d : ℕ) (ts : Tokens) → behind_it (suc d) (selected_tokens v ts) ≡ behind_it d ts
  selected_shut (select s b a m) d ts =
      chosen (selector_written s (suc d)) (tk Becomes b ∷ action_tokens a (selected_more_tokens m ts))
      ∙ action_passed a (suc d) (selected_more_tokens m ts)
      ∙ selected_more_shut m d ts
  selected_shut (otherwise i b a e) d ts = action_passed a (suc d) (tk END e ∷ ts)

  selected_more_shut : (v : SelectedMore) (d : ℕ) (ts : Tokens) → behind_it (suc d) (selected_more_tokens v ts) ≡ behind_it d ts
  selected_more_shut (selected_end i) d ts = refl
  selected_more_shut (selected_more i s) d ts = selected_shut s d ts

body_passed : (a : Action) (m : Members) (d : ℕ) (ts : Tokens) → behind_it (suc d) (action_tokens a (members_tokens m ts)) ≡ behind_it d ts
body_passed a m d ts = action_passed a (suc d) (members_tokens m ts) ∙ members_shut m d ts

given_passed : (g : Given) (d : ℕ) (ts : Tokens) → behind_it d (given_tokens g ts) ≡ behind_it d ts
unfolding behind_it ends count counted_by opens closes
given_passed carrier d ts = refl
given_passed (given e (body b a m)) d ts = body_passed a m d ts
given_passed (given e (mapped n l c r)) d ts = expressed (bits_end_written r d) ts

name_passed : (x : Declaration) (d : ℕ) (ts : Tokens) → behind_it d (name_tokens x ts) ≡ behind_it d ts
unfolding behind_it ends count counted_by opens closes
name_passed (plain n (words l f c t r b o)) d ts = expressed (own_bits_written o d) ts
name_passed (plain n (with_bits l o g)) d ts = expressed (own_bits_written o d) (given_tokens g ts) ∙ given_passed g d ts
name_passed (plain n (bare_body e b a m)) d ts = body_passed a m d ts
name_passed (main k n o e b a m) d ts = expressed (main_bits_written o d) (tk Becomes e ∷ tk BEGIN b ∷ action_tokens a (members_tokens m ts)) ∙ body_passed a m d ts

following_stops : (ds : Declarations) (ts : Tokens) → behind_it 0 (declarations_tokens ds ts) ≡ declarations_tokens ds ts
unfolding behind_it ends closes
following_stops (declared_all e) ts = refl
following_stops (declared_also c h d ds) ts = refl

-- behind a declaration from its name on stand the others
pub others_behind : (x : Declaration) (ds : Declarations) (ts : Tokens) → behind_it 0 (name_tokens x (declarations_tokens ds ts)) ≡ declarations_tokens ds ts
others_behind x ds ts = name_passed x 0 (declarations_tokens ds ts) ∙ following_stops ds ts
