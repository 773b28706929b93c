-- Trees write their tokens and nothing else, so they stand at positions of a token list.
use Rattle.std.specs.Prelude.{◌≡◌, refl, ◌∷◌, ◌++◌, ℕ, ◌+◌}
use Rattle.std.proofs.Common.{ap, ◌∙◌}
use Rattle.rules.specs.Text.Tokens.{Kind, Info, tk, Name, Const, LPar, RPar, LBra, RBra, Less, Comma, Semi, Colon, Becomes, Equals, Arrow, Stars, BEGIN, END, NEXT, IF, DECODE, OTHERWISE, REPEAT, LEAVE, RESTART, MAIN, STOP, NO-OP}
use Rattle.rules.specs.Grammar.Trees.{Tokens, Bits, bits_tokens, Operand, operand_tokens, Tail, tail_tokens, Subscript, subscript_tokens, Joined, joined_tokens, Selector, selector_tokens, Action, block, labelled, if_then, decode, repeat, leave, restart, activate, stop, no_op, transfer, action_tokens, Members, end, also, next, members_tokens, Alternatives, counted, selected, alternatives_tokens, Counted, counted_end, counted_more, counted_tokens, Selected, select, otherwise, selected_tokens, SelectedMore, selected_end, selected_more, selected_more_tokens, OwnBits, own_bits_tokens, Meaning, body, mapped, meaning_tokens, Given, carrier, given, given_tokens, Form, words, with_bits, bare_body, form_tokens, MainBits, main_bits_tokens, Declaration, plain, main, declaration_tokens, Heading, no_heading, heading, heading_tokens}
use Rattle.trees.specs.Written.{level, nothing as empty, token as step}
use Rattle.trees.specs.Expressions.{Expressed, bits_end_written, bits_written, operand_written, tail_written, subscript_written, joined_written, own_bits_written, main_bits_written}
use Rattle.trees.specs.Selectors.{Chosen, selector_written}

-- what follows stands untouched behind what f writes
pub record Writes (f : Tokens → Tokens) : Type 0 where
  pub grows : (xs ys : Tokens) → f (xs ++ ys) ≡ f xs ++ ys

then : {f g : Tokens → Tokens} → Writes f → Writes g → Writes (λ ts. f (g ts))
then {f} {g} p q = record { grows = λ xs ys. ap f (q.grows xs ys) ∙ p.grows (g xs) ys }

token : (k : Kind) (i : Info) {g : Tokens → Tokens} → Writes g → Writes (λ ts. tk k i ∷ g ts)
token k i q = record { grows = λ xs ys. ap (λ (l : Tokens). tk k i ∷ l) (q.grows xs ys) }

nothing : Writes (λ ts. ts)
nothing = record { grows = λ xs ys. refl }

-- what trees writes token by token
expressed : {m n : ℕ} {f : Tokens → Tokens} → Expressed level level level m f n → Writes f
expressed empty = nothing
expressed (step {k = k} s i w) = token k i (expressed w)

chosen : {m n : ℕ} {f : Tokens → Tokens} → Chosen level m f n → Writes f
chosen empty = nothing
chosen (step {k = k} s i w) = token k i (chosen w)

pub bits_writes : (b : Bits) → Writes (bits_tokens b)
bits_writes b = expressed (bits_written b 0)

pub operand_writes : (o : Operand) → Writes (operand_tokens o)
operand_writes o = expressed (operand_written o 0)

pub tail_writes : (t : Tail) → Writes (tail_tokens t)
tail_writes t = expressed (tail_written t 0)

pub subscript_writes : (s : Subscript) → Writes (subscript_tokens s)
subscript_writes s = expressed (subscript_written s 0)

pub joined_writes : (j : Joined) → Writes (joined_tokens j)
joined_writes j = expressed (joined_written j 0)

pub selector_writes : (s : Selector) → Writes (selector_tokens s)
selector_writes s = chosen (selector_written s 0)

mutual
  pub action_writes : (a : Action) → Writes (action_tokens a)
  action_writes (block b a m) = token BEGIN b (then (action_writes a) (members_writes m))
  action_writes (labelled n b a) = token Name n (token Becomes b (action_writes a))
  action_writes (if_then i o t w a) = token IF i (then (operand_writes o) (then (tail_writes t) (token Arrow w (action_writes a))))
  action_writes (decode i o t w b v) =
      token DECODE i (then (operand_writes o) (then (tail_writes t) (token Arrow w (token BEGIN b (alternatives_writes v)))))
  action_writes (repeat i a) = token REPEAT i (action_writes a)
  action_writes (leave i n) = token LEAVE i (token Name n nothing)
  action_writes (restart i n) = token RESTART i (token Name n nothing)
  action_writes (activate n l r) = token Name n (token LPar l (token RPar r nothing))
  action_writes (stop i l r) = token STOP i (token LPar l (token RPar r nothing))
  action_writes (no_op i l r) = token NO-OP i (token LPar l (token RPar r nothing))
  action_writes (transfer n s b j e o t) =
      token Name n (then (subscript_writes s) (then (bits_writes b) (then (joined_writes j) (token Equals e (then (operand_writes o) (tail_writes t))))))

  pub members_writes : (m : Members) → Writes (members_tokens m)
  members_writes (end i) = token END i nothing
  members_writes (also i a m) = token Semi i (then (action_writes a) (members_writes m))
  members_writes (next i a m) = token NEXT i (then (action_writes a) (members_writes m))

  pub alternatives_writes : (v : Alternatives) → Writes (alternatives_tokens v)
  alternatives_writes (counted a c) = then (action_writes a) (counted_writes c)
  alternatives_writes (selected s) = selected_writes s

  pub counted_writes : (v : Counted) → Writes (counted_tokens v)
  counted_writes (counted_end i) = token END i nothing
  counted_writes (counted_more i a c) = token Comma i (then (action_writes a) (counted_writes c))

  pub selected_writes : (v : Selected) → Writes (selected_tokens v)
  selected_writes (select s b a m) = then (selector_writes s) (token Becomes b (then (action_writes a) (selected_more_writes m)))
  selected_writes (otherwise i b a e) = token OTHERWISE i (token Becomes b (then (action_writes a) (token END e nothing)))

  pub selected_more_writes : (v : SelectedMore) → Writes (selected_more_tokens v)
  selected_more_writes (selected_end i) = token END i nothing
  selected_more_writes (selected_more i s) = token Comma i (selected_writes s)

pub own_bits_writes : (o : OwnBits) → Writes (own_bits_tokens o)
own_bits_writes o = expressed (own_bits_written o 0)

pub meaning_writes : (m : Meaning) → Writes (meaning_tokens m)
meaning_writes (body b a m) = token BEGIN b (then (action_writes a) (members_writes m))
meaning_writes (mapped n l c e) = token Name n (token Less l (token Const c (expressed (bits_end_written e 0))))

pub given_writes : (g : Given) → Writes (given_tokens g)
given_writes carrier = nothing
given_writes (given b m) = token Becomes b (meaning_writes m)

pub form_writes : (f : Form) → Writes (form_tokens f)
form_writes (words l m c n r b o) = token LBra l (token Const m (token Colon c (token Const n (token RBra r (token Less b (own_bits_writes o))))))
form_writes (with_bits l o g) = token Less l (then (own_bits_writes o) (given_writes g))
form_writes (bare_body e b a m) = token Becomes e (token BEGIN b (then (action_writes a) (members_writes m)))

pub main_bits_writes : (o : MainBits) → Writes (main_bits_tokens o)
main_bits_writes o = expressed (main_bits_written o 0)

pub declaration_writes : (d : Declaration) → Writes (declaration_tokens d)
declaration_writes (plain n f) = token Name n (form_writes f)
declaration_writes (main i n o e b a m) =
    token MAIN i (token Name n (then (main_bits_writes o) (token Becomes e (token BEGIN b (then (action_writes a) (members_writes m))))))

pub heading_writes : (h : Heading) → Writes (heading_tokens h)
heading_writes no_heading = nothing
heading_writes (heading l n r) = token Stars l (token Name n (token Stars r nothing))
