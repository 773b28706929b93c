-- Labels in a token list: a name with `:=` behind it. The labels of an action are those that stand in its tokens.
-- Assumes nothing.
use Rattle.std.specs.Prelude.{ℕ, ◌≡◌, refl, Bool, true, false, ◌&&◌, List, [], ◌∷◌}
use Rattle.std.proofs.Common.{ap, ◌∙◌}
use Rattle.std.proofs.Math.Bool.{and-false}
use Rattle.rules.specs.Text.Tokens.{Kind, Info, Token, tk, same, Name, LPar, RPar, Becomes, Equals, Arrow, BEGIN, END}
use Rattle.rules.specs.Grammar.Trees.{Tokens, Bits, Operand, operand_tokens, Tail, tail_tokens, Subscript, Joined}
use Rattle.rules.specs.Grammar.Trees.{Action, block, labelled, if_then, decode, repeat, leave, restart, activate, stop, no_op, transfer, action_tokens, Members, end, also, next, members_tokens}
use Rattle.rules.specs.Grammar.Trees.{Alternatives, counted, selected, alternatives_tokens, Counted, counted_end, counted_more, counted_tokens}
use Rattle.rules.specs.Grammar.Trees.{Selected, select, otherwise, selected_tokens, SelectedMore, selected_end, selected_more, selected_more_tokens}
use Rattle.trees.specs.Written.{nothing, token, level}
use Rattle.trees.specs.Expressions.{Expressed, expression_equal, access_written, joined_written, expression_written}
use Rattle.trees.specs.Selectors.{Chosen, chosen_passes, selector_written}
use Rattle.rules.specs.Faults.Bodies.{labels, member_labels, alternative_labels, counted_labels, selected_labels, more_labels}

-- whether `:=` is the first token
abbrev pub starts_becomes : Tokens → Bool
starts_becomes [] = false
starts_becomes (t ∷ ts) = same t.kind Becomes

abbrev pub is_label : Token → Tokens → Bool
is_label t ts = same t.kind Name && starts_becomes ts

abbrev pub with_label : Bool → Info → List Info → List Info
with_label true i ls = i ∷ ls
with_label false i ls = ls

unfoldable pub labels_in : Tokens → List Info
labels_in [] = []
labels_in (t ∷ ts) = with_label (is_label t ts) t.info (labels_in ts)

-- f writes no label, and begins with no `:=`; what follows begins with none either
record Plain (f : Tokens → Tokens) : Type 0 where
  passes : (ts : Tokens) → starts_becomes ts ≡ false → labels_in (f ts) ≡ labels_in ts
  starts : (ts : Tokens) → starts_becomes ts ≡ false → starts_becomes (f ts) ≡ false

empty : Plain (λ ts. ts)
empty = record { passes = λ ts h. refl; starts = λ ts h. h }

then : {f g : Tokens → Tokens} → Plain f → Plain g → Plain (λ ts. f (g ts))
then {f} {g} p q = record {
  passes = λ ts h. p.passes (g ts) (q.starts ts h) ∙ q.passes ts h;
  starts = λ ts h. p.starts (g ts) (q.starts ts h);
}

-- a name is a label in front of `:=` only
mark : (k : Kind) (i : Info) → same k Becomes ≡ false → {g : Tokens → Tokens} → Plain g → Plain (λ ts. tk k i ∷ g ts)
unfolding labels_in
mark k i b {g} q = record {
  passes = λ ts h.
      ap (λ x. with_label (same k Name && x) i (labels_in (g ts))) (q.starts ts h)
      ∙ (ap (λ x. with_label x i (labels_in (g ts))) (and-false (same k Name)) ∙ q.passes ts h);
  starts = λ ts h. b;
}

expressed : {m n : ℕ} {f : Tokens → Tokens} → Expressed level level level m f n → Plain f
expressed nothing = empty
expressed (token {k = k} s i w) = mark k i (expression_equal (λ k. same k Becomes) (λ k. false) refl s) (expressed w)

-- the tokens of a selector are no names, so `:=` may follow
nameless : {m n : ℕ} {f : Tokens → Tokens} → Chosen level m f n → (ts : Tokens) → labels_in (f ts) ≡ labels_in ts
unfolding labels_in
nameless = chosen_passes (λ m. labels_in) level refl

-- THE LABELS OF A TREE
members_starts : (m : Members) (ts : Tokens) → starts_becomes (members_tokens m ts) ≡ false
members_starts (end i) ts = refl
members_starts (also i a m) ts = refl
members_starts (next i a m) ts = refl

counted_starts : (c : Counted) (ts : Tokens) → starts_becomes (counted_tokens c ts) ≡ false
counted_starts (counted_end i) ts = refl
counted_starts (counted_more i a c) ts = refl

more_starts : (m : SelectedMore) (ts : Tokens) → starts_becomes (selected_more_tokens m ts) ≡ false
more_starts (selected_end i) ts = refl
more_starts (selected_more i s) ts = refl

expression_plain : (o : Operand) (t : Tail) → Plain (λ ts. operand_tokens o (tail_tokens t ts))
expression_plain o t = expressed (expression_written o t 0)

transfer_plain : (n : Info) (s : Subscript) (b : Bits) (j : Joined) (e : Info) (o : Operand) (t : Tail) → Plain (action_tokens (transfer n s b j e o t))
transfer_plain n s b j e o t =
    mark Name n refl (then (expressed (access_written s b 0)) (then (expressed (joined_written j 0)) (mark Equals e refl (expression_plain o t))))

call_plain : (n l r : Info) → Plain (action_tokens (activate n l r))
call_plain n l r = mark Name n refl (mark LPar l refl (mark RPar r refl empty))

mutual
  unfolding labels_in labels

  pub action_labels : (a : Action) (ts : Tokens) → starts_becomes ts ≡ false → labels_in (action_tokens a ts) ≡ labels a (labels_in ts)
  action_labels (block b a m) ts h =
      action_labels a (members_tokens m ts) (members_starts m ts) ∙ ap (labels a) (members_labels m ts h)
  action_labels (labelled n b a) ts h = ap (λ ls. n ∷ ls) (action_labels a ts h)
  action_labels (if_then i o t w a) ts h = (expression_plain o t).passes (tk Arrow w ∷ action_tokens a ts) refl ∙ action_labels a ts h
  action_labels (decode i o t w b v) ts h =
      (expression_plain o t).passes (tk Arrow w ∷ tk BEGIN b ∷ alternatives_tokens v ts) refl ∙ alternatives_labels v ts h
  action_labels (repeat i a) ts h = action_labels a ts h
  action_labels (leave i n) ts h = (mark Name n refl empty).passes ts h
  action_labels (restart i n) ts h = (mark Name n refl empty).passes ts h
  action_labels (activate n l r) ts h = (call_plain n l r).passes ts h
  action_labels (stop i l r) ts h = refl
  action_labels (no_op i l r) ts h = refl
  action_labels (transfer n s b j e o t) ts h = (transfer_plain n s b j e o t).passes ts h

  members_labels : (m : Members) (ts : Tokens) → starts_becomes ts ≡ false → labels_in (members_tokens m ts) ≡ member_labels m (labels_in ts)
  members_labels (end i) ts h = refl
  members_labels (also i a m) ts h = action_labels a (members_tokens m ts) (members_starts m ts) ∙ ap (labels a) (members_labels m ts h)
  members_labels (next i a m) ts h = action_labels a (members_tokens m ts) (members_starts m ts) ∙ ap (labels a) (members_labels m ts h)

  alternatives_labels : (v : Alternatives) (ts : Tokens) → starts_becomes ts ≡ false → labels_in (alternatives_tokens v ts) ≡ alternative_labels v (labels_in ts)
  alternatives_labels (counted a c) ts h = action_labels a (counted_tokens c ts) (counted_starts c ts) ∙ ap (labels a) (counted_labels_lem c ts h)
  alternatives_labels (selected s) ts h = selected_labels_lem s ts h

  counted_labels_lem : (c : Counted) (ts : Tokens) → starts_becomes ts ≡ false → labels_in (counted_tokens c ts) ≡ counted_labels c (labels_in ts)
  counted_labels_lem (counted_end i) ts h = refl
  counted_labels_lem (counted_more i a c) ts h = action_labels a (counted_tokens c ts) (counted_starts c ts) ∙ ap (labels a) (counted_labels_lem c ts h)

  selected_labels_lem : (s : Selected) (ts : Tokens) → starts_becomes ts ≡ false → labels_in (selected_tokens s ts) ≡ selected_labels s (labels_in ts)
  selected_labels_lem (select s b a m) ts h =
      nameless (selector_written s 0) (tk Becomes b ∷ action_tokens a (selected_more_tokens m ts))
      ∙ action_labels a (selected_more_tokens m ts) (more_starts m ts) ∙ ap (labels a) (more_labels_lem m ts h)
  selected_labels_lem (otherwise i b a e) ts h = action_labels a (tk END e ∷ ts) refl

  more_labels_lem : (m : SelectedMore) (ts : Tokens) → starts_becomes ts ≡ false → labels_in (selected_more_tokens m ts) ≡ more_labels m (labels_in ts)
  more_labels_lem (selected_end i) ts h = refl
  more_labels_lem (selected_more i s) ts h = selected_labels_lem s ts h
