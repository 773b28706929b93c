-- Laws of alternatives: the links of one and of those behind it make those of the DECODE.
-- Assumes nothing.
use Prim.Native.Nat.{ℕ, suc, ◌+◌, ◌*◌, ◌-◌, ◌<◌, ◌≤◌}
use Rattle.std.specs.Prelude.{◌≡◌, List, [], ◌∷◌, drop, Some, None}
use Rattle.std.proofs.Math.Path.{refl, ap}
use Rattle.std.proofs.Common.{◌∙◌, subst, arith}
use Rattle.std.proofs.Math.ListN.{length, length-drop}
use Rattle.rules.specs.Text.Tokens.{Token, tk, Arrow, Becomes, BEGIN, DECODE, END, kind_no}
use Rattle.rules.specs.Grammar.Trees.{Tokens, operand_tokens, tail_tokens, Action, action_tokens, alternatives_tokens}
use Rattle.laws_grammar.specs.Grammar.Positions.{Writes, selector_writes, action_writes, counted_writes, selected_more_writes}
use Rattle.laws_grammar.specs.Cited.Heads.{head_kind}
use Rattle.laws_grammar.specs.Cited.Nesting.{action_nest}
use Rattle.laws_code.specs.Cited.Code.{action_size, first_of, behind_test}
use Rattle.laws_code.proofs.Links.Numbers.{size_before}
use Rattle.records.specs.Holds.{kind_byte}
use Rattle.table.specs.Laws.Positions.{here, kind_here}
use Rattle.table.specs.Scans.{no, scan, halts, stops}
use Rattle.table.specs.Laws.Scans.{arrow, past_expression}
use Rattle.ways.specs.Seeking.{Ground, Stands, Seeks}
use Rattle.ways.specs.Laws.Seeking.{found_at}
use Rattle.ways.specs.Laws.Forms.{choice_is}
use Rattle.records.specs.Kept.{Kept}
use Rattle.records.specs.Laws.Kept.{kept_none, kept_then, kept_wide, holds_kept}
use Rattle.ways.specs.Linked.{Linked, Separates, Same}
use Rattle.links.specs.Laws.Linked.{linked_same}
use Rattle.ways.specs.Laws.Stack.{labels_none, labels_then}
use Rattle.ways.specs.Standing.{ActionAt, Done}
use Rattle.ways.specs.Laws.Prefixes.{expression_writes}
use Rattle.links.specs.Laws.Setting.{moved, standing, setting_of}
use Rattle.ways.specs.Turns.{Lead, no_lead, chosen, other, lead_tokens, lead_end, More, counting, selecting, last, more_tokens, Turn, turn_tokens, LaterLinked, TurnLinked, AlternativeAt, Extends}
use Rattle.ways.specs.Laws.Turns.{turn_of, turn_tokens_lem, turn_nest, turn_linked, Behind, another, no_more, behind_of, Parted, parted}
use Rattle.links.specs.Choices.{TurnsAt, stop_of, TurnsLeft, TurnsDone, TurnAnswer}

-- how many tokens there are
lead_writes : (l : Lead) → Writes (lead_tokens l)
lead_writes no_lead = record { grows = λ xs ys. refl }
lead_writes (chosen s b) = record { grows = λ xs ys. (selector_writes s).grows (tk Becomes b ∷ xs) ys }
lead_writes (other x b) = record { grows = λ xs ys. refl }

more_writes : (m : More) → Writes (more_tokens m)
more_writes (counting c) = counted_writes c
more_writes (selecting m) = selected_more_writes m
more_writes (last e) = record { grows = λ xs ys. refl }

turn_writes : (t : Turn) → Writes (turn_tokens t)
turn_writes t = record {
  grows = λ xs ys.
      ap (λ l. lead_tokens t.lead (action_tokens t.action l)) ((more_writes t.more).grows xs ys)
      ∙ (ap (lead_tokens t.lead) ((action_writes t.action).grows (more_tokens t.more xs) ys)
      ∙ (lead_writes t.lead).grows (action_tokens t.action (more_tokens t.more xs)) ys);
}

lead_further : (l : Lead) (p : ℕ) → p + 1 ≤ lead_end p l
lead_further no_lead p = omega arith
lead_further (chosen s b) p = omega arith
lead_further (other x b) p = omega arith

stop_of_lem : {g : Ground} {records labels : List ℕ} {p link count depth : ℕ} (v : TurnsAt g records labels p link count depth)
    → stop_of v + length v.rest ≡ length g.tokens
stop_of_lem {g} {p = p} v =
    omega (arith, v.below, ap length v.reads, length-drop (p + 1) g.tokens, size_before (turn_writes v.turn) v.rest)

module _ {g : Ground} {records labels : List ℕ} {p link count depth : ℕ} (v : TurnsAt g records labels p link count depth) where
  pub turns_within : p < length records
  turns_within = omega (arith, v.below, v.setting.holds.record_room)

  pub turns_all : TurnsLeft v records labels p
  turns_all = record {
    now = v;
    onward = omega arith;
    same_rest = refl;
    kept = kept_none records p p;
    stack = labels_none labels count;
    whole = λ later s l. l;
  }

  module _ {r l : List ℕ} {p' : ℕ} (u : TurnsLeft v r l p') {r' l' : List ℕ} where
    pub turns_then : {p'' : ℕ} → TurnsLeft u.now r' l' p'' → TurnsLeft v r' l' p''
    turns_then {p''} q =
        let h = u.onward in
        let k = q.onward in
        record {
          now = q.now;
          onward = omega arith;
          same_rest = q.same_rest ∙ u.same_rest;
          kept = kept_then p p'' u.kept q.kept (omega arith) (omega arith) (omega arith) (omega arith);
          stack = labels_then u.stack q.stack (omega arith);
          whole = λ later s x.
              u.whole later
              (record {
                inside = λ t y z. s.inside t y (omega arith) ∙ q.kept.inside t (λ a b. omega arith);
                link = λ t y z. s.link t y (omega arith) ∙ q.kept.link t (λ a b. omega arith);
              })
              (q.whole later (record { inside = λ t y z. s.inside t (omega arith) z; link = λ t y z. s.link t (omega arith) z }) x);
        }

    pub turns_done : TurnsDone u.now r' l' → TurnsDone v r' l'
    turns_done q =
        let h = u.onward in
        let e = stop_of_lem v in
        let f = stop_of_lem u.now in
        let k = kept_wide p' (stop_of v) q.kept (omega arith) (omega (arith, u.same_rest)) in
        record {
          linked =
              u.whole r' (record { inside = λ t y z. k.inside t (λ a b. omega arith); link = λ t y z. k.link t (λ a b. omega arith) })
              q.linked;
          kept = kept_then p (stop_of v) u.kept k (omega arith) (omega (arith, u.same_rest)) (omega arith) (omega arith);
          stack = labels_then u.stack q.stack (omega arith);
        }

  -- the next one
  another_turn : {now after : List ℕ} (p' : ℕ) → TurnsLeft v now after p' → p < p' → TurnAnswer v now after (Some p')
  another_turn {now} {after} p' u h = record {
    done = λ z. cc;
    left = λ t z. let e : p' ≡ t = cc in subst (TurnsLeft v now after) e u;
    further_on = λ t z. let e : p' ≡ t = cc in omega arith;
  }

  abbrev pub alternative_at : AlternativeAt g records p
  alternative_at = record { holds = v.setting.holds; turn = v.turn; rest = v.rest; below = v.below; reads = v.reads }

  module _ {mid : List ℕ} {from end first : ℕ} (x : Extends alternative_at mid from end first) where
    abbrev part : Parted v.turn.more v.rest
    part = parted v.turn.more v.rest

    lies : p + 1 ≤ from
    lies = omega (arith, lead_further v.turn.lead p, x.from_is)

    pub this_alternative : ActionAt g mid labels from link count first (depth - 1)
    this_alternative =
        let l = lies in
        standing (moved v.setting from x.kept (omega arith) (omega arith) (labels_none labels count)) v.turn.action part.token part.rest
        (x.reads_action ∙ ap (action_tokens v.turn.action) part.is) part.separating x.first_is (omega (arith, v.action_shallow))

    module _ {now after : List ℕ} (d : Done this_alternative now after) where
      done_kept : Kept mid now from end
      unfolding this_alternative
      done_kept = kept_wide from end d.kept (omega arith) (omega (arith, x.end_is))

      done_holds : Stands g now
      done_holds = holds_kept done_kept (holds_kept x.kept v.setting.holds)

      at_part : drop end g.tokens ≡ part.token ∷ part.rest
      at_part = x.reads_end ∙ part.is

      pub part_within : 8 * end + 8 ≤ length now
      part_within = let w = (here g.tokens end _ _ at_part).within in omega (arith, done_holds.record_room)

      -- the separator and the action before it
      front : (later : List ℕ) → Same now later p end
          → Separates later g.outer g.table p (first_of from v.turn.action) (from + action_size v.turn.action)
          × Linked later g.outer g.table v.setting.around from v.setting.behind v.turn.action
      unfolding this_alternative
      front later s =
          let l = lies in
          let e = x.end_is in (
            (
              s.inside p (omega arith) (omega arith) ∙ (done_kept.inside p (λ a b. omega arith) ∙ x.inside_is),
              s.link p (omega arith) (omega arith) ∙ (done_kept.link p (λ a b. omega arith) ∙ (x.link_is ∙ e)),
            ),
            linked_same now later g.outer g.table v.turn.action v.setting.around from _
                (record { inside = λ t y z. s.inside t (omega arith) (omega arith); link = λ t y z. s.link t (omega arith) (omega arith) }) d.linked,
          )

      turn_whole : (later : List ℕ) → Same now later p end
          → LaterLinked later g.outer g.table v.setting.around end v.setting.behind v.turn.more
          → TurnLinked later g.outer g.table v.setting.around p v.setting.behind v.turn
      turn_whole later s m =
          let q = front later s in
          let a = v.turn.action in
          subst
          (λ j. Separates later g.outer g.table p (first_of j a) (j + action_size a)
          × Linked later g.outer g.table v.setting.around j v.setting.behind a
          × LaterLinked later g.outer g.table v.setting.around (j + action_size a) v.setting.behind v.turn.more)
          x.from_is (
            q.0,
            q.1,
            subst (λ j. LaterLinked later g.outer g.table v.setting.around j v.setting.behind v.turn.more) x.end_is m,
          )

      both_kept : Kept records now p end
      both_kept = let l = lies in let e = x.end_is in kept_then p end x.kept done_kept (omega arith) (omega arith) (omega arith) (omega arith)

      module _ {k : ℕ} (kind : k ≡ kind_byte now end) where
        kind_first : {t : Token} {ts : Tokens} → more_tokens v.turn.more v.rest ≡ t ∷ ts → k ≡ no t
        kind_first q = let y = here g.tokens end _ _ (x.reads_end ∙ q) in kind ∙ kind_here done_holds end _ y.within y.token

        pub last_turn : k ≡ kind_no END → TurnAnswer v now after None
        unfolding this_alternative
        last_turn shut = record { done = λ z. by (behind_of v.turn.more); left = λ p z. cc; further_on = λ p z. cc }
          where
            by : Behind v.turn.more → TurnsDone v now after
            by (another a) = absurd (omega (arith, kind_first (a.tokens v.rest)))
            by (no_more m) =
                let e = stop_of_lem v in
                let f = ap length (x.reads_end ∙ m.tokens v.rest) in
                let w = (here g.tokens end _ _ at_part).within in
                record {
                  linked =
                      turn_whole now (record { inside = λ t y z. refl; link = λ t y z. refl })
                      (m.linked now g.outer g.table v.setting.around end v.setting.behind);
                  kept = kept_wide p (stop_of v) both_kept (omega arith) (omega (arith, length-drop end g.tokens));
                  stack = d.stack;
                }

        pub more_turns : (k ≡ kind_no END → ⊥) → TurnAnswer v now after (Some end)
        unfolding this_alternative
        more_turns going = by (behind_of v.turn.more)
          where
            by : Behind v.turn.more → TurnAnswer v now after (Some end)
            by (no_more m) = absurd (going (kind_first (m.tokens v.rest)))
            by (another a) =
                let l = lies in
                let e = x.end_is in
                let y = here g.tokens end _ _ (x.reads_end ∙ a.tokens v.rest) in
                another_turn _ (record {
                  now = record {
                    setting = moved v.setting end both_kept (omega arith) (omega arith) d.stack;
                    turn = a.next;
                    rest = v.rest;
                    below = y.within;
                    reads = y.behind;
                    action_shallow = omega (arith, v.more_shallow, a.shallow.0);
                    more_shallow = omega (arith, v.more_shallow, a.shallow.1);
                  };
                  onward = omega arith;
                  same_rest = refl;
                  kept = both_kept;
                  stack = d.stack;
                  whole = λ later s q. turn_whole later s (a.linked later g.outer g.table v.setting.around end v.setting.behind q);
                }) (omega arith)

-- the alternatives of a DECODE
module _ {g : Ground} {records labels : List ℕ} {i link count first depth : ℕ} (v : ActionAt g records labels i link count first depth)
    (e : head_kind v.action ≡ DECODE) where
  choice_reads : let x = choice_is v.action e in
      drop (i + 1) g.tokens
      ≡ operand_tokens x.1 (tail_tokens x.2 (tk Arrow x.3 ∷ tk BEGIN x.4 ∷ alternatives_tokens x.5 (v.next ∷ v.rest)))
  choice_reads = let x = choice_is v.action e in (here g.tokens i _ _ (v.reads ∙ ap (λ (a : Action). action_tokens a (v.next ∷ v.rest)) x.6)).behind

  pub choice_arrow : Seeks g records (i + 1) 14
  unfolding scan halts stops
  choice_arrow =
      let x = choice_is v.action e in
      record {
        holds = v.holds;
        next = tk Arrow x.3;
        rest = tk BEGIN x.4 ∷ alternatives_tokens x.5 (v.next ∷ v.rest);
        finds = ap (scan 14 0) choice_reads ∙ past_expression arrow 0 x.1 x.2 _;
      }

  module _ (q : ℕ) (found : drop q g.tokens ≡ choice_arrow.next ∷ choice_arrow.rest) where
    begin_there : let x = choice_is v.action e in drop (q + 1) g.tokens ≡ tk BEGIN x.4 ∷ alternatives_tokens x.5 (v.next ∷ v.rest)
    unfolding choice_arrow
    begin_there = (here g.tokens q _ _ found).behind

    begin_is : let x = choice_is v.action e in q + 1 ≡ behind_test i x.1 x.2
    unfolding choice_arrow
    begin_is =
        let x = choice_is v.action e in
        omega (arith, found_at _ (expression_writes x.1 x.2) g.tokens (i + 1) q _ _ choice_reads found)

    pub begin_fits : q + 1 < 8192
    begin_fits = let h = here g.tokens (q + 1) _ _ begin_there in omega (arith, h.within, v.holds.few)

    pub choice_turns : TurnsAt g records labels (q + 1) link count depth
    choice_turns =
        let x = choice_is v.action e in
        let h = here g.tokens (q + 1) _ _ begin_there in
        let n = turn_nest x.5 in
        let nest = ap action_nest x.6 in
        record {
          setting = moved (setting_of v) (q + 1) (kept_none records i i) (omega (arith, begin_is)) (omega (arith, begin_is)) (labels_none labels count);
          turn = turn_of x.5;
          rest = v.next ∷ v.rest;
          below = h.within;
          reads = h.behind ∙ turn_tokens_lem x.5 (v.next ∷ v.rest);
          action_shallow = omega (arith, v.shallow, n.0);
          more_shallow = omega (arith, v.shallow, n.1);
        }

    pub choice_done : {now after : List ℕ} → TurnsDone choice_turns now after → Done v now after
    unfolding choice_turns
    choice_done {now} d =
        let x = choice_is v.action e in
        let size_is = ap action_size x.6 ∙ ap suc (size_before (expression_writes x.1 x.2) (tk Arrow x.3 ∷ tk BEGIN x.4 ∷ alternatives_tokens x.5 [])) in
        record {
          linked =
              rw x.6
              (turn_linked now g.outer g.table x.5 v.around (behind_test i x.1 x.2) v.behind
              (subst (λ j. TurnLinked now g.outer g.table v.around j v.behind (turn_of x.5)) begin_is d.linked));
          kept =
              kept_wide i (i + action_size v.action) d.kept (omega (arith, begin_is))
              (omega (arith, begin_is, size_is, ap length (turn_tokens_lem x.5 [])));
          stack = d.stack;
        }

-- the loop over them: whatever description it is, what is left stands there
pub record Choosing (text records₀ labels₀ : List ℕ) (p₀ link count depth : ℕ) (records labels : List ℕ) (p : ℕ) : Type 0 where
  pub left : (g : Ground) (v : TurnsAt g records₀ labels₀ p₀ link count depth) → g.text ≡ text → TurnsLeft v records labels p
