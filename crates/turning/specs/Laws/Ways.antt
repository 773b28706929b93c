-- Laws of the way behind an instruction: to another one, into a body, out of one and on from there.
-- Assumes nothing.
use Prim.Native.Nat.{ℕ, zero, suc, ◌+◌, ◌-◌, ◌<◌, ◌≤◌}
use Rattle.std.specs.Prelude.{◌≡◌, List, [], ◌∷◌, ◌++◌, map, length, set, Result, Ok, Err}
use Rattle.std.proofs.Math.Path.{refl, ap}
use Rattle.std.proofs.Common.{sym, ◌∙◌, subst}
use Rattle.std.proofs.lemmas.List.{map-append}
use native.Mathlib.Omega.{arith}
use Rattle.std.proofs.Math.ListN.{get_or}
use Rattle.rules.specs.Stores.{Entry}
use Rattle.laws_orders.specs.Cited.Flat.{Link, at, exit, Code, pc}
use Rattle.records.specs.Holds.{link_cell}
use Rattle.promise.specs.Instructions.{link_no}
use Rattle.stepping.specs.declared.steps.Moved.{Moved}
use Rattle.stepping.specs.declared.steps.Moved.TheVariants.{Go, Call, Stop}
use Rattle.stepping.specs.declared.steps.Fault.{Fault}
use Rattle.runner.specs.Runs.{stack_of}
use Rattle.runner.specs.Laws.Runs.{stack_pushed}
use Rattle.telling.specs.Cited.Passing.{Grouping, Passing, group_event}
use Rattle.telling.specs.Cited.Tracing.{Told, told, behind_all, link_of, resume, return, follow}
use Rattle.matching.specs.Matching.{Matching, told_all}
use Rattle.matching.specs.Room.{matching_in, Sound, Stands}
use Rattle.room.specs.Trace.{most_groups}
use Rattle.passing.specs.Depth.{depth_after}
use Rattle.passing.specs.Ways.{grouping_in, between, into, out_of}
use Rattle.passing.specs.Laws.Depth.{depth_told, depth_append}
use Rattle.passing.specs.Laws.Telling.{told_append}
use Rattle.runner.specs.declared.turns.Turned.{Turned}
use Rattle.runner.specs.declared.turns.Turned.TheVariants.{At, Over, Stop as Stood}
use Rattle.turning.specs.Ways.{link_to, way_of, Linked, WayAt, WayTold}
use Rattle.runner.specs.Turns.{turned_to}

-- what is told of some passings
abbrev Tells : List Passing → List ℕ → List ℕ → Type 0
Tells ps before after = (l : List Entry) → Sound l before → Stands l after (told_all (map group_event ps) (matching_in l before))

nothing_told : {l : List Entry} {room : List ℕ} → Sound l room → Stands l room (told_all [] (matching_in l room))
unfolding told_all
nothing_told s = record { sound = s; is = refl }

-- some passings are told, and then others
both_told : {l : List Entry} (z : Matching) {amid after : List ℕ} (ps qs : List Passing)
    → Stands l amid (told_all (map group_event ps) z) → Stands l after (told_all (map group_event qs) (matching_in l amid)) → Stands l after (told_all (map group_event (ps ++ qs)) z)
both_told z ps qs s t = record {
  sound = t.sound;
  is = t.is ∙ ap (told_all (map group_event qs)) s.is
      ∙ sym (ap (λ es. told_all es z) (map-append group_event ps qs) ∙ told_append (map group_event ps) (map group_event qs) z);
}

-- how many groups are open behind all of them
open_behind : {l : List Entry} (z : Matching) {amid : List ℕ} (ps qs : List Passing) → Stands l amid (told_all (map group_event ps) z)
    → depth_after qs (length (matching_in l amid).groups) ≡ depth_after (ps ++ qs) (length z.groups)
open_behind z ps qs s =
    ap (λ (y : Matching). depth_after qs (length y.groups)) s.is ∙ ap (depth_after qs) (depth_told ps z) ∙ sym (depth_append ps qs (length z.groups))

-- A WAY, as it is known
module _ {records cells room stack : List ℕ} {n depth : ℕ} {way : Code → Grouping → List ℕ → Told} (v : WayAt records cells room stack n depth way) where
  abbrev M : Grouping
  M = grouping_in cells n

  -- the way back, from a memory in which something is told
  abbrev Returns : List ℕ → ℕ → Type 0
  Returns amid d = WayAt records cells amid stack n d return

  module _ {t : Told} (is : way v.code M (stack_of stack depth) ≡ t) where
    few_as : {n' : ℕ} {κ' : List ℕ} → t.control ≡ pc n' κ' → depth_after t.passed (length (matching_in v.list room).groups) ≤ most_groups
    few_as {n'} {κ'} e =
        let f = v.few n' κ' (ap (λ (t : Told). t.control) is ∙ e) in
        subst (λ (t : Told). depth_after t.passed (length (matching_in v.list room).groups) ≤ most_groups) is f

    told_as : {stack' room' : List ℕ} {r : Result Turned Fault} → turned_to r stack' ≡ t.control → Stands v.list room' (told_all (map group_event t.passed) (matching_in v.list room))
        → WayTold v stack' room' r
    told_as {stack'} {room'} {r} c h = record {
      control = c ∙ sym (ap (λ (t : Told). t.control) is);
      tells = subst (λ (t : Told). Stands v.list room' (told_all (map group_event t.passed) (matching_in v.list room))) (sym is) h;
    }

  -- out of a body, with d activations that go on
  module _ (d : ℕ) (less : d ≤ depth) (ps : List Passing) (is : way v.code M (stack_of stack depth) ≡ behind_all ps (return v.code M (stack_of stack d))) {amid : List ℕ}
      (left : Tells ps room amid) where
    then_returns : Returns amid d
    then_returns = record {
      code = v.code;
      list = v.list;
      long = v.long;
      high = omega (arith, v.high);
      linked = λ k h. v.linked k (omega arith);
      sound = (left v.list v.sound).sound;
      few = λ n' κ' e.
          omega (arith, few_as is e, open_behind (matching_in v.list room) ps (return v.code M (stack_of stack d)).passed (left v.list v.sound));
    }

    then_told : {after : List ℕ} {r : Result Turned Fault} → WayTold then_returns stack after r → WayTold v stack after r
    unfolding then_returns
    then_told w = told_as is w.control (both_told (matching_in v.list room) ps (return v.code M (stack_of stack d)).passed (left v.list v.sound) w.tells)

link_out : (k : Link) → ((g : ℕ) → k ≡ at g → 0 < g) → link_no k ≡ 0 → k ≡ exit
link_out (at g) h e = absurd (omega (arith, h g refl))
link_out exit h e = refl

link_on : (k : Link) (b : ℕ) → b ≡ link_no k → (b ≡ 0 → ⊥) → k ≡ at b
link_on (at g) b e z = ap at (sym e)
link_on exit b e z = absurd (z e)

-- BACK: the newest activation
module _ {records cells room stack : List ℕ} {n depth : ℕ} (v : WayAt records cells room stack n depth return) where
  -- MAIN has ended
  all_over : depth ≡ 0 → WayTold v stack room (Ok Over)
  unfolding stack_of return
  all_over e = told_as v (ap (λ d. return v.code (M v) (stack_of stack d)) e) refl (nothing_told v.sound)

  module _ (some : 0 < depth) where
    abbrev top : ℕ
    top = get_or stack (depth - 1) 0

    abbrev rest : List ℕ
    rest = stack_of stack (depth - 1)

    stack_is : stack_of stack depth ≡ top ∷ rest
    unfolding stack_of
    stack_is = by depth some
      where
        by : (d : ℕ) → 0 < d → stack_of stack d ≡ get_or stack (d - 1) 0 ∷ stack_of stack (d - 1)
        by zero s = absurd (omega arith)
        by (suc d) s = let less : suc d - 1 ≡ d = omega arith in ap (λ k. get_or stack k 0 ∷ stack_of stack k) (sym less)

    pub top_within : depth - 1 < length stack
    top_within = omega (arith, v.high)

    pub top_linked : Linked records v.code top
    top_linked = v.linked (depth - 1) (omega arith)

    module _ {behind : ℕ} (link : behind ≡ link_cell records top) where
      resumes : (k : Link) → link_of (v.code.instr top) ≡ k
          → return v.code (M v) (stack_of stack depth) ≡ resume v.code (M v) top rest (return v.code (M v) rest) k
      unfolding return
      resumes k e = ap (return v.code (M v)) stack_is ∙ ap (resume v.code (M v) top rest (return v.code (M v) rest)) e

      -- it was the last thing in its body
      return_out : behind ≡ 0 → return v.code (M v) (stack_of stack depth) ≡ behind_all (out_of cells n top) (return v.code (M v) rest)
      return_out out = resumes exit (link_out (link_of (v.code.instr top)) top_linked.leads (sym top_linked.link ∙ sym link ∙ out))

      -- it was not
      return_on : (behind ≡ 0 → ⊥) → return v.code (M v) (stack_of stack depth) ≡ told (pc behind rest) (between cells n top behind)
      return_on on = resumes (at behind) (link_on (link_of (v.code.instr top)) behind (link ∙ top_linked.link) on)

      pub behind_few : (behind ≡ 0 → ⊥) → depth_after (between cells n top behind) (length (matching_in v.list room).groups) ≤ most_groups
      behind_few on = few_as v (return_on on) refl

-- on the way out some activations are left: where the rest is told, all is
pub record Returning {records cells room stack : List ℕ} {n depth : ℕ} (v : WayAt records cells room stack n depth return) (amid : List ℕ) (left : ℕ) : Type 0 where
  pub rest : WayAt records cells amid stack n left return
  pub all : {after : List ℕ} {r : Result Turned Fault} → WayTold rest stack after r → WayTold v stack after r

module _ {records cells room stack : List ℕ} {n depth : ℕ} (v : WayAt records cells room stack n depth return) where
  pub none_left : Returning v room depth
  none_left = record { rest = v; all = λ w. w }

  module _ {amid : List ℕ} {left : ℕ} (g : Returning v amid left) where
    pub out_of_all : (0 < left → ⊥) → WayTold v stack amid (Ok Over)
    out_of_all none = g.all (all_over g.rest (omega (arith, none)))

    module _ (some : 0 < left) {behind : ℕ} (link : behind ≡ link_cell records (get_or stack (left - 1) 0)) {after : List ℕ} where
      pub one_left : behind ≡ 0 → Tells (out_of cells n (get_or stack (left - 1) 0)) amid after → Returning v after (left - 1)
      one_left out h =
          let less : left - 1 ≤ left = omega arith in
          record {
            rest = then_returns g.rest (left - 1) less (out_of cells n (get_or stack (left - 1) 0)) (return_out g.rest some link out) h;
            all = λ w. g.all (then_told g.rest (left - 1) less (out_of cells n (get_or stack (left - 1) 0)) (return_out g.rest some link out) h w);
          }

      pub gone_on : (behind ≡ 0 → ⊥) → Tells (between cells n (get_or stack (left - 1) 0) behind) amid after → WayTold v stack after (Ok (At behind (left - 1)))
      gone_on on h = g.all (told_as g.rest (return_on g.rest some link on) refl (h g.rest.list g.rest.sound))

-- ONWARD, by where the step leads
module _ {records cells room stack : List ℕ} {n depth : ℕ} (now : ℕ) (moved : Result Moved Fault) (v : WayAt records cells room stack n depth (way_of now moved)) where
  way_is : {m : Result Moved Fault} → moved ≡ m → way_of now moved v.code (M v) (stack_of stack depth) ≡ way_of now m v.code (M v) (stack_of stack depth)
  way_is e = ap (λ m. way_of now m v.code (M v) (stack_of stack depth)) e

  pub way_faults : {f : Fault} → moved ≡ Err f → WayTold v stack room (Err f)
  way_faults e = told_as v (way_is e) refl (nothing_told v.sound)

  pub way_stops : moved ≡ Ok Stop → WayTold v stack room (Ok Stood)
  way_stops e = told_as v (way_is e) refl (nothing_told v.sound)

  module _ {f k : ℕ} (e : moved ≡ Ok (Call f k)) where
    pub call_few : depth_after (into cells n f) (length (matching_in v.list room).groups) ≤ most_groups
    call_few = few_as v (way_is e) refl

    pub call_told : depth < length stack → {after : List ℕ} → Tells (into cells n f) room after → WayTold v (set stack depth now) after (Ok (At f (depth + 1)))
    call_told high h = told_as v (way_is e) (ap (pc f) (stack_pushed stack now depth high)) (h v.list v.sound)

  module _ {next : ℕ} (e : moved ≡ Ok (Go next)) where
    module _ (on : next ≡ 0 → ⊥) where
      way_on : way_of now moved v.code (M v) (stack_of stack depth) ≡ told (pc next (stack_of stack depth)) (between cells n now next)
      way_on = way_is e ∙ ap (λ k. follow v.code (M v) ((M v).around now) k (stack_of stack depth)) (by next on)
        where
          by : (k : ℕ) → (k ≡ 0 → ⊥) → link_to k ≡ at k
          by zero z = absurd (z refl)
          by (suc k) z = refl

      pub go_few : depth_after (between cells n now next) (length (matching_in v.list room).groups) ≤ most_groups
      go_few = few_as v way_on refl

      pub go_told : {after : List ℕ} → Tells (between cells n now next) room after → WayTold v stack after (Ok (At next depth))
      go_told h = told_as v way_on refl (h v.list v.sound)

    module _ (out : next ≡ 0) {amid : List ℕ} (h : Tells (out_of cells n now) room amid) where
      way_out : way_of now moved v.code (M v) (stack_of stack depth) ≡ behind_all (out_of cells n now) (return v.code (M v) (stack_of stack depth))
      way_out = way_is e ∙ ap (λ k. follow v.code (M v) ((M v).around now) (link_to k) (stack_of stack depth)) out

      pub out_returns : WayAt records cells amid stack n depth return
      out_returns = then_returns v depth (omega arith) (out_of cells n now) way_out h

      pub out_told : {after : List ℕ} {r : Result Turned Fault} → ((w : WayAt records cells amid stack n depth return) → WayTold w stack after r) → WayTold v stack after r
      out_told t = then_told v depth (omega arith) (out_of cells n now) way_out h (t (then_returns v depth (omega arith) (out_of cells n now) way_out h))
