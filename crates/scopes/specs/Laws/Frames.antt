-- Laws of frames: how each kind of token changes the scopes around it.
use Rattle.std.specs.Prelude.{ℕ, suc, ◌+◌, ◌-◌, ◌*◌, ◌<◌, ◌≤◌, ◌≡◌, refl, Bool, true, false, List, [], ◌∷◌, ◌++◌, length, drop}
use Rattle.std.proofs.Common.{sym, ap, ◌∙◌, subst, add-one, arith}
use Rattle.std.proofs.Math.Option.{none, some}
use Rattle.cells.specs.Cells.{cell, put_cell}
use Rattle.cells.proofs.Laws.{length_put, le_put_same, cell_other}
use Rattle.rules.specs.Text.Tokens.{kind_no, Comma, Semi, Becomes, BEGIN, END, NEXT}
use Rattle.rules.specs.Grammar.Trees.{Tokens}
use Rattle.rules.specs.Declarations.{Table}
use Rattle.rules.specs.Whole.Sets.{member}
use Rattle.rules.specs.Faults.Whole.{Scope, member_scope}
use Rattle.records.specs.Holds.{token_at, Tabled}
use Rattle.table.specs.Scans.{no as number}
use Rattle.reading.specs.Laws.Reading.{next_token}
use Rattle.reading.specs.Groups.{more}
use Rattle.scopes.specs.Walks.{opens, around, outside, last_open, labelling, walk, faults_at}
use Rattle.scopes.specs.Laws.Walks.{walk_begin, walk_end, walk_semi, walk_next, walk_comma, walk_becomes, walk_other}
use Rattle.room.specs.Whole.{scopes_end, scope_cell, opened_cell, labels_size}
use Rattle.scopes.specs.Labels.{Labelled, Scoped, names_from, Pushed}
use Rattle.scopes.specs.Laws.Labels.{by_kinds, scope_kept}
use Rattle.scopes.specs.Frames.{Frames, no_frames, frame, FramePushed, Surrounding, Turning, Opened, GroupBase, Followed, NextGroup, Stack, Turned, Standing, Onward, Fresh}

frames_kept : {ts : Tokens} {old new : List ℕ} {depth limit : ℕ} {σ : List Scope} → depth ≤ 8192 → ((j : ℕ) → j < limit → cell 2 new j ≡ cell 2 old j)
    → ((j : ℕ) → scope_cell depth ≤ j → j < scopes_end → cell 2 new j ≡ cell 2 old j) → Frames ts old depth limit σ → Frames ts new depth limit σ
frames_kept l low high no_frames = no_frames
frames_kept l low high (frame {depth} {limit} {base} {top} b t h e s f) =
    frame (high (scope_cell (suc depth)) (omega arith) (omega arith) ∙ b) (high (scope_cell (suc depth) + 1) (omega arith) (omega arith) ∙ t) h e (scope_kept limit h low s)
    (frames_kept (omega arith) (λ j x. low j (omega arith)) (λ j x y. high j (omega arith) y) f)

frames_under : {ts : Tokens} {labels : List ℕ} {depth limit new : ℕ} {σ : List Scope} → limit ≤ new → Frames ts labels depth limit σ
    → Frames ts labels depth new σ
frames_under h no_frames = no_frames
frames_under {new = new} h (frame b t l e s f) = frame {limit = new} b t (omega arith) e s f

-- whether the innermost open block is the body itself
pub last_open_lem : {ts : Tokens} {labels : List ℕ} {depth limit : ℕ} {σ : List Scope} → depth < 2 → Frames ts labels depth limit σ → last_open σ ≡ true
last_open_lem h no_frames = refl
last_open_lem h (frame b t l e s no_frames) = refl
last_open_lem h (frame b t l e s (frame c u m f r g)) = absurd (omega arith)

inner_open : {ts : Tokens} {labels : List ℕ} {depth limit : ℕ} {σ : List Scope} → 2 ≤ depth → Frames ts labels depth limit σ → last_open σ ≡ false
inner_open h no_frames = absurd (omega arith)
inner_open h (frame b t l e s no_frames) = absurd (omega arith)
inner_open h (frame b t l e s (frame c u m f r g)) = refl

-- a scope without labels, and no scope
scoped_empty : {ts : Tokens} {labels : List ℕ} {base top : ℕ} → base ≡ top → Scoped ts labels base top (some [])
unfolding names_from
scoped_empty {ts} {labels} {base} {top} e = record {
  around = λ l. let z : top - base ≡ 0 = omega arith in sym (ap (λ (c : ℕ). some (names_from ts labels base c)) z);
  nowhere = λ l. absurd (omega arith);
}

pub scoped_none : {ts : Tokens} {labels : List ℕ} {base top : ℕ} → top < base → Scoped ts labels base top none
scoped_none h = record { around = λ l. absurd (omega arith); nowhere = λ l. refl }

pub frame_pushed : {old mid new : List ℕ} {depth base top : ℕ} → labels_size ≤ length old → base < 65536 → top < 65536 → mid ≡ put_cell 2 old (opened_cell depth) base
    → new ≡ put_cell 2 mid (opened_cell depth + 1) top → FramePushed old new depth base top
frame_pushed {old} {mid} {new} {depth} {base} {top} h b t e f =
    let at = opened_cell depth in
    let one : length mid ≡ length old = ap length e ∙ length_put 2 old (2 * at) base in
    let two : length new ≡ length mid = ap length f ∙ length_put 2 mid (2 * (at + 1)) top in
    let later : (j : ℕ) → (j ≡ at + 1 → ⊥) → cell 2 new j ≡ cell 2 mid j = λ j x. ap (λ (l : List ℕ). cell 2 l j) f ∙ cell_other 2 mid (at + 1) top j x in
    record {
      base_there = later at (λ x. omega arith) ∙ (ap (λ (l : List ℕ). cell 2 l at) e ∙ le_put_same 2 old (2 * at) base (omega arith) b);
      top_there = ap (λ (l : List ℕ). cell 2 l (at + 1)) f ∙ le_put_same 2 mid (2 * (at + 1)) top (omega (arith, one)) t;
      kept = λ j x y. later j y ∙ (ap (λ (l : List ℕ). cell 2 l j) e ∙ cell_other 2 old at base j x);
      size = two ∙ one;
    }

record Around (ts : Tokens) (labels : List ℕ) (depth limit base top : ℕ) (σ : List Scope) : Type 0 where
  scoped : Scoped ts labels base top (around σ)
  lower : top ≤ limit
  edge : base ≤ top + 1
  same : Frames ts labels depth top σ
  outer : Frames ts labels (depth - 1) top (outside σ)

surrounded : {ts : Tokens} {labels : List ℕ} {depth limit base top : ℕ} {σ : List Scope} → Surrounding labels depth limit base top
    → Frames ts labels depth limit σ
    → Around ts labels depth limit base top σ
surrounded x no_frames =
    let y = x.outermost refl in
    record { scoped = scoped_none (omega (arith, y.0, y.1)); lower = omega (arith, y.1); edge = omega (arith, y.0, y.1); same = no_frames; outer = no_frames }
surrounded {ts} {labels} {base = base} {top = top} x (frame {depth} {base = base₀} {top = top₀} p q l e r f) =
    let y = x.inside (λ z. omega arith) in
    let eb : base ≡ base₀ = y.0 ∙ p in
    let et : top ≡ top₀ = y.1 ∙ q in
    let less : suc depth - 1 ≡ depth = omega arith in
    rw (eb, et) (record { scoped = r; lower = l; edge = e; same = frame {limit = top₀} p q (omega arith) e r f; outer = rw less f })

-- what the steps of a turn ask
module _ {text records labels : List ℕ} {n i kind : ℕ} {several : Bool} {depth base top : ℕ} (x : Turning text records labels n i kind several depth base top) where
  pub to_read : (labels_size ≤ length labels) × ((depth < 8192) × (top < 65536))
  to_read = (x.stack.space, (omega (arith, x.few), omega (arith, x.few)))

  pub to_close : kind ≡ kind_no END → (labels_size ≤ length labels) × ((0 < depth) × ((depth < 8192) × (top < 65536)))
  to_close e = (x.stack.space, (omega (arith, x.inner e), (omega (arith, x.few), omega (arith, x.few))))

  pub to_open : (labels_size ≤ length labels) × ((depth < 8192) × ((base < 65536) × (top < 65536)))
  to_open = (x.stack.space, (omega (arith, x.few), (omega (arith, x.few, x.stack.edge), omega (arith, x.few))))

  pub to_push : Tabled text records n × ((i < n) × ((1 ≤ i) × ((top < scopes_end) × (2 * top + 2 ≤ length labels))))
  to_push = (x.worded, (x.within, (x.later, (omega (arith, x.few), omega (arith, x.stack.space, x.few)))))

module _ {several : Bool} {old new : List ℕ} {depth base top : ℕ} (p : FramePushed old new depth base top) where
  pub opened_more : several ≡ true → Opened several old new depth base top (depth + 1) top top
  opened_more e = record { pushed = p; deeper = refl; same = refl; scope = subst (λ (c : Bool). GroupBase c base top top) (sym e) refl }

  pub opened_one : several ≡ false → Opened several old new depth base top (depth + 1) base top
  opened_one e = record { pushed = p; deeper = refl; same = refl; scope = subst (λ (c : Bool). GroupBase c base top base) (sym e) refl }

module _ {several : Bool} (labels : List ℕ) {depth limit : ℕ} where
  pub followed_more : {depth₁ base₁ top₁ : ℕ} → several ≡ true → Fresh depth limit depth₁ base₁ top₁ → Followed several labels depth limit depth₁ base₁ top₁
  followed_more {base₁ = base₁} {top₁} e f = record { same = f.depth_is; group = subst (λ (c : Bool). NextGroup c labels depth limit base₁ top₁) (sym e) (f.base_is, f.top_is) }

  pub followed_one : {depth₁ base₁ top₁ : ℕ} → several ≡ false → depth₁ ≡ depth → Surrounding labels depth limit base₁ top₁
      → Followed several labels depth limit depth₁ base₁ top₁
  followed_one {base₁ = base₁} {top₁} e d x = record { same = d; group = subst (λ (c : Bool). NextGroup c labels depth limit base₁ top₁) (sym e) x }

begin_opens : opens 19 ≡ true
unfolding opens member
begin_opens = refl

next_opens : opens 21 ≡ true
unfolding opens member
next_opens = refl

module _ {text records old : List ℕ} {n i kind : ℕ} {several : Bool} {depth base top : ℕ} (x : Turning text records old n i kind several depth base top) where
  here : (v : Tabled text records n) → drop i v.tokens ≡ token_at v.tokens i ∷ drop (i + 1) v.tokens
  here v = next_token (by_kinds v) i x.within

  kind_here : {k : ℕ} (v : Tabled text records n) → kind ≡ k → number (token_at v.tokens i) ≡ k
  kind_here v e = sym (x.kind_is ∙ (by_kinds v).kind i x.within) ∙ e

  -- a group that begins behind BEGIN or NEXT
  more_here : (k : ℕ) → opens k ≡ true → kind ≡ k → (v : Tabled text records n) → more (drop (i + 1) v.tokens) ≡ several
  more_here k o e v = sym (x.told.tells (by_kinds v) (ap opens e ∙ o))

  -- the walk from the token i on
  from_here : (ds : Table) (v : Tabled text records n) (σ : List Scope) (s : Scope)
      → walk ds σ s (token_at v.tokens (i - 1)) (drop i v.tokens) ≡ walk ds σ s (token_at v.tokens (i - 1))
      (token_at v.tokens i ∷ drop (i + 1) v.tokens)
  from_here ds v σ s = ap (walk ds σ s (token_at v.tokens (i - 1))) (here v)

  -- the names below a lower top
  labelled_under : {new : List ℕ} {t : ℕ} → t ≤ top → ((j : ℕ) → j < top → cell 2 new j ≡ cell 2 old j) → length new ≡ length old → Labelled records new n t
  labelled_under {new} {t} l k e =
      let y = x.stack.labelled in
      record {
        room = omega (arith, y.room);
        inside = λ j h. let q : j < top = omega arith in rw (k j q) (y.inside j q);
        names = λ j h. let q : j < top = omega arith in rw (k j q) (y.names j q);
      }

  -- back to the scope around the innermost open block
  module _ {base₁ top₁ : ℕ} (r : Surrounding old depth top base₁ top₁) where
    around_stack : Stack records old n base₁ top₁
    around_stack =
        let y = surrounded r x.standing.frames in
        record { labelled = labelled_under y.lower (λ j h. refl) refl; edge = y.edge; space = x.stack.space }

    around_lower : top₁ ≤ top
    around_lower = (surrounded r x.standing.frames).lower

    pub turned_comma : {depth₁ : ℕ} → kind ≡ kind_no Comma → depth₁ ≡ depth → Turned text records old old n i depth base top depth₁ base₁ top₁
    turned_comma e d = rw d (record {
      stack = around_stack;
      grown = omega (arith, around_lower);
      on = λ ds v σ s z.
          let y = surrounded r z.frames in
          record {
            scopes = σ;
            scope = around σ;
            standing = record { scoped = y.scoped; frames = y.same };
            walks = from_here ds v σ s ∙ walk_comma ds σ s _ _ _ (kind_here v e);
          };
    })

    pub turned_end : {depth₁ : ℕ} → kind ≡ kind_no END → depth₁ ≡ depth - 1 → Turned text records old old n i depth base top depth₁ base₁ top₁
    turned_end e d = rw d (record {
      stack = around_stack;
      grown = omega (arith, around_lower);
      on = λ ds v σ s z.
          let y = surrounded r z.frames in
          record {
            scopes = outside σ;
            scope = around σ;
            standing = record { scoped = y.scoped; frames = y.outer };
            walks = from_here ds v σ s ∙ walk_end ds σ s _ _ _ (kind_here v e) (inner_open (x.inner e) z.frames);
          };
    })

  -- a scope without labels
  fresh_stack : Stack records old n top top
  fresh_stack = record { labelled = x.stack.labelled; edge = omega arith; space = x.stack.space }

  pub turned_semi : {depth₁ base₁ top₁ : ℕ} → kind ≡ kind_no Semi → Fresh depth top depth₁ base₁ top₁ → Turned text records old old n i depth base top depth₁ base₁ top₁
  turned_semi e f = rw (f.depth_is, f.base_is, f.top_is) (record {
    stack = fresh_stack;
    grown = omega arith;
    on = λ ds v σ s z. record {
      scopes = σ;
      scope = some [];
      standing = record { scoped = scoped_empty refl; frames = z.frames };
      walks = from_here ds v σ s ∙ walk_semi ds σ s _ _ _ (kind_here v e);
    };
  })

  pub turned_next : {depth₁ base₁ top₁ : ℕ} → kind ≡ kind_no NEXT → Followed several old depth top depth₁ base₁ top₁
      → Turned text records old old n i depth base top depth₁ base₁ top₁
  turned_next {depth₁} {base₁} {top₁} e f = rw f.same (record {
    stack = stack_by several f.group;
    grown = grown_by several f.group;
    on = λ ds v σ s z. on_by ds v σ s z several (more_here 21 next_opens e v) f.group;
  })
    where
      stack_by : (b : Bool) → NextGroup b old depth top base₁ top₁ → Stack records old n base₁ top₁
      stack_by true y = rw (y.0, y.1) fresh_stack
      stack_by false y = around_stack y

      grown_by : (b : Bool) → NextGroup b old depth top base₁ top₁ → top₁ + depth ≤ top + depth + 1
      grown_by true y = omega (arith, y.1)
      grown_by false y = omega (arith, around_lower y)

      on_by : (ds : Table) (v : Tabled text records n) (σ : List Scope) (s : Scope) → Standing v.tokens old depth base top σ s → (b : Bool) → more
          (drop (i + 1) v.tokens) ≡ b
          → NextGroup b old depth top base₁ top₁ → Onward ds v.tokens old i depth base₁ top₁ σ s
      on_by ds v σ s z true q y = rw (y.0, y.1) (record {
        scopes = σ;
        scope = some [];
        standing = record { scoped = scoped_empty refl; frames = z.frames };
        walks = from_here ds v σ s ∙ (walk_next ds σ s _ _ _ (kind_here v e)
            ∙ ap (λ (b : Bool). faults_at ds s (token_at v.tokens i) (drop (i + 1) v.tokens) ++ walk ds σ (member_scope ds b (around σ))
            (token_at v.tokens i) (drop (i + 1) v.tokens)) q);
      })
      on_by ds v σ s z false q y =
          let a = surrounded y z.frames in
          record {
            scopes = σ;
            scope = around σ;
            standing = record { scoped = a.scoped; frames = a.same };
            walks = from_here ds v σ s ∙ (walk_next ds σ s _ _ _ (kind_here v e)
                ∙ ap (λ (b : Bool). faults_at ds s (token_at v.tokens i) (drop (i + 1) v.tokens) ++ walk ds σ (member_scope ds b (around σ))
                (token_at v.tokens i) (drop (i + 1) v.tokens)) q);
          }

  pub turned_begin : {new : List ℕ} {depth₁ base₁ top₁ : ℕ} → kind ≡ kind_no BEGIN → Opened several old new depth base top depth₁ base₁ top₁
      → Turned text records old new n i depth base top depth₁ base₁ top₁
  turned_begin {new} {depth₁} {base₁} {top₁} e o = rw (o.deeper ∙ add-one depth, o.same) (record {
    stack = record {
      labelled = labelled_under (omega arith) below o.pushed.size;
      edge = edge_by several o.scope;
      space = omega (arith, x.stack.space, o.pushed.size);
    };
    grown = omega arith;
    on = λ ds v σ s z. on_by ds v σ s z several (more_here 19 begin_opens e v) o.scope;
  })
    where
      below : (j : ℕ) → j < top → cell 2 new j ≡ cell 2 old j
      below j h = o.pushed.kept j (λ y. omega (arith, x.few)) (λ y. omega (arith, x.few))

      edge_by : (b : Bool) → GroupBase b base top base₁ → base₁ ≤ top + 1
      edge_by true y = omega arith
      edge_by false y = omega (arith, x.stack.edge)

      frames_by : (v : Tabled text records n) (σ : List Scope) (s : Scope) → Standing v.tokens old depth base top σ s → Frames v.tokens new
          (suc depth) top (s ∷ σ)
      frames_by v σ s z =
          let at : scope_cell (suc depth) ≡ opened_cell depth = omega arith in
          frame {limit = top} (ap (cell 2 new) at ∙ o.pushed.base_there) (ap (λ (y : ℕ). cell 2 new (y + 1)) at ∙ o.pushed.top_there) (omega arith)
          x.stack.edge
          (scope_kept top (omega arith) below z.scoped)
          (frames_kept (omega (arith, x.few)) below (λ j h l. o.pushed.kept j (λ y. omega (arith, x.few)) (λ y. omega (arith, x.few))) z.frames)

      on_by : (ds : Table) (v : Tabled text records n) (σ : List Scope) (s : Scope) → Standing v.tokens old depth base top σ s → (b : Bool) → more
          (drop (i + 1) v.tokens) ≡ b
          → GroupBase b base top base₁ → Onward ds v.tokens new i (suc depth) base₁ top σ s
      on_by ds v σ s z b q y = record {
        scopes = s ∷ σ;
        scope = member_scope ds b s;
        standing = record { scoped = scoped_by b y; frames = frames_by v σ s z };
        walks = from_here ds v σ s ∙ (walk_begin ds σ s _ _ _ (kind_here v e)
            ∙ ap (λ (c : Bool). faults_at ds s (token_at v.tokens i) (drop (i + 1) v.tokens) ++ walk ds (s ∷ σ) (member_scope ds c s)
            (token_at v.tokens i) (drop (i + 1) v.tokens)) q);
      }
        where
          scoped_by : (b : Bool) → GroupBase b base top base₁ → Scoped v.tokens new base₁ top (member_scope ds b s)
          scoped_by true y = scoped_empty y
          scoped_by false y = rw y (scope_kept top (omega arith) below z.scoped)

  pub turned_becomes : {new : List ℕ} {r : ℕ} → kind ≡ kind_no Becomes → Pushed text records old new n i base top r → length new ≡ length old
      → Turned text records old new n i depth base top depth base r
  turned_becomes {new} {r} e p size = record {
    stack = record { labelled = p.labelled x.stack.labelled; edge = omega (arith, x.stack.edge, p.low); space = omega (arith, x.stack.space) };
    grown = omega (arith, p.high);
    on = λ ds v σ s z. record {
      scopes = σ;
      scope = labelling (token_at v.tokens (i - 1)) s;
      standing = record {
        scoped = p.scope v s z.scoped;
        frames = frames_under p.low (frames_kept (omega (arith, x.few)) (λ j h. p.kept j (omega (arith, x.few)) (λ y. omega arith))
            (λ j h l. p.kept j l (λ y. omega (arith, x.few))) z.frames);
      };
      walks = from_here ds v σ s ∙ walk_becomes ds σ s _ _ _ (kind_here v e);
    };
  }

  pub turned_other : (kind ≡ kind_no BEGIN → ⊥) → (kind ≡ kind_no END → ⊥) → (kind ≡ kind_no Semi → ⊥) → (kind ≡ kind_no NEXT → ⊥) → (kind ≡ kind_no Comma → ⊥) → (kind ≡ kind_no Becomes → ⊥)
      → Turned text records old old n i depth base top depth base top
  turned_other a b c d f g = record {
    stack = x.stack;
    grown = omega arith;
    on = λ ds v σ s z.
        let q = x.kind_is ∙ (by_kinds v).kind i x.within in
        record {
          scopes = σ;
          scope = s;
          standing = z;
          walks = from_here ds v σ s ∙ walk_other ds σ s _ _ _ (λ y. a (q ∙ y)) (λ y. b (q ∙ y)) (λ y. c (q ∙ y)) (λ y. d (q ∙ y)) (λ y. f (q ∙ y))
              (λ y. g (q ∙ y));
        };
  }
