-- Laws of the bodies one after the other: one more is linked, and in the end all are.
-- Assumes nothing.
use Rattle.std.specs.Prelude.{ℕ, suc, ◌+◌, ◌*◌, ◌<◌, ◌≤◌, ◌≡◌, List, ◌∷◌, length, Some, None}
use Rattle.std.proofs.Math.Path.{refl, subst}
use Rattle.std.proofs.Common.{sym, ap, ◌∙◌, arith, eqb-true}
use Rattle.std.proofs.Math.Option.{Option, none, some}
use Rattle.std.proofs.Math.Decide.{dec_lt}
use Rattle.std.proofs.Math.ListN.{get_elem?}
use Rattle.cells.specs.Cells.{cell}
use Rattle.rules.specs.Text.Tokens.{Token}
use Rattle.rules.specs.Grammar.Trees.{Tokens, Action, Declaration, Description}
use Rattle.rules.specs.Limits.{deepest}
use Rattle.rules.specs.Declarations.{Word, Table, declared_of, declarations, outer_name}
use Rattle.laws_grammar.specs.Grammar.Heads.{action_head}
use Rattle.laws_orders.specs.Cited.Flat.{exit, outer, bind}
use Rattle.laws_code.specs.Cited.Code.{action_size, first_of}
use Rattle.laws_code.specs.Cited.Placed.{body_starts}
use Rattle.records.specs.Holds.{link_cell, Holds}
use Rattle.table.specs.Laws.Positions.{here}
use Rattle.records.specs.Words.{NameAt, word_at}
use Rattle.table.specs.Declarations.{DeclaredAt, declaration_list}
use Rattle.table.specs.Lookups.{Nth, nth}
use Rattle.table.specs.Views.{View, BodyAt}
use Rattle.table.specs.Laws.Views.{name_token, no_body}
use Rattle.table.specs.Ready.{Ready}
use Rattle.ways.specs.Seeking.{Ground, Starts}
use Rattle.records.specs.Kept.{Kept, LinkPut}
use Rattle.records.specs.Laws.Kept.{kept_none, kept_then, kept_wide, holds_kept}
use Rattle.ways.specs.Linked.{Linked, Same}
use Rattle.links.specs.Laws.Linked.{linked_same}
use Rattle.spelling.specs.Spelled.{Spelled}
use Rattle.ways.specs.Stack.{Pushed}
use Rattle.room.specs.Links.{hints_end}
use Rattle.ways.specs.Laws.Stack.{labelled_more}
use Rattle.ways.specs.Standing.{ActionAt, Done}
use Rattle.ways.specs.Laws.Standing.{meant_later}
use Rattle.links.specs.Laws.Layout.{number_below, BodyStands, BodyLaid, Laid, laid, body_shallow, same_place, ends_rise, ends_within, ends_first}
use Rattle.links.specs.Layout.{ends}
use Rattle.links.specs.Links.{BodyLinked, DeclarationLinked, Links}
use Rattle.links.specs.Bodies.{BodyIn, BodyDone, PartlyAt, Partly}

module _ {g : Ground} {text records labels : List ℕ} {name start : ℕ} (v : BodyIn g text records labels name start) where
  abbrev pub body_starts_lem : Starts g records start
  body_starts_lem = record { holds = v.holds; action = v.action; rest = v.next ∷ v.rest; reads = v.reads }

  pub body_within : (8 * name + 8 ≤ length records) × (name < 8192)
  body_within =
      (omega (arith, v.holds.record_room, v.named.within), omega (arith, v.holds.few, v.named.within))

  module _ {first : ℕ} (is_first : first ≡ first_of start v.action) {labels' : List ℕ} (p : Pushed records labels labels' 0 name first 0) where
    pub body_action : ActionAt g records labels' start 0 1 first deepest
    body_action = record {
      holds = v.holds;
      around = bind (word_at g.tokens name) first exit outer;
      held = labelled_more g outer (word_at g.tokens name) exit p refl v.named refl (v.means name (omega arith) v.named.within v.named.kind).1 refl;
      room = omega (arith, v.room, p.kept.long);
      few = omega (arith, v.far);
      behind = exit;
      link_is = refl;
      link_fits = omega arith;
      action = v.action;
      next = v.next;
      rest = v.rest;
      reads = v.reads;
      ends = v.ends;
      begins = is_first;
      means = meant_later g records name start (omega (arith, v.past)) v.means;
      shallow = v.shallow;
    }

    pub body_done : {mid now after : List ℕ} → Done body_action mid after → LinkPut mid now name first → BodyDone v now
    unfolding body_action
    body_done {mid} {now} d q =
        let h = v.past in
        record {
          first = q.link ∙ is_first;
          linked =
              subst (λ f. Linked now g.outer g.table (bind (word_at g.tokens name) f exit outer) start exit v.action) is_first
              (linked_same mid now g.outer g.table v.action (bind (word_at g.tokens name) first exit outer) start exit
              (record { inside = λ t x y. q.kept.inside t (λ a b. omega arith); link = λ t x y. q.kept.link t (λ a b. omega arith) }) d.linked);
          kept = kept_then name (start + action_size v.action) d.kept q.kept (omega arith) (omega arith) (omega arith) (omega arith);
        }

-- a linked body stays so if nothing in its part changes
body_same : {old now : List ℕ} (outermost : Word) (ds : Table) (own : Word) (name start to : ℕ) (ts : Tokens) (o : Option Action) → Same old now name to → name < to
    → BodyLaid ts name start to o → BodyLinked old outermost ds own name start o → BodyLinked now outermost ds own name start o
body_same outermost ds own name start to ts none s l b h = tt
body_same {old} {now} outermost ds own name start to ts (some a) s l b h =
    let p = b.past in
    let q = b.inside in (
      s.link name (omega arith) l ∙ h.0,
      linked_same old now outermost ds a _ start exit
          (record { inside = λ t x y. s.inside t (omega arith) (omega arith); link = λ t x y. s.link t (omega arith) (omega arith) }) h.1,
    )

-- the k-th declaration of a description, in the tokens and in the list of names
module _ {text records values decls : List ℕ} {ts : Tokens} {d : Description} {m : ℕ} (r : Ready text records values decls ts d m) (k : ℕ) (x : Declaration)
    (found : get_elem? (declaration_list d) k ≡ some x) where
  abbrev pub place : Laid ts x (ends k d) (body_starts d k) (ends (suc k) d)
  place = laid ts d r.stands k x found

  pub at_name : cell 2 decls k ≡ place.name
  at_name =
      let n = name_token (r.declared.each k x found) in
      same_place r.holds (cell 2 decls k) place.name n.0 place.within (n.1 ∙ sym place.token)

  pub name_there : NameAt ts (cell 2 decls k) × (word_at ts (cell 2 decls k) ≡ (declared_of x).name.word)
  name_there =
      let n = name_token (r.declared.each k x found) in
      (record { within = n.0; kind = ap (λ (t : Token). t.kind) n.1 }, ap (λ (t : Token). t.info.word) n.1)

  pub body_laid : BodyLaid ts (cell 2 decls k) (body_starts d k) (ends (suc k) d) (declared_of x).body
  body_laid = subst (λ i. BodyLaid ts i (body_starts d k) (ends (suc k) d) (declared_of x).body) (sym at_name) place.body

  -- where a body is found, it begins
  pub at_body : (s : ℕ) (a : Action) → (declared_of x).body ≡ some a → BodyAt ts (Some s) (some a) → s ≡ body_starts d k
  at_body s a e b =
      let p : BodyStands ts place.name (body_starts d k) (ends (suc k) d) a = subst (BodyLaid ts place.name (body_starts d k) (ends (suc k) d)) e place.body in
      let f = here ts s _ _ (b.1.1.reads ∙ action_head a _) in
      let g = here ts (body_starts d k) _ _ (p.reads ∙ action_head a _) in
      same_place r.holds s (body_starts d k) f.within g.within (f.token ∙ sym g.token)

-- what is linked stays linked behind it
kept_linked : {text records values decls : List ℕ} {ts : Tokens} {d : Description} {m : ℕ} (r : Ready text records values decls ts d m) {old now : List ℕ} (k : ℕ)
    → Kept old now (ends k d) (ends (suc k) d) → (j : ℕ) (y : Declaration) → get_elem? (declaration_list d) j ≡ some y → j < k
    → DeclarationLinked old decls d j y → DeclarationLinked now decls d j y
kept_linked {decls = decls} {ts} {d} r k c j y h l b =
    let e = at_name r j y h in
    let u = (place r j y h).before in
    let w = ends_rise (suc j) k d (omega arith) in
    body_same (outer_name d).word (declarations d) (declared_of y).name.word (cell 2 decls j) (body_starts d j) (ends (suc j) d) ts (declared_of y).body
    (record { inside = λ t p q. c.inside t (λ f g. omega arith); link = λ t p q. c.link t (λ f g. omega arith) }) (omega arith)
    (body_laid r j y h) b

module _ {text records decls labels : List ℕ} {k : ℕ} (v : PartlyAt text records decls labels k) where
  abbrev d : Description
  d = v.description

  abbrev ground : Ground
  ground = record {
    text = text;
    values = v.values;
    tokens = v.tokens;
    outer = (outer_name d).word;
    table = declarations d;
    spelling = link_cell v.before;
    alike = λ i j m n e. eqb-true _ _ (v.spelled.same i j m n ∙ e);
  }

  abbrev there : Nth (declaration_list d) k
  there = nth (declaration_list d) k (omega (arith, v.ready.count, v.more))

  abbrev x : Declaration
  x = there.declaration

  pub cell_room : 2 * k + 2 ≤ length decls
  cell_room = omega (arith, v.ready.declared.room, v.ready.count, v.more)

  now_holds : Holds text records v.values v.tokens
  now_holds = holds_kept v.so_far.kept v.ready.holds

  -- one more is linked
  one_more : {now : List ℕ} → Kept records now (ends k d) (ends (suc k) d) → DeclarationLinked now decls d k x → Partly v.before now decls d (k + 1)
  one_more {now} c b =
      let one : k + 1 ≡ suc k = omega arith in
      let rise = ends_rise k (suc k) d (omega arith) in
      rw one record {
        kept = kept_then 0 (ends (suc k) d) v.so_far.kept c (omega arith) (omega arith) (omega arith) (omega arith);
        each = λ j y h l. by j y h (dec_lt j k) (omega arith);
      }
    where
      by : (j : ℕ) (y : Declaration) → get_elem? (declaration_list d) j ≡ some y → Dec (j < k) → j ≤ k → DeclarationLinked now decls d j y
      by j y h (yes l) m = kept_linked v.ready k c j y h l (v.so_far.each j y h l)
      by j y h (no l) m =
          let same : j ≡ k = omega arith in
          let found : get_elem? (declaration_list d) k ≡ some y = subst (λ i. get_elem? (declaration_list d) i ≡ some y) same h in
          let q : x ≡ y = cc there.found in
          subst (λ i. DeclarationLinked now decls d i y) (sym same) (subst (DeclarationLinked now decls d k) q b)

  module _ {name : ℕ} (e : name ≡ cell 2 decls k) where
    pub view_here : View records v.values name
    view_here = record {
      text = text;
      tokens = v.tokens;
      holds = now_holds;
      declaration = x;
      stands = subst (λ i. DeclaredAt v.tokens i x) (sym e) (v.ready.declared.each k x there.found);
    }

    pub without_body : BodyAt view_here.tokens None (declared_of view_here.declaration).body → Partly v.before records decls d (k + 1)
    unfolding view_here
    without_body b =
        one_more (kept_none records (ends k d) (ends (suc k) d))
        (subst (BodyLinked records (outer_name d).word (declarations d) (declared_of x).name.word (cell 2 decls k) (body_starts d k))
        (sym (no_body v.tokens None (declared_of x).body b refl)) tt)

    name_late : ends k d ≤ name
    name_late = omega (arith, at_name v.ready k x there.found, (place v.ready k x there.found).after)

    module _ {start : ℕ} (b : BodyAt view_here.tokens (Some start) (declared_of view_here.declaration).body) where
      has_body : (a : Action) × ((declared_of x).body ≡ some a) × BodyAt v.tokens (Some start) (some a)
      unfolding view_here
      has_body = by (declared_of x).body refl b
        where
          by : (o : Option Action) → (declared_of x).body ≡ o → BodyAt v.tokens (Some start) o
              → (a : Action) × ((declared_of x).body ≡ some a) × BodyAt v.tokens (Some start) (some a)
          by none q c = absurd c
          by (some a) q c = (a, q, c)

      starts_there : start ≡ body_starts d k
      starts_there = let (a, q, c) = has_body in at_body v.ready k x there.found start a q c

      stands_there : BodyStands v.tokens name start (ends (suc k) d) has_body.0
      stands_there =
          let (a, q, c) = has_body in
          let p : BodyStands v.tokens (cell 2 decls k) (body_starts d k) (ends (suc k) d) a
          = subst (BodyLaid v.tokens (cell 2 decls k) (body_starts d k) (ends (suc k) d)) q (body_laid v.ready k x there.found) in
          subst (λ n. BodyStands v.tokens n start (ends (suc k) d) a) (sym e)
          (subst (λ s. BodyStands v.tokens (cell 2 decls k) s (ends (suc k) d) a) (sym starts_there) p)

      pub body_in : BodyIn ground text records labels name start
      body_in =
          let (a, q, c) = has_body in
          let p = stands_there in
          let l = name_late in
          let u = p.past in
          record {
            same_text = refl;
            holds = now_holds;
            room = v.space;
            named = subst (NameAt v.tokens) (sym e) (name_there v.ready k x there.found).0;
            past = p.past;
            far = omega (arith, ends_rise 0 k d (omega arith), ends_first d);
            action = a;
            next = p.next;
            rest = p.rest;
            reads = p.reads;
            ends = p.ends;
            means = λ t g h n. (v.so_far.kept.inside t (λ f i. omega arith) ∙ v.ready.means.means t h n, v.so_far.kept.link t (λ f i. omega arith));
            shallow = omega (arith, body_shallow d k x a there.found q, v.ready.shallow);
          }

      pub with_body : {now : List ℕ} → BodyDone body_in now → Partly v.before now decls d (k + 1)
      unfolding body_in
      with_body {now} f =
          let (a, q, c) = has_body in
          let p = stands_there in
          let i = p.inside in
          let l = name_late in
          let w = subst (λ n. word_at v.tokens n ≡ (declared_of x).name.word) (sym e) (name_there v.ready k x there.found).1 in
          let made : BodyLinked now (outer_name d).word (declarations d) (word_at v.tokens name) name start (some a) = (f.first, f.linked) in
          one_more (kept_wide (ends k d) (ends (suc k) d) f.kept l i)
          (subst (BodyLinked now (outer_name d).word (declarations d) (declared_of x).name.word (cell 2 decls k) (body_starts d k)) (sym q)
          (subst (λ s. BodyLinked now (outer_name d).word (declarations d) (declared_of x).name.word (cell 2 decls k) s (some a)) starts_there
          (subst (λ n. BodyLinked now (outer_name d).word (declarations d) (declared_of x).name.word n start (some a)) e
          (subst (λ o. BodyLinked now (outer_name d).word (declarations d) o name start (some a)) w made))))

-- the loop: whatever description it is
pub record Going (text before decls : List ℕ) (m : ℕ) (now : List ℕ) (k : ℕ) : Type 0 where
  pub few : k ≤ m
  pub so_far : (values : List ℕ) (ts : Tokens) (d : Description) → Ready text before values decls ts d m → Spelled before ts → Partly before now decls d k

pub start_going : (text before decls : List ℕ) (m : ℕ) → Going text before decls m before 0
start_going text before decls m = record {
  few = omega arith;
  so_far = λ values ts d r s. record { kept = kept_none before 0 (ends 0 d); each = λ j x h l. absurd (omega arith) };
}

module _ {text before decls now : List ℕ} {m k : ℕ} (g : Going text before decls m now k) where
  abbrev pub partly_at : (labels : List ℕ) → 2 * hints_end ≤ length labels → k < m → (values : List ℕ) (ts : Tokens) (d : Description)
      → Ready text before values decls ts d m → Spelled before ts
      → PartlyAt text now decls labels k
  partly_at labels s l values ts d r p = record {
    before = before;
    values = values;
    tokens = ts;
    description = d;
    count = m;
    ready = r;
    spelled = p;
    so_far = g.so_far values ts d r p;
    more = l;
    space = s;
  }

  pub one_linked : (labels : List ℕ) → 2 * hints_end ≤ length labels → k < m → {after : List ℕ}
      → ((v : PartlyAt text now decls labels k) → Partly v.before after decls v.description (k + 1)) → Going text before decls m after (k + 1)
  one_linked labels s l f = record { few = omega arith; so_far = λ values ts d r p. f (partly_at labels s l values ts d r p) }

  pub all_linked : m ≤ k → (values : List ℕ) (ts : Tokens) (d : Description) → Ready text before values decls ts d m → Spelled before ts → Links before now decls ts d
  all_linked l values ts d r s =
      let p = g.so_far values ts d r s in
      record {
        each = λ j x h. p.each j x h (omega (arith, number_below (declaration_list d) j x h, r.count));
        kept = kept_wide 0 (length ts) p.kept (omega arith) (omega (arith, ends_within k d, ap length r.stands));
      }
