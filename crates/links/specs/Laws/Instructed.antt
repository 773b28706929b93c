-- The instructions that control can come to, where the links of a description are written: each stands in the table, and each body's name leads to its
-- first one.
-- Assumes nothing.
use Prim.Native.Nat.{ℕ, zero, suc, ◌<◌, ◌≤◌}
use Rattle.std.proofs.Math.Path.{◌≡◌, refl, sym, ap, subst}
use Rattle.std.proofs.Common.{◌∙◌, arith}
use mathlib.Core.List.{List, [], ◌∷◌, map}
use Rattle.std.proofs.Math.Option.{Option, none, some}
use Rattle.std.specs.Prelude.{length}
use Rattle.std.proofs.Math.ListN.{get_elem?}
use Rattle.cells.specs.Cells.{cell}
use Rattle.rules.specs.Grammar.Trees.{Tokens, Action, Declaration, Description, flatten}
use Rattle.rules.specs.Declarations.{Word, Declared, Table, declared_of, declarations, outer_name, number_of, body_number, body_of}
use Rattle.rules.specs.Limits.{most_declarations, deepest}
use Rattle.rules.specs.Faults.Bodies.{labels, label_faults, action_faults, declared_names, body_faults, faults40}
use Rattle.laws_grammar.specs.Cited.Nesting.{action_nest}
use Rattle.laws_orders.proofs.Orders.Tests.{impossible}
use Rattle.laws_orders.specs.Cited.Flat.{Code, exit, outer, bind}
use Rattle.laws_accepted.proofs.Accepted.Faultless.{both_empty, each_empty}
use Rattle.laws_code.specs.Cited.Code.{Numbered, first_of, code_at}
use Rattle.laws_code.proofs.Links.Numbers.{Ascends, Has, fetched}
use Rattle.laws_code.specs.Cited.Bodies.{body_code, table_code, first_in, first_at, first_number}
use Rattle.laws_code.specs.Cited.Placed.{body_starts, description_code}
use Rattle.records.specs.Holds.{Holds, link_cell}
use Rattle.table.specs.Declarations.{declaration_list, all_declared}
use Rattle.table.specs.Ready.{Ready}
use Rattle.promise.specs.Reached.{Reached, first, onward}
use Rattle.records.specs.Laws.Kept.{holds_kept}
use Rattle.links.specs.Laws.Layout.{number_below, BodyStands, BodyLaid, ends_rise, body_shallow}
use Rattle.links.specs.Layout.{ends}
use Rattle.links.specs.Links.{BodyLinked, Links}
use Rattle.links.specs.Laws.Bodies.{name_there, place, body_laid}
use Rattle.links.specs.Laws.Sound.{Each, Sound, Called, Present, first_there, action_sound}
use Rattle.links.specs.Laws.Codes.{In, each_in, each_at, table_each, table_all, table_ascends, body_ascends}
use Rattle.links.specs.Laws.Numbers.{own_number}
use Rattle.promise.specs.Instructions.{InstructionHolds}

mapped_at : (list : List Declaration) (j : ℕ) (e : Declared) → get_elem? (map declared_of list) j ≡ some e
    → (x : Declaration) × (get_elem? list j ≡ some x) × (declared_of x ≡ e)
mapped_at [] j e h = impossible (cc)
mapped_at (x ∷ list) zero e h = (x, refl, cc)
mapped_at (x ∷ list) (suc j) e h = mapped_at list j e h

module _ {text before after values decls : List ℕ} {ts : Tokens} {d : Description} {m : ℕ} (r : Ready text before values decls ts d m)
    (links : Links before after decls ts d) where
  abbrev ds : Table
  ds = declarations d

  abbrev out : Word
  out = (outer_name d).word

  abbrev C : Code
  C = description_code d

  abbrev code : List Numbered
  code = table_code (body_starts d) ds

  abbrev There : ℕ → Type 0
  There n = In n code

  pub now_holds : Holds text after values ts
  now_holds = holds_kept links.kept r.holds

  declared_at : (j : ℕ) (e : Declared) → get_elem? ds j ≡ some e → (x : Declaration) × (get_elem? (declaration_list d) j ≡ some x) × (declared_of x ≡ e)
  declared_at j e h = mapped_at (declaration_list d) j e (ap (λ (l : Table). get_elem? l j) (sym (all_declared d)) ∙ h)

  first_is : (p : Word) (j : ℕ) (e : Declared) (a : Action) → number_of ds p ≡ some j → get_elem? ds j ≡ some e → e.body ≡ some a
      → C.first p ≡ first_of (body_starts d j) a
  first_is p j e a n h b =
      ap (λ (o : Option ℕ). first_number ds (body_starts d) (length (flatten d)) o) n
      ∙ (ap (λ (o : Option Declared). first_at ds (body_starts d) (length (flatten d)) (body_starts d j) o) h
      ∙ ap (λ (o : Option Action). first_in ds (body_starts d) (length (flatten d)) (body_starts d j) o) b)

  -- the body of the declaration number j, where it stands
  record Body (j : ℕ) (e : Declared) (a : Action) : Type 0 where
    begins : link_cell after (cell 2 decls j) ≡ first_of (body_starts d j) a
    linked : BodyLinked after out ds e.name.word (cell 2 decls j) (body_starts d j) (some a)
    stands : BodyStands ts (cell 2 decls j) (body_starts d j) (ends (suc j) d) a
    far : 0 < body_starts d j
    shallow : action_nest a ≤ deepest
    few : j < most_declarations
    within : cell 2 decls j < length ts

  body_of_lem : (j : ℕ) (e : Declared) (a : Action) → get_elem? ds j ≡ some e → e.body ≡ some a → Body j e a
  body_of_lem j e a h b =
      let (x, found, same) = declared_at j e h in
      let body : (declared_of x).body ≡ some a = ap (λ (y : Declared). y.body) same ∙ b in
      let own : (declared_of x).name.word ≡ e.name.word = ap (λ (y : Declared). y.name.word) same in
      let linked : BodyLinked after out ds (declared_of x).name.word (cell 2 decls j) (body_starts d j) (some a)
      = subst (BodyLinked after out ds (declared_of x).name.word (cell 2 decls j) (body_starts d j)) body (links.each j x found) in
      let stands : BodyStands ts (cell 2 decls j) (body_starts d j) (ends (suc j) d) a
      = subst (BodyLaid ts (cell 2 decls j) (body_starts d j) (ends (suc j) d)) body (body_laid r j x found) in
      record {
        begins = linked.0;
        linked = subst (λ w. BodyLinked after out ds w (cell 2 decls j) (body_starts d j) (some a)) own linked;
        stands = stands;
        far = omega (arith, stands.past);
        shallow = omega (arith, body_shallow d j x a found body, r.shallow);
        few = omega (arith, number_below (declaration_list d) j x found, r.count, r.few);
        within = (name_there r j x found).0.within;
      }

  -- every number of the code finds its instruction
  code_ascending : Ascends (ends 0 d) (ends (length (declaration_list d)) d) code
  code_ascending =
      subst (λ (l : Table). Ascends (ends 0 d) (ends (length (declaration_list d)) d) (table_code (body_starts d) l)) (sym (all_declared d))
      (table_ascends (declaration_list d) (body_starts d) (λ k. ends k d)
      (λ k x h.
      let p = place r k x h in
      body_ascends (declared_of x).name.word p.name (body_starts d k) (ends k d) (ends (suc k) d) ts (declared_of x).body p.after
      (ends_rise k (suc k) d (omega arith)) p.body))

  abbrev Here : Numbered → Type 0
  Here = Present text after values ts now_holds decls out ds C There

  both : (xs : List Numbered) → Has C.instr xs → Each (λ x. There x.number) xs → Each Here xs
  both [] h t = tt
  both (x ∷ xs) h t = ((h.0, t.0), both xs h.1 t.1)

  all_here : Each Here code
  all_here = both code (fetched code_ascending) (each_in code code (λ n h. h))

  body_here : (j : ℕ) (e : Declared) (a : Action) → get_elem? ds j ≡ some e → e.body ≡ some a
      → Each Here (code_at (bind e.name.word (first_of (body_starts d j) a) exit outer) (body_starts d j) exit a)
  body_here j e a h b =
      subst (λ (o : Option Action). Each Here (body_code e.name.word (body_starts d j) o)) b (table_each Here ds (body_starts d) j e h all_here)

  first_in_lem : (p : Word) (j : ℕ) (e : Declared) (a : Action) → number_of ds p ≡ some j → get_elem? ds j ≡ some e → e.body ≡ some a → There (C.first p)
  first_in_lem p j e a n h b =
      subst There (sym (first_is p j e a n h b))
      (first_there text after values ts now_holds decls out ds C There a _ (body_starts d j) exit (body_here j e a h b))

  called : (p : Word) (j : ℕ) (e : Declared) (a : Action) → number_of ds p ≡ some j → get_elem? ds j ≡ some e → e.body ≡ some a
      → Called text after values ts now_holds decls out ds C There p j
  called p j e a n h b =
      let y = body_of_lem j e a h b in
      record { few = y.few; within = y.within; begins = y.begins ∙ sym (first_is p j e a n h b); there = first_in_lem p j e a n h b }

  module _ (of40 : faults40 out ds ds ≡ []) where
    abbrev SoundAt : ℕ → Type 0
    SoundAt = Sound text after values ts now_holds decls out ds C There

    body_sound : (j : ℕ) (e : Declared) → get_elem? ds j ≡ some e → Each (λ x. SoundAt x.number) (body_code e.name.word (body_starts d j) e.body)
    unfolding faults40
    body_sound j e h = by e.body refl
      where
        by : (o : Option Action) → e.body ≡ o → Each (λ x. SoundAt x.number) (body_code e.name.word (body_starts d j) o)
        by none b = tt
        by (some a) b =
            let y = body_of_lem j e a h b in
            let s = y.stands in
            let f = each_empty (λ (e : Declared). body_faults out ds e.name.word e.body) (faults40 out ds) (λ e ds. refl) ds j e of40 h in
            let g : body_faults out ds e.name.word (some a) ≡ [] = subst (λ (o : Option Action). body_faults out ds e.name.word o ≡ []) b f in
            let fs = both_empty (action_faults out ds (e.name.word ∷ []) a) (label_faults (declared_names out ds ds) (labels a [])) g in
            let here = body_here j e a h b in
            let first = first_there text after values ts now_holds decls out ds C There a _ (body_starts d j) exit here in
            action_sound text after values ts now_holds decls out ds C There called a (bind e.name.word (first_of (body_starts d j) a) exit outer) (body_starts d j) exit
            s.next s.rest y.far s.reads s.ends fs.0 y.shallow y.linked.1 tt (first, tt, tt) here

    all_sound : Each (λ x. SoundAt x.number) code
    all_sound = table_all (λ x. SoundAt x.number) ds (body_starts d) body_sound

    first_body : (p : Word) (a : Action) → body_of ds p ≡ some a → There (C.first p)
    unfolding body_of body_number
    first_body p a e = by (number_of ds p) refl e
      where
        declared : (j : ℕ) (o : Option Declared) → number_of ds p ≡ some j → get_elem? ds j ≡ o → ◌≡◌ {A = Option Action} (elim o [ none ↦ none | some d ↦ d.body ]) (some a)
            → There (C.first p)
        declared j none n h q = impossible (cc)
        declared j (some e) n h q = first_in_lem p j e a n h q

        by : (o : Option ℕ) → number_of ds p ≡ o → body_number ds o ≡ some a → There (C.first p)
        by none n q = impossible (cc)
        by (some j) n q = declared j (get_elem? ds j) n refl q

    reached_there : (n : ℕ) → Reached ds C n → There n
    reached_there _ (first p a e) = first_body p a e
    reached_there _ (onward n g q l) = (each_at SoundAt code n all_sound (reached_there n q)).leads g l

    -- every instruction that control can come to stands in the table
    pub reached_holds : (n : ℕ) → Reached (declarations d) (description_code d) n
        → (0 < n) × ((n < length ts) × InstructionHolds after decls ts (outer_name d).word (declarations d) (description_code d) n ((description_code d).instr n))
    reached_holds n q = let s = each_at SoundAt code n all_sound (reached_there n q) in (s.past, (s.within, s.instruction))

  -- what the name of a body leads to is where the code of its name begins
  pub starts_at : (k : ℕ) (x : Declaration) (a : Action) → get_elem? (declaration_list d) k ≡ some x → (declared_of x).body ≡ some a
      → (body_of (declarations d) (declared_of x).name.word ≡ some a) × (link_cell after (cell 2 decls k) ≡ (description_code d).first (declared_of x).name.word)
  unfolding body_of body_number
  starts_at k x a h b =
      let found : get_elem? ds k ≡ some (declared_of x) = ap (λ (l : Table). get_elem? l k) (all_declared d) ∙ mapped_to (declaration_list d) k x h in
      let number = own_number out ds k (declared_of x) r.lawful found in (
        ap (body_number ds) number ∙ (ap (λ (o : Option Declared). elim o as (λ z. Option Action) [ none ↦ none | some e ↦ e.body ]) found ∙ b),
        (body_of_lem k (declared_of x) a found b).begins ∙ sym (first_is (declared_of x).name.word k (declared_of x) a number found b),
      )
    where
      mapped_to : (list : List Declaration) (j : ℕ) (y : Declaration) → get_elem? list j ≡ some y → get_elem? (map declared_of list) j ≡ some (declared_of y)
      mapped_to [] j y q = impossible (cc)
      mapped_to (z ∷ list) zero y q = let s : z ≡ y = cc in ap (λ (w : Declaration). some (declared_of w)) s
      mapped_to (z ∷ list) (suc j) y q = mapped_to list j y q
