-- Laws of a name in an access: each way in which it is judged by its declaration.
-- Assumes nothing.
use Rattle.std.specs.Prelude.{ℕ, ◌+◌, ◌*◌, ◌<◌, ◌≤◌, ◌≡◌, refl, Bool, true, false, not, List, [], ◌∷◌, ◌++◌, length, drop, Some, None, is_none, unwrap_or}
use Rattle.std.proofs.Common.{sym, ap, ◌∙◌, arith}
use Rattle.std.proofs.Math.Option.{Option, none, some}
use Rattle.rules.specs.Text.Tokens.{Name, kind_no, Token, tk}
use Rattle.rules.specs.Limits.{longest_text}
use Rattle.rules.specs.Grammar.Trees.{Tokens, bit, upto, Bits, all_bits, bits, bits_tokens}
use Rattle.rules.specs.Grammar.Precedence.{Index, no_index, index}
use Rattle.rules.specs.Declarations.{Names as Span-of, BitNames, one_unnamed, these, main_names, declared_of, number_of}
use Rattle.rules.specs.Faults.Fault.{fault, when}
use Rattle.rules.specs.Faults.Bodies.{Judged, judged_as, sound_bits, access_judged, subscripted, judge_name, judge_access}
use Rattle.records.specs.Holds.{token_at, place_cell, inside_cell}
use Rattle.keys.specs.Keys.{key, no_key, least_by, Small, none_small, also_small}
use Rattle.table.specs.Meaning.{meaning_by, outer_only, unknown_name}
use Rattle.table.specs.Laws.Positions.{record_within, behind_far}
use Rattle.table.specs.Bits.{BitsView, bits_size, access_bits}
use Rattle.table.specs.Laws.Bits.{access_bits_lem}
use Rattle.table.specs.Shown.{shown_bits, shown_words}
use Rattle.table.specs.declared.views.Names.{Names}
use Rattle.table.specs.Laws.Operators.{no_bits}
use Rattle.weighing.specs.Weights.{Weighs}
use Rattle.weighing.specs.Laws.Weights.{weighs_fault, weighs_sound}
use Rattle.accesses.specs.Scene.{Scene, outer_of, table_of}
use Rattle.accesses.specs.Laws.Lookups.{Found, undeclared, declared}
use Rattle.accesses.specs.Lengths.{access_length, Short}
use Rattle.accesses.specs.Laws.Lengths.{bits_judged_lem, access_fits}
use Rattle.accesses.specs.Names.{fits_words, has_index, is_missing, Shows, NamedAt, NamedAnswer}

fits_words_lem : (w : Option Span-of) (x : Index) → fits_words (shown_words w) (has_index x) ≡ subscripted w x
fits_words_lem none no_index = refl
fits_words_lem none (index l e r) = refl
fits_words_lem (some s) no_index = refl
fits_words_lem (some s) (index l e r) = refl

-- one fault, and another of a larger number at its place
one_small : (n p : ℕ) → n < 128 → p ≤ longest_text → Small (fault n p)
one_small n p h l = record { number = h; place = l }

pub weighs_one : (n p m : ℕ) → n < 128 → p ≤ longest_text → Weighs (key (fault n p)) 0 (judged_as (fault n p ∷ []) m)
unfolding least_by
weighs_one n p m h l =
    weighs_fault (fault n p ∷ []) m _ (also_small (one_small n p h l) none_small) (omega arith) (omega arith)

weighs_first : (p m : ℕ) (b : Bool) → p ≤ longest_text → Weighs (key (fault 41 p)) 0 (judged_as (fault 41 p ∷ when b 42 p) m)
unfolding least_by
weighs_first p m false l = weighs_one 41 p m (omega arith) l
weighs_first p m true l =
    weighs_fault (fault 41 p ∷ fault 42 p ∷ []) m _
    (also_small (one_small 41 p (omega arith) l) (also_small (one_small 42 p (omega arith) l) none_small)) (omega arith) (omega arith)

pub missing_bits : (b : Option BitNames) → is_missing (shown_bits b) ≡ true → b ≡ none
missing_bits none e = refl
missing_bits (some one_unnamed) e = absurd (let z : ◌≡◌ {A = ℕ} 0 1 = cc in omega arith)
missing_bits (some (these s)) e = absurd (let z : ◌≡◌ {A = ℕ} 0 1 = cc in omega arith)

pub present_bits : (b : Option BitNames) → is_missing (shown_bits b) ≡ false → (c : BitNames) × (b ≡ some c)
present_bits none e = absurd (let z : ◌≡◌ {A = ℕ} 0 1 = cc in omega arith)
present_bits (some c) e = (c, refl)

with_bits : (p : ℕ) (words own given : Names) (t : Bool) (w : Option Span-of) (c : BitNames) (x : Index) (g : Bits)
    → fits_words words t ≡ subscripted w x → own ≡ shown_bits (some c) → given ≡ shown_bits (main_names (access_bits g)) → let n = access_length own given in
    access_judged p w (some c) x g ≡ judged_as (when (not (fits_words words t)) 41 p ++ when (is_none n) 42 p) (sound_bits (when (is_none n) 42 p) (unwrap_or n 0))
with_bits p words own given t w c x g f o h = rw (f, o, h, bits_judged_lem p c g)

module _ (p : ℕ) {words own given : Names} {t : Bool} {w : Option Span-of} {b : Option BitNames} {x : Index} {g : Bits} (s : Shows words own given t w b x g) where
  pub access_bitless : is_missing own ≡ true → p ≤ longest_text → Weighs (key (fault 41 p)) 0 (access_judged p w b x g)
  access_bitless e l = rw (missing_bits b (ap is_missing (sym s.own_shown) ∙ e)) (weighs_one 41 p 0 (omega arith) l)

  module _ (has : is_missing own ≡ false) where
    bits_are : (c : BitNames) × (b ≡ some c)
    bits_are = present_bits b (ap is_missing (sym s.own_shown) ∙ has)

    fits : fits_words words t ≡ subscripted w x
    fits = ap (λ n. fits_words n t) s.words_shown ∙ ap (fits_words (shown_words w)) s.index_shown ∙ fits_words_lem w x

    by_length : let n = access_length own given in
        access_judged p w b x g ≡ judged_as (when (not (fits_words words t)) 41 p ++ when (is_none n) 42 p) (sound_bits (when (is_none n) 42 p) (unwrap_or n 0))
    by_length =
        ap (λ b. access_judged p w b x g) bits_are.1
        ∙ with_bits p words own given t w bits_are.0 x g fits (s.own_shown ∙ ap shown_bits bits_are.1) s.given_shown

    pub access_unfit : fits_words words t ≡ false → p ≤ longest_text → Weighs (key (fault 41 p)) 0 (access_judged p w b x g)
    access_unfit e l = rw (by_length, e) (weighs_first p (sound_bits (when (is_none (access_length own given)) 42 p) (unwrap_or (access_length own given) 0)) (is_none (access_length own given)) l)

    module _ (fit : fits_words words t ≡ true) where
      pub access_outside : access_length own given ≡ None → p ≤ longest_text → Weighs (key (fault 42 p)) 0 (access_judged p w b x g)
      access_outside e l = rw (by_length, fit, e) (weighs_one 42 p 0 (omega arith) l)

      pub access_sound : {n : ℕ} → access_length own given ≡ Some n → Short own → Weighs no_key n (access_judged p w b x g)
      access_sound {n} e h =
          let f = access_fits own given h e in
          rw (by_length, fit, e) (weighs_sound n refl f.0 f.1)

-- by what the name's cell says
place_small : {records values decls : List ℕ} (s : Scene records values decls) (i : ℕ) (t : Token) → i < length s.tokens → token_at s.tokens i ≡ t
    → t.info.place ≤ longest_text
place_small s i t h e =
    let q : (token_at s.tokens i).info.place ≡ t.info.place = ap (λ (t : Token). t.info.place) e in
    omega (arith, (s.ready.holds.entry i h).inside, s.ready.holds.short)

pub place_fits : {records values decls : List ℕ} {i p : ℕ} (v : NamedAt records values decls i p) → v.name.place ≤ longest_text
place_fits v = place_small v.scene _ (tk Name v.name) v.within v.here

module _ {records values decls : List ℕ} {i p : ℕ} (v : NamedAt records values decls i p) (x : Index) where
  abbrev pub named : Judged
  named = judge_access (outer_of v.scene) (table_of v.scene) v.name x v.bits

  -- 40 and 41: not declared, and not the outer name, or only that
  undeclared_judged : (o : Bool) → inside_cell records i ≡ meaning_by none o
      → named ≡ judged_as (when (not o) 40 v.name.place ++ when o 41 v.name.place) 0
  unfolding judge_access judge_name
  undeclared_judged o e =
      let q = undeclared v.scene i v.name v.within v.here o e in
      rw (q.0, q.1)

  pub named_unknown : inside_cell records i ≡ unknown_name → Weighs (key (fault 40 v.name.place)) 0 named
  named_unknown e = rw (undeclared_judged false e) (weighs_one 40 v.name.place 0 (omega arith) (place_fits v))

  pub named_outer : inside_cell records i ≡ outer_only → Weighs (key (fault 41 v.name.place)) 0 named
  named_outer e = rw (undeclared_judged true e) (weighs_one 41 v.name.place 0 (omega arith) (place_fits v))

  named_declared : {k : ℕ} → number_of (table_of v.scene) v.name.word ≡ some k → (f : Found v.scene k)
      → named ≡ access_judged v.name.place (declared_of f.declaration).words (declared_of f.declaration).bits x v.bits
  unfolding judge_access judge_name
  named_declared e f = rw (e, f.listed)

-- the bits behind the name, and the token behind them
behind_bits : (b : Bits) (ts : Tokens) → drop (bits_size (access_bits b)) (bits_tokens b ts) ≡ ts
behind_bits all_bits ts = refl
behind_bits (bits l n (bit g)) ts = refl
behind_bits (bits l n (upto c m g)) ts = refl

module _ {records values decls : List ℕ} {i p : ℕ} (v : NamedAt records values decls i p) where
  abbrev pub bits_view : BitsView records values p
  bits_view = record {
    text = v.scene.text;
    tokens = v.scene.tokens;
    holds = v.scene.ready.holds;
    bits = access_bits v.bits;
    next = v.next;
    rest = v.rest;
    ends = λ e. no_bits v.next.kind v.ends (ap kind_no e);
    reads = v.reads ∙ access_bits_lem v.bits (v.next ∷ v.rest);
  }

  pub name_room : 8 * i + 8 ≤ length records
  name_room = record_within v.scene.ready.holds i v.within

  pub name_place : place_cell records i ≡ v.name.place
  name_place = (v.scene.ready.holds.entry i v.within).place ∙ ap (λ (t : Token). t.info.place) v.here

  pub named_answer : {t : Bool} {k n s : ℕ} → ((x : Index) → t ≡ has_index x → Weighs k n (named v x)) → s ≡ bits_size (access_bits v.bits)
      → NamedAnswer v t (record { key = k; bits = n; next = p + s })
  named_answer f e x q = record {
    weighs = f x q;
    past = let b = v.before in omega arith;
    behind = ap (λ s. drop (p + s) v.scene.tokens) e ∙ behind_far v.scene.tokens p _ v.reads (bits_size (access_bits v.bits)) ∙ behind_bits v.bits (v.next ∷ v.rest);
  }

  -- the name is declared, and its number is k
  pub name_found : (k : ℕ) → k ≡ inside_cell records i → (k ≡ unknown_name → ⊥) → (k ≡ outer_only → ⊥) → Found v.scene k
  name_found k e u o = (declared v.scene i v.name v.within v.here k e u o).1

  pub found_judged : (k : ℕ) (e : k ≡ inside_cell records i) (u : k ≡ unknown_name → ⊥) (o : k ≡ outer_only → ⊥) (x : Index)
      → let d = declared_of (name_found k e u o).declaration in named v x ≡ access_judged v.name.place d.words d.bits x v.bits
  found_judged k e u o x = named_declared v x (declared v.scene i v.name v.within v.here k e u o).0 (name_found k e u o)
