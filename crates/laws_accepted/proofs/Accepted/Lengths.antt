-- An expression with no fault of the 40s has from 1 to 64 bits, and so has every operand in it; every access reaches bits inside a word of 64.
use Prim.Native.Nat.{ℕ, ◌+◌, ◌≤◌}
use Rattle.std.specs.Prelude.{◌≡◌, Bool, true, false, not, ◌&&◌, List, [], ◌∷◌, ◌++◌, ltb}
use Rattle.std.proofs.Math.Path.{refl}
use Rattle.std.proofs.Common.{sym, ◌∙◌, ap, ap₂, subst, ltb-false}
use Rattle.std.proofs.Math.Option.{Option, none, some}
use native.Mathlib.Omega.{arith}
use Rattle.std.proofs.Math.ListN.{get_elem?}
use Rattle.std.proofs.lemmas.Bool.{not-false}
use Rattle.rules.specs.Text.Tokens.{Info, Op, join, plus, minus, eql, neq, lss, leq, gtr, geq, and, eqv, or, xor}
use Rattle.rules.specs.Text.Scan.{same_bytes}
use Rattle.rules.specs.Grammar.Trees.{Bits, all_bits, bits}
use Rattle.rules.specs.Grammar.Precedence.{Expr, leaf, node, Factor, number, cell, group, inverse, Index, no_index, index}
use Rattle.rules.specs.Values.{op_bits}
use Rattle.rules.specs.Limits.{most_bits}
use Rattle.rules.specs.Declarations.{Word, Names, how_many, BitNames, bit_count, names_of, Declared, Table, number_of, Reach, reach_number, reach, access_low, access_bits}
use Rattle.rules.specs.Faults.Fault.{Fault, when}
use Rattle.rules.specs.Faults.Declared.{inside, declared_at}
use Rattle.rules.specs.Faults.Bodies.{Judged, sound_bits, is_sound, over, subscripted, bits_judged, access_judged, judge_name, judge_access, judge, judge_factor, judge_index}
use Rattle.laws_orders.proofs.Orders.Tests.{impossible}
use Rattle.laws_accepted.proofs.Accepted.Faultless.{both_empty, when_empty}
use Rattle.laws_accepted.specs.Cited.Declared.{Declares, Length}
use Rattle.laws_accepted.proofs.Accepted.Reached.{inside_fits, reach_at, declared_carried}
use Rattle.laws_accepted.proofs.Accepted.Constants.{BitsOk, FactorOk, IndexOk}
use Rattle.laws_accepted.specs.Cited.Lengths.{Fitting, Sized, SizedFactor, Reaches, SizedIndex}

pub sound_bits_lem : (fs : List Fault) (n : ℕ) → fs ≡ [] → sound_bits fs n ≡ n
sound_bits_lem [] n e = refl
sound_bits_lem (f ∷ fs) n e = impossible (cc)

some_bits : (n : Names) → 1 ≤ how_many n
unfolding how_many
some_bits n = omega arith

-- no operator has an empty result
some_result : (o : Op) (m n : ℕ) → 1 ≤ m → 1 ≤ op_bits o m n
unfolding op_bits
some_result join m n h = omega arith
some_result plus m n h = omega arith
some_result minus m n h = omega arith
some_result eql m n h = omega arith
some_result neq m n h = omega arith
some_result lss m n h = omega arith
some_result leq m n h = omega arith
some_result gtr m n h = omega arith
some_result geq m n h = omega arith
some_result and m n h = omega arith
some_result eqv m n h = omega arith
some_result or m n h = omega arith
some_result xor m n h = omega arith

-- 43 leaves no result over 64 bits
pub not_over : (fs : List Fault) (n p : ℕ) → over fs n p ≡ [] → (fs ≡ []) × (n ≤ most_bits)
not_over fs n p e =
    let h = both_empty fs (when (is_sound fs && ltb most_bits n) 43 p) e in
    let q : ltb most_bits n ≡ false = rw h.0 at (when_empty (is_sound fs && ltb most_bits n) 43 p h.1) in
    (h.0, ltb-false most_bits n q)

module _ (r : Reach) (length : Length (bit_count r.bits)) (fits : r.low + bit_count r.bits ≤ most_bits) (p : ℕ) (x : Index) where
  bits_fitting :
      (b : Bits) → subscripted r.words x ≡ true → (bits_judged p r.bits b).faults ≡ [] → Fitting r x b (bits_judged p r.bits b).bits
  unfolding access_bits access_low
  bits_fitting all_bits q e = record { subscripts = q; size = refl; length = length; fits = fits }
  bits_fitting (bits l y z) q e =
      let s = names_of y z in
      let i = inside_fits r.bits s (not-false (inside r.bits s) (when_empty (not (inside r.bits s)) 42 p e)) in
      let m = some_bits s in
      record {
        subscripts = q;
        size = sound_bits_lem (when (not (inside r.bits s)) 42 p) (how_many s) e;
        length = record { some = m; short = omega arith };
        fits = omega arith;
      }

  access_fitting :
      (b : Bits) → (access_judged p r.words (some r.bits) x b).faults ≡ []
      → Fitting r x b (access_judged p r.words (some r.bits) x b).bits
  access_fitting b e =
      let there = subscripted r.words x in
      let j = bits_judged p r.bits b in
      let f = both_empty (when (not there) 41 p) j.faults e in
      let g = bits_fitting b (not-false there (when_empty (not there) 41 p f.0)) f.1 in
      subst (Fitting r x b) (sym (sound_bits_lem (when (not there) 41 p ++ j.faults) j.bits e)) g

module _ (outer : Word) (ds : Table) where
  -- its length is from 1 to 64
  mutual
    unfolding judge judge_factor

    pub sized_length : (e : Expr) → Sized outer ds e → Length (judge outer ds e).bits
    sized_length (leaf f) q = factor_length f q
    sized_length (node o i l r) q = subst Length (sym q.0.size) q.0.length

    pub factor_length : (f : Factor) → SizedFactor outer ds f → Length (judge_factor outer ds f).bits
    factor_length (number i) q = q.length
    factor_length (cell i x b) q = subst Length (sym (q.0 ∙ q.1.fitting.size)) q.1.fitting.length
    factor_length (group l e r) q = sized_length e q
    factor_length (inverse i f) q = factor_length f q

module _ {outer : Word} {ds : Table} (h : Declares outer ds) where
  pub access_reaches : (i : Info) (x : Index) (b : Bits) → (judge_access outer ds i x b).faults ≡ [] → Reaches outer ds i x b
  unfolding judge_access judge_name reach reach_number
  access_reaches i x b e = number (number_of ds i.word) refl e
    where
      p : ℕ
      p = i.place

      -- 40, or 41 for the outer name
      unknown : (known : Bool) → when (not known) 40 p ++ when known 41 p ≡ [] → Reaches outer ds i x b
      unknown true z = impossible (cc)
      unknown false z = impossible (cc)

      with_bits :
          (k : ℕ) (d : Declared) → number_of ds i.word ≡ some k → get_elem? ds k ≡ some d → (o : Option BitNames) → d.bits ≡ o
          → (access_judged p d.words o x b).faults ≡ [] → Reaches outer ds i x b
      with_bits k d q t none w z = impossible (cc)
      with_bits k d q t (some c) w z =
          let m = declared_carried h k d t c w in
          let r = m.0 in
          let own : access_judged p d.words d.bits x b ≡ access_judged p r.words (some r.bits) x b
          = ap₂ (λ (ws : Option Names) (o : Option BitNames). access_judged p ws o x b) (sym m.2.words) m.2.bits in
          let it : judge_access outer ds i x b ≡ access_judged p r.words (some r.bits) x b
          = ap (λ (o : Option ℕ). judge_name outer ds i x b (declared_at ds o)) q ∙ ap (judge_name outer ds i x b) t ∙ own in
          let g = access_fitting r m.2.size m.2.fits p x b (ap (λ (j : Judged). j.faults) (sym it) ∙ e) in
          record {
            reached = r;
            found = reach_at ds i.word k d q t ∙ m.1;
            fitting = subst (λ (j : Judged). Fitting r x b j.bits) (sym it) g;
          }

      at :
          (k : ℕ) (o : Option Declared) → number_of ds i.word ≡ some k → get_elem? ds k ≡ o → (judge_name outer ds i x b o).faults ≡ []
          → Reaches outer ds i x b
      at k none q t z = unknown (same_bytes outer i.word) z
      at k (some d) q t z = with_bits k d q t d.bits refl z

      number : (o : Option ℕ) → number_of ds i.word ≡ o → (judge_name outer ds i x b (declared_at ds o)).faults ≡ [] → Reaches outer ds i x b
      number none q z = unknown (same_bytes outer i.word) z
      number (some k) q z = at k (get_elem? ds k) q refl z

  mutual
    unfolding judge judge_factor judge_index

    pub sized : (e : Expr) → BitsOk e → (judge outer ds e).faults ≡ [] → Sized outer ds e
    sized (leaf f) c e = sized_factor f c e
    sized (node o i l r) c e =
        let a = judge outer ds l in
        let b = judge outer ds r in
        let n = op_bits o a.bits b.bits in
        let v = not_over (a.faults ++ b.faults) n i.place e in
        let w = both_empty a.faults b.faults v.0 in
        let x = sized l c.0 w.0 in
        let y = sized r c.1 w.1 in
        let s = sized_length outer ds l x in (
          record {
            size = sound_bits_lem (over (a.faults ++ b.faults) n i.place) n e;
            length = record { some = some_result o a.bits b.bits s.some; short = v.1 };
          },
          x,
          y,
        )

    pub sized_factor : (f : Factor) → FactorOk f → (judge_factor outer ds f).faults ≡ [] → SizedFactor outer ds f
    sized_factor (number i) c e = c
    sized_factor (cell i x b) c e =
        let j = judge_access outer ds i x b in
        let w = both_empty (judge_index outer ds x) j.faults e in
        (sound_bits_lem (judge_index outer ds x ++ j.faults) j.bits e, access_reaches i x b w.1, sized_index x c w.0)
    sized_factor (group l x r) c e = sized x c e
    sized_factor (inverse i f) c e = sized_factor f c e

    sized_index : (x : Index) → IndexOk x → judge_index outer ds x ≡ [] → SizedIndex outer ds x
    sized_index no_index c e = tt
    sized_index (index l x r) c e = sized x c e
