-- A destination with no fault of the 40s: each access of it is sound, and together they have at most 64 bits.
use Prim.Native.Nat.{◌+◌, ◌≤◌}
use Rattle.std.specs.Prelude.{◌≡◌}
use Rattle.std.proofs.Math.Path.{refl, sym, ap₂, subst}
use Rattle.std.proofs.Common.{◌∙◌, arith}
use mathlib.Core.List.{List, [], ◌∷◌, ◌++◌, map}
use Rattle.rules.specs.Text.Tokens.{Info}
use Rattle.rules.specs.Grammar.Trees.{Tokens, Bits, bits_tokens, Subscript, subscript_tokens, Joined, alone, joined, joined_tokens}
use Rattle.rules.specs.Grammar.Precedence.{cell, index_of}
use Rattle.rules.specs.Values.{total}
use Rattle.rules.specs.Limits.{most_bits}
use Rattle.rules.specs.Declarations.{Word, Table}
use Rattle.rules.specs.Steps.Actions.{Access, access, joined_accesses}
use Rattle.rules.specs.Steps.Evaluation.{Carriers, gives, then, Field, field_of, evaluate_index, evaluate_access, evaluate_accesses}
use Rattle.rules.specs.Faults.Bodies.{Judged, judged_as, over, judge_destination, judge_joined}
use Rattle.laws_grammar.specs.Grammar.Positions.{bits_writes, subscript_writes}
use Rattle.laws_accepted.proofs.Accepted.Faultless.{both_empty}
use Rattle.laws_accepted.specs.Cited.Declared.{Declares}
use Rattle.laws_accepted.proofs.Accepted.Constants.{ConstantsOk, IndexOk, rest_ok, subscript_ok}
use Rattle.laws_accepted.proofs.Accepted.Lengths.{sound_bits_lem, not_over, factor_length, sized_factor}
use Rattle.laws_accepted.proofs.Accepted.Evaluated.{then_gives, Inside, field_inside}
use Rattle.laws_accepted.specs.Cited.Destinations.{all_bits, SizedAccesses, SizedDestination}

-- the constants in the subscripts of a destination
abbrev pub SubscriptsOk : List Access → Type 0
SubscriptsOk [] = Unit {0}
SubscriptsOk (a ∷ more) = IndexOk a.index × SubscriptsOk more

behind_access : (s : Subscript) (b : Bits) (ts : Tokens) → ConstantsOk (subscript_tokens s (bits_tokens b ts)) → ConstantsOk ts
behind_access s b ts c = rest_ok (bits_writes b) ts (rest_ok (subscript_writes s) (bits_tokens b ts) c)

joined_ok : (j : Joined) (ts : Tokens) → ConstantsOk (joined_tokens j ts) → SubscriptsOk (joined_accesses j)
unfolding joined_accesses access
joined_ok alone ts c = tt
joined_ok (joined a n s b j) ts c =
    (subscript_ok s (bits_tokens b (joined_tokens j ts)) c.1.1, joined_ok j ts (behind_access s b (joined_tokens j ts) c.1.1))

-- those of a destination in front of other tokens, and the tokens behind it
module _ (n : Info) (s : Subscript) (b : Bits) (j : Joined) (ts : Tokens) (c : ConstantsOk (subscript_tokens s (bits_tokens b (joined_tokens j ts)))) where
  pub subscripts_ok : SubscriptsOk (access n s b ∷ joined_accesses j)
  unfolding access
  subscripts_ok = (subscript_ok s (bits_tokens b (joined_tokens j ts)) c, joined_ok j ts (behind_access s b (joined_tokens j ts) c))

module _ (outer : Word) (ds : Table) where
  -- fields inside words that are there
  abbrev pub AllInside : List Field → Type 0
  AllInside [] = Unit {0}
  AllInside (f ∷ fs) = Inside ds f.size f × AllInside fs

  -- the fields that accesses come to, as many bits together
  pub record FieldsInside (to : List Access) (fs : List Field) : Type 0 where
    pub each : AllInside fs
    pub bits : total (map (λ f. f.size) fs) ≡ all_bits outer ds to

module _ {outer : Word} {ds : Table} (h : Declares outer ds) where
  -- accesses joined to a part that is judged so
  joined_sized :
      (j : Joined) (so_far : Judged) → SubscriptsOk (joined_accesses j) → judge_joined outer ds so_far j ≡ []
      → (so_far.faults ≡ []) × SizedAccesses outer ds (joined_accesses j)
      × (so_far.bits ≤ most_bits → so_far.bits + all_bits outer ds (joined_accesses j) ≤ most_bits)
  unfolding judge_joined joined_accesses access all_bits
  joined_sized alone so_far c e = (e, tt, λ n. omega arith)
  joined_sized (joined a i s b more) so_far c e =
      let k = judge_destination outer ds i s b in
      let sum = so_far.bits + k.bits in
      let fs = over (so_far.faults ++ k.faults) sum a.place in
      let r = joined_sized more (judged_as fs sum) c.1 e in
      let v = not_over (so_far.faults ++ k.faults) sum a.place r.0 in
      let w = both_empty so_far.faults k.faults v.0 in
      let rest : sum ≤ most_bits → sum + all_bits outer ds (joined_accesses more) ≤ most_bits
      = subst (λ n. n ≤ most_bits → n + all_bits outer ds (joined_accesses more) ≤ most_bits) (sound_bits_lem fs sum r.0) r.2 in
      (w.0, (sized_factor h (cell i (index_of s) b) c.0 w.1, r.1), λ n. omega (arith, rest v.1))

  -- the whole destination of a transfer
  pub destination_sized :
      (n : Info) (s : Subscript) (b : Bits) (j : Joined) → SubscriptsOk (access n s b ∷ joined_accesses j)
      → judge_joined outer ds (judge_destination outer ds n s b) j ≡ [] → SizedDestination outer ds (access n s b ∷ joined_accesses j)
  unfolding access all_bits
  destination_sized n s b j c e =
      let r = joined_sized j (judge_destination outer ds n s b) c.1 e in
      let f = cell n (index_of s) b in
      let x = sized_factor h f c.0 r.0 in
      record { parts = (x, r.1); short = r.2 (factor_length outer ds f x).short }

  pub fields_inside :
      (s : Carriers) (to : List Access) (fs : List Field) → SizedAccesses outer ds to → evaluate_accesses ds s to ≡ gives fs → FieldsInside outer ds to fs
  unfolding evaluate_accesses evaluate_access all_bits total
  fields_inside s [] fs q e = let it : [] ≡ fs = cc in subst (FieldsInside outer ds []) it (record { each = tt; bits = refl })
  fields_inside s (a ∷ more) fs q e =
      let x = then_gives (evaluate_access ds s a) (λ f. then (evaluate_accesses ds s more) (λ gs. gives (f ∷ gs))) fs e in
      let y = then_gives (evaluate_accesses ds s more) (λ gs. gives (x.0 ∷ gs)) fs x.2 in
      let n = then_gives (evaluate_index ds s a.index) (λ n. field_of ds a.name a.bits n) x.0 x.1 in
      let g = field_inside h a.name a.index a.bits n.0 x.0 q.0.1 n.2 in
      let r = fields_inside s more y.0 q.1 y.1 in
      let it : x.0 ∷ y.0 ≡ fs = cc y.2 in
      subst (FieldsInside outer ds (a ∷ more)) it
      (record {
        each = (record { word = g.word; size = refl; fits = g.fits }, r.each);
        bits = ap₂ ◌+◌ (g.size ∙ sym q.0.0) r.bits;
      })
