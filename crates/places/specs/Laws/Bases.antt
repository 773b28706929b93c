-- Laws of what declarations reach: storage itself, a mapping the carrier under it, and which bits of it.
-- Assumes nothing.
use Rattle.std.specs.Prelude.{ℕ, ◌+◌, ◌%◌, ◌≤◌, ◌≡◌}
use Rattle.std.proofs.Math.Path.{refl, sym, ap}
use Rattle.std.proofs.Common.{◌∙◌, arith}
use Rattle.std.proofs.Math.Option.{Option, none, some}
use Rattle.std.proofs.Math.ListN.{get_elem?}
use Rattle.rules.specs.Grammar.Trees.{all_bits, bits}
use Rattle.rules.specs.Declarations.{BitNames, bit_count, low_bit, how_many, names_of, Target, Declared, Table, number_of, first_word, Reach, reach_storage, reach_on, reach_under, reach_of, reach_number, access_low, access_bits}
use Rattle.rules.specs.Limits.{most_words}
use Rattle.laws_orders.proofs.Orders.Tests.{impossible}
use Rattle.table.specs.declared.views.Names.{Names}
use Rattle.table.specs.declared.views.Names.TheVariants.{Missing, Unnamed, Span}
use Rattle.promise.specs.Accesses.{access_cell}
use Rattle.places.specs.Spans.{ManyIn, LowIn}
use Rattle.places.specs.Packed.{packed, Fits}
use Rattle.places.specs.declared.bases.Base.{Base}
use Rattle.places.specs.Bases.{CellShows}

-- what a declaration reaches, when it is storage and when it is a mapping
pub record OnItself (ds : Table) (k : ℕ) (d : Declared) (r : Reach) : Type 0 where
  pub own : d.bits ≡ some r.bits
  pub first : r.first ≡ first_word ds k
  pub words : r.words ≡ d.words
  pub low : r.low ≡ 0

pub record OnAnother (ds : Table) (d : Declared) (t : Target) (r : Reach) : Type 0 where
  pub own : d.bits ≡ some r.bits
  pub number : ℕ
  pub under : Declared
  pub bits : BitNames
  pub numbers : number_of ds t.name.word ≡ some number
  pub listed : get_elem? ds number ≡ some under
  pub has_bits : under.bits ≡ some bits
  pub first : r.first ≡ first_word ds number
  pub words : r.words ≡ none
  pub low : r.low ≡ low_bit bits t.bits

module _ (ds : Table) (k : ℕ) (d : Declared) (listed : get_elem? ds k ≡ some d) (r : Reach) (e : reach_number ds (some k) ≡ some r) where
  reached : reach_of ds k d d.target ≡ some r
  unfolding reach_number
  reached = sym (ap (λ (o : Option Declared). elim o [ none ↦ none | some d ↦ reach_of ds k d d.target ]) listed) ∙ e

  pub on_itself : d.target ≡ none → OnItself ds k d r
  unfolding reach_of reach_storage
  on_itself t = by d.bits refl (sym (ap (reach_of ds k d) t) ∙ reached)
    where
      by : (b : Option BitNames) → d.bits ≡ b → reach_storage ds k d b ≡ some r → OnItself ds k d r
      by none q z = impossible (cc)
      by (some b) q z =
          let it : record { owner = k; first = first_word ds k; words = d.words; low = 0; bits = b } ≡ r = cc in
          record {
            own = q ∙ ap (λ (r : Reach). some r.bits) it;
            first = sym (ap (λ (r : Reach). r.first) it);
            words = sym (ap (λ (r : Reach). r.words) it);
            low = sym (ap (λ (r : Reach). r.low) it);
          }

  pub on_another : (t : Target) → d.target ≡ some t → OnAnother ds d t r
  unfolding reach_of reach_under reach_on
  on_another t w = own_bits d.bits refl (sym (ap (reach_of ds k d) w) ∙ reached)
    where
      bits : (c : BitNames) → d.bits ≡ some c → (n : ℕ) (u : Declared) → number_of ds t.name.word ≡ some n → get_elem? ds n ≡ some u
          → (g : Option Target) (b : Option BitNames) → u.bits ≡ b → reach_on ds c t.bits n g b ≡ some r → OnAnother ds d t r
      bits c q n u x y (some g) b p z = impossible (cc)
      bits c q n u x y none none p z = impossible (cc)
      bits c q n u x y none (some b) p z =
          let it : record { owner = n; first = first_word ds n; words = none; low = low_bit b t.bits; bits = c } ≡ r = cc in
          record {
            own = q ∙ ap (λ (r : Reach). some r.bits) it;
            number = n;
            under = u;
            bits = b;
            numbers = x;
            listed = y;
            has_bits = p;
            first = sym (ap (λ (r : Reach). r.first) it);
            words = sym (ap (λ (r : Reach). r.words) it);
            low = sym (ap (λ (r : Reach). r.low) it);
          }

      at : (c : BitNames) → d.bits ≡ some c → (n : ℕ) → number_of ds t.name.word ≡ some n → (o : Option Declared) → get_elem? ds n ≡ o
          → (elim o [ none ↦ none | some u ↦ reach_on ds c t.bits n u.target u.bits ]) ≡ some r → OnAnother ds d t r
      at c q n x none y z = impossible (cc)
      at c q n x (some u) y z = bits c q n u x y u.target u.bits refl z

      number : (c : BitNames) → d.bits ≡ some c → (o : Option ℕ) → number_of ds t.name.word ≡ o → reach_under ds c t.bits o ≡ some r → OnAnother ds d t r
      number c q none x z = impossible (cc)
      number c q (some n) x z = at c q n x (get_elem? ds n) refl z

      own_bits : (o : Option BitNames) → d.bits ≡ o → (elim o [ none ↦ none | some c ↦ reach_under ds c t.bits (number_of ds t.name.word) ]) ≡ some r
          → OnAnother ds d t r
      own_bits none q z = impossible (cc)
      own_bits (some c) q z = number c q (number_of ds t.name.word) refl z

-- the number of an access, by the form of its bits
module _ {base : Base} {given : Names} where
  pub cell_unnamed : {c : ℕ} → given ≡ Unnamed → CellShows base given c
  cell_unnamed g r all_bits s e m = impossible (cc)
  cell_unnamed g r (bits l n x) s e m = impossible (cc)

  pub cell_all : {n c : ℕ} → given ≡ Missing → ManyIn base.own n
      → (Fits base.first base.low n base.left base.right → c ≡ packed base.first base.low n base.left base.right)
      → CellShows base given c
  unfolding access_cell access_low access_bits
  cell_all {n} g many f r (bits l y x) s e m = impossible (cc)
  cell_all {n} g many f r all_bits s e m =
      let h = m.fits in
      let count : n ≡ bit_count r.bits = many r.bits s.own (omega arith) in
      f (record {
        first = omega (arith, m.first, s.first);
        low = omega (arith, s.low);
        bits = omega arith;
        left = omega (arith, m.left, s.left);
        right = omega (arith, m.right, s.right);
      }) ∙ rw (s.first, s.low, s.left, s.right, count)

  pub cell_some : {l q n w c : ℕ} → given ≡ Span l q → LowIn base.own q w → (how_many (record { left = l; right = q }) ≤ most_words → n ≡ how_many (record { left = l; right = q }))
      → (Fits base.first (base.low % 256 + w % 256) n base.left base.right → c ≡ packed base.first (base.low % 256 + w % 256) n base.left base.right)
      → CellShows base given c
  unfolding access_cell access_low access_bits
  cell_some {l} {q} {n} {w} g low many f r all_bits s e m = impossible (cc)
  cell_some {l} {q} {n} {w} g low many f r (bits x y z) s e m =
      let h = m.fits in
      let el : l ≡ (names_of y z).left = cc in
      let eq : q ≡ (names_of y z).right = cc in
      let weight : w ≡ low_bit r.bits (names_of y z) = low r.bits (names_of y z) s.own eq in
      let count : n ≡ how_many (names_of y z) = (rw (el, eq) at many) (omega arith) in
      let sum : base.low % 256 + w % 256 ≡ r.low + low_bit r.bits (names_of y z) = omega (arith, s.low) in
      f (record {
        first = omega (arith, m.first, s.first);
        low = omega arith;
        bits = omega arith;
        left = omega (arith, m.left, s.left);
        right = omega (arith, m.right, s.right);
      }) ∙ rw (sum, s.first, s.left, s.right, count)
