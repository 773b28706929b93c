-- Working out expressions and transfers over the carriers, a list of words. "The right side is evaluated first, then destination subscripts, then the
-- stores; all left to right, a subscript before its access, and the first fault counts." "A faulting step changes nothing."
use Rattle.std.specs.Prelude.{ℕ, ◌+◌, List, [], ◌∷◌, map, get_or, set}
use Rattle.std.proofs.Math.Option.{Option, none, some}
use Rattle.rules.specs.Text.Tokens.{Info}
use Rattle.rules.specs.Grammar.Trees.{Bits}
use Rattle.rules.specs.Grammar.Precedence.{Expr, leaf, node, Factor, number, cell, group, inverse as inverse_factor, Index, no_index, index}
use Rattle.rules.specs.Values.{Value, value, operate, inverse, field, with_field, cut}
use Rattle.rules.specs.Declarations.{Names, from_left, Table, Reach, reach, access_low, access_bits}
use Rattle.rules.specs.Steps.Actions.{Access}

abbrev pub Carriers : Type 0
Carriers = List ℕ

-- what is worked out, or the number and the place of a fault
pub data Outcome (A : Type 0) : Type 0 where
  gives : A → Outcome A
  faulty : ℕ → ℕ → Outcome A

unfoldable pub then : {A B : Type 0} → Outcome A → (A → Outcome B) → Outcome B
then (gives a) f = f a
then (faulty m p) f = faulty m p

-- some bits of a word
pub record Field : Type 0 where
  pub word : ℕ
  pub low : ℕ
  pub size : ℕ

-- "Fault 70 (word name outside the declaration, place of the carrier's name)"
unfoldable pub word_or70 : ℕ → Option ℕ → Outcome ℕ
word_or70 p none = faulty 70 p
word_or70 p (some k) = gives k

-- the number of a word in its carrier, by its name; a carrier without words has one
unfoldable pub word_of : ℕ → Option Names → ℕ → Outcome ℕ
word_of p none n = gives 0
word_of p (some s) n = word_or70 p (from_left s n)

unfoldable pub field_in : Info → Bits → Reach → ℕ → Outcome Field
field_in i b r n = then (word_of i.place r.words n) (λ k. gives (record { word = r.first + k; low = access_low r b; size = access_bits r b }))

-- the bits that an access stands for, with the value of its subscript. In an accepted text each name reaches a carrier.
unfoldable pub field_of : Table → Info → Bits → ℕ → Outcome Field
field_of ds i b n = elim (reach ds i.word) [ none ↦ gives (record { word = 0; low = 0; size = 0 }) | some r ↦ field_in i b r n ]

abbrev pub read_field : Carriers → Field → Value
read_field s f = value f.size (field f.low f.size (get_or s f.word 0))

abbrev pub write_field : Carriers → Field → ℕ → Carriers
write_field s f v = set s f.word (with_field f.low f.size (get_or s f.word 0) v)

module _ (ds : Table) (s : Carriers) where
  unfoldable mutual
    pub evaluate : Expr → Outcome Value
    evaluate (leaf f) = evaluate_factor f
    evaluate (node o i l r) = then (evaluate l) (λ x. then (evaluate r) (λ y. gives (operate o x y)))

    pub evaluate_factor : Factor → Outcome Value
    evaluate_factor (number i) = gives (value i.bits i.value)
    evaluate_factor (cell i x b) = then (evaluate_index x) (λ n. then (field_of ds i b n) (λ f. gives (read_field s f)))
    evaluate_factor (group l e r) = evaluate e
    evaluate_factor (inverse_factor i f) = then (evaluate_factor f) (λ x. gives (inverse x))

    -- the word's name; 0 where there is no subscript
    pub evaluate_index : Index → Outcome ℕ
    evaluate_index no_index = gives 0
    evaluate_index (index l e r) = then (evaluate e) (λ x. gives x.number)

  unfoldable pub evaluate_access : Access → Outcome Field
  evaluate_access a = then (evaluate_index a.index) (λ n. field_of ds a.name a.bits n)

  unfoldable pub evaluate_accesses : List Access → Outcome (List Field)
  evaluate_accesses [] = gives []
  evaluate_accesses (a ∷ more) = then (evaluate_access a) (λ f. then (evaluate_accesses more) (λ fs. gives (f ∷ fs)))

-- the stores, left to right
unfoldable pub store_all : Carriers → List Field → List ℕ → Carriers
store_all s [] vs = s
store_all s (f ∷ fs) [] = s
store_all s (f ∷ fs) (v ∷ vs) = store_all (write_field s f v) fs vs

unfoldable pub transferred : Table → Carriers → List Access → Expr → Outcome Carriers
transferred ds s to e =
    then (evaluate ds s e) (λ v. then (evaluate_accesses ds s to) (λ fs. gives (store_all s fs (cut (map (λ f. f.size) fs) v.number))))
