-- What an access comes to lies inside the carriers.
use Rattle.std.specs.Prelude.{ℕ, zero, suc, ◌+◌, ◌-◌, ◌≤◌, ◌<◌, min, max, ◌≡◌, Bool, true, false, cond, ◌&&◌, ◌||◌, [], ◌∷◌, leb, eqb, length}
use Rattle.std.proofs.Math.Path.{refl, ap, subst}
use Rattle.std.proofs.Common.{sym, ◌∙◌, arith, leb-true, leb-false, eqb-true, le-ltb}
use Rattle.std.proofs.lemmas.Bool.{false≢true}
use Rattle.std.proofs.Math.Option.{Option, none, some}
use Rattle.std.proofs.Math.Decide.{dec_lt}
use Rattle.std.proofs.Math.ListN.{get_elem?}
use Rattle.rules.specs.Limits.{most_bits}
use Rattle.rules.specs.Declarations.{Word, Names, how_many, from_right, BitNames, one_unnamed, these, bit_count, Target, Declared, Table, number_of, words_of, total_words, first_word}
use Rattle.rules.specs.Declarations.{Reach, reach_storage, low_bit, reach_on, reach_under, reach_of, reach_number, reach}
use Rattle.rules.specs.Steps.Evaluation.{gives, word_of}
use Rattle.rules.specs.Faults.Declared.{among, same_way, inside, fits, good_target, declared_at}
use Rattle.laws_orders.proofs.Orders.Tests.{impossible}
use Rattle.laws_orders.proofs.Orders.Owners.{owner_at, owned}
use Rattle.laws_accepted.proofs.Accepted.Named.{and_both}
use Rattle.laws_accepted.specs.Cited.Declared.{Bare, Declares, Length}
use Rattle.laws_accepted.proofs.Accepted.Declared.{bits_length, near_bits, good_target_lem}
use Rattle.laws_accepted.proofs.Accepted.Reached.{owner_past, name_carried}

module _ {outer : Word} {ds : Table} (h : Declares outer ds) where
  -- a word that an access comes to is one of the carriers'
  pub reach_inside : (n : Word) (r : Reach) (p v k : ℕ) → reach ds n ≡ some r → word_of p r.words v ≡ gives k → r.first + k < total_words ds
  reach_inside n r p v k e w = by (dec_lt (r.first + k) (total_words ds))
    where
      by : Dec (r.first + k < total_words ds) → r.first + k < total_words ds
      by (yes q) = q
      by (no q) =
          absurd (omega (arith, (name_carried h n r e).1.owner, owned ds n r p v k e w, owner_past ds (r.first + k) (omega arith)))
