-- What a reason says of a text: both members stand in one group, the carrier is touched by both and written by one, and no earlier member and no earlier carrier
-- would do; each body of a chain activates the next one, and the last one is listed before or is the 17th. Then the same of the numbers that a call has written.
use Rattle.std.specs.Prelude.{ℕ, suc, ◌<◌, ◌≡◌, true, false, List, [], ◌∷◌, ◌⊎◌, length}
use Rattle.std.proofs.Math.Option.{some}
use Rattle.std.proofs.Math.ListN.{get_elem?}
use Rattle.rules.specs.Text.Scan.{scan}
use Rattle.rules.specs.Limits.{longest_chain}
use Rattle.rules.specs.Grammar.Trees.{Description, flatten}
use Rattle.rules.specs.Declarations.{Word, Declared, Table, number_of, declarations}
use Rattle.rules.specs.Whole.Sets.{Sets, race, member, calls_in, chain_over}
use Rattle.rules.specs.Answers.{refused, Checks}
use Rattle.rules.specs.Reasons.{Member, Race, conflict, Carrier, writers, groups_of, body_of_number, places_in, racing, chained}
use Rattle.rules.specs.Calls.Why.{reasoned}

-- two members of a group that race, the later one at the place; none before the earlier one races with the later one
pub record RaceStands (p : ℕ) (g : List Member) (r : Race) : Type 0 where
  pub first : ℕ
  pub second : ℕ
  pub in_order : first < second
  pub earlier_there : get_elem? g first ≡ some r.earlier
  pub later_there : get_elem? g second ≡ some r.later
  pub placed : r.later.place ≡ p
  pub races : race r.earlier.touches r.later.touches ≡ true
  pub earliest : (i : ℕ) (x : Member) → i < first → get_elem? g i ≡ some x → race x.touches r.later.touches ≡ false

-- among groups: the number of its group
pub record RaceAmong (p : ℕ) (gs : List (List Member)) (r : Race) : Type 0 where
  pub number : ℕ
  pub group : List Member
  pub there : get_elem? gs number ≡ some group
  pub stands : RaceStands p group r

-- the first carrier in conflict
pub record FirstConflict (s t : Sets) (ds : Table) (c : Carrier) : Type 0 where
  pub declared : Declared
  pub there : get_elem? ds c.number ≡ some declared
  pub named : declared.name.place ≡ c.place
  pub shared : conflict s t c.number ≡ true
  pub first : (i : ℕ) → i < c.number → conflict s t i ≡ false

-- the numbers of a race
pub record RaceTrue (ds : Table) (p earlier later carrier name who : ℕ) : Type 0 where
  pub race : Race
  pub among : RaceAmong p (groups_of ds ds) race
  pub earlier_is : race.earlier.place ≡ earlier
  pub later_is : race.later.place ≡ later
  pub conflicting : FirstConflict race.earlier.touches race.later.touches ds (record { number = carrier; place = name })
  pub who_is : who ≡ writers race.earlier.touches race.later.touches carrier

-- a body activates another: a name that stands in its text is declared under that number
pub record Activates (ds : Table) (b c : ℕ) : Type 0 where
  pub number : ℕ
  pub name : Word
  pub called : get_elem? (calls_in (body_of_number ds b)) number ≡ some name
  pub is : number_of ds name ≡ some c

-- each body activates the next one
abbrev pub Activating : Table → List ℕ → Type 0
Activating ds [] = Unit {0}
Activating ds (b ∷ []) = Unit {0}
Activating ds (b ∷ c ∷ bs) = Activates ds b c × Activating ds (c ∷ bs)

-- the last one is listed before
abbrev pub Closing : List ℕ → List ℕ → Type 0
Closing listed [] = ⊥
Closing listed (b ∷ []) = member b listed ≡ true
Closing listed (b ∷ c ∷ bs) = Closing (b ∷ listed) (c ∷ bs)

-- the refused body: a declaration at the place whose name begins a chain over 16 bodies long
pub record RefusedBody (ds : Table) (p : ℕ) (n : Word) : Type 0 where
  pub number : ℕ
  pub declared : Declared
  pub there : get_elem? ds number ≡ some declared
  pub placed : declared.name.place ≡ p
  pub named : declared.name.word ≡ n
  pub over : chain_over ds longest_chain n ≡ true

-- the numbers of a chain
pub record ChainTrue (ds : Table) (p : ℕ) (places : List ℕ) : Type 0 where
  pub name : Word
  pub refused : RefusedBody ds p name
  pub first : ℕ
  pub its_number : number_of ds name ≡ some first
  pub others : List ℕ
  pub are : places ≡ places_in ds (first ∷ others)
  pub linked : Activating ds (first ∷ others)
  pub closes_or_passes : (length (first ∷ others) ≡ suc longest_chain) ⊎ Closing [] (first ∷ others)

-- the reason that stands in the numbers names a race of the description in the text
pub record RaceTold (text reason left : List ℕ) : Type 0 where
  pub description : Description
  pub stands : flatten description ≡ (scan text).tokens
  pub place : ℕ
  pub refusal : Checks text (refused 53 place)
  pub earlier : ℕ
  pub later : ℕ
  pub carrier : ℕ
  pub name : ℕ
  pub who : ℕ
  pub numbers : left ≡ reasoned (racing earlier later carrier name who) reason
  pub is_true : RaceTrue (declarations description) place earlier later carrier name who

-- the reason that stands in the numbers names a chain of its activations
pub record ChainTold (text reason left : List ℕ) : Type 0 where
  pub description : Description
  pub stands : flatten description ≡ (scan text).tokens
  pub place : ℕ
  pub refusal : Checks text (refused 51 place)
  pub places : List ℕ
  pub numbers : left ≡ reasoned (chained places) reason
  pub is_true : ChainTrue (declarations description) place places
