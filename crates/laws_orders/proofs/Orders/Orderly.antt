-- What rows 44, 51, 52 and 53 leave of a description, said of its actions as they run: chains are short, jumps aim inside, members of a group neither
-- jump out, nor stop, nor race.
use Rattle.std.specs.Prelude.{◌≡◌, true, false, List, [], ◌∷◌, ◌++◌}
use Rattle.rules.specs.Text.Scan.{same_bytes}
use Rattle.rules.specs.Declarations.{Word, Table}
use Rattle.rules.specs.Steps.Actions.{Act, seq, par, label, ins, Ins, iff, decode, repeat, leave, restart, call, stop, noop, transfer, Alts, no_alts, alt}
use Rattle.rules.specs.Steps.Runs.{body_act}
use Rattle.rules.specs.Whole.Sets.{touched, race, may_stop, chain_over}
use Rattle.rules.specs.Limits.{longest_chain}

-- the targets of LEAVE and RESTART that lie outside an action
unfoldable pub without : Word → List Word → List Word
without l [] = []
without l (n ∷ ns) = elim (same_bytes n l) [ true ↦ without l ns | false ↦ n ∷ without l ns ]

unfoldable mutual
  pub jumps_out : Act → List Word
  jumps_out (seq a b) = jumps_out a ++ jumps_out b
  jumps_out (par a b) = jumps_out a ++ jumps_out b
  jumps_out (label l a) = without l (jumps_out a)
  jumps_out (ins i) = jumps_i i

  pub jumps_i : Ins → List Word
  jumps_i (iff e a) = jumps_out a
  jumps_i (decode p e bs) = jumps_alts bs
  jumps_i (repeat a) = jumps_out a
  jumps_i (leave l) = l ∷ []
  jumps_i (restart l) = l ∷ []
  jumps_i (call n) = []
  jumps_i stop = []
  jumps_i noop = []
  jumps_i (transfer d e) = []

  pub jumps_alts : Alts → List Word
  jumps_alts no_alts = []
  jumps_alts (alt c a bs) = jumps_out a ++ jumps_alts bs

module _ (ds : Table) where
  -- two sides of a group: a member, and the member or members behind it
  pub record Apart (a b : Act) : Type 0 where
    pub no_race : race (touched ds a) (touched ds b) ≡ false
    pub first_goes_on : may_stop ds a ≡ false
    pub second_goes_on : may_stop ds b ≡ false
    pub first_stays : jumps_out a ≡ []
    pub second_stays : jumps_out b ≡ []

  -- every group in an action is so
  abbrev mutual
    pub AllApart : Act → Type 0
    AllApart (seq a b) = AllApart a × AllApart b
    AllApart (par a b) = Apart a b × AllApart a × AllApart b
    AllApart (label l a) = AllApart a
    AllApart (ins i) = AllApartI i

    pub AllApartI : Ins → Type 0
    AllApartI (iff e a) = AllApart a
    AllApartI (decode p e bs) = AllApartAlts bs
    AllApartI (repeat a) = AllApart a
    AllApartI (leave l) = Unit {0}
    AllApartI (restart l) = Unit {0}
    AllApartI (call n) = Unit {0}
    AllApartI stop = Unit {0}
    AllApartI noop = Unit {0}
    AllApartI (transfer d e) = Unit {0}

    pub AllApartAlts : Alts → Type 0
    AllApartAlts no_alts = Unit {0}
    AllApartAlts (alt c a bs) = AllApart a × AllApartAlts bs

  -- of every name: the chains of its body, its jumps and its groups
  pub record Orderly : Type 0 where
    pub chains : (n : Word) → chain_over ds longest_chain n ≡ false
    pub jumps : (n : Word) → without n (jumps_out (body_act ds n)) ≡ []
    pub groups : (n : Word) → AllApart (body_act ds n)
