-- What is found of members and groups by their first tokens.
use Rattle.std.specs.Prelude.{ℕ, ◌+◌, ◌<◌, ◌≤◌, ◌≡◌, List, [], ◌∷◌, length, drop, Option as Found, Some, None}
use Rattle.std.proofs.Math.Option.{Option, none, some}
use Rattle.rules.specs.Text.Tokens.{Semi, kind_no}
use Rattle.rules.specs.Grammar.Trees.{Tokens}
use Rattle.rules.specs.Declarations.{Table}
use Rattle.reading.specs.Kinds.{next_no}
use Rattle.reading.specs.Behind.{behind}
use Rattle.reading.specs.Reading.{Reading, table_of}
use Rattle.rules.specs.Reasons.{Member, earliest, Race, race_at, race_from}
use Rattle.racing.specs.declared.members.Pair.{Pair}
use Rattle.racing.specs.Groups.{member_here, group_here, race_here}

-- the members from the token i up to that at k, each with `;` behind it
pub data Path (ds : Table) (ts : Tokens) : ℕ → ℕ → List Member → Type 0 where
  arrived : {i : ℕ} → Path ds ts i i []
  passes : {i k : ℕ} {xs : List Member} (e : ℕ) → i ≤ e → e < length ts → drop e ts ≡ behind 0 (drop i ts) → next_no (drop e ts) ≡ kind_no Semi → Path ds ts (e + 1) k xs
      → Path ds ts i k (member_here ds (drop i ts) ∷ xs)

module _ {records decls : List ℕ} {m n : ℕ} (v : Reading records decls m n) where
  abbrev pub member_at : ℕ → Member
  member_at i = member_here (table_of v) (drop i v.tokens)

  abbrev pub race_of : ℕ → ℕ → Race
  race_of e l = record { earlier = member_at e; later = member_at l }

  abbrev pub PathTo : ℕ → ℕ → List Member → Type 0
  PathTo i k xs = Path (table_of v) v.tokens i k xs

-- some members lead from one token to another
pub record Leads (records decls : List ℕ) (m n from later : ℕ) : Type 0 where
  pub reading : Reading records decls m n
  pub path : (v : Reading records decls m n) → (xs : List Member) × PathTo v from later xs

-- the earliest member before the later one that races with it, or the later one itself
pub record Chooses (records decls : List ℕ) (m n from later r : ℕ) : Type 0 where
  pub near : r ≤ later
  pub one : r < later → (v : Reading records decls m n) (xs : List Member) → PathTo v from later xs → earliest (member_at v later) xs ≡ some (member_at v r)
  pub nothing : later ≤ r → (v : Reading records decls m n) (xs : List Member) → PathTo v from later xs → earliest (member_at v later) xs ≡ none

-- the same, if the later one stands at the place
pub record RacesAt (records decls : List ℕ) (m n from later place r : ℕ) : Type 0 where
  pub near : r ≤ later
  pub one : r < later → (v : Reading records decls m n) (xs : List Member) → PathTo v from later xs → race_at place xs (member_at v later) ≡ some (race_of v r later)
  pub nothing : later ≤ r → (v : Reading records decls m n) (xs : List Member) → PathTo v from later xs → race_at place xs (member_at v later) ≡ none

-- two members by their tokens, if there are two
pub record FoundIn (records decls : List ℕ) (m n : ℕ) (p : Found Pair) (race : (v : Reading records decls m n) → Option Race) : Type 0 where
  pub apart : {q : Pair} → p ≡ Some q → q.earlier < q.later
  pub one : {q : Pair} → p ≡ Some q → (v : Reading records decls m n) → race v ≡ some (race_of v q.earlier q.later)
  pub nothing : p ≡ None → (v : Reading records decls m n) → race v ≡ none

-- in the group at from
abbrev pub InGroup : (records decls : List ℕ) (m n from place : ℕ) → Found Pair → Type 0
InGroup records decls m n from place p = FoundIn records decls m n p (λ v. race_from place [] (group_here (table_of v) (drop from v.tokens)))

-- among all groups from the token i on
pub record InTokens (records decls : List ℕ) (m n i place : ℕ) (p : Found Pair) : Type 0 where
  pub found : FoundIn records decls m n p (λ v. race_here (table_of v) place (drop i v.tokens))
