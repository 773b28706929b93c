-- What an action reads and writes, and what it reaches by activations. "A member's reads and writes are whole storage carriers: a mapping counts as the
-- carrier under it, an activation counts all its body and those below read and write, subscripts are reads." Carriers are named by their number among
-- the declarations.
use Rattle.std.specs.Prelude.{ℕ, zero, suc, Bool, true, false, ◌||◌, List, [], ◌∷◌, ◌++◌, eqb}
use Rattle.std.proofs.Math.Option.{Option, none, some}
use Rattle.rules.specs.Limits.{longest_chain}
use Rattle.rules.specs.Grammar.Precedence.{Expr, leaf, node, Factor, number, cell, group, inverse, Index, no_index, index}
use Rattle.rules.specs.Declarations.{Word, Table, Reach, reach}
use Rattle.rules.specs.Steps.Actions.{Access, Act, seq, par, label, ins, Ins, iff, decode, repeat, leave, restart, call, stop, noop, transfer, Alts, no_alts, alt}
use Rattle.rules.specs.Steps.Runs.{body_act}

pub record Sets : Type 0 where
  pub reads : List ℕ
  pub writes : List ℕ

abbrev pub sets : List ℕ → List ℕ → Sets
sets r w = record { reads = r; writes = w }

abbrev pub union : Sets → Sets → Sets
union s t = sets (s.reads ++ t.reads) (s.writes ++ t.writes)

abbrev pub owner_in : Option Reach → List ℕ
owner_in none = []
owner_in (some r) = r.owner ∷ []

module _ (ds : Table) where
  -- the storage carrier under a name
  unfoldable pub owner : Word → List ℕ
  owner n = owner_in (reach ds n)

  unfoldable mutual
    pub reads_of : Expr → List ℕ
    reads_of (leaf f) = factor_reads f
    reads_of (node o i l r) = reads_of l ++ reads_of r

    pub factor_reads : Factor → List ℕ
    factor_reads (number i) = []
    factor_reads (cell i x b) = index_reads_of x ++ owner i.word
    factor_reads (group l e r) = reads_of e
    factor_reads (inverse i f) = factor_reads f

    pub index_reads_of : Index → List ℕ
    index_reads_of no_index = []
    index_reads_of (index l e r) = reads_of e

  unfoldable pub subscript_reads : List Access → List ℕ
  subscript_reads [] = []
  subscript_reads (a ∷ more) = index_reads_of a.index ++ subscript_reads more

  unfoldable pub stores : List Access → List ℕ
  stores [] = []
  stores (a ∷ more) = owner a.name.word ++ stores more

  -- with what is known of the bodies
  module _ (body : Word → Sets) where
    unfoldable mutual
      pub sets_of : Act → Sets
      sets_of (seq a b) = union (sets_of a) (sets_of b)
      sets_of (par a b) = union (sets_of a) (sets_of b)
      sets_of (label l a) = sets_of a
      sets_of (ins i) = sets_i i

      pub sets_i : Ins → Sets
      sets_i (iff e a) = union (sets (reads_of e) []) (sets_of a)
      sets_i (decode p e bs) = union (sets (reads_of e) []) (sets_alts bs)
      sets_i (repeat a) = sets_of a
      sets_i (leave l) = sets [] []
      sets_i (restart l) = sets [] []
      sets_i (call n) = body n
      sets_i stop = sets [] []
      sets_i noop = sets [] []
      sets_i (transfer d e) = sets (reads_of e ++ subscript_reads d) (stores d)

      pub sets_alts : Alts → Sets
      sets_alts no_alts = sets [] []
      sets_alts (alt c a bs) = union (sets_of a) (sets_alts bs)

  -- of a body, down a chain of at most n bodies
  unfoldable pub body_sets : ℕ → Word → Sets
  body_sets zero n = sets [] []
  body_sets (suc k) n = sets_of (body_sets k) (body_act ds n)

  unfoldable pub touched : Act → Sets
  touched a = sets_of (body_sets longest_chain) a

unfoldable pub member : ℕ → List ℕ → Bool
member x [] = false
member x (y ∷ ys) = eqb x y || member x ys

unfoldable pub meet : List ℕ → List ℕ → Bool
meet [] ys = false
meet (x ∷ xs) ys = member x ys || meet xs ys

-- "Two members race if one writes what the other reads or writes."
unfoldable pub race : Sets → Sets → Bool
race s t = meet s.writes (t.reads ++ t.writes) || meet t.writes (s.reads ++ s.writes)

-- whether STOP stands in an action, or in a body below it
module _ (body : Word → Bool) where
  unfoldable mutual
    pub stops_in : Act → Bool
    stops_in (seq a b) = stops_in a || stops_in b
    stops_in (par a b) = stops_in a || stops_in b
    stops_in (label l a) = stops_in a
    stops_in (ins i) = stops_i i

    pub stops_i : Ins → Bool
    stops_i (iff e a) = stops_in a
    stops_i (decode p e bs) = stops_alts bs
    stops_i (repeat a) = stops_in a
    stops_i (leave l) = false
    stops_i (restart l) = false
    stops_i (call n) = body n
    stops_i stop = true
    stops_i noop = false
    stops_i (transfer d e) = false

    pub stops_alts : Alts → Bool
    stops_alts no_alts = false
    stops_alts (alt c a bs) = stops_in a || stops_alts bs

module _ (ds : Table) where
  unfoldable pub body_stops : ℕ → Word → Bool
  body_stops zero n = false
  body_stops (suc k) n = stops_in (body_stops k) (body_act ds n)

  unfoldable pub may_stop : Act → Bool
  may_stop a = stops_in (body_stops longest_chain) a

-- the names of the bodies that an action activates
unfoldable mutual
  pub calls_in : Act → List Word
  calls_in (seq a b) = calls_in a ++ calls_in b
  calls_in (par a b) = calls_in a ++ calls_in b
  calls_in (label l a) = calls_in a
  calls_in (ins i) = calls_i i

  pub calls_i : Ins → List Word
  calls_i (iff e a) = calls_in a
  calls_i (decode p e bs) = calls_alts bs
  calls_i (repeat a) = calls_in a
  calls_i (leave l) = []
  calls_i (restart l) = []
  calls_i (call n) = n ∷ []
  calls_i stop = []
  calls_i noop = []
  calls_i (transfer d e) = []

  pub calls_alts : Alts → List Word
  calls_alts no_alts = []
  calls_alts (alt c a bs) = calls_in a ++ calls_alts bs

unfoldable pub any_name : (Word → Bool) → List Word → Bool
any_name p [] = false
any_name p (n ∷ ns) = p n || any_name p ns

-- whether a chain of activations that begins with a body is over k bodies long
unfoldable pub chain_over : Table → ℕ → Word → Bool
chain_over ds zero n = true
chain_over ds (suc k) n = any_name (chain_over ds k) (calls_in (body_act ds n))
