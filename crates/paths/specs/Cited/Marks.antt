-- What a walk of a body's tree keeps: flags for the ends of what is open, by their numbers, the places so far, and the labels that it is inside.
use Rattle.std.specs.Prelude.{ℕ, Bool, false, cond, not, ◌||◌, ◌&&◌, List, [], ◌∷◌, ◌++◌, eqb}
use Rattle.std.proofs.Math.Option.{Option, none, some}
use Rattle.rules.specs.Text.Scan.{same_bytes}
use Rattle.rules.specs.Declarations.{Word}

abbrev pub Flags : Type 0
Flags = ℕ → Bool

-- the flags, and the places so far
pub record Marks : Type 0 where
  pub flags : Flags
  pub places : List ℕ

abbrev pub unmarked : Marks
unmarked = record { flags = λ j. false; places = [] }

-- a label, and the flag at its end
pub record Slot : Type 0 where
  pub name : Word
  pub flag : ℕ

abbrev pub slot : Word → ℕ → Slot
slot l k = record { name = l; flag = k }

abbrev pub marked : ℕ → Bool → Marks → Marks
marked k b w = record { flags = λ j. (eqb j k && b) || w.flags j; places = w.places }

abbrev pub cleared : ℕ → Marks → Marks
cleared d w = record { flags = λ j. not (eqb j d) && w.flags j; places = w.places }

abbrev pub added : List ℕ → Marks → Marks
added ps w = record { flags = w.flags; places = w.places ++ ps }

-- the innermost label of a name
abbrev pub flag_of : List Slot → Word → Option ℕ
flag_of [] l = none
flag_of (s ∷ ls) l = cond (same_bytes l s.name) (some s.flag) (flag_of ls l)

abbrev pub marked_at : Option ℕ → Bool → Marks → Marks
marked_at none b w = w
marked_at (some k) b w = marked k b w
