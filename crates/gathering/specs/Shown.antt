-- What is gathered of the events of an action, as words of bits: what it reads, what it writes, whether it may stop.
use Rattle.std.specs.Prelude.{ℕ, ◌+◌, ◌≡◌, Bool, List, [], ◌∷◌, ◌++◌, drop}
use Rattle.rules.specs.Declarations.{Word}
use Rattle.rules.specs.Limits.{longest_chain}
use Rattle.rules.specs.Whole.Sets.{Sets, body_sets, body_stops, member}
use Rattle.records.specs.Holds.{token_at}
use Rattle.reading.specs.Kinds.{next_no}
use Rattle.reading.specs.Reading.{Reading, table_of}
use Rattle.reading.specs.Events.{Event, event, heard}
use Rattle.reading.specs.Touches.{any_event, read_hit, write_hit, stop_hit}
use Rattle.reading.specs.Calls.{calls_of}
use Rattle.reading.specs.Bits.{holds}
use Rattle.gathering.specs.Memory.{Recalls}

module _ {records decls : List ℕ} {m n : ℕ} (v : Reading records decls m n) where
  abbrev pub sets_for : Word → Sets
  sets_for w = body_sets (table_of v) longest_chain w

  abbrev pub stops_for : Word → Bool
  stops_for w = body_stops (table_of v) longest_chain w

  pub record Shown (r w : List ℕ) (s : Bool) (es : List Event) : Type 0 where
    pub reading : (c : ℕ) → holds r c ≡ any_event (read_hit (table_of v) sets_for c) es
    pub writing : (c : ℕ) → holds w c ≡ any_event (write_hit (table_of v) sets_for c) es
    pub stopping : s ≡ any_event (stop_hit stops_for) es

  -- all of some names are remembered
  abbrev pub AllRecalled : List ℕ → List Word → Type 0
  AllRecalled b [] = Unit {0}
  AllRecalled b (w ∷ ws) = Recalls v b w × AllRecalled b ws

  -- the event of the token i
  abbrev pub event_at : ℕ → ℕ → List Event
  event_at mode i = event mode (token_at v.tokens i) (next_no (drop (i + 1) v.tokens))

-- what the token adds to what is gathered
pub record Hears (records decls memo : List ℕ) (m n mode i : ℕ) (r w : List ℕ) (s : Bool) (r₁ w₁ : List ℕ) (s₁ : Bool) : Type 0 where
  pub adds : (v : Reading records decls m n) (es : List Event) → AllRecalled v memo (calls_of (event_at v mode i)) → Shown v r w s es → Shown v r₁ w₁ s₁
      (es ++ event_at v mode i)

-- what a body touches
pub record Touches {records decls : List ℕ} {m n : ℕ} (v : Reading records decls m n) (w : Word) (rs ws : List ℕ) (s : Bool) : Type 0 where
  pub its_reads : (c : ℕ) → holds rs c ≡ member c (sets_for v w).reads
  pub its_writes : (c : ℕ) → holds ws c ≡ member c (sets_for v w).writes
  pub its_stops : s ≡ stops_for v w

-- what is gathered of the whole action
abbrev pub Gathers : (records decls memo : List ℕ) (m n from : ℕ) (r w : List ℕ) (s : Bool) → Type 0
Gathers records decls memo m n from r w s =
    (v : Reading records decls m n) → AllRecalled v memo (calls_of (heard 0 0 (drop from v.tokens))) → Shown v r w s (heard 0 0 (drop from v.tokens))
