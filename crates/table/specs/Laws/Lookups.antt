-- Laws of looking a name up: it is the k-th declaration's or it is found behind.
-- Assumes nothing.
use Rattle.std.specs.Prelude.{ℕ, suc, ◌<◌, ◌≡◌, Bool, true, false, List, map, length, drop}
use Rattle.std.proofs.Math.Path.{sym}
use Rattle.std.proofs.Common.{ap, ◌∙◌, arith}
use Rattle.std.proofs.Math.Option.{Option, some}
use Rattle.cells.specs.Cells.{cell}
use Rattle.rules.specs.Text.Tokens.{Name, Token, tk}
use Rattle.rules.specs.Text.Scan.{same_bytes}
use Rattle.rules.specs.Grammar.Trees.{Tokens, Declaration}
use Rattle.rules.specs.Declarations.{declared_of, number_from}
use Rattle.records.specs.Holds.{Holds, token_at}
use Rattle.records.specs.Words.{NameAt, word_at, TwoNames, same_words}
use Rattle.table.specs.Laws.Views.{name_token}
use Rattle.table.specs.Lookups.{DeclsHold, Nth, nth}

-- m declarations stand in a table, and a name is its token i
pub record Known (text records decls : List ℕ) (m i : ℕ) : Type 0 where
  pub values : List ℕ
  pub tokens : Tokens
  pub holds : Holds text records values tokens
  pub declared : List Declaration
  pub decls_hold : DeclsHold decls tokens declared
  pub count : m ≡ length declared
  pub name : NameAt tokens i

module _ {text records decls : List ℕ} {m i : ℕ} (v : Known text records decls m i) where
  -- the number of the first that has the word, when the first k have not
  abbrev pub number_past : ℕ → Option ℕ
  number_past k = number_from k (word_at v.tokens i) (map declared_of (drop k v.declared))

  module _ {k p : ℕ} (l : k < m) (e : p ≡ cell 2 decls k) where
    abbrev pub here_declared : Nth v.declared k
    here_declared = nth v.declared k (omega (arith, v.count))

    pub declared_name : (p < length v.tokens) × (token_at v.tokens p ≡ tk Name (declared_of here_declared.declaration).name)
    declared_name = rw e (name_token (v.decls_hold.each k here_declared.declaration here_declared.found))

    abbrev pub both_names : TwoNames text records p i
    both_names = record {
      values = v.values;
      tokens = v.tokens;
      holds = v.holds;
      first = record { within = declared_name.0; kind = ap (λ (t : Token). t.kind) declared_name.1 };
      second = v.name;
    }

    pub number_step : (r : Bool) → r ≡ same_words both_names → number_past k ≡ elim r [ true ↦ some k | false ↦ number_past (suc k) ]
    unfolding number_from
    number_step r same =
        let spelled : same_bytes (declared_of here_declared.declaration).name.word (word_at v.tokens i) ≡ r
        = sym (ap (λ (t : Token). same_bytes t.info.word (word_at v.tokens i)) declared_name.1) ∙ sym same in
        rw (here_declared.split, number_from, spelled)
