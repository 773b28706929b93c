-- Laws of the loop over the groups of a description.
use Rattle.std.specs.Prelude.{ℕ, ◌+◌, ◌<◌, ◌≤◌, ◌≡◌, refl, Bool, true, false, List, [], drop, Some, None, Option as Found, is_some}
use Rattle.std.proofs.Common.{sym, ◌∙◌, arith}
use Rattle.std.proofs.Math.Path.{ap}
use Rattle.std.proofs.Math.Option.{Option}
use Rattle.std.proofs.lemmas.Bool.{false≢true}
use Rattle.laws_orders.proofs.Orders.Tests.{impossible}
use Rattle.records.specs.Holds.{kind_byte, token_at}
use Rattle.table.specs.Scans.{no}
use Rattle.reading.specs.Reading.{Reading, table_of}
use Rattle.reading.specs.Laws.Reading.{kinded, next_token, no_more}
use Rattle.gathering.specs.Filling.{Complete}
use Rattle.scopes.specs.Walks.{opens}
use Rattle.rules.specs.Reasons.{Race, first_race, race_from, race_among}
use Rattle.racing.specs.Groups.{group_here, groups_here, race_here}
use Rattle.racing.specs.declared.members.Pair.{Pair}
use Rattle.racing.specs.Found.{InGroup, InTokens}

pub record Looking (records decls memo : List ℕ) (m n place i : ℕ) : Type 0 where
  pub reading : Reading records decls m n
  pub complete : Complete records decls memo m n
  pub so_far : (v : Reading records decls m n) → race_here (table_of v) place (drop 3 v.tokens) ≡ race_here (table_of v) place (drop i v.tokens)

pub look_starts : {records decls memo : List ℕ} {m n place : ℕ} → Reading records decls m n → Complete records decls memo m n → Looking records decls memo m n place 3
look_starts x c = record { reading = x; complete = c; so_far = λ v. refl }

no_pair : (p : Found Pair) → is_some p ≡ false → p ≡ None
no_pair None e = refl
no_pair (Some q) e = impossible (cc)

module _ {records decls memo : List ℕ} {m n place i : ℕ} (inv : Looking records decls memo m n place i) where
  pub look_over : n ≤ i → InTokens records decls m n 3 place None
  unfolding race_here groups_here race_among
  look_over h = record {
    found = record { apart = λ q. impossible (cc); one = λ q v. impossible (cc); nothing = λ q v. inv.so_far v ∙ ap (race_here (table_of v) place) (no_more (kinded v) i h) };
  }

  module _ (h : i < n) {kind : ℕ} (k : kind ≡ kind_byte records i) {b : Bool} (o : b ≡ opens kind) where
    opens_is : (v : Reading records decls m n) → opens (no (token_at v.tokens i)) ≡ b
    opens_is v = sym (o ∙ ap opens (k ∙ (kinded v).kind i h))

    at_group : b ≡ true → (v : Reading records decls m n) → race_here (table_of v) place (drop 3 v.tokens)
        ≡ first_race (race_from place [] (group_here (table_of v) (drop (i + 1) v.tokens))) (race_here (table_of v) place (drop (i + 1) v.tokens))
    unfolding race_here groups_here race_among
    at_group t v = inv.so_far v ∙ (ap (race_here (table_of v) place) (next_token (kinded v) i h) ∙ rw (opens_is v ∙ t, groups_here) refl)

    pub look_other : b ≡ false → Looking records decls memo m n place (i + 1)
    unfolding race_here groups_here race_among
    look_other f = record {
      reading = inv.reading;
      complete = inv.complete;
      so_far = λ v. inv.so_far v ∙ (ap (race_here (table_of v) place) (next_token (kinded v) i h) ∙ rw (opens_is v ∙ f, groups_here) refl);
    }

    module _ (t : b ≡ true) (p : Found Pair) (g : InGroup records decls m n (i + 1) place p) where
      pub look_found : is_some p ≡ true → InTokens records decls m n 3 place p
      look_found q = record {
        found = record {
          apart = g.apart;
          one = λ e v. at_group t v ∙ ap (λ (x : Option Race). first_race x (race_here (table_of v) place (drop (i + 1) v.tokens))) (g.one e v);
          nothing = λ e v. absurd (false≢true (sym (ap is_some e) ∙ q));
        };
      }

      pub look_past : is_some p ≡ false → Looking records decls memo m n place (i + 1)
      look_past q = record {
        reading = inv.reading;
        complete = inv.complete;
        so_far = λ v. at_group t v ∙ ap (λ (x : Option Race). first_race x (race_here (table_of v) place (drop (i + 1) v.tokens))) (g.nothing (no_pair p q) v);
      }
