-- PROMISED: where the links of an accepted description are written, the table keeps the reader's promise to the runner, and MAIN's name leads to where
-- a run begins.
-- Assumes nothing.
use Rattle.std.specs.Prelude.{ℕ, ◌*◌, ◌<◌, ◌≤◌, ◌≡◌, List, [], length}
use Rattle.std.proofs.Common.{sym, ap, ◌∙◌, subst}
use Rattle.std.proofs.Math.Option.{some}
use Rattle.rules.specs.Text.Tokens.{Name, tk}
use Rattle.rules.specs.Text.Scan.{plain_info, scan}
use Rattle.rules.specs.Grammar.Trees.{Tokens, Action, Description}
use Rattle.rules.specs.Declarations.{Word, declarations, outer_name, body_of, total_words}
use Rattle.rules.specs.Faults.Fault.{Fault, by_place_of, by_number_of, least}
use Rattle.rules.specs.Faults.Declared.{faults30}
use Rattle.rules.specs.Limits.{most_declarations}
use Rattle.rules.specs.Faults.Bodies.{faults40}
use Rattle.rules.specs.Faults.Whole.{main_name, faults50}
use Rattle.rules.specs.Answers.{accepted, judgement, or_else}
use Rattle.laws_accepted.proofs.Accepted.Declared.{declares, few_words}
use Rattle.laws_accepted.proofs.Accepted.Orderly.{orderly}
use Rattle.laws_accepted.proofs.Accepted.Scanned.{TokenOk, scanned_each}
use Rattle.laws_code.specs.Cited.Placed.{description_code}
use Rattle.laws_code.proofs.Links.Placed.{accepted_assembled}
use Rattle.records.specs.Holds.{token_at}
use Rattle.table.specs.Ready.{Ready}
use Rattle.promise.specs.Accesses.{AccessesHold}
use Rattle.promise.specs.Promise.{Promise}
use Rattle.links.specs.Links.{Links}
use Rattle.links.specs.Mains.{MainIn, MainFound}
use Rattle.links.specs.Laws.Instructed.{now_holds, reached_holds, starts_at}

-- a description without faults is accepted
judged : (d : Description) → faults30 (outer_name d).word (declarations d) ≡ [] → faults40 (outer_name d).word (declarations d) (declarations d) ≡ []
    → faults50 (declarations d) ≡ [] → judgement d ≡ accepted (length (declarations d)) (total_words (declarations d))
unfolding judgement least
judged d f g h =
    let ds = declarations d in
    let out = (outer_name d).word in
    let whole = accepted (length ds) (total_words ds) in
    ap (λ (fs : List Fault). or_else (least by_place_of fs) (or_else (least by_place_of (faults40 out ds ds)) (or_else (least by_number_of (faults50 ds)) whole))) f
    ∙ (ap (λ (fs : List Fault). or_else (least by_place_of fs) (or_else (least by_number_of (faults50 ds)) whole)) g ∙ ap (λ (fs : List Fault). or_else (least by_number_of fs) whole) h)

module _ {text before after values decls : List ℕ} {ts : Tokens} {d : Description} {m : ℕ} (r : Ready text before values decls ts d m)
    (links : Links before after decls ts d) where
  constants : ts ≡ (scan text).tokens → (i : ℕ) → i < length ts → TokenOk (token_at ts i)
  constants scanned i = subst (λ (xs : Tokens). i < length xs → TokenOk (token_at xs i)) (sym scanned) (scanned_each text (tk Name (plain_info 0)) i)

  -- from what the passes before have shown: no fault of the 40s and 50s, tokens that are those of the text, and every access placed
  pub promised : faults40 (outer_name d).word (declarations d) (declarations d) ≡ [] → faults50 (declarations d) ≡ [] → ts ≡ (scan text).tokens
      → AccessesHold values ts (outer_name d).word (declarations d) → 2 * most_declarations ≤ length decls
      → Promise text after values decls ts (outer_name d).word (declarations d) (description_code d)
  promised of40 of50 scanned accesses room = record {
    holds = now_holds r links;
    fits = λ i l e. (constants scanned i l e).0.fits;
    decls_room = room;
    fixed = λ i l e. (constants scanned i l e).1;
    declares = declares d r.lawful;
    few_words = few_words (declares d r.lawful);
    accesses = accesses;
    bodies = accepted_assembled d _ _ (judged d r.lawful of40 of50);
    chains = (orderly (outer_name d).word (declarations d) of40 of50).chains;
    instructions = reached_holds r links of40;
  }

  -- so a run of MAIN begins at what is found for it
  abbrev pub main_in : faults50 (declarations d) ≡ [] → MainIn after decls m
  main_in of50 = record {
    text = text;
    values = values;
    tokens = ts;
    description = d;
    holds = now_holds r links;
    declared = r.declared;
    count = r.count;
    of50 = of50;
  }

  pub main_starts : (of50 : faults50 (declarations d) ≡ []) (start : ℕ) → MainFound (main_in of50) start
      → (a : Action) × (body_of (declarations d) (main_name (declarations d)) ≡ some a) × (start ≡ (description_code d).first (main_name (declarations d)))
  main_starts of50 start t =
      let s = starts_at r links t.number t.declaration t.body t.found t.its in (
        t.body,
        subst (λ (n : Word). body_of (declarations d) n ≡ some t.body) t.named s.0,
        t.leads ∙ (s.1 ∙ ap (λ (n : Word). (description_code d).first n) t.named),
      )
