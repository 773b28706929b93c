-- The body of one declaration: where it stands, and what its action and its labels come to.
-- Assumes nothing.
use Rattle.std.specs.Prelude.{ℕ, ◌+◌, ◌<◌, ◌≤◌, min, ◌≡◌, false, List, [], ◌∷◌, length, drop, Some, None}
use Rattle.std.proofs.Math.Path.{refl, sym, ap}
use Rattle.std.proofs.Common.{ap₂, ◌∙◌, arith}
use Rattle.std.proofs.Math.Option.{Option, none, some}
use Rattle.std.proofs.Math.Decide.{dec_lt}
use Rattle.std.proofs.Math.Seq.{drop-append_seam}
use Rattle.rules.specs.Text.Tokens.{Kind, Becomes, Comma, END, Info, Token, tk, same}
use Rattle.rules.specs.Grammar.Trees.{Tokens, Action, block, action_tokens, Members, body, mapped, carrier, given, given_tokens}
use Rattle.rules.specs.Grammar.Trees.{words, with_bits, bare_body, main_bits_tokens, Declaration, plain, main, declaration_tokens, heading_tokens}
use Rattle.rules.specs.Grammar.Trees.{Declarations, declared_all, declared_also, declarations_tokens}
use Rattle.rules.specs.Limits.{deepest}
use Rattle.rules.specs.Declarations.{declared_of}
use Rattle.rules.specs.Faults.Bodies.{labels, label_faults, action_faults, body_faults}
use Rattle.laws_grammar.specs.Grammar.Heads.{action_head}
use Rattle.laws_grammar.specs.Cited.Nesting.{action_nest, declaration_nest}
use Rattle.laws_grammar.specs.Grammar.Positions.{main_bits_writes}
use Rattle.records.specs.Holds.{token_at}
use Rattle.keys.specs.Keys.{key, no_key, least_by, least_key}
use Rattle.keys.specs.Laws.Keys.{least_append}
use Rattle.table.specs.Laws.Positions.{here, behind_far}
use Rattle.records.specs.Words.{NameAt}
use Rattle.table.specs.Views.{View, behind, given_part, words_size_of, BodyAt}
use Rattle.table.specs.Laws.Views.{bits_part, name_token, bits_reads, no_body}
use Rattle.stacks.specs.Stacks.{stacked_words, Stacked, NameView, Pushed}
use Rattle.room.specs.Bodies.{index_from}
use Rattle.stacks.specs.Laws.Kept.{none_stacked}
use Rattle.stacks.specs.Laws.Pushed.{push_words, push_stacked}
use Rattle.plain.specs.declared.Walked.{Walked}
use Rattle.plain.specs.Stage.{outer_of, table_of}
use Rattle.plain.specs.Laws.Stage.{name_view}
use Rattle.plain.specs.Labels.{known_names, LabelsView, all_label_faults}
use Rattle.plain.specs.Actions.{EndsAction, by_semi, by_next, by_end, by_comma, ActionView, ActionAnswer}
use Rattle.bodies.specs.Bodies.{BodyView, faults_of_body}

-- what stands behind a declaration
record Follows (ts : Tokens) : Type 0 where
  next : Token
  rest : Tokens
  is : ts ≡ next ∷ rest
  ends : EndsAction next.kind

follows : (ds : Declarations) → Follows (declarations_tokens ds [])
follows (declared_all e) = record { next = tk END e; rest = []; is = refl; ends = by_end }
follows (declared_also c h d ds) = record { next = tk Comma c; rest = heading_tokens h (declaration_tokens d (declarations_tokens ds [])); is = refl; ends = by_comma }

pub no_becomes : {k : Kind} → EndsAction k → same k Becomes ≡ false
no_becomes by_semi = refl
no_becomes by_next = refl
no_becomes by_end = refl
no_becomes by_comma = refl

-- a body is a block that `:=` gives
record Blocks (d : Declaration) (a : Action) : Type 0 where
  becomes : Info
  begin : Info
  first : Action
  members : Members
  gives : given_part d ≡ given becomes (body begin first members)
  is : a ≡ block begin first members
  shallow : action_nest a ≤ declaration_nest d

blocks : (d : Declaration) (a : Action) → (declared_of d).body ≡ some a → Blocks d a
blocks (plain n (words l f c t r b o)) a e = absurd (let z : ◌≡◌ {A = ℕ} 0 1 = cc in omega arith)
blocks (plain n (with_bits l o carrier)) a e = absurd (let z : ◌≡◌ {A = ℕ} 0 1 = cc in omega arith)
blocks (plain n (with_bits l o (given x (body b y m)))) a e =
    let q : a ≡ block b y m = cc in record { becomes = x; begin = b; first = y; members = m; gives = refl; is = q; shallow = rw q (omega arith) }
blocks (plain n (with_bits l o (given x (mapped t b c r)))) a e = absurd (let z : ◌≡◌ {A = ℕ} 0 1 = cc in omega arith)
blocks (plain n (bare_body x b y m)) a e =
    let q : a ≡ block b y m = cc in record { becomes = x; begin = b; first = y; members = m; gives = refl; is = q; shallow = rw q (omega arith) }
blocks (main k n o x b y m) a e =
    let q : a ≡ block b y m = cc in record { becomes = x; begin = b; first = y; members = m; gives = refl; is = q; shallow = rw q (omega arith) }

module _ {records values : List ℕ} {i : ℕ} (v : View records values i) where
  -- two tokens at one place are one
  same_place : {p q : ℕ} {t : Token} → p < length v.tokens → q < length v.tokens → token_at v.tokens p ≡ t → token_at v.tokens q ≡ t → p ≡ q
  same_place {p} {q} {t} l m e f = go (dec_lt p q) (dec_lt q p)
    where
      place : (token_at v.tokens p).info.place ≡ (token_at v.tokens q).info.place
      place = ap (λ (x : Token). x.info.place) (e ∙ sym f)

      go : Dec (p < q) → Dec (q < p) → p ≡ q
      go (yes h) _ = absurd (omega (arith, place, v.holds.increasing p q h m))
      go (no h) (yes h') = absurd (omega (arith, place, v.holds.increasing q p h' l))
      go (no h) (no h') = omega arith

  abbrev bits : Tokens
  bits = main_bits_tokens (bits_part v.declaration) []

  given_there : drop (i + 1 + words_size_of v.declaration + length bits) v.tokens ≡ given_tokens (given_part v.declaration) (behind v)
  given_there =
      behind_far v.tokens (i + 1 + words_size_of v.declaration) _
      (bits_reads v _ refl ∙ (main_bits_writes (bits_part v.declaration)).grows [] (given_tokens (given_part v.declaration) (behind v))) (length bits)
      ∙ drop-append_seam bits (given_tokens (given_part v.declaration) (behind v))

  -- the body stands in front of what follows the declaration
  body_reads : (r j : ℕ) {a : Action} → (declared_of v.declaration).body ≡ some a → drop r v.tokens ≡ action_tokens a (drop j v.tokens)
      → drop r v.tokens ≡ action_tokens a (behind v)
  body_reads r j {a} e d =
      let x = blocks v.declaration a e in
      let p = i + 1 + words_size_of v.declaration + length bits in
      let there : drop (p + 1) v.tokens ≡ action_tokens a (behind v)
      = rw x.is (here v.tokens p _ _ (given_there ∙ ap (λ g. given_tokens g (behind v)) x.gives)).behind in
      let first = here v.tokens r _ _ (d ∙ action_head a (drop j v.tokens)) in
      let known = here v.tokens (p + 1) _ _ (there ∙ action_head a (behind v)) in
      ap (λ k. drop k v.tokens) (same_place first.within known.within first.token known.token) ∙ there

module _ {text records values decls room : List ℕ} {i : ℕ} (v : BodyView text records values decls room i) where
  abbrev pub declared_view : View records values i
  declared_view = record { text = text; tokens = v.stage.tokens; holds = v.stage.ready.holds; declaration = v.declaration; stands = v.stands }

  abbrev its_body : Option Action
  its_body = (declared_of v.declaration).body

  abbrev word : List ℕ
  word = (declared_of v.declaration).name.word

  name_at : NameAt v.stage.tokens i
  name_at = let n = name_token v.stands in record { within = n.0; kind = ap (λ (t : Token). t.kind) n.1 }

  pub bodiless : BodyAt v.stage.tokens None its_body → no_key ≡ least_key (faults_of_body v)
  unfolding least_by
  bodiless at = sym (ap (λ o. least_key (body_faults (outer_of v.stage) (table_of v.stage) word o)) (no_body v.stage.tokens None its_body at refl))

  -- the body begins with the token b
  pub record Begins (b : ℕ) : Type 0 where
    pub action : Action
    pub is : its_body ≡ some action
    pub next : Token
    pub rest : Tokens
    pub reads : drop b v.stage.tokens ≡ action_tokens action (next ∷ rest)
    pub ends : EndsAction next.kind
    pub shallow : action_nest action ≤ deepest
    pub past : 0 < b

  pub begins : {b : ℕ} → BodyAt v.stage.tokens (Some b) its_body → Begins b
  begins {b} at = go its_body refl at
    where
      go : (o : Option Action) → its_body ≡ o → BodyAt v.stage.tokens (Some b) o → Begins b
      go none e at = absurd at
      go (some a) e at =
          let f = follows v.stands.following in
          record {
            action = a;
            is = e;
            next = f.next;
            rest = f.rest;
            reads = body_reads declared_view b at.1.0 e at.1.1.reads ∙ ap (action_tokens a) f.is;
            ends = f.ends;
            shallow = let s = v.shallow in omega (arith, (blocks v.declaration a e).shallow);
            past = at.0;
          }

  pub own_name : NameView records room 0 i × (0 < index_from)
  own_name = (name_view v.stage (none_stacked records v.stage.tokens room) name_at v.large, omega arith)

  module _ {b : ℕ} (h : Begins b) {room₁ : List ℕ} (p : Pushed records 0 i room room₁) where
    pub name_stacked : Stacked records v.stage.tokens room₁ 1
    name_stacked = push_stacked p v.stage.tokens (none_stacked records v.stage.tokens room) (let l = v.large in omega arith) name_at

    name_word : stacked_words v.stage.tokens room₁ 1 ≡ word ∷ []
    unfolding stacked_words
    name_word = push_words p v.stage.tokens ∙ ap (λ (t : Token). t.info.word ∷ []) (name_token v.stands).1

    abbrev pub body_view : ActionView text records values decls room₁ b 1 deepest
    body_view = record {
      stage = v.stage;
      action = h.action;
      next = h.next;
      rest = h.rest;
      reads = h.reads;
      ends = h.ends;
      shallow = h.shallow;
      bounded = omega arith;
      stacked = name_stacked;
      low = let p = h.past in omega arith;
      large = let l = v.large in omega (arith, p.kept.long);
    }

    module _ {r : Walked} (a : ActionAnswer body_view r) where
      abbrev pub labels_view : LabelsView text records values decls b r.next
      labels_view = record {
        stage = v.stage;
        action = h.action;
        next = h.next;
        rest = h.rest;
        reads = h.reads;
        behind = a.behind;
        ends = no_becomes h.ends;
      }

      pub body_answer : {k l : ℕ} → l ≡ least_key (all_label_faults labels_view) → k ≡ min r.key l → k ≡ least_key (faults_of_body v)
      body_answer {k} {l} is_labels e =
          let outer = outer_of v.stage in
          let ds = table_of v.stage in
          e ∙ ap₂ min (a.key ∙ ap (λ ws. least_key (action_faults outer ds ws h.action)) name_word) is_labels
          ∙ sym (least_append key (action_faults outer ds (word ∷ []) h.action) (label_faults (known_names v.stage) (labels h.action [])))
          ∙ ap (λ o. least_key (body_faults outer ds word o)) (sym h.is)
