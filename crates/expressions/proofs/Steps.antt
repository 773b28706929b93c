-- The steps of `access`, `operand` and `expression`: what each call asks and what each answer gives, from what the code knows there. Each holds for
-- every tree that stands in the table.
-- Assumes nothing.
use native.Mathlib.Omega.{arith}
use mathlib.Core.Path.{◌≡◌, ap, ◌∙◌}
use mathlib.Core.Bool.{true, false}
use mathlib.Core.List.{List, ◌∷◌}
use Prim.Native.Nat.{ℕ, ◌+◌, ◌-◌, ◌*◌, ◌<◌, ◌≤◌, min}
use lib.ListN.{length, set, length-set}
use Rattle.rules.specs.Text.Tokens.{Const, LPar, LBra, kind_no, Token}
use Rattle.rules.specs.Grammar.Trees.{Tokens}
use Rattle.rules.specs.Grammar.Precedence.{Factor}
use Rattle.rules.specs.Faults.Bodies.{Judged}
use Rattle.records.specs.Holds.{kind_byte, size_byte}
use Rattle.keys.specs.Keys.{no_key}
use Rattle.table.specs.Laws.Positions.{here}
use Rattle.accesses.specs.declared.Judged.{Judged as Answer}
use Rattle.table.specs.Operators.{tightness_at}
use Rattle.accesses.specs.Scene.{Scene, Answers}
use Rattle.expressions.specs.Expressions.{ExpressionAt, ExpressionAnswer, OperandAt, OperandAnswer, AccessAt, AccessAnswer}
use Rattle.accesses.specs.Names.{NamedAt, NamedAnswer}
use Rattle.expressions.specs.Laws.Accesses as accesses
use Rattle.expressions.specs.Laws.Operands as operands
use Rattle.nots.specs.Nots.{OperandIn, Bared}
use Rattle.weighing.specs.Settling.{SettleAt, Settles}
use Rattle.expressions.specs.Laws.Expressions as chains
use Rattle.expressions.specs.Laws.Expressions.{Going}

-- the token behind an answer
next_few : {records values decls : List ℕ} (s : Scene records values decls) {n : Token} {rest : Tokens} {i : ℕ} {j : Judged} {r : Answer}
    → Answers s.tokens (n ∷ rest) i j r → r.next < 8192
next_few s {r = r} a = omega (arith, (here s.tokens r.next _ _ a.behind).within, s.ready.holds.few)

-- `access`
module _ {records values decls : List ℕ} {i depth : ℕ} where
  pub second_room : AccessAt records values decls i depth → 8 * (i + 1) + 8 ≤ length records
  second_room v = accesses.second_room v

  module _ {k : ℕ} (e : k ≡ kind_byte records (i + 1)) where
    pub plain_name : (k ≡ kind_no LBra → ⊥) → AccessAt records values decls i depth → NamedAt records values decls i (i + 1)
    plain_name n v = (accesses.plain v e n).view

    pub plain_returns : (k ≡ kind_no LBra → ⊥) → {r : Answer} → ((u : NamedAt records values decls i (i + 1)) → NamedAnswer u false r)
        → (v : AccessAt records values decls i depth) → AccessAnswer v r
    plain_returns n f v = let p = accesses.plain v e n in p.answer (f p.view)

    module _ (h : k ≡ kind_no LBra) where
      pub index_deep : AccessAt records values decls i depth → 0 < depth
      index_deep v = (accesses.indexed v e h).deep

      pub index_at : AccessAt records values decls i depth → ExpressionAt records values decls (i + 2) (depth - 1)
      index_at v = (accesses.indexed v e h).view

      module _ {r : Answer} (f : (u : ExpressionAt records values decls (i + 2) (depth - 1)) → ExpressionAnswer u r) where
        pub index_few : AccessAt records values decls i depth → r.next < 8192
        index_few v = let u = (accesses.indexed v e h).view in next_few u.scene (f u)

        pub indexed_name : AccessAt records values decls i depth → NamedAt records values decls i (r.next + 1)
        indexed_name v = let x = accesses.indexed v e h in x.name_view (f x.view)

        module _ {q : Answer} (g : (u : NamedAt records values decls i (r.next + 1)) → NamedAnswer u true q) (x : ℕ) (ex : x ≡ min r.key q.key) where
          pub indexed_unsound : x < no_key → (v : AccessAt records values decls i depth) → AccessAnswer v (record { key = x; bits = 0; next = q.next })
          indexed_unsound l v = let y = accesses.indexed v e h in let a = f y.view in rw ex (y.unsound a (g (y.name_view a)) (rw ex at l))

          pub indexed_sound : no_key ≤ x → (v : AccessAt records values decls i depth) → AccessAnswer v (record { key = x; bits = q.bits; next = q.next })
          indexed_sound l v = let y = accesses.indexed v e h in let a = f y.view in rw ex (y.sound a (g (y.name_view a)) (rw ex at l))

-- `operand`
module _ {records values decls : List ℕ} {i depth : ℕ} where
  pub in_table : OperandAt records values decls i depth → OperandIn records i
  in_table v = operands.operand_in v

  module _ {p : ℕ} (f : (u : OperandIn records i) → Bared u p) where
    pub bare_room : OperandAt records values decls i depth → 8 * p + 8 ≤ length records
    bare_room v = operands.bare_room v (f (operands.operand_in v))

    module _ {k : ℕ} (e : k ≡ kind_byte records p) where
      pub constant_returns : k ≡ kind_no Const → (n : ℕ) → n ≡ size_byte records p
          → (v : OperandAt records values decls i depth) → OperandAnswer v (record { key = no_key; bits = n; next = p + 1 })
      constant_returns h n m v = operands.constant_answer v (f (operands.operand_in v)) e h m

      module _ (h : k ≡ kind_no LPar) where
        pub group_deep : OperandAt records values decls i depth → 0 < depth
        group_deep v = operands.group_depth v (f (operands.operand_in v)) e h

        pub group_at : OperandAt records values decls i depth → ExpressionAt records values decls (p + 1) (depth - 1)
        group_at v = operands.group_at v (f (operands.operand_in v)) e h

        module _ {r : Answer} (g : (u : ExpressionAt records values decls (p + 1) (depth - 1)) → ExpressionAnswer u r) where
          pub group_few : OperandAt records values decls i depth → r.next < 8192
          group_few v = let u = group_at v in next_few u.scene (g u)

          pub group_returns : (v : OperandAt records values decls i depth) → OperandAnswer v (record { key = r.key; bits = r.bits; next = r.next + 1 })
          group_returns v = let b = f (operands.operand_in v) in operands.group_answer v b e h (g (operands.group_at v b e h))

      module _ (nc : k ≡ kind_no Const → ⊥) (np : k ≡ kind_no LPar → ⊥) where
        pub access_at : OperandAt records values decls i depth → AccessAt records values decls p depth
        access_at v = operands.access_at v (f (operands.operand_in v)) e nc np

        pub access_returns : {r : Answer} → ((u : AccessAt records values decls p depth) → AccessAnswer u r)
            → (v : OperandAt records values decls i depth) → OperandAnswer v r
        access_returns g v = let b = f (operands.operand_in v) in operands.access_answer v b e nc np (g (operands.access_at v b e nc np))

-- `expression`: the loop's invariant, for every tree
pub record Inv (records values decls : List ℕ) (i depth : ℕ) (ats keys lengths : List ℕ) (count : ℕ) (last : Answer) : Type 0 where
  pub ats_long : length ats ≡ 5
  pub keys_long : length keys ≡ 5
  pub lengths_long : length lengths ≡ 5
  pub room : 8 * last.next + 8 ≤ length records
  pub small : last.next < 8192
  pub all : (v : ExpressionAt records values decls i depth) → Going v ats keys lengths count last.key last.bits last.next

module _ {records values decls : List ℕ} {i depth : ℕ} where
  pub first_operand : ExpressionAt records values decls i depth → OperandAt records values decls i depth
  first_operand v = chains.first_operand v

  module _ {ats keys lengths : List ℕ} (la : length ats ≡ 5) (lk : length keys ≡ 5) (ll : length lengths ≡ 5) {count : ℕ} {last : Answer}
      (g : (v : ExpressionAt records values decls i depth) → Going v ats keys lengths count last.key last.bits last.next) where
    pub holding : ExpressionAt records values decls i depth → Inv records values decls i depth ats keys lengths count last
    holding v = record {
      ats_long = la;
      keys_long = lk;
      lengths_long = ll;
      room = chains.token_room v (g v);
      small = omega (arith, chains.token_within v (g v), v.scene.ready.holds.few);
      all = g;
    }

  pub begun : {ats keys lengths : List ℕ} → length ats ≡ 5 → length keys ≡ 5 → length lengths ≡ 5 → {r : Answer}
      → ((u : OperandAt records values decls i depth) → OperandAnswer u r) → ExpressionAt records values decls i depth
      → Inv records values decls i depth ats keys lengths 0 r
  begun la lk ll f v = holding la lk ll (λ v. chains.begun v (f (chains.first_operand v))) v

  module _ {ats keys lengths : List ℕ} {count : ℕ} {last : Answer} (inv : Inv records values decls i depth ats keys lengths count last) where
    pub settle_at : ExpressionAt records values decls i depth → SettleAt records ats keys lengths count last.key last.bits
    settle_at v = chains.settle_at v (inv.all v)

    module _ (op tight : ℕ) (eo : op ≡ kind_byte records last.next) (et : tight ≡ tightness_at op) {count' k' n' : ℕ}
        (f : (u : SettleAt records ats keys lengths count last.key last.bits) (operand : Factor → Judged)
        → Settles operand tight u.waits u.value count' k' n') where
      binds : tight ≡ tightness_at (kind_byte records last.next)
      binds = et ∙ ap tightness_at eo

      settles : (v : ExpressionAt records values decls i depth) → Settles (chains.judged_operand v) tight (inv.all v).waits (inv.all v).value count' k' n'
      settles v = f (chains.settle_at v (inv.all v)) (chains.judged_operand v)

      pub returns : tight ≡ 0 → (v : ExpressionAt records values decls i depth) → ExpressionAnswer v (record { key = k'; bits = n'; next = last.next })
      returns z v = chains.ended v (inv.all v) binds z (settles v)

      module _ (nz : tight ≡ 0 → ⊥) where
        pub slot_free : ExpressionAt records values decls i depth → count' < 5
        slot_free v = chains.slot v (inv.all v) (chains.goes_on v (inv.all v) binds nz) (settles v)

        pub next_operand : ExpressionAt records values decls i depth → OperandAt records values decls (last.next + 1) depth
        next_operand v = chains.next_operand v (inv.all v) (chains.goes_on v (inv.all v) binds nz) (settles v)

        module _ {r : Answer} (h : (u : OperandAt records values decls (last.next + 1) depth) → OperandAnswer u r) where
          pub again : ExpressionAt records values decls i depth
              → Inv records values decls i depth (set ats count' last.next) (set keys count' k') (set lengths count' n') (count' + 1) r
          again =
              holding (length-set ats count' last.next ∙ inv.ats_long) (length-set keys count' k' ∙ inv.keys_long) (length-set lengths count' n' ∙ inv.lengths_long)
              (λ v. let o = chains.goes_on v (inv.all v) binds nz in
              chains.turn v (inv.all v) o (settles v) inv.ats_long inv.keys_long inv.lengths_long (h (chains.next_operand v (inv.all v) o (settles v))))

          pub further : ExpressionAt records values decls i depth → last.next < r.next
          further v = let q = (h (next_operand v)).past in omega arith
