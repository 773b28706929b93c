-- `destinations::destination` meets its contract. The invariant: what is judged and stored to so far, with the accesses that are left,
-- comes to the whole.
-- Assumes nothing.
use borrow.Author.Rules.{rules}
use native.Mathlib.Omega.{arith}
use mathlib.Core.Path.{◌≡◌, refl, ap, ◌∙◌}
use mathlib.Core.List.{List}
use Prim.Native.Nat.{ℕ, ◌+◌, ◌*◌, ◌<◌, ◌≤◌, min}
use lib.ListN.{length, replicate}
use Rattle.rules.specs.Text.Tokens.{At, kind_no, Info, Op, op_kind, join}
use Rattle.rules.specs.Faults.Fault.{when}
use Rattle.rules.specs.Faults.Bodies.{Judged}
use Rattle.records.specs.Holds.{kind_byte, place_cell}
use Rattle.keys.specs.Keys.{no_key, least_key}
use Rattle.accesses.specs.declared.Judged.{Judged as Answer}
use Rattle.weighing.specs.declared.Weight.{Weight}
use Rattle.destinations.specs.declared.carriers.Carriers.{Carriers}
use Rattle.weighing.specs.Weights.{Weighs, operated}
use Rattle.expressions.specs.Expressions.{AccessAt, AccessAnswer}
use Rattle.destinations.specs.Owners.{NameHere, Owns}
use Rattle.destinations.specs.Destinations.{DestinationAt, DestinationAnswer, repeats, stored}
use Rattle.destinations.specs.Laws.Destinations.{access_name, Joining, first_part, joining_begun, token_within, token_room, another, joining_ended, next_part, operator_place, place_fits, name_fits, part_weighs, joining_more}
use Rattle.destinations.proofs.destination.Invariants.{Inv}
use Rattle.std.specs.Prelude.{Option}
use Rattle.destinations.proofs.destination.Goals as goal

module _ {records values decls : List ℕ} {i depth : ℕ} where
  holding : {kept : Carriers} {weight : Weight} {twice p : ℕ} → ((v : DestinationAt records values decls i depth) → Joining v weight.key weight.bits kept.words twice p)
      → DestinationAt records values decls i depth → Inv records values decls i depth kept weight twice p
  holding g v = record {
    room = token_room v (g v);
    small = omega (arith, token_within v (g v), v.scene.ready.holds.few);
    short = omega (arith, (g v).weighs.bits, (g v).weighs.fine.few);
    all = g;
  }

  first_access : DestinationAt records values decls i depth → AccessAt records values decls i depth
  first_access v = first_part v

  first_name : DestinationAt records values decls i depth → NameHere records values decls i
  first_name v = access_name (first_part v)

  begin : {r : Answer} → ((u : AccessAt records values decls i depth) → AccessAnswer u r) → {t : Option ℕ} → ((u : NameHere records values decls i) → Owns u t)
      → {empty kept : Carriers} → empty.words ≡ replicate 4 0 → kept.words ≡ stored empty.words t
      → DestinationAt records values decls i depth → Inv records values decls i depth kept (record { key = r.key; bits = r.bits }) no_key r.next
  begin f {t} o e s =
      holding (λ v. rw (s ∙ ap (λ w. stored w t) e) (joining_begun v (f (first_part v)) t (o (access_name (first_part v)))))

  module _ {kept : Carriers} {weight : Weight} {twice p : ℕ} (inv : Inv records values decls i depth kept weight twice p) {x : ℕ} (e : x ≡ kind_byte records p) where
    ended : (x ≡ kind_no At → ⊥) → (y : ℕ) → y ≡ min weight.key twice → (v : DestinationAt records values decls i depth)
        → DestinationAnswer v (record { key = y; next = p })
    ended h y m v = joining_ended v (inv.all v) e h m

    module _ (h : x ≡ kind_no At) where
      next_access : DestinationAt records values decls i depth → AccessAt records values decls (p + 1) depth
      next_access v = next_part v (inv.all v) (another v (inv.all v) e h)

      next_name : DestinationAt records values decls i depth → NameHere records values decls (p + 1)
      next_name v = access_name (next_access v)

      named_fits : DestinationAt records values decls i depth → (8 * (p + 1) + 8 ≤ length records) × (place_cell records (p + 1) ≤ 32768)
      named_fits v = name_fits v (inv.all v) (another v (inv.all v) e h)

      module _ {r : Answer} (f : (u : AccessAt records values decls (p + 1) depth) → AccessAnswer u r) where
        combined_fits : (place : ℕ) → place ≡ place_cell records p → DestinationAt records values decls i depth
            → (weight.bits ≤ 64) × (r.bits ≤ 64) × (place ≤ 32768)
        combined_fits place ep v =
            let a = f (next_access v) in
            (inv.short, omega (arith, a.weighs.bits, a.weighs.fine.few), omega (arith, place_fits v (inv.all v) (another v (inv.all v) e h)))

        further : DestinationAt records values decls i depth → p < r.next
        further v = let q = (f (next_access v)).past in omega arith

        again : {place : ℕ} → place ≡ place_cell records p → {weight' : Weight}
            → ((o : Op) (j : Info) (a b : Judged) → kind_no At ≡ kind_no (op_kind o) → place ≡ j.place → Weighs weight.key weight.bits a
            → Weighs r.key r.bits b → Weighs weight'.key weight'.bits (operated o j a b))
            → {t : Option ℕ} → ((u : NameHere records values decls (p + 1)) → Owns u t)
            → {y : ℕ} → y ≡ least_key (when (repeats kept.words t) 46 (place_cell records (p + 1))) → {twice' : ℕ} → twice' ≡ min twice y
            → {kept' : Carriers} → kept'.words ≡ stored kept.words t
            → DestinationAt records values decls i depth → Inv records values decls i depth kept' weight' twice' r.next
        again ep g {t} o ey et es = holding λ v.
            let q = another v (inv.all v) e h in
            let a = f (next_part v (inv.all v) q) in
            rw es (joining_more v (inv.all v) q a
            (g join q.info (inv.all v).value _ refl (ep ∙ operator_place v (inv.all v) q) (inv.all v).weighs (part_weighs v (inv.all v) q a))
            t (o (access_name (next_part v (inv.all v) q))) ey et)

pub access-first-requires : goal.access-first-requires
access-first-requires c = search (rules, first_access)

pub owner-to-requires : goal.owner-to-requires
owner-to-requires c = search (rules, first_name)

pub loop-kept-init : goal.loop-kept-init
loop-kept-init c = begin c.access-first.ensures c.owner-to.ensures c.no_carriers.ensures c.with_storage-kept.ensures c.requires

pub returns : goal.returns
returns c = ended c.loop-kept.invariant c.kind_at.ensures c.loop-kept-test.false _ c.earlier.ensures

pub access-part-requires : goal.access-part-requires
access-part-requires c = next_access c.loop-kept.invariant c.kind_at.ensures c.loop-kept-test.true c.requires

pub combined-weight-requires : goal.combined-weight-requires
combined-weight-requires c = combined_fits c.loop-kept.invariant c.kind_at.ensures c.loop-kept-test.true c.access-part.ensures _ c.place_at.ensures c.requires

pub owner-again-requires : goal.owner-again-requires
owner-again-requires c = next_name c.loop-kept.invariant c.kind_at.ensures c.loop-kept-test.true c.requires

pub repeat_key-requires : goal.repeat_key-requires
repeat_key-requires c = named_fits c.loop-kept.invariant c.kind_at.ensures c.loop-kept-test.true c.requires

pub loop-kept-smaller : goal.loop-kept-smaller
loop-kept-smaller c = omega (arith, further c.loop-kept.invariant c.kind_at.ensures c.loop-kept-test.true c.access-part.ensures c.requires, c.loop-kept.invariant.room)

pub loop-kept-preserved : goal.loop-kept-preserved
loop-kept-preserved c = again c.loop-kept.invariant c.kind_at.ensures c.loop-kept-test.true c.access-part.ensures c.place_at.ensures c.combined-weight.ensures c.owner-again.ensures c.repeat_key.ensures c.earlier-twice.ensures c.with_storage-kept-in-loop-kept.ensures c.requires
