-- `reading::names::carrier` meets its contract.
use borrow.Author.Rules.{rules}
use native.Mathlib.Omega.{arith}
use Rattle.reading.specs.Laws.Meanings.{unknown_carrier, declared_view, target_room, mapped_carrier, second_room, bare_carrier, own_carrier}
use Rattle.reading.proofs.names.carrier.Goals as goal

pub returns-then-m-k : goal.returns-then-m-k
returns-then-m-k c = search (rules, unknown_carrier)

pub target_of-requires : goal.target_of-requires
target_of-requires c = declared_view c.requires.0 c.if-m-k.false c.get16-p.ensures

pub inside_at-requires : goal.inside_at-requires
inside_at-requires c =
    omega (arith, target_room c.requires.1.0 c.requires.1.1 c.inside_at-k.ensures c.if-m-k.false c.get16-p.ensures c.in-Some.ensures c.requires.0)

pub returns-in-Some : goal.returns-in-Some
returns-in-Some c =
    λ v. mapped_carrier c.requires.1.0 c.requires.1.1 c.inside_at-k.ensures c.if-m-k.false c.get16-p.ensures c.in-Some.ensures v c.inside_at.ensures

pub kind_at-requires : goal.kind_at-requires
kind_at-requires c =
    second_room c.requires.1.0 c.requires.1.1 c.inside_at-k.ensures c.if-m-k.false c.get16-p.ensures c.in_default.ensures c.requires.0

pub returns-then-kind_at-eq-BECOMES : goal.returns-then-kind_at-eq-BECOMES
returns-then-kind_at-eq-BECOMES c =
    λ v. bare_carrier c.requires.1.0 c.requires.1.1 c.inside_at-k.ensures c.if-m-k.false c.get16-p.ensures c.in_default.ensures v
    c.kind_at.ensures c.if-kind_at-eq-BECOMES.true

pub returns : goal.returns
returns c =
    λ v. own_carrier c.requires.1.0 c.requires.1.1 c.inside_at-k.ensures c.if-m-k.false c.get16-p.ensures c.in_default.ensures v
    c.kind_at.ensures c.if-kind_at-eq-BECOMES.false
