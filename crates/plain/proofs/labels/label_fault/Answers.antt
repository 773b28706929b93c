-- `plain::labels::label_fault` meets its contract: a name is known if it is declared, the outer name or stacked.
-- Assumes nothing.
use native.Mathlib.Omega.{arith}
use mathlib.Core.Path.{sym, ◌∙◌}
use Rattle.plain.specs.Laws.Known.{token_room, label_place, label_name, label_known, label_repeated, label_new}
use Rattle.plain.proofs.labels.label_fault.Goals as goal

pub place_at-requires : goal.place_at-requires
place_at-requires c = token_room c.requires.3.stage c.requires.3.name.within

pub fault_key-key-requires : goal.fault_key-key-requires
fault_key-key-requires c = omega (arith, label_place c.requires.3, c.place_at.ensures)

pub inside16_at-requires : goal.inside16_at-requires
inside16_at-requires c = token_room c.requires.3.stage c.requires.3.name.within

pub returns-then-inside16_at : goal.returns-then-inside16_at
returns-then-inside16_at c = λ text values decls v. label_known v c.place_at.ensures c.inside16_at.ensures c.if-inside16_at.true c.fault_key-key.ensures

pub is_stacked-requires : goal.is_stacked-requires
is_stacked-requires c = label_name c.requires.3

pub returns-then-is_stacked : goal.returns-then-is_stacked
returns-then-is_stacked c = λ text values decls v. label_repeated v c.place_at.ensures c.inside16_at.ensures (sym c.if-is_stacked.true ∙ c.is_stacked.ensures (label_name v)) c.fault_key-key.ensures

pub returns : goal.returns
returns c = λ text values decls v. label_new v c.place_at.ensures c.inside16_at.ensures c.if-inside16_at.false (sym c.if-is_stacked.false ∙ c.is_stacked.ensures (label_name v))
