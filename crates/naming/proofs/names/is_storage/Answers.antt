-- `naming::names::is_storage` meets its contract: a mapping first, then by the bits.
-- Assumes nothing.
use borrow.Author.Rules.{rules}
use Rattle.naming.specs.Laws.Names.{mapping_stores_not, bitless_stores_not, unnamed_stores, named_stores}
use Rattle.naming.proofs.names.is_storage.Goals as goal

pub returns-in-Some : goal.returns-in-Some
returns-in-Some c = λ v. mapping_stores_not c.in-Some.ensures v

pub returns-in-Missing : goal.returns-in-Missing
returns-in-Missing c = λ v. bitless_stores_not c.in-None.ensures c.bits_of.ensures (search rules) v

pub returns-in-Unnamed : goal.returns-in-Unnamed
returns-in-Unnamed c = λ v. unnamed_stores c.in-None.ensures c.bits_of.ensures (search rules) v

pub returns-in-Span : goal.returns-in-Span
returns-in-Span c = λ v. named_stores c.in-None.ensures c.bits_of.ensures c.in-Span.is v
