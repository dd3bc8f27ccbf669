-- `measured`: by what is measured.
use borrow.Author.Rules.{rules}
use Rattle.blocks.proofs.Measures.{measured_laws}
use Rattle.blocks.proofs.measuring.measured.Goals as goal

pub offset_bounds-start-axis : goal.offset_bounds-start-axis
offset_bounds-start-axis c = search (rules, measured_laws)

pub bounds-start-axis : goal.bounds-start-axis
bounds-start-axis c = search (rules, measured_laws)

pub overflow_add-result : goal.overflow_add-result
overflow_add-result c = search (rules, measured_laws)

pub returns-in-First : goal.returns-in-First
returns-in-First c = search (rules, measured_laws)

pub returns-in-Extent : goal.returns-in-Extent
returns-in-Extent c = search (rules, measured_laws)

pub returns-in-Reach : goal.returns-in-Reach
returns-in-Reach c = search (rules, measured_laws)
