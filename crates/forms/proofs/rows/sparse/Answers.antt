-- `sparse`: by the rows, then by their count.
use Rattle.forms.proofs.Fitting.{sparses}
use Rattle.forms.proofs.Making.{shapes}
use borrow.Author.Rules.{rules}
use Rattle.forms.proofs.rows.sparse.Goals as goal

pub returns-then-not-rows_fit : goal.returns-then-not-rows_fit
returns-then-not-rows_fit c = search (rules, shapes, sparses)

pub returns-then-n-gt-ENTRY_LIMIT : goal.returns-then-n-gt-ENTRY_LIMIT
returns-then-n-gt-ENTRY_LIMIT c = search (rules, shapes, sparses)

pub slice_bounds-write_record-end : goal.slice_bounds-write_record-end
slice_bounds-write_record-end c = search (rules, shapes, sparses)

pub returns : goal.returns
returns c = search (rules, shapes, sparses)
