-- `dense`: the shape alone.
use Rattle.forms.proofs.Making.{shapes, dense_written}
use borrow.Author.Rules.{rules}
use Rattle.forms.proofs.writing.dense.Goals as goal

pub slice_bounds-write_shape-end : goal.slice_bounds-write_shape-end
slice_bounds-write_shape-end c = search (rules, shapes, dense_written)

pub returns : goal.returns
returns c = search (rules, shapes, dense_written)
