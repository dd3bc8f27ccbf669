-- `diagonal`: the shape alone, if its extents are the same.
use Rattle.forms.proofs.Making.{diagonals}
use borrow.Author.Rules.{rules}
use Rattle.forms.proofs.writing.diagonal.Goals as goal

pub returns-then-rank-eq0 : goal.returns-then-rank-eq0
returns-then-rank-eq0 c = search (rules, diagonals)

pub alike-requires : goal.alike-requires
alike-requires c = search (rules, diagonals)

pub returns-then-not-alike : goal.returns-then-not-alike
returns-then-not-alike c = search (rules, diagonals)

pub slice_bounds-write_shape-end : goal.slice_bounds-write_shape-end
slice_bounds-write_shape-end c = search (rules, diagonals)

pub returns : goal.returns
returns c = search (rules, diagonals)
