-- `same_heads`: by the numbers up to the extents.
use Rattle.fold.proofs.Comparing.{heads_in, heads_compared}
use Rattle.fold.proofs.folding.same_heads.Goals as goal

pub same_numbers-requires : goal.same_numbers-requires
same_numbers-requires c = heads_in c.requires c.get-size.ensures.0

pub returns : goal.returns
returns c = heads_compared c.requires c.get-size.ensures.0 c.same_numbers.ensures
