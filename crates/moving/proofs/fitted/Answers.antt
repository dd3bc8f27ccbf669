-- `fitted`: the front of the index is copied onto zeros, and the number goes behind it.
use borrow.Author.Rules.{rules}
use Rattle.moving.proofs.Fitting.{is_fitted}
use Rattle.moving.proofs.fitted.Goals as goal

pub returns : goal.returns
returns c = is_fitted c.requires (search rules) c.copy.ensures c.copy_at.ensures
