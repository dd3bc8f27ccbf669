-- `fitted_extents`: the front of the extents is copied onto ones.
use borrow.Author.Rules.{rules}
use Rattle.stretch.proofs.Fitting.{extents_fitted}
use Rattle.stretch.proofs.spread.fitted_extents.Goals as goal

pub returns : goal.returns
returns c = extents_fitted _ c.requires (search rules) c.copy.ensures
