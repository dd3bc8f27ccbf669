-- `cut_row`: the entry is shortened, and its component lessened where the axis remains.
use borrow.Author.Rules.{rules}
use Rattle.range.proofs.Entries.{less_fits}
use Rattle.range.proofs.cut_row.Goals as goal

pub store-requires : goal.store-requires
store-requires c = (search rules, less_fits c.requires c.get-component.ensures.0)
