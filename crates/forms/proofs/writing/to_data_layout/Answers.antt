-- `to_data_layout`: the rows alone.
use Rattle.forms.proofs.Unpacking.{listed}
use borrow.Author.Rules.{rules}
use Rattle.forms.proofs.writing.to_data_layout.Goals as goal

pub copy-requires : goal.copy-requires
copy-requires c = search (rules, listed)

pub returns : goal.returns
returns c = search (rules, listed)
