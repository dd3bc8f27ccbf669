-- `to_dense`: the shape, no rows, and the dependencies.
use Rattle.forms.proofs.Unpacking.{denses}
use borrow.Author.Rules.{rules}
use Rattle.forms.proofs.writing.to_dense.Goals as goal

pub write_record-requires : goal.write_record-requires
write_record-requires c = search (rules, denses)

pub returns : goal.returns
returns c = search (rules, denses)
