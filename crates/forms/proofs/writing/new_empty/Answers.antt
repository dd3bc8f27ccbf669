-- `new_empty`: zeros alone.
use Rattle.forms.proofs.Making.{empties}
use borrow.Author.Rules.{rules}
use Rattle.forms.proofs.writing.new_empty.Goals as goal

pub returns : goal.returns
returns c = search (rules, empties)
