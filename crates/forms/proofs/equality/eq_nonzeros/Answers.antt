-- `eq_nonzeros`: by the numbers up to the rows.
use Rattle.forms.proofs.Matching.{told}
use borrow.Author.Rules.{rules}
use Rattle.forms.proofs.equality.eq_nonzeros.Goals as goal

pub returns : goal.returns
returns c = search (rules, told)
