-- `eq_nonzeros_and_deps`: by all numbers.
use Rattle.forms.proofs.Matching.{told}
use borrow.Author.Rules.{rules}
use Rattle.forms.proofs.equality.eq_nonzeros_and_deps.Goals as goal

pub returns : goal.returns
returns c = search (rules, told)
