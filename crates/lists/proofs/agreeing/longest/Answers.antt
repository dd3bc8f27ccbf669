-- `longest`: no shape has more than 4 axes.
use borrow.Author.Rules.{rules}
use Rattle.lists.proofs.Common.{longest_low}
use Rattle.lists.proofs.agreeing.longest.Goals as goal

pub returns : goal.returns
returns c = search (rules, longest_low)
