-- `write_line`: at each turn the first i numbers are written.
use borrow.Author.Rules.{rules}
use Rattle.text.proofs.Spelling.{laws}
use Rattle.text.proofs.write_line.Goals as goal

pub loop-i-preserved : goal.loop-i-preserved
loop-i-preserved c = search (rules, laws)

pub returns : goal.returns
returns c = search (rules, laws)
