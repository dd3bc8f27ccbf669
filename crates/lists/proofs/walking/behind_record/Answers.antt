-- `behind_record`: a record that was walked ends where its last section does.
use borrow.Author.Rules.{rules}
use Rattle.lists.proofs.Ending.{record_laws}
use Rattle.lists.proofs.walking.behind_record.Goals as goal

pub overflow_add-result : goal.overflow_add-result
overflow_add-result c = search (rules, record_laws)

pub returns-in-Some : goal.returns-in-Some
returns-in-Some c = search (rules, record_laws)

pub returns-in-None : goal.returns-in-None
returns-in-None c = search (rules, record_laws)
