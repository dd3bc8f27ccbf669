-- `row`: each return says which row was asked for, or why there is none.
use mathlib.Core.Path.{refl}
use borrow.Author.Rules.{rules}
use Rattle.records.proofs.Answers.{rows, places, begins, begins_there}
use Rattle.records.proofs.row.Goals as goal

pub returns-in_default : goal.returns-in_default
returns-in_default c = record {
  is = search (rules, rows);
  place = begins _ _ {k = 0} (search (rules, places)) refl;
}

pub returns-in_default-sign_of : goal.returns-in_default-sign_of
returns-in_default-sign_of c = record {
  is = search (rules, rows);
  place = begins _ _ {k = 0} (search (rules, places)) refl;
}

pub returns : goal.returns
returns c = record {
  is = search (rules, rows);
  place = begins_there (search (rules, places)) c.row_of.ensures.place;
}
