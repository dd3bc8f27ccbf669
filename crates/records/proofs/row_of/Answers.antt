-- `row_of`: row i is a part of the slice, where there is one.
use mathlib.Core.Path.{refl}
use borrow.Author.Rules.{rules}
use Rattle.records.proofs.Answers.{parts, no_row_place, row_place_lem, begins}
use Rattle.records.proofs.row_of.Goals as goal

pub returns-then-rows-i : goal.returns-then-rows-i
returns-then-rows-i c = record {
  is = search (rules, parts);
  place = begins _ _ {k = 0} (search (rules, no_row_place)) refl;
}

pub returns : goal.returns
returns c = record {
  is = search (rules, parts);
  place = begins _ _ (search (rules, row_place_lem)) refl;
}
