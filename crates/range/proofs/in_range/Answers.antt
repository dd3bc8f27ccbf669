-- `in_range`: the entry is held against the shape, then against the range.
use mathlib.Core.Path.{◌≡◌, ◌∙◌}
use mathlib.Core.Bool.{◌&&◌}
use Rattle.std.proofs.lemmas.Bool.Decides.{nat_tests}
use lib.Dec.{leb, ltb}
use native.Mathlib.Omega.{arith}
use borrow.Author.Rules.{rules}
use Rattle.records.proofs.Naturals.{has_front}
use Rattle.range.proofs.Entries.{out_of_shape, told_range}
use Rattle.range.proofs.in_range.Goals as goal

pub row_below-requires : goal.row_below-requires
row_below-requires c = record {
  has_row = has_front c.requires.entry (omega arith);
  w_in_bounds = c.requires.shape_lies_in;
}

pub returns-then-not-row_below : goal.returns-then-not-row_below
returns-then-not-row_below c = search (rules, out_of_shape)

pub returns : goal.returns
returns c =
    let told : c.contains.result ≡ leb c.args.cut.start c.get.result && ltb c.get.result c.args.cut.end = grind (arith, nat_tests) in
    told ∙ told_range c.requires c.row_below.ensures c.if-not-row_below.false c.get.ensures.0
