-- `small_deps`: at each turn the components of the first i dependencies are small.
use native.Mathlib.Omega.{arith}
use borrow.Author.Rules.{rules}
use Rattle.tables.proofs.Rows.{has_row}
use Rattle.records.proofs.Naturals.{has_front}
use Rattle.records.proofs.RowTests.{smalls, deps_fail}
use Rattle.records.proofs.small_deps.Goals as goal

pub loop-i-init : goal.loop-i-init
loop-i-init c = search (rules, smalls)

pub small_numbers-requires : goal.small_numbers-requires
small_numbers-requires c = has_front (has_row _ _ _ _ c.requires _ c.loop-i-test.true) (omega arith)

pub returns-then-not-small_numbers : goal.returns-then-not-small_numbers
returns-then-not-small_numbers c =
    deps_fail _ _ _ _ c.loop-i.invariant c.loop-i-test.true c.small_numbers.ensures c.if-not-small_numbers.true-raw

pub loop-i-preserved : goal.loop-i-preserved
loop-i-preserved c = search (rules, smalls)

pub returns : goal.returns
returns c = search (rules, smalls)
