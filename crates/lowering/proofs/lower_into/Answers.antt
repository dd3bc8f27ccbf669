-- `lower_into`: each answer by its own law.
use mathlib.Core.Path.{sym, ◌∙◌}
use native.Mathlib.Omega.{arith}
use Rattle.parts.proofs.Holds.{dense_most}
use Rattle.lowering.proofs.Listing.{ask_diagonal_lem, diagonal_listed, ask_sort, own_rising, sorted_listed, none_listed, ask_full, full_listed}
use Rattle.lowering.proofs.lower_into.Goals as goal

pub list_diagonal-requires : goal.list_diagonal-requires
list_diagonal-requires c = ask_diagonal_lem c.requires.lower_asked c.get-rank.ensures.0 (sym c.get.ensures.0 ∙ c.if-get-eq1.true) c.get-extent.ensures.0 c.store.ensures

pub returns-then-get-eq1 : goal.returns-then-get-eq1
returns-then-get-eq1 c = diagonal_listed c.requires.lower_asked c.get-rank.ensures.0 (sym c.get.ensures.0 ∙ c.if-get-eq1.true) c.get-extent.ensures.0 c.store.ensures c.list_diagonal.ensures

pub overflow_sub-rank : goal.overflow_sub-rank
overflow_sub-rank c = omega (arith, dense_most c.requires.lower_asked.holds)

pub move_table-requires : goal.move_table-requires
move_table-requires c = let pre = c.requires in
    let same = sym c.get-dense.ensures.0 ∙ c.if-dense-d.true in record {
      sort_asked = ask_sort pre.lower_asked c.get-rank.ensures.0 (λ e. c.if-get-eq1.false (c.get.ensures.0 ∙ e)) same;
      increasing = own_rising pre.lower_asked c.get-rank.ensures.0 (λ e. c.if-get-eq1.false (c.get.ensures.0 ∙ e)) same (pre.increasing c.if-rising.true);
    }

pub returns-then-rising : goal.returns-then-rising
returns-then-rising c = sorted_listed c.requires.lower_asked c.get-rank.ensures.0 (λ e. c.if-get-eq1.false (c.get.ensures.0 ∙ e)) (sym c.get-dense.ensures.0 ∙ c.if-dense-d.true) c.move_table.ensures

pub overflow_sub-rank-then-dense-d : goal.overflow_sub-rank-then-dense-d
overflow_sub-rank-then-dense-d c = omega (arith, dense_most c.requires.lower_asked.holds)

pub sort_into-requires : goal.sort_into-requires
sort_into-requires c = ask_sort c.requires.lower_asked c.get-rank.ensures.0 (λ e. c.if-get-eq1.false (c.get.ensures.0 ∙ e)) (sym c.get-dense.ensures.0 ∙ c.if-dense-d.true)

pub returns-then-dense-d : goal.returns-then-dense-d
returns-then-dense-d c = sorted_listed c.requires.lower_asked c.get-rank.ensures.0 (λ e. c.if-get-eq1.false (c.get.ensures.0 ∙ e)) (sym c.get-dense.ensures.0 ∙ c.if-dense-d.true) c.sort_into.ensures

pub returns-then-d-gt0 : goal.returns-then-d-gt0
returns-then-d-gt0 c = none_listed c.requires.lower_asked c.get-rank.ensures.0 (λ e. c.if-get-eq1.false (c.get.ensures.0 ∙ e)) (λ e. c.if-dense-d.false (c.get-dense.ensures.0 ∙ e)) c.store-2.ensures c.if-d-gt0.true

pub overflow_sub-w : goal.overflow_sub-w
overflow_sub-w c = omega (arith, dense_most c.requires.lower_asked.holds)

pub list_rows-requires : goal.list_rows-requires
list_rows-requires c = ask_full c.requires.lower_asked c.get-rank.ensures.0 (λ e. c.if-get-eq1.false (c.get.ensures.0 ∙ e)) (λ e. c.if-dense-d.false (c.get-dense.ensures.0 ∙ e)) c.store-2.ensures c.get-dense.ensures.0

pub returns : goal.returns
returns c = full_listed c.requires.lower_asked c.get-rank.ensures.0 (λ e. c.if-get-eq1.false (c.get.ensures.0 ∙ e)) (λ e. c.if-dense-d.false (c.get-dense.ensures.0 ∙ e)) c.store-2.ensures c.get-dense.ensures.0 c.if-d-gt0.false c.list_rows.ensures
