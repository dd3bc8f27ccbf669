-- Module 8, `union`: the positions that either of two layouts holds. The whole union is one step.
use Rattle.std.specs.Prelude.{not, ◌&&◌, ◌||◌, List, [], ◌∷◌, ℕ, ℤ}
use Rattle.rules.specs.Lists.{if, same}
use Rattle.rules.specs.RowsInOrder.{merge}
use Rattle.rules.specs.Refusals.{Verdict, ◌then◌, ◌when◌, lowest}
use Rattle.rules.specs.Layout.{Layout, is_dense, few, made}
use Rattle.rules.specs.Record.{layout_in, sound}
use Rattle.rules.specs.Arguments.{over_record, short_result, short_work}
use Rattle.rules.specs.CountsAndForms.{to_dense}
use Rattle.rules.specs.Removal.{lists_row}
use Rattle.rules.specs.Pairs.{with_merged, alike_diagonals, lowered, lower_d, bars_expansion}

-- the rows of both joined, sorted, once each; sparse even when full
abbrev pub joined : Layout → Layout → Layout
joined x y = record {
  kind = 2;
  dense = x.dense;
  shape = x.shape;
  rows = merge x.rows y.rows;
  states = x.states;
  inputs = x.inputs;
}

-- diagonals expand (11 if D > 0), the larger D is lowered, and the rows are joined
unfoldable pub union_of_rows : Layout → Layout → Verdict Layout
union_of_rows a b =
    let d : ℕ = lower_d a b in
    let x : Layout = lowered a d in
    let y : Layout = lowered b d in
    lowest
    (11 when (bars_expansion a || bars_expansion b)
    ∷ 12 when (lists_row a d || lists_row b d)
    ∷ 13 when not (few x.rows && few y.rows) ∷ [])
    then λ _. made (with_merged a b (joined x y))

-- unequal shapes 6; dependencies are merged first and NOT expanded; a dense one wins; two diagonals with equal D give a diagonal
unfoldable pub union : Layout → Layout → Verdict Layout
union a b =
    lowest (6 when not (same a.shape b.shape) ∷ []) then λ _.
    if (is_dense a || is_dense b) (made (with_merged a b (to_dense a)))
    (if (alike_diagonals a b) (made (with_merged a b a))
    (union_of_rows a b))

-- ---- the call

unfoldable pub union_call : List ℤ → List ℤ → ℕ → ℕ → Verdict Layout
union_call s t result work =
    lowest
    (1 when (over_record s || over_record t) ∷ 2 when (short_result result || short_work work)
    ∷ 3 when not (sound s && sound t) ∷ [])
    then λ _. union (layout_in s) (layout_in t)
