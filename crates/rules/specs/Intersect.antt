-- Module 9, `intersect`: the positions that both of two layouts hold. The whole intersection is one step.
use Rattle.std.specs.Prelude.{Bool, not, ◌&&◌, ◌||◌, List, [], ◌∷◌, ℕ, ℤ}
use Rattle.rules.specs.Lists.{if, keep, same}
use Rattle.rules.specs.RowsInOrder.{merge, sorted, among}
use Rattle.rules.specs.Refusals.{Verdict, in_form, ◌then◌, ◌when◌, lowest}
use Rattle.rules.specs.Layout.{Layout, is_dense, with_deps, made}
use Rattle.rules.specs.Record.{layout_in, sound, ordered}
use Rattle.rules.specs.Arguments.{over_record, short_result, short_work}
use Rattle.rules.specs.Dependencies.{filter_deps, bars_filter}
use Rattle.rules.specs.CountsAndForms.{dense_if_full}
use Rattle.rules.specs.Removal.{lists_row}
use Rattle.rules.specs.Pairs.{with_merged, alike_diagonals, lowered, lower_d, bars_expansion, few_of}

-- the dependencies of two layouts merged, and filtered by a third
abbrev pub filtered_by : Layout → Layout → Layout → Layout
filtered_by a b l = with_deps (filter_deps l (merge a.states b.states)) (filter_deps l (merge a.inputs b.inputs)) l

-- 11: any merged dependency meets a sparse filter with dense axes
abbrev pub bars_merged : Layout → Layout → Layout → Bool
bars_merged a b l = bars_filter l (merge a.states b.states) (merge a.inputs b.inputs)

-- with a dense one: the other, dependencies merged and filtered
unfoldable pub with_dense : Layout → Layout → Layout → Verdict Layout
with_dense a b other = lowest (11 when bars_merged a b other ∷ []) then λ _. made (filtered_by a b other)

-- the common rows
abbrev pub common : Layout → Layout → Layout
common x y = record {
  kind = 2;
  dense = x.dense;
  shape = x.shape;
  rows = sorted (keep (λ r. among r y.rows) x.rows);
  states = [];
  inputs = [];
}

-- as in `union`; dependencies are merged after removal and filtered by the common rows; dense if those number the product
unfoldable pub intersect_of_rows : Layout → Layout → Verdict Layout
intersect_of_rows a b =
    let d : ℕ = lower_d a b in
    let x : Layout = lowered a d in
    let y : Layout = lowered b d in
    lowest
    (11 when (bars_expansion a || bars_expansion b || bars_merged x y (common x y))
    ∷ 12 when (lists_row a d || lists_row b d)
    ∷ 13 when not (few_of x && few_of y) ∷ [])
    then λ _. in_form dense_if_full (made (filtered_by x y (common x y)))

-- unequal shapes 6; two diagonals with equal D: merged, NOT filtered
unfoldable pub intersect : Layout → Layout → Verdict Layout
intersect a b =
    lowest (6 when not (same a.shape b.shape) ∷ []) then λ _.
    if (is_dense a) (with_dense a b b)
    (if (is_dense b) (with_dense a b a)
    (if (alike_diagonals a b) (made (with_merged a b a))
    (intersect_of_rows a b)))

-- ---- the call

-- both records are ordered, else 4
unfoldable pub intersect_call : List ℤ → List ℤ → ℕ → ℕ → Verdict Layout
intersect_call s t result work =
    lowest
    (1 when (over_record s || over_record t) ∷ 2 when (short_result result || short_work work)
    ∷ 3 when not (sound s && sound t) ∷ 4 when not (ordered s && ordered t) ∷ [])
    then λ _. intersect (layout_in s) (layout_in t)
