-- Module 10, `contract_last_axis`: a layout summed over its last axis.
use Rattle.std.specs.Prelude.{not, ◌||◌, List, [], ◌∷◌, map, ℕ, ◌-◌, length, take, eqb, ltb, ℤ}
use Rattle.rules.specs.Lists.{if}
use Rattle.rules.specs.RowsInOrder.{sorted}
use Rattle.rules.specs.Refusals.{Verdict, ◌then◌, ◌when◌, lowest}
use Rattle.rules.specs.Layout.{Layout, rank, is_dense, is_diagonal, made}
use Rattle.rules.specs.Record.{layout_in, sound}
use Rattle.rules.specs.Arguments.{over_record, short_result, short_work}
use Rattle.rules.specs.Dependencies.{on_index}
use Rattle.rules.specs.CountsAndForms.{to_dense, dense_if_full}

-- all but the last number
abbrev pub shortened : List ℕ → List ℕ
shortened r = take (length r - 1) r

-- dependencies shortened and merged
unfoldable pub shortened_deps : List (List ℕ) → List (List ℕ)
shortened_deps deps = sorted (map (on_index shortened) deps)

-- a layout of the kind, with so many dense axes and these rows, over the shorter shape
abbrev pub over_shorter : Layout → ℕ → List (List ℕ) → Layout
over_shorter l d rows = record {
  kind = l.kind;
  dense = d;
  shape = shortened l.shape;
  rows = rows;
  states = shortened_deps l.states;
  inputs = shortened_deps l.inputs;
}

-- dense stays dense; D > 0: D - 1, and a sparse one keeps its rows in their order; diagonal, D = 0: diagonal if R > 2, else dense;
-- sparse, D = 0: rows shortened, sorted, once each, and dense if as many as the new product
unfoldable pub contracted : Layout → Layout
contracted l =
    if (is_dense l || ltb 0 l.dense) (over_shorter l (l.dense - 1) l.rows)
    (if (is_diagonal l) (if (ltb 2 (rank l)) (over_shorter l 0 []) (to_dense (over_shorter l 0 [])))
    (dense_if_full (over_shorter l 0 (sorted (map shortened l.rows)))))

-- 7: contraction of a scalar
unfoldable pub contract_last_axis : Layout → Verdict Layout
contract_last_axis l = lowest (7 when eqb (rank l) 0 ∷ []) then λ _. made (contracted l)

-- ---- the call

unfoldable pub contract_last_axis_call : List ℤ → ℕ → ℕ → Verdict Layout
contract_last_axis_call s result work =
    lowest (1 when over_record s ∷ 2 when (short_result result || short_work work) ∷ 3 when not (sound s) ∷ [])
    then λ _. contract_last_axis (layout_in s)
