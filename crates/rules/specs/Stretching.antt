-- Module 6, stretching: a layout broadcast to a shape or a rank, in one of two modes.
use Rattle.std.specs.Prelude.{Bool, true, not, ◌&&◌, ◌||◌, List, [], ◌∷◌, map, ℕ, ◌+◌, ◌-◌, length, get_or, drop, eqb, leb, ltb, ℤ}
use Rattle.std.specs.Int.Signed.{non_neg}
use Rattle.rules.specs.declared.Mode.{Mode}
use Rattle.rules.specs.declared.Mode.TheVariants.{Alone, Together}
use Rattle.rules.specs.Lists.{if, all, keep, gather, below, with, fit_to}
use Rattle.rules.specs.RowsInOrder.{sorted, sorted_few}
use Rattle.rules.specs.Refusals.{Verdict, ◌then◌, ◌when◌, lowest}
use Rattle.rules.specs.Layout.{Layout, rank, width, made}
use Rattle.rules.specs.Record.{natural, layout_in, sound, shape_in, good_shape}
use Rattle.rules.specs.Arguments.{over_rank, over_record, over_shape, short_result, short_work, good_mode}
use Rattle.rules.specs.Dependencies.{on_index}

-- a shared axis is 1 or equal
unfoldable pub shared_axes_fit : List ℕ → List ℕ → Bool
shared_axes_fit [] new = true
shared_axes_fit (e ∷ old) [] = true
shared_axes_fit (e ∷ old) (n ∷ new) = (eqb e 1 || eqb e n) && shared_axes_fit old new

-- stretched axes are those added, and those of extent 1 that change
abbrev pub is_stretched : List ℕ → List ℕ → ℕ → Bool
is_stretched old new axis = leb (length old) axis || (eqb (get_or old axis 0) 1 && not (eqb (get_or new axis 0) 1))

unfoldable pub stretched_axes : List ℕ → List ℕ → List ℕ
stretched_axes old new = keep (is_stretched old new) (below (length new))

-- a row or a dependency with every value on one axis
unfoldable pub every_value : List ℕ → List ℕ → ℕ → List (List ℕ)
every_value shape r axis = map (λ v. with axis v r) (below (get_or shape axis 0))

-- rows take all values on the given axes
unfoldable pub take_all : List ℕ → List ℕ → List (List ℕ) → List (List ℕ)
take_all shape [] rows = rows
take_all shape (axis ∷ axes) rows = take_all shape axes (gather (λ r. every_value shape r axis) rows)

-- rows are stretched on the axes below R - D, and sorted
unfoldable pub stretch_rows : Layout → List ℕ → List (List ℕ)
stretch_rows l shape = sorted (take_all shape (keep (λ axis. ltb axis (width l)) (stretched_axes l.shape shape)) l.rows)

-- mode 0, the default: a dependency yields itself, and for each stretched axis ALONE every value there
abbrev pub alone : List ℕ → List ℕ → List ℕ → List (List ℕ)
alone shape axes d = d ∷ gather (λ axis. every_value shape d axis) axes

-- mode 1: it yields one entry for every combination of values on all stretched axes
abbrev pub together : List ℕ → List ℕ → List ℕ → List (List ℕ)
together shape axes d = take_all shape axes (d ∷ [])

unfoldable pub yields : Mode → List ℕ → List ℕ → List ℕ → List (List ℕ)
yields Alone shape axes d = alone shape axes d
yields Together shape axes d = together shape axes d

-- on the stretched axes, fitted to the new rank
abbrev pub fitted_yields : Mode → List ℕ → List ℕ → List ℕ → List (List ℕ)
fitted_yields mode old shape d = yields mode shape (stretched_axes old shape) (on_index (fit_to (length shape) 0) d)

unfoldable pub stretch_deps : Mode → List ℕ → List ℕ → List (List ℕ) → List (List ℕ)
stretch_deps mode old shape deps = sorted_few (gather (λ d. fitted_yields mode old shape d) deps)

-- D grows or shrinks with the rank
unfoldable pub stretched : Mode → Layout → List ℕ → Layout
stretched mode l shape = record {
  kind = l.kind;
  dense = l.dense + length shape - rank l;
  shape = shape;
  rows = stretch_rows l shape;
  states = stretch_deps mode l.shape shape l.states;
  inputs = stretch_deps mode l.shape shape l.inputs;
}

-- 6: a shared axis is neither 1 nor equal; 11: D would fall below 0. Cut axes are not tested
unfoldable pub broadcast_to_shape : Mode → Layout → List ℕ → Verdict Layout
broadcast_to_shape mode l shape =
    lowest (6 when not (shared_axes_fit l.shape shape) ∷ 11 when ltb (l.dense + length shape) (rank l) ∷ [])
    then λ _. made (stretched mode l shape)

-- 6: a cut axis is not 1
unfoldable pub broadcast_to_rank : Mode → Layout → ℕ → Verdict Layout
broadcast_to_rank mode l r =
    lowest (6 when not (all (eqb 1) (drop r l.shape)) ∷ [])
    then λ _. broadcast_to_shape mode l (fit_to r 1 l.shape)

-- ---- the calls

unfoldable pub broadcast_to_shape_call : List ℤ → List ℤ → ℕ → ℕ → Verdict Layout
broadcast_to_shape_call s shape result work =
    lowest
    (1 when (over_record s || over_shape shape) ∷ 2 when (short_result result || short_work work)
    ∷ 3 when not (sound s) ∷ 5 when not (good_shape shape) ∷ [])
    then λ _. broadcast_to_shape Alone (layout_in s) (shape_in shape)

unfoldable pub broadcast_to_rank_call : List ℤ → ℤ → ℕ → ℕ → Verdict Layout
broadcast_to_rank_call s r result work =
    lowest
    (1 when (over_record s || over_rank r) ∷ 2 when (short_result result || short_work work)
    ∷ 3 when not (sound s) ∷ 5 when not (non_neg r) ∷ [])
    then λ _. broadcast_to_rank Alone (layout_in s) (natural r)

-- ---- the calls with a mode

-- 0 and 1 name the modes; another number was refused before
unfoldable pub mode_of : ℤ → Mode
mode_of n = if (eqb (natural n) 0) Alone Together

-- 5: also a mode other than 0 or 1
unfoldable pub broadcast_to_shape_with_mode_call : List ℤ → List ℤ → ℤ → ℕ → ℕ → Verdict Layout
broadcast_to_shape_with_mode_call s shape mode result work =
    lowest
    (1 when (over_record s || over_shape shape) ∷ 2 when (short_result result || short_work work)
    ∷ 3 when not (sound s) ∷ 5 when not (good_shape shape && good_mode mode) ∷ [])
    then λ _. broadcast_to_shape (mode_of mode) (layout_in s) (shape_in shape)

unfoldable pub broadcast_to_rank_with_mode_call : List ℤ → ℤ → ℤ → ℕ → ℕ → Verdict Layout
broadcast_to_rank_with_mode_call s r mode result work =
    lowest
    (1 when (over_record s || over_rank r) ∷ 2 when (short_result result || short_work work)
    ∷ 3 when not (sound s) ∷ 5 when not (non_neg r && good_mode mode) ∷ [])
    then λ _. broadcast_to_rank (mode_of mode) (layout_in s) (natural r)
