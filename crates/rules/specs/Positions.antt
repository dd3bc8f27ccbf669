-- Module 2, positions: indices and their numbers in row-major order.
use Rattle.std.specs.Prelude.{not, ◌&&◌, List, [], ◌∷◌, ℕ, ◌+◌, ◌*◌, ◌/◌, ◌%◌, length, eqb, leb, ℤ}
use Rattle.std.specs.Int.Signed.{non_neg}
use Rattle.std.specs.declared.cmp.Ordering.{Ordering}
use Rattle.rules.specs.Limits.{rank_limit}
use Rattle.rules.specs.Lists.{any, product}
use Rattle.rules.specs.RowsInOrder.{cmp_rows}
use Rattle.rules.specs.Refusals.{Verdict, given, ◌then◌, ◌when◌, lowest}
use Rattle.rules.specs.Record.{natural, naturals, shape_in, good_shape}
use Rattle.rules.specs.Arguments.{over_shape, good_components, good_index}

-- the sum of component times the product of later extents, with no range test
unfoldable pub ravel_index : List ℕ → List ℕ → ℕ
ravel_index [] shape = 0
ravel_index (c ∷ index) [] = 0
ravel_index (c ∷ index) (e ∷ shape) = c * product shape + ravel_index index shape

-- each axis by its remainder
unfoldable pub unravel : ℕ → List ℕ → List ℕ
unravel n [] = []
unravel n (e ∷ shape) = (n / product shape % e) ∷ unravel n shape

-- 6: over a zero extent
unfoldable pub unravel_index : ℕ → List ℕ → Verdict (List ℕ)
unravel_index n shape = lowest (6 when any (eqb 0) shape ∷ []) then λ _. given (unravel n shape)

-- ---- the calls

unfoldable pub ravel_index_call : List ℤ → List ℤ → Verdict ℕ
ravel_index_call index s =
    lowest (1 when over_shape s ∷ 5 when not (good_shape s && good_index index (length (shape_in s))) ∷ [])
    then λ _. given (ravel_index (naturals index) (shape_in s))

unfoldable pub unravel_index_call : ℤ → List ℤ → Verdict (List ℕ)
unravel_index_call n s =
    lowest (1 when over_shape s ∷ 5 when not (good_shape s && non_neg n) ∷ [])
    then λ _. unravel_index (natural n) (shape_in s)

-- indices of one length up to 4
unfoldable pub cmp_index_call : List ℤ → List ℤ → Verdict Ordering
cmp_index_call a b =
    lowest (5 when not (eqb (length a) (length b) && leb (length a) rank_limit && good_components a && good_components b) ∷ [])
    then λ _. given (cmp_rows (naturals a) (naturals b))
