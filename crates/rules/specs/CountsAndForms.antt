-- Module 5, counts and forms: how many positions, how many axes, equality, constructors.
use Rattle.std.specs.Prelude.{Bool, not, ◌&&◌, ◌||◌, List, [], ◌∷◌, map, ℕ, suc, ◌*◌, length, get_or, replicate, eqb, ℤ, pos}
use Rattle.std.specs.Int.Signed.{non_neg}
use Rattle.rules.specs.Lists.{if, all, gather, product, same, same_rows}
use Rattle.rules.specs.Refusals.{Verdict, given, in_form, ◌then◌, ◌when◌, lowest}
use Rattle.rules.specs.Layout.{Layout, rank, is_dense, is_diagonal, is_sparse, made}
use Rattle.rules.specs.Record.{natural, naturals, entries_of, layout_in, sound, shape_in, good_shape}
use Rattle.rules.specs.Arguments.{over_rank, over_record, over_shape, short_result}

-- how many positions are stored: the product, the first extent, or the rows
unfoldable pub nnz : Layout → ℕ
nnz l = if (is_dense l) (product l.shape) (if (is_diagonal l) (get_or l.shape 0 0) (length l.rows))

-- without the extents 1 at the end, so many axes are left
unfoldable pub min_rank_of : List ℕ → ℕ
min_rank_of [] = 0
min_rank_of (e ∷ shape) = if (eqb e 1 && eqb (min_rank_of shape) 0) 0 (suc (min_rank_of shape))

abbrev pub min_rank : Layout → ℕ
min_rank l = min_rank_of l.shape

-- kind, D, shape and rows are equal
unfoldable pub eq_nonzeros : Layout → Layout → Bool
eq_nonzeros a b =
    eqb a.kind b.kind && eqb a.dense b.dense && same a.shape b.shape && same_rows a.rows b.rows

-- and both dependency lists
unfoldable pub eq_nonzeros_and_deps : Layout → Layout → Bool
eq_nonzeros_and_deps a b = eq_nonzeros a b && same_rows a.states b.states && same_rows a.inputs b.inputs

-- the dense layout of the same shape and dependencies
unfoldable pub to_dense : Layout → Layout
to_dense l = record { kind = 0; dense = rank l; shape = l.shape; rows = []; states = l.states; inputs = l.inputs }

-- dense if the rows number the shape's plain product
unfoldable pub dense_if_full : Layout → Layout
dense_if_full l = if (is_sparse l && eqb (length l.rows) (product l.shape)) (to_dense l) l

-- ---- constructors

unfoldable pub dense : List ℕ → Layout
dense shape = record { kind = 0; dense = length shape; shape = shape; rows = []; states = []; inputs = [] }

abbrev pub new_empty : ℕ → Layout
new_empty r = dense (replicate r 0)

abbrev pub new_scalar : Layout
new_scalar = dense []

-- unequal extents or rank 0 make no sound diagonal: 12
unfoldable pub diagonal : List ℕ → Verdict Layout
diagonal shape = made (record { kind = 1; dense = 0; shape = shape; rows = []; states = []; inputs = [] })

-- rows as they come; a negative component is as bad as one outside the shape
unfoldable pub sparse : List ℕ → ℕ → List ℤ → Verdict Layout
sparse shape n numbers =
    lowest (12 when not (all non_neg numbers) ∷ []) then λ _.
    made (record {
      kind = 2;
      dense = 0;
      shape = shape;
      rows = entries_of (length shape) n (naturals numbers);
      states = [];
      inputs = [];
    })

-- the rows alone, of a sparse layout alone
unfoldable pub to_data_layout : Layout → List ℕ
to_data_layout l = if (is_sparse l) (gather (λ r. r) l.rows) []

-- ---- the calls

-- one record
abbrev pub of_record : {A : Type 0} → (Layout → A) → List ℤ → Verdict A
of_record f s = lowest (1 when over_record s ∷ 3 when not (sound s) ∷ []) then λ _. given (f (layout_in s))

-- two records
abbrev pub of_records : {A : Type 0} → (Layout → Layout → A) → List ℤ → List ℤ → Verdict A
of_records f s t =
    lowest (1 when (over_record s || over_record t) ∷ 3 when not (sound s && sound t) ∷ [])
    then λ _. given (f (layout_in s) (layout_in t))

-- one record into the result
abbrev pub from_record : {A : Type 0} → (Layout → A) → List ℤ → ℕ → Verdict A
from_record f s size =
    lowest (1 when over_record s ∷ 2 when short_result size ∷ 3 when not (sound s) ∷ [])
    then λ _. given (f (layout_in s))

-- one shape into the result
abbrev pub from_shape : (List ℕ → Verdict Layout) → List ℤ → ℕ → Verdict Layout
from_shape f s size =
    lowest (1 when over_shape s ∷ 2 when short_result size ∷ 5 when not (good_shape s) ∷ [])
    then λ _. f (shape_in s)

unfoldable pub nnz_call : List ℤ → Verdict ℕ
nnz_call s = of_record nnz s

unfoldable pub min_rank_call : List ℤ → Verdict ℕ
min_rank_call s = of_record min_rank s

unfoldable pub eq_nonzeros_call : List ℤ → List ℤ → Verdict Bool
eq_nonzeros_call s t = of_records eq_nonzeros s t

unfoldable pub eq_nonzeros_and_deps_call : List ℤ → List ℤ → Verdict Bool
eq_nonzeros_and_deps_call s t = of_records eq_nonzeros_and_deps s t

unfoldable pub to_dense_call : List ℤ → ℕ → Verdict Layout
to_dense_call s size = from_record to_dense s size

unfoldable pub to_data_layout_call : List ℤ → ℕ → Verdict (List ℤ)
to_data_layout_call s size = in_form (map pos) (from_record to_data_layout s size)

unfoldable pub new_empty_call : ℤ → ℕ → Verdict Layout
new_empty_call r size =
    lowest (1 when over_rank r ∷ 2 when short_result size ∷ 5 when not (non_neg r) ∷ [])
    then λ _. given (new_empty (natural r))

unfoldable pub new_scalar_call : ℕ → Verdict Layout
new_scalar_call size = lowest (2 when short_result size ∷ []) then λ _. given new_scalar

unfoldable pub dense_call : List ℤ → ℕ → Verdict Layout
dense_call s size = from_shape (λ shape. given (dense shape)) s size

unfoldable pub diagonal_call : List ℤ → ℕ → Verdict Layout
diagonal_call s size = from_shape diagonal s size

-- 5: a row count, and exactly the numbers of so many rows
unfoldable pub sparse_call : List ℤ → ℤ → List ℤ → ℕ → Verdict Layout
sparse_call s n numbers size =
    lowest
    (1 when over_shape s ∷ 2 when short_result size
    ∷ 5 when not (good_shape s && non_neg n && eqb (length numbers) (natural n * length (shape_in s))) ∷ [])
    then λ _. sparse (shape_in s) (natural n) numbers
