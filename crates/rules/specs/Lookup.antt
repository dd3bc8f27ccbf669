-- Module 4, lookup: the place of an index.
use Rattle.std.specs.Prelude.{Bool, not, ◌&&◌, List, [], ◌∷◌, map, ℕ, suc, ◌*◌, length, get_or, take, eqb, ℤ, pos, negsuc}
use Rattle.rules.specs.Limits.{result_size}
use Rattle.rules.specs.Lists.{if, all, all_below, same}
use Rattle.rules.specs.Refusals.{Verdict, given, ◌then◌, ◌when◌, lowest}
use Rattle.rules.specs.Layout.{Layout, width, is_dense, is_diagonal}
use Rattle.rules.specs.Record.{natural, naturals, rows_of, layout_in, sound, ordered}
use Rattle.rules.specs.Arguments.{over_record, short_result, up_to, good_components, good_index}
use Rattle.rules.specs.Endings.{Lookup, found, nothing}
use Rattle.rules.specs.Positions.{ravel_index}

-- on an axis of extent 1 a component above 0 is read as 0
unfoldable pub read_index : List ℕ → List ℕ → List ℕ
read_index [] shape = []
read_index (c ∷ index) [] = c ∷ index
read_index (c ∷ index) (e ∷ shape) = if (eqb e 1) 0 c ∷ read_index index shape

-- the place of a row among rows, of which the first has number n
unfoldable pub place_from : ℕ → List ℕ → List (List ℕ) → Lookup
place_from n r [] = nothing
place_from n r (x ∷ t) = if (same r x) (found n) (place_from (suc n) r t)

-- dense: ravel; diagonal: the ORIGINAL index must have all components equal to the first one so read, which is the answer;
-- sparse: the place of the first R - D components among the rows
unfoldable pub place_of : Layout → List ℕ → List ℕ → Lookup
place_of l index read =
    if (is_dense l) (found (ravel_index read l.shape))
    (if (is_diagonal l) (if (all (eqb (get_or read 0 0)) index) (found (get_or read 0 0)) nothing)
    (place_from 0 (take (width l) read) l.rows))

-- a component at or above its extent finds nothing
unfoldable pub lookup : Layout → List ℕ → Lookup
lookup l index =
    let read : List ℕ = read_index index l.shape in
    if (all_below read l.shape) (place_of l index read) nothing

-- ---- the call

unfoldable pub find_nnz_index_call : List ℤ → List ℤ → Verdict Lookup
find_nnz_index_call s index =
    lowest (1 when over_record s ∷ 3 when not (sound s) ∷ 4 when not (ordered s) ∷ 5 when not (good_index index (natural (get_or s 2 (pos 0)))) ∷ [])
    then λ _. given (lookup (layout_in s) (naturals index))

-- ---- many indices

-- what stands for an answer in a list of answers: the place, or -1 where nothing is found
unfoldable pub place_number : Lookup → ℤ
place_number (found n) = pos n
place_number nothing = negsuc 0

-- 5: a count of indices is 0..1,802, and the numbers are so many indices of R components
unfoldable pub good_indices : ℤ → List ℤ → ℕ → Bool
good_indices count indices r = up_to result_size count && (eqb (length indices) (natural count * r) && good_components indices)

-- each of n indices, end to end, looked up
unfoldable pub places_of : Layout → ℕ → ℕ → List ℤ → List ℤ
places_of l r n indices = map (λ index. place_number (lookup l index)) (rows_of r n (naturals indices))

unfoldable pub find_nnz_indices_call : List ℤ → ℤ → List ℤ → ℕ → Verdict (List ℤ)
find_nnz_indices_call s count indices size =
    let r : ℕ = natural (get_or s 2 (pos 0)) in
    lowest (1 when over_record s ∷ 2 when short_result size ∷ 3 when not (sound s) ∷ 4 when not (ordered s) ∷ 5 when not (good_indices count indices r) ∷ [])
    then λ _. given (places_of (layout_in s) r (natural count) indices)
