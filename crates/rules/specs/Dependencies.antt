-- Module 3, dependencies: which are kept by a layout. Merging two lists is `merge` of RowsInOrder.
use Rattle.std.specs.Prelude.{Bool, not, ◌&&◌, List, ◌++◌, ℕ, ◌-◌, length, get_or, take, drop, ltb}
use Rattle.rules.specs.Lists.{if, none, keep, all_below}
use Rattle.rules.specs.RowsInOrder.{among}
use Rattle.rules.specs.Layout.{Layout, is_dense, is_diagonal, is_sparse, alike}

-- the index of a dependency: all but the number behind it
abbrev pub index_of : List ℕ → List ℕ
index_of d = take (length d - 1) d

-- a dependency with its index changed and its number kept
unfoldable pub on_index : (List ℕ → List ℕ) → List ℕ → List ℕ
on_index f d = f (index_of d) ++ drop (length d - 1) d

-- the positions (i,..,i) of a diagonal
abbrev pub on_diagonal : Layout → List ℕ → Bool
on_diagonal l index = alike index && ltb (get_or index 0 0) (get_or l.shape 0 0)

-- whether an index is among the held positions (dense: all of the shape; diagonal: (i,..,i); sparse: rows)
unfoldable pub held : Layout → List ℕ → Bool
held l index =
    if (is_dense l) (all_below index l.shape)
    (if (is_diagonal l) (on_diagonal l index)
    (among index l.rows))

-- keeps the entries whose index is held
unfoldable pub filter_deps : Layout → List (List ℕ) → List (List ℕ)
filter_deps l deps = keep (λ d. held l (index_of d)) deps

-- 11: the layout is sparse with D > 0 and any entry is there
unfoldable pub bars_filter : Layout → List (List ℕ) → List (List ℕ) → Bool
bars_filter l states inputs = is_sparse l && ltb 0 l.dense && not (none states && none inputs)
