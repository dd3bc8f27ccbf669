-- Many indices looked up at once: each as if it were asked for alone. And a place that is found is small.
use mathlib.Core.Path.{◌≡◌, sym, ◌∙◌}
use mathlib.Core.Bool.{true}
use mathlib.Core.List.{List, [], ◌∷◌}
use Prim.Native.Nat.{ℕ, suc, ◌+◌, ◌*◌, ◌<◌, ◌≤◌}
use native.Mathlib.Nat.{suc-mul, mul-le-mul_right}
use native.Mathlib.Omega.{arith}
use borrow.Author.Tests.{eqb-true, eq-eqb, not-false}
use lib.Dec.{eqb}
use lib.IntN.{ℤ, pos}
use lib.ListN.{length, get_or, take, length-map}
use lib.Seq.{take_all}
use Rattle.rules.specs.Limits.{product_limit, result_size, component_limit}
use Rattle.rules.specs.Lists.{all, all_below}
use Rattle.rules.specs.Buffers.{part}
use Rattle.rules.specs.Refusals.{given, in_form}
use Rattle.rules.specs.Layout.{Layout, rank, width}
use Rattle.rules.specs.Soundness.{Sound}
use Rattle.rules.specs.Record.{natural, naturals, rows_of, layout_in, sound, ordered}
use Rattle.rules.specs.Arguments.{up_to, good_components, good_index}
use Rattle.rules.specs.Positions.{ravel_index}
use Rattle.rules.specs.Endings.{found}
use Rattle.rules.specs.Lookup.{read_index, place_of, lookup, place_number, good_indices, places_of, find_nnz_index_call, find_nnz_indices_call}
use Rattle.rules.proofs.Same.{both_true}
use Rattle.rules.proofs.Tests.{true_both}
use Rattle.rules.proofs.Extents.{product_limited, extent_limited}
use Rattle.rules.proofs.Soundness.{OneKind, dense_case, diagonal_case, sparse_case, one_kind}
use Rattle.rules.proofs.Indices.{ravel_below}
use Rattle.rules.proofs.Ranges.{map_at}
use Rattle.rules.proofs.Buffers.{length_part}
use Rattle.rules.proofs.Given.{step_given, none_held}
use Rattle.rules.proofs.RowsRead.{rows_length, rows_row, all_part, naturals_take, naturals_drop}
use Rattle.rules.proofs.Finding.{read_length, first_below, place_at, if_found, found_inside, place_dense, place_diagonal, place_sparse}
use Rattle.rules.proofs.Calls.{lookup_call, rank_third}

-- ---- a place that is found

-- the first component of an index below its shape
first_limited : (read shape : List ℕ) → length read ≡ length shape → all_below read shape ≡ true → get_or shape 0 0 ≤ product_limit → get_or read 0 0 < product_limit
first_limited [] shape n b h = omega arith
first_limited (c ∷ read) [] n b h = absurd (omega arith)
first_limited (c ∷ read) (e ∷ shape) n b h = omega (arith, first_below (c ∷ read) (e ∷ shape) (omega arith) (omega arith) b)

module _ {l : Layout} (s : Sound l) (index : List ℕ) (n : length index ≡ rank l) {p : ℕ} (e : lookup l index ≡ found p) where
  -- the index as it is read
  abbrev read : List ℕ
  read = read_index index l.shape

  wide : length read ≡ length l.shape
  wide = read_length index l.shape ∙ n

  -- the place is below 65,536
  pub found_limited : p < product_limit
  found_limited = by (one_kind s.form) (found_inside l index e)
    where
      by : OneKind l → (all_below read l.shape ≡ true) × (place_of l index read ≡ found p) → p < product_limit
      by (dense_case k) f =
          let number : p ≡ ravel_index read l.shape = cc (f.1, place_dense l index read k) in
          omega (arith, number, ravel_below read l.shape wide f.0, product_limited s.sizes)
      by (diagonal_case k) f =
          let t = if_found (all (eqb (get_or read 0 0)) index) (sym (place_diagonal l index read k) ∙ f.1) in
          omega (arith, t.1, first_limited read l.shape wide f.0 (extent_limited s.sizes 0))
      by (sparse_case k) f =
          let t = place_at (take (width l) read) l.rows (sym (place_sparse l index read k) ∙ f.1) in
          omega (arith, t.0, s.sizes.rows_few)

-- ---- many indices

module _ (n r : ℕ) (indices : List ℤ) (wide : length indices ≡ n * r) (i : ℕ) (h : i < n) where
  -- index i of n, each of r components, is there
  pub index_there : i * r + r ≤ length indices
  index_there = omega (arith, wide, suc-mul i r, mul-le-mul_right {m = suc i} {n = n} r (omega arith))

  -- it is good if all numbers are components
  pub index_good : good_components indices ≡ true → good_index (part (i * r) r indices) r ≡ true
  unfolding good_components
  index_good good =
      let all_good : all (up_to component_limit) (take (length indices) indices) ≡ true = rw (take_all (length indices) indices (omega arith)) good in
      true_both (eq-eqb _ _ (length_part (i * r) r indices index_there)) (all_part (up_to component_limit) (i * r) r (length indices) indices index_there all_good)

  -- what stands for its answer is its place among the others
  pub place_there : (l : Layout) → get_or (places_of l r n indices) i (pos 0) ≡ place_number (lookup l (naturals (part (i * r) r indices)))
  unfolding places_of part
  place_there l =
      let rows = rows_of r n (naturals indices) in
      rw (map_at (λ index. place_number (lookup l index)) rows i [] (pos 0) (rw rows_length h), rows_row r n i (naturals indices) h, naturals_drop, naturals_take)

-- there is an answer for each of n indices
pub places_counted : (l : Layout) (r n : ℕ) (indices : List ℤ) → length (places_of l r n indices) ≡ n
unfolding places_of
places_counted l r n indices = rw (length-map, rows_length)

module _ (s : List ℤ) (count : ℤ) (indices : List ℤ) (size : ℕ) {answers : List ℤ} (g : find_nnz_indices_call s count indices size ≡ given answers) where
  -- how many components an index has
  abbrev axes : ℕ
  axes = natural (get_or s 2 (pos 0))

  -- the record is sound, its rows increase and the indices are good
  was_sound : sound s ≡ true
  unfolding find_nnz_indices_call
  was_sound = not-false _ (none_held _ _ g 2)

  was_ordered : ordered s ≡ true
  unfolding find_nnz_indices_call
  was_ordered = not-false _ (none_held _ _ g 3)

  were_good : (eqb (length indices) (natural count * axes) ≡ true) × (good_components indices ≡ true)
  unfolding find_nnz_indices_call good_indices
  were_good = both_true _ _ (both_true (up_to result_size count) _ (not-false _ (none_held _ _ g 4))).1

  -- what is given
  answers_are : answers ≡ places_of (layout_in s) axes (natural count) indices
  unfolding find_nnz_indices_call
  answers_are = let e : places_of (layout_in s) axes (natural count) indices ≡ answers = cc (step_given _ _ g) in sym e

  -- there are as many answers as indices
  pub answers_counted : length answers ≡ natural count
  answers_counted = rw answers_are (places_counted (layout_in s) axes (natural count) indices)

  -- each is that of a lookup of its index alone
  pub each_looked_up : (i : ℕ) → i < natural count → in_form place_number (find_nnz_index_call s (part (i * axes) axes indices)) ≡ given (get_or answers i (pos 0))
  each_looked_up i h =
      let wide = eqb-true (length indices) (natural count * axes) were_good.0 in
      let good = index_good (natural count) axes indices wide i h were_good.1 in
      let asked = lookup_call s was_sound was_ordered (part (i * axes) axes indices) (rw (← rank_third s was_sound) good) in
      rw (asked, answers_are, place_there (natural count) axes indices wide i h)
