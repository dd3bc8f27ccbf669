-- Which answer `contract_last_axis` gives of a sound layout, case by case. Assumes nothing.
use mathlib.Core.Path.{◌≡◌, refl, sym, ap}
use mathlib.Core.Bool.{Bool, true, false, ◌||◌}
use mathlib.Core.List.{List, [], ◌∷◌, map}
use Prim.Native.Nat.{ℕ, zero, suc, ◌-◌, ◌≤◌, ◌<◌}
use native.Mathlib.Nat.{sub-zero}
use native.Mathlib.Omega.{arith}
use borrow.Author.Tests.{lt-ltb, le-ltb, eq-eqb, ne_eqb}
use lib.Dec.{ltb}
use lib.ListN.{length, take}
use lib.Seq.{length-take-le, take-length, take-take}
use Rattle.rules.specs.Limits.{entry_limit}
use Rattle.rules.specs.Lists.{if, all_below}
use Rattle.rules.specs.RowsInOrder.{sorted, Increasing, increasing_nil}
use Rattle.rules.specs.Refusals.{given, refused, lowest}
use Rattle.rules.specs.Layout.{Layout, rank, width, is_dense, is_diagonal}
use Rattle.rules.specs.Soundness.{NumbersBelow, DepsLow, WellFormed, Sound}
use Rattle.rules.specs.Dependencies.{on_index}
use Rattle.rules.specs.CountsAndForms.{to_dense, dense_if_full}
use Rattle.rules.specs.ContractLastAxis.{shortened, shortened_deps, over_shorter, contracted, contract_last_axis}
use Rattle.rules.proofs.Order.{ComparedNumbers, under, even, above, compare_numbers}
use Rattle.rules.proofs.Same.{both_true}
use Rattle.rules.proofs.Sorting.{sorted_each, sorted_sorted, sorted_increasing}
use Rattle.rules.proofs.Tests.{true_both, true_either}
use Rattle.rules.proofs.Soundness.{OneKind, dense_case, diagonal_case, sparse_case, one_kind}
use Rattle.rules.proofs.Extents.{nonzero_take}
use Rattle.rules.proofs.Alike.{alike_take}
use Rattle.rules.proofs.Holding.{diagonal_extents}
use Rattle.rules.proofs.Made.{Formed}
use Rattle.rules.proofs.Forming.{DepsOfRank, Framed, states_of_rank, inputs_of_rank, dense_framed, diagonal_framed, sparse_framed, to_dense_framed, formed_sound, if_full, sound_given}
use Rattle.rules.proofs.Changed.{take_low, each_map, changed_sorted, changed_sorted_low, sorted_map_length}

-- ---- numbers without the last

-- they are one fewer
pub shortened_length : (r : List ℕ) → length (shortened r) ≡ length r - 1
shortened_length r = length-take-le (length r - 1) r (omega arith)

-- of lists of one length they are as many
shortened_same : (p q : List ℕ) → length p ≡ length q → length (shortened p) ≡ length (shortened q)
shortened_same p q e = omega (arith, shortened_length p, shortened_length q)

-- the first numbers are below the first extents, if all are
pub take_below : (n m : ℕ) (r shape : List ℕ) → all_below r shape ≡ true → all_below (take n r) (take m shape) ≡ true
unfolding all_below
take_below zero m r shape e = refl
take_below (suc n) m [] shape e = refl
take_below (suc n) zero (c ∷ r) shape e = refl
take_below (suc n) (suc m) (c ∷ r) [] e = refl
take_below (suc n) (suc m) (c ∷ r) (x ∷ shape) e =
    let h = both_true (ltb c x) (all_below r shape) e in
    true_both h.0 (take_below n m r shape h.1)

-- with one dense axis less the width is the same
pub same_width : {l : Layout} → WellFormed l → 0 < l.dense → length (shortened l.shape) - (l.dense - 1) ≡ width l
same_width {l} w g = omega (arith, shortened_length l.shape, w.dense_most)

-- ---- what is made, by cases

module _ (l : Layout) where
  -- with dense axes, whatever the kind: one dense axis less, and the rows that there are
  pub contracted_dense_axis : 0 < l.dense → contracted l ≡ over_shorter l (l.dense - 1) l.rows
  unfolding contracted
  contracted_dense_axis g = rw (true_either (is_dense l) (ltb 0 l.dense) (λ _. lt-ltb 0 l.dense g))

  -- a diagonal without dense axes and of rank above 2: a diagonal
  pub contracted_diagonal : l.kind ≡ 1 → l.dense ≡ 0 → 2 < rank l → contracted l ≡ over_shorter l 0 []
  unfolding contracted
  contracted_diagonal k z h = rw (k, z, lt-ltb 2 (rank l) h)

  -- one of rank 1 or 2: dense
  pub contracted_to_dense : l.kind ≡ 1 → l.dense ≡ 0 → rank l ≤ 2 → contracted l ≡ to_dense (over_shorter l 0 [])
  unfolding contracted
  contracted_to_dense k z h = rw (k, z, le-ltb 2 (rank l) h)

  -- sparse without dense axes: rows shortened, sorted, once each, and dense if as many as the new product
  pub contracted_rows : l.kind ≡ 2 → l.dense ≡ 0 → contracted l ≡ dense_if_full (over_shorter l 0 (sorted (map shortened l.rows)))
  unfolding contracted
  contracted_rows k z = rw (k, z)

  -- whatever the layout is, what holds of each of these holds of what is made
  pub contracted_cases : (P : Layout → Type 0) → P (over_shorter l (l.dense - 1) l.rows) → P (over_shorter l 0 []) → P (to_dense (over_shorter l 0 [])) →
      P (over_shorter l 0 (sorted (map shortened l.rows))) → P (to_dense (over_shorter l 0 (sorted (map shortened l.rows)))) → P (contracted l)
  unfolding contracted
  contracted_cases P lower diagonal turned sparse full = go (is_dense l || ltb 0 l.dense) (is_diagonal l) (ltb 2 (rank l))
    where
      rows : List (List ℕ)
      rows = sorted (map shortened l.rows)

      go : (s t u : Bool) → P (if s (over_shorter l (l.dense - 1) l.rows) (if t (if u (over_shorter l 0 []) (to_dense (over_shorter l 0 []))) (dense_if_full (over_shorter l 0 rows))))
      go true t u = lower
      go false true true = diagonal
      go false true false = turned
      go false false u = if_full P (over_shorter l 0 rows) sparse full

  -- it has the shape without its last extent
  pub contracted_shape : (contracted l).shape ≡ shortened l.shape
  unfolding to_dense
  contracted_shape = contracted_cases (λ x. x.shape ≡ shortened l.shape) refl refl refl refl refl

-- ---- it is sound

-- few dependencies, shortened and merged, are few
few_shortened : (deps : List (List ℕ)) → length deps ≤ entry_limit → length (shortened_deps deps) ≤ entry_limit
unfolding shortened_deps
few_shortened deps h = omega (arith, sorted_map_length (on_index shortened) deps)

module _ {l : Layout} (s : Sound l) (h : 0 < rank l) where
  -- dependencies shortened and merged are of the new rank
  deps_shortened : {deps : List (List ℕ)} → DepsOfRank (rank l) deps → DepsOfRank (length (shortened l.shape)) (shortened_deps deps)
  unfolding shortened_deps
  deps_shortened = changed_sorted shortened (λ i. shortened_same i l.shape) (λ i. take_low (length i - 1) i)

  -- over the shorter shape, whatever D and rows
  shorter_framed : (d : ℕ) (rows : List (List ℕ)) → Framed (over_shorter l d rows)
  unfolding shortened_deps
  shorter_framed d rows = record {
    rank_most = rw shortened_length (omega (arith, s.form.rank_most));
    product_most = omega (arith, nonzero_take (rank l - 1) l.shape, s.sizes.product_most);
    states_are = deps_shortened (states_of_rank s);
    inputs_are = deps_shortened (inputs_of_rank s);
  }

  -- it is sound if it is formed and has few rows
  shorter_sound : {d : ℕ} {rows : List (List ℕ)} → length rows ≤ entry_limit → Formed (over_shorter l d rows) → Sound (over_shorter l d rows)
  shorter_sound n f = formed_sound f n (few_shortened l.states s.sizes.states_few) (few_shortened l.inputs s.sizes.inputs_few)

  -- so is the dense one
  dense_sound : (d : ℕ) (rows : List (List ℕ)) → Sound (to_dense (over_shorter l d rows))
  unfolding to_dense
  dense_sound d rows =
      formed_sound (to_dense_framed (shorter_framed d rows)) (omega arith) (few_shortened l.states s.sizes.states_few) (few_shortened l.inputs s.sizes.inputs_few)

  -- with dense axes
  fewer_sound : 0 < l.dense → Sound (over_shorter l (l.dense - 1) l.rows)
  fewer_sound g = shorter_sound s.sizes.rows_few (by (one_kind s.form))
    where
      frame : Framed (over_shorter l (l.dense - 1) l.rows)
      frame = shorter_framed (l.dense - 1) l.rows

      by : OneKind l → Formed (over_shorter l (l.dense - 1) l.rows)
      by (dense_case k) = dense_framed frame k (omega (arith, s.form.dense_all k, shortened_length l.shape)) (s.form.sparse_rows (λ e. omega arith))
      by (diagonal_case k) =
          diagonal_framed frame k (rw (same_width s.form g) (s.form.diagonal_wide k))
          (rw (same_width s.form g, take-take (width l) (rank l - 1) l.shape (omega arith)) (s.form.diagonal_alike k)) (s.form.sparse_rows (λ e. omega arith))
      by (sparse_case k) =
          sparse_framed frame k (omega (arith, shortened_length l.shape, s.form.dense_most)) s.form.rows_distinct
          (rw (same_width s.form g) s.form.row_lengths)
          (λ r m. rw take-length at (take_below (length r) (rank l - 1) r l.shape (s.form.rows_lie_below r m)))

  -- a diagonal without dense axes, of rank above 2
  diagonal_sound : l.kind ≡ 1 → l.dense ≡ 0 → 2 < rank l → Sound (over_shorter l 0 [])
  diagonal_sound k z g =
      shorter_sound (omega arith)
      (diagonal_framed (shorter_framed 0 []) k (omega (arith, shortened_length l.shape))
      (alike_take (width (over_shorter l 0 [])) (shortened l.shape) (alike_take (rank l - 1) l.shape (diagonal_extents s.form k z))) refl)

  -- rows without the last number
  rows_sound : l.kind ≡ 2 → l.dense ≡ 0 → Sound (over_shorter l 0 (sorted (map shortened l.rows)))
  rows_sound k z =
      shorter_sound (omega (arith, sorted_map_length shortened l.rows, s.sizes.rows_few))
      (sparse_framed (shorter_framed 0 (sorted (map shortened l.rows))) k (omega arith) (ap length (sorted_sorted (map shortened l.rows)))
      (sorted_each (each_map (λ r. length r ≡ length (shortened l.shape) - 0) shortened (λ r e. rw sub-zero (shortened_same r l.shape (omega arith))) s.form.row_lengths))
      (sorted_each (each_map (λ r. all_below r (shortened l.shape) ≡ true) shortened (λ r e. take_below (length r - 1) (rank l - 1) r l.shape e) s.form.rows_lie_below)))

  -- a contracted layout is sound
  pub contracted_sound : Sound (contracted l)
  contracted_sound = by (compare_numbers 0 l.dense) (one_kind s.form)
    where
      lower : 0 < l.dense → Sound (contracted l)
      lower g = rw (contracted_dense_axis l g) (fewer_sound g)

      diagonal : l.kind ≡ 1 → l.dense ≡ 0 → ComparedNumbers 2 (rank l) → Sound (contracted l)
      diagonal k z (under g) = rw (contracted_diagonal l k z g) (diagonal_sound k z g)
      diagonal k z (even g) = rw (contracted_to_dense l k z (omega arith)) (dense_sound 0 [])
      diagonal k z (above g) = rw (contracted_to_dense l k z (omega arith)) (dense_sound 0 [])

      by : ComparedNumbers 0 l.dense → OneKind l → Sound (contracted l)
      by (under g) kind = lower g
      by (above g) kind = absurd (omega arith)
      by (even z) (dense_case k) = absurd (omega (arith, s.form.dense_all k))
      by (even z) (diagonal_case k) = diagonal k (sym z) (compare_numbers 2 (rank l))
      by (even z) (sparse_case k) = rw (contracted_rows l k (sym z)) (if_full Sound _ (rows_sound k (sym z)) (dense_sound 0 _))

-- ---- the answer

-- a scalar: 7
pub contract_scalar : (l : Layout) → rank l ≡ 0 → contract_last_axis l ≡ refused 7
unfolding contract_last_axis lowest
contract_scalar l e = rw (eq-eqb (rank l) 0 e)

-- otherwise it is given
pub contract_given : {l : Layout} → Sound l → 0 < rank l → contract_last_axis l ≡ given (contracted l)
unfolding contract_last_axis lowest
contract_given {l} s h = rw (ne_eqb (rank l) 0 (λ e. omega arith)) (sound_given (contracted_sound s h))

-- ---- the numbers of its dependencies

-- shortened dependencies have no larger numbers
shortened_low : {b : ℕ} {deps : List (List ℕ)} → NumbersBelow b deps → NumbersBelow b (shortened_deps deps)
unfolding shortened_deps
shortened_low = changed_sorted_low shortened (λ i. take_low (length i - 1) i)

-- they are below 2 ^ 31 if they were
pub contracted_low : {l : Layout} → DepsLow l → DepsLow (contracted l)
unfolding to_dense
contracted_low {l} p = contracted_cases l DepsLow (shorter (l.dense - 1) l.rows) (shorter 0 []) (dense []) (shorter 0 rows) (dense rows)
  where
    rows : List (List ℕ)
    rows = sorted (map shortened l.rows)

    shorter : (d : ℕ) (rows : List (List ℕ)) → DepsLow (over_shorter l d rows)
    shorter d rows = record { states_low = shortened_low p.states_low; inputs_low = shortened_low p.inputs_low }

    dense : (rows : List (List ℕ)) → DepsLow (to_dense (over_shorter l 0 rows))
    dense rows = record { states_low = shortened_low p.states_low; inputs_low = shortened_low p.inputs_low }

-- ---- its order

-- rows that increase do so in the contracted layout too
pub contracted_in_order : (l : Layout) → Increasing l.rows → Increasing (contracted l).rows
unfolding to_dense
contracted_in_order l i = contracted_cases l (λ x. Increasing x.rows) i increasing_nil increasing_nil (sorted_increasing (map shortened l.rows)) increasing_nil
