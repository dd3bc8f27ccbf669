-- Dependencies lowered, merged and filtered: they fit the layout, and how large their numbers are. Assumes nothing.
use mathlib.Core.Path.{◌≡◌, subst}
use mathlib.Core.Bool.{Bool, true, false}
use mathlib.Core.List.Memᴰ
use mathlib.Core.List.{List, ◌++◌}
use mathlib.Core.Logic.{⊎_elim}
use Prim.Native.Nat.{ℕ, ◌+◌, ◌^◌, ◌≤◌}
use native.Mathlib.Omega.{arith}
use lib.ListN.{length, take, drop, length-append, length-drop}
use lib.Seq.{length-take-le, get_or-drop}
use Rattle.rules.specs.Limits.{product_limit}
use Rattle.rules.specs.Lists.{if, keep}
use Rattle.rules.specs.RowsInOrder.{merge, In, Each, Increasing}
use Rattle.rules.specs.Layout.{Layout, rank, nonzero_product}
use Rattle.rules.specs.Soundness.{NumbersBelow}
use Rattle.rules.specs.Dependencies.{on_index, held, index_of, filter_deps}
use Rattle.rules.specs.Removal.{kept_axes, last_positions, removed_deps}
use Rattle.rules.proofs.Sets.{Subset, each_append, same_rows}
use Rattle.rules.proofs.Sorting.{sorted_each, sorted_increasing}
use Rattle.rules.proofs.Merging.{merge_left, merge_right, merge_only}
use Rattle.rules.proofs.Keeping.{keep_only, keep_passes, keep_has, keep_increasing}
use Rattle.rules.proofs.Few.{few_each, few_increasing}
use Rattle.rules.proofs.Extents.{extent_nonzero}
use Rattle.rules.proofs.Indices.{positions_only}
use Rattle.rules.proofs.Gathering.{gather_each}
use Rattle.rules.proofs.Forming.{DepOfRank, DepsOfRank}
use Rattle.rules.proofs.Changed.{RowBelow, take_low, append_low, changed_low, changed_of_rank}
use Rattle.lowering.specs.Lowering.{removes_axes, lowered_deps}
use Rattle.lowering.proofs.RowTails.{position_low}

-- ---- kept and merged

-- kept of both lists and then merged, or kept of the merged list
pub keep_merge : (test : List ℕ → Bool) (a b : List (List ℕ)) → keep test (merge a b) ≡ merge (keep test a) (keep test b)
keep_merge test a b = same_rows (keep_increasing test (sorted_increasing (a ++ b))) (sorted_increasing (keep test a ++ keep test b)) there back
  where
    there : Subset (keep test (merge a b)) (merge (keep test a) (keep test b))
    there r m =
        let passed = keep_passes test (merge a b) r m in
        ⊎_elim (λ k. merge_left (keep test b) (keep_has test k passed)) (λ k. merge_right (keep test a) (keep_has test k passed))
        (merge_only a b (keep_only test (merge a b) r m))

    back : Subset (merge (keep test a) (keep test b)) (keep test (merge a b))
    back r m =
        ⊎_elim (λ k. keep_has test (merge_left b (keep_only test a r k)) (keep_passes test a r k))
        (λ k. keep_has test (merge_right a (keep_only test b r k)) (keep_passes test b r k))
        (merge_only (keep test a) (keep test b) m)

-- what holds of the entries of both holds of those that are kept of them merged
pub held_each : {P : List ℕ → Type 0} (l : Layout) {a b : List (List ℕ)} → Each P a → Each P b → Each P (filter_deps l (merge a b))
unfolding filter_deps
held_each l {a} {b} f g r m = sorted_each (each_append f g) r (keep_only (λ d. held l (index_of d)) (merge a b) r m)

-- they increase
pub held_increasing : (l : Layout) (a b : List (List ℕ)) → Increasing (filter_deps l (merge a b))
unfolding filter_deps
held_increasing l a b = keep_increasing (λ d. held l (index_of d)) (sorted_increasing (a ++ b))

-- they are of a rank if those of both are
pub held_of_rank : {n : ℕ} (l : Layout) {a b : List (List ℕ)} → DepsOfRank n a → DepsOfRank n b → DepsOfRank n (filter_deps l (merge a b))
held_of_rank l {a} {b} p q = record { each = held_each l p.each q.each; increase = held_increasing l a b }

-- ---- lowered

module _ (l : Layout) (d : ℕ) where
  -- what holds of each entry with each index of the last axes in it holds of those that removal yields
  pub removed_each : (P : List ℕ → Type 0) (deps : List (List ℕ)) →
      ((dep t : List ℕ) → In dep deps → In t (last_positions l d) → P (on_index (λ index. take (kept_axes l d) index ++ t) dep)) → Each P (removed_deps l d deps)
  unfolding removed_deps
  removed_each P deps f =
      few_each (gather_each _ (λ dep m r k.
      let i = Memᴰ.of_map (λ t. on_index (λ index. take (kept_axes l d) index ++ t) dep) (last_positions l d) k in
      subst P i.2 (f dep i.0 m i.1)))

  -- the same of those that are lowered, if it holds of the entries
  lowered_each : (P : List ℕ → Type 0) → ((dep t : List ℕ) → P dep → In t (last_positions l d) → P (on_index (λ index. take (kept_axes l d) index ++ t) dep)) →
      {deps : List (List ℕ)} → Each P deps → Each P (lowered_deps l d deps)
  lowered_each P f {deps} g = go (removes_axes l d)
    where
      go : (b : Bool) → Each P (if b (removed_deps l d deps) deps)
      go true = removed_each P deps (λ dep t m k. f dep t (g dep m) k)
      go false = g

  -- they increase
  pub lowered_increasing : {deps : List (List ℕ)} → Increasing deps → Increasing (lowered_deps l d deps)
  unfolding removed_deps
  lowered_increasing {deps} i = go (removes_axes l d)
    where
      go : (b : Bool) → Increasing (if b (removed_deps l d deps) deps)
      go true = few_increasing _
      go false = i

  module _ (small : nonzero_product l.shape ≤ product_limit) where
    tail_low : {t : List ℕ} → In t (last_positions l d) → RowBelow product_limit t
    tail_low = position_low (drop (kept_axes l d) l.shape) (λ k. rw get_or-drop (omega (arith, extent_nonzero l.shape (kept_axes l d + k) 0 (omega arith))))

    -- they are of the rank of the layout if the entries are
    pub lowered_of_rank : {deps : List (List ℕ)} → DepsOfRank (rank l) deps → DepsOfRank (rank l) (lowered_deps l d deps)
    lowered_of_rank p = record {
      each = lowered_each (DepOfRank (rank l)) (λ dep t q m. changed_of_rank (λ index. take (kept_axes l d) index ++ t) dep q (size t m) (low t m)) p.each;
      increase = lowered_increasing p.increase;
    }
      where
        size : (t : List ℕ) → In t (last_positions l d) → (i : List ℕ) → length i ≡ rank l → length (take (kept_axes l d) i ++ t) ≡ rank l
        size t m i e =
            let front = length-take-le (kept_axes l d) i (omega arith) in
            let back = (positions_only (drop (kept_axes l d) l.shape) m).0 in
            rw (length-append, front, back, length-drop) (omega arith)

        low : (t : List ℕ) → In t (last_positions l d) → (i : List ℕ) → RowBelow product_limit i → RowBelow product_limit (take (kept_axes l d) i ++ t)
        low t m i f = append_low (take (kept_axes l d) i) t (take_low (kept_axes l d) i f) (tail_low m)

    -- their numbers are below 2 ^ 31 if those of the entries are
    pub lowered_low : {deps : List (List ℕ)} → NumbersBelow (2 ^ 31) deps → NumbersBelow (2 ^ 31) (lowered_deps l d deps)
    lowered_low = lowered_each (RowBelow (2 ^ 31)) (λ dep t q m. changed_low (λ index. take (kept_axes l d) index ++ t) dep q (λ i f.
        append_low (take (kept_axes l d) i) t (take_low (kept_axes l d) i f) (λ k. omega (arith, tail_low m k))))
