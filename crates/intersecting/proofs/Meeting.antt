-- `has_deps`, `bars_filter` and `bars_common`: whether any dependency is there, as counts and extents tell. Assumes nothing.
use mathlib.Core.Path.{◌≡◌, refl, sym, ap, ◌∙◌}
use mathlib.Core.Bool.{Bool, true, false, not, ◌&&◌, ◌||◌}
use mathlib.Core.List.Memᴰ
use mathlib.Core.List.{List, [], ◌∷◌, ◌++◌, map}
use mathlib.Core.Logic.{◌⊎◌, inl, inr}
use Prim.Native.Nat.{ℕ, zero, suc, ◌+◌, ◌-◌, ◌<◌, ◌≤◌}
use native.Mathlib.Omega.{arith}
use borrow.Author.Tests.{ne_eqb, lt-ltb, le-ltb}
use lib.Dec.{ltb}
use lib.IntN.{ℤ}
use lib.ListN.{length, get_or, take}
use Rattle.std.specs.declared.cmp.Ordering.{Ordering}
use Rattle.std.specs.declared.cmp.Ordering.TheVariants.{Less, Equal, Greater}
use Rattle.rules.specs.Lists.{none, gather, product}
use Rattle.rules.specs.RowsInOrder.{cmp_rows, insert, sorted, sorted_few, merge, In}
use Rattle.rules.specs.Layout.{Layout, is_diagonal, few}
use Rattle.rules.specs.Dependencies.{on_index, bars_filter}
use Rattle.rules.specs.Removal.{positions, kept_axes, last_positions, removed_deps}
use Rattle.rules.specs.Intersect.{bars_merged}
use Rattle.rules.proofs.Tests.{none_true, no_length, none_some}
use Rattle.rules.proofs.Places.{in_at}
use Rattle.rules.proofs.Sorting.{sorted_has}
use Rattle.rules.proofs.Few.{few_sorted, sorted_few_lem}
use Rattle.rules.proofs.Gathering.{gather_has}
use Rattle.rules.proofs.Indices.{positions_length}
use Rattle.cells.specs.View.{view}
use Rattle.tables.proofs.Tables.{table_length}
use Rattle.parts.specs.Parts.{states_from, inputs_from, left, right, kind_at, dense_at, rank_at, layout_at, Holds}
use Rattle.parts.proofs.Holds.{shape_length, dense_most}
use Rattle.lowering.specs.Lowering.{Axes, last_axes, removes_axes, lowered_deps}
use Rattle.lowering.proofs.Listing.{layout_axes}
use Rattle.lowering.proofs.LoweredDeps.{above_dense}
use Rattle.intersecting.specs.Intersecting.{depends, OtherAsked}
use Rattle.intersecting.proofs.FilteredDeps.{removed_each}

-- ---- lists that are empty

-- a row that was put in is there
none_insert : (r : List ℕ) (t : List (List ℕ)) → none (insert r t) ≡ false
unfolding none insert
none_insert r [] = refl
none_insert r (x ∷ t) = go (cmp_rows r x)
  where
    go : (o : Ordering) → none {A = List ℕ} (elim o [ Less ↦ r ∷ x ∷ t | Equal ↦ x ∷ t | Greater ↦ x ∷ insert r t ]) ≡ false
    go Less = refl
    go Equal = refl
    go Greater = refl

-- merged, none is there where neither list has one
none_merge : (a b : List (List ℕ)) → none (merge a b) ≡ none a && none b
unfolding none sorted
none_merge [] [] = refl
none_merge [] (y ∷ b) = none_insert y (sorted b)
none_merge (x ∷ a) b = none_insert x (sorted (a ++ b))

-- no entry at all
each_none : {t : List (List ℕ)} → ((r : List ℕ) → In r t → ⊥) → none t ≡ true
unfolding none
each_none {t = []} f = refl
each_none {t = x ∷ t} f = absurd (f x (in_at (x ∷ t) 0 (omega arith)))

module _ (l : Layout) (d : ℕ) (deps : List (List ℕ)) where
  -- removal yields none of no entries, or over no indices
  removed_none : (deps ≡ []) ⊎ (last_positions l d ≡ []) → none (removed_deps l d deps) ≡ true
  removed_none (inl e) = each_none (removed_each l d (λ _. ⊥) deps (λ dep t m k. Memᴰ.not-nil (rw e at m)))
  removed_none (inr e) = each_none (removed_each l d (λ _. ⊥) deps (λ dep t m k. Memᴰ.not-nil (rw e at k)))

  -- and some otherwise
  removed_some : 0 < length deps → 0 < length (last_positions l d) → none (removed_deps l d deps) ≡ false
  unfolding removed_deps
  removed_some h k = go (none (sorted_few long)) refl
    where
      one : List ℕ → List ℕ → List ℕ
      one = λ dep t. on_index (λ index. take (kept_axes l d) index ++ t) dep

      long : List (List ℕ)
      long = gather (λ dep. map (one dep) (last_positions l d)) deps

      there : In (one (get_or deps 0 []) (get_or (last_positions l d) 0 [])) long
      there = gather_has (λ dep. map (one dep) (last_positions l d)) (in_at deps 0 h) (Memᴰ.map (one (get_or deps 0 [])) (in_at (last_positions l d) 0 k))

      go : (b : Bool) → none (sorted_few long) ≡ b → b ≡ false
      go true e =
          let z : sorted_few long ≡ [] = none_true e in
          let f : few (sorted long) ≡ true = sym (few_sorted long) ∙ rw z in
          absurd (Memᴰ.not-nil (rw (sym (sorted_few_lem long f) ∙ z) at (sorted_has there)))
      go false e = refl

-- ---- one layout

-- one of two lists has an entry
either_some : (a b : Bool) → (a ≡ false) ⊎ (b ≡ false) → true ≡ not (a && b)
either_some a b (inl e) = rw e
either_some true b (inr e) = rw e
either_some false b (inr e) = refl

neither_some : (a b : Bool) → a ≡ true → b ≡ true → false ≡ not (a && b)
neither_some a b e f = rw (e, f)

-- one of two numbers is not zero
one_of : (m n : ℕ) → 0 < m + n → (0 < m) ⊎ (0 < n)
one_of zero n h = inr (omega arith)
one_of (suc m) n h = inl (omega arith)

module _ {at : ℕ} (d : ℕ) {s : List ℤ} (h : Holds at s) {m n : ℕ} (m-is : m ≡ get_or (view s) (at + states_from) 0) (n-is : n ≡ get_or (view s) (at + inputs_from) 0) where
  abbrev l : Layout
  l = layout_at at s

  states_count : length l.states ≡ m
  unfolding layout_at
  states_count = table_length (at + states_from) (rank_at at s + 1) s ∙ sym m-is

  inputs_count : length l.inputs ≡ n
  unfolding layout_at
  inputs_count = table_length (at + inputs_from) (rank_at at s + 1) s ∙ sym n-is

  lowered_none : {deps : List (List ℕ)} → deps ≡ [] → none (lowered_deps l d deps) ≡ true
  unfolding none
  lowered_none {deps} e = go (removes_axes l d) refl
    where
      go : (b : Bool) → removes_axes l d ≡ b → none (lowered_deps l d deps) ≡ true
      go true f = rw f (removed_none l d deps (inl e))
      go false f = rw (f, e)

  -- it has none
  pub deps_none : m + n ≡ 0 → false ≡ depends l d
  deps_none e =
      neither_some (none (lowered_deps l d l.states)) (none (lowered_deps l d l.inputs))
      (lowered_none (no_length l.states (omega (arith, states_count)))) (lowered_none (no_length l.inputs (omega (arith, inputs_count))))

  module _ (some : m + n ≡ 0 → ⊥) {r : Bool} (r-is : r ≡ removes_axes l d) where
    counted : (0 < length l.states) ⊎ (0 < length l.inputs)
    counted = rw (states_count, inputs_count) (one_of m n (omega arith))

    -- it keeps them
    pub deps_kept_lem : r ≡ false → true ≡ depends l d
    deps_kept_lem e = rw (sym r-is ∙ e) (either_some (none l.states) (none l.inputs) (go counted))
      where
        go : (0 < length l.states) ⊎ (0 < length l.inputs) → (none l.states ≡ false) ⊎ (none l.inputs ≡ false)
        go (inl k) = inl (none_some l.states k)
        go (inr k) = inr (none_some l.inputs k)

    -- axes are removed: it keeps some unless there is no index
    module _ (e : r ≡ true) {k : ℕ} (k-is : k ≡ rank_at at s) {dense : ℕ} (dense_is : dense ≡ dense_at at s) where
      pub above : (d < dense) × (dense ≤ k)
      above = above_dense h (sym r-is ∙ e) k-is dense_is

      pub ask_last : Axes (at + 3) (k - (dense - d)) k s
      ask_last = layout_axes h k-is (omega arith)

      last_is : last_positions l d ≡ positions (last_axes (at + 3) (k - (dense - d)) k s)
      unfolding layout_at
      last_is = rw (shape_length h, ← k-is, ← dense_is)

      pub deps_removed : {size : ℕ} → size ≡ product (last_axes (at + 3) (k - (dense - d)) k s) → ltb 0 size ≡ depends l d
      deps_removed {size} p = rw (sym r-is ∙ e) (by size refl)
        where
          long : length (last_positions l d) ≡ size
          long = ap length last_is ∙ positions_length (last_axes (at + 3) (k - (dense - d)) k s) ∙ sym p

          by : (x : ℕ) → size ≡ x → ltb 0 x ≡ not (none (removed_deps l d l.states) && none (removed_deps l d l.inputs))
          by zero z =
              neither_some (none (removed_deps l d l.states)) (none (removed_deps l d l.inputs))
              (removed_none l d l.states (inr (no_length (last_positions l d) (long ∙ z)))) (removed_none l d l.inputs (inr (no_length (last_positions l d) (long ∙ z))))
          by (suc x) z = lt-ltb 0 (suc x) (omega arith) ∙ either_some (none (removed_deps l d l.states)) (none (removed_deps l d l.inputs)) (go counted)
            where
              go : (0 < length l.states) ⊎ (0 < length l.inputs) → (none (removed_deps l d l.states) ≡ false) ⊎ (none (removed_deps l d l.inputs) ≡ false)
              go (inl f) = inl (removed_some l d l.states f (omega (arith, long)))
              go (inr f) = inr (removed_some l d l.inputs f (omega (arith, long)))

-- ---- two layouts

-- merged lists, told list by list or layout by layout
crosswise : (p q r s : Bool) → not ((p && q) && (r && s)) ≡ not (p && r) || not (q && s)
crosswise false q r s = refl
crosswise true false false s = refl
crosswise true false true s = refl
crosswise true true false s = refl
crosswise true true true s = refl

pub merged_meet : (xs ys xi yi : List (List ℕ)) → not (none (merge xs ys) && none (merge xi yi)) ≡ not (none xs && none xi) || not (none ys && none yi)
merged_meet xs ys xi yi = rw (none_merge xs ys, none_merge xi yi) (crosswise (none xs) (none ys) (none xi) (none yi))

-- a D that is not below that of a layout removes none of its axes
pub keeps_axes : {at : ℕ} {s : List ℤ} → Holds at s → (n : ℕ) → rank_at at s ≤ n → removes_axes (layout_at at s) n ≡ false
unfolding layout_at
keeps_axes {at} {s} h n k = go (is_diagonal (layout_at at s))
  where
    go : (b : Bool) → not b && ltb n (dense_at at s) ≡ false
    go true = refl
    go false = le-ltb n (dense_at at s) (omega (arith, dense_most h))

module _ {other : ℕ} {s : List ℤ} (a : OtherAsked other s) where
  -- the layout is not sparse, or has no dense axes
  pub meets_other : {k : ℕ} → k ≡ kind_at other s → (k ≡ 2 → ⊥) → false ≡ bars_merged (layout_at left s) (layout_at right s) (layout_at other s)
  unfolding layout_at bars_filter
  meets_other e n = rw (← e, ne_eqb _ 2 n)

  module _ {k : ℕ} (e : k ≡ kind_at other s) (sparse : k ≡ 2) {d : ℕ} (d-is : d ≡ dense_at other s) where
    pub meets_flat : d ≡ 0 → false ≡ bars_merged (layout_at left s) (layout_at right s) (layout_at other s)
    unfolding layout_at bars_filter
    meets_flat z = rw (← e, sparse, ← d-is, z)

    barred_is : (d ≡ 0 → ⊥) → not (none (merge (layout_at left s).states (layout_at right s).states) && none (merge (layout_at left s).inputs (layout_at right s).inputs))
        ≡ bars_merged (layout_at left s) (layout_at right s) (layout_at other s)
    unfolding layout_at bars_filter
    barred_is z = rw (← e, sparse, ← d-is, lt-ltb 0 d (omega arith))

    pub meets : (d ≡ 0 → ⊥) → {n : ℕ} → n ≡ rank_at left s → {r : Bool} → r ≡ (depends (layout_at left s) n || depends (layout_at right s) n) →
        r ≡ bars_merged (layout_at left s) (layout_at right s) (layout_at other s)
    meets z {n} n-is f =
        f ∙ rw (keeps_axes a.window.first n (omega arith), keeps_axes a.window.second n (omega (arith, a.ranks)))
        (sym (merged_meet (layout_at left s).states (layout_at right s).states (layout_at left s).inputs (layout_at right s).inputs) ∙ barred_is z)
