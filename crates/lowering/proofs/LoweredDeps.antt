-- `removes_axes` and `lower_deps_into`: which entries are listed, where axes are removed and where none is. Assumes nothing.
use mathlib.Core.Path.{◌≡◌, refl, sym, ap, ◌∙◌}
use mathlib.Core.Bool.{Bool, true, false, not}
use mathlib.Core.List.{List, [], ◌∷◌, ◌++◌, map, append_assoc}
use mathlib.Core.Logic.{inl, inr, ⊎_elim}
use Prim.Native.Nat.{ℕ, ◌+◌, ◌-◌, ◌<◌, ◌≤◌}
use native.Mathlib.Omega.{arith}
use borrow.Author.Tests.{ne_eqb, ltb-true, le-leb}
use lib.Dec.{ltb}
use lib.IntN.{ℤ, pos}
use lib.ListN.{length, set, take, drop}
use lib.Seq.{take-take}
use Rattle.rules.specs.Lists.{gather}
use Rattle.rules.specs.RowsInOrder.{sorted, sorted_few, Increasing, Each}
use Rattle.rules.specs.Layout.{Layout, is_diagonal, few}
use Rattle.rules.specs.Dependencies.{on_index}
use Rattle.rules.specs.Removal.{positions, removed_deps, remove_dense_axes}
use Rattle.rules.specs.Pairs.{expanded, lowered}
use Rattle.rules.proofs.Same.{both_true}
use Rattle.rules.proofs.Sets.{each_head, each_tail}
use Rattle.rules.proofs.Sorting.{sorted_id}
use Rattle.rules.proofs.Few.{few_sorted, sorted_few_lem, few_increasing}
use Rattle.tables.specs.Rows.{row_at}
use Rattle.tables.specs.Tables.{table_at, room_end, Only, SortAsked, Sorted, Taken, Listed}
use Rattle.tables.proofs.Only.{row_outside, table_outside, fits_outside}
use Rattle.tables.proofs.Tables.{table_length, table_wide}
use Rattle.tables.proofs.Made.{sorted_ready}
use Rattle.tables.proofs.Taking.{cleared_only, cleared_ready, cleared_listed}
use Rattle.parts.specs.Parts.{kind_at, dense_at, rank_at, layout_at, Holds}
use Rattle.parts.proofs.Holds.{rank_most, shape_length, dense_most, rank_outside, holds_outside}
use Rattle.lowering.specs.Lowering.{last_positions, with_tails, all_tails, RowsAsked, removes_axes, lowered_deps, DepsAsked}
use Rattle.lowering.proofs.Listing.{layout_axes}

-- ---- the dependencies of a lowered layout

-- states and inputs alike
pub lowered_deps_lem : (l : Layout) (new : ℕ) → ((lowered l new).states ≡ lowered_deps l new l.states) × ((lowered l new).inputs ≡ lowered_deps l new l.inputs)
unfolding lowered expanded remove_dense_axes
lowered_deps_lem l new = go (is_diagonal l) (ltb new l.dense) refl refl
  where
    go : (a b : Bool) → is_diagonal l ≡ a → ltb new l.dense ≡ b →
        ((lowered l new).states ≡ lowered_deps l new l.states) × ((lowered l new).inputs ≡ lowered_deps l new l.inputs)
    go true b e f = (rw e, rw e)
    go false true e f = (rw (e, f), rw (e, f))
    go false false e f = (rw (e, f), rw (e, f))

-- ---- whether axes are removed

module _ {at : ℕ} (d : ℕ) {s : List ℤ} (h : Holds at s) where
  pub removes_none : {k : ℕ} → k ≡ kind_at at s → k ≡ 1 → false ≡ removes_axes (layout_at at s) d
  unfolding layout_at
  removes_none e o = rw (← e, o)

  pub removes_by : {k n : ℕ} → k ≡ kind_at at s → (k ≡ 1 → ⊥) → n ≡ dense_at at s → ltb d n ≡ removes_axes (layout_at at s) d
  unfolding layout_at
  removes_by e o f = rw (← e, ne_eqb _ 1 o, f)

-- where they are, D was larger
pub above_dense : {at d n dense : ℕ} {s : List ℤ} → Holds at s → removes_axes (layout_at at s) d ≡ true → n ≡ rank_at at s → dense ≡ dense_at at s → (d < dense) × (dense ≤ n)
unfolding layout_at
above_dense {at} {d} {s} h e n-is dense_is =
    let more = ltb-true d (dense_at at s) (both_true (not (is_diagonal (layout_at at s))) (ltb d (dense_at at s)) e).1 in
    (omega arith, omega (arith, dense_most h))

-- ---- entries with ends in them

module _ (w n : ℕ) (h : w ≤ n) where
  -- one dependency with an end in place of its own
  one_tail : (d t : List ℕ) → length d ≡ n + 1 → on_index (λ index. take w index ++ t) d ≡ take w d ++ (t ++ drop n d)
  unfolding on_index
  one_tail d t e = let k : length d - 1 ≡ n = omega arith in rw (k, take-take w n d h, append_assoc)

  -- with each of the ends
  with_tails_lem : (d : List ℕ) → length d ≡ n + 1 → (ends : List (List ℕ)) → map (λ t. on_index (λ index. take w index ++ t) d) ends ≡ with_tails w n d ends
  with_tails_lem d e [] = refl
  with_tails_lem d e (t ∷ ends) = rw (one_tail d t e, with_tails_lem d e ends)

  -- all of them
  all_tails_lem : (deps ends : List (List ℕ)) → Each (λ d. length d ≡ n + 1) deps →
      gather (λ d. map (λ t. on_index (λ index. take w index ++ t) d) ends) deps ≡ all_tails w n deps ends
  unfolding gather
  all_tails_lem [] ends f = refl
  all_tails_lem (d ∷ deps) ends f = rw (with_tails_lem d (each_head f) ends, all_tails_lem deps ends (each_tail f))

-- ---- the list

-- what is listed of a list that could be long is what is gathered of it
few_listed : {to w : ℕ} {rows : List (List ℕ)} {s t : List ℤ} {r : Bool} → Listed to w rows s t r → Listed to w (sorted_few rows) s t r
few_listed {rows} p =
    let same : sorted (sorted_few rows) ≡ sorted_few rows = sorted_id (few_increasing rows) in
    record {
      verdict = p.verdict ∙ sym (ap few same ∙ few_sorted rows);
      table = λ e. p.table e ∙ sym (same ∙ sorted_few_lem rows (sym p.verdict ∙ e));
      ready = p.ready;
      only = p.only;
    }

module _ {at d from to : ℕ} {s : List ℤ} (a : DepsAsked at d from to s) where
  abbrev l : Layout
  l = layout_at at s

  abbrev deps : List (List ℕ)
  deps = table_at from (rank_at at s + 1) s

  module _ {r : Bool} (r-is : r ≡ removes_axes l d) {n : ℕ} (n-is : n ≡ rank_at at s) where
    narrow : n ≤ 4
    narrow = omega (arith, rank_most a.holds)

    -- ---- axes are removed

    module _ (yes : r ≡ true) {dense : ℕ} (dense_is : dense ≡ dense_at at s) where
      pub above : (d < dense) × (dense ≤ n)
      above = above_dense a.holds (sym r-is ∙ yes) n-is dense_is

      module _ {t : List ℤ} (e : t ≡ set s to (pos 0)) where
        abbrev w : ℕ
        w = n - (dense - d)

        cleared : Only to (to + 641) s t
        cleared = cleared_only s e (to + 641) (omega arith)

        room : room_end to (n + 1) ≤ length s
        room = let m = narrow in omega (arith, a.room)

        pub ask_removed : RowsAsked from (n + 1) (at + 3) w n to (n + 1) t
        ask_removed =
            let m = narrow in
            let held = holds_outside cleared a.apart a.holds in
            record {
              rows = rw n-is (fits_outside cleared a.deps.fits (⊎_elim (λ x. inl (omega arith)) (λ x. inr (omega arith)) a.deps_apart));
              axes = layout_axes held (n-is ∙ sym (rank_outside cleared a.apart)) (omega arith);
              widths = record { front = omega arith; read_most = omega arith; width_is = omega arith };
              target = cleared_ready s e room;
              rows_apart = ⊎_elim (λ x. inl (omega arith)) (λ x. inr (omega arith)) a.deps_apart;
              axes_apart = ⊎_elim (λ x. inl (omega arith)) (λ x. inr (omega arith)) a.apart;
            }

        axes_there : row_at (at + 3) n t ≡ row_at (at + 3) n s
        axes_there = let m = narrow in row_outside cleared (at + 3) n (⊎_elim (λ x. inl (omega arith)) (λ x. inr (omega arith)) a.apart)

        deps_there : table_at from (n + 1) t ≡ table_at from (n + 1) s
        deps_there =
            let m = narrow in
            table_outside cleared from (n + 1) a.deps.fits.few (⊎_elim (λ x. inl (omega arith)) (λ x. inr (omega arith)) a.deps_apart)

        removed_is : lowered_deps l d deps ≡ sorted_few (all_tails w n (table_at from (n + 1) t) (last_positions (at + 3) w n t))
        unfolding layout_at removed_deps
        removed_is =
            rw (sym r-is ∙ yes, deps_there, axes_there, shape_length a.holds, ← dense_is, ← n-is)
            (ap sorted_few (all_tails_lem w n (omega arith) (table_at from (n + 1) s) (positions (drop w (row_at (at + 3) n s))) (table_wide (rw (← n-is) at a.deps.fits))))

        pub removed_listed : {u : List ℤ} {v : Bool} → Taken to (n + 1) (all_tails w n (table_at from (n + 1) t) (last_positions (at + 3) w n t)) t u v →
            Listed to (rank_at at s + 1) (lowered_deps l d deps) s u v
        removed_listed p = rw (removed_is, ← n-is) (few_listed (cleared_listed s e room p))

    -- ---- none is

    module _ (no : r ≡ false) where
      pub ask_copy : SortAsked from to (n + 1) s
      ask_copy =
          let m = narrow in
          record {
            narrow = omega arith;
            source = rw n-is a.deps.fits;
            target = omega (arith, a.room);
            apart = ⊎_elim (λ x. inl (omega arith)) (λ x. inr (omega arith)) a.deps_apart;
          }

      pub copy_rising : Increasing (table_at from (n + 1) s)
      copy_rising = rw n-is a.deps.increasing

      pub copied_listed : {t : List ℤ} → Sorted from to (n + 1) s t → Listed to (rank_at at s + 1) (lowered_deps l d deps) s t true
      copied_listed {t} p =
          let q : Sorted from to (rank_at at s + 1) s t = rw n-is at p in
          rw (sym r-is ∙ no)
          (record {
            verdict = sym (le-leb (length (sorted deps)) 128 (rw (sorted_id a.deps.increasing, table_length) a.deps.fits.few));
            table = λ _. q.table;
            ready = λ _. rw n-is at (sorted_ready ask_copy p);
            only = q.only;
          })

pub ruleset removes_laws = (removes_none, removes_by)
