-- `common_rows`, `fill_up` and `common_layout`: the common rows behind a head, with the dependencies that they hold, dense if they are all.
-- Assumes nothing.
use mathlib.Core.Path.{◌≡◌, refl, sym, ap, ◌∙◌}
use mathlib.Core.Bool.{Bool, true, false, ◌&&◌}
use mathlib.Core.List.{List, []}
use mathlib.Core.Logic.{inl, inr}
use Prim.Native.Nat.{ℕ, ◌+◌, ◌-◌, ◌≤◌}
use native.Mathlib.Omega.{arith}
use borrow.Author.Tests.{le-leb, leb-true, ne_eqb, eq-eqb}
use lib.IntN.{ℤ, pos}
use lib.ListN.{length, get_or, set}
use Rattle.rules.specs.Limits.{entry_limit, product_limit}
use Rattle.rules.specs.Lists.{keep, product}
use Rattle.rules.specs.Buffers.{part}
use Rattle.rules.specs.RowsInOrder.{sorted, among}
use Rattle.rules.specs.Layout.{Layout, few, nonzero_product, within_product}
use Rattle.rules.specs.CountsAndForms.{to_dense, dense_if_full}
use Rattle.rules.specs.Pairs.{lowered, few_of}
use Rattle.rules.specs.Intersect.{common}
use Rattle.rules.proofs.Same.{both_true, true_not_false}
use Rattle.rules.proofs.Sets.{Subset, among_in, in_among, same_rows}
use Rattle.rules.proofs.Sorting.{sorted_has, sorted_only, sorted_increasing, sorted_length}
use Rattle.rules.proofs.Keeping.{keep_only, keep_passes, keep_has, keep_increasing, keep_length}
use Rattle.rules.proofs.Lowering.{Lowered, lowered_is, lowered_few}
use Rattle.cells.specs.View.{view}
use Rattle.cells.proofs.View.{stored_number}
use Rattle.tables.specs.Rows.{row_at}
use Rattle.tables.specs.Tables.{table_at, Only, Ready, CommonRows}
use Rattle.tables.proofs.Only.{only_then, only_wider, only_same, only_set, view_outside, row_outside, table_outside, ready_outside}
use Rattle.tables.proofs.Rows.{row_length}
use Rattle.tables.proofs.Tables.{table_length}
use Rattle.tables.proofs.Made.{emptied, common_ready}
use Rattle.axes.specs.Extents.{Extents}
use Rattle.parts.specs.Parts.{extents_from, rows_from, states_from, inputs_from, window_size, left, right, target, spare, other_spare, kind_at, dense_at, rank_at, layout_at, Window}
use Rattle.parts.proofs.Holds.{rank_most}
use Rattle.lowering.proofs.LoweredDeps.{lowered_deps_lem}
use Rattle.filtering.specs.Filtering.{filter_at, Filters}
use Rattle.combine.specs.Window.{BothAsked, BothLowered, HeadAsked, HeadMade}
use Rattle.combine.proofs.Rooms.{first_same, second_same, first_rank, second_rank, window_still}
use Rattle.combine.proofs.Both.{ranks, free, lower_first, lower_second, lower_rank}
use Rattle.intersecting.specs.Intersecting.{lowered_list, merged_list, DepsMerged, CommonMade, FillAsked, FilledUp, common_of, few_common, CommonLaid}
use Rattle.intersecting.proofs.MergedLists.{parts_same}

-- ---- the common rows

-- of sorted lists they are sorted
common_sorted : (a b : List (List ℕ)) → keep (λ r. among r (sorted b)) (sorted a) ≡ sorted (keep (λ r. among r b) a)
common_sorted a b = same_rows (keep_increasing sorted_test (sorted_increasing a)) (sorted_increasing (keep test a)) there back
  where
    test : List ℕ → Bool
    test = λ r. among r b

    sorted_test : List ℕ → Bool
    sorted_test = λ r. among r (sorted b)

    there : Subset (keep sorted_test (sorted a)) (sorted (keep test a))
    there r m =
        let passed = among_in r (sorted b) (keep_passes sorted_test (sorted a) r m) in
        sorted_has (keep_has test (sorted_only a (keep_only sorted_test (sorted a) r m)) (in_among (sorted_only b passed)))

    back : Subset (sorted (keep test a)) (keep sorted_test (sorted a))
    back r m =
        let k = sorted_only (keep test a) m in
        keep_has sorted_test (sorted_has (keep_only test a r k)) (in_among (sorted_has (among_in r b (keep_passes test a r k))))

module _ {d : ℕ} {s t : List ℤ} {r : Bool} (q : BothAsked d s) (p : BothLowered d s t r) where
  abbrev window : Window s
  window = q.asked.window

  wide : Only target window_size s t
  wide = only_wider p.only target window_size (omega arith) (omega arith)

  -- one of both has too many rows
  pub common_stop : r ≡ false → CommonMade d s t false
  common_stop f = record {
    verdict = sym f ∙ p.verdict;
    layout = λ z. absurd (true_not_false z refl);
    asked = λ z. absurd (true_not_false z refl);
    only = wide;
  }

  module _ (f : r ≡ true) {n : ℕ} (n-is : n ≡ rank_at left t) {u : List ℤ} (c : CommonRows (spare + rows_from) (other_spare + rows_from) (target + rows_from) (n - d) t u) where
    abbrev w : ℕ
    w = rank_at left s - d

    narrow : w ≤ 4
    narrow = omega (arith, rank_most window.first)

    width : n - d ≡ w
    width = rw (n-is, first_rank window wide)

    rows : CommonRows (spare + rows_from) (other_spare + rows_from) (target + rows_from) w t u
    rows = rw width at c

    rows_wide : Only target window_size s u
    rows_wide = let m = narrow in only_then wide (only_wider rows.only target window_size (omega arith) (omega arith))

    rows_ready : Ready (target + rows_from) w u
    rows_ready = common_ready (p.pair f) rows

    rows_are : table_at (target + rows_from) w u ≡ (common (lowered (layout_at left s) d) (lowered (layout_at right s) d)).rows
    rows_are = rows.table ∙ rw (p.first f, p.second f) (common_sorted (lowered (layout_at left s) d).rows (lowered (layout_at right s) d).rows)

    pub ask_head : HeadAsked 2 d u
    ask_head = record {
      window = window_still window rows_wide;
      kind_most = omega arith;
      dense_most = rw (first_rank window rows_wide) (lower_rank q);
    }

    module _ {v : List ℤ} (h : HeadMade 2 d u v) where
      head_wide : Only target window_size s v
      head_wide = only_then rows_wide (only_wider h.only target window_size (omega arith) (omega arith))

      rank_there : rank_at target v ≡ rank_at left s
      rank_there = h.rank_is ∙ first_rank window rows_wide

      shape_there : part (target + extents_from) (rank_at left s) (view v) ≡ (layout_at left s).shape
      unfolding layout_at
      shape_there =
          rw (first_rank window rows_wide) at h.shape_is
          ∙ (let m = rank_most window.first in row_outside rows_wide (left + extents_from) (rank_at left s) (inl (omega arith)))

      rows_there_lem : table_at (target + rows_from) w v ≡ table_at (target + rows_from) w u
      rows_there_lem = table_outside h.only (target + rows_from) w rows_ready.fits.few (inr (omega arith))

      low : Lowered (layout_at left s) (lowered (layout_at left s) d) d
      unfolding layout_at
      low = let x = (free q).0 in lowered_is window.first.sound.form x.is_not_dense (lower_first q) x.expands x.lists_none

      layout_is : filter_at target v ≡ common (lowered (layout_at left s) d) (lowered (layout_at right s) d)
      unfolding layout_at
      layout_is = rw (h.kind_is, h.dense_is, rank_there, shape_there, rows_there_lem, rows_are, low.dense_is, low.shape_is)

      filters : Filters target v
      filters = record {
        inside = omega (arith, window.room, head_wide.size);
        rank_most = rw rank_there (rank_most window.first);
        dense_most = rw (rank_there, h.dense_is) (lower_rank q);
        rows = rw (rank_there, h.dense_is) (ready_outside h.only rows_ready (inr (omega arith)));
        diagonal_wide = λ k. absurd (omega (arith, h.kind_is));
      }

      pub common_made : CommonMade d s v true
      common_made = record {
        verdict = sym f ∙ p.verdict;
        layout = λ _. layout_is;
        asked = λ _. record {
          window = window_still window head_wide;
          ranks = first_rank window head_wide ∙ ranks q ∙ sym (second_rank window head_wide);
          filters = filters;
          target_rank = rank_there ∙ sym (first_rank window head_wide);
        };
        only = head_wide;
      }

-- ---- dense if full

module _ {s : List ℤ} (a : FillAsked s) {n : ℕ} (n-is : n ≡ rank_at target s) where
  pub ask_product : Extents (target + extents_from) n s
  unfolding layout_at within_product
  ask_product = record {
    room = omega (arith, a.room, a.rank_most);
    within = le-leb (nonzero_product (row_at (target + extents_from) n s)) product_limit (rw n-is a.small);
  }

  module _ {c size : ℕ} (c-is : c ≡ get_or (view s) (target + rows_from) 0) (size_is : size ≡ product (row_at (target + extents_from) n s)) where
    pub not_full : (c ≡ size → ⊥) → FilledUp s s
    unfolding layout_at dense_if_full
    not_full h = record { layout = rw (a.sparse, table_length, ← c-is, ← n-is, ← size_is, ne_eqb c size h); only = only_same target window_size s }

    module _ (h : c ≡ size) {t u v : List ℤ} (kinded : t ≡ set s target (pos 0)) (densed : u ≡ set t (target + 1) (pos n)) (emptied-at : v ≡ set u (target + rows_from) (pos 0)) where
      o1 : Only target (target + 1) s t
      o1 = rw kinded (only_set target (pos 0) s)

      o2 : Only (target + 1) (target + 2) t u
      o2 = rw densed (only_set (target + 1) (pos n) t)

      o3 : Only (target + rows_from) (target + 8) u v
      o3 = rw emptied-at (only_set (target + rows_from) (pos 0) u)

      head_only : Only target (target + 8) s v
      head_only =
          only_then (only_wider o1 target (target + 8) (omega arith) (omega arith))
          (only_then (only_wider o2 target (target + 8) (omega arith) (omega arith)) (only_wider o3 target (target + 8) (omega arith) (omega arith)))

      kind_is : kind_at target v ≡ 0
      kind_is =
          view_outside o3 target (inl (omega arith)) ∙ view_outside o2 target (inl (omega arith)) ∙ rw kinded (stored_number target 0 s (omega (arith, a.room)))

      dense_is : dense_at target v ≡ n
      dense_is = view_outside o3 (target + 1) (inl (omega arith)) ∙ rw densed (stored_number (target + 1) n t (omega (arith, a.room, o1.size)))

      rank_same : rank_at target v ≡ n
      rank_same =
          view_outside o3 (target + 2) (inl (omega arith)) ∙ view_outside o2 (target + 2) (inr (omega arith)) ∙ view_outside o1 (target + 2) (inr (omega arith)) ∙ sym n-is

      shape_same : part (target + extents_from) n (view v) ≡ part (target + extents_from) n (view s)
      shape_same =
          row_outside o3 (target + extents_from) n (inl (omega (arith, a.rank_most)))
          ∙ row_outside o2 (target + extents_from) n (inr (omega arith))
          ∙ row_outside o1 (target + extents_from) n (inr (omega arith))

      none_left : (k : ℕ) → k ≤ 4 → table_at (target + rows_from) k v ≡ []
      none_left k l = rw emptied-at (emptied (target + rows_from) k u (omega (arith, a.room, o1.size, o2.size)))

      states_same : table_at (target + states_from) (n + 1) v ≡ table_at (target + states_from) (n + 1) s
      states_same = table_outside head_only (target + states_from) (n + 1) a.states_few (inr (omega arith))

      inputs_same : table_at (target + inputs_from) (n + 1) v ≡ table_at (target + inputs_from) (n + 1) s
      inputs_same = table_outside head_only (target + inputs_from) (n + 1) a.inputs_few (inr (omega arith))

      long : length (part (target + extents_from) n (view s)) ≡ n
      long = row_length (target + extents_from) n s ask_product.room

      pub filled : FilledUp s v
      unfolding layout_at dense_if_full to_dense
      filled = record {
        layout =
            rw (kind_is, dense_is, rank_same, shape_same, none_left (n - n) (omega arith), states_same, inputs_same, a.sparse, table_length, ← c-is, ← n-is, ← size_is, eq-eqb c size h, long);
        only = only_wider head_only target window_size (omega arith) (omega arith);
      }

-- ---- the whole layout

-- tests of lists, layout by layout or list by list
shuffle : (xs ys ms xi yi mi : Bool) → ((xs && ys) && ms) && ((xi && yi) && mi) ≡ ((xs && xi) && (ys && yi)) && (ms && mi)
shuffle false ys ms xi yi mi = refl
shuffle true false ms false yi mi = refl
shuffle true false ms true yi mi = refl
shuffle true true false false yi mi = refl
shuffle true true false true false mi = refl
shuffle true true false true true mi = refl
shuffle true true true xi yi mi = refl

pub fewer : {a b c d e f a' b' c' d' e' f' : Bool} → a ≡ a' → b ≡ b' → c ≡ c' → d ≡ d' → e ≡ e' → f ≡ f' → ((a && b) && c) && ((d && e) && f) ≡ ((a' && b') && c') && ((d' && e') && f')
fewer g h i j k l = rw (g, h, i, j, k, l)

-- a list of a lowered layout is the lowered list
list_states : (at d : ℕ) (s : List ℤ) → lowered_list at d states_from s ≡ (lowered (layout_at at s) d).states
unfolding layout_at
list_states at d s = sym (lowered_deps_lem (layout_at at s) d).0

list_inputs : (at d : ℕ) (s : List ℤ) → lowered_list at d inputs_from s ≡ (lowered (layout_at at s) d).inputs
unfolding layout_at
list_inputs at d s = sym (lowered_deps_lem (layout_at at s) d).1

-- what a layout in the target is tells what stands there
module _ (s : List ℤ) {l : Layout} (e : layout_at target s ≡ l) where
  kind_of : kind_at target s ≡ l.kind
  unfolding layout_at
  kind_of = ap (λ (k : Layout). k.kind) e

  states_of : table_at (target + states_from) (rank_at target s + 1) s ≡ l.states
  unfolding layout_at
  states_of = ap (λ (k : Layout). k.states) e

  inputs_of : table_at (target + inputs_from) (rank_at target s + 1) s ≡ l.inputs
  unfolding layout_at
  inputs_of = ap (λ (k : Layout). k.inputs) e

module _ {d : ℕ} {s t : List ℤ} {r : Bool} (q : BothAsked d s) (c : CommonMade d s t r) where
  abbrev a : Layout
  a = layout_at left s

  abbrev b : Layout
  b = layout_at right s

  abbrev x : Layout
  x = lowered a d

  abbrev y : Layout
  y = lowered b d

  both_lowered : Lowered a x d × Lowered b y d
  unfolding layout_at
  both_lowered =
      let f = free q in
      let k = q.asked.window in (
        lowered_is k.first.sound.form f.0.is_not_dense (lower_first q) f.0.expands f.0.lists_none,
        lowered_is k.second.sound.form f.1.is_not_dense (lower_second q) f.1.expands f.1.lists_none,
      )

  rows_few : few x.rows && few y.rows ≡ r
  rows_few = sym (c.verdict ∙ rw (lowered_few both_lowered.0, lowered_few both_lowered.1))

  -- one of both has too many rows
  pub rows_stop : r ≡ false → CommonLaid d s t false
  rows_stop f = record {
    verdict = go (few_common a b d) refl;
    layout = λ z. absurd (true_not_false z refl);
    only = c.only;
  }
    where
      first_of : (p u v : Bool) → (p && u) && v ≡ true → p ≡ true
      first_of p u v e = (both_true p u (both_true (p && u) v e).0).0

      go : (k : Bool) → few_common a b d ≡ k → false ≡ k
      go true e =
          let both = both_true (few_of x) (few_of y) (both_true (few_of x && few_of y) (few_of (common_of a b d)) e).0 in
          let left-few : few x.rows ≡ true = first_of (few x.rows) (few x.states) (few x.inputs) both.0 in
          let right-few : few y.rows ≡ true = first_of (few y.rows) (few y.states) (few y.inputs) both.1 in
          absurd (true_not_false (sym rows_few ∙ rw (left-few, right-few)) f)
      go false e = refl

  module _ (f : r ≡ true) {u : List ℤ} {v : Bool} (m : DepsMerged d t u v) where
    whole_only : Only target window_size s u
    whole_only = only_then c.only (only_wider m.only target window_size (omega arith) (omega arith))

    rank_small : rank_at target u ≤ 4
    rank_small =
        let k = c.asked f in
        rw (view_outside m.only (target + 2) (inl (omega arith))) k.filters.rank_most

    few_rows : (few x.rows ≡ true) × (few y.rows ≡ true)
    few_rows = both_true (few x.rows) (few y.rows) (rows_few ∙ f)

    few_common_lem : few (common x y).rows ≡ true
    few_common_lem =
        let test : List ℕ → Bool = λ k. among k y.rows in
        le-leb (length (common x y).rows) entry_limit
        (omega (arith, sorted_length (keep test x.rows), keep_length test x.rows, leb-true (length x.rows) entry_limit few_rows.0))

    -- the lists that were lowered are those of the lowered layouts
    left_states : lowered_list left d states_from t ≡ x.states
    left_states = list_states left d t ∙ rw (first_same q.asked.window c.only)

    left_inputs : lowered_list left d inputs_from t ≡ x.inputs
    left_inputs = list_inputs left d t ∙ rw (first_same q.asked.window c.only)

    right_states : lowered_list right d states_from t ≡ y.states
    right_states = list_states right d t ∙ rw (second_same q.asked.window c.only)

    right_inputs : lowered_list right d inputs_from t ≡ y.inputs
    right_inputs = list_inputs right d t ∙ rw (second_same q.asked.window c.only)

    states_are : merged_list d states_from t ≡ (common_of a b d).states
    states_are = rw (c.layout f, left_states, right_states)

    inputs_are : merged_list d inputs_from t ≡ (common_of a b d).inputs
    inputs_are = rw (c.layout f, left_inputs, right_inputs)

    verdict_is : v ≡ few_common a b d
    verdict_is =
        m.verdict
        ∙ fewer (ap few left_states) (ap few right_states) (ap few states_are) (ap few left_inputs) (ap few right_inputs) (ap few inputs_are)
        ∙ shuffle (few x.states) (few y.states) (few (common_of a b d).states) (few x.inputs) (few y.inputs) (few (common_of a b d).inputs)
        ∙ sym (rw (few_rows.0, few_rows.1, few_common_lem))

    pub deps_stop : v ≡ false → CommonLaid d s u false
    deps_stop g = record {
      verdict = sym g ∙ verdict_is;
      layout = λ z. absurd (true_not_false z refl);
      only = whole_only;
    }

    module _ (g : v ≡ true) where
      layout_there : layout_at target u ≡ common_of a b d
      layout_there = m.layout g ∙ parts_same states_are inputs_are (c.layout f)

      all_few : few_common a b d ≡ true
      all_few = sym verdict_is ∙ g

      few_of_common : few_of (common_of a b d) ≡ true
      few_of_common = (both_true (few_of x && few_of y) (few_of (common_of a b d)) all_few).1

      pub ask_fill : FillAsked u
      ask_fill =
          let k = both_true (few (common_of a b d).rows && few (common_of a b d).states) (few (common_of a b d).inputs) few_of_common in
          let j = both_true (few (common_of a b d).rows) (few (common_of a b d).states) k.0 in
          record {
            room = omega (arith, q.asked.window.room, whole_only.size);
            rank_most = rank_small;
            small = rw (layout_there, both_lowered.0.shape_is) q.asked.window.first.sound.sizes.product_most;
            sparse = kind_of u layout_there;
            states_few = rw (← table_length (target + states_from) (rank_at target u + 1) u, states_of u layout_there) (leb-true (length (common_of a b d).states) entry_limit j.1);
            inputs_few = rw (← table_length (target + inputs_from) (rank_at target u + 1) u, inputs_of u layout_there) (leb-true (length (common_of a b d).inputs) entry_limit k.1);
          }

      pub laid : {w : List ℤ} → FilledUp u w → CommonLaid d s w true
      laid k = record {
        verdict = sym all_few;
        layout = λ _. k.layout ∙ ap dense_if_full layout_there;
        only = only_then whole_only k.only;
      }
