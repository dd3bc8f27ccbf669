-- `take_held`, `merge_list` and `merge_held`: the lists of both layouts, lowered, filtered by the target, and merged into it. Assumes nothing.
use mathlib.Core.Path.{◌≡◌, refl, sym, ap, ◌∙◌}
use mathlib.Core.Bool.{Bool, true, false}
use mathlib.Core.List.{List}
use mathlib.Core.Logic.{◌⊎◌, inl, inr}
use Prim.Native.Nat.{ℕ, ◌+◌, ◌≤◌}
use native.Mathlib.Omega.{arith}
use lib.IntN.{ℤ}
use Rattle.rules.specs.RowsInOrder.{sorted, merge}
use Rattle.rules.specs.Layout.{Layout, few, with_deps}
use Rattle.rules.specs.Dependencies.{held, index_of, filter_deps}
use Rattle.rules.proofs.Same.{true_not_false}
use Rattle.rules.proofs.Sorting.{sorted_id}
use Rattle.tables.specs.Tables.{table_at, Only, Ready, PairAsked, Merged, Listed}
use Rattle.tables.proofs.Only.{only_then, only_wider, table_outside, ready_outside}
use Rattle.tables.proofs.Made.{merged_ready}
use Rattle.parts.specs.Parts.{part_size, states_from, inputs_from, window_size, left, right, target, spare, other_spare, rank_at, layout_at, Holds, Window}
use Rattle.parts.proofs.Holds.{rank_most, states_ready, inputs_ready}
use Rattle.lowering.specs.Lowering.{DepsAsked}
use Rattle.filtering.specs.Filtering.{filter_at, KeepAsked, Kept}
use Rattle.filtering.proofs.Held.{rank_same, filter_same, filters_still}
use Rattle.combine.proofs.Rooms.{first_same, second_same, first_rank, second_rank, window_still}
use Rattle.intersecting.specs.Intersecting.{MergeAsked, ListPlace, TakeAsked, lowered_list, HeldTaken, merged_list, ListAsked, few_in_list, ListMerged, DepsMerged}
use Rattle.intersecting.proofs.FilteredDeps.{keep_merge, lowered_increasing}

-- ---- one list of one layout

-- a list stands behind the rows, and has its room in a part
place_in : {list : ℕ} → ListPlace list → (states_from ≤ list) × (list + 641 ≤ part_size)
place_in (inl e) = (omega arith, omega arith)
place_in (inr e) = (omega arith, omega arith)

-- its place is small
pub list_ends : {list : ℕ} → ListPlace list → list ≤ inputs_from
list_ends (inl e) = omega arith
list_ends (inr e) = omega arith

-- a list of a layout is ready
deps_ready : {at list : ℕ} {s : List ℤ} → Holds at s → ListPlace list → Ready (at + list) (rank_at at s + 1) s
deps_ready h (inl e) = rw e (states_ready h)
deps_ready h (inr e) = rw e (inputs_ready h)

module _ (d : ℕ) {at list to : ℕ} {s : List ℤ} (a : TakeAsked at list to s) where
  narrow : rank_at at s + 1 ≤ 5
  narrow = omega (arith, rank_most a.holds)

  pub ask_lower : DepsAsked at d (at + list) (target + list) s
  ask_lower =
      let p = place_in a.place in
      record {
        holds = a.holds;
        deps = a.deps;
        room = omega (arith, a.room, a.behind);
        apart = inl (omega (arith, a.before));
        deps_apart = inl (omega (arith, a.before));
      }

  in_order : sorted (lowered_list at d list s) ≡ lowered_list at d list s
  in_order = sorted_id (lowered_increasing (layout_at at s) d a.deps.increasing)

  module _ {t : List ℤ} {r : Bool} (p : Listed (target + list) (rank_at at s + 1) (lowered_list at d list s) s t r) where
    lowering_only : Only (target + list) (target + list + 641) s t
    lowering_only = let n = narrow in only_wider p.only (target + list) (target + list + 641) (omega arith) (omega arith)

    told : r ≡ few (lowered_list at d list s)
    told = p.verdict ∙ ap few in_order

    -- too many
    pub take_stop : r ≡ false → HeldTaken at d list to s t false
    take_stop f = record {
      verdict = sym f ∙ told;
      table = λ z. absurd (true_not_false z refl);
      ready = λ z. absurd (true_not_false z refl);
      middle = t;
      lowering = lowering_only;
      keeping = record { size = refl; before = refl; behind = refl };
    }

    module _ (f : r ≡ true) where
      before_list : (target + states_from ≤ target + list) ⊎ (target + list + 641 ≤ target)
      before_list = let v = place_in a.place in inl (omega arith)

      rank_there : rank_at target t ≡ rank_at at s
      rank_there = rank_same lowering_only before_list a.filters ∙ a.target_rank

      pub ask_keep : KeepAsked target (target + list) (to + list) t
      ask_keep =
          let v = place_in a.place in
          record {
            filters = filters_still lowering_only before_list a.filters;
            entries = rw rank_there (p.ready f);
            room = rw lowering_only.size (omega (arith, a.room));
            apart = inl (omega (arith, a.behind));
            entries_apart = inl (omega (arith, a.behind));
          }

      pub taken : {u : List ℤ} → Kept target (target + list) (to + list) t u → HeldTaken at d list to s u true
      taken k =
          let n = narrow in
          let q = rw (rank_there, filter_same lowering_only before_list a.filters, p.table f, in_order) at k.table in
          record {
            verdict = sym f ∙ told;
            table = λ _. q;
            ready = λ _. rw rank_there at k.ready;
            middle = t;
            lowering = lowering_only;
            keeping = only_wider (rw rank_there at k.only) (to + list) (to + list + 641) (omega arith) (omega arith);
          }

-- ---- what stays while lists are made

module _ (k : ℕ) {s t : List ℤ} (q : MergeAsked s) (h : states_from ≤ k) (o : Only (target + k) window_size s t) where
  wide : Only target window_size s t
  wide = only_wider o target window_size (omega arith) (omega arith)

  outside : (target + states_from ≤ target + k) ⊎ (window_size ≤ target)
  outside = inl (omega arith)

  pub merge_still : MergeAsked t
  merge_still = record {
    window = window_still q.window wide;
    ranks = first_rank q.window wide ∙ q.ranks ∙ sym (second_rank q.window wide);
    filters = filters_still o outside q.filters;
    target_rank = rank_same o outside q.filters ∙ q.target_rank ∙ sym (first_rank q.window wide);
  }

  filter_still : filter_at target t ≡ filter_at target s
  filter_still = filter_same o outside q.filters

  module _ {list : ℕ} (p : ListPlace list) (d : ℕ) where
    left_list : table_at (left + list) (rank_at left s + 1) t ≡ table_at (left + list) (rank_at left s + 1) s
    left_list =
        let m = rank_most q.window.first in
        let v = place_in p in
        table_outside wide (left + list) (rank_at left s + 1) (deps_ready q.window.first p).fits.few (inl (omega arith))

    right_list : table_at (right + list) (rank_at right s + 1) t ≡ table_at (right + list) (rank_at right s + 1) s
    right_list =
        let m = rank_most q.window.second in
        let v = place_in p in
        table_outside wide (right + list) (rank_at right s + 1) (deps_ready q.window.second p).fits.few (inl (omega arith))

    left_still : lowered_list left d list t ≡ lowered_list left d list s
    left_still = rw (first_same q.window wide, first_rank q.window wide, left_list)

    right_still : lowered_list right d list t ≡ lowered_list right d list s
    right_still = rw (second_same q.window wide, second_rank q.window wide, right_list)

    pub merged_still : merged_list d list t ≡ merged_list d list s
    merged_still = rw (filter_still, left_still, right_still)

    pub few_still : few_in_list d list t ≡ few_in_list d list s
    few_still = rw (merged_still, left_still, right_still)

-- ---- one list of both

module _ (d : ℕ) {list : ℕ} {s : List ℤ} (q : ListAsked list s) where
  abbrev asked : MergeAsked s
  asked = q.asked

  abbrev window : Window s
  window = q.asked.window

  abbrev xs : List (List ℕ)
  xs = lowered_list left d list s

  abbrev ys : List (List ℕ)
  ys = lowered_list right d list s

  pub ask_left : TakeAsked left list spare s
  ask_left = record {
    holds = window.first;
    before = omega arith;
    place = q.place;
    deps = deps_ready window.first q.place;
    filters = asked.filters;
    target_rank = asked.target_rank;
    behind = omega arith;
    room = omega (arith, window.room);
  }

  module _ {t : List ℤ} {r : Bool} (p : HeldTaken left d list spare s t r) where
    left_wide : Only (target + list) window_size s t
    left_wide =
        let v = place_in q.place in
        only_then (only_wider p.lowering (target + list) window_size (omega arith) (omega arith)) (only_wider p.keeping (target + list) window_size (omega arith) (omega arith))

    pub left_stop : r ≡ false → ListMerged d list s t false
    left_stop f = record {
      verdict = rw (sym p.verdict ∙ f);
      table = λ z. absurd (true_not_false z refl);
      ready = λ z. absurd (true_not_false z refl);
      only = left_wide;
    }

    still : MergeAsked t
    still = merge_still list asked (place_in q.place).0 left_wide

    pub ask_right : TakeAsked right list other_spare t
    ask_right = record {
      holds = still.window.second;
      before = omega arith;
      place = q.place;
      deps = deps_ready still.window.second q.place;
      filters = still.filters;
      target_rank = still.target_rank ∙ still.ranks;
      behind = omega arith;
      room = omega (arith, still.window.room);
    }

    module _ (f : r ≡ true) {u : List ℤ} {v : Bool} (p' : HeldTaken right d list other_spare t u v) where
      both_wide : Only (target + list) window_size s u
      both_wide =
          let w = place_in q.place in
          only_then left_wide
          (only_then (only_wider p'.lowering (target + list) window_size (omega arith) (omega arith)) (only_wider p'.keeping (target + list) window_size (omega arith) (omega arith)))

      right_is : lowered_list right d list t ≡ ys
      right_is = right_still list asked (place_in q.place).0 left_wide q.place d

      few_right : few ys ≡ v
      few_right = sym (p'.verdict ∙ ap few right_is)

      pub right_stop : v ≡ false → ListMerged d list s u false
      right_stop g = record {
        verdict = rw (sym p.verdict ∙ f, few_right ∙ g);
        table = λ z. absurd (true_not_false z refl);
        ready = λ z. absurd (true_not_false z refl);
        only = both_wide;
      }

      module _ (g : v ≡ true) {w : ℕ} (w-is : w ≡ rank_at left u + 1) where
        rank_is : rank_at left u ≡ rank_at left s
        rank_is = first_rank window (only_wider both_wide target window_size (omega arith) (omega arith))

        width : w ≡ rank_at left s + 1
        width = w-is ∙ ap (λ (k : ℕ). k + 1) rank_is

        right_width : rank_at right t + 1 ≡ w
        right_width = ap (λ (k : ℕ). k + 1) (sym still.ranks ∙ first_rank window (only_wider left_wide target window_size (omega arith) (omega arith))) ∙ sym width

        few_wide : w ≤ 5
        few_wide = omega (arith, rank_most window.first, width)

        first_ready : Ready (spare + list) w u
        first_ready =
            let n = few_wide in
            ready_outside p'.keeping (ready_outside p'.lowering (rw (← width) at (p.ready f)) (inr (omega arith))) (inl (omega arith))

        first_table : table_at (spare + list) w u ≡ filter_deps (filter_at target s) xs
        first_table =
            let n = few_wide in
            let ready = rw (← width) at (p.ready f) in
            table_outside p'.keeping (spare + list) w (ready_outside p'.lowering ready (inr (omega arith))).fits.few (inl (omega arith))
            ∙ table_outside p'.lowering (spare + list) w ready.fits.few (inr (omega arith))
            ∙ ap (λ (k : ℕ). table_at (spare + list) k t) width ∙ p.table f

        second_table : table_at (other_spare + list) w u ≡ filter_deps (filter_at target s) ys
        second_table =
            ap (λ (k : ℕ). table_at (other_spare + list) k u) (sym right_width) ∙ p'.table g
            ∙ rw (right_is, filter_still list asked (place_in q.place).0 left_wide)

        pub ask_merge : PairAsked (spare + list) (other_spare + list) (target + list) w u
        ask_merge =
            let n = few_wide in
            let k = place_in q.place in
            record {
              narrow = few_wide;
              first = first_ready;
              second = rw right_width at (p'.ready g);
              target = omega (arith, window.room, both_wide.size);
              apart_first = inr (omega arith);
              apart_second = inr (omega arith);
            }

        merged_is : merge (table_at (spare + list) w u) (table_at (other_spare + list) w u) ≡ merged_list d list s
        unfolding filter_deps
        merged_is = rw (first_table, second_table) (sym (keep_merge (λ e. held (filter_at target s) (index_of e)) xs ys))

        pub list_merged : {x : List ℤ} {m : Bool} → Merged (spare + list) (other_spare + list) (target + list) w u x m → ListMerged d list s x m
        list_merged {x} i =
            let n = few_wide in
            let k = place_in q.place in
            record {
              verdict = rw (sym p.verdict ∙ f, few_right ∙ g) (i.verdict ∙ ap few merged_is);
              table = λ z. ap (λ (k : ℕ). table_at (target + list) k x) (sym width) ∙ i.table z ∙ merged_is;
              ready = λ z. rw (← width) (merged_ready ask_merge i z);
              only = only_then both_wide (only_wider i.only (target + list) window_size (omega arith) (omega arith));
            }

-- ---- both lists

-- a layout is its head and rows with its dependencies
split_layout : (at : ℕ) (s : List ℤ) →
    layout_at at s ≡ with_deps (table_at (at + states_from) (rank_at at s + 1) s) (table_at (at + inputs_from) (rank_at at s + 1) s) (filter_at at s)
unfolding layout_at
split_layout at s = refl

pub parts_same : {a b i j : List (List ℕ)} {l m : Layout} → a ≡ b → i ≡ j → l ≡ m → with_deps a i l ≡ with_deps b j m
parts_same e f g = rw (e, f, g)

module _ (d : ℕ) {s : List ℤ} (q : MergeAsked s) where
  pub ask_states : ListAsked states_from s
  ask_states = record { asked = q; place = inl refl }

  module _ {t : List ℤ} {r : Bool} (p : ListMerged d states_from s t r) where
    pub states_stop : r ≡ false → DepsMerged d s t false
    states_stop f = record {
      verdict = rw (sym p.verdict ∙ f);
      layout = λ z. absurd (true_not_false z refl);
      only = p.only;
    }

    later : MergeAsked t
    later = merge_still states_from q (omega arith) p.only

    pub ask_inputs : ListAsked inputs_from t
    ask_inputs = record { asked = later; place = inr refl }

    module _ (f : r ≡ true) {u : List ℤ} {v : Bool} (p' : ListMerged d inputs_from t u v) where
      all_only : Only (target + states_from) window_size s u
      all_only = only_then p.only (only_wider p'.only (target + states_from) window_size (omega arith) (omega arith))

      rank_left : rank_at left t ≡ rank_at left s
      rank_left = first_rank q.window (only_wider p.only target window_size (omega arith) (omega arith))

      rank_target : rank_at target u ≡ rank_at left s
      rank_target = rank_same all_only (inl (omega arith)) q.filters ∙ q.target_rank

      states_there : table_at (target + states_from) (rank_at left s + 1) u ≡ merged_list d states_from s
      states_there =
          let m = rank_most q.window.first in
          table_outside p'.only (target + states_from) (rank_at left s + 1) (p.ready f).fits.few (inl (omega arith)) ∙ p.table f

      inputs_there : v ≡ true → table_at (target + inputs_from) (rank_at left s + 1) u ≡ merged_list d inputs_from s
      inputs_there z = ap (λ (k : ℕ). table_at (target + inputs_from) (k + 1) u) (sym rank_left) ∙ p'.table z ∙ merged_still states_from q (omega arith) p.only (inr refl) d

      pub deps_merged : DepsMerged d s u v
      deps_merged = record {
        verdict = rw (sym p.verdict ∙ f) (p'.verdict ∙ few_still states_from q (omega arith) p.only (inr refl) d);
        layout = λ z.
            split_layout target u
            ∙ parts_same (ap (λ (k : ℕ). table_at (target + states_from) (k + 1) u) rank_target ∙ states_there)
            (ap (λ (k : ℕ). table_at (target + inputs_from) (k + 1) u) rank_target ∙ inputs_there z)
            (filter_same all_only (inl (omega arith)) q.filters);
        only = all_only;
      }
