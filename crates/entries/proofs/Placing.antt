-- Entries that stand in a record as they are listed, and these moved into a table: `standing_of`, `move_entry`, `move_entries` and
-- `list_block`. Assumes nothing.
use Rattle.std.specs.Prelude.{None, Option, Some}
use mathlib.Core.Path.{◌≡◌, refl, sym, ap, ◌∙◌}
use mathlib.Core.Bool.{Bool, true, false}
use mathlib.Core.List.{List, [], map, map-id}
use mathlib.Core.Logic.{inl, inr}
use Prim.Native.Nat.{ℕ, ◌+◌, ◌*◌, ◌^◌, ◌<◌, ◌≤◌}
use native.Mathlib.Numerals.{add-one}
use native.Mathlib.Omega.{arith}
use borrow.Author.Tests.{eqb-true, le-leb}
use lib.Dec.{eqb}
use lib.IntN.{ℤ, pos}
use lib.ListN.{length, get_or, set, take, drop, length-map}
use lib.Seq.{get_or-take, take-suc, take_all, drop-set-add, take-set-lt}
use Rattle.rules.specs.declared.Head.{Head}
use Rattle.rules.specs.declared.Entries.{Entries}
use Rattle.rules.specs.declared.Kind.{Kind}
use Rattle.rules.specs.declared.Kind.TheVariants.{Sparse}
use Rattle.rules.proofs.KindRead.{sparse_number}
use Rattle.rules.specs.Limits.{entry_limit, product_limit, component_limit}
use Rattle.rules.specs.Lists.{if, fit_to}
use Rattle.rules.specs.Buffers.{part, put}
use Rattle.rules.specs.RowsInOrder.{sorted, Each}
use Rattle.rules.specs.Layout.{Layout, kind_of}
use Rattle.rules.specs.Record.{layout_in}
use Rattle.rules.specs.Dependencies.{on_index}
use Rattle.rules.specs.Concatenate.{moved_by}
use Rattle.rules.proofs.Order.{ComparedNumbers, under, even, above, compare_numbers}
use Rattle.rules.proofs.Same.{true_not_false}
use Rattle.rules.proofs.Buffers.{length_part, part_put_all}
use Rattle.rules.proofs.Ranges.{map_at}
use Rattle.rules.proofs.Sorting.{sorted_length}
use Rattle.rules.proofs.Changed.{each_map}
use Rattle.rules.proofs.MovedBy.{moved_by_length, moved_by_at}
use Rattle.rules.proofs.Unchanged.{index_same}
use Rattle.cells.specs.View.{view, Low}
use Rattle.cells.proofs.View.{view_part, stored_number}
use Rattle.tables.specs.Rows.{row_at, rows_at, HasRows}
use Rattle.tables.specs.Tables.{table_at, room_end, Only, SortAsked, Sorted}
use Rattle.tables.proofs.Rows.{row_length, row_number, row_low, row_ends, row_of, rows_wide, rows_none, rows_more, length_rows, has_row}
use Rattle.tables.proofs.Only.{only_same, only_then, only_put, only_set, only_wider, view_outside, rows_outside}
use Rattle.tables.proofs.Tables.{table_rows, table_length}
use Rattle.tables.proofs.Made.{sorted_ready}
use Rattle.tables.proofs.Passing.{Passed, none_passed, one_more, one_fails, all_passed}
use Rattle.parts.specs.Parts.{window_size, spare, other_spare}
use Rattle.records.specs.Sound.{SoundRecord}
use Rattle.records.proofs.Layouts.{has_states, has_inputs, has_rows_there}
use Rattle.records.proofs.SoundRecords.{lies, layout_shown, layout_sound}
use Rattle.records.proofs.Shown.{width_shown}
use Rattle.lookups.proofs.Counting.{kind_read}
use Rattle.moving.proofs.Shortening.{map_alike}
use Rattle.entries.specs.declared.entries.Listed.{Listed}
use Rattle.entries.specs.declared.entries.Listed.TheVariants.{Rows, States, Inputs}
use Rattle.entries.specs.Listing.{fitted, listed, moved_list, OfWidth, axes_in, Moved}
use Rattle.entries.specs.Merging.{small_to, TableAsked, Tabled}
use Rattle.entries.specs.Standing.{Stands, StandsAs, PlaceAsked, Placed, RowsAsked, AllPlaced}
use Rattle.entries.proofs.Shifting.{moved_none, moved_more, view_moved}
use Rattle.entries.proofs.Sizes.{AxesFew, axes_few, rows_sparse, moved_on, axes_only, moved_low, record_fits}
use Rattle.entries.proofs.Putting.{small_is, small_at}

-- ---- where they stand: `standing_of`

-- dependencies of the asked rank are fitted as they stand
fitted_same : (r a n : ℕ) (s : List ℤ) → a + n * (r + 1) ≤ length s → fitted r (rows_at a (r + 1) n s) ≡ rows_at a (r + 1) n s
fitted_same r a n s h =
    map_alike (on_index (fit_to r 0)) (λ d. d) (rows_at a (r + 1) n s) (λ d m. index_same r d (rows_wide a (r + 1) n s h d m ∙ add-one r)) ∙ map-id (rows_at a (r + 1) n s)

-- dependencies stand so if they have the asked rank
deps_stand : (x : Listed) (r old : ℕ) {s : List ℤ} (deps : Entries) → HasRows deps.first (old + 1) deps.count s → deps.count ≤ entry_limit →
    listed x r (layout_in s) ≡ fitted r (rows_at deps.first (old + 1) deps.count s) → ((w : ℕ) → OfWidth x r w (layout_in s) → w ≡ r + 1) →
    {v : (Option Entries)} → v ≡ if (eqb old r) (Some deps) None → StandsAs x r s v
deps_stand x r old {s} deps has few are wide e = rw e (by (eqb old r) refl)
  where
    by : (t : Bool) → eqb old r ≡ t → StandsAs x r s (if t (Some deps) None)
    by true t =
        λ w f.
        let same : old ≡ r = eqb-true old r t in
        let there : HasRows deps.first (r + 1) deps.count s = rw same at has in
        let listed-as : listed x r (layout_in s) ≡ fitted r (rows_at deps.first (r + 1) deps.count s) = rw same at are in
        rw (wide w f) (record { has = there; few = few; are = sym (listed-as ∙ fitted_same r deps.first deps.count s there.room) })
    by false t = tt

module _ {x : Listed} (r : ℕ) {h : Head} {s : List ℤ} (q : SoundRecord h s) where
  -- the rows of a sparse block
  pub rows_stand : x ≡ Rows → {k : Kind} → k ≡ kind_of (get_or (view s) 0 0) → k ≡ Sparse → StandsAs x r s (Some h.rows)
  rows_stand e k z =
      rw e
      (λ w f.
      let sparse : (layout_in s).kind ≡ 2 = sparse_number (k ∙ ap kind_of (sym (kind_read q refl))) z (layout_sound q).form.kind_most in
      let wide : w ≡ h.width = rw (sparse, width_shown q) at f.1 in
      rw wide
      (record {
        has = has_rows_there q.readable;
        few = (lies q).rows_few;
        are = sym (rows_sparse (layout_in s) sparse ∙ ap (λ (l : Layout). l.rows) (layout_shown q));
      }))

  pub states_stand : x ≡ States → {v : (Option Entries)} → v ≡ if (eqb h.rank r) (Some h.states) None → StandsAs x r s v
  states_stand e f =
      rw e (deps_stand States r h.rank h.states (has_states q.readable) (lies q).states_few (ap (λ (l : Layout). fitted r l.states) (layout_shown q)) (λ w g. g.1) f)

  pub inputs_stand : x ≡ Inputs → {v : (Option Entries)} → v ≡ if (eqb h.rank r) (Some h.inputs) None → StandsAs x r s v
  inputs_stand e f =
      rw e (deps_stand Inputs r h.rank h.inputs (has_inputs q.readable) (lies q).inputs_few (ap (λ (l : Layout). fitted r l.inputs) (layout_shown q)) (λ w g. g.1) f)

pub ruleset standing_laws = (rows_stand, states_stand, inputs_stand)

-- ---- one of them moved: `move_entry`

-- a number that is stored in a part
part_set : (a n k : ℕ) (z : ℤ) (s : List ℤ) → k < n → part a n (set s (a + k) z) ≡ set (part a n s) k z
unfolding part
part_set a n k z s h = rw (drop-set-add a s k z, take-set-lt n (drop a s) k z h)

-- the first k of n numbers are sums, and small
pub record Placing (p : ℕ) (src : List ℤ) (start : List ℕ) (n w to k : ℕ) (s t : List ℤ) : Type 0 where
  pub asked : PlaceAsked p src start n w to s
  pub size : length start ≡ 4
  pub upto : k ≤ n
  pub sums : Moved k start (part p w src) (part to w t)
  pub small : (j : ℕ) → j < k → get_or start j 0 + get_or (view src) (p + j) 0 < product_limit
  pub only : Only to (to + w) s t

module _ {p : ℕ} {src : List ℤ} {start : List ℕ} {n w to : ℕ} {s : List ℤ} where
  module _ (a : PlaceAsked p src start n w to s) where
    row_long : length (part p w src) ≡ w
    row_long = length_part p w src a.row.room

    module _ {t : List ℤ} (is : t ≡ put to (part p w src) s) where
      copied_only : Only to (to + w) s t
      copied_only = rw is (rw row_long at (only_put to (part p w src) s (rw row_long a.room)))

      -- the row as it stands was copied
      pub place_start : length start ≡ 4 → Placing p src start n w to 0 t t
      place_start z =
          let there : part to w t ≡ part p w src = rw is (rw row_long at (part_put_all to (part p w src) s (omega (arith, a.room)))) in
          record {
            asked = record { row = a.row; start_low = a.start_low; narrow = a.narrow; upto = a.upto; room = rw copied_only.size a.room };
            size = z;
            upto = omega arith;
            sums = rw there moved_none;
            small = λ j h. absurd (omega arith);
            only = only_same to (to + w) t;
          }

      pub since_copied : {row : List ℕ} {u : List ℤ} {r : Bool} → Placed to w n row t u r → Placed to w n row s u r
      since_copied m = record { verdict = m.verdict; there = m.there; only = only_then copied_only m.only }

    -- number k of the row that is moved
    number_moved : (k : ℕ) → k < n → get_or (moved_by (take n start) (row_at p w src)) k 0 ≡ get_or start k 0 + get_or (view src) (p + k) 0
    number_moved k h =
        moved_by_at (take n start) (row_at p w src) k (rw (row_length p w src a.row.room) (omega (arith, a.upto)))
        ∙ rw (get_or-take n start k 0 h, row_number p w k src (omega (arith, a.upto)))

  module _ {k : ℕ} {t : List ℤ} (g : Placing p src start n w to k s t) where
    abbrev moved_row : List ℕ
    moved_row = moved_by (take n start) (row_at p w src)

    pub place_done : n ≤ k → Placed to w n moved_row s t true
    place_done h =
        let u = g.upto in
        let e : k ≡ n = omega arith in
        let m : Moved n start (part p w src) (part to w t) = rw e at g.sums in
        let room : to + w ≤ length t = rw g.only.size g.asked.room in
        let is : row_at to w t ≡ moved_row = rw (view_part to w t, view_part p w src) at (view_moved m (length_part to w t room ∙ sym (row_long g.asked))) in
        record {
          verdict = sym (small_is n moved_row (λ j o. rw (number_moved g.asked j o) (g.small j (omega arith))));
          there = λ _. is;
          only = g.only;
        }

    module _ (h : k < n) where
      pub number_inside : p + k < length src
      number_inside = omega (arith, g.asked.row.room, g.asked.upto)

      pub number_low : get_or (view src) (p + k) 0 < 2 ^ 31
      number_low = row_low p w k src g.asked.row (omega (arith, g.asked.upto))

      pub target_inside : to + k < length t
      target_inside = rw g.only.size (omega (arith, g.asked.room, g.asked.upto))

      module _ {y : ℕ} (f : y ≡ get_or (view src) (p + k) 0) where
        pub place_sum : get_or start k 0 + y < 2 ^ 32
        place_sum = omega (arith, g.asked.start_low k, number_low)

        -- it is not small
        pub place_stop : component_limit < get_or start k 0 + y → Placed to w n moved_row s t false
        place_stop l = record { verdict = by (small_to n moved_row) refl; there = λ e. absurd (true_not_false e refl); only = g.only }
          where
            by : (b : Bool) → small_to n moved_row ≡ b → false ≡ small_to n moved_row
            by false e = sym e
            by true e =
                let inside : k < length moved_row = rw (moved_by_length, row_length p w src g.asked.row.room) (omega (arith, g.asked.upto)) in
                absurd (omega (arith, small_at n moved_row e k h inside, number_moved g.asked k h))

        pub place_turn : get_or start k 0 + y ≤ component_limit → {u : List ℤ} → u ≡ set t (to + k) (pos (get_or start k 0 + y)) → Placing p src start n w to (k + 1) s u
        place_turn l {u} is = record {
          asked = g.asked;
          size = g.size;
          upto = omega arith;
          sums = rw stored (moved_more g.sums (rw (length_part to w t (rw g.only.size g.asked.room)) in_row));
          small = λ j o. by j o (compare_numbers j k);
          only = only_then g.only (rw is (only_wider (only_set (to + k) (pos total) t) to (to + w) (omega arith) (omega arith)));
        }
          where
            total : ℕ
            total = get_or start k 0 + y

            in_row : k < w
            in_row = omega (arith, g.asked.upto)

            read : get_or (view (part p w src)) k 0 ≡ y
            read = rw view_part (row_number p w k src in_row) ∙ sym f

            stored : part to w u ≡ set (part to w t) k (pos (get_or start k 0 + get_or (view (part p w src)) k 0))
            stored = rw (is, read) (part_set to w k (pos total) t in_row)

            by : (j : ℕ) → j < k + 1 → ComparedNumbers j k → get_or start j 0 + get_or (view src) (p + j) 0 < product_limit
            by j o (under i) = g.small j i
            by j o (even i) = rw (i, ← f) (omega arith)
            by j o (above i) = absurd (omega arith)

-- ---- all of them: `move_entries`

-- the rows that are moved
abbrev pub moved_rows : List ℕ → ℕ → ℕ → ℕ → ℕ → List ℤ → List (List ℕ)
moved_rows start n first w count src = map (moved_by (take n start)) (rows_at first w count src)

-- the first i of them are small, and are the first i rows of the table
pub record PlacingAll (first count : ℕ) (src : List ℤ) (start : List ℕ) (n w to i : ℕ) (s t : List ℤ) : Type 0 where
  pub asked : RowsAsked first count src start n w to s
  pub small : Passed (small_to n) count i (moved_rows start n first w count src)
  pub counted : get_or (view t) to 0 ≡ count
  pub rows : rows_at (to + 1) w i t ≡ take i (moved_rows start n first w count src)
  pub only : Only to (room_end to w) s t

module _ {first count : ℕ} {src : List ℤ} {start : List ℕ} {n w to : ℕ} {s : List ℤ} where
  module _ (a : RowsAsked first count src start n w to s) {t : List ℤ} (is : t ≡ set s to (pos count)) where
    counted_only : Only to (room_end to w) s t
    counted_only = rw is (only_wider (only_set to (pos count) s) to (room_end to w) (omega arith) (omega arith))

    -- the count was stored
    pub all_start : PlacingAll first count src start n w to 0 t t
    all_start = record {
      asked = record { rows = a.rows; few = a.few; start_low = a.start_low; narrow = a.narrow; upto = a.upto; room = rw counted_only.size a.room };
      small = none_passed (rw (length-map, length_rows) refl);
      counted = rw is (stored_number to count s (omega (arith, a.room)));
      rows = rows_none (to + 1) w t;
      only = only_same to (room_end to w) t;
    }

    pub since_counted : {rows : List (List ℕ)} {u : List ℤ} {r : Bool} → AllPlaced to w n rows t u r → AllPlaced to w n rows s u r
    since_counted m = record { verdict = m.verdict; table = m.table; only = only_then counted_only m.only }

  module _ {i : ℕ} {t : List ℤ} (g : PlacingAll first count src start n w to i s t) where
    pub all_done : count ≤ i → AllPlaced to w n (moved_rows start n first w count src) s t true
    all_done h =
        let u = g.small.upto in
        let same : i ≡ count = omega arith in
        record {
          verdict = all_passed g.small h;
          table = λ _.
              table_rows to w count t (sym g.counted) ∙ (rw same at g.rows) ∙ take_all count (moved_rows start n first w count src) (omega (arith, g.small.size));
          only = g.only;
        }

    module _ (h : i < count) where
      abbrev place : ℕ
      place = to + 1 + i * w

      row_fits : i * w + w ≤ 128 * w
      row_fits = row_ends w (omega (arith, g.asked.few))

      pub ask_place : PlaceAsked (first + i * w) src start n w (to + 1 + i * w) t
      ask_place = record {
        row = has_row first w count src g.asked.rows i h;
        start_low = g.asked.start_low;
        narrow = g.asked.narrow;
        upto = g.asked.upto;
        room = rw g.only.size (omega (arith, row_fits, g.asked.room));
      }

      -- row i of those that are moved
      row_is : get_or (moved_rows start n first w count src) i [] ≡ moved_by (take n start) (row_at (first + i * w) w src)
      row_is =
          map_at (moved_by (take n start)) (rows_at first w count src) i [] [] (rw length_rows h) ∙ ap (moved_by (take n start)) (row_of first w count src i h)

      module _ {u : List ℤ} {r : Bool} (m : Placed (to + 1 + i * w) w n (moved_by (take n start) (row_at (first + i * w) w src)) t u r) where
        told : r ≡ small_to n (get_or (moved_rows start n first w count src) i [])
        told = m.verdict ∙ ap (small_to n) (sym row_is)

        placed_only : Only to (room_end to w) s u
        placed_only = only_then g.only (only_wider m.only to (room_end to w) (omega arith) (omega (arith, row_fits)))

        pub all_stop : r ≡ false → AllPlaced to w n (moved_rows start n first w count src) s u false
        all_stop f = record { verdict = one_fails g.small [] h told f; table = λ z. absurd (true_not_false z refl); only = placed_only }

        pub all_turn : r ≡ true → PlacingAll first count src start n w to (i + 1) s u
        all_turn f = record {
          asked = g.asked;
          small = one_more g.small [] h told f;
          counted = view_outside m.only to (inl (omega arith)) ∙ g.counted;
          rows =
              rows_more (to + 1) w i u
              ∙ rw (rows_outside m.only (to + 1) w i (inl (omega arith)), g.rows, m.there f, ← row_is)
              (sym (rw (add-one i) (take-suc (moved_rows start n first w count src) i [] (omega (arith, g.small.size)))));
          only = placed_only;
        }

-- ---- a list of a block: `list_block`

module _ {x : Listed} {h : Head} {src : List ℤ} {start : List ℕ} {r w : ℕ} {s : List ℤ} (a : TableAsked x h src start r w other_spare s) where
  abbrev moved_all : List (List ℕ)
  moved_all = moved_list x r (take r start) (layout_in src)

  axes : AxesFew (axes_in x r w) r w
  axes = axes_few x (layout_in src) a.list.fits a.list.few

  -- entry by entry
  pub ask_made : TableAsked x h src start r w spare s
  ask_made = record { list = a.list; start_low = a.start_low; room = omega (arith, a.room) }

  pub made_listed : {t : List ℤ} {v : Bool} → Tabled spare w (axes_in x r w) (room_end spare w) moved_all s t v → Tabled spare w (axes_in x r w) window_size moved_all s t v
  made_listed p = record { verdict = p.verdict; table = p.table; ready = p.ready; only = only_wider p.only spare window_size (omega arith) (omega (arith, axes.narrow)) }

  -- in one walk
  module _ {v : (Option Entries)} (told : StandsAs x r src v) {e : Entries} (is : v ≡ Some e) where
    there : Stands x r w src e
    there = (rw is at told) w a.list.fits

    rows_are : moved_rows start (axes_in x r w) e.first w e.count src ≡ moved_all
    rows_are =
        rw there.are
        (map_alike (moved_on x r w start) (moved_by (take r start)) (listed x r (layout_in src))
        (λ d m. axes_only x (layout_in src) a.list.fits a.list.few start a.start_low (record_fits a.list d m)))

    rows_low : Each Low moved_all
    rows_low =
        rw (← rows_are, there.are)
        (each_map Low (moved_on x r w start) (λ d. moved_low x (layout_in src) a.list.fits a.list.few start a.start_low) (record_fits a.list))

    module _ {n : ℕ} (n-is : n ≡ axes_in x r w) where
      pub ask_rows : RowsAsked e.first e.count src start n w other_spare s
      ask_rows = record {
        rows = there.has;
        few = there.few;
        start_low = a.start_low;
        narrow = rw n-is (omega (arith, axes.within, a.list.few));
        upto = rw n-is axes.upto;
        room = a.room;
      }

      module _ {u : List ℤ} {b : Bool} (placed : AllPlaced other_spare w n (moved_rows start n e.first w e.count src) s u b) where
        m : AllPlaced other_spare w (axes_in x r w) moved_all s u b
        m = rw (n-is, rows_are) at placed

        walked_only : Only spare window_size s u
        walked_only = only_wider m.only spare window_size (omega arith) (omega (arith, axes.narrow))

        pub walk_over : b ≡ false → Tabled spare w (axes_in x r w) window_size moved_all s u false
        walk_over f = record {
          verdict = rw (← m.verdict, f);
          table = λ z. absurd (true_not_false z refl);
          ready = λ z. absurd (true_not_false z refl);
          only = walked_only;
        }

        module _ (f : b ≡ true) where
          table_is : table_at other_spare w u ≡ moved_all
          table_is = m.table f

          few_moved : length moved_all ≤ 128
          few_moved = rw (← rows_are, length-map, length_rows) there.few

          pub ask_sort : SortAsked other_spare spare w u
          ask_sort = record {
            narrow = axes.narrow;
            source = record { room = rw m.only.size a.room; few = rw (← table_length other_spare w u, table_is) few_moved; low = rw table_is rows_low };
            target = rw m.only.size (omega (arith, a.room));
            apart = inr (omega (arith, axes.narrow));
          }

          pub walk_sorted : {t : List ℤ} → Sorted other_spare spare w u t → Tabled spare w (axes_in x r w) window_size moved_all s t true
          walk_sorted {t} p =
              let is_sorted : table_at spare w t ≡ sorted moved_all = p.table ∙ ap sorted table_is in
              record {
                verdict = rw (← m.verdict, f) (sym (le-leb (length (sorted moved_all)) 128 (omega (arith, sorted_length moved_all, few_moved))));
                table = λ _. is_sorted;
                ready = λ _. sorted_ready ask_sort p;
                only = only_then walked_only (only_wider p.only spare window_size (omega arith) (omega (arith, axes.narrow)));
              }
