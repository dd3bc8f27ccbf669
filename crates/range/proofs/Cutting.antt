-- `cut_deps`: the entries that lie in the range, cut, are the table as they come. Assumes nothing.
use mathlib.Core.Path.{◌≡◌, refl, sym, ap, ◌∙◌}
use mathlib.Core.Bool.{Bool, true, false, not, ◌&&◌}
use mathlib.Core.List.{List, [], ◌∷◌, ◌++◌, map, append-nil}
use Prim.Native.Nat.{ℕ, ◌+◌, ◌*◌, ◌<◌, ◌≤◌}
use native.Mathlib.Numerals.{add-one}
use native.Mathlib.Omega.{arith}
use borrow.Author.Tests.{not-true, not-false, leb-true}
use lib.Dec.{leb, ltb}
use lib.IntN.{ℤ, pos}
use lib.ListN.{length, get_or, set, take, length-append, length-map, drop_of_length-le}
use lib.Seq.{take-suc, take_all, length-take-le}
use Rattle.rules.specs.declared.Entries.{Entries}
use Rattle.rules.specs.Lists.{put_if, keep, all_below}
use Rattle.rules.specs.RowsInOrder.{increasing, Each}
use Rattle.rules.specs.Dependencies.{index_of}
use Rattle.rules.proofs.Same.{both_true}
use Rattle.rules.proofs.Keeping.{keep_only, keep_length}
use Rattle.rules.proofs.Changed.{each_map}
use Rattle.cells.specs.View.{view, Low}
use Rattle.tables.specs.Rows.{row_at, rows_at, HasRow, HasRows}
use Rattle.tables.specs.Tables.{table_at, room_end, Only, CanInsert, Inserted}
use Rattle.tables.proofs.Rows.{row_number, length_rows, row_ends, row_of, has_row}
use Rattle.tables.proofs.Only.{only_same, only_then, only_set, only_wider}
use Rattle.tables.proofs.Tables.{table_rows, table_length}
use Rattle.tables.proofs.Made.{emptied}
use Rattle.range.specs.declared.Cut.{Cut}
use Rattle.range.specs.Cutting.{in_cut, cut_dep, cut_by, EntryAsked, RowAsked, CutAsked, DepsCut}
use Rattle.range.proofs.Entries.{index_there, cut_low}

-- ---- lists of entries, cut

module _ (cut : Cut) (shape : List ℕ) where
  -- those of two lists
  cut_append : (a b : List (List ℕ)) → cut_by cut shape (a ++ b) ≡ cut_by cut shape a ++ cut_by cut shape b
  unfolding cut_by keep
  cut_append [] b = refl
  cut_append (x ∷ a) b = go (cut_append a b) (in_cut cut shape x)
    where
      go : cut_by cut shape (a ++ b) ≡ cut_by cut shape a ++ cut_by cut shape b → (t : Bool) →
          map (cut_dep cut) (put_if t x (keep (in_cut cut shape) (a ++ b))) ≡ map (cut_dep cut) (put_if t x (keep (in_cut cut shape) a)) ++ cut_by cut shape b
      go rest true = ap (λ (l : List (List ℕ)). cut_dep cut x ∷ l) rest
      go rest false = rest

  -- one that lies in the range, and one that does not
  one_kept : (x : List ℕ) → in_cut cut shape x ≡ true → cut_by cut shape (x ∷ []) ≡ cut_dep cut x ∷ []
  unfolding cut_by keep
  one_kept x e = rw e

  one_left : (x : List ℕ) → in_cut cut shape x ≡ false → cut_by cut shape (x ∷ []) ≡ []
  unfolding cut_by keep
  one_left x e = rw e

  -- one that does is not below the start
  kept_least : (x : List ℕ) → in_cut cut shape x ≡ true → cut.start ≤ get_or (index_of x) cut.axis 0
  kept_least x e =
      let shaped = all_below (index_of x) shape in
      let least = leb cut.start (get_or (index_of x) cut.axis 0) in
      leb-true cut.start (get_or (index_of x) cut.axis 0)
      (both_true shaped least (both_true (shaped && least) (ltb (get_or (index_of x) cut.axis 0) cut.end) e).0).1

  none_cut : cut_by cut shape [] ≡ []
  unfolding cut_by keep
  none_cut = refl

  -- they are not more, and none of their numbers is negative
  cut_most : (deps : List (List ℕ)) → length (cut_by cut shape deps) ≤ length deps
  unfolding cut_by
  cut_most deps = rw length-map (keep_length (in_cut cut shape) deps)

  all_low : {deps : List (List ℕ)} → Each Low deps → Each Low (cut_by cut shape deps)
  unfolding cut_by
  all_low {deps} f = each_map Low (cut_dep cut) (cut_low cut) (λ d m. f d (keep_only (in_cut cut shape) deps d m))

-- ---- so far

-- the entries of a record
abbrev entries_at : ℕ → Entries → List ℤ → List (List ℕ)
entries_at r deps s = rows_at deps.first (r + 1) deps.count s

-- what is left of the first i entries is the table, of n rows
pub record Cutting (r : ℕ) (deps : Entries) (cut : Cut) (s : List ℤ) (at : ℕ) (t u : List ℤ) (n i : ℕ) : Type 0 where
  pub asked : CutAsked r deps cut s at t
  pub upto : i ≤ deps.count
  pub count : n ≡ get_or (view u) at 0
  pub only : Only at (room_end at (cut.rank + 1)) t u
  pub table : table_at at (cut.rank + 1) u ≡ cut_by cut (row_at 3 r s) (take i (entries_at r deps s))

-- ---- none yet

module _ {r : ℕ} {deps : Entries} {cut : Cut} {s : List ℤ} {at : ℕ} {t u : List ℤ} (q : CutAsked r deps cut s at t) (stored : u ≡ set t at (pos 0)) where
  begun : Only at (room_end at (cut.rank + 1)) t u
  begun = rw stored (only_wider (only_set at (pos 0) t) at (room_end at (cut.rank + 1)) (omega arith) (omega arith))

  emptied_there : table_at at (cut.rank + 1) u ≡ []
  emptied_there = rw stored (emptied at (cut.rank + 1) t q.room)

  pub start_cutting : Cutting r deps cut s at u u 0 0
  start_cutting = record {
    asked = record { has = q.has; few = q.few; shape_lies_in = q.shape_lies_in; rank_few = q.rank_few; shorter = q.shorter; axis_in = q.axis_in; room = rw begun.size q.room };
    upto = omega arith;
    count = ap length (sym emptied_there) ∙ table_length at (cut.rank + 1) u;
    only = only_same at (room_end at (cut.rank + 1)) u;
    table = emptied_there ∙ sym (none_cut cut (row_at 3 r s));
  }

  -- all of them
  module _ {n i : ℕ} {v : List ℤ} (g : Cutting r deps cut s at u v n i) (h : deps.count ≤ i) where
    whole : take i (entries_at r deps s) ≡ entries_at r deps s
    whole = take_all i (entries_at r deps s) (omega (arith, length_rows deps.first (r + 1) deps.count s))

    table_is : table_at at (cut.rank + 1) v ≡ cut_by cut (row_at 3 r s) (entries_at r deps s)
    table_is = g.table ∙ ap (cut_by cut (row_at 3 r s)) whole

    few_rows : length (cut_by cut (row_at 3 r s) (entries_at r deps s)) ≤ 128
    few_rows = omega (arith, cut_most cut (row_at 3 r s) (entries_at r deps s), length_rows deps.first (r + 1) deps.count s, q.few)

    rows_are : rows_at (at + 1) (cut.rank + 1) n v ≡ cut_by cut (row_at 3 r s) (entries_at r deps s)
    rows_are = sym (table_rows at (cut.rank + 1) n v g.count) ∙ table_is

    rows_few : n ≤ 128
    rows_few = rw (g.count, ← table_length at (cut.rank + 1) v, table_is) few_rows

    pub rows_made : HasRows (at + 1) (cut.rank + 1) n v
    rows_made = record {
      room = omega (arith, q.room, begun.size, g.only.size, row_ends {i = n} {n = 129} (cut.rank + 1) (omega (arith, rows_few)));
      low = rw rows_are (all_low cut (row_at 3 r s) q.has.low);
    }

    pub all_cut : {b : Bool} → b ≡ increasing (rows_at (at + 1) (cut.rank + 1) n v) → DepsCut r deps cut s at t v b
    all_cut e = record {
      made = record { table = record { rows_are = table_is; few = few_rows }; only = only_then begun g.only };
      told = e ∙ ap increasing rows_are;
    }

-- ---- one more

module _ {r : ℕ} {deps : Entries} {cut : Cut} {s : List ℤ} {at : ℕ} {t u : List ℤ} {n i : ℕ} (g : Cutting r deps cut s at t u n i) (h : i < deps.count) where
  abbrev place : ℕ
  place = deps.first + i * (r + 1)

  abbrev entry : List ℕ
  entry = row_at (deps.first + i * (r + 1)) (r + 1) s

  has_entry : HasRow place (r + 1) s
  has_entry = has_row deps.first (r + 1) deps.count s g.asked.has i h

  -- the entry lies in the slice
  pub entry_ends : deps.first + i * (r + 1) + (r + 1) ≤ length s
  entry_ends = has_entry.room

  pub ask_entry : EntryAsked (deps.first + i * (r + 1)) r cut s
  ask_entry = record { entry = has_entry; shape_lies_in = g.asked.shape_lies_in; axis_in = g.asked.axis_in }

  one_more : take (i + 1) (entries_at r deps s) ≡ take i (entries_at r deps s) ++ (entry ∷ [])
  one_more =
      rw (add-one i, ← row_of deps.first (r + 1) deps.count s i h)
      (take-suc (entries_at r deps s) i [] (omega (arith, length_rows deps.first (r + 1) deps.count s)))

  more_cut : cut_by cut (row_at 3 r s) (take (i + 1) (entries_at r deps s)) ≡ cut_by cut (row_at 3 r s) (take i (entries_at r deps s)) ++ cut_by cut (row_at 3 r s) (entry ∷ [])
  more_cut = rw one_more (cut_append cut (row_at 3 r s) (take i (entries_at r deps s)) (entry ∷ []))

  rows_so_far : length (table_at at (cut.rank + 1) u) ≡ n
  rows_so_far = table_length at (cut.rank + 1) u ∙ sym g.count

  module _ {b : Bool} (told : b ≡ in_cut cut (row_at 3 r s) entry) where
    -- it does not lie in the range
    pub turn_left : not b ≡ true → Cutting r deps cut s at t u n (i + 1)
    turn_left e = record {
      asked = g.asked;
      upto = omega arith;
      count = g.count;
      only = g.only;
      table =
          g.table
          ∙ sym (more_cut ∙ ap (λ (l : List (List ℕ)). cut_by cut (row_at 3 r s) (take i (entries_at r deps s)) ++ l) (one_left cut (row_at 3 r s) entry (sym told ∙ not-true b e)) ∙ append-nil (cut_by cut (row_at 3 r s) (take i (entries_at r deps s))));
    }

    -- it does
    module _ (e : not b ≡ false) where
      kept : in_cut cut (row_at 3 r s) entry ≡ true
      kept = sym told ∙ not-false b e

      pub ask_row_lem : RowAsked (deps.first + i * (r + 1)) r cut s
      ask_row_lem = record {
        entry = has_entry;
        rank_few = g.asked.rank_few;
        shorter = g.asked.shorter;
        axis_in = g.asked.axis_in;
        least =
            rw (index_there place r s has_entry.room, row_number place r cut.axis s g.asked.axis_in) at
            (kept_least cut (row_at 3 r s) entry kept);
      }

      few_so_far : n ≤ i
      few_so_far =
          rw (← rows_so_far, g.table)
          (omega (arith, cut_most cut (row_at 3 r s) (take i (entries_at r deps s)), length-take-le i (entries_at r deps s) (omega (arith, length_rows deps.first (r + 1) deps.count s))))

      pub can_add : CanInsert at (cut.rank + 1) n n u
      can_add = record {
        room = rw g.only.size g.asked.room;
        count = g.count;
        few = omega (arith, few_so_far, g.asked.few);
        upto = omega arith;
      }

      pub turn_cut : (row : List ℤ) {v : List ℤ} → row_at 0 (cut.rank + 1) row ≡ cut_dep cut entry → Inserted at (cut.rank + 1) n (row_at 0 (cut.rank + 1) row) u v →
          Cutting r deps cut s at t v (n + 1) (i + 1)
      turn_cut row {v} f p = record {
        asked = g.asked;
        upto = omega arith;
        count = counted ∙ table_length at (cut.rank + 1) v;
        only = only_then g.only p.only;
        table = added ∙ rw (g.table, f) (sym (more_cut ∙ ap (λ (l : List (List ℕ)). cut_by cut (row_at 3 r s) (take i (entries_at r deps s)) ++ l) (one_kept cut (row_at 3 r s) entry kept)));
      }
        where
          old : List (List ℕ)
          old = table_at at (cut.rank + 1) u

          added : table_at at (cut.rank + 1) v ≡ old ++ (row_at 0 (cut.rank + 1) row ∷ [])
          added = p.table ∙ rw (take_all n old (omega (arith, rows_so_far)), drop_of_length-le old {i = n} (omega (arith, rows_so_far)))

          counted : n + 1 ≡ length (table_at at (cut.rank + 1) v)
          counted = rw (added, length-append) (omega (arith, rows_so_far))

pub ruleset cutting = (start_cutting, rows_made, all_cut, entry_ends, ask_entry, turn_left, ask_row_lem, can_add, turn_cut)
